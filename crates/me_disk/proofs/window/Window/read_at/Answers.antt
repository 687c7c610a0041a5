use Rattle.std.proofs.Common.{◌≡◌, ◌∙◌, ◌+◌, ◌-◌, ℕ, length, take, drop, ap, arith}
use Rattle.me_disk.proofs.Holds.{holds_on}
use Rattle.me_disk.proofs.Windows.{seen}
use Rattle.me_disk.proofs.window.Window.read_at.Goals as goal

pub returns-clause-bytes : goal.returns-clause-bytes
returns-clause-bytes g c b held =
    let w = c.cover.new.self in
    let here = holds_on (g.D.Depot.disk c.args.depot.now) (g.D.Depot.disk c.cover.new.depot) b c.cover.ensures.reads held in
    let n = length c.args.into.now in
    let count : (c.args.at - w.from + n) - (c.args.at - w.from) ≡ n = omega arith in
    let covered = c.in_ok-cover.ensures.covered in
    c.copy_from_slice.ensures.after ∙ ap (λ (k : ℕ). take k (drop (c.args.at - w.from) w.bytes)) count ∙ seen b w.bytes w.from w.len c.args.at n covered.0 covered.1 (c.cover.ensures.window.bytes b here)

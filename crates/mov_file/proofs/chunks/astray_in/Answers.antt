use Rattle.std.proofs.Common.{arith, refl, sym, subst, ◌≡◌, ◌∙◌, ◌+◌, ◌-◌, ℕ, List, drop, Option}
use Rattle.std.specs.Prelude.{IfOk}
use Rattle.me_disk.proofs.Holds.{holds_on}
use Rattle.mov_file.specs.Chunks.{first_astray, places_of}
use Rattle.mov_file.proofs.Astray.{rows_fit, rows_told}
use Rattle.mov_file.proofs.chunks.astray_in.Goals as goal

pub returns-clause-astray : goal.returns-clause-astray
returns-clause-astray g c = λ b holds has.
    let held = holds_on _ _ b c.count_in.ensures.reads holds in
    let inside = c.requires.inside b holds in
    let count = c.in_ok-count.ensures.number b holds in
    subst (λ (x : List ℕ). IfOk c.astray_among.result (λ found. found ≡ first_astray c.args.mdats.now 1 x)) (rows_told c.args.wide b c.args.body.at c.args.body.len c.in_ok-count.count inside count (omega arith) has)
    (c.astray_among.ensures.astray b held (rows_fit c.args.wide b c.args.body.at c.args.body.len c.in_ok-count.count inside count (omega arith) has))

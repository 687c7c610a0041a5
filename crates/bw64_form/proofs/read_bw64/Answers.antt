use Rattle.std.proofs.Common.{rules, ◌≡◌, ◌∙◌, ℕ, true, List, take, drop, sym, ap}
use Rattle.std.specs.Prelude.{codes}
use Rattle.std.specs.Str.{bytes_eq}
use Rattle.me_disk.proofs.Holds.{holds_on}
use Rattle.bw64_form.specs.Bw64.{is_bw64}
use Rattle.bw64_form.proofs.Twins.{kind_read, twin_read}
use Rattle.bw64_form.proofs.read_bw64.Goals as goal

pub returns-clause-bw64 : goal.returns-clause-bw64
returns-clause-bw64 g c = λ b holds.
    let first = holds_on (g.D.Depot.disk c.args.depot.now) (g.D.Depot.disk c.len.new.self) b c.len.ensures.reads holds in
    let then = holds_on (g.D.Depot.disk c.len.new.self) (g.D.Depot.disk c.read_at.new.self) b c.read_at.ensures.reads first in
    let id : c.read_at.new.into ≡ take 4 b = c.in-Ok-read_at.ensures.bytes first.tells ∙ ap (λ (x : List ℕ). take 4 (drop 0 x)) first.bytes in
    let is : is_bw64 b ≡ true = sym (ap (λ (x : List ℕ). bytes_eq x (codes "BW64")) id) ∙ sym c.is.ensures.is ∙ search rules in
    kind_read b c.read_wave.result is (c.read_wave.ensures.wave b then)

pub returns-clause-twin : goal.returns-clause-twin
returns-clause-twin g c = λ b holds.
    let first = holds_on (g.D.Depot.disk c.args.depot.now) (g.D.Depot.disk c.len.new.self) b c.len.ensures.reads holds in
    let then = holds_on (g.D.Depot.disk c.len.new.self) (g.D.Depot.disk c.read_at.new.self) b c.read_at.ensures.reads first in
    let id : c.read_at.new.into ≡ take 4 b = c.in-Ok-read_at.ensures.bytes first.tells ∙ ap (λ (x : List ℕ). take 4 (drop 0 x)) first.bytes in
    let is : is_bw64 b ≡ true = sym (ap (λ (x : List ℕ). bytes_eq x (codes "BW64")) id) ∙ sym c.is.ensures.is ∙ search rules in
    twin_read b c.read_wave.result is (c.read_wave.ensures.wave b then)

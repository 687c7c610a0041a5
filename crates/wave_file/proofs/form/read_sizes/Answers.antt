use Rattle.std.proofs.Common.{rules, arith, ap, sym, subst, ◌∙◌, ◌≡◌, ℕ, List, drop, take, true}
use Rattle.std.specs.Prelude.{codes}
use Rattle.std.specs.Str.{bytes_eq}
use Rattle.container_model.specs.Written.{slice}
use Rattle.me_disk.proofs.Holds.{holds_on}
use Rattle.rf64_ds64.specs.Ds64.{is_short, IsDs64}
use Rattle.container_model.specs.Ds64.{le32}
use Rattle.wave_file.proofs.Fronts.{short_body, sizes_read}
use Rattle.wave_file.proofs.form.read_sizes.Goals as goal

pub returns-in-Err-Short-clause-sizes : goal.returns-in-Err-Short-clause-sizes
returns-in-Err-Short-clause-sizes g c = λ b holds.
    let long = c.requires.whole b holds in
    let is : bytes_eq (take 4 (drop 12 b)) (codes "ds64") ≡ true = search rules in
    let e : c.from-size.result ≡ le32 (drop 16 b) = search rules in
    let held = holds_on (g.D.Depot.disk c.args.depot.now) (g.D.Depot.disk c.read_at.new.self) b c.read_at.ensures.reads holds in
    let same : c.as_slice.result.now ≡ slice b 20 c.from-size.result = c.as_slice.ensures ∙ c.in-Ok-read_range.ensures.bytes b held in
    short_body b c.from-size.result (omega (arith, long, c.if-len-lt20.false)) is e c.if-size-gt-MOST_BYTES.false (omega (arith, long, c.if-size-len.false, c.if-len-lt20.false))
    (ap is_short (sym same) ∙ (rw c.in-Err-Short.field-0-is at c.in-Err-Short.ensures).0)

pub returns-clause-sizes : goal.returns-clause-sizes
returns-clause-sizes g c = λ b holds.
    let long = c.requires.whole b holds in
    let is : bytes_eq (take 4 (drop 12 b)) (codes "ds64") ≡ true = search rules in
    let e : c.from-size.result ≡ le32 (drop 16 b) = search rules in
    let held = holds_on (g.D.Depot.disk c.args.depot.now) (g.D.Depot.disk c.read_at.new.self) b c.read_at.ensures.reads holds in
    let same : c.as_slice.result.now ≡ slice b 20 c.from-size.result = c.as_slice.ensures ∙ c.in-Ok-read_range.ensures.bytes b held in
    sizes_read b c.from-size.result c.in-Ok-read_ds64.ds (omega (arith, long, c.if-len-lt20.false)) is e c.if-size-gt-MOST_BYTES.false (omega (arith, long, c.if-size-len.false, c.if-len-lt20.false))
    (ap is_short (sym same) ∙ c.in-Ok-read_ds64.ensures.0) (subst (λ (x : List ℕ). IsDs64 x c.in-Ok-read_ds64.ds) same c.in-Ok-read_ds64.ensures.1)

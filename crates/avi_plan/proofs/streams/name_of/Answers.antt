use Rattle.std.proofs.Common.{◌≡◌, ◌∙◌, ◌+◌, ◌-◌, ◌<◌, ℕ, false, drop, length, sym, ap, subst, arith}
use Rattle.std.proofs.lemmas.Bool.{eq-eqb}
use Rattle.std.proofs.lemmas.List.{get_or_default}
use Rattle.avi_model.specs.Named.{is_named}
use Rattle.avi_plan.specs.Streams.{told}
use Rattle.avi_plan.specs.declared.streams.StreamName.{StreamName}
use Rattle.avi_plan.proofs.Lastly.{last_named}
use Rattle.avi_plan.proofs.streams.name_of.Goals as goal

pub returns-then-from-stream : goal.returns-then-from-stream
returns-then-from-stream c =
    let names = c.args.names.now in
    let i = c.names.i - 1 in
    let x = c.index-names-i-then-from-stream.result in
    let y = c.index-names-i.result in
    let inside : i < length names = omega (arith, c.names.invariant.inside, c.names-test.true) in
    let next : i + 1 ≡ c.names.i = omega (arith, c.names-test.true) in
    let same : x.stream ≡ c.args.stream =
    ap (λ (z : StreamName). z.stream) (c.index-names-i-then-from-stream.is ∙ get_or_default names i x y inside) ∙ sym c.from.ensures ∙ c.if-from-stream.true in
    last_named names i c.args.stream x inside c.index-names-i-then-from-stream.is (eq-eqb x.stream c.args.stream same) (subst (λ (k : ℕ). is_named (told (drop k names)) c.args.stream ≡ false) (sym next) c.names.invariant.none)

use Rattle.std.proofs.Common.{refl, ◌≡◌, ◌∙◌, sym, ap, arith, suc, ◌+◌, false}
use Rattle.part_tree.specs.declared.why.Why.TheVariants.{UnknownKind}
use Rattle.std.proofs.lemmas.List.{drop_all}
use Rattle.container_model.specs.Tests.{first}
use Rattle.mov_file.proofs.Firsts.{first_at}
use Rattle.mov_file.proofs.refusals.first_of.Goals as goal

pub returns-then-holds : goal.returns-then-holds
returns-then-holds c =
    let step = first_at c.args.tests.now c.loop-holds.holds-index (false, UnknownKind) (omega arith) in
    sym (sym c.loop-holds.invariant ∙ step ∙ rw c.if-holds.true refl)

pub loop-holds-preserved : goal.loop-holds-preserved
loop-holds-preserved c =
    let step = first_at c.args.tests.now c.loop-holds.holds-index (false, UnknownKind) (omega arith) in
    let next : suc c.loop-holds.holds-index ≡ c.loop-holds.holds-index + 1 = omega arith in
    sym (sym c.loop-holds.invariant ∙ step ∙ rw (c.if-holds.false, next) refl)

pub returns : goal.returns
returns c = sym (sym c.loop-holds.invariant ∙ ap first (drop_all c.loop-holds.holds-index c.args.tests.now (omega arith)))

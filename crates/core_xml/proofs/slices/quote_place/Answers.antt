use Rattle.std.proofs.Common.{◌∙◌, ◌==◌, arith, eq-eqb}
use Rattle.part_tree.proofs.Words.{first_is, none_is}
use Rattle.core_xml.proofs.slices.quote_place.Goals as goal

pub returns-then-x-eq34-clause-place : goal.returns-then-x-eq34-clause-place
returns-then-x-eq34-clause-place c =
    c.loop-x.invariant.count ∙ first_is (λ x. x == 34) c.args.text.now c.loop-x.x-index 0 c.loop-x-test.true c.loop-x.invariant.before (eq-eqb _ 34 c.if-x-eq34.true)

pub returns-clause-place : goal.returns-clause-place
returns-clause-place c = c.loop-x.invariant.count ∙ none_is (λ x. x == 34) c.args.text.now c.loop-x.x-index 0 (omega arith) c.loop-x.invariant.before

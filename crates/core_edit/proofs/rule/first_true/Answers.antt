use Rattle.std.proofs.Common.{◌∙◌, arith, ap, Some, false}
use Rattle.bext_fields.proofs.Found.{found, not_found}
use Rattle.core_edit.proofs.rule.first_true.Goals as goal

pub returns-then-test-clause-place : goal.returns-then-test-clause-place
returns-then-test-clause-place c =
    ap Some c.loop-test.invariant.count ∙ found (λ t. t) c.args.tests.now c.loop-test.test-index false c.loop-test-test.true c.loop-test.invariant.before c.if-test.true

pub returns-clause-place : goal.returns-clause-place
returns-clause-place c = not_found (λ t. t) c.args.tests.now c.loop-test.test-index false (omega arith) c.loop-test.invariant.before

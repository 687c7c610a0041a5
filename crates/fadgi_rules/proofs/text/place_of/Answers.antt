use Rattle.std.proofs.Common.{◌∙◌, ◌==◌, arith, eq-eqb}
use Rattle.part_tree.proofs.Words.{first_is, none_is}
use Rattle.fadgi_rules.proofs.text.place_of.Goals as goal

pub returns-then-x-byte-clause-place : goal.returns-then-x-byte-clause-place
returns-then-x-byte-clause-place c =
    c.loop-x.invariant.count ∙ first_is (λ x. x == c.args.byte) c.args.text.now c.loop-x.x-index 0 c.loop-x-test.true c.loop-x.invariant.before (eq-eqb _ c.args.byte c.if-x-byte.true)

pub returns-clause-place : goal.returns-clause-place
returns-clause-place c = c.loop-x.invariant.count ∙ none_is (λ x. x == c.args.byte) c.args.text.now c.loop-x.x-index 0 (omega arith) c.loop-x.invariant.before

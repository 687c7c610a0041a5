use Rattle.std.proofs.Common.{sym, ◌∙◌, arith}
use Rattle.part_tree.proofs.Words.{first_is, none_is}
use Rattle.part_tree.proofs.field.position_of.Goals as goal

pub returns-then-is-clause-place : goal.returns-then-is-clause-place
returns-then-is-clause-place c =
    let so_far = c.loop-other.invariant in
    so_far.count ∙ first_is _ c.args.ids.now c.loop-other.other-index _ c.loop-other-test.true so_far.before (sym c.is.ensures.is ∙ c.if-is.true)

pub returns-clause-place : goal.returns-clause-place
returns-clause-place c =
    let so_far = c.loop-other.invariant in
    so_far.count ∙ none_is _ c.args.ids.now c.loop-other.other-index c.args.id.now (omega arith) so_far.before

use Rattle.std.proofs.Common.{sym, ◌∙◌, ap, arith}
use Rattle.part_tree.proofs.Words.{first_is, none_is}
use Rattle.mov_plan.proofs.Changed.{named, no_item, none_more}
use Rattle.mov_plan.proofs.user.first_named.Goals as goal

pub returns-then-is_named-clause-place : goal.returns-then-is_named-clause-place
returns-then-is_named-clause-place c =
    let so_far = c.loop-item.invariant in
    so_far.count ∙ first_is (named c.args.kind.now.0) c.args.items.now c.loop-item.item-index c.item-item.result c.loop-item-test.true so_far.before
    (ap (named c.args.kind.now.0) (sym c.item-item.is) ∙ (sym c.is_named.ensures ∙ c.if-is_named.true))

pub returns-clause-place : goal.returns-clause-place
returns-clause-place c =
    let so_far = c.loop-item.invariant in
    so_far.count ∙ none_is (named c.args.kind.now.0) c.args.items.now c.loop-item.item-index no_item (omega arith) so_far.before

pub loop-item-preserved : goal.loop-item-preserved
loop-item-preserved c = record {
  count = omega (arith, c.loop-item.invariant.count);
  before = none_more c.args.kind.now.0 c.args.items.now c.loop-item.item-index c.item-item.result c.loop-item.invariant.before c.loop-item-test.true c.item-item.is (sym c.is_named.ensures ∙ c.if-is_named.false);
}

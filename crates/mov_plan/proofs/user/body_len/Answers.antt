use Rattle.std.proofs.Common.{◌+◌, ◌-◌, ◌^◌, ◌∙◌, ap, min, ℕ}
use Rattle.mov_plan.proofs.Items.{len_end, len_more}
use Rattle.mov_plan.proofs.user.body_len.Goals as goal

pub items-preserved : goal.items-preserved
items-preserved c =
    len_more c.args.items.now c.items.item-index c.item-item.result c.items.len c.saturating_add-len.result _ (2 ^ 64 - 1) c.item-item.is c.items-test.true
    (c.saturating_add-len.ensures ∙ ap (λ (n : ℕ). min (c.items.len + n) (2 ^ 64 - 1)) c.item_len.ensures) c.items.invariant

pub returns : goal.returns
returns c = len_end c.args.items.now c.items.item-index c.items.len c.args.rest c.saturating_add.result (2 ^ 64 - 1) c.items-test.false c.saturating_add.ensures c.items.invariant

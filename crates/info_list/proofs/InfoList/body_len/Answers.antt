use Rattle.std.proofs.Common.{◌≡◌, ◌+◌, ◌-◌, ◌^◌, ◌∙◌, ap, length, min, ℕ, List}
use Rattle.info_list.specs.Info.{item_bytes}
use Rattle.info_list.proofs.Items.{len_more, len_end}
use Rattle.info_list.proofs.InfoList.body_len.Goals as goal

pub loop-item-preserved : goal.loop-item-preserved
loop-item-preserved c =
    let step : c.saturating_add-len.result ≡ min (c.loop-item.len + length (item_bytes c.item-item.result)) (2 ^ 64 - 1) =
    c.saturating_add-len.ensures ∙ ap (λ (n : ℕ). min (c.loop-item.len + n) (2 ^ 64 - 1)) c.item_len.ensures
    in
    len_more c.args.self.now.items c.as_slice-item-items.result.now c.loop-item.item-index c.item-item.result c.loop-item.len c.saturating_add-len.result _ (2 ^ 64 - 1)
    c.as_slice-item-items.ensures c.item-item.is c.loop-item-test.true step c.loop-item.invariant

pub returns : goal.returns
returns c = len_end c.args.self.now c.as_slice-item-items.result.now c.loop-item.item-index c.loop-item.len c.saturating_add.result (2 ^ 64 - 1)
    c.as_slice-item-items.ensures c.loop-item-test.false (c.saturating_add.ensures ∙ ap (λ (r : List ℕ). min (c.loop-item.len + length r) (2 ^ 64 - 1)) c.as_slice.ensures) c.loop-item.invariant

use Rattle.std.proofs.Common.{◌≡◌, ◌+◌, ◌∙◌, ℕ, ap, arith, sym}
use Rattle.std.specs.List.{remove}
use Rattle.qt_keys.specs.Set.{index_of, without_item}
use Rattle.mov_plan.proofs.KeyLists.{item_absent, item_gone, item_place}
use Rattle.mov_plan.proofs.keyed.Keyed.remove.Goals as goal

pub returns-then-place-len-clause-items : goal.returns-then-place-len-clause-items
returns-then-place-len-clause-items c =
    let is = c.args.self.now.items.items in
    let n = c.place_of_key-entry.result + 1 in
    let index : index_of c.args.name.now c.args.self.now.entries.items ≡ n = ap (index_of c.args.name.now) (sym c.as_slice.ensures.value) ∙ c.place_of_key-entry.ensures.index in
    let place : c.place_of_item-place.result ≡ item_place n is = c.place_of_item-place.ensures.place ∙ ap (item_place n) c.as_slice-2.ensures.value in
    c.remove.ensures.items ∙ ap (λ (k : ℕ). remove is k) place
    ∙ sym (item_gone n is (omega (arith, place, c.if-place-len.true, c.len.ensures))) ∙ ap (λ (k : ℕ). without_item k is) (sym index)

pub returns-else-place-len-clause-items : goal.returns-else-place-len-clause-items
returns-else-place-len-clause-items c =
    let is = c.args.self.now.items.items in
    let n = c.place_of_key-entry.result + 1 in
    let index : index_of c.args.name.now c.args.self.now.entries.items ≡ n = ap (index_of c.args.name.now) (sym c.as_slice.ensures.value) ∙ c.place_of_key-entry.ensures.index in
    let place : c.place_of_item-place.result ≡ item_place n is = c.place_of_item-place.ensures.place ∙ ap (item_place n) c.as_slice-2.ensures.value in
    sym (ap (λ (k : ℕ). without_item k is) index ∙ item_absent n is (omega (arith, place, c.if-place-len.false, c.len.ensures)))

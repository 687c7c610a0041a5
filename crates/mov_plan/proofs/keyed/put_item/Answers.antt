use Rattle.std.proofs.Common.{◌∙◌, ◌++◌, ◌∷◌, [], ℕ, ap, arith, sym}
use Rattle.std.proofs.Math.ListN.{set}
use Rattle.qt_keys.specs.Set.{item_of}
use Rattle.qt_keys.specs.declared.table.KeyItem.{KeyItem}
use Rattle.mov_plan.proofs.KeyLists.{item_added, item_there}
use Rattle.mov_plan.proofs.keyed.put_item.Goals as goal
use Rattle.mov_plan.proofs.keyed.put_item.Goals.{in-Err, in-Ok}

pub returns-then-place-len : goal.returns-then-place-len
returns-then-place-len c =
    let is = c.args.items.now.items in
    ap (λ (i : KeyItem). set is c.args.place i) c.in_ok-item.ensures ∙ ap (λ (k : ℕ). set is k (item_of c.args.index c.args.raw.now)) c.requires
    ∙ sym (item_there c.args.index c.args.raw.now is (omega (arith, c.requires, c.if-place-len.true, c.len.ensures)))

pub returns : goal.returns
returns c =
    let is = c.args.items.now.items in
    elim c.match-push.branch [
      | in-Ok w ↦
          rw w.result-is
          (w.in-Ok.ensures.items ∙ ap (λ (i : KeyItem). is ++ i ∷ []) c.in_ok-item.ensures ∙ sym (item_added c.args.index c.args.raw.now is (omega (arith, c.requires, c.if-place-len.false, c.len.ensures))))
      | in-Err w ↦ rw w.result-is tt
    ]

use Rattle.std.proofs.Common.{[], sym, ◌∙◌, arith, suc, take, length, ◌≤◌, List}
use Rattle.std.proofs.lemmas.List.{at_drop_all}
use Rattle.part_tree.specs.declared.field.EditItem.{EditItem}
use Rattle.core_edit.specs.Edits.{wrong_from}
use Rattle.core_edit.proofs.Sound.{sound_from}
use Rattle.core_edit.proofs.edit.Edit.new.Goals as goal

pub invariant_of-result : goal.invariant_of-result
invariant_of-result c =
    let past : length c.args.items.items ≤ c.loop-i.i = omega (arith, c.loop-i-test.false, c.len-i-end.ensures) in
    sound_from 1 [] c.args.items.items c.requires
    (sym c.loop-i.invariant ∙ at_drop_all (λ (xs : List EditItem). wrong_from (suc c.loop-i.i) (take c.loop-i.i c.args.items.items) xs) c.args.items.items c.loop-i.i past)

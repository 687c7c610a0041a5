use Rattle.std.proofs.Common.{◌≡◌, ◌+◌, drop, false}
use Rattle.std.specs.List.{AllByRecursion}
use Rattle.part_tree.specs.declared.field.EditItem.{EditItem}
use Rattle.core_edit.specs.Edits.{AreNamed, is_empty_set}
use Rattle.metaedit_top.specs.Words.{items_from}
use Rattle.metaedit_top.proofs.ItemWords.{joined}
use Rattle.metaedit_top.proofs.words.collect_items.Given as goal

-- the items so far, and those of the words from here on, are the whole
abbrev pub invariant-words : goal.invariant-words
invariant-words l = record {
  count : l.n ≡ l.word-index;
  named : AreNamed l.items.items;
  some : AllByRecursion (λ (i : EditItem). is_empty_set i.change ≡ false) l.items.items;
  left : joined l.items.items (items_from (l.n + 1) (drop l.word-index l.words)) ≡ items_from 1 l.words;
}

use Rattle.std.proofs.Common.{◌≡◌, ◌<◌, ℕ, false, get_or}
use Rattle.info_list.specs.declared.InfoItem.{InfoItem}
use Rattle.info_list.proofs.Changed.{named}
use Rattle.info_list.proofs.edit.first_named.Given as goal

-- none of the items so far is one of the field
abbrev pub invariant-loop-item : goal.invariant-loop-item
invariant-loop-item l = record {
  count : l.k ≡ l.item-index;
  before : (j : ℕ) (d : InfoItem) → j < l.item-index → named l.id.0 (get_or l.items j d) ≡ false;
}

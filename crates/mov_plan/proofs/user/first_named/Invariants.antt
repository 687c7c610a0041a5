use Rattle.std.proofs.Common.{◌≡◌, ◌<◌, ℕ, false, get_or}
use Rattle.mov_plan.specs.declared.user.UserItem.{UserItem}
use Rattle.mov_plan.proofs.Changed.{named}
use Rattle.mov_plan.proofs.user.first_named.Given as goal

-- none of the atoms so far is an item of the type
abbrev pub invariant-loop-item : goal.invariant-loop-item
invariant-loop-item l = record {
  count : l.k ≡ l.item-index;
  before : (j : ℕ) (d : UserItem) → j < l.item-index → named l.kind.0 (get_or l.items j d) ≡ false;
}

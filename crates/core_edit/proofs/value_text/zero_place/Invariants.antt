use Rattle.std.proofs.Common.{◌≡◌, ◌<◌, ◌==◌, ℕ, false, get_or}
use Rattle.core_edit.proofs.value_text.zero_place.Given as goal

-- no byte so far is 0
abbrev pub invariant-loop-x : goal.invariant-loop-x
invariant-loop-x l = record {
  count : l.k ≡ l.x-index;
  before : (j e : ℕ) → j < l.x-index → (get_or l.raw j e == 0) ≡ false;
}

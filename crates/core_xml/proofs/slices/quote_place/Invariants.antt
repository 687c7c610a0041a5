use Rattle.std.proofs.Common.{◌≡◌, ◌<◌, ◌==◌, ℕ, false, get_or}
use Rattle.core_xml.proofs.slices.quote_place.Given as goal

-- no byte so far is a quotation mark
abbrev pub invariant-loop-x : goal.invariant-loop-x
invariant-loop-x l = record {
  count : l.k ≡ l.x-index;
  before : (j e : ℕ) → j < l.x-index → (get_or l.text j e == 34) ≡ false;
}

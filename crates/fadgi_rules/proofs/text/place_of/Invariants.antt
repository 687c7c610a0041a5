use Rattle.std.proofs.Common.{◌≡◌, ◌<◌, ℕ, false, get_or, ◌==◌}
use Rattle.fadgi_rules.proofs.text.place_of.Given as goal

-- no byte so far is the one
abbrev pub invariant-loop-x : goal.invariant-loop-x
invariant-loop-x l = record {
  count : l.k ≡ l.x-index;
  before : (j e : ℕ) → j < l.x-index → (get_or l.text j e == l.byte) ≡ false;
}

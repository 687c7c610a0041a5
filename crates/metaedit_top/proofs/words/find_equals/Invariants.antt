use Rattle.std.proofs.Common.{◌≡◌, ◌<◌, ◌==◌, ℕ, false, get_or}
use Rattle.metaedit_top.proofs.words.find_equals.Given as goal

-- no byte so far is `=`
abbrev pub invariant-loop-byte : goal.invariant-loop-byte
invariant-loop-byte l = record {
  count : l.k ≡ l.byte-index;
  before : (j : ℕ) (e : ℕ) → j < l.byte-index → (get_or l.word j e == 61) ≡ false;
}

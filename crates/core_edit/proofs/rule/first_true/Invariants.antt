use Rattle.std.proofs.Common.{◌≡◌, ◌<◌, ℕ, Bool, false, get_or}
use Rattle.core_edit.proofs.rule.first_true.Given as goal

-- no test so far holds
abbrev pub invariant-loop-test : goal.invariant-loop-test
invariant-loop-test l = record {
  count : l.k ≡ l.test-index;
  before : (j : ℕ) (e : Bool) → j < l.test-index → get_or l.tests j e ≡ false;
}

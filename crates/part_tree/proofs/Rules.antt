-- Names of rules by their numbers.
use Rattle.std.proofs.Common.{◌≡◌, ◌<◌, ◌≤◌, ℕ, zero, suc, [], refl, sym, ap, arith}
use Rattle.std.proofs.Math.ListN.{get_or-eq_default}
use Rattle.part_tree.specs.Names.{named_rule, rule_names}

-- the number 0
pub zero_has_none : (n : ℕ) → n ≡ 0 → [] ≡ named_rule n
zero_has_none n e = sym (ap named_rule e)

-- a number past the last rule
pub past_the_last : (n : ℕ) → 24 < n → [] ≡ named_rule n
past_the_last zero more = refl
past_the_last (suc k) more =
    let far : 24 ≤ k = omega arith in
    sym (get_or-eq_default rule_names [] far)

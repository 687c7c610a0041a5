use Rattle.std.proofs.Common.{◌≡◌, drop, ◌==◌}
use Rattle.std.specs.List.{list_any}
use Rattle.core_edit.proofs.rule.has_zero.Given as goal

-- the bytes from here on decide
abbrev pub invariant-loop-x : goal.invariant-loop-x
invariant-loop-x l = list_any (λ x. x == 0) (drop l.x-index l.text) ≡ list_any (λ x. x == 0) l.text

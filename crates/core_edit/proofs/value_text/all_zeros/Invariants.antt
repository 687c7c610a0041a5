use Rattle.std.proofs.Common.{◌≡◌, drop, ◌==◌}
use Rattle.std.specs.List.{list_all}
use Rattle.core_edit.proofs.value_text.all_zeros.Given as goal

-- the bytes from here on decide
abbrev pub invariant-loop-x : goal.invariant-loop-x
invariant-loop-x l = list_all (λ x. x == 0) (drop l.x-index l.raw) ≡ list_all (λ x. x == 0) l.raw

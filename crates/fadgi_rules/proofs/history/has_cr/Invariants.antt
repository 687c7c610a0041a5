use Rattle.std.proofs.Common.{◌≡◌, drop, ◌==◌}
use Rattle.std.specs.List.{list_any}
use Rattle.fadgi_rules.proofs.history.has_cr.Given as goal

-- the bytes from here on decide
abbrev pub invariant-loop-x : goal.invariant-loop-x
invariant-loop-x l = list_any (λ x. x == 13) (drop l.x-index l.value) ≡ list_any (λ x. x == 13) l.value

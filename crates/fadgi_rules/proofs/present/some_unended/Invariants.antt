use Rattle.std.proofs.Common.{◌≡◌, drop, not}
use Rattle.std.specs.List.{list_any}
use Rattle.field_model.specs.Broken.{ends_with_zero}
use Rattle.fadgi_rules.proofs.present.some_unended.Given as goal

-- the values from here on decide
abbrev pub invariant-loop-value : goal.invariant-loop-value
invariant-loop-value l = list_any (λ v. not (ends_with_zero v.raw)) (drop l.value-index l.held) ≡ list_any (λ v. not (ends_with_zero v.raw)) l.held

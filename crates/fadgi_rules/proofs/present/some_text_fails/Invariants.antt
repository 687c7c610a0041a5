use Rattle.std.proofs.Common.{◌≡◌, drop}
use Rattle.std.specs.List.{list_any}
use Rattle.fadgi_rules.specs.Present.{value_fails}
use Rattle.fadgi_rules.proofs.present.some_text_fails.Given as goal

-- the values from here on decide
abbrev pub invariant-loop-value : goal.invariant-loop-value
invariant-loop-value l = list_any (value_fails l.rule l.name) (drop l.value-index l.held) ≡ list_any (value_fails l.rule l.name) l.held

use Rattle.std.proofs.Common.{◌≡◌, drop}
use Rattle.std.specs.List.{list_any}
use Rattle.fadgi_rules.specs.Present.{shows_text}
use Rattle.fadgi_rules.proofs.present.shows_any.Given as goal

-- the values from here on decide
abbrev pub invariant-loop-value : goal.invariant-loop-value
invariant-loop-value l = list_any (shows_text l.name) (drop l.value-index l.held) ≡ list_any (shows_text l.name) l.held

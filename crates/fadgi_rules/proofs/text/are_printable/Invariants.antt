use Rattle.std.proofs.Common.{◌≡◌, drop}
use Rattle.std.specs.List.{list_all}
use Rattle.field_model.specs.Rules.{is_printable}
use Rattle.fadgi_rules.proofs.text.are_printable.Given as goal

-- the bytes from here on decide
abbrev pub invariant-loop-x : goal.invariant-loop-x
invariant-loop-x l = list_all is_printable (drop l.x-index l.text) ≡ list_all is_printable l.text

use Rattle.std.proofs.Common.{◌≡◌, drop, ◌==◌, ◌||◌, ◌&&◌}
use Rattle.std.specs.List.{list_all}
use Rattle.field_model.specs.Rules.{is_printable}
use Rattle.core_edit.proofs.rule.are_bext_letters.Given as goal

-- the bytes from here on decide
abbrev pub invariant-loop-x : goal.invariant-loop-x
invariant-loop-x l = list_all (λ x. is_printable x || (l.history && ((x == 13) || (x == 10)))) (drop l.x-index l.text) ≡ list_all (λ x. is_printable x || (l.history && ((x == 13) || (x == 10)))) l.text

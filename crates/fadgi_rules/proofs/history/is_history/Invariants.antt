use Rattle.std.proofs.Common.{◌≡◌, ◌≤◌, ◌-◌, length, drop}
use Rattle.field_model.specs.History.{pieces, are_lines, is_history}
use Rattle.fadgi_rules.proofs.history.is_history.Given as goal

-- the lines from here on decide
abbrev pub invariant-lines : goal.invariant-lines
invariant-lines l = record {
  inside : l.at ≤ length l.text;
  left : are_lines (pieces 10 (drop l.at l.text)) ≡ is_history l.text;
}

abbrev pub decreases-lines : goal.decreases-lines
decreases-lines l = length l.text - l.at

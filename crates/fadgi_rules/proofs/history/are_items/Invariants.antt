use Rattle.std.proofs.Common.{◌≡◌, ◌≤◌, ◌+◌, ◌-◌, length, drop}
use Rattle.field_model.specs.History.{pieces, is_items_line}
use Rattle.fadgi_rules.specs.Lines.{are_fresh}
use Rattle.fadgi_rules.proofs.history.are_items.Given as goal

-- the items from here on decide
abbrev pub invariant-items : goal.invariant-items
invariant-items l = record {
  inside : l.at ≤ length l.line;
  many : length l.seen ≡ 256;
  left : are_fresh l.seen (pieces 44 (drop l.at l.line)) ≡ is_items_line l.line;
}

abbrev pub decreases-items : goal.decreases-items
decreases-items l = length l.line + 1 - l.at

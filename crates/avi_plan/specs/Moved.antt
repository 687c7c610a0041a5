-- Ranges of a file with their new places, one after the other (this project's own).
use Rattle.std.specs.Prelude.{◌≤◌, ◌<◌, ◌^◌, ℕ, ◌+◌, List, [], ◌∷◌}
use Rattle.part_tree.specs.Moves.{Move}
use Rattle.avi_plan.specs.declared.moves.Ranges.{Ranges}

-- the ranges ascend from a place up to another, are disjoint, and end before 2^63, there and at their new places
abbrev pub AscendTo : ℕ → List Move → ℕ → Type 0
AscendTo low [] end = low ≤ end
AscendTo low (m ∷ ms) end = (low ≤ m.0.at) × (m.0.at + m.0.len < 2 ^ 63) × (m.1 + m.0.len < 2 ^ 63) × AscendTo (m.0.at + m.0.len) ms end

-- those so far do
abbrev pub AreRanges : Ranges → Type 0
AreRanges r = AscendTo 0 r.held.items r.at

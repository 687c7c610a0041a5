-- Ranges of a file with their new places, one after the other (this project's own).
use Rattle.std.specs.Prelude.{◌≡◌, ◌≤◌, ◌<◌, ◌^◌, ℕ, ◌+◌, List, [], ◌∷◌, length, map}
use Rattle.std.specs.List.{AllByRecursion}
use Rattle.part_tree.specs.Moves.{Move}
use Rattle.carrier_model.specs.Gaps.{moves_of}
use Rattle.unit_plan.specs.Cuts.{cut_in}
use Rattle.unit_plan.specs.declared.cut.CutAt.{CutAt}
use Rattle.mov_plan.specs.declared.moves.Ranges.{Ranges}

-- the ranges ascend from a place up to another, are disjoint, and end before 2^63, there and at their new places
abbrev pub AscendTo : ℕ → List Move → ℕ → Type 0
AscendTo low [] end = low ≤ end
AscendTo low (m ∷ ms) end =
    (low ≤ m.0.at) × (m.0.at + m.0.len < 2 ^ 63) × (m.1 + m.0.len < 2 ^ 63) × AscendTo (m.0.at + m.0.len) ms end

-- those so far do
abbrev pub AreRanges : Ranges → Type 0
AreRanges r = AscendTo 0 r.held.items r.at

-- what stands in the place of a span is as long in a file as by its numbers
abbrev pub IsKeptIn : ℕ → CutAt → Type 0
IsKeptIn len k = (k.keep ≤ k.span.len) × (k.span.at + k.span.len ≤ len)

-- the moves are those between the spans, in each file of this length
abbrev pub GoBetween : ℕ → List CutAt → List Move → Type 0
GoBetween len cuts ms =
    (b : List ℕ) → length b ≡ len → AllByRecursion (IsKeptIn len) cuts → ms ≡ moves_of (map (cut_in b) cuts) len

-- Where the ranges of a file go: pairs of a range and its new place.
use Rattle.std.specs.Prelude.{◌<◌, ◌≤◌, ℕ, ◌+◌, ◌-◌, ◌^◌, List, [], ◌∷◌, Bool, nat_le, nat_lt, ◌&&◌, if◌then◌else◌, Option, Some, None}
use Rattle.part_tree.specs.declared.names.Span.{Span}

-- a range, and where it begins in the new file
abbrev pub Move : Type 0
Move = Span × ℕ

-- whether a range holds a place
abbrev pub holds : Span → ℕ → Bool
holds s at = nat_le s.at at && nat_lt at (s.at + s.len)

-- the new place of a place that this range holds
abbrev pub place_by : Move → ℕ → Option ℕ
place_by m at = if holds m.0 at then Some (m.1 + (at - m.0.at)) else None

-- the new place of a place: the new start of the range that holds it, and the distance into the range
abbrev pub place : List Move → ℕ → Option ℕ
place [] at = None
place (m ∷ moves) at = if holds m.0 at then Some (m.1 + (at - m.0.at)) else place moves at

-- the ranges ascend from a place on, are disjoint, and end before 2^63, there and at their new places
abbrev pub Ascend : ℕ → List Move → Type 0
Ascend low [] = Unit {0}
Ascend low (m ∷ moves) = (low ≤ m.0.at) × (m.0.at + m.0.len < 2 ^ 63) × (m.1 + m.0.len < 2 ^ 63) × Ascend (m.0.at + m.0.len) moves

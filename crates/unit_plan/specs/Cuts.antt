-- The spans that a planner replaces, and what they are in a file (this project's own).
use Rattle.std.specs.Prelude.{◌≡◌, ◌≤◌, ◌⊎◌, ℕ, ◌+◌, ◌-◌, List, [], ◌∷◌, ◌++◌, length, map, take, drop, true, Option, Some, None, codes}
use Rattle.std.specs.List.{AllByRecursion, flat_map}
use Rattle.part_tree.specs.declared.plan.Patch.{Patch}
use Rattle.container_model.specs.Chunk.{Chunk}
use Rattle.container_model.specs.Splice.{Cut}
use Rattle.container_model.specs.Windows.{window}
use Rattle.carrier_model.specs.Info.{made}
use Rattle.carrier_model.specs.Room.{patch}
use Rattle.unit_plan.specs.declared.cut.CutAt.{CutAt}
use Rattle.unit_plan.specs.declared.unit.OpenUnit.{OpenUnit}
use Rattle.unit_plan.specs.declared.unit.FilledUnit.{FilledUnit}
use Rattle.unit_plan.specs.declared.row.UnitCuts.{UnitCuts}
use Rattle.unit_plan.specs.Rows.{Outcome, Open, none, unit_at}

-- ---- in a file

-- its bytes, and behind them the last of the span that stay
abbrev pub cut_in : List ℕ → CutAt → Cut
cut_in b k = record { at = k.span.at; len = k.span.len; bytes = k.bytes ++ take k.keep (drop (k.span.at + k.span.len - k.keep) b) }

-- The patch of a span in place: its bytes. No bytes are no patch.
abbrev pub patch_of : CutAt → List Patch
patch_of k = patch k.span.at k.bytes

-- what the units so far come to
abbrev pub outcome_in : List ℕ → UnitCuts → Outcome
outcome_in b u = record { cuts = map (cut_in b) u.cuts.items; patches = flat_map patch_of u.cuts.items; fits = u.fits; parts = u.parts }

-- what a unit comes to
abbrev pub filled_in : List ℕ → FilledUnit → Outcome
filled_in b f = record { cuts = cut_in b f.cut ∷ []; patches = patch_of f.cut; fits = f.fits; parts = f.parts }

-- a padding whose body is the last bytes of its slot
abbrev pub padding_in : List ℕ → Option ℕ → List Chunk
padding_in slot None = []
padding_in slot (Some n) = made (codes "JUNK") (drop (length slot - n) slot) ∷ []

-- a unit in which a place is edited
abbrev pub open_changed : ℕ → Open → List ℕ → List ℕ → Open
open_changed at none old new = unit_at at old new
open_changed at (unit_at start slot now) old new = unit_at start (slot ++ old) (now ++ new)

-- a unit that has begun, with its bytes in the file up to a place
abbrev pub open_in : List ℕ → ℕ → Option OpenUnit → Open
open_in b at None = none
open_in b at (Some u) = unit_at u.start (window b u.start at) u.spelled.items

-- ---- by their numbers alone, on every depot

-- it begins at a place or before it
abbrev pub BeginsBefore : Option OpenUnit → ℕ → Type 0
BeginsBefore None at = Unit {0}
BeginsBefore (Some u) at = u.start ≤ at

-- where the bytes end that no unit holds
abbrev pub open_start : Option OpenUnit → ℕ → ℕ
open_start None at = at
open_start (Some u) at = u.start

-- The spans ascend from a place up to an end, are disjoint, and keep no more bytes than they have.
abbrev pub SpansAscend : ℕ → List CutAt → ℕ → Type 0
SpansAscend from [] end = from ≤ end
SpansAscend from (k ∷ ks) end = (from ≤ k.span.at) × (k.keep ≤ k.span.len) × SpansAscend (k.span.at + k.span.len) ks end

-- what stands in place of the span is as long as it
abbrev pub IsExact : CutAt → Type 0
IsExact k = length k.bytes + k.keep ≡ k.span.len

-- The spans of the units that are whole ascend up to a place, and are exact where each unit fits its slot.
pub record IsSoFar (from : ℕ) (u : UnitCuts) (at : ℕ) : Type 0 where
  pub ascend : SpansAscend from u.cuts.items at
  pub exact : u.fits ≡ true → AllByRecursion IsExact u.cuts.items

-- or the span ends a file of so many bytes, and none of them stays
abbrev pub EndsFile : ℕ → CutAt → Type 0
EndsFile len k = (k.span.at + k.span.len ≡ len) × (k.keep ≡ 0)

-- each is exact, but that the last one may end a file of so many bytes
abbrev pub FitsIn : ℕ → List CutAt → Type 0
FitsIn len [] = Unit {0}
FitsIn len (k ∷ ks) = (IsExact k ⊎ (EndsFile len k × (ks ≡ []))) × FitsIn len ks

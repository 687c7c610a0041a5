-- Places of the atoms of `moov` that follow each other in a file, and the slots that a planner replaces (this project's own).
use Rattle.std.specs.Prelude.{◌≡◌, ◌≤◌, ℕ, ◌+◌, ◌-◌, List, [], ◌∷◌, ◌++◌, length, map, drop, codes, true, Option, Some, None}
use Rattle.std.specs.List.{AllByRecursion, flat_map}
use Rattle.container_model.specs.Atoms.{atom}
use Rattle.container_model.specs.Chunk.{Chunk}
use Rattle.container_model.specs.Windows.{window}
use Rattle.unit_plan.specs.declared.place.What.{What}
use Rattle.unit_plan.specs.declared.place.What.TheVariants.{Stays, Pads, Changes}
use Rattle.unit_plan.specs.Cuts.{IsExact, SpansAscend, cut_in, patch_of}
use Rattle.mov_plan.specs.declared.place.Place.{Place}
use Rattle.mov_plan.specs.declared.place.Behind.{Behind}
use Rattle.mov_plan.specs.declared.unit.OpenUnit.{OpenUnit}
use Rattle.mov_plan.specs.declared.unit.FilledUnit.{FilledUnit}
use Rattle.mov_plan.specs.declared.row.Units.{Units}
use Rattle.mov_plan.specs.Rows.{Beyond, Open, Outcome, none, unit_at}
use Rattle.mov_plan.specs.Shapes.{Shape, stays, pads, changes}

-- ---- in a file

-- the shape of what is to stand at a place, where what stood there are these bytes
abbrev pub shape_by : List ℕ → ℕ → ℕ → What → Shape
shape_by old len parts Stays = stays len parts
shape_by old len parts Pads = pads old parts
shape_by old len parts (Changes now) = changes old now parts

-- the shape of a place of a file
abbrev pub shape_in : List ℕ → Place → Shape
shape_in b p = shape_by (window b p.at p.next) (p.next - p.at) p.parts p.what

-- what stands behind atoms that end at a place
abbrev pub beyond_in : List ℕ → ℕ → Behind → Beyond
beyond_in b end x = record { goes_on = x.goes_on; slot = window b end (end + x.gap); gaps = x.gaps; last = x.last }

-- what the units so far come to
abbrev pub outcome_in : List ℕ → Units → Outcome
outcome_in b u = record { cuts = map (cut_in b) u.cuts.items; patches = flat_map patch_of u.cuts.items; fits = u.fits; parts = u.parts; inner = u.inner }

-- what a unit comes to
abbrev pub filled_in : List ℕ → FilledUnit → Outcome
filled_in b f = record { cuts = cut_in b f.cut ∷ []; patches = patch_of f.cut; fits = f.fits; parts = f.parts; inner = f.inner }

-- a padding whose body is the last bytes of its slot
abbrev pub padding_in : List ℕ → Option ℕ → List Chunk
padding_in slot None = []
padding_in slot (Some n) = atom (codes "free") (drop (length slot - n) slot) ∷ []

-- a unit in which a place is edited
abbrev pub open_changed : ℕ → Open → List ℕ → List ℕ → Open
open_changed at none old new = unit_at at old new
open_changed at (unit_at start slot now) old new = unit_at start (slot ++ old) (now ++ new)

-- a unit that has begun, with its bytes in the file up to a place
abbrev pub open_in : List ℕ → ℕ → Option OpenUnit → Open
open_in b at None = none
open_in b at (Some u) = unit_at u.start (window b u.start at) u.spelled.items

-- ---- by their numbers alone, on every depot

-- the places follow each other from a place up to an end
abbrev pub Follow : ℕ → List Place → ℕ → Type 0
Follow at [] end = at ≡ end
Follow at (p ∷ ps) end = (p.at ≡ at) × (p.at ≤ p.next) × (p.next ≤ end) × Follow p.next ps end

-- it begins at a place or before it
abbrev pub BeginsBefore : Option OpenUnit → ℕ → Type 0
BeginsBefore None at = Unit {0}
BeginsBefore (Some u) at = u.start ≤ at

-- where the bytes end that no unit holds
abbrev pub open_start : Option OpenUnit → ℕ → ℕ
open_start None at = at
open_start (Some u) at = u.start

-- The spans of the units that are whole ascend up to a place, and are exact where each unit fits its slot.
pub record IsSoFar (from : ℕ) (u : Units) (at : ℕ) : Type 0 where
  pub ascend : SpansAscend from u.cuts.items at
  pub exact : u.fits ≡ true → AllByRecursion IsExact u.cuts.items

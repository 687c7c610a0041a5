-- The places of an edit of a WAVE or RF64 file.
use Rattle.std.specs.declared.result.Result.TheVariants.{Ok, Err}
use Rattle.std.specs.Prelude.{◌≡◌, ℕ, ◌^◌, List, [], ◌∷◌, map, Bool, true, false, if◌then◌else◌, Some, None, Result}
use Rattle.part_tree.specs.declared.part.Part.{Part}
use Rattle.part_tree.specs.declared.part.Role.{Role}
use Rattle.part_tree.specs.declared.part.Role.TheVariants.{Sizes}
use Rattle.field_model.specs.Update.{RawItem}
use Rattle.wave_model.specs.Wave.{wave_of, cells_of}
use Rattle.wave_model.specs.Carry.{steps}
use Rattle.carrier_model.specs.Steps.{carried}
use Rattle.part_tree.specs.Large.{Size, limited, first_above}
use Rattle.wave_model.specs.Fields.{bodies, is_info}
use Rattle.wave_model.specs.New.{children_at, new_children}
use Rattle.unit_plan.specs.Shapes.{shape_of}
use Rattle.unit_plan.specs.Places.{shape_in}
use Rattle.edit_planner.specs.Cells.{part_count}
use Rattle.edit_planner.specs.Lists.{lengths}
use Rattle.edit_planner.specs.declared.wave.PlaceRow.{PlaceRow}
use Rattle.edit_planner.specs.declared.wave.PlaceFault.{PlaceFault}
use Rattle.edit_planner.specs.declared.wave.PlaceFault.TheVariants.{TooLarge, Depot, Memory}

-- `ds64`
abbrev pub is_sizes : Role → Bool
is_sizes Sizes = true
is_sizes _ = false

-- how many parts stand before the children of a form: `ds64`, or none
abbrev pub first_child : List Part → ℕ
first_child [] = 0
first_child (p ∷ ps) = if is_sizes p.role then 1 else 0

-- where the children of a form begin: behind `ds64`, or at 12
abbrev pub begins_at : List Part → ℕ
begins_at [] = 12
begins_at (p ∷ ps) = if is_sizes p.role then p.next else 12

-- the lengths of the new file's lists of INFO items
abbrev pub list_sizes : List ℕ → List RawItem → List Size
list_sizes b e = lengths (bodies is_info (new_children (wave_of b) e))

-- the row of places that an edit makes of a file, where no list is too long
pub record IsRowOf (b : List ℕ) (e : List RawItem) (r : PlaceRow) : Type 0 where
  pub begins : r.from ≡ children_at (wave_of b)
  pub shapes : map (shape_in b) r.places.items ≡ map (shape_of part_count) (carried (steps e) (cells_of (wave_of b)))
  pub lists : first_above (list_sizes b e) ≡ None

-- the row, or the first list that is too long
abbrev pub PlacesEdit : List ℕ → List RawItem → Result PlaceRow PlaceFault → Type 0
PlacesEdit b e (Ok r) = IsRowOf b e r
PlacesEdit b e (Err (TooLarge size)) = first_above (list_sizes b e) ≡ Some (limited (2 ^ 24) size)
PlacesEdit b e (Err Depot) = Unit {0}
PlacesEdit b e (Err Memory) = Unit {0}

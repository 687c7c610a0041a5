-- The places of an edit of an AVI file, and what it does to the names of its streams.
use Rattle.std.specs.Prelude.{◌≡◌, ◌^◌, ℕ, List, [], ◌∷◌, map, Bool, Some, None, Result, Vec}
use Rattle.std.specs.Global.{Global}
use Rattle.std.specs.declared.result.Result.TheVariants.{Ok, Err}
use Rattle.std.specs.List.{flat_map}
use Rattle.part_tree.specs.Large.{Size, first_above, limited}
use Rattle.part_tree.specs.declared.plan.PlanFault.{PlanFault}
use Rattle.part_tree.specs.declared.plan.PlanFault.TheVariants as plan
use Rattle.field_model.specs.Update.{RawItem}
use Rattle.unit_plan.specs.Places.{shape_in}
use Rattle.unit_plan.specs.declared.place.Place.{Place}
use Rattle.avi_model.specs.Avi.{avi_of}
use Rattle.avi_model.specs.After.{name_item}
use Rattle.avi_model.specs.Named.{Names}
use Rattle.avi_model.specs.NewFile.{Items}
use Rattle.avi_plan.specs.Row.{told_row}
use Rattle.wave_model.specs.Fields.{bodies, is_info}
use Rattle.edit_planner.specs.Avi.{cells_after, lists_after}
use Rattle.edit_planner.specs.Lists.{lengths}
use Rattle.edit_planner.specs.declared.wave.PlaceFault.{PlaceFault}
use Rattle.edit_planner.specs.declared.wave.PlaceFault.TheVariants.{TooLarge, Depot, Memory}

-- ---- the places

-- the lengths of the lists of INFO items then
abbrev pub avi_sizes : List ℕ → Items → List Size
avi_sizes b e = lengths (bodies is_info (lists_after e (avi_of b).children))

-- the places of an edit, where no list is too long, or the first list that is
abbrev pub PlacesLists : List ℕ → Bool → Items → Result (Vec Place Global) PlaceFault → Type 0
PlacesLists b lacks e (Ok places) =
    (map (shape_in b) places.items ≡ told_row lacks (cells_after e (avi_of b).children)) × (first_above (avi_sizes b e) ≡ None)
PlacesLists b lacks e (Err (TooLarge size)) = first_above (avi_sizes b e) ≡ Some (limited (2 ^ 24) size)
PlacesLists b lacks e (Err Depot) = Unit {0}
PlacesLists b lacks e (Err Memory) = Unit {0}

-- ---- names

-- what items do to the names of streams
abbrev pub names_in : List RawItem → Names
names_in e = flat_map (λ (i : RawItem). name_item i.name i.value) e

-- ---- a plan

-- why an edit has no plan, where it has no places
abbrev pub no_place : PlaceFault → PlanFault
no_place (TooLarge size) = plan.TooLarge size (2 ^ 24)
no_place Depot = plan.Depot
no_place Memory = plan.Memory

-- nothing is told to be too large
abbrev pub NeverTooLarge : {T : Type 0} → Result T PlanFault → Type 0
NeverTooLarge (Ok x) = Unit {0}
NeverTooLarge (Err (plan.TooLarge size limit)) = ⊥
NeverTooLarge (Err plan.Depot) = Unit {0}
NeverTooLarge (Err plan.Memory) = Unit {0}

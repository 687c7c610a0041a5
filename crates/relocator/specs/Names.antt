-- New numbers for places.
use Rattle.std.specs.Prelude.{◌≡◌, ℕ, ◌+◌, ◌-◌, List, true, false, Option, None, Some, Result}
use Rattle.std.specs.declared.result.Result.TheVariants.{Ok, Err}
use Rattle.part_tree.specs.declared.table.IndexHead.{IndexHead}
use Rattle.part_tree.specs.Moves.{Move}
use Rattle.part_tree.specs.Tables.{Naming, le32, moved, can_name, number, misfit_in, renamed, with_number}
use Rattle.relocator.specs.declared.row.Named.{Named}

-- the naming of a place that was told
abbrev pub naming_of : Named → Naming
naming_of n = record { at = 0; old_base = 0; new_base = n.new_base; least = n.least }

-- The number of 32 bits that names a place's new one from a base, or that new place where no number does.
abbrev pub NewNumber : List Move → Named → Result ℕ ℕ → Type 0
NewNumber moves n (Ok k) = (can_name le32 (naming_of n) (moved moves n.place) ≡ true) × (k ≡ moved moves n.place - n.new_base)
NewNumber moves n (Err at) = (can_name le32 (naming_of n) (moved moves n.place) ≡ false) × (at ≡ moved moves n.place)

-- The same of the offset of an entry of a standard index.
abbrev pub NewOffset : List Move → List ℕ → IndexHead → ℕ → Result ℕ ℕ → Type 0
NewOffset moves row old base r = NewNumber moves (record { place = old.base + number le32 0 row; new_base = base; least = 0 }) r

-- What becomes of the second field of a row, where it has these namings.
abbrev pub NewSecond : List Move → List ℕ → List Naming → Result (Option ℕ) ℕ → Type 0
NewSecond moves row ns (Ok None) = (misfit_in moves le32 row ns ≡ None) × (renamed moves le32 row ns ≡ row)
NewSecond moves row ns (Ok (Some n)) = (misfit_in moves le32 row ns ≡ None) × (renamed moves le32 row ns ≡ with_number le32 8 n row)
NewSecond moves row ns (Err at) = misfit_in moves le32 row ns ≡ Some at

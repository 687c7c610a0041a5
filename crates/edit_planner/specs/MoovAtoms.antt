-- The atoms of `moov` as places of an edit (this project's own).
use Rattle.std.specs.Prelude.{ℕ, List, [], ◌∷◌, if◌then◌else◌}
use Rattle.mov_model.specs.Atoms.{is_padding}
use Rattle.mov_plan.specs.declared.place.Place.{Place}
use Rattle.qt_atoms.specs.declared.walker.AtomAt.{AtomAt}
use Rattle.unit_plan.specs.declared.place.What.TheVariants.{Pads, Stays}

-- where atoms end that follow each other from a byte on
abbrev pub atoms_end : ℕ → List AtomAt → ℕ
atoms_end from [] = from
atoms_end from (k ∷ ks) = atoms_end k.next ks

-- an atom before an edit, for which so many are counted: padding, or one that stays
abbrev pub place_with : AtomAt → ℕ → Place
place_with k n = record { at = k.at; next = k.next; parts = n; what = if is_padding k.kind.0 then Pads else Stays }

-- each atom with the number that is counted for it
abbrev pub placed_by : List AtomAt → List ℕ → List Place
placed_by [] ns = []
placed_by (k ∷ ks) [] = []
placed_by (k ∷ ks) (n ∷ ns) = place_with k n ∷ placed_by ks ns

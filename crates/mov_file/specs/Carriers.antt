-- The carriers of fields in `moov`, and the fields that they hold.
use Rattle.std.specs.Prelude.{◌≡◌, ℕ, List, [], ◌∷◌, ◌++◌, map, Bool, true, false, codes, Option, Some, None, Result, if◌then◌else◌}
use Rattle.std.specs.declared.result.Result.TheVariants.{Ok, Err}
use Rattle.part_tree.specs.declared.names.Span.{Span}
use Rattle.container_model.specs.Atoms.{is}
use Rattle.container_model.specs.Chunk.{Chunk}
use Rattle.container_model.specs.Sizes.{inside}
use Rattle.container_model.specs.Walk.{along}
use Rattle.mov_model.specs.Keys.{is_meta}
use Rattle.mov_model.specs.Map.{Kid}
use Rattle.qt_atoms.specs.Walk.{atom_in, row}
use Rattle.qt_atoms.specs.declared.walker.AtomAt.{AtomAt}
use Rattle.qt_keys.specs.Read.{key_table}
use Rattle.qt_keys.specs.declared.table.KeyTable.{KeyTable}
use Rattle.mov_file.specs.Map.{IsAtom, IsKid, first_that}
use Rattle.mov_file.specs.declared.carriers.Meta.{Meta}

-- an atom and where it stands
abbrev pub kid_at : ℕ → Chunk → List Kid
kid_at at c = record { at = at; atom = c } ∷ []

-- the atoms from a place of moov up to an end
abbrev pub kids_in : List ℕ → ℕ → ℕ → List Kid
kids_in b at end = along kid_at at (row inside b at end).chunks

-- the key table that an atom is, if it is one
abbrev pub table_of : Chunk → Option KeyTable
table_of c = if is c (codes "meta") then key_table c.body else None

-- the first atom that is a key table, with the table, or none
abbrev pub IsTable : List ℕ → Option Kid → Option Meta → Type 0
IsTable b None None = Unit {0}
IsTable b (Some kid) (Some m) = IsAtom b kid.at kid.atom m.atom × (key_table kid.atom.body ≡ Some m.table)
IsTable b None (Some m) = ⊥
IsTable b (Some kid) None = ⊥

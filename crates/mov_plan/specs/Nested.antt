-- What stands in the atoms of `moov`: how many atoms, and in which of them tables of chunk places stand.
use Rattle.std.specs.Prelude.{◌≡◌, ◌<◌, ◌^◌, ℕ, ◌+◌, Bool, ◌||◌, List, [], ◌∷◌, ◌++◌, length, Option, Some, None}
use Rattle.std.specs.List.{flat_map}
use Rattle.me_disk.specs.Disk.{Disk}
use Rattle.me_disk.specs.Holds.{Inside}
use Rattle.container_model.specs.Chunk.{Chunk, spell}
use Rattle.container_model.specs.Sizes.{Level}
use Rattle.container_model.specs.Walk.{Step}
use Rattle.mov_model.specs.Atoms.{Place}
use Rattle.mov_model.specs.Reading.{atoms_met}
use Rattle.qt_atoms.specs.Walk.{atom_in, row}
use Rattle.qt_atoms.specs.declared.walker.AtomAt.{AtomAt}
use Rattle.qt_text.specs.User.{udta}
use Rattle.mov_plan.specs.Atoms.{AllFollow}
use Rattle.mov_plan.specs.Planned.{AreEach, HolderAt, holder_met}
use Rattle.mov_plan.specs.Shapes.{atoms_of}

-- how many atoms are counted for each of some atoms of moov, by whether user data was met
abbrev pub counted : Bool → List Chunk → List ℕ
counted seen [] = []
counted seen (c ∷ cs) = atoms_of seen c ∷ counted (seen || udta.is c) cs

-- the next atom between two places of a file, or none is read there
abbrev pub IsNext : Level → List ℕ → ℕ → ℕ → Option AtomAt → Type 0
IsNext s b at end None = (row s b at end).chunks ≡ []
IsNext s b at end (Some k) = ((row s b at end).chunks ≡ atom_in b k ∷ (row s b k.next end).chunks) × (at + length (spell (atom_in b k)) ≡ k.next)

-- Steps of the reading are met, so many atoms among them; those in which tables stand come behind the ones that were held.
pub record Meets (ss : List (Step Place)) (n : ℕ) (old new : List AtomAt) : Type 0 where
  pub count : n ≡ atoms_met ss
  pub holders : (hs : List HolderAt) → AreEach hs old → AreEach (hs ++ flat_map holder_met ss) new

-- Atoms follow each other in the file of a depot.
pub record StandIn (d : Disk) (ks : List AtomAt) : Type 0 where
  pub from : ℕ
  pub end : ℕ
  pub follow : AllFollow from ks end
  pub inside : Inside end d
  pub small : end < 2 ^ 63

-- Atoms that follow each other in a file, as a planner holds them.
use Rattle.std.specs.Prelude.{◌≡◌, ◌≤◌, ℕ, ◌+◌, List, [], ◌∷◌, length}
use Rattle.container_model.specs.Chunk.{Chunk, spell}
use Rattle.qt_atoms.specs.Walk.{InOrder, atom_in}
use Rattle.qt_atoms.specs.declared.walker.AtomAt.{AtomAt}

-- from a place on, each is one of these chunks
abbrev pub AreRow : List ℕ → ℕ → List AtomAt → List Chunk → Type 0
AreRow b at [] [] = Unit {0}
AreRow b at [] (c ∷ cs) = ⊥
AreRow b at (k ∷ ks) [] = ⊥
AreRow b at (k ∷ ks) (c ∷ cs) = (k.at ≡ at) × (atom_in b k ≡ c) × (k.next ≡ at + length (spell c)) × AreRow b k.next ks cs

-- Whatever the file: they follow each other from a place up to an end or before it.
abbrev pub AllFollow : ℕ → List AtomAt → ℕ → Type 0
AllFollow at [] end = at ≤ end
AllFollow at (k ∷ ks) end = InOrder at end k × AllFollow k.next ks end

-- A file as a movie: its atoms, with the first moov apart.
use Rattle.std.specs.Prelude.{Bool, List, [], codes, false, true, ℕ, ◌++◌, ◌∷◌}
use Rattle.container_model.specs.Chunk.{Chunk, Run, chunks, spell_all}
use Rattle.container_model.specs.Sizes.{atom_front, top}
use Rattle.container_model.specs.Atoms.{atom, is}

-- the atoms before the first moov, moov, the atoms behind it, and the bytes left
pub record Movie : Type 0 where
  pub before : List Chunk
  pub movie : Chunk
  pub behind : List Chunk
  pub left : List ℕ

-- the atoms of the file, with the first moov apart
abbrev pub split_by : Chunk → List Chunk → List ℕ → Movie → Bool → Movie
split_by c cs left m true = record { before = []; movie = c; behind = cs; left = left }
split_by c cs left m false = record m { before = c ∷ m.before }

-- the first moov apart; an empty atom stands for one that is missing
abbrev pub split : List Chunk → List ℕ → Movie
split [] left = record { before = []; movie = atom [] []; behind = []; left = left }
split (c ∷ cs) left = split_by c cs left (split cs left) (is c (codes "moov"))

-- the atoms of the file
abbrev pub all_atoms : Movie → List Chunk
all_atoms m = m.before ++ m.movie ∷ m.behind

-- the bytes of a movie
abbrev pub spell_movie : Movie → List ℕ
spell_movie m = spell_all (all_atoms m) ++ m.left

-- the atoms of a file as they are read
abbrev pub top_run : List ℕ → Run
top_run b = chunks atom_front top b

-- a file as a movie
abbrev pub movie_of : List ℕ → Movie
movie_of b = split (top_run b).chunks (top_run b).left

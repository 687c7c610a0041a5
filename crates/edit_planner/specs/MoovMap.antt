-- Where `moov` stands in a movie, by the parts that a map tells (this project's own).
use Rattle.std.specs.Prelude.{ℕ, suc, ◌+◌, ◌==◌, List, [], ◌∷◌, length, drop, Bool, true, false, if◌then◌else◌}
use Rattle.container_model.specs.Atoms.{atoms_in}
use Rattle.container_model.specs.Chunk.{spell_all}
use Rattle.mov_file.specs.declared.map.MovMap.{MovMap}
use Rattle.mov_model.specs.Movie.{movie_of}
use Rattle.mov_model.specs.Reading.{inside_at}
use Rattle.part_tree.specs.declared.part.Part.{Part}
use Rattle.part_tree.specs.declared.part.Role.{Role}
use Rattle.part_tree.specs.declared.part.Role.TheVariants.{Padding}

-- the first parts, as long as each begins where the one before it ends
abbrev pub joined_from : ℕ → List Part → List Part
joined_from at [] = []
joined_from at (p ∷ ps) = if p.at == at then p ∷ joined_from p.next ps else []

-- how many parts stand before the first that begins at a byte
abbrev pub before_at : ℕ → List Part → ℕ
before_at at [] = 0
before_at at (p ∷ ps) = if p.at == at then 0 else suc (before_at at ps)

-- padding
abbrev pub is_gap : Role → Bool
is_gap Padding = true
is_gap _ = false

-- how many paddings come first
abbrev pub gap_count : List Part → ℕ
gap_count [] = 0
gap_count (p ∷ ps) = if is_gap p.role then suc (gap_count ps) else 0

-- and where they end
abbrev pub gap_end : ℕ → List Part → ℕ
gap_end at [] = at
gap_end at (p ∷ ps) = if is_gap p.role then gap_end p.next ps else at

-- the atoms of a file and its tail, as a map tells them
abbrev pub tops_in : MovMap → List Part
tops_in m = joined_from 0 m.parts.items

-- those behind moov
abbrev pub behind_in : MovMap → List Part
behind_in m = drop (before_at m.moov.at (tops_in m) + 1) (tops_in m)

-- where the atoms of moov end in a file
abbrev pub kids_end : List ℕ → ℕ
kids_end b = inside_at (movie_of b) + length (spell_all (atoms_in (movie_of b).movie).chunks)

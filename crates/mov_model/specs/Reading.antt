-- A movie as it is read: the atoms of the file in order, then those in `moov`, depth first.
use Rattle.std.specs.Prelude.{Bool, List, None, Option, Some, [], codes, false, if◌then◌else◌, length, not, true, ℕ, ◌&&◌, ◌++◌, ◌+◌, ◌||◌, ◌∷◌}
use Rattle.std.specs.List.{flat_map}
use Rattle.std.specs.Str.{bytes_eq}
use Rattle.container_model.specs.Chunk.{Chunk, spell, spell_all}
use Rattle.container_model.specs.Deep.{Leaf}
use Rattle.container_model.specs.Items.{listed}
use Rattle.container_model.specs.Walk.{Step, along, body_at, chunk_at, chunk_met, end_at, nested, walk}
use Rattle.mov_model.specs.Atoms.{Place, dinf, file, format, mdia, minf, moov, stbl, trak, user_data}
use Rattle.container_model.specs.Atoms.{atoms_in, is_listed}
use Rattle.mov_model.specs.Movie.{Movie, all_atoms, movie_of, top_run}
use Rattle.qt_text.specs.User.{udta}

-- atoms that follow each other from a place on
abbrev pub row : Place → ℕ → List Chunk → List (Step Place)
row p at cs = along (λ at c. chunk_at p at c ∷ []) at cs

-- An atom of moov and what is in it; of the user data only the first is opened.
abbrev pub kid_steps : Bool → ℕ → Chunk → List (Step Place)
kid_steps true at c = chunk_at moov at c ∷ (row user_data (body_at at c) (udta.opening c).chunks ++ end_at user_data (body_at at c + length (spell_all (udta.opening c).chunks)) (udta.opening c).stop ∷ [])
kid_steps false at c = walk format 5 moov at c

-- the atoms of moov, each with what is in it
abbrev pub inside_steps : Bool → ℕ → List Chunk → List (Step Place)
inside_steps seen at [] = []
inside_steps seen at (c ∷ cs) = kid_steps (not seen && udta.is c) at c ++ inside_steps (seen || udta.is c) (at + length (spell c)) cs

-- where the body of moov begins
abbrev pub inside_at : Movie → ℕ
inside_at m = body_at (length (spell_all m.before)) m.movie

-- all that is met in moov, and its end
abbrev pub moov_steps : Movie → List (Step Place)
moov_steps m = inside_steps false (inside_at m) (atoms_in m.movie).chunks ++ end_at moov (inside_at m + length (spell_all (atoms_in m.movie).chunks)) (atoms_in m.movie).stop ∷ []

-- all that is met in a file
abbrev pub reading : List ℕ → List (Step Place)
reading b = row file 0 (top_run b).chunks ++ end_at file (length (spell_all (top_run b).chunks)) (top_run b).stop ∷ moov_steps (movie_of b)

-- how many atoms are met
abbrev pub atoms_met : List (Step Place) → ℕ
atoms_met ss = length (flat_map chunk_met ss)

-- the atoms of the file, and those in moov
abbrev pub count_parts : Movie → ℕ
count_parts m = length (all_atoms m) + atoms_met (moov_steps m)

-- ---- what stands but once in a track

-- a type that is in a list, as a name
abbrev pub one_of : List (List ℕ) → List ℕ → Option (List ℕ)
one_of names id = if is_listed id names then Some id else None

-- The name under which an atom stands once: the opened ones and the tables that are read. Both tables of chunk places have one name.
abbrev pub once : Place → List ℕ → Option (List ℕ)
once trak id = one_of (codes "mdia" ∷ []) id
once mdia id = one_of (codes "minf" ∷ []) id
once minf id = one_of (codes "stbl" ∷ codes "dinf" ∷ []) id
once stbl id = if bytes_eq id (codes "co64") then Some (codes "stco") else one_of (codes "stco" ∷ codes "stsc" ∷ codes "stsz" ∷ []) id
once dinf id = one_of (codes "dref" ∷ []) id
once p id = None

-- the name of an atom of a track, or none
abbrev pub names_of : Leaf Place → List (List ℕ)
names_of l = listed (once l.place l.chunk.id)

-- the names of the atoms of a track
abbrev pub names : Chunk → List (List ℕ)
names t = flat_map names_of (nested format 5 moov t)

-- none of the names stands among those that were seen, or twice
abbrev pub no_twice : List (List ℕ) → List (List ℕ) → Bool
no_twice seen [] = true
no_twice seen (x ∷ xs) = not (is_listed x seen) && no_twice (x ∷ seen) xs

-- Why a movie is refused: the first test that holds, over the atoms in the order of reading (this project's own).
use Rattle.std.specs.Prelude.{Bool, List, None, Option, Some, [], codes, false, if◌then◌else◌, length, nat_le, nat_lt, not, suc, true, ℕ, ◌&&◌, ◌++◌, ◌^◌, ◌∷◌}
use Rattle.std.specs.List.{flat_map}
use Rattle.std.specs.Str.{bytes_eq}
use Rattle.part_tree.specs.Letters.{four}
use Rattle.part_tree.specs.declared.why.Why.{Why}
use Rattle.part_tree.specs.declared.why.Why.TheVariants.{CarrierBig, ChunkAstray, Compressed, External, Fragments, MoovBig, NoMoov, OtherOffsets, Reference, SizeSmall, TableShort, TableTwice, TooManyParts, Truncated, TwoMoov, UnknownKind}
use Rattle.container_model.specs.Chunk.{Chunk, Stop, bad_header, spell}
use Rattle.container_model.specs.Items.{listed}
use Rattle.container_model.specs.Tests.{first, ended}
use Rattle.container_model.specs.Walk.{Step, chunk_at, end_at}
use Rattle.mov_model.specs.Atoms.{Place, dinf, file, moov, stbl, user_data}
use Rattle.container_model.specs.Atoms.{is, is_listed}
use Rattle.mov_model.specs.Begins.{begins_movie}
use Rattle.mov_model.specs.Movie.{all_atoms, movie_of}
use Rattle.mov_model.specs.Parts.{tracks}
use Rattle.mov_model.specs.Pieces.{held}
use Rattle.mov_model.specs.Reading.{atoms_met, once, reading}
use Rattle.mov_model.specs.Tables.{tables}
use Rattle.sample_tables.specs.Tables.{is_external, is_other_offsets, is_short_reference, is_short_table, places}
use Rattle.qt_text.specs.User.{udta}

-- a test, and why a movie is refused where it holds
abbrev pub Test : Type 0
Test = Bool × Why

-- ---- what was met before; the last step comes first

-- the types of the atoms of the file
abbrev pub file_id : Step Place → List (List ℕ)
file_id (chunk_at file at c) = c.id ∷ []
file_id (chunk_at p at c) = []
file_id (end_at p at stop) = []

-- the types of atoms directly in moov
abbrev pub moov_id : Step Place → List (List ℕ)
moov_id (chunk_at moov at c) = c.id ∷ []
moov_id (chunk_at p at c) = []
moov_id (end_at p at stop) = []

-- a moov came before
abbrev pub met_moov : List (Step Place) → Bool
met_moov before = is_listed (codes "moov") (flat_map file_id before)

-- user data came before
abbrev pub met_user : List (Step Place) → Bool
met_user before = is_listed (codes "udta") (flat_map moov_id before)

-- the number of the track, from 1
abbrev pub count_of : List ℕ → List (List ℕ) → ℕ
count_of x [] = 0
count_of x (y ∷ ys) = if bytes_eq y x then suc (count_of x ys) else count_of x ys

-- the number of the track that is read, from 1
abbrev pub track_number : List (Step Place) → ℕ
track_number before = count_of (codes "trak") (flat_map moov_id before)

-- the names that were met in this track
abbrev pub names_met : List (Step Place) → List (List ℕ)
names_met [] = []
names_met (end_at p at stop ∷ before) = names_met before
names_met (chunk_at moov at c ∷ before) = []
names_met (chunk_at p at c ∷ before) = listed (once p c.id) ++ names_met before

-- ---- the tests

-- of an atom of the file
abbrev pub file_tests : List (Step Place) → ℕ → Chunk → List Test
file_tests before at c =
    (is c (codes "moof"), Fragments at)
    ∷ ((is c (codes "moov") && met_moov before, TwoMoov)
    ∷ ((is c (codes "moov") && nat_lt (2 ^ 26) (length (spell c)), MoovBig (length (spell c))) ∷ []))

-- of an atom directly in moov
abbrev pub moov_tests : List (Step Place) → ℕ → Chunk → List Test
moov_tests before at c =
    (is c (codes "cmov"), Compressed)
    ∷ ((is c (codes "rmra"), Reference)
    ∷ ((is c (codes "mvex"), Fragments at)
    ∷ ((udta.is c && (not (met_user before) && nat_lt (2 ^ 24) (length c.body)), CarrierBig (four c.id) (length c.body)) ∷ [])))

-- the name came before
abbrev pub is_twice : Option (List ℕ) → List (List ℕ) → Bool
is_twice None seen = false
is_twice (Some x) seen = is_listed x seen

-- tables stand in stbl, and the reference to the data in dinf
abbrev pub other_offsets : Place → Chunk → Bool
other_offsets stbl c = is_other_offsets c
other_offsets p c = false

-- a table, or a reference, that is too short
abbrev pub short_table : Place → Chunk → Bool
short_table stbl c = is_short_table c
short_table dinf c = is_short_reference c
short_table p c = false

-- a reference to another file
abbrev pub external : Place → Chunk → Bool
external dinf c = is_external c
external p c = false

-- of an atom in a track
abbrev pub track_tests : Place → List (Step Place) → ℕ → Chunk → List Test
track_tests p before at c =
    (other_offsets p c, OtherOffsets (track_number before))
    ∷ ((is_twice (once p c.id) (names_met before), TableTwice (track_number before))
    ∷ ((short_table p c, TableShort at)
    ∷ ((external p c, External (track_number before)) ∷ [])))

-- of an atom, by what it stands in
abbrev pub atom_tests : Place → List (Step Place) → ℕ → Chunk → List Test
atom_tests file before at c = file_tests before at c
atom_tests moov before at c = moov_tests before at c
atom_tests user_data before at c = []
atom_tests p before at c = track_tests p before at c

-- the size in a header is none
abbrev pub bad_size : Stop → Bool
bad_size bad_header = true
bad_size stop = false

-- at the end of the file's atoms there is a moov
abbrev pub end_tests : Place → List (Step Place) → List Test
end_tests file before = (not (met_moov before), NoMoov) ∷ []
end_tests p before = []

-- of what is met, with what was met before
abbrev pub step_tests : List (Step Place) → Step Place → List Test
step_tests before (chunk_at p at c) = (nat_le 65536 (atoms_met before), TooManyParts) ∷ atom_tests p before at c
step_tests before (end_at p at stop) = (bad_size stop, SizeSmall at) ∷ ((not (ended stop), Truncated at) ∷ end_tests p before)

-- of all that is met, in order
abbrev pub tests_from : List (Step Place) → List (Step Place) → List Test
tests_from before [] = []
tests_from before (s ∷ ss) = step_tests before s ++ tests_from (s ∷ before) ss

-- ---- the chunks of tracks; tracks and chunks count from 1

-- nothing is there
abbrev pub is_none : {A : Type 0} → Option A → Bool
is_none None = true
is_none (Some x) = false

-- of the chunks of a track
abbrev pub place_tests : List Chunk → ℕ → ℕ → List ℕ → List Test
place_tests atoms n k [] = []
place_tests atoms n k (p ∷ ps) = (is_none (held 0 p atoms), ChunkAstray n k) ∷ place_tests atoms n (suc k) ps

-- of the chunks of all tracks
abbrev pub chunk_tests : List Chunk → ℕ → List Chunk → List Test
chunk_tests atoms n [] = []
chunk_tests atoms n (t ∷ ts) = place_tests atoms n 1 (places (tables t)) ++ chunk_tests atoms (suc n) ts

-- all tests in order: the kind, the atoms, the chunks
abbrev pub tests : List ℕ → List Test
tests b = (not (begins_movie b), UnknownKind) ∷ (tests_from [] (reading b) ++ chunk_tests (all_atoms (movie_of b)) 1 (tracks (movie_of b)))

-- why a file is refused, or none
abbrev pub why : List ℕ → Option Why
why b = first (tests b)

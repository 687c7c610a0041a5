-- The movies that are supported, by what is true of them.
use Rattle.std.specs.Prelude.{Bool, List, Some, [], codes, false, length, true, ℕ, ◌++◌, ◌^◌, ◌||◌, ◌≡◌, ◌≤◌}
use Rattle.std.specs.List.{AllByRecursion}
use Rattle.container_model.specs.Chunk.{Chunk, ends, spell}
use Rattle.container_model.specs.Deep.{Whole}
use Rattle.container_model.specs.Units.{solids}
use Rattle.mov_model.specs.Atoms.{format, is_padding, moov}
use Rattle.container_model.specs.Atoms.{atoms_in, is}
use Rattle.mov_model.specs.Begins.{begins_movie}
use Rattle.mov_model.specs.Movie.{Movie, all_atoms, movie_of, top_run}
use Rattle.mov_model.specs.Parts.{first_user, has_id, parts, tracks}
use Rattle.mov_model.specs.Pieces.{held}
use Rattle.mov_model.specs.Reading.{count_parts, names, no_twice}
use Rattle.mov_model.specs.Tables.{references, tables}
use Rattle.sample_tables.specs.Tables.{is_external, is_other_offsets, is_short_reference, is_short_table, places}
use Rattle.qt_text.specs.User.{udta}

-- a chunk of a track stands in the body of an mdat
abbrev pub IsHeld : List Chunk → ℕ → Type 0
IsHeld atoms p = (x : ℕ × List ℕ) × (held 0 p atoms ≡ Some x)

-- A track: no atom twice; tables as long as their rows, none with other offsets; all data in this file, and each chunk in an mdat.
pub record TrackFine (atoms : List Chunk) (t : Chunk) : Type 0 where
  pub once : no_twice [] (names t) ≡ true
  pub no_other_offsets : AllByRecursion (λ c. is_other_offsets c ≡ false) (tables t)
  pub long_tables : AllByRecursion (λ c. is_short_table c ≡ false) (tables t)
  pub long_references : AllByRecursion (λ c. is_short_reference c ≡ false) (references t)
  pub local : AllByRecursion (λ c. is_external c ≡ false) (references t)
  pub chunks_inside : AllByRecursion (IsHeld atoms) (places (tables t))

-- movies that are compressed, in other files, or in fragments
abbrev pub is_refused : Chunk → Bool
is_refused c = is c (codes "cmov") || (is c (codes "rmra") || is c (codes "mvex"))

-- A movie: one moov, no fragments, and all that is opened ends as it should.
pub record MovieFine (m : Movie) : Type 0 where
  pub is_moov : m.movie.id ≡ codes "moov"
  pub no_other : has_id (codes "moov") (solids is_padding m.behind) ≡ false
  pub no_fragments : has_id (codes "moof") (solids is_padding m.before ++ solids is_padding m.behind) ≡ false
  pub atoms_end : (atoms_in m.movie).stop ≡ ends
  pub tracks_end : AllByRecursion (Whole format 5 moov) (parts m)
  pub user_ends : AllByRecursion (λ c. (udta.opening c).stop ≡ ends) (first_user (parts m))
  pub user_small : AllByRecursion (λ c. length c.body ≤ 2 ^ 24) (first_user (parts m))
  pub not_refused : AllByRecursion (λ c. is_refused c ≡ false) (parts m)
  pub tracks : AllByRecursion (TrackFine (all_atoms m)) (tracks m)

-- A file that is read as a movie, of any size: one by its first bytes, whose atoms end as they should, with a moov that is fine.
pub record Readable (b : List ℕ) : Type 0 where
  pub kind : begins_movie b ≡ true
  pub atoms_end : (top_run b).stop ≡ ends
  pub has_moov : has_id (codes "moov") (top_run b).chunks ≡ true
  pub movie : MovieFine (movie_of b)

-- It is supported where its moov has at most 64 MiB, and there are at most 65,536 atoms.
pub record Supported (b : List ℕ) : Type 0 where
  pub readable : Readable b
  pub small : length (spell (movie_of b).movie) ≤ 2 ^ 26
  pub few_parts : count_parts (movie_of b) ≤ 65536

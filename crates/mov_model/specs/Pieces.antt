-- What a movie's tables find: where each chunk of a track stands, and its samples (QuickTime File Format, sample tables).
use Rattle.std.specs.Prelude.{Bool, List, None, Option, Some, [], codes, drop, if◌then◌else◌, length, map, nat_le, nat_lt, suc, ℕ, ◌&&◌, ◌-◌, ◌∷◌}
use Rattle.container_model.specs.Chunk.{Chunk, header_bytes, spell}
use Rattle.container_model.specs.Atoms.{is}
use Rattle.mov_model.specs.Movie.{Movie, all_atoms, movie_of}
use Rattle.mov_model.specs.Parts.{tracks}
use Rattle.sample_tables.specs.Samples.{samples}
use Rattle.mov_model.specs.Tables.{tables}
use Rattle.sample_tables.specs.Tables.{places}

-- it holds the essence
abbrev pub is_mdat : Chunk → Bool
is_mdat c = is c (codes "mdat")

-- the number of the next mdat
abbrev pub next_number : Chunk → ℕ → ℕ
next_number c k = if is_mdat c then suc k else k

-- how long an atom's header is
abbrev pub head_length : Chunk → ℕ
head_length c = length (header_bytes c.form c.id (length c.body))

-- what an atom holds at a place counted from its header
abbrev pub held_here : ℕ → ℕ → Chunk → Option (ℕ × List ℕ)
held_here k p c = if is_mdat c && nat_le (head_length c) p then Some (k, drop (p - head_length c) c.body) else None

-- The mdat whose body holds a place: its number, and its bytes from there on. Places and numbers count from the first of these atoms.
abbrev pub held : ℕ → ℕ → List Chunk → Option (ℕ × List ℕ)
held k p [] = None
held k p (c ∷ cs) = if nat_lt p (length (spell c)) then held_here k p c else held (next_number c k) (p - length (spell c)) cs

-- the bytes that are held
abbrev pub tail_of : Option (ℕ × List ℕ) → List ℕ
tail_of None = []
tail_of (Some t) = t.1

-- the pieces of a track: what each chunk holds, and the samples of each chunk
pub record Pieces : Type 0 where
  pub chunks : List (Option (ℕ × List ℕ))
  pub samples : List (List (List ℕ))

-- the pieces by what the chunks hold
abbrev pub pieces_by : List Chunk → List (Option (ℕ × List ℕ)) → Pieces
pieces_by ts hs = record { chunks = hs; samples = samples ts (map tail_of hs) }

-- the pieces of a track by its tables
abbrev pub track_pieces : List Chunk → List Chunk → Pieces
track_pieces atoms ts = pieces_by ts (map (λ p. held 0 p atoms) (places ts))

-- of each track
abbrev pub pieces_in : Movie → List Pieces
pieces_in m = map (λ t. track_pieces (all_atoms m) (tables t)) (tracks m)

-- what the tables of a file find
abbrev pub pieces : List ℕ → List Pieces
pieces b = pieces_in (movie_of b)

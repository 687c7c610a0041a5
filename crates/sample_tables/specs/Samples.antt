-- The samples of a track: how many each chunk has, and how long they are (QuickTime File Format, sample-to-chunk and sample size atoms).
use Rattle.std.specs.Int.{from_be_bytes, w32}
use Rattle.std.specs.List.{flat_map}
use Rattle.std.specs.Prelude.{Bool, List, [], codes, drop, false, if◌then◌else◌, length, nat_le, nat_lt, replicate, suc, take, true, zero, ℕ, ◌&&◌, ◌==◌, ◌∷◌}
use Rattle.container_model.specs.Chunk.{Chunk}
use Rattle.container_model.specs.Rows.{be32, numbers}
use Rattle.container_model.specs.Atoms.{is}
use Rattle.sample_tables.specs.Tables.{count}

-- runs of chunks with as many samples each
pub record ChunkRun : Type 0 where
  pub first : ℕ
  pub samples : ℕ

-- rows of first chunk, samples in each chunk, and description
abbrev pub runs_from : ℕ → List ℕ → List ChunkRun
runs_from zero b = []
runs_from (suc k) b = record { first = from_be_bytes w32 (take 4 b); samples = from_be_bytes w32 (take 4 (drop 4 b)) } ∷ runs_from k (drop 12 b)

-- the runs in a table
abbrev pub runs_in : Chunk → List ChunkRun
runs_in c = if is c (codes "stsc") then runs_from (count c) (drop 8 c.body) else []

-- sizes one by one where the common size is 0, else the common size so many times
abbrev pub sizes_by : ℕ → ℕ → List ℕ → List ℕ
sizes_by zero n b = numbers be32 n b
sizes_by (suc k) n b = replicate n (suc k)

-- the sizes of samples in a table
abbrev pub sizes_in : Chunk → List ℕ
sizes_in c = if is c (codes "stsz") then sizes_by (count c) (from_be_bytes w32 (take 4 (drop 8 c.body))) (drop 12 c.body) else []

-- first chunks begin at 1 and ascend; else no sample is named
abbrev pub ascend : ℕ → List ChunkRun → Bool
ascend low [] = true
ascend low (r ∷ rs) = nat_lt low r.first && ascend r.first rs

-- the first run begins at chunk 1
abbrev pub start_at_one : List ChunkRun → Bool
start_at_one [] = false
start_at_one (r ∷ rs) = (r.first == 1) && ascend 1 rs

-- how many samples the chunk with a number has
abbrev pub samples_of : ℕ → ℕ → List ChunkRun → ℕ
samples_of now n [] = now
samples_of now n (r ∷ rs) = if nat_le r.first n then samples_of r.samples n rs else now

-- the samples of a chunk that lie in what follows its place
abbrev pub samples_in : ℕ → List ℕ → List ℕ → List (List ℕ)
samples_in zero sizes tail = []
samples_in (suc n) [] tail = []
samples_in (suc n) (s ∷ sizes) tail = if nat_le s (length tail) then take s tail ∷ samples_in n sizes (drop s tail) else []

-- the samples of the chunks from a number on
abbrev pub samples_from : List ChunkRun → ℕ → List ℕ → List (List ℕ) → List (List (List ℕ))
samples_from rs n sizes [] = []
samples_from rs n sizes (t ∷ tails) = samples_in (samples_of 0 n rs) sizes t ∷ samples_from rs (suc n) (drop (samples_of 0 n rs) sizes) tails

-- the samples of each chunk of a track, by what follows each chunk's place
abbrev pub samples : List Chunk → List (List ℕ) → List (List (List ℕ))
samples ts tails = if start_at_one (flat_map runs_in ts) then samples_from (flat_map runs_in ts) 1 (flat_map sizes_in ts) tails else []

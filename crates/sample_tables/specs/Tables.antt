-- The tables of a track: the places of its chunks, and these places changed (QuickTime File Format, sample table atoms and data reference atoms).
use Rattle.std.specs.Int.{from_be_bytes, w32}
use Rattle.std.specs.List.{AllByRecursion, flat_map}
use Rattle.std.specs.Prelude.{Bool, List, [], codes, drop, if◌then◌else◌, length, nat_le, nat_lt, not, replicate, suc, take, true, zero, ℕ, ◌%◌, ◌&&◌, ◌*◌, ◌++◌, ◌+◌, ◌<◌, ◌==◌, ◌^◌, ◌≡◌}
use Rattle.container_model.specs.Atoms.{is}
use Rattle.container_model.specs.Chunk.{Chunk}
use Rattle.container_model.specs.Rows.{Width, be32, be64, changed, numbers}

-- a table has version and flags, a count, and so many rows
abbrev pub count : Chunk → ℕ
count c = from_be_bytes w32 (take 4 (drop 4 c.body))

-- the rows of a table
abbrev pub rows : Width → Chunk → List ℕ
rows w c = numbers w (count c) (drop 8 c.body)

-- the body of a table with each row changed
abbrev pub with_rows : Width → (ℕ → ℕ) → Chunk → List ℕ
with_rows w f c = take 8 c.body ++ changed w f (count c) (drop 8 c.body)

-- the places in a table of chunks
abbrev pub places_in : Chunk → List ℕ
places_in c = if is c (codes "stco") then rows be32 c else (if is c (codes "co64") then rows be64 c else [])

-- where the chunks of a track stand
abbrev pub places : List Chunk → List ℕ
places ts = flat_map places_in ts

-- the bytes of the rows of sample sizes, by the common size and their number
abbrev pub size_rows : ℕ → ℕ → ℕ
size_rows zero n = 4 * n
size_rows (suc common) n = 0

-- how long the body of a table has to be
abbrev pub need : Chunk → ℕ
need c =
    if is c (codes "stco") then 8 + 4 * count c
    else (if is c (codes "co64") then 8 + 8 * count c
    else (if is c (codes "stsc") then 8 + 12 * count c
    else (if is c (codes "stsz") then 12 + size_rows (count c) (from_be_bytes w32 (take 4 (drop 8 c.body))) else 0)))

-- a table too short for its rows
abbrev pub is_short_table : Chunk → Bool
is_short_table c = nat_lt (length c.body) (need c)

-- a table with other offsets, which isn't read
abbrev pub is_other_offsets : Chunk → Bool
is_other_offsets c = is c (codes "saio")

-- the changed places pass no row's width
abbrev pub FitsRows : (ℕ → ℕ) → Chunk → Type 0
FitsRows f c = (is c (codes "stco") ≡ true → AllByRecursion (λ p. f p < 2 ^ 32) (rows be32 c)) × (is c (codes "co64") ≡ true → AllByRecursion (λ p. f p < 2 ^ 64) (rows be64 c))

-- a table with its places changed
abbrev pub moved_body : (ℕ → ℕ) → Chunk → List ℕ
moved_body f c = if is c (codes "stco") then with_rows be32 f c else (if is c (codes "co64") then with_rows be64 f c else c.body)

-- the same table otherwise
abbrev pub moved_table : (ℕ → ℕ) → Chunk → Chunk
moved_table f c = record c { body = moved_body f c }

-- tables are looked at with zeros in the places
abbrev pub blank_rows : Width → Chunk → List ℕ
blank_rows w c = take 8 c.body ++ (replicate (w.bytes * count c) 0 ++ drop (8 + w.bytes * count c) c.body)

-- a table of chunk places, with zeros for its rows
abbrev pub look_table : Chunk → List ℕ
look_table c = if is c (codes "stco") then blank_rows be32 c else (if is c (codes "co64") then blank_rows be64 c else c.body)

-- ---- where the data is said to be

-- an entry has its size, with these four bytes, its type, and its version and flags
abbrev pub entry_size : List ℕ → ℕ
entry_size b = from_be_bytes w32 (take 4 b)

-- its version and flags
abbrev pub entry_flags : List ℕ → ℕ
entry_flags b = from_be_bytes w32 (take 4 (drop 8 b))

-- each entry has its version and flags, and lies in the table
abbrev pub entries_whole : ℕ → List ℕ → Bool
entries_whole zero b = true
entries_whole (suc k) b = nat_le 12 (entry_size b) && (nat_le (entry_size b) (length b) && entries_whole k (drop (entry_size b) b))

-- each entry has flag 1: the data is in this file
abbrev pub entries_local : ℕ → List ℕ → Bool
entries_local zero b = true
entries_local (suc k) b = (entry_flags b % 2 == 1) && entries_local k (drop (entry_size b) b)

-- a reference too short for its entries, or with one that is too short or too long
abbrev pub is_short_reference : Chunk → Bool
is_short_reference c = is c (codes "dref") && not (nat_le 8 (length c.body) && entries_whole (count c) (drop 8 c.body))

-- a reference with an entry to another file
abbrev pub is_external : Chunk → Bool
is_external c = is c (codes "dref") && not (entries_local (count c) (drop 8 c.body))

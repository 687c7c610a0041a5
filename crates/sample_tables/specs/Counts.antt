-- How many rows a table has, and where its rows stand (QuickTime File Format, sample table atoms).
use Rattle.std.specs.Prelude.{ℕ, ◌+◌, ◌*◌, ◌<◌, ◌≤◌, ◌^◌, List, length, take, drop, sum, Bool, true, false, ◌&&◌, nat_lt, Option, Some, None, codes, if◌then◌else◌}
use Rattle.std.specs.Int.{w32, from_be_bytes}
use Rattle.std.specs.Str.{bytes_eq}
use Rattle.container_model.specs.Chunk.{Chunk}
use Rattle.container_model.specs.Atoms.{atom, is}
use Rattle.sample_tables.specs.Tables.{count, is_short_table, size_rows}

-- the number of samples in a table of sizes, behind their common size
abbrev pub size_count : List ℕ → ℕ
size_count body = from_be_bytes w32 (take 4 (drop 8 body))

-- the number of rows by the type of the table
abbrev pub row_count : Chunk → Option ℕ
row_count c =
    if is c (codes "stco") then Some (count c)
    else (if is c (codes "co64") then Some (count c)
    else (if is c (codes "stsc") then Some (count c)
    else (if is c (codes "stsz") then Some (size_count c.body) else None)))

-- the same where the table is long enough
abbrev pub rows_told : Chunk → Option ℕ
rows_told c = if is_short_table c then None else row_count c

-- ---- the same in steps

-- the length of a row in the tables that begin with a count
abbrev pub row_len_of : List ℕ → Option ℕ
row_len_of id =
    if bytes_eq id (codes "stco") then Some 4
    else (if bytes_eq id (codes "co64") then Some 8
    else (if bytes_eq id (codes "stsc") then Some 12 else None))

-- the count, where the rows of this length are there
abbrev pub rows_by : ℕ → List ℕ → Option ℕ
rows_by len body =
    if nat_lt (length body) (8 + len * from_be_bytes w32 (take 4 (drop 4 body))) then None else Some (from_be_bytes w32 (take 4 (drop 4 body)))

-- the count of sizes, where these are there
abbrev pub size_rows_by : List ℕ → Option ℕ
size_rows_by body =
    if nat_lt (length body) (12 + size_rows (from_be_bytes w32 (take 4 (drop 4 body))) (size_count body)) then None else Some (size_count body)

-- ---- places

-- the type of a table of places
abbrev pub place_type : Bool → List ℕ
place_type true = codes "co64"
place_type false = codes "stco"

-- a table of places with this body
abbrev pub place_table : Bool → List ℕ → Chunk
place_table wide body = atom (place_type wide) body

-- how many bytes a place has
abbrev pub place_len : Bool → ℕ
place_len true = 8
place_len false = 4

-- a table has a row of this number, counted from 0, and its bytes are there
abbrev pub HasRow : Bool → List ℕ → ℕ → Type 0
HasRow wide body k = (k < count (place_table wide body)) × (8 + place_len wide * (k + 1) ≤ length body)

-- the place of a sample, by its chunk's place and the sizes of the samples of the chunk
abbrev pub placed : ℕ → List ℕ → ℕ → Option ℕ
placed offset sizes n = if nat_lt n (length sizes) && nat_lt (offset + sum (take n sizes)) (2 ^ 63) then Some (offset + sum (take n sizes)) else None

-- Chunks and atoms: their spelling, and what stands one after the other in a list of bytes.
use Rattle.std.specs.Prelude.{◌≡◌, ℕ, zero, suc, ◌+◌, ◌%◌, List, [], ◌∷◌, ◌++◌, length, take, drop, get_or, Bool, true, false, nat_lt, ◌<◌, ◌≤◌, ◌⊎◌}
use Rattle.std.specs.Int.{w32, w64, to_le_bytes, to_be_bytes}

-- how a header gives the size: RIFF, RIFF with the size in a table, and the three of atoms
pub data Form : Type 0 where
  riff : Form
  wide : Form
  short : Form
  long : Form
  to_end : Form

-- the header of a chunk whose body has n bytes
abbrev pub header_bytes : Form → List ℕ → ℕ → List ℕ
header_bytes riff id n = id ++ to_le_bytes w32 n
header_bytes wide id n = id ++ 255 ∷ 255 ∷ 255 ∷ 255 ∷ []
header_bytes short id n = to_be_bytes w32 (n + 8) ++ id
header_bytes long id n = to_be_bytes w32 1 ++ (id ++ to_be_bytes w64 (n + 16))
header_bytes to_end id n = to_be_bytes w32 0 ++ id

-- how many bytes of padding follow a body of n bytes
abbrev pub pad_len : Form → ℕ → ℕ
pad_len riff n = n % 2
pad_len wide n = n % 2
pad_len short n = 0
pad_len long n = 0
pad_len to_end n = 0

-- a chunk or an atom: how its header gives the size, its identifier, its body, and the padding behind it
pub record Chunk : Type 0 where
  pub form : Form
  pub id : List ℕ
  pub body : List ℕ
  pub pad : List ℕ

-- a chunk as bytes: header, body, pad
abbrev pub spell : Chunk → List ℕ
spell c = header_bytes c.form c.id (length c.body) ++ (c.body ++ c.pad)

-- chunks as bytes, one after the other
abbrev pub spell_all : List Chunk → List ℕ
spell_all [] = []
spell_all (c ∷ cs) = spell c ++ spell_all cs

-- What stands at the front: fewer bytes than a header, no header, a header that passes the end, or a header, its size
-- and the bytes after it.
-- The state tells sizes that no header holds.
pub data Header (S : Type 0) : Type 0 where
  too_short : Header S
  no_header : Header S
  past_end : Header S
  full_header : Form → List ℕ → ℕ → List ℕ → S → Header S

-- what ends a run of chunks: bytes without a header, a header that is none, a body that passes the end, or the count
pub data Stop : Type 0 where
  ends : Stop
  bad_header : Stop
  passes : Stop
  out_of_turns : Stop

-- chunks that follow each other, what ends them, and the bytes that are left
pub record Run : Type 0 where
  pub chunks : List Chunk
  pub stop : Stop
  pub left : List ℕ

-- the bytes that were read into a run
abbrev pub joined : Run → List ℕ
joined r = spell_all r.chunks ++ r.left

-- a run without a chunk
abbrev pub stopped : Stop → List ℕ → Run
stopped stop b = record { chunks = []; stop = stop; left = b }

-- the chunk of a header, and the bytes behind that header
abbrev pub chunk_of : Form → List ℕ → ℕ → List ℕ → Chunk
chunk_of form id n after = record { form = form; id = id; body = take n after; pad = take (pad_len form n) (drop n after) }

-- the bytes behind such a chunk and its pad
abbrev pub behind : Form → ℕ → List ℕ → List ℕ
behind form n after = drop (pad_len form n) (drop n after)

-- a chunk before a run
abbrev pub and_then : Chunk → Run → Run
and_then c r = record { chunks = c ∷ r.chunks; stop = r.stop; left = r.left }

-- a chunk whose body passes the end stops the reading; behind another one it goes on
abbrev pub fit : {S : Type 0} → (S → List ℕ → Run) → List ℕ → Form → List ℕ → ℕ → List ℕ → S → Bool → Run
fit again b form id n after next true = stopped passes b
fit again b form id n after next false = and_then (chunk_of form id n after) (again next (behind form n after))

-- what is read where such a header stands
abbrev pub turn : {S : Type 0} → (S → List ℕ → Run) → List ℕ → Header S → Run
turn again b too_short = stopped ends b
turn again b no_header = stopped bad_header b
turn again b past_end = stopped passes b
turn again b (full_header form id n after next) = fit again b form id n after next (nat_lt (length after) n)

-- the first chunks of the bytes, at most so many
unfoldable pub read : {S : Type 0} → (S → List ℕ → Header S) → ℕ → S → List ℕ → Run
read front zero s b = stopped out_of_turns b
read front (suc k) s b = turn (read front k) b (front s b)

-- each chunk takes a byte or more, so these are all
unfoldable pub chunks : {S : Type 0} → (S → List ℕ → Header S) → S → List ℕ → Run
chunks front s b = read front (suc (length b)) s b

-- A front that reads headers gives back the bytes that it read.
abbrev pub GivesBack : {S : Type 0} → (S → List ℕ → Header S) → Type 0
GivesBack {S} front = (s next : S) (b id after : List ℕ) (form : Form) (n : ℕ) → ((i : ℕ) → get_or b i 0 < 256) → front s b ≡ full_header form id n after next → b ≡ header_bytes form id n ++ after

-- The chunks are read from their spelling with these bytes behind it: each header is read with its body's length,
-- each pad is there unless nothing follows it, and behind the last chunk stands no header.
abbrev pub PadStands : Form → ℕ → List ℕ → List ℕ → Type 0
PadStands form n pad more = (length pad ≡ pad_len form n) ⊎ ((length pad ≤ pad_len form n) × (more ≡ []))

-- a chunk before other bytes, read from its spelling
pub record Stands {S : Type 0} (front : S → List ℕ → Header S) (s next : S) (c : Chunk) (more : List ℕ) : Type 0 where
  pub header_read : front s (spell c ++ more) ≡ full_header c.form c.id (length c.body) (c.body ++ (c.pad ++ more)) next
  pub padded : PadStands c.form (length c.body) c.pad more

-- chunks before these bytes, each read from its spelling
abbrev pub Reads : {S : Type 0} → (S → List ℕ → Header S) → S → List Chunk → List ℕ → Type 0
Reads front s [] left = front s left ≡ too_short
Reads {S} front s (c ∷ cs) left = (next : S) × Stands front s next c (spell_all cs ++ left) × Reads front next cs left

-- ---- the same, a chunk at a time

-- a chunk's header is read, whatever is behind it
abbrev pub Head : {S : Type 0} → (S → List ℕ → Header S) → S → S → Chunk → Type 0
Head front s next c = (after : List ℕ) → front s (header_bytes c.form c.id (length c.body) ++ after) ≡ full_header c.form c.id (length c.body) after next

-- the same of each of some chunks
abbrev pub Heads : {S : Type 0} → (S → List ℕ → Header S) → S → List Chunk → Type 0
Heads front s [] = Unit {0}
Heads {S} front s (c ∷ cs) = (next : S) × Head front s next c × Heads front next cs

-- each pad stands, unless nothing follows it
abbrev pub Pads : List Chunk → List ℕ → Type 0
Pads [] left = Unit {0}
Pads (c ∷ cs) left = PadStands c.form (length c.body) c.pad (spell_all cs ++ left) × Pads cs left

-- bytes in which no header is read
abbrev pub IsRest : {S : Type 0} → (S → List ℕ → Header S) → List ℕ → Type 0
IsRest {S} front left = (s : S) → front s left ≡ too_short

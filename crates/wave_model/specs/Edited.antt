-- What a supported WAVE file is, and what the new file is to the old one (this project's own).
use Rattle.std.specs.Prelude.{◌≡◌, ℕ, zero, suc, ◌+◌, ◌*◌, ◌^◌, ◌≤◌, ◌<◌, List, [], ◌∷◌, ◌++◌, length, map, take, drop, replicate, Bool, true, ◌||◌, codes, if◌then◌else◌}
use Rattle.std.specs.List.{flat_map, AllByRecursion}
use Rattle.std.specs.Int.{w16, from_le_bytes}
use Rattle.part_tree.specs.declared.field.EditItem.{EditItem}
use Rattle.part_tree.specs.declared.field.FieldName.{FieldName}
use Rattle.part_tree.specs.Names.{IsFieldName}
use Rattle.field_model.specs.Update.{RawItem, raw_items, effective, update}
use Rattle.container_model.specs.Chunk.{Form, wide, Chunk, ends}
use Rattle.carrier_model.specs.Info.{one_of, list_run, is_padding}
use Rattle.carrier_model.specs.Lists.{Node, other}
use Rattle.container_model.specs.Ds64.{le32}
use Rattle.wave_model.specs.Wave.{is_big, Wave, wave_of, form_size, form_run}
use Rattle.wave_model.specs.Fields.{has_id, is_bext, is_info, is_marked, bodies, fields, nodes}
use Rattle.wave_model.specs.Carry.{placed}

-- ---- pieces: the blocks of the sound

-- blocks of n bytes, the last one perhaps shorter; a block is at least a byte, so there are no more than bytes
abbrev pub blocks : ℕ → ℕ → List ℕ → List (List ℕ)
blocks zero n b = []
blocks (suc k) n [] = []
blocks (suc k) n (x ∷ b) = take n (x ∷ b) ∷ blocks k n (drop n (x ∷ b))

-- nBlockAlign of `fmt `
abbrev pub block_size : List ℕ → ℕ
block_size f = from_le_bytes w16 (take 2 (drop 12 f))

-- the block size of the first format
abbrev pub first_size : List (List ℕ) → ℕ
first_size [] = 0
first_size (f ∷ fs) = block_size f

-- the bodies of `fmt `
abbrev pub formats : List Chunk → List (List ℕ)
formats cs = bodies (has_id (codes "fmt ")) cs

-- the bodies of `data`
abbrev pub sounds : List Chunk → List (List ℕ)
sounds cs = bodies (has_id (codes "data")) cs

-- the blocks of each sound, by the size that the first `fmt ` tells
abbrev pub blocks_by : List (List ℕ) → List (List ℕ) → List (List (List ℕ))
blocks_by [] ds = []
blocks_by (f ∷ fs) ds = map (λ d. blocks (length d) (block_size f) d) ds

-- the blocks of the sound of some chunks
abbrev pub pieces_in : List Chunk → List (List (List ℕ))
pieces_in cs = blocks_by (formats cs) (sounds cs)

-- the blocks of the sound of a file
abbrev pub pieces : List ℕ → List (List (List ℕ))
pieces b = pieces_in (wave_of b).children

-- ---- what is kept

-- Everything that an edit keeps, in order: the kind of the form, ds64, the chunks, the rest and the tail.
pub record Kept : Type 0 where
  pub kind : List ℕ
  pub form : Form
  pub ds64 : List Node
  pub nodes : List Node
  pub left : List ℕ
  pub tail : List ℕ

-- ds64 without riffSize, where the form's size stands there
abbrev pub ds64_node : Form → Chunk → Node
ds64_node wide c = other c.form c.id (replicate 8 0 ++ drop 8 c.body)
ds64_node _ c = other c.form c.id c.body

-- what a form keeps
abbrev pub kept_in : Wave → Kept
kept_in w = record { kind = w.id; form = w.form; ds64 = map (ds64_node w.form) w.ds64; nodes = nodes w.children; left = w.left; tail = w.tail }

-- what a file keeps
abbrev pub kept_of : List ℕ → Kept
kept_of b = kept_in (wave_of b)

-- the same after an edit
abbrev pub placed_in : List RawItem → Kept → Kept
placed_in e k = record k { nodes = placed e k.nodes }

-- ---- what is supported

-- a chunk that holds fields
abbrev pub is_carrier : Chunk → Bool
is_carrier c = is_info c || is_marked c

-- a list is read to its end, and a carrier has at most 16 MiB
pub record ChunkFine (c : Chunk) : Type 0 where
  pub list_ends : is_info c ≡ true → (list_run c).stop ≡ ends
  pub carrier_small : is_carrier c ≡ true → length c.body ≤ 2 ^ 24

-- a `fmt ` chunk with a block size
abbrev pub IsFormat : List ℕ → Type 0
IsFormat f = (16 ≤ length f) × (0 < block_size f)

-- a chunk, and the children of a list
abbrev pub parts_of : Chunk → List Chunk
parts_of c = if is_info c then c ∷ (list_run c).chunks else c ∷ []

-- the parts of a form: its chunks, and the items of its lists
abbrev pub parts : Wave → ℕ
parts w = length w.ds64 + length (flat_map parts_of w.children)

-- chunks with one format, one sound and at most one `bext`, which is long enough
pub record ChildrenFine (cs : List Chunk) : Type 0 where
  pub each : AllByRecursion ChunkFine cs
  pub one_format : length (formats cs) ≡ 1
  pub are_formats : AllByRecursion IsFormat (formats cs)
  pub one_sound : length (sounds cs) ≡ 1
  pub one_bext : length (bodies is_bext cs) ≤ 1
  pub long_bext : AllByRecursion (λ b. 602 ≤ length b) (bodies is_bext cs)

-- a ds64 of at most 16 MiB that lies in the file and holds its rows
pub record Ds64Fine (b : List ℕ) : Type 0 where
  pub ds64_id : take 4 (drop 12 b) ≡ codes "ds64"
  pub small : le32 (drop 16 b) ≤ 2 ^ 24
  pub long : 28 ≤ le32 (drop 16 b)
  pub holds_rows : 28 + 12 * le32 (drop 44 b) ≤ le32 (drop 16 b)
  pub inside : 20 + le32 (drop 16 b) ≤ length b

-- the identifiers of forms that are read
abbrev pub is_kind : List ℕ → Bool
is_kind id = one_of (codes "RIFF" ∷ []) id || is_big id

-- a form of type WAVE that lies whole in the file, and its chunks in the form
pub record Supported (b : List ℕ) : Type 0 where
  pub form_id : is_kind (take 4 b) ≡ true
  pub form_type : take 4 (drop 8 b) ≡ codes "WAVE"
  pub with_ds64 : is_big (take 4 b) ≡ true → Ds64Fine b
  pub long : 4 ≤ form_size b
  pub inside : 8 + form_size b ≤ length b
  pub chunks_end : (form_run b).stop ≡ ends
  pub children : ChildrenFine (wave_of b).children
  pub few_parts : parts (wave_of b) ≤ 65536

-- ---- the six clauses

-- a JUNK that comes first
abbrev pub junk_first : List Chunk → List Chunk
junk_first [] = []
junk_first (c ∷ cs) = if is_padding c then c ∷ [] else []

-- a JUNK directly behind the form's type
abbrev pub first_junk : Wave → List Chunk
first_junk w = junk_first (w.ds64 ++ w.children)

-- what the new file is to the old one
pub record Edited (o : List ℕ) (e : List EditItem) (n : List ℕ) : Type 0 where
  pub supported : Supported n
  pub reads_back : (name : FieldName) → IsFieldName name → fields n name ≡ update (fields o) e name
  pub kept_in_order : kept_of n ≡ placed_in (raw_items (fields o) e) (kept_of o)
  pub same_pieces : pieces n ≡ pieces o
  pub same_junk : (c : Chunk) → first_junk (wave_of o) ≡ c ∷ [] → first_junk (wave_of n) ≡ c ∷ []
  pub no_effect : effective (fields o) e ≡ [] → n ≡ o

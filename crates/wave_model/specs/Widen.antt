-- A RIFF form that an edit makes larger than 32 bits can tell becomes RF64: its size and that of `data` then stand in ds64
-- (EBU Tech 3306; a JUNK behind the form's type is the room that it reserves for ds64).
use Rattle.std.specs.Prelude.{◌≡◌, ℕ, ◌+◌, ◌-◌, ◌/◌, ◌^◌, List, [], ◌∷◌, ◌++◌, length, map, drop, replicate, Bool, true, false, ◌&&◌, not, nat_le, nat_lt, codes, Option, None, if◌then◌else◌}
use Rattle.std.specs.Int.{w32, w64, to_le_bytes}
use Rattle.part_tree.specs.Large.{Size, limited, first_above}
use Rattle.part_tree.specs.declared.field.EditItem.{EditItem}
use Rattle.field_model.specs.Update.{RawItem, raw_items, effective}
use Rattle.container_model.specs.Chunk.{riff, wide, Chunk, spell, spell_all}
use Rattle.container_model.specs.Splice.{Cut}
use Rattle.container_model.specs.Units.{Piece, copied, replaced, Fill, cut_of}
use Rattle.carrier_model.specs.Info.{is_padding}
use Rattle.carrier_model.specs.RiffForm.{pad_cut}
use Rattle.wave_model.specs.Wave.{is_big, Wave, wave_of, inner, spell_wave}
use Rattle.wave_model.specs.Fields.{has_id, is_info, bodies, fields}
use Rattle.wave_model.specs.New.{fill_of, pieces_of, new_size, new_wave}
use Rattle.wave_model.specs.Room.{has_room}
use Rattle.wave_model.specs.Edited.{formats, sounds, first_size, parts, Kept, ds64_node, placed_in, junk_first, first_junk}
use Rattle.wave_model.specs.Large.{form_sizes}

-- ---- which edits widen

-- an edit of which an item has an effect, and that makes a RIFF form larger than its own field can tell
abbrev pub widens_by : List EditItem → Wave → List RawItem → Bool
widens_by [] w e = false
widens_by (i ∷ is) w e = not (is_big w.id) && nat_lt (2 ^ 32 - 1) (new_size w e)

-- the same of a file
abbrev pub widens : List ℕ → List EditItem → Bool
widens o e = widens_by (effective (fields o) e) (wave_of o) (raw_items (fields o) e)

-- ---- the new ds64

-- a JUNK that can become ds64
abbrev pub is_reserved : Chunk → Bool
is_reserved c = is_padding c && (nat_le 28 (length c.body) && nat_le (length c.body) (2 ^ 24))

-- the one that comes first in a form
abbrev pub reserved : List Chunk → List Chunk
reserved [] = []
reserved (c ∷ cs) = if is_reserved c then c ∷ [] else []

-- the length of the first body, if there is one
abbrev pub first_len : List (List ℕ) → ℕ
first_len [] = 0
first_len (b ∷ bs) = length b

-- a body of so many bytes: riffSize, the size of `data`, its count of blocks, no rows, and zeros
abbrev pub ds64_body : ℕ → ℕ → ℕ → ℕ → List ℕ
ds64_body len size sound count = to_le_bytes w64 size ++ (to_le_bytes w64 sound ++ (to_le_bytes w64 count ++ (to_le_bytes w32 0 ++ replicate (len - 28) 0)))

-- ds64 for a form of this size with these chunks
abbrev pub ds64_for : ℕ → ℕ → List Chunk → List ℕ
ds64_for len size cs = ds64_body len size (first_len (sounds cs)) (first_len (sounds cs) / first_size (formats cs))

-- It takes the place of a reserved JUNK, with its size and its pad; else it is new and has 28 bytes.
abbrev pub new_ds64 : List Chunk → ℕ → List Chunk → Chunk
new_ds64 [] size cs = record { form = riff; id = codes "ds64"; body = ds64_for 28 size cs; pad = [] }
new_ds64 (j ∷ js) size cs = record { form = riff; id = codes "ds64"; body = ds64_for (length j.body) size cs; pad = j.pad }

-- ---- the new file

-- `data`, with its size in ds64
abbrev pub widened_data : Chunk → Chunk
widened_data c = if has_id (codes "data") c then record c { form = wide } else c

-- a form made RF64, of this size, where this JUNK was reserved
abbrev pub widened_to : List Chunk → ℕ → Wave → Wave
widened_to js size w =
    record {
      form = wide;
      id = codes "RF64";
      ds64 = new_ds64 js size w.children ∷ [];
      children = map widened_data (drop (length js) w.children);
      left = w.left;
      pad = w.pad;
      tail = w.tail;
    }

-- of the size that it then has
abbrev pub widened_wave : List Chunk → Wave → Wave
widened_wave js w = widened_to js (length (inner (widened_to js 0 w))) w

-- the form after an edit, by whether it widens
abbrev pub wave_by : Bool → Wave → List RawItem → Wave
wave_by false w e = new_wave w e
wave_by true w e = widened_wave (reserved w.children) (new_wave w e)

-- the form after an edit
abbrev pub wave_after : List ℕ → List EditItem → Wave
wave_after o e = wave_by (widens o e) (wave_of o) (raw_items (fields o) e)

-- the file after an edit
unfoldable pub file_after : List ℕ → List EditItem → List ℕ
file_after o e = spell_wave (wave_after o e)

-- ---- what is too large, and what has room

-- each list, the parts, the form where its size stands in its own field, and the file
abbrev pub sizes_in : Wave → List Size
sizes_in w =
    map (λ b. limited (2 ^ 24) (length b)) (bodies is_info w.children)
    ++ (limited 65536 (parts w) ∷ (form_sizes w.form w.id (length (inner w)) ++ limited (2 ^ 63 - 1) (length (spell_wave w)) ∷ []))

-- nothing is where no item has an effect
abbrev pub large_after_by : List EditItem → Wave → Option Size
large_after_by [] w = None
large_after_by (i ∷ is) w = first_above (sizes_in w)

-- the first size of the new file that passes its limit
abbrev pub large_after : List ℕ → List EditItem → Option Size
large_after o e = large_after_by (effective (fields o) e) (wave_after o e)

-- whether an edit fits in place: none that widens does
abbrev pub room_after : List ℕ → List EditItem → Bool
room_after o e = not (widens o e) && has_room (wave_of o) (raw_items (fields o) e)

-- ---- what is kept

-- the kept parts of a form with these chunks, made RF64
abbrev pub widened : List Chunk → Kept → Kept
widened cs k = record k { kind = codes "RF64"; form = wide; ds64 = ds64_node wide (new_ds64 (reserved cs) 0 cs) ∷ [] }

-- what an edit makes of the kept parts of a file, by whether it widens
abbrev pub placed_by : Bool → List Chunk → List RawItem → Kept → Kept
placed_by false cs e k = placed_in e k
placed_by true cs e k = widened cs (placed_in e k)

-- the same of an edit
abbrev pub placed_after : List ℕ → List EditItem → Kept → Kept
placed_after o e k = placed_by (widens o e) (wave_of o).children (raw_items (fields o) e) k

-- a JUNK in a form that widens: a reserved one becomes a ds64 of its size, and another one stays directly behind the new ds64
abbrev pub WidenedJunk : Bool → Chunk → Wave → Type 0
WidenedJunk true c n = (d : Chunk) × (n.ds64 ≡ d ∷ []) × (length d.body ≡ length c.body)
WidenedJunk false c n = junk_first n.children ≡ c ∷ []

-- what becomes of a JUNK directly behind the form's type: it stays with all its bytes, in a form that doesn't widen
abbrev pub JunkBy : Bool → Chunk → Wave → Type 0
JunkBy false c n = first_junk n ≡ c ∷ []
JunkBy true c n = WidenedJunk (is_reserved c) c n

-- the same of a file, an edit and the new file
abbrev pub JunkStays : List ℕ → List EditItem → List ℕ → Type 0
JunkStays o e n = (c : Chunk) → first_junk (wave_of o) ≡ c ∷ [] → JunkBy (widens o e) c (wave_of n)

-- ---- the spans of the old file that an edit replaces where it widens, container sizes among them

-- the field of the size of `data`, where such a chunk stands at a place
abbrev pub field_cut : ℕ → Chunk → List Cut
field_cut at c = if has_id (codes "data") c then record { at = at + 4; len = 4; bytes = 255 ∷ 255 ∷ 255 ∷ 255 ∷ [] } ∷ [] else []

-- the same of chunks that follow each other
abbrev pub field_cuts : ℕ → List Chunk → List Cut
field_cuts at [] = []
field_cuts at (c ∷ cs) = field_cut at c ++ field_cuts (at + length (spell c)) cs

-- the slots of units, and that field
abbrev pub wide_cuts : Fill → ℕ → List Piece → List Cut
wide_cuts fill at [] = []
wide_cuts fill at (copied c ∷ ps) = field_cut at c ++ wide_cuts fill (at + length (spell c)) ps
wide_cuts fill at (replaced lead slot now last ∷ ps) = field_cuts at lead ++ (cut_of fill at lead slot now last ∷ wide_cuts fill (at + length (spell_all lead ++ slot)) ps)

-- the identifier and the size of the form, ds64 over the reserved JUNK or at 12, the units and `data`, and the form's pad
abbrev pub widened_cuts : List Chunk → Wave → List RawItem → List Cut
widened_cuts js w e =
    let v = widened_wave js (new_wave w e) in
    record { at = 0; len = 8; bytes = codes "RF64" ++ (255 ∷ 255 ∷ 255 ∷ 255 ∷ []) }
    ∷ (record { at = 12; len = length (spell_all js); bytes = spell_all v.ds64 }
    ∷ (wide_cuts (fill_of w) (12 + length (spell_all js)) (drop (length js) (pieces_of w e)) ++ pad_cut (8 + length (inner w)) w.pad v.pad))

-- the same of a file
abbrev pub cuts_widened : List ℕ → List EditItem → List Cut
cuts_widened o e = widened_cuts (reserved (wave_of o).children) (wave_of o) (raw_items (fields o) e)

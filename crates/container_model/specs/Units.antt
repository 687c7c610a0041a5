-- A list of chunks of which some are edited: units, their slots and the padding behind them.
use Rattle.std.specs.Prelude.{ℕ, ◌+◌, List, [], ◌∷◌, ◌++◌, length, map, replicate, Bool, true, false, nat_lt, ◌&&◌, not, if◌then◌else◌}
use Rattle.std.specs.List.{flat_map}
use Rattle.container_model.specs.Chunk.{Chunk, pad_len, spell, spell_all}
use Rattle.container_model.specs.Splice.{Cut}

-- a chunk that is kept, padding, or a chunk that is edited, taken away or new: what stood there, and what stands there now
pub data Cell : Type 0 where
  kept : Chunk → Cell
  gap : Chunk → Cell
  edited : List Chunk → List Chunk → Cell

-- what stood there
abbrev pub was : Cell → List Chunk
was (kept c) = c ∷ []
was (gap c) = c ∷ []
was (edited old now) = old

-- a chunk with its whole pad, as zeros
abbrev pub padded : Chunk → Chunk
padded c = record c { pad = replicate (pad_len c.form (length c.body)) 0 }

-- whether a chunk's pad is missing
abbrev pub lacks_pad : Chunk → Bool
lacks_pad c = nat_lt (length c.pad) (pad_len c.form (length c.body))

-- A chunk that is copied, or a unit: a chunk before it whose pad it brings, the slot, what stands there now, and
-- whether the slot ends the list.
pub data Piece : Type 0 where
  copied : Chunk → Piece
  replaced : List Chunk → List ℕ → List Chunk → Bool → Piece

-- a unit that has begun, or none
pub data Slot : Type 0 where
  shut : Slot
  begun : List Chunk → List ℕ → List Chunk → Slot

-- no cells
abbrev pub is_empty : List Cell → Bool
is_empty [] = true
is_empty (x ∷ xs) = false

-- a unit that ends here, where one has begun
abbrev pub closed : Bool → Slot → List Piece
closed last shut = []
closed last (begun lead slot now) = replaced lead slot now last ∷ []

-- a chunk that is kept, where a unit behind it brings its pad, and else
abbrev pub kept_next : Bool → Chunk → (Slot → List Piece) → List Piece
kept_next true c more = more (begun (c ∷ []) [] [])
kept_next false c more = copied c ∷ more shut

-- A unit is a run of edited places with only padding between them; its slot goes on through the padding behind it.
unfoldable pub units : Slot → List Cell → List Piece
units s [] = closed true s
units s (kept c ∷ xs) = closed false s ++ kept_next (lacks_pad c && not (is_empty xs)) c (λ t. units t xs)
units shut (gap c ∷ xs) = kept_next (lacks_pad c && not (is_empty xs)) c (λ t. units t xs)
units (begun lead slot now) (gap c ∷ xs) = units (begun lead (slot ++ spell c) now) xs
units shut (edited old new ∷ xs) = units (begun [] (spell_all old) new) xs
units (begun lead slot now) (edited old new ∷ xs) = units (begun lead (slot ++ spell_all old) (now ++ new)) xs

-- the bytes that stood there
abbrev pub old_bytes : Piece → List ℕ
old_bytes (copied c) = spell c
old_bytes (replaced lead slot now last) = spell_all lead ++ slot

-- the unit's spelling
abbrev pub lead_pad : List Chunk → List ℕ
lead_pad [] = []
lead_pad (c ∷ cs) = 0 ∷ []

-- the bytes that stand in a unit's slot, before its padding
abbrev pub unit_bytes : List Chunk → List Chunk → List ℕ
unit_bytes lead now = lead_pad lead ++ spell_all now

-- What stands there now: fill gives the padding of a unit, by whether its slot ends the list, its slot and the length of its spelling.
abbrev pub Fill : Type 0
Fill = Bool → List ℕ → ℕ → List Chunk

-- the chunks that stand where a piece was
abbrev pub now_chunks : Fill → Piece → List Chunk
now_chunks fill (copied c) = c ∷ []
now_chunks fill (replaced lead slot now last) = map padded lead ++ (now ++ fill last slot (length (unit_bytes lead now)))

-- the chunks that stand where some pieces were
abbrev pub lay : Fill → List Piece → List Chunk
lay fill ps = flat_map (now_chunks fill) ps

-- the slots and what replaces them, where the first piece stands at a place
abbrev pub cut_of : Fill → ℕ → List Chunk → List ℕ → List Chunk → Bool → Cut
cut_of fill at lead slot now last =
    record { at = at + length (spell_all lead); len = length slot; bytes = unit_bytes lead now ++ spell_all (fill last slot (length (unit_bytes lead now))) }

-- the slots of pieces that begin at a place, and what replaces them
abbrev pub cuts : Fill → ℕ → List Piece → List Cut
cuts fill at [] = []
cuts fill at (copied c ∷ ps) = cuts fill (at + length (spell c)) ps
cuts fill at (replaced lead slot now last ∷ ps) = cut_of fill at lead slot now last ∷ cuts fill (at + length (spell_all lead ++ slot)) ps

-- A chunk without its pad, where it isn't padding: what is left of a list when padding, pads and places are not looked at.
abbrev pub solid : (List ℕ → Bool) → Chunk → List Chunk
solid is_padding c = if is_padding c.id then [] else record c { pad = [] } ∷ []

-- the same of a list
abbrev pub solids : (List ℕ → Bool) → List Chunk → List Chunk
solids is_padding cs = flat_map (solid is_padding) cs

-- what stands there now, padding apart
abbrev pub live : Cell → List Chunk
live (kept c) = c ∷ []
live (gap c) = []
live (edited old now) = now

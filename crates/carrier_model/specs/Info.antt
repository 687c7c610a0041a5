-- The list of INFO items in RIFF, and the padding of a unit there. (Microsoft and IBM, Multimedia Programming Interface
-- and Data Specifications 1.0, "INFO list chunk"; the room of a unit is this project's own.)
use Rattle.std.specs.Prelude.{◌≡◌, ◌<◌, ℕ, ◌+◌, ◌-◌, ◌%◌, ◌^◌, ◌==◌, List, [], ◌∷◌, ◌++◌, length, map, take, drop, Bool, true, false, ◌&&◌, ◌||◌, nat_le, nat_lt, codes, if◌then◌else◌}
use Rattle.std.specs.Str.{bytes_eq}
use Rattle.std.specs.List.{AllByRecursion, list_any}
use Rattle.part_tree.specs.Names.{info_ids}
use Rattle.container_model.specs.Chunk.{Form, riff, wide, short, long, to_end, Chunk, spell_all, Run, ends, chunks}
use Rattle.container_model.specs.Sizes.{plain, riff_front}
use Rattle.container_model.specs.Units.{Fill, padded}
use Rattle.container_model.specs.Items.{Items, Item, put_all, Carrier}

-- A chunk whose size isn't in its own field holds no fields and is no padding.
abbrev pub own_size : Form → Bool
own_size riff = true
own_size wide = false
own_size short = true
own_size long = true
own_size to_end = true

-- JUNK of RIFF is padding
abbrev pub is_padding : Chunk → Bool
is_padding c = own_size c.form && bytes_eq c.id (codes "JUNK")

-- a LIST of a type
abbrev pub is_type : List ℕ → Chunk → Bool
is_type w c = own_size c.form && (bytes_eq c.id (codes "LIST") && bytes_eq (take 4 c.body) w)

-- the chunks of a list
abbrev pub list_run : Chunk → Run
list_run c = chunks riff_front plain (drop 4 c.body)

-- a new chunk, with a pad of 0 where there is one
abbrev pub made : List ℕ → List ℕ → Chunk
made id body = padded (record { form = riff; id = id; body = body; pad = [] })

-- a list anew: each pad is 0
abbrev pub remade : Chunk → Chunk
remade c = made c.id c.body

-- a list of INFO items and a rest
abbrev pub list_of : List Chunk → List ℕ → Chunk
list_of items rest = made (codes "LIST") (codes "INFO" ++ (spell_all (map remade items) ++ rest))

-- an identifier among some
abbrev pub one_of : List (List ℕ) → List ℕ → Bool
one_of xs id = list_any (bytes_eq id) xs

-- An item's body is its one value, where its identifier is a field's.
abbrev pub info_items : Items (List ℕ)
info_items = record { name_of = λ c. c.id; holds = λ c. if one_of info_ids c.id then c.body ∷ [] else []; make = λ id raw. made id raw }

-- LIST INFO as a carrier: its items are the chunks behind its type
abbrev pub info : Carrier
info = record { is = is_type (codes "INFO"); opening = list_run; closing = λ c items rest. list_of items rest; fresh = λ items. list_of items [] }

-- an edit of INFO fields
abbrev pub SetsInfo : List (Item (List ℕ)) → Type 0
SetsInfo e = AllByRecursion (λ i. one_of info_ids i.name ≡ true) e

-- items that a size of 32 bits can tell
abbrev pub ItemsSmall : List Chunk → Type 0
ItemsSmall items = length (spell_all (map remade items)) < 2 ^ 32

-- a list that is read to its end, and that an edit leaves short enough for its size
abbrev pub InfoReady : List (Item (List ℕ)) → Chunk → Type 0
InfoReady e c = ((list_run c).stop ≡ ends) × ItemsSmall (put_all info_items e (list_run c).chunks)

-- ---- the padding of a unit

-- its body: the last bytes of the slot, behind the spelling and a header, where they are as many as a padding can have
abbrev pub room : ℕ → List ℕ → ℕ → List ℕ
room free slot s =
    if (free % 2 == 0) && (nat_le 8 free && nat_lt free (2 ^ 32)) then drop (s + 8) slot
    else (if (free % 2 == 1) && (nat_le 9 free && nat_lt free (2 ^ 32)) then drop (s + 7) slot else [])

-- a padding, or none
abbrev pub fill_by : List ℕ → ℕ → Bool → List Chunk
fill_by slot s true = []
fill_by slot s false = made (codes "JUNK") (room (length slot - s) slot s) ∷ []

-- A unit has a padding where its spelling is shorter than its slot and the slot doesn't end the file.
abbrev pub riff_fill : Bool → Fill
riff_fill ends_file last slot s = fill_by slot s (nat_le (length slot) s || (ends_file && last))

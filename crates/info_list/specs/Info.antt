-- The items of a list as the chunks of its body, and their spelling.
use Rattle.std.specs.Prelude.{◌≡◌, ◌≤◌, ◌<◌, ℕ, ◌^◌, ◌%◌, List, map, length, drop, replicate, [], Result}
use Rattle.std.specs.List.{AllByRecursion}
use Rattle.std.specs.declared.result.Result.TheVariants.{Ok, Err}
use Rattle.container_model.specs.Chunk.{riff, Chunk, Run, ends, passes, spell, spell_all, chunks}
use Rattle.container_model.specs.Sizes.{plain, riff_front}
use Rattle.container_model.specs.Deep.{Token}
use Rattle.container_model.specs.Items.{item_token}
use Rattle.carrier_model.specs.Info.{info_items, list_of, made, remade}
use Rattle.part_tree.specs.Letters.{four}
use Rattle.info_list.specs.declared.InfoItem.{InfoItem}
use Rattle.info_list.specs.declared.InfoList.{InfoList}
use Rattle.info_list.specs.declared.InfoFault.{InfoFault}
use Rattle.info_list.specs.declared.InfoFault.TheVariants.{Truncated, Memory}

-- the item that a chunk is
abbrev pub item_of : Chunk → InfoItem
item_of c = record { id = four c.id; raw = c.body }

-- the chunks behind the word INFO
abbrev pub items_run : List ℕ → Run
items_run body = chunks riff_front plain body

-- the items and the rest of a body that is read to its end
pub record IsInfo (body : List ℕ) (list : InfoList) : Type 0 where
  pub stop : (items_run body).stop ≡ ends
  pub items : list.items ≡ map item_of (items_run body).chunks
  pub rest : list.rest ≡ (items_run body).left

-- the place of the item that ends past the body
pub record CutInfo (body : List ℕ) (at : ℕ) : Type 0 where
  pub stop : (items_run body).stop ≡ passes
  pub place : at ≡ length (spell_all (items_run body).chunks)

abbrev pub ReadsInfo : List ℕ → Result InfoList InfoFault → Type 0
ReadsInfo body (Ok list) = IsInfo body list
ReadsInfo body (Err (Truncated at)) = CutInfo body at
ReadsInfo body (Err Memory) = Unit {0}

-- the place lies within so many bytes
abbrev pub IsWithin : InfoFault → ℕ → Type 0
IsWithin (Truncated at) n = at ≤ n
IsWithin Memory n = Unit {0}

-- ---- the spelling

-- the chunk that an item is, without a pad
abbrev pub chunk_of : InfoItem → Chunk
chunk_of i = record { form = riff; id = i.id.0; body = i.raw; pad = [] }

-- the list of these items and this rest, each pad there and 0
abbrev pub list_chunk : InfoList → Chunk
list_chunk list = list_of (map chunk_of list.items) list.rest

-- an item, with a pad of 0 where its length is odd
abbrev pub item_bytes : InfoItem → List ℕ
item_bytes i = spell (remade (chunk_of i))

-- ---- the items as the chunks that they are spelled as

-- an item's chunk, with a pad of 0 where there is one
abbrev pub made_of : InfoItem → Chunk
made_of i = made i.id.0 i.raw

-- the chunks of a list's items
abbrev pub chunks_of : InfoList → List Chunk
chunks_of list = map made_of list.items

-- the marks of the items that are fields, and the others as they stand
abbrev pub tokens_of : InfoList → List Token
tokens_of list = map (item_token info_items) (chunks_of list)

-- ---- a list that can be read again

-- the bytes behind the word INFO
abbrev pub inner : InfoList → List ℕ
inner list = drop 4 (list_chunk list).body

-- A list that can be spelled: identifiers of four bytes, a rest shorter than a header, and a body with a size of 32 bits.
pub record IsSpellable (list : InfoList) : Type 0 where
  pub ids : AllByRecursion (λ i. length i.id.0 ≡ 4) list.items
  pub short : length list.rest < 8
  pub small : length (list_chunk list).body < 2 ^ 32

-- the pad behind so many bytes
abbrev pub pad_of : ℕ → List ℕ
pad_of n = replicate (n % 2) 0

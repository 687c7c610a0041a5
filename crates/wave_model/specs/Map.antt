-- What a reader tells of a WAVE file: its parts with their roles, the end of its form, its sound and the size of a block.
use Rattle.std.specs.Prelude.{ℕ, ◌+◌, List, [], ◌∷◌, ◌++◌, length, map, take, drop, ◌&&◌, codes, if◌then◌else◌}
use Rattle.std.specs.List.{flat_map}
use Rattle.part_tree.specs.Letters.{four}
use Rattle.part_tree.specs.Names.{whole_ids}
use Rattle.part_tree.specs.Parts.{rest_parts}
use Rattle.part_tree.specs.declared.names.Span.{Span}
use Rattle.part_tree.specs.declared.part.Part.{Part}
use Rattle.part_tree.specs.declared.part.Role.{Role}
use Rattle.part_tree.specs.declared.part.Role.TheVariants.{Opaque, Padding, Bext, Info, Whole, Sizes, Essence}
use Rattle.container_model.specs.Chunk.{Chunk, spell, spell_all, Run}
use Rattle.carrier_model.specs.Info.{own_size, is_padding, one_of, list_run}
use Rattle.wave_model.specs.Wave.{form_size, Wave, wave_of, inner}
use Rattle.wave_model.specs.Fields.{has_id, is_bext, is_info}
use Rattle.wave_model.specs.New.{children_at}
use Rattle.wave_model.specs.Edited.{formats, first_size}

-- ---- parts

-- a chunk's body in the file, behind a header of eight bytes
abbrev pub body_span : ℕ → Chunk → Span
body_span at c = record { at = at + 8; len = length c.body }

-- what a chunk of the form is to an edit, where padding may stand
abbrev pub role_of : Chunk → Role
role_of c =
    if is_padding c then Padding
    else (if is_bext c then Bext else (if is_info c then Info else (if own_size c.form && one_of whole_ids c.id then Whole else (if has_id (codes "data") c then Essence else Opaque))))

-- A JUNK directly behind the form's type is opaque.
abbrev pub first_role : Chunk → Role
first_role c = if is_padding c then Opaque else role_of c

-- a chunk as a part
abbrev pub part : Role → ℕ → Chunk → Part
part role at c = record { id = four c.id; at = at; body = body_span at c; next = at + length (spell c); role = role }

-- the items of a list
abbrev pub item_parts : ℕ → List Chunk → List Part
item_parts at [] = []
item_parts at (c ∷ cs) = part Opaque at c ∷ item_parts (at + length (spell c)) cs

-- the items of a list behind its type, and its rest
abbrev pub list_parts : ℕ → Run → List Part
list_parts at r = item_parts at r.chunks ++ rest_parts (at + length (spell_all r.chunks)) r.left

-- a chunk of the form, and what stands in a list of type INFO
abbrev pub chunk_parts : Role → ℕ → Chunk → List Part
chunk_parts role at c = part role at c ∷ (if is_info c then list_parts (at + 12) (list_run c) else [])

-- chunks that follow each other from a place on
abbrev pub later_parts : ℕ → List Chunk → List Part
later_parts at [] = []
later_parts at (c ∷ cs) = chunk_parts (role_of c) at c ++ later_parts (at + length (spell c)) cs

-- behind ds64, or first in the form
abbrev pub parts_behind : List Chunk → ℕ → List Chunk → List Part
parts_behind [] at [] = []
parts_behind [] at (c ∷ cs) = chunk_parts (first_role c) at c ++ later_parts (at + length (spell c)) cs
parts_behind (d ∷ ds) at cs = later_parts at cs

-- ds64 stands at 12
abbrev pub ds64_parts : List Chunk → List Part
ds64_parts [] = []
ds64_parts (d ∷ ds) = part Sizes 12 d ∷ []

-- the rest of a form, and the tail behind its pad
abbrev pub rests_in : Wave → List Part
rests_in w = rest_parts (children_at w + length (spell_all w.children)) w.left ++ rest_parts (8 + length (inner w) + length w.pad) w.tail

-- the parts of a form
abbrev pub parts_in : Wave → List Part
parts_in w = ds64_parts w.ds64 ++ (parts_behind w.ds64 (children_at w) w.children ++ rests_in w)

-- the parts of a file, in the order of reading
abbrev pub parts_of_file : List ℕ → List Part
parts_of_file b = parts_in (wave_of b)

-- a rest, if there are bytes
abbrev pub rest_bodies : List ℕ → List (List ℕ)
rest_bodies [] = []
rest_bodies (x ∷ b) = (x ∷ b) ∷ []

-- the body of a chunk, and of what stands in a list of type INFO
abbrev pub bodies_of : Chunk → List (List ℕ)
bodies_of c = c.body ∷ (if is_info c then map (λ d. d.body) (list_run c).chunks ++ rest_bodies (list_run c).left else [])

-- the bodies of the parts, in this order
abbrev pub bodies_in : Wave → List (List ℕ)
bodies_in w = map (λ d. d.body) w.ds64 ++ (flat_map bodies_of w.children ++ (rest_bodies w.left ++ rest_bodies w.tail))

-- the bytes of a part's body in a file
abbrev pub told_body : List ℕ → Part → List ℕ
told_body b p = take p.body.len (drop p.body.at b)

-- ---- the form, the sound and its blocks

-- where the form ends
abbrev pub form_end : List ℕ → ℕ
form_end b = 8 + form_size b

-- no bytes
abbrev pub no_span : Span
no_span = record { at = 0; len = 0 }

-- the body of the first `data` chunk, from a place on
abbrev pub sound_from : ℕ → List Chunk → Span
sound_from at [] = no_span
sound_from at (c ∷ cs) = if has_id (codes "data") c then body_span at c else sound_from (at + length (spell c)) cs

-- the body of `data`
abbrev pub sound : List ℕ → Span
sound b = sound_from (children_at (wave_of b)) (wave_of b).children

-- nBlockAlign of `fmt `
abbrev pub align : List ℕ → ℕ
align b = first_size (formats (wave_of b).children)

-- The fields of a WAVE file: the ranges of `bext` (EBU Tech 3285), the items of LIST INFO, and chunks that are fields as a
-- whole (`axml`, `iXML`, `_PMX`, `MD5 `). And the nodes that an edit keeps.
use Rattle.std.specs.Prelude.{ℕ, List, [], ◌∷◌, map, Bool, ◌&&◌, codes, if◌then◌else◌}
use Rattle.std.specs.Str.{bytes_eq}
use Rattle.std.specs.List.{flat_map}
use Rattle.part_tree.specs.declared.field.FieldName.{FieldName}
use Rattle.part_tree.specs.declared.field.FieldName.TheVariants.{Bext, Info, Whole}
use Rattle.part_tree.specs.Names.{bext_row, whole_ids}
use Rattle.field_model.specs.Bext.{range_of}
use Rattle.field_model.specs.Fields.{FieldMap, plain}
use Rattle.container_model.specs.Chunk.{riff, Chunk}
use Rattle.carrier_model.specs.Info.{own_size, is_padding, is_type, one_of, info, info_items}
use Rattle.carrier_model.specs.Lists.{list_values, Node, sign, other, nodes_in}
use Rattle.wave_model.specs.Wave.{wave_of}

-- ---- the carriers of fields

-- a chunk of an identifier
abbrev pub has_id : List ℕ → Chunk → Bool
has_id id c = bytes_eq id c.id

-- A chunk whose size stands in ds64 holds no fields.
abbrev pub is_bext : Chunk → Bool
is_bext c = own_size c.form && has_id (codes "bext") c

-- a chunk that is the field of an identifier as a whole
abbrev pub is_whole : List ℕ → Chunk → Bool
is_whole id c = own_size c.form && (one_of whole_ids id && has_id id c)

-- a list of INFO items
abbrev pub is_info : Chunk → Bool
is_info c = is_type (codes "INFO") c

-- ---- values

-- the bodies of the chunks that meet a test
abbrev pub body_in : (Chunk → Bool) → Chunk → List (List ℕ)
body_in p c = if p c then c.body ∷ [] else []

-- the bodies of all chunks that meet a test
abbrev pub bodies : (Chunk → Bool) → List Chunk → List (List ℕ)
bodies p cs = flat_map (body_in p) cs

-- the values of a name, as bytes
abbrev pub raws_of : List Chunk → FieldName → List (List ℕ)
raws_of cs (Bext field) = map (range_of (bext_row field)) (bodies is_bext cs)
raws_of cs (Info id) = list_values info info_items id.0 cs
raws_of cs (Whole id) = bodies (is_whole id.0) cs
raws_of cs name = []

-- the fields of some chunks
abbrev pub fields_of : List Chunk → FieldMap
fields_of cs name = map plain (raws_of cs name)

-- the fields of a file
abbrev pub fields : List ℕ → FieldMap
fields b = fields_of (wave_of b).children

-- ---- nodes

-- `bext` and whole chunks are bare marks; padding has no node, and a pad is in none.
abbrev pub is_marked : Chunk → Bool
is_marked c = own_size c.form && one_of (codes "bext" ∷ whole_ids) c.id

-- the node of a chunk that is no list
abbrev pub plain_nodes : Chunk → List Node
plain_nodes c = if is_padding c then [] else (if is_marked c then sign c.id ∷ [] else other riff c.id c.body ∷ [])

-- the node of a chunk
abbrev pub nodes_of : Chunk → List Node
nodes_of c = nodes_in info info_items plain_nodes c

-- the nodes of all chunks
abbrev pub nodes : List Chunk → List Node
nodes cs = flat_map nodes_of cs

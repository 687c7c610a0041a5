-- What an edit in raw bytes makes of the chunks of a form, and of their nodes.
use Rattle.std.specs.Prelude.{ℕ, zero, suc, List, [], ◌∷◌, map, Bool, true, false, codes, Option, Some, None, option_map, if◌then◌else◌}
use Rattle.std.specs.Str.{bytes_eq}
use Rattle.std.specs.List.{flat_map, list_any}
use Rattle.part_tree.specs.declared.field.FieldName.{FieldName}
use Rattle.part_tree.specs.declared.field.FieldName.TheVariants.{Info, Whole}
use Rattle.part_tree.specs.declared.field.Value.{Value}
use Rattle.part_tree.specs.Names.{info_ids, whole_ids}
use Rattle.field_model.specs.Bext.{new_body}
use Rattle.field_model.specs.Body.{edited_bext}
use Rattle.field_model.specs.Update.{RawItem}
use Rattle.field_model.specs.Update as update
use Rattle.container_model.specs.Chunk.{Chunk}
use Rattle.container_model.specs.Items.{Item}
use Rattle.carrier_model.specs.Cells.{Change, become, Test, never, behind, before, Act, nothing, change, add}
use Rattle.carrier_model.specs.Info.{made, one_of, info, info_items}
use Rattle.carrier_model.specs.Lists.{lists_act, Node, list, sign, other, place_lists, insert_node}
use Rattle.carrier_model.specs.Steps.{Step}
use Rattle.wave_model.specs.Fields.{is_bext, is_whole}

-- the bytes of a value
abbrev pub raw : Value → List ℕ
raw v = v.raw

-- ---- the items for each carrier

-- an item on an INFO field, for the carrier of INFO items
abbrev pub info_item : FieldName → Option Value → List (Item (List ℕ))
info_item (Info id) value = if one_of info_ids id.0 then record { name = id.0; value = option_map raw value } ∷ [] else []
info_item _ value = []

-- the items on INFO fields
abbrev pub info_part : List RawItem → List (Item (List ℕ))
info_part e = flat_map (λ i. info_item i.name i.value) e

-- whether an item is on a field of `bext`
abbrev pub edits_bext : List RawItem → Bool
edits_bext e = list_any (λ i. update.is_bext i.name) e

-- whether a name is that of a whole chunk
abbrev pub names_whole : List ℕ → FieldName → Bool
names_whole w (Whole id) = bytes_eq id.0 w
names_whole w _ = false

-- what the last item on a whole chunk sets or takes away, if there is one
abbrev pub or_last : Option (Option Value) → Option (Option Value) → Option (Option Value)
or_last a None = a
or_last a (Some b) = Some b

-- what the items make of a whole chunk, if one of them names it
abbrev pub whole_part : List ℕ → List RawItem → Option (Option Value)
whole_part w [] = None
whole_part w (i ∷ e) = or_last (if names_whole w i.name then Some i.value else None) (whole_part w e)

-- ---- `bext`

-- whether a chunk meets a test
abbrev pub some_chunk : (Chunk → Bool) → List Chunk → Bool
some_chunk p cs = list_any p cs

-- the chunk `fmt `
abbrev pub is_format : Test
is_format id body = bytes_eq id (codes "fmt ")

-- it is edited where it stands; a new one comes directly before `fmt `
abbrev pub bext_by : List RawItem → Bool → Bool → Act
bext_by e false there = nothing
bext_by e true true = change is_bext (λ n c. become (made (codes "bext") (edited_bext e c.body) ∷ []))
bext_by e true false = add before is_format (made (codes "bext") (edited_bext e new_body))

-- the edit of `bext`
abbrev pub bext_act : List RawItem → List Chunk → Act
bext_act e cs = bext_by e (edits_bext e) (some_chunk is_bext cs)

-- ---- chunks that are fields as a whole

-- the first one is replaced, and the others are taken away
abbrev pub first_becomes : List Chunk → ℕ → Chunk → Change
first_becomes new zero c = become new
first_becomes new (suc n) c = become []

-- the edit of a whole chunk, by what the items make of it and whether it is there
abbrev pub whole_by : List ℕ → Option (Option Value) → Bool → Act
whole_by w None there = nothing
whole_by w (Some None) there = change (is_whole w) (first_becomes [])
whole_by w (Some (Some v)) true = change (is_whole w) (first_becomes (made w v.raw ∷ []))
whole_by w (Some (Some v)) false = add behind never (made w v.raw)

-- the edit of the chunks of an identifier
abbrev pub whole_act : List ℕ → List RawItem → List Chunk → Act
whole_act w e cs = whole_by w (whole_part w e) (some_chunk (is_whole w) cs)

-- ---- all of them, in this order; so new ones come last as LIST INFO, `axml`, `iXML`, `_PMX`, `MD5 `

-- the parts of an edit
abbrev pub steps : List RawItem → List Step
steps e = bext_act e ∷ lists_act info info_items never (info_part e) ∷ map (λ w. whole_act w e) whole_ids

-- ---- where the nodes stand after an edit

-- whether a node is the mark of an identifier
abbrev pub is_sign : List ℕ → Node → Bool
is_sign w (list ts rest) = false
is_sign w (sign id) = bytes_eq w id
is_sign w (other form id body) = false

-- whether one of some is
abbrev pub has_sign : List ℕ → List Node → Bool
has_sign w k = list_any (is_sign w) k

-- the nodes without the marks of an identifier
abbrev pub without_sign : List ℕ → List Node → List Node
without_sign w [] = []
without_sign w (x ∷ k) = if is_sign w x then without_sign w k else x ∷ without_sign w k

-- the nodes with the first such mark alone
abbrev pub first_sign : List ℕ → List Node → List Node
first_sign w [] = []
first_sign w (x ∷ k) = if is_sign w x then x ∷ without_sign w k else x ∷ first_sign w k

-- the mark of `bext` stays; a new one comes directly before `fmt `
abbrev pub place_bext_by : List Node → Bool → Bool → List Node
place_bext_by k false there = k
place_bext_by k true true = k
place_bext_by k true false = insert_node before is_format (sign (codes "bext")) k

-- the nodes after the edit of `bext`
abbrev pub place_bext : List RawItem → List Node → List Node
place_bext e k = place_bext_by k (edits_bext e) (has_sign (codes "bext") k)

-- setting a whole chunk keeps its first mark, removing takes all away; a new one comes last
abbrev pub place_whole_by : List ℕ → List Node → Option (Option Value) → Bool → List Node
place_whole_by w k None there = k
place_whole_by w k (Some None) there = without_sign w k
place_whole_by w k (Some (Some v)) true = first_sign w k
place_whole_by w k (Some (Some v)) false = insert_node behind never (sign w) k

-- the nodes after the edit of a whole chunk
abbrev pub place_whole : List RawItem → List ℕ → List Node → List Node
place_whole e w k = place_whole_by w k (whole_part w e) (has_sign w k)

-- the nodes after the edits of some whole chunks
abbrev pub place_wholes : List RawItem → List (List ℕ) → List Node → List Node
place_wholes e [] k = k
place_wholes e (w ∷ ws) k = place_wholes e ws (place_whole e w k)

-- where the nodes stand after an edit
abbrev pub placed : List RawItem → List Node → List Node
placed e k = place_wholes e whole_ids (place_lists never (info_part e) (place_bext e k))

-- What a reader tells of an AVI file: its parts with their roles, its forms, its essence, its index chunks, and how many entries are counted.
use Rattle.std.specs.Prelude.{ℕ, ◌+◌, ◌-◌, ◌==◌, filter, List, [], ◌∷◌, ◌++◌, length, map, Bool, true, false, ◌&&◌, ◌||◌, not, codes, if◌then◌else◌}
use Rattle.part_tree.specs.Letters.{four}
use Rattle.part_tree.specs.declared.names.Span.{Span}
use Rattle.part_tree.specs.declared.part.Part.{Part}
use Rattle.part_tree.specs.declared.part.Role.{Role}
use Rattle.part_tree.specs.declared.part.Role.TheVariants.{Opaque, Padding, Info, Tables, Essence}
use Rattle.part_tree.specs.Parts.{rest_parts}
use Rattle.container_model.specs.Chunk.{Chunk, spell, spell_all}
use Rattle.container_model.specs.Written.{slice}
use Rattle.container_model.specs.Stood.{stood}
use Rattle.carrier_model.specs.Info.{is_type, is_padding, list_run}
use Rattle.avi_model.specs.Avi.{forms, avi_of, has_id, is_movi, essence, body_span, first_movi}
use Rattle.container_model.specs.Tables.{Table, count_rows}
use Rattle.opendml_index.specs.Index.{is_super, entries, entry_length}
use Rattle.avi_model.specs.Index.{indexes, base, olds, spans}
use Rattle.avi_index.specs.Rows.{old_rows}
use Rattle.avi_index.specs.Found.{counted}

-- ---- parts

-- a chunk at a place as a part
abbrev pub part : Role → ℕ → Chunk → Part
part role at c = record { id = four c.id; at = at; body = record { at = at + 8; len = length c.body }; next = at + length (spell c); role = role }

-- this role where a test holds
abbrev pub role_where : Bool → Role → Role
role_where true role = role
role_where false role = Opaque

-- chunks from a place on, of which none is opened
abbrev pub plain_parts : (Chunk → Role) → ℕ → List Chunk → List Part
plain_parts role at [] = []
plain_parts role at (c ∷ cs) = part (role c) at c ∷ plain_parts role (at + length (spell c)) cs

-- the chunks of a list or a form, behind its type
abbrev pub kid_parts : (Chunk → Role) → ℕ → Chunk → List Part
kid_parts role at c = plain_parts role (at + 12) (list_run c).chunks

-- the rest of a list or a form
abbrev pub list_rest : ℕ → Chunk → List Part
list_rest at c = rest_parts (at + 12 + length (spell_all (list_run c).chunks)) (list_run c).left

-- an item of a list of fields stands with its list
abbrev pub item_role : Chunk → Role
item_role c = Opaque

-- in strl `indx` is a table
abbrev pub stream_role : Chunk → Role
stream_role c = role_where (has_id (codes "indx") c) Tables

-- in hdrl each strl is opened
abbrev pub stream_parts : ℕ → List Chunk → List Part
stream_parts at [] = []
stream_parts at (c ∷ cs) = part Opaque at c ∷ ((if is_type (codes "strl") c then kid_parts stream_role at c ++ list_rest at c else []) ++ stream_parts (at + length (spell c)) cs)

-- in the first form the first hdrl is opened, and each list of fields
abbrev pub inside_parts : Bool → Bool → ℕ → Chunk → List Part
inside_parts true info at c = stream_parts (at + 12) (list_run c).chunks ++ list_rest at c
inside_parts false true at c = kid_parts item_role at c ++ list_rest at c
inside_parts false false at c = []

-- a chunk of the first form: padding, fields, essence, the first `idx1`, or another
abbrev pub top_role : Bool → Chunk → Role
top_role indexed c =
    if is_padding c then Padding
    else (if is_type (codes "INFO") c then Info else (if is_movi c then Essence else role_where (not indexed && has_id (codes "idx1") c) Tables))

-- the chunks of the first form, behind a first hdrl or not, and behind a first `idx1` or not
abbrev pub top_parts : Bool → Bool → ℕ → List Chunk → List Part
top_parts seen indexed at [] = []
top_parts seen indexed at (c ∷ cs) =
    part (top_role indexed c) at c
    ∷ (inside_parts (not seen && is_type (codes "hdrl") c) (is_type (codes "INFO") c) at c
    ++ top_parts (seen || is_type (codes "hdrl") c) (indexed || has_id (codes "idx1") c) (at + length (spell c)) cs)

-- a chunk of a further form: essence or another
abbrev pub further_role : Chunk → Role
further_role c = role_where (is_movi c) Essence

-- the chunks of further forms
abbrev pub further_parts : ℕ → List Chunk → List Part
further_parts at [] = []
further_parts at (c ∷ cs) = kid_parts further_role at c ++ (list_rest at c ++ further_parts (at + length (spell c)) cs)

-- the chunks of all forms
abbrev pub form_parts : List Chunk → List Part
form_parts [] = []
form_parts (c ∷ cs) = top_parts false false 12 (list_run c).chunks ++ (list_rest 0 c ++ further_parts (length (spell c)) cs)

-- the parts of a file, in the order of reading; the tail is the last one
abbrev pub parts_of : List ℕ → List Part
parts_of b = form_parts (forms b).chunks ++ rest_parts (length (spell_all (forms b).chunks)) (forms b).left

-- ---- forms, essence and tables

-- the bytes of a span
abbrev pub bytes_in : List ℕ → Span → List ℕ
bytes_in b s = slice b s.at s.len

-- the bodies of the forms
abbrev pub form_spans : List ℕ → List Span
form_spans b = map body_span (stood 0 (forms b).chunks)

-- the bodies of the movi lists of all forms, in file order
abbrev pub essence_spans : List ℕ → List Span
essence_spans b = map body_span (essence (avi_of b))

-- the bytes of these behind their type words
abbrev pub behind_words : List Span → ℕ
behind_words [] = 0
behind_words (s ∷ ss) = (s.len - 4) + behind_words ss

-- how many bytes the essence has
abbrev pub essence_bytes : List ℕ → ℕ
essence_bytes b = behind_words (essence_spans b)

-- the super indexes of the streams
abbrev pub supers : List ℕ → List Table
supers b = filter (λ t. is_super t.body) (indexes b)

-- the standard indexes: those of the streams, and those that super indexes name
abbrev pub standards : List ℕ → List Table
standards b = filter (λ t. not (is_super t.body)) (indexes b)

-- ---- how many entries are counted

-- the entries of idx1, if there is one
abbrev pub count_olds : (List ℕ → Bool) → List Table → ℕ
count_olds test [] = 0
count_olds test (t ∷ ts) = count_rows test (old_rows t.body)

-- the entries of standard indexes
abbrev pub count_standards : List Table → ℕ
count_standards [] = 0
count_standards (t ∷ ts) = count_rows (λ r. not (entry_length r == 0)) (entries t.body) + count_standards ts

-- the counted entries of idx1 and of all standard indexes together
abbrev pub counted_entries : List ℕ → ℕ
counted_entries b = count_olds (counted (base b) (first_movi (avi_of b)) (spans (indexes b))) (olds b) + count_standards (standards b)

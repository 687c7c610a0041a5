-- An AVI file after an edit of its fields, the names of its streams among them: the names are set, and then the lists of fields are
-- edited (AVI RIFF File Reference, strn; slots, padding and pads are this project's own).
use Rattle.std.specs.Prelude.{ℕ, ◌+◌, List, [], ◌∷◌, ◌++◌, length, map, Bool, ◌&&◌, Option, option_map, None, if◌then◌else◌}
use Rattle.std.specs.List.{flat_map}
use Rattle.part_tree.specs.Large.{Size}
use Rattle.part_tree.specs.declared.field.EditItem.{EditItem}
use Rattle.part_tree.specs.declared.field.FieldName.{FieldName}
use Rattle.part_tree.specs.declared.field.FieldName.TheVariants.{Stream}
use Rattle.part_tree.specs.declared.field.Value.{Value}
use Rattle.field_model.specs.Fields.{FieldMap, plain}
use Rattle.field_model.specs.Update.{RawItem, raw_items, effective}
use Rattle.container_model.specs.Chunk.{Chunk}
use Rattle.container_model.specs.Items.{is_nil}
use Rattle.container_model.specs.Splice.{Cut, shift}
use Rattle.container_model.specs.Tests.{first}
use Rattle.container_model.specs.Units.{shut, units, cuts}
use Rattle.carrier_model.specs.RiffForm.{new_pad, pad_cut, fill_of}
use Rattle.opendml_index.specs.Index.{move}
use Rattle.avi_model.specs.Avi.{Avi, avi_of, inner, behind, hdrls, others_at, spell_avi, strls}
use Rattle.avi_model.specs.Edited.{fields, info_edit}
use Rattle.avi_model.specs.Heads.{nth_names}
use Rattle.avi_model.specs.Index.{renumbered}
use Rattle.avi_model.specs.Large.{Check, checks_of}
use Rattle.avi_model.specs.Named.{Names, named, name_cuts, riff_of}
use Rattle.avi_model.specs.NewFile.{Items, new_cells, new_children}
use Rattle.avi_model.specs.Streams.{stream_parts}
use Rattle.avi_model.specs.Support.{count_kids, infos}

-- ---- fields

-- the fields of an AVI file: those of its lists, and the names of each stream
abbrev pub all_fields : List ℕ → FieldMap
all_fields b (Stream n) = map plain (nth_names n (strls (avi_of b)))
all_fields b name = fields b name

-- ---- an edit

-- what an edit does to the lists of fields, and to the names of streams
pub record Changes : Type 0 where
  pub infos : Items
  pub names : Names

-- what an item does to the names of streams
abbrev pub name_item : FieldName → Option Value → Names
name_item (Stream n) value = record { stream = n; value = option_map (λ (v : Value). v.raw) value } ∷ []
name_item name value = []

-- what items do
abbrev pub changed_by : List RawItem → Changes
changed_by e = record { infos = info_edit e; names = flat_map (λ (i : RawItem). name_item i.name i.value) e }

-- what the items of an edit that have an effect do
abbrev pub all_changes : List ℕ → List EditItem → Changes
all_changes o e = changed_by (raw_items (all_fields o) e)

-- nothing changes
abbrev pub is_idle : Changes → Bool
is_idle e = is_nil e.infos && is_nil e.names

-- ---- the first form

-- its chunks: the names are set, and then the lists of fields are edited
abbrev pub children_after : Avi → Changes → List Chunk
children_after a e = new_children (named a e.names) e.infos

-- its pad stays where its size does; else it is there exactly where the size is odd and something follows
abbrev pub pad_after : Avi → Changes → List ℕ
pad_after a e = new_pad (length (inner a.children a.left)) (length (inner (children_after a e) a.left)) a.pad (behind a)

-- the parts of the new file
abbrev pub joined : Avi → Changes → Avi
joined a e = record a { children = children_after a e; pad = pad_after a e }

-- ---- places

-- the spans that the lists of fields replace in the file with its names set: the slots of units, and the pad of the form
abbrev pub list_cuts : Avi → Changes → List Cut
list_cuts a e =
    let n = named a e.names in
    cuts (fill_of (riff_of n)) 12 (units shut (new_cells n e.infos))
    ++ pad_cut (8 + length (inner n.children n.left)) a.pad (pad_after a e)

-- how places move: where the names put them, and from there where the lists of fields do
abbrev pub goes : Avi → Changes → ℕ → ℕ
goes a e p = shift (list_cuts a e) (shift (name_cuts a e.names) p)

-- ---- the new file

-- the old file with the numbers of its tables moved
abbrev pub renumbered_avi : List ℕ → Changes → Avi
renumbered_avi o e = avi_of (renumbered (move (goes (avi_of o) e)) o)

-- the parts of the new file, with the numbers of its tables moved
abbrev pub avi_after : List ℕ → Changes → Avi
avi_after o e = joined (renumbered_avi o e) e

-- The numbers are written into the old file, which keeps every length; then the edit is laid.
unfoldable pub joined_file : List ℕ → Changes → List ℕ
joined_file o e = spell_avi (avi_after o e)

-- where nothing changes the file is as it was
abbrev pub changed_file : List ℕ → Changes → List ℕ
changed_file o e = if is_idle e then o else joined_file o e

-- the new file
abbrev pub file_after : List ℕ → List EditItem → List ℕ
file_after o e = changed_file o (all_changes o e)

-- ---- what is too large

-- How many parts there are after an edit: they are counted as they are laid, so also where 32 bits don't hold the size of hdrl.
abbrev pub parts_after : Avi → Changes → ℕ
parts_after a e =
    length (children_after a e) + (count_kids (hdrls a) + (stream_parts a e.names + count_kids (infos (joined a e)))) + count_kids (others_at a)

-- the checks of an edit, in their order
abbrev pub checks_after : List ℕ → Changes → List Check
checks_after o e = checks_of (avi_after o e) (parts_after (renumbered_avi o e) e) (goes (avi_of o) e) o (changed_file o e)

-- without an item that has an effect nothing is
abbrev pub large_by : List EditItem → List ℕ → Changes → Option Size
large_by [] o e = None
large_by (i ∷ is) o e = first (checks_after o e)

-- the first limit that an edit passes
abbrev pub large_after : List ℕ → List EditItem → Option Size
large_after o e = large_by (effective (all_fields o) e) o (all_changes o e)

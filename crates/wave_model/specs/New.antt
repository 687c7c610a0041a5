-- The new file, and the spans of the old one that it replaces (this project's own).
use Rattle.std.specs.Prelude.{ℕ, List, ◌++◌, drop, map, Bool, codes}
use Rattle.std.specs.Int.{w64, to_le_bytes}
use Rattle.part_tree.specs.declared.field.EditItem.{EditItem}
use Rattle.field_model.specs.Update.{RawItem, raw_items}
use Rattle.container_model.specs.Chunk.{Form, wide, Chunk, spell_all}
use Rattle.container_model.specs.Units.{Cell, Piece, shut, Fill, units}
use Rattle.container_model.specs.Splice.{Cut}
use Rattle.carrier_model.specs.RiffForm.{RiffForm, pad_after, form_cuts}
use Rattle.carrier_model.specs.RiffForm as riff
use Rattle.carrier_model.specs.Steps.{carried}
use Rattle.wave_model.specs.Wave.{Wave, wave_of, spell_wave, cells_of}
use Rattle.wave_model.specs.Fields.{fields}
use Rattle.wave_model.specs.Carry.{steps}

-- a file as a form of RIFF: the type and ds64 come before the chunks that are edited
abbrev pub riff_of : Wave → RiffForm
riff_of w = record { form = w.form; id = w.id; front = codes "WAVE" ++ spell_all w.ds64; children = w.children; left = w.left; pad = w.pad; tail = w.tail }

-- the cells of its chunks after an edit
abbrev pub edited_cells : Wave → List RawItem → List Cell
edited_cells w e = carried (steps e) (cells_of w)

-- The last slot ends the file where no rest, no pad of the form and no tail follow it.
abbrev pub ends_file : Wave → Bool
ends_file w = riff.ends_file (riff_of w)

-- the padding of units in a file
abbrev pub fill_of : Wave → Fill
fill_of w = riff.fill_of (riff_of w)

-- the copied chunks and the units of an edit
abbrev pub pieces_of : Wave → List RawItem → List Piece
pieces_of w e = units shut (edited_cells w e)

-- the chunks of the new form
abbrev pub new_children : Wave → List RawItem → List Chunk
new_children w e = riff.new_children (riff_of w) (edited_cells w e)

-- the size that the new form has
abbrev pub new_size : Wave → List RawItem → ℕ
new_size w e = riff.new_size (riff_of w) (edited_cells w e)

-- riffSize stands first in ds64
abbrev pub with_riff_size : ℕ → Chunk → Chunk
with_riff_size n c = record c { body = to_le_bytes w64 n ++ drop 8 c.body }

-- ds64 with the new size, where the size stands there
abbrev pub sized_ds64 : Form → ℕ → List Chunk → List Chunk
sized_ds64 wide n cs = map (with_riff_size n) cs
sized_ds64 _ n cs = cs

-- the form after an edit in raw bytes
abbrev pub new_wave : Wave → List RawItem → Wave
new_wave w e =
    record w {
      ds64 = sized_ds64 w.form (new_size w e) w.ds64;
      children = new_children w e;
      pad = pad_after (riff_of w) (edited_cells w e);
    }

-- the new file
unfoldable pub new_file : List ℕ → List EditItem → List ℕ
new_file o e = spell_wave (new_wave (wave_of o) (raw_items (fields o) e))

-- ---- the same as spans of the old file

-- where the chunks behind ds64 begin
abbrev pub children_at : Wave → ℕ
children_at w = riff.children_at (riff_of w)

-- the spans that an edit replaces: the slots of its units, and the pad of the form
abbrev pub edit_cuts : Wave → List RawItem → List Cut
edit_cuts w e = form_cuts (riff_of w) (edited_cells w e)

-- the same of a file
abbrev pub cuts_of : List ℕ → List EditItem → List Cut
cuts_of o e = edit_cuts (wave_of o) (raw_items (fields o) e)

-- the size of the new file's form
abbrev pub new_size_of : List ℕ → List EditItem → ℕ
new_size_of o e = new_size (wave_of o) (raw_items (fields o) e)

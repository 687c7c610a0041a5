-- The new file: the slots of edited lists replaced, and the numbers of the tables moved (this project's own).
use Rattle.std.specs.Prelude.{ℕ, nat_le, List, [], ◌∷◌, length, map, codes, if◌then◌else◌}
use Rattle.std.specs.Int.{w32, to_le_bytes}
use Rattle.container_model.specs.Chunk.{riff, Chunk}
use Rattle.container_model.specs.Items.{Item}
use Rattle.container_model.specs.Splice.{Cut, end_of, shift}
use Rattle.container_model.specs.Units.{Cell}
use Rattle.container_model.specs.Written.{Write}
use Rattle.carrier_model.specs.Cells.{Test}
use Rattle.carrier_model.specs.Info.{info, info_items, is_type}
use Rattle.carrier_model.specs.Lists.{edit_list_cells}
use Rattle.carrier_model.specs.RiffForm.{RiffForm, form_cuts}
use Rattle.carrier_model.specs.RiffForm as form
use Rattle.opendml_index.specs.Index.{How, move}
use Rattle.avi_model.specs.Avi.{Avi, spell_avi, avi_of}
use Rattle.avi_model.specs.Named.{cell_of, riff_of}
use Rattle.avi_model.specs.Index.{renumbered, write_index, write_old, base, indexes, olds}
use Rattle.avi_model.specs.Support.{by_place}

-- what becomes of the fields of `LIST INFO`: bytes, or none
abbrev pub Items : Type 0
Items = List (Item (List ℕ))

-- ---- the edit of the first form

-- a new list stands behind hdrl
abbrev pub home : Test
home id body = is_type (codes "hdrl") (record { form = riff; id = id; body = body; pad = [] })

-- the chunks of the first form with its lists edited
abbrev pub new_cells : Avi → Items → List Cell
new_cells a e = edit_list_cells info info_items home e (map cell_of a.children)

-- the new chunks of the first form
abbrev pub new_children : Avi → Items → List Chunk
new_children a e = form.new_children (riff_of a) (new_cells a e)

-- the size that the form has then
abbrev pub new_size : Avi → Items → ℕ
new_size a e = form.new_size (riff_of a) (new_cells a e)

-- the form's new pad
abbrev pub pad_after : Avi → Items → List ℕ
pad_after a e = form.pad_after (riff_of a) (new_cells a e)

-- the parts of the new file
abbrev pub laid : Avi → Items → Avi
laid a e = record a { children = new_children a e; pad = pad_after a e }

-- the spans that are replaced: the slots of units, and the pad of the form
abbrev pub edit_cuts : Avi → Items → List Cut
edit_cuts a e = form_cuts (riff_of a) (new_cells a e)

-- how places move
abbrev pub moves : List ℕ → Items → ℕ → ℕ
moves o e p = shift (edit_cuts (avi_of o) e) p

-- The numbers are written into the old file, which keeps every length; then the edit is laid.
unfoldable pub laid_file : List ℕ → Items → List ℕ
laid_file o e = spell_avi (laid (avi_of (renumbered (move (moves o e)) o)) e)

-- without an item the file is as it was
abbrev pub edited_file : List ℕ → Items → List ℕ
edited_file o [] = o
edited_file o (i ∷ e) = laid_file o (i ∷ e)

-- ---- the tables by place

-- what is written over a table, as a span that is replaced
abbrev pub cut_of_write : Write → Cut
cut_of_write w = record { at = w.at; len = length w.bytes; bytes = w.bytes }

-- a span put before the first of some others that begins at or behind its end
abbrev pub put_cut : Cut → List Cut → List Cut
put_cut c [] = c ∷ []
put_cut c (d ∷ ds) = if nat_le (end_of c) d.at then c ∷ (d ∷ ds) else d ∷ put_cut c ds

-- spans put among others
abbrev pub put_cuts : List Cut → List Cut → List Cut
put_cuts [] ds = ds
put_cuts (c ∷ cs) ds = put_cut c (put_cuts cs ds)

-- the bodies of all tables with their numbers changed, by place
abbrev pub table_cuts : How → List ℕ → List Cut
table_cuts h b = put_cuts (map (λ t. cut_of_write (write_old h (base b) t)) (olds b)) (map (λ t. cut_of_write (write_index h t)) (by_place (indexes b)))

-- the form's size, as a span that is replaced
abbrev pub size_cut : ℕ → Cut
size_cut n = record { at = 4; len = 4; bytes = to_le_bytes w32 n }

-- All spans that an edit replaces, by place: the form's size, the bodies of tables with their numbers moved, the slots of units and
-- the form's pad.
abbrev pub file_cuts : List ℕ → Items → List Cut
file_cuts o e = size_cut (new_size (avi_of o) e) ∷ put_cuts (table_cuts (move (moves o e)) o) (edit_cuts (avi_of o) e)

-- Whether an edit fits in place, and the patches that make it there (this project's own).
use Rattle.std.specs.Prelude.{◌≡◌, ℕ, List, Bool, true}
use Rattle.part_tree.specs.declared.field.EditItem.{EditItem}
use Rattle.part_tree.specs.declared.plan.Patch.{Patch}
use Rattle.field_model.specs.Update.{RawItem, raw_items}
use Rattle.carrier_model.specs.RiffForm.{form_patches, form_room}
use Rattle.wave_model.specs.Wave.{Wave, wave_of}
use Rattle.wave_model.specs.Fields.{fields}
use Rattle.wave_model.specs.New.{riff_of, edited_cells}

-- by place: the form's size, then each unit
abbrev pub patches_in : Wave → List RawItem → List Patch
patches_in w e = form_patches (riff_of w) (edited_cells w e)

-- the patches of an edit
abbrev pub patches : List ℕ → List EditItem → List Patch
patches o e = patches_in (wave_of o) (raw_items (fields o) e)

-- whether the edit fits in place
abbrev pub has_room : Wave → List RawItem → Bool
has_room w e = form_room (riff_of w) (edited_cells w e)

-- each unit fits its slot, and the patches have at most 16 MiB
abbrev pub Room : List ℕ → List EditItem → Type 0
Room o e = has_room (wave_of o) (raw_items (fields o) e) ≡ true

-- When an edit has room in place, and what is then written (this project's own).
use Rattle.std.specs.Prelude.{◌≡◌, ℕ, List, [], ◌∷◌, true, Bool}
use Rattle.part_tree.specs.declared.field.EditItem.{EditItem}
use Rattle.part_tree.specs.declared.plan.Patch.{Patch}
use Rattle.container_model.specs.Units.{Piece, shut, units}
use Rattle.carrier_model.specs.RiffForm.{form_patches, form_room}
use Rattle.avi_model.specs.Avi.{Avi, avi_of}
use Rattle.avi_model.specs.NewFile.{Items, new_cells}
use Rattle.avi_model.specs.Named.{riff_of}
use Rattle.avi_model.specs.Edited.{changes}

-- the chunks of the first form, copied or replaced
abbrev pub pieces_of : Avi → Items → List Piece
pieces_of a e = units shut (new_cells a e)

-- by place: the form's size, then each unit
abbrev pub patches_of : Avi → Items → List Patch
patches_of a e = form_patches (riff_of a) (new_cells a e)

-- the patches of an edit; none where no item has an effect
abbrev pub patches_by : Avi → Items → List Patch
patches_by a [] = []
patches_by a (i ∷ e) = patches_of a (i ∷ e)

-- the patches of an edit of fields
abbrev pub patches : List ℕ → List EditItem → List Patch
patches o e = patches_by (avi_of o) (changes o e)

-- every unit fits its slot, and the patches have at most 16 MiB
abbrev pub has_room : List ℕ → List EditItem → Bool
has_room o e = form_room (riff_of (avi_of o)) (new_cells (avi_of o) (changes o e))

-- the edit has room in place
abbrev pub Room : List ℕ → List EditItem → Type 0
Room o e = has_room o e ≡ true

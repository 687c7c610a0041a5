-- What is too large in the new file: the first of these sizes that passes its limit (this project's own).
use Rattle.std.specs.Prelude.{◌≤◌, ℕ, ◌-◌, ◌^◌, List, [], ◌∷◌, ◌++◌, length, map, Bool, true, false, Option, None}
use Rattle.part_tree.specs.declared.field.EditItem.{EditItem}
use Rattle.field_model.specs.Update.{RawItem, raw_items, effective}
use Rattle.container_model.specs.Chunk.{Form, wide}
use Rattle.part_tree.specs.Large.{Size, limited, first_above}
use Rattle.wave_model.specs.Wave.{is_big, Wave, wave_of, spell_wave}
use Rattle.wave_model.specs.Fields.{is_info, bodies, fields}
use Rattle.wave_model.specs.New.{new_children, new_size, new_wave}
use Rattle.wave_model.specs.Edited.{parts}

-- In a form that may have ds64 the field FFFFFFFF is no size.
abbrev pub most_by : Bool → ℕ
most_by true = 2 ^ 32 - 2
most_by false = 2 ^ 32 - 1

-- the size of the form, where it stands in the form's own field
abbrev pub form_sizes : Form → List ℕ → ℕ → List Size
form_sizes wide id n = []
form_sizes _ id n = limited (most_by (is_big id)) n ∷ []

-- a form's own field holds its size
abbrev pub FormSmall : Form → List ℕ → ℕ → Type 0
FormSmall wide id n = Unit {0}
FormSmall _ id n = n ≤ most_by (is_big id)

-- each list, the parts, the form, and the file
abbrev pub all_sizes : Wave → List RawItem → List Size
all_sizes w e =
    map (λ b. limited (2 ^ 24) (length b)) (bodies is_info (new_children w e))
    ++ (limited 65536 (parts (new_wave w e)) ∷ (form_sizes w.form w.id (new_size w e) ++ limited (2 ^ 63 - 1) (length (spell_wave (new_wave w e))) ∷ []))

-- nothing is where no item has an effect
abbrev pub large_by : List EditItem → Wave → List RawItem → Option Size
large_by [] w e = None
large_by (i ∷ is) w e = first_above (all_sizes w e)

-- the first size of the new file that passes its limit
abbrev pub too_large : List ℕ → List EditItem → Option Size
too_large o e = large_by (effective (fields o) e) (wave_of o) (raw_items (fields o) e)

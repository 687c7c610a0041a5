-- Worked rows, computed.
use Rattle.std.proofs.Common.{◌≡◌, ℕ, List, [], ◌∷◌, ◌++◌, ◌+◌, length, take, map, true, false, Some, None, refl}
use Rattle.std.specs.Prelude.{codes, replicate}
use Rattle.part_tree.specs.declared.field.BextField.TheVariants.{Description, LoudnessValue, Umid}
use Rattle.part_tree.specs.declared.field.Change.TheVariants.{Set}
use Rattle.part_tree.specs.declared.field.EditItem.{EditItem}
use Rattle.part_tree.specs.declared.field.FieldName.TheVariants.{Bext, Info}
use Rattle.part_tree.specs.declared.why.Why.TheVariants.{Truncated, ShortDs64, RowMissing}
use Rattle.part_tree.specs.declared.part.Role.TheVariants.{Opaque, Sizes, Essence}
use Rattle.part_tree.specs.declared.part.Role.TheVariants as role
use Rattle.part_tree.specs.Letters.{four}
use Rattle.field_model.specs.Fields.{plain}
use Rattle.field_model.specs.Update.{raw_items}
use Rattle.container_model.specs.Chunk.{read, chunks}
use Rattle.container_model.specs.Units.{units}
use Rattle.part_tree.specs.declared.field.RuleSet.TheVariants.{Base}
use Rattle.field_model.specs.Broken.{broken}
use Rattle.wave_model.specs.Wave.{kind_of, wave_of}
use Rattle.wave_model.specs.Fields.{fields}
use Rattle.wave_model.specs.New.{new_file}
use Rattle.wave_model.specs.Edited.{pieces}
use Rattle.wave_model.specs.Large.{too_large}
use Rattle.wave_model.specs.Map.{parts_of_file, sound}
use Rattle.part_tree.specs.Patches.{patched}
use Rattle.wave_model.specs.Why.{why}
use Rattle.wave_model.specs.Room.{patches, has_room}

-- a WAVE file of 48 bytes: `fmt ` and four bytes of sound
abbrev pub short_sound : List ℕ
short_sound = (82 ∷ 73 ∷ 70 ∷ 70 ∷ 40 ∷ 0 ∷ 0 ∷ 0 ∷ 87 ∷ 65 ∷ 86 ∷ 69 ∷ 102 ∷ 109 ∷ 116 ∷ 32 ∷ 16 ∷ 0 ∷ 0 ∷ 0 ∷ 1 ∷ 0 ∷ 1 ∷ 0 ∷ 68 ∷ 172 ∷ 0 ∷ 0 ∷ 136 ∷ 88 ∷ 1 ∷ 0 ∷ 2 ∷ 0 ∷ 16 ∷ 0 ∷ 100 ∷ 97 ∷ 116 ∷ 97 ∷ 4 ∷ 0 ∷ 0 ∷ 0 ∷ 1 ∷ 2 ∷ 3 ∷ 4 ∷ [])

abbrev pub with_title : List ℕ
with_title = (82 ∷ 73 ∷ 70 ∷ 70 ∷ 64 ∷ 0 ∷ 0 ∷ 0 ∷ 87 ∷ 65 ∷ 86 ∷ 69 ∷ 102 ∷ 109 ∷ 116 ∷ 32 ∷ 16 ∷ 0 ∷ 0 ∷ 0 ∷ 1 ∷ 0 ∷ 1 ∷ 0 ∷ 68 ∷ 172 ∷ 0 ∷ 0 ∷ 136 ∷ 88 ∷ 1 ∷ 0 ∷ 2 ∷ 0 ∷ 16 ∷ 0 ∷ 100 ∷ 97 ∷ 116 ∷ 97 ∷ 4 ∷ 0 ∷ 0 ∷ 0 ∷ 1 ∷ 2 ∷ 3 ∷ 4 ∷ 76 ∷ 73 ∷ 83 ∷ 84 ∷ 16 ∷ 0 ∷ 0 ∷ 0 ∷ 73 ∷ 78 ∷ 70 ∷ 79 ∷ 73 ∷ 78 ∷ 65 ∷ 77 ∷ 3 ∷ 0 ∷ 0 ∷ 0 ∷ 72 ∷ 105 ∷ 0 ∷ 0 ∷ [])

abbrev pub no_sound : List ℕ
no_sound = (82 ∷ 73 ∷ 70 ∷ 70 ∷ 36 ∷ 0 ∷ 0 ∷ 0 ∷ 87 ∷ 65 ∷ 86 ∷ 69 ∷ 102 ∷ 109 ∷ 116 ∷ 32 ∷ 16 ∷ 0 ∷ 0 ∷ 0 ∷ 1 ∷ 0 ∷ 1 ∷ 0 ∷ 68 ∷ 172 ∷ 0 ∷ 0 ∷ 136 ∷ 88 ∷ 1 ∷ 0 ∷ 2 ∷ 0 ∷ 16 ∷ 0 ∷ 100 ∷ 97 ∷ 116 ∷ 97 ∷ 0 ∷ 0 ∷ 0 ∷ 0 ∷ [])

abbrev pub no_sound_titled : List ℕ
no_sound_titled = (82 ∷ 73 ∷ 70 ∷ 70 ∷ 60 ∷ 0 ∷ 0 ∷ 0 ∷ 87 ∷ 65 ∷ 86 ∷ 69 ∷ 102 ∷ 109 ∷ 116 ∷ 32 ∷ 16 ∷ 0 ∷ 0 ∷ 0 ∷ 1 ∷ 0 ∷ 1 ∷ 0 ∷ 68 ∷ 172 ∷ 0 ∷ 0 ∷ 136 ∷ 88 ∷ 1 ∷ 0 ∷ 2 ∷ 0 ∷ 16 ∷ 0 ∷ 100 ∷ 97 ∷ 116 ∷ 97 ∷ 0 ∷ 0 ∷ 0 ∷ 0 ∷ 76 ∷ 73 ∷ 83 ∷ 84 ∷ 16 ∷ 0 ∷ 0 ∷ 0 ∷ 73 ∷ 78 ∷ 70 ∷ 79 ∷ 73 ∷ 78 ∷ 65 ∷ 77 ∷ 3 ∷ 0 ∷ 0 ∷ 0 ∷ 72 ∷ 105 ∷ 0 ∷ 0 ∷ [])

abbrev pub odd_sound : List ℕ
odd_sound = (82 ∷ 73 ∷ 70 ∷ 70 ∷ 39 ∷ 0 ∷ 0 ∷ 0 ∷ 87 ∷ 65 ∷ 86 ∷ 69 ∷ 102 ∷ 109 ∷ 116 ∷ 32 ∷ 16 ∷ 0 ∷ 0 ∷ 0 ∷ 1 ∷ 0 ∷ 1 ∷ 0 ∷ 68 ∷ 172 ∷ 0 ∷ 0 ∷ 136 ∷ 88 ∷ 1 ∷ 0 ∷ 2 ∷ 0 ∷ 16 ∷ 0 ∷ 100 ∷ 97 ∷ 116 ∷ 97 ∷ 3 ∷ 0 ∷ 0 ∷ 0 ∷ 97 ∷ 98 ∷ 99 ∷ [])

abbrev pub odd_sound_titled : List ℕ
odd_sound_titled = (82 ∷ 73 ∷ 70 ∷ 70 ∷ 64 ∷ 0 ∷ 0 ∷ 0 ∷ 87 ∷ 65 ∷ 86 ∷ 69 ∷ 102 ∷ 109 ∷ 116 ∷ 32 ∷ 16 ∷ 0 ∷ 0 ∷ 0 ∷ 1 ∷ 0 ∷ 1 ∷ 0 ∷ 68 ∷ 172 ∷ 0 ∷ 0 ∷ 136 ∷ 88 ∷ 1 ∷ 0 ∷ 2 ∷ 0 ∷ 16 ∷ 0 ∷ 100 ∷ 97 ∷ 116 ∷ 97 ∷ 3 ∷ 0 ∷ 0 ∷ 0 ∷ 97 ∷ 98 ∷ 99 ∷ 0 ∷ 76 ∷ 73 ∷ 83 ∷ 84 ∷ 16 ∷ 0 ∷ 0 ∷ 0 ∷ 73 ∷ 78 ∷ 70 ∷ 79 ∷ 73 ∷ 78 ∷ 65 ∷ 77 ∷ 3 ∷ 0 ∷ 0 ∷ 0 ∷ 72 ∷ 105 ∷ 0 ∷ 0 ∷ [])

abbrev pub described : List ℕ
described = (82 ∷ 73 ∷ 70 ∷ 70 ∷ 138 ∷ 2 ∷ 0 ∷ 0 ∷ 87 ∷ 65 ∷ 86 ∷ 69 ∷ 98 ∷ 101 ∷ 120 ∷ 116 ∷ 90 ∷ 2 ∷ 0 ∷ 0 ∷ []) ++ (replicate 256 120 ++ (replicate 346 0 ++ ((102 ∷ 109 ∷ 116 ∷ 32 ∷ 16 ∷ 0 ∷ 0 ∷ 0 ∷ 1 ∷ 0 ∷ 1 ∷ 0 ∷ 68 ∷ 172 ∷ 0 ∷ 0 ∷ 136 ∷ 88 ∷ 1 ∷ 0 ∷ 2 ∷ 0 ∷ 16 ∷ 0 ∷ 100 ∷ 97 ∷ 116 ∷ 97 ∷ 4 ∷ 0 ∷ 0 ∷ 0 ∷ 1 ∷ 2 ∷ 3 ∷ 4 ∷ []))))

abbrev pub with_bext : List ℕ
with_bext = (82 ∷ 73 ∷ 70 ∷ 70 ∷ 138 ∷ 2 ∷ 0 ∷ 0 ∷ 87 ∷ 65 ∷ 86 ∷ 69 ∷ 98 ∷ 101 ∷ 120 ∷ 116 ∷ 90 ∷ 2 ∷ []) ++ (replicate 604 0 ++ ((102 ∷ 109 ∷ 116 ∷ 32 ∷ 16 ∷ 0 ∷ 0 ∷ 0 ∷ 1 ∷ 0 ∷ 1 ∷ 0 ∷ 68 ∷ 172 ∷ 0 ∷ 0 ∷ 136 ∷ 88 ∷ 1 ∷ 0 ∷ 2 ∷ 0 ∷ 16 ∷ 0 ∷ 100 ∷ 97 ∷ 116 ∷ 97 ∷ 4 ∷ 0 ∷ 0 ∷ 0 ∷ 1 ∷ 2 ∷ 3 ∷ 4 ∷ [])))

abbrev pub with_loudness : List ℕ
with_loudness = (82 ∷ 73 ∷ 70 ∷ 70 ∷ 138 ∷ 2 ∷ 0 ∷ 0 ∷ 87 ∷ 65 ∷ 86 ∷ 69 ∷ 98 ∷ 101 ∷ 120 ∷ 116 ∷ 90 ∷ 2 ∷ []) ++ (replicate 348 0 ++ ((2 ∷ []) ++ (replicate 65 0 ++ ((4 ∷ 247 ∷ 255 ∷ 127 ∷ 255 ∷ 127 ∷ 255 ∷ 127 ∷ 255 ∷ 127 ∷ []) ++ (replicate 180 0 ++ ((102 ∷ 109 ∷ 116 ∷ 32 ∷ 16 ∷ 0 ∷ 0 ∷ 0 ∷ 1 ∷ 0 ∷ 1 ∷ 0 ∷ 68 ∷ 172 ∷ 0 ∷ 0 ∷ 136 ∷ 88 ∷ 1 ∷ 0 ∷ 2 ∷ 0 ∷ 16 ∷ 0 ∷ 100 ∷ 97 ∷ 116 ∷ 97 ∷ 4 ∷ 0 ∷ 0 ∷ 0 ∷ 1 ∷ 2 ∷ 3 ∷ 4 ∷ [])))))))

abbrev pub with_umid : List ℕ
with_umid = (82 ∷ 73 ∷ 70 ∷ 70 ∷ 138 ∷ 2 ∷ 0 ∷ 0 ∷ 87 ∷ 65 ∷ 86 ∷ 69 ∷ 98 ∷ 101 ∷ 120 ∷ 116 ∷ 90 ∷ 2 ∷ []) ++ (replicate 348 0 ++ ((1 ∷ 0 ∷ []) ++ (replicate 64 170 ++ (replicate 190 0 ++ ((102 ∷ 109 ∷ 116 ∷ 32 ∷ 16 ∷ 0 ∷ 0 ∷ 0 ∷ 1 ∷ 0 ∷ 1 ∷ 0 ∷ 68 ∷ 172 ∷ 0 ∷ 0 ∷ 136 ∷ 88 ∷ 1 ∷ 0 ∷ 2 ∷ 0 ∷ 16 ∷ 0 ∷ 100 ∷ 97 ∷ 116 ∷ 97 ∷ 4 ∷ 0 ∷ 0 ∷ 0 ∷ 1 ∷ 2 ∷ 3 ∷ 4 ∷ []))))))

abbrev pub two_titles : List ℕ
two_titles = (82 ∷ 73 ∷ 70 ∷ 70 ∷ 72 ∷ 0 ∷ 0 ∷ 0 ∷ 87 ∷ 65 ∷ 86 ∷ 69 ∷ 102 ∷ 109 ∷ 116 ∷ 32 ∷ 16 ∷ 0 ∷ 0 ∷ 0 ∷ 1 ∷ 0 ∷ 1 ∷ 0 ∷ 68 ∷ 172 ∷ 0 ∷ 0 ∷ 136 ∷ 88 ∷ 1 ∷ 0 ∷ 2 ∷ 0 ∷ 16 ∷ 0 ∷ 100 ∷ 97 ∷ 116 ∷ 97 ∷ 4 ∷ 0 ∷ 0 ∷ 0 ∷ 1 ∷ 2 ∷ 3 ∷ 4 ∷ 76 ∷ 73 ∷ 83 ∷ 84 ∷ 24 ∷ 0 ∷ 0 ∷ 0 ∷ 73 ∷ 78 ∷ 70 ∷ 79 ∷ 73 ∷ 78 ∷ 65 ∷ 77 ∷ 2 ∷ 0 ∷ 0 ∷ 0 ∷ 65 ∷ 0 ∷ 73 ∷ 78 ∷ 65 ∷ 77 ∷ 2 ∷ 0 ∷ 0 ∷ 0 ∷ 66 ∷ 0 ∷ [])

abbrev pub two_titles_dated : List ℕ
two_titles_dated = (82 ∷ 73 ∷ 70 ∷ 70 ∷ 86 ∷ 0 ∷ 0 ∷ 0 ∷ 87 ∷ 65 ∷ 86 ∷ 69 ∷ 102 ∷ 109 ∷ 116 ∷ 32 ∷ 16 ∷ 0 ∷ 0 ∷ 0 ∷ 1 ∷ 0 ∷ 1 ∷ 0 ∷ 68 ∷ 172 ∷ 0 ∷ 0 ∷ 136 ∷ 88 ∷ 1 ∷ 0 ∷ 2 ∷ 0 ∷ 16 ∷ 0 ∷ 100 ∷ 97 ∷ 116 ∷ 97 ∷ 4 ∷ 0 ∷ 0 ∷ 0 ∷ 1 ∷ 2 ∷ 3 ∷ 4 ∷ 76 ∷ 73 ∷ 83 ∷ 84 ∷ 38 ∷ 0 ∷ 0 ∷ 0 ∷ 73 ∷ 78 ∷ 70 ∷ 79 ∷ 73 ∷ 78 ∷ 65 ∷ 77 ∷ 2 ∷ 0 ∷ 0 ∷ 0 ∷ 65 ∷ 0 ∷ 73 ∷ 78 ∷ 65 ∷ 77 ∷ 2 ∷ 0 ∷ 0 ∷ 0 ∷ 66 ∷ 0 ∷ 73 ∷ 67 ∷ 82 ∷ 68 ∷ 5 ∷ 0 ∷ 0 ∷ 0 ∷ 50 ∷ 48 ∷ 50 ∷ 52 ∷ 0 ∷ 0 ∷ [])

-- an RF64 file of 84 bytes
abbrev pub rf64 : List ℕ
rf64 = (82 ∷ 70 ∷ 54 ∷ 52 ∷ 255 ∷ 255 ∷ 255 ∷ 255 ∷ 87 ∷ 65 ∷ 86 ∷ 69 ∷ 100 ∷ 115 ∷ 54 ∷ 52 ∷ 28 ∷ 0 ∷ 0 ∷ 0 ∷ 76 ∷ 0 ∷ 0 ∷ 0 ∷ 0 ∷ 0 ∷ 0 ∷ 0 ∷ 4 ∷ 0 ∷ 0 ∷ 0 ∷ 0 ∷ 0 ∷ 0 ∷ 0 ∷ 2 ∷ 0 ∷ 0 ∷ 0 ∷ 0 ∷ 0 ∷ 0 ∷ 0 ∷ 0 ∷ 0 ∷ 0 ∷ 0 ∷ 102 ∷ 109 ∷ 116 ∷ 32 ∷ 16 ∷ 0 ∷ 0 ∷ 0 ∷ 1 ∷ 0 ∷ 1 ∷ 0 ∷ 68 ∷ 172 ∷ 0 ∷ 0 ∷ 136 ∷ 88 ∷ 1 ∷ 0 ∷ 2 ∷ 0 ∷ 16 ∷ 0 ∷ 100 ∷ 97 ∷ 116 ∷ 97 ∷ 255 ∷ 255 ∷ 255 ∷ 255 ∷ 1 ∷ 2 ∷ 3 ∷ 4 ∷ [])

abbrev pub rf64_titled : List ℕ
rf64_titled = (82 ∷ 70 ∷ 54 ∷ 52 ∷ 255 ∷ 255 ∷ 255 ∷ 255 ∷ 87 ∷ 65 ∷ 86 ∷ 69 ∷ 100 ∷ 115 ∷ 54 ∷ 52 ∷ 28 ∷ 0 ∷ 0 ∷ 0 ∷ 100 ∷ 0 ∷ 0 ∷ 0 ∷ 0 ∷ 0 ∷ 0 ∷ 0 ∷ 4 ∷ 0 ∷ 0 ∷ 0 ∷ 0 ∷ 0 ∷ 0 ∷ 0 ∷ 2 ∷ 0 ∷ 0 ∷ 0 ∷ 0 ∷ 0 ∷ 0 ∷ 0 ∷ 0 ∷ 0 ∷ 0 ∷ 0 ∷ 102 ∷ 109 ∷ 116 ∷ 32 ∷ 16 ∷ 0 ∷ 0 ∷ 0 ∷ 1 ∷ 0 ∷ 1 ∷ 0 ∷ 68 ∷ 172 ∷ 0 ∷ 0 ∷ 136 ∷ 88 ∷ 1 ∷ 0 ∷ 2 ∷ 0 ∷ 16 ∷ 0 ∷ 100 ∷ 97 ∷ 116 ∷ 97 ∷ 255 ∷ 255 ∷ 255 ∷ 255 ∷ 1 ∷ 2 ∷ 3 ∷ 4 ∷ 76 ∷ 73 ∷ 83 ∷ 84 ∷ 16 ∷ 0 ∷ 0 ∷ 0 ∷ 73 ∷ 78 ∷ 70 ∷ 79 ∷ 73 ∷ 78 ∷ 65 ∷ 77 ∷ 3 ∷ 0 ∷ 0 ∷ 0 ∷ 72 ∷ 105 ∷ 0 ∷ 0 ∷ [])

abbrev pub set_title : List EditItem
set_title = record { name = Info (four (codes "INAM")); change = Set (codes "Hi") } ∷ []

abbrev pub set_date : List EditItem
set_date = record { name = Info (four (codes "ICRD")); change = Set (codes "2024") } ∷ []

abbrev pub set_description : List EditItem
set_description = record { name = Bext Description; change = Set (replicate 256 120) } ∷ []

abbrev pub set_loudness : List EditItem
set_loudness = record { name = Bext LoudnessValue; change = Set (codes "-23.00") } ∷ []

abbrev pub set_umid : List EditItem
set_umid = record { name = Bext Umid; change = Set (replicate 128 65) } ∷ []

title_new : new_file short_sound set_title ≡ with_title
unfolding new_file units chunks read
title_new = refl

title_again : new_file with_title set_title ≡ with_title
unfolding new_file units chunks read
title_again = refl

pub title_no_sound : new_file no_sound set_title ≡ no_sound_titled
unfolding new_file units chunks read
title_no_sound = refl

title_odd : new_file odd_sound set_title ≡ odd_sound_titled
unfolding new_file units chunks read
title_odd = refl

description_new : new_file short_sound set_description ≡ described
unfolding new_file units chunks read
description_new = refl

loudness_raised : new_file with_bext set_loudness ≡ with_loudness
unfolding new_file units chunks read
loudness_raised = refl

umid_raised : new_file with_bext set_umid ≡ with_umid
unfolding new_file units chunks read
umid_raised = refl

date_behind_titles : new_file two_titles set_date ≡ two_titles_dated
unfolding new_file units chunks read
date_behind_titles = refl

rf64_title_new : new_file rf64 set_title ≡ rf64_titled
unfolding new_file units chunks read
rf64_title_new = refl

title_room : has_room (wave_of short_sound) (raw_items (fields short_sound) set_title) ≡ true
unfolding units chunks read
title_room = refl

title_patches : map (λ p. p.at) (patches short_sound set_title) ≡ 4 ∷ 48 ∷ []
unfolding units chunks read
title_patches = refl

title_patch_sizes : map (λ p. length p.bytes) (patches short_sound set_title) ≡ 4 ∷ 24 ∷ []
unfolding units chunks read
title_patch_sizes = refl

title_not_large : too_large short_sound set_title ≡ None
unfolding units chunks read
title_not_large = refl

loudness_patches : map (λ p. p.at + length p.bytes) (patches with_bext set_loudness) ≡ 622 ∷ []
unfolding units chunks read
loudness_patches = refl

description_no_room : has_room (wave_of short_sound) (raw_items (fields short_sound) set_description) ≡ false
unfolding units chunks read
description_no_room = refl

two_titles_read : fields two_titles_dated (Info (four (codes "INAM"))) ≡ plain (65 ∷ 0 ∷ []) ∷ plain (66 ∷ 0 ∷ []) ∷ []
unfolding chunks read
two_titles_read = refl

description_too_wide : broken (kind_of short_sound) 0 (fields short_sound) (record { name = Bext Description; change = Set (replicate 257 120) } ∷ []) Base ≡ Some (record { rule = 5; field = Bext Description })
unfolding chunks read
description_too_wide = refl

rf64_parts : map (λ p. p.at) (parts_of_file rf64_titled) ≡ 12 ∷ 48 ∷ 72 ∷ 84 ∷ 96 ∷ []
unfolding chunks read
rf64_parts = refl

rf64_roles : map (λ p. p.role) (parts_of_file rf64_titled) ≡ Sizes ∷ Opaque ∷ Essence ∷ role.Info ∷ Opaque ∷ []
unfolding chunks read
rf64_roles = refl

rf64_sound : sound rf64 ≡ record { at = 80; len = 4 }
unfolding chunks read
rf64_sound = refl

title_patched : take 72 (patched (patches short_sound set_title) short_sound) ≡ with_title
unfolding units chunks read
title_patched = refl

rf64_blocks : pieces rf64 ≡ ((1 ∷ 2 ∷ []) ∷ (3 ∷ 4 ∷ []) ∷ []) ∷ []
unfolding chunks read
rf64_blocks = refl

pub supported_short : why short_sound ≡ None
unfolding why chunks read
supported_short = refl

supported_bext : why with_bext ≡ None
unfolding why chunks read
supported_bext = refl

pub supported_rf64 : why rf64 ≡ None
unfolding why chunks read
supported_rf64 = refl

supported_odd : why odd_sound ≡ None
unfolding why chunks read
supported_odd = refl

sound_passes : why ((82 ∷ 73 ∷ 70 ∷ 70 ∷ 40 ∷ 0 ∷ 0 ∷ 0 ∷ 87 ∷ 65 ∷ 86 ∷ 69 ∷ 102 ∷ 109 ∷ 116 ∷ 32 ∷ 16 ∷ 0 ∷ 0 ∷ 0 ∷ 1 ∷ 0 ∷ 1 ∷ 0 ∷ 68 ∷ 172 ∷ 0 ∷ 0 ∷ 136 ∷ 88 ∷ 1 ∷ 0 ∷ 2 ∷ 0 ∷ 16 ∷ 0 ∷ 100 ∷ 97 ∷ 116 ∷ 97 ∷ 5 ∷ 0 ∷ 0 ∷ 0 ∷ 1 ∷ 2 ∷ 3 ∷ 4 ∷ [])) ≡ Some (Truncated 36)
unfolding why chunks read
sound_passes = refl

format_passes : why ((82 ∷ 73 ∷ 70 ∷ 70 ∷ 40 ∷ 0 ∷ 0 ∷ 0 ∷ 87 ∷ 65 ∷ 86 ∷ 69 ∷ 102 ∷ 109 ∷ 116 ∷ 32 ∷ 255 ∷ 255 ∷ 255 ∷ 255 ∷ 1 ∷ 0 ∷ 1 ∷ 0 ∷ 68 ∷ 172 ∷ 0 ∷ 0 ∷ 136 ∷ 88 ∷ 1 ∷ 0 ∷ 2 ∷ 0 ∷ 16 ∷ 0 ∷ 100 ∷ 97 ∷ 116 ∷ 97 ∷ 4 ∷ 0 ∷ 0 ∷ 0 ∷ 1 ∷ 2 ∷ 3 ∷ 4 ∷ [])) ≡ Some (Truncated 12)
unfolding why chunks read
format_passes = refl

form_too_small : why ((82 ∷ 73 ∷ 70 ∷ 70 ∷ 3 ∷ 0 ∷ 0 ∷ 0 ∷ 87 ∷ 65 ∷ 86 ∷ 69 ∷ 102 ∷ 109 ∷ 116 ∷ 32 ∷ 16 ∷ 0 ∷ 0 ∷ 0 ∷ 1 ∷ 0 ∷ 1 ∷ 0 ∷ 68 ∷ 172 ∷ 0 ∷ 0 ∷ 136 ∷ 88 ∷ 1 ∷ 0 ∷ 2 ∷ 0 ∷ 16 ∷ 0 ∷ 100 ∷ 97 ∷ 116 ∷ 97 ∷ 4 ∷ 0 ∷ 0 ∷ 0 ∷ 1 ∷ 2 ∷ 3 ∷ 4 ∷ [])) ≡ Some (Truncated 0)
unfolding why chunks read
form_too_small = refl

form_passes : why ((82 ∷ 73 ∷ 70 ∷ 70 ∷ 41 ∷ 0 ∷ 0 ∷ 0 ∷ 87 ∷ 65 ∷ 86 ∷ 69 ∷ 102 ∷ 109 ∷ 116 ∷ 32 ∷ 16 ∷ 0 ∷ 0 ∷ 0 ∷ 1 ∷ 0 ∷ 1 ∷ 0 ∷ 68 ∷ 172 ∷ 0 ∷ 0 ∷ 136 ∷ 88 ∷ 1 ∷ 0 ∷ 2 ∷ 0 ∷ 16 ∷ 0 ∷ 100 ∷ 97 ∷ 116 ∷ 97 ∷ 4 ∷ 0 ∷ 0 ∷ 0 ∷ 1 ∷ 2 ∷ 3 ∷ 4 ∷ [])) ≡ Some (Truncated 0)
unfolding why chunks read
form_passes = refl

sound_passes_form : why ((82 ∷ 73 ∷ 70 ∷ 70 ∷ 39 ∷ 0 ∷ 0 ∷ 0 ∷ 87 ∷ 65 ∷ 86 ∷ 69 ∷ 102 ∷ 109 ∷ 116 ∷ 32 ∷ 16 ∷ 0 ∷ 0 ∷ 0 ∷ 1 ∷ 0 ∷ 1 ∷ 0 ∷ 68 ∷ 172 ∷ 0 ∷ 0 ∷ 136 ∷ 88 ∷ 1 ∷ 0 ∷ 2 ∷ 0 ∷ 16 ∷ 0 ∷ 100 ∷ 97 ∷ 116 ∷ 97 ∷ 4 ∷ 0 ∷ 0 ∷ 0 ∷ 1 ∷ 2 ∷ 3 ∷ 4 ∷ [])) ≡ Some (Truncated 36)
unfolding why chunks read
sound_passes_form = refl

table_passes : why ((82 ∷ 70 ∷ 54 ∷ 52 ∷ 255 ∷ 255 ∷ 255 ∷ 255 ∷ 87 ∷ 65 ∷ 86 ∷ 69 ∷ 100 ∷ 115 ∷ 54 ∷ 52 ∷ 28 ∷ 0 ∷ 0 ∷ 0 ∷ 76 ∷ 0 ∷ 0 ∷ 0 ∷ 0 ∷ 0 ∷ 0 ∷ 0 ∷ 4 ∷ 0 ∷ 0 ∷ 0 ∷ 0 ∷ 0 ∷ 0 ∷ 0 ∷ 2 ∷ 0 ∷ 0 ∷ 0 ∷ 0 ∷ 0 ∷ 0 ∷ 0 ∷ 255 ∷ 255 ∷ 255 ∷ 255 ∷ 102 ∷ 109 ∷ 116 ∷ 32 ∷ 16 ∷ 0 ∷ 0 ∷ 0 ∷ 1 ∷ 0 ∷ 1 ∷ 0 ∷ 68 ∷ 172 ∷ 0 ∷ 0 ∷ 136 ∷ 88 ∷ 1 ∷ 0 ∷ 2 ∷ 0 ∷ 16 ∷ 0 ∷ 100 ∷ 97 ∷ 116 ∷ 97 ∷ 255 ∷ 255 ∷ 255 ∷ 255 ∷ 1 ∷ 2 ∷ 3 ∷ 4 ∷ [])) ≡ Some (ShortDs64 28)
unfolding why chunks read
table_passes = refl

row_missing : why ((82 ∷ 70 ∷ 54 ∷ 52 ∷ 255 ∷ 255 ∷ 255 ∷ 255 ∷ 87 ∷ 65 ∷ 86 ∷ 69 ∷ 100 ∷ 115 ∷ 54 ∷ 52 ∷ 28 ∷ 0 ∷ 0 ∷ 0 ∷ 84 ∷ 0 ∷ 0 ∷ 0 ∷ 0 ∷ 0 ∷ 0 ∷ 0 ∷ 4 ∷ 0 ∷ 0 ∷ 0 ∷ 0 ∷ 0 ∷ 0 ∷ 0 ∷ 2 ∷ 0 ∷ 0 ∷ 0 ∷ 0 ∷ 0 ∷ 0 ∷ 0 ∷ 0 ∷ 0 ∷ 0 ∷ 0 ∷ 97 ∷ 98 ∷ 99 ∷ 100 ∷ 255 ∷ 255 ∷ 255 ∷ 255 ∷ 102 ∷ 109 ∷ 116 ∷ 32 ∷ 16 ∷ 0 ∷ 0 ∷ 0 ∷ 1 ∷ 0 ∷ 1 ∷ 0 ∷ 68 ∷ 172 ∷ 0 ∷ 0 ∷ 136 ∷ 88 ∷ 1 ∷ 0 ∷ 2 ∷ 0 ∷ 16 ∷ 0 ∷ 100 ∷ 97 ∷ 116 ∷ 97 ∷ 255 ∷ 255 ∷ 255 ∷ 255 ∷ 1 ∷ 2 ∷ 3 ∷ 4 ∷ [])) ≡ Some (RowMissing (four (codes "abcd")))
unfolding why chunks read
row_missing = refl

-- Worked rows: the new file, where it is written in place, and what is then patched.
use Rattle.std.proofs.Common.{◌≡◌, ℕ, ◌+◌, List, [], ◌∷◌, ◌++◌, Some, None, true, false, refl}
use Rattle.std.specs.Prelude.{codes}
use Rattle.part_tree.specs.Letters.{four}
use Rattle.part_tree.specs.declared.field.Change.TheVariants.{Set}
use Rattle.part_tree.specs.declared.field.EditItem.{EditItem}
use Rattle.part_tree.specs.declared.field.FieldName.TheVariants.{Key, User}
use Rattle.container_model.specs.Chunk.{read, chunks}
use Rattle.container_model.specs.Units.{units}
use Rattle.container_model.specs.Deep.{mend, leaves}
use Rattle.container_model.specs.Walk.{walk}
use Rattle.container_model.specs.Deep.{tokens}
use Rattle.mov_model.specs.After.{widens}
use Rattle.mov_model.specs.Kept.{kept}
use Rattle.mov_model.specs.New.{edited_file}
use Rattle.mov_model.specs.Widen.{wide_in, wide_kept, widened_file}
use Rattle.qt_keys.specs.Read.{key_table}
use Rattle.qt_keys.specs.Short.{each}
use Rattle.mov_model.specs.Edited.{fields, new_file}
use Rattle.mov_model.specs.Large.{too_large}
use Rattle.carrier_model.specs.Room.{patch}
use Rattle.mov_model.specs.Room.{has_room, patches}
use Rattle.mov_model.specs.Why.{why}
use Rattle.mov_model.specs.Pieces.{pieces}
use Rattle.mov_model.specs.Cuts.{offset_places}
use Rattle.mov_model.specs.Map.{essence, inner_parts, parts_of, track_tables, user_span}
use Rattle.part_tree.specs.declared.part.Part.{Part}
use Rattle.part_tree.specs.declared.part.Role.TheVariants.{Opaque, Padding, Tables, UserData, Essence, Rest}
use Rattle.part_tree.specs.declared.part.Role.{Role}

-- the edit that sets the name
abbrev pub set : List ℕ → List EditItem
set text = record { name = User (four (169 ∷ codes "nam")); change = Set text } ∷ []

-- a movie of 204 bytes: a track of two chunks, the name `Reel`, padding of 24 bytes, and the essence
abbrev pub reel : List ℕ
reel = 0 ∷ 0 ∷ 0 ∷ 20 ∷ 102 ∷ 116 ∷ 121 ∷ 112 ∷ 113 ∷ 116 ∷ 32 ∷ 32 ∷ 0 ∷ 0 ∷ 0 ∷ 0 ∷ 113 ∷ 116 ∷ 32 ∷ 32 ∷ 0 ∷ 0 ∷ 0 ∷ 136 ∷ 109 ∷ 111 ∷ 111 ∷ 118 ∷ 0 ∷ 0 ∷ 0 ∷ 104 ∷ 116 ∷ 114 ∷ 97 ∷ 107 ∷ 0 ∷ 0 ∷ 0 ∷ 96 ∷ 109 ∷ 100 ∷ 105 ∷ 97 ∷ 0 ∷ 0 ∷ 0 ∷ 88 ∷ 109 ∷ 105 ∷ 110 ∷ 102 ∷ 0 ∷ 0 ∷ 0 ∷ 80 ∷ 115 ∷ 116 ∷ 98 ∷ 108 ∷ 0 ∷ 0 ∷ 0 ∷ 28 ∷ 115 ∷ 116 ∷ 115 ∷ 99 ∷ 0 ∷ 0 ∷ 0 ∷ 0 ∷ 0 ∷ 0 ∷ 0 ∷ 1 ∷ 0 ∷ 0 ∷ 0 ∷ 1 ∷ 0 ∷ 0 ∷ 0 ∷ 1 ∷ 0 ∷ 0 ∷ 0 ∷ 1 ∷ 0 ∷ 0 ∷ 0 ∷ 20 ∷ 115 ∷ 116 ∷ 115 ∷ 122 ∷ 0 ∷ 0 ∷ 0 ∷ 0 ∷ 0 ∷ 0 ∷ 0 ∷ 8 ∷ 0 ∷ 0 ∷ 0 ∷ 2 ∷ 0 ∷ 0 ∷ 0 ∷ 24 ∷ 115 ∷ 116 ∷ 99 ∷ 111 ∷ 0 ∷ 0 ∷ 0 ∷ 0 ∷ 0 ∷ 0 ∷ 0 ∷ 2 ∷ 0 ∷ 0 ∷ 0 ∷ 188 ∷ 0 ∷ 0 ∷ 0 ∷ 196 ∷ 0 ∷ 0 ∷ 0 ∷ 24 ∷ 117 ∷ 100 ∷ 116 ∷ 97 ∷ 0 ∷ 0 ∷ 0 ∷ 16 ∷ 169 ∷ 110 ∷ 97 ∷ 109 ∷ 0 ∷ 4 ∷ 21 ∷ 199 ∷ 82 ∷ 101 ∷ 101 ∷ 108 ∷ 0 ∷ 0 ∷ 0 ∷ 24 ∷ 102 ∷ 114 ∷ 101 ∷ 101 ∷ 0 ∷ 0 ∷ 0 ∷ 0 ∷ 0 ∷ 0 ∷ 0 ∷ 0 ∷ 0 ∷ 0 ∷ 0 ∷ 0 ∷ 0 ∷ 0 ∷ 0 ∷ 0 ∷ 0 ∷ 0 ∷ 0 ∷ 24 ∷ 109 ∷ 100 ∷ 97 ∷ 116 ∷ 0 ∷ 0 ∷ 0 ∷ 0 ∷ 0 ∷ 0 ∷ 0 ∷ 0 ∷ 0 ∷ 0 ∷ 0 ∷ 0 ∷ 0 ∷ 0 ∷ 0 ∷ 1 ∷ []

-- the same with a longer name, which takes the place of the padding
abbrev pub reel_named : List ℕ
reel_named = 0 ∷ 0 ∷ 0 ∷ 20 ∷ 102 ∷ 116 ∷ 121 ∷ 112 ∷ 113 ∷ 116 ∷ 32 ∷ 32 ∷ 0 ∷ 0 ∷ 0 ∷ 0 ∷ 113 ∷ 116 ∷ 32 ∷ 32 ∷ 0 ∷ 0 ∷ 0 ∷ 160 ∷ 109 ∷ 111 ∷ 111 ∷ 118 ∷ 0 ∷ 0 ∷ 0 ∷ 104 ∷ 116 ∷ 114 ∷ 97 ∷ 107 ∷ 0 ∷ 0 ∷ 0 ∷ 96 ∷ 109 ∷ 100 ∷ 105 ∷ 97 ∷ 0 ∷ 0 ∷ 0 ∷ 88 ∷ 109 ∷ 105 ∷ 110 ∷ 102 ∷ 0 ∷ 0 ∷ 0 ∷ 80 ∷ 115 ∷ 116 ∷ 98 ∷ 108 ∷ 0 ∷ 0 ∷ 0 ∷ 28 ∷ 115 ∷ 116 ∷ 115 ∷ 99 ∷ 0 ∷ 0 ∷ 0 ∷ 0 ∷ 0 ∷ 0 ∷ 0 ∷ 1 ∷ 0 ∷ 0 ∷ 0 ∷ 1 ∷ 0 ∷ 0 ∷ 0 ∷ 1 ∷ 0 ∷ 0 ∷ 0 ∷ 1 ∷ 0 ∷ 0 ∷ 0 ∷ 20 ∷ 115 ∷ 116 ∷ 115 ∷ 122 ∷ 0 ∷ 0 ∷ 0 ∷ 0 ∷ 0 ∷ 0 ∷ 0 ∷ 8 ∷ 0 ∷ 0 ∷ 0 ∷ 2 ∷ 0 ∷ 0 ∷ 0 ∷ 24 ∷ 115 ∷ 116 ∷ 99 ∷ 111 ∷ 0 ∷ 0 ∷ 0 ∷ 0 ∷ 0 ∷ 0 ∷ 0 ∷ 2 ∷ 0 ∷ 0 ∷ 0 ∷ 188 ∷ 0 ∷ 0 ∷ 0 ∷ 196 ∷ 0 ∷ 0 ∷ 0 ∷ 48 ∷ 117 ∷ 100 ∷ 116 ∷ 97 ∷ 0 ∷ 0 ∷ 0 ∷ 40 ∷ 169 ∷ 110 ∷ 97 ∷ 109 ∷ 0 ∷ 28 ∷ 21 ∷ 199 ∷ 97 ∷ 98 ∷ 99 ∷ 100 ∷ 101 ∷ 102 ∷ 103 ∷ 104 ∷ 105 ∷ 106 ∷ 107 ∷ 108 ∷ 109 ∷ 110 ∷ 111 ∷ 112 ∷ 113 ∷ 114 ∷ 115 ∷ 116 ∷ 117 ∷ 118 ∷ 119 ∷ 120 ∷ 121 ∷ 122 ∷ 48 ∷ 49 ∷ 0 ∷ 0 ∷ 0 ∷ 24 ∷ 109 ∷ 100 ∷ 97 ∷ 116 ∷ 0 ∷ 0 ∷ 0 ∷ 0 ∷ 0 ∷ 0 ∷ 0 ∷ 0 ∷ 0 ∷ 0 ∷ 0 ∷ 0 ∷ 0 ∷ 0 ∷ 0 ∷ 1 ∷ []

-- the first with padding of 23 bytes
abbrev pub tight : List ℕ
tight = 0 ∷ 0 ∷ 0 ∷ 20 ∷ 102 ∷ 116 ∷ 121 ∷ 112 ∷ 113 ∷ 116 ∷ 32 ∷ 32 ∷ 0 ∷ 0 ∷ 0 ∷ 0 ∷ 113 ∷ 116 ∷ 32 ∷ 32 ∷ 0 ∷ 0 ∷ 0 ∷ 136 ∷ 109 ∷ 111 ∷ 111 ∷ 118 ∷ 0 ∷ 0 ∷ 0 ∷ 104 ∷ 116 ∷ 114 ∷ 97 ∷ 107 ∷ 0 ∷ 0 ∷ 0 ∷ 96 ∷ 109 ∷ 100 ∷ 105 ∷ 97 ∷ 0 ∷ 0 ∷ 0 ∷ 88 ∷ 109 ∷ 105 ∷ 110 ∷ 102 ∷ 0 ∷ 0 ∷ 0 ∷ 80 ∷ 115 ∷ 116 ∷ 98 ∷ 108 ∷ 0 ∷ 0 ∷ 0 ∷ 28 ∷ 115 ∷ 116 ∷ 115 ∷ 99 ∷ 0 ∷ 0 ∷ 0 ∷ 0 ∷ 0 ∷ 0 ∷ 0 ∷ 1 ∷ 0 ∷ 0 ∷ 0 ∷ 1 ∷ 0 ∷ 0 ∷ 0 ∷ 1 ∷ 0 ∷ 0 ∷ 0 ∷ 1 ∷ 0 ∷ 0 ∷ 0 ∷ 20 ∷ 115 ∷ 116 ∷ 115 ∷ 122 ∷ 0 ∷ 0 ∷ 0 ∷ 0 ∷ 0 ∷ 0 ∷ 0 ∷ 8 ∷ 0 ∷ 0 ∷ 0 ∷ 2 ∷ 0 ∷ 0 ∷ 0 ∷ 24 ∷ 115 ∷ 116 ∷ 99 ∷ 111 ∷ 0 ∷ 0 ∷ 0 ∷ 0 ∷ 0 ∷ 0 ∷ 0 ∷ 2 ∷ 0 ∷ 0 ∷ 0 ∷ 187 ∷ 0 ∷ 0 ∷ 0 ∷ 195 ∷ 0 ∷ 0 ∷ 0 ∷ 24 ∷ 117 ∷ 100 ∷ 116 ∷ 97 ∷ 0 ∷ 0 ∷ 0 ∷ 16 ∷ 169 ∷ 110 ∷ 97 ∷ 109 ∷ 0 ∷ 4 ∷ 21 ∷ 199 ∷ 82 ∷ 101 ∷ 101 ∷ 108 ∷ 0 ∷ 0 ∷ 0 ∷ 23 ∷ 102 ∷ 114 ∷ 101 ∷ 101 ∷ 0 ∷ 0 ∷ 0 ∷ 0 ∷ 0 ∷ 0 ∷ 0 ∷ 0 ∷ 0 ∷ 0 ∷ 0 ∷ 0 ∷ 0 ∷ 0 ∷ 0 ∷ 0 ∷ 0 ∷ 0 ∷ 24 ∷ 109 ∷ 100 ∷ 97 ∷ 116 ∷ 0 ∷ 0 ∷ 0 ∷ 0 ∷ 0 ∷ 0 ∷ 0 ∷ 0 ∷ 0 ∷ 0 ∷ 0 ∷ 0 ∷ 0 ∷ 0 ∷ 0 ∷ 1 ∷ []

-- the same with the longer name: one byte longer, and both chunk places moved
abbrev pub tight_named : List ℕ
tight_named = 0 ∷ 0 ∷ 0 ∷ 20 ∷ 102 ∷ 116 ∷ 121 ∷ 112 ∷ 113 ∷ 116 ∷ 32 ∷ 32 ∷ 0 ∷ 0 ∷ 0 ∷ 0 ∷ 113 ∷ 116 ∷ 32 ∷ 32 ∷ 0 ∷ 0 ∷ 0 ∷ 160 ∷ 109 ∷ 111 ∷ 111 ∷ 118 ∷ 0 ∷ 0 ∷ 0 ∷ 104 ∷ 116 ∷ 114 ∷ 97 ∷ 107 ∷ 0 ∷ 0 ∷ 0 ∷ 96 ∷ 109 ∷ 100 ∷ 105 ∷ 97 ∷ 0 ∷ 0 ∷ 0 ∷ 88 ∷ 109 ∷ 105 ∷ 110 ∷ 102 ∷ 0 ∷ 0 ∷ 0 ∷ 80 ∷ 115 ∷ 116 ∷ 98 ∷ 108 ∷ 0 ∷ 0 ∷ 0 ∷ 28 ∷ 115 ∷ 116 ∷ 115 ∷ 99 ∷ 0 ∷ 0 ∷ 0 ∷ 0 ∷ 0 ∷ 0 ∷ 0 ∷ 1 ∷ 0 ∷ 0 ∷ 0 ∷ 1 ∷ 0 ∷ 0 ∷ 0 ∷ 1 ∷ 0 ∷ 0 ∷ 0 ∷ 1 ∷ 0 ∷ 0 ∷ 0 ∷ 20 ∷ 115 ∷ 116 ∷ 115 ∷ 122 ∷ 0 ∷ 0 ∷ 0 ∷ 0 ∷ 0 ∷ 0 ∷ 0 ∷ 8 ∷ 0 ∷ 0 ∷ 0 ∷ 2 ∷ 0 ∷ 0 ∷ 0 ∷ 24 ∷ 115 ∷ 116 ∷ 99 ∷ 111 ∷ 0 ∷ 0 ∷ 0 ∷ 0 ∷ 0 ∷ 0 ∷ 0 ∷ 2 ∷ 0 ∷ 0 ∷ 0 ∷ 188 ∷ 0 ∷ 0 ∷ 0 ∷ 196 ∷ 0 ∷ 0 ∷ 0 ∷ 48 ∷ 117 ∷ 100 ∷ 116 ∷ 97 ∷ 0 ∷ 0 ∷ 0 ∷ 40 ∷ 169 ∷ 110 ∷ 97 ∷ 109 ∷ 0 ∷ 28 ∷ 21 ∷ 199 ∷ 97 ∷ 98 ∷ 99 ∷ 100 ∷ 101 ∷ 102 ∷ 103 ∷ 104 ∷ 105 ∷ 106 ∷ 107 ∷ 108 ∷ 109 ∷ 110 ∷ 111 ∷ 112 ∷ 113 ∷ 114 ∷ 115 ∷ 116 ∷ 117 ∷ 118 ∷ 119 ∷ 120 ∷ 121 ∷ 122 ∷ 48 ∷ 49 ∷ 0 ∷ 0 ∷ 0 ∷ 24 ∷ 109 ∷ 100 ∷ 97 ∷ 116 ∷ 0 ∷ 0 ∷ 0 ∷ 0 ∷ 0 ∷ 0 ∷ 0 ∷ 0 ∷ 0 ∷ 0 ∷ 0 ∷ 0 ∷ 0 ∷ 0 ∷ 0 ∷ 1 ∷ []

-- the same with 64-bit places
abbrev pub wide_reel : List ℕ
wide_reel = 0 ∷ 0 ∷ 0 ∷ 20 ∷ 102 ∷ 116 ∷ 121 ∷ 112 ∷ 113 ∷ 116 ∷ 32 ∷ 32 ∷ 0 ∷ 0 ∷ 0 ∷ 0 ∷ 113 ∷ 116 ∷ 32 ∷ 32 ∷ 0 ∷ 0 ∷ 0 ∷ 144 ∷ 109 ∷ 111 ∷ 111 ∷ 118 ∷ 0 ∷ 0 ∷ 0 ∷ 112 ∷ 116 ∷ 114 ∷ 97 ∷ 107 ∷ 0 ∷ 0 ∷ 0 ∷ 104 ∷ 109 ∷ 100 ∷ 105 ∷ 97 ∷ 0 ∷ 0 ∷ 0 ∷ 96 ∷ 109 ∷ 105 ∷ 110 ∷ 102 ∷ 0 ∷ 0 ∷ 0 ∷ 88 ∷ 115 ∷ 116 ∷ 98 ∷ 108 ∷ 0 ∷ 0 ∷ 0 ∷ 28 ∷ 115 ∷ 116 ∷ 115 ∷ 99 ∷ 0 ∷ 0 ∷ 0 ∷ 0 ∷ 0 ∷ 0 ∷ 0 ∷ 1 ∷ 0 ∷ 0 ∷ 0 ∷ 1 ∷ 0 ∷ 0 ∷ 0 ∷ 1 ∷ 0 ∷ 0 ∷ 0 ∷ 1 ∷ 0 ∷ 0 ∷ 0 ∷ 20 ∷ 115 ∷ 116 ∷ 115 ∷ 122 ∷ 0 ∷ 0 ∷ 0 ∷ 0 ∷ 0 ∷ 0 ∷ 0 ∷ 8 ∷ 0 ∷ 0 ∷ 0 ∷ 2 ∷ 0 ∷ 0 ∷ 0 ∷ 32 ∷ 99 ∷ 111 ∷ 54 ∷ 52 ∷ 0 ∷ 0 ∷ 0 ∷ 0 ∷ 0 ∷ 0 ∷ 0 ∷ 2 ∷ 0 ∷ 0 ∷ 0 ∷ 0 ∷ 0 ∷ 0 ∷ 0 ∷ 195 ∷ 0 ∷ 0 ∷ 0 ∷ 0 ∷ 0 ∷ 0 ∷ 0 ∷ 203 ∷ 0 ∷ 0 ∷ 0 ∷ 24 ∷ 117 ∷ 100 ∷ 116 ∷ 97 ∷ 0 ∷ 0 ∷ 0 ∷ 16 ∷ 169 ∷ 110 ∷ 97 ∷ 109 ∷ 0 ∷ 4 ∷ 21 ∷ 199 ∷ 82 ∷ 101 ∷ 101 ∷ 108 ∷ 0 ∷ 0 ∷ 0 ∷ 23 ∷ 102 ∷ 114 ∷ 101 ∷ 101 ∷ 0 ∷ 0 ∷ 0 ∷ 0 ∷ 0 ∷ 0 ∷ 0 ∷ 0 ∷ 0 ∷ 0 ∷ 0 ∷ 0 ∷ 0 ∷ 0 ∷ 0 ∷ 0 ∷ 0 ∷ 0 ∷ 24 ∷ 109 ∷ 100 ∷ 97 ∷ 116 ∷ 0 ∷ 0 ∷ 0 ∷ 0 ∷ 0 ∷ 0 ∷ 0 ∷ 0 ∷ 0 ∷ 0 ∷ 0 ∷ 0 ∷ 0 ∷ 0 ∷ 0 ∷ 1 ∷ []

-- and with the longer name
abbrev pub wide_named : List ℕ
wide_named = 0 ∷ 0 ∷ 0 ∷ 20 ∷ 102 ∷ 116 ∷ 121 ∷ 112 ∷ 113 ∷ 116 ∷ 32 ∷ 32 ∷ 0 ∷ 0 ∷ 0 ∷ 0 ∷ 113 ∷ 116 ∷ 32 ∷ 32 ∷ 0 ∷ 0 ∷ 0 ∷ 168 ∷ 109 ∷ 111 ∷ 111 ∷ 118 ∷ 0 ∷ 0 ∷ 0 ∷ 112 ∷ 116 ∷ 114 ∷ 97 ∷ 107 ∷ 0 ∷ 0 ∷ 0 ∷ 104 ∷ 109 ∷ 100 ∷ 105 ∷ 97 ∷ 0 ∷ 0 ∷ 0 ∷ 96 ∷ 109 ∷ 105 ∷ 110 ∷ 102 ∷ 0 ∷ 0 ∷ 0 ∷ 88 ∷ 115 ∷ 116 ∷ 98 ∷ 108 ∷ 0 ∷ 0 ∷ 0 ∷ 28 ∷ 115 ∷ 116 ∷ 115 ∷ 99 ∷ 0 ∷ 0 ∷ 0 ∷ 0 ∷ 0 ∷ 0 ∷ 0 ∷ 1 ∷ 0 ∷ 0 ∷ 0 ∷ 1 ∷ 0 ∷ 0 ∷ 0 ∷ 1 ∷ 0 ∷ 0 ∷ 0 ∷ 1 ∷ 0 ∷ 0 ∷ 0 ∷ 20 ∷ 115 ∷ 116 ∷ 115 ∷ 122 ∷ 0 ∷ 0 ∷ 0 ∷ 0 ∷ 0 ∷ 0 ∷ 0 ∷ 8 ∷ 0 ∷ 0 ∷ 0 ∷ 2 ∷ 0 ∷ 0 ∷ 0 ∷ 32 ∷ 99 ∷ 111 ∷ 54 ∷ 52 ∷ 0 ∷ 0 ∷ 0 ∷ 0 ∷ 0 ∷ 0 ∷ 0 ∷ 2 ∷ 0 ∷ 0 ∷ 0 ∷ 0 ∷ 0 ∷ 0 ∷ 0 ∷ 196 ∷ 0 ∷ 0 ∷ 0 ∷ 0 ∷ 0 ∷ 0 ∷ 0 ∷ 204 ∷ 0 ∷ 0 ∷ 0 ∷ 48 ∷ 117 ∷ 100 ∷ 116 ∷ 97 ∷ 0 ∷ 0 ∷ 0 ∷ 40 ∷ 169 ∷ 110 ∷ 97 ∷ 109 ∷ 0 ∷ 28 ∷ 21 ∷ 199 ∷ 97 ∷ 98 ∷ 99 ∷ 100 ∷ 101 ∷ 102 ∷ 103 ∷ 104 ∷ 105 ∷ 106 ∷ 107 ∷ 108 ∷ 109 ∷ 110 ∷ 111 ∷ 112 ∷ 113 ∷ 114 ∷ 115 ∷ 116 ∷ 117 ∷ 118 ∷ 119 ∷ 120 ∷ 121 ∷ 122 ∷ 48 ∷ 49 ∷ 0 ∷ 0 ∷ 0 ∷ 24 ∷ 109 ∷ 100 ∷ 97 ∷ 116 ∷ 0 ∷ 0 ∷ 0 ∷ 0 ∷ 0 ∷ 0 ∷ 0 ∷ 0 ∷ 0 ∷ 0 ∷ 0 ∷ 0 ∷ 0 ∷ 0 ∷ 0 ∷ 1 ∷ []

-- a movie whose moov stands last, behind essence in the long form
abbrev pub moov_last : List ℕ
moov_last = 0 ∷ 0 ∷ 0 ∷ 20 ∷ 102 ∷ 116 ∷ 121 ∷ 112 ∷ 113 ∷ 116 ∷ 32 ∷ 32 ∷ 0 ∷ 0 ∷ 0 ∷ 0 ∷ 113 ∷ 116 ∷ 32 ∷ 32 ∷ 0 ∷ 0 ∷ 0 ∷ 1 ∷ 109 ∷ 100 ∷ 97 ∷ 116 ∷ 0 ∷ 0 ∷ 0 ∷ 0 ∷ 0 ∷ 0 ∷ 0 ∷ 32 ∷ 0 ∷ 1 ∷ 2 ∷ 3 ∷ 4 ∷ 5 ∷ 6 ∷ 7 ∷ 8 ∷ 9 ∷ 10 ∷ 11 ∷ 12 ∷ 13 ∷ 14 ∷ 15 ∷ 0 ∷ 0 ∷ 0 ∷ 136 ∷ 109 ∷ 111 ∷ 111 ∷ 118 ∷ 0 ∷ 0 ∷ 0 ∷ 104 ∷ 116 ∷ 114 ∷ 97 ∷ 107 ∷ 0 ∷ 0 ∷ 0 ∷ 96 ∷ 109 ∷ 100 ∷ 105 ∷ 97 ∷ 0 ∷ 0 ∷ 0 ∷ 88 ∷ 109 ∷ 105 ∷ 110 ∷ 102 ∷ 0 ∷ 0 ∷ 0 ∷ 80 ∷ 115 ∷ 116 ∷ 98 ∷ 108 ∷ 0 ∷ 0 ∷ 0 ∷ 28 ∷ 115 ∷ 116 ∷ 115 ∷ 99 ∷ 0 ∷ 0 ∷ 0 ∷ 0 ∷ 0 ∷ 0 ∷ 0 ∷ 1 ∷ 0 ∷ 0 ∷ 0 ∷ 1 ∷ 0 ∷ 0 ∷ 0 ∷ 8 ∷ 0 ∷ 0 ∷ 0 ∷ 1 ∷ 0 ∷ 0 ∷ 0 ∷ 20 ∷ 115 ∷ 116 ∷ 115 ∷ 122 ∷ 0 ∷ 0 ∷ 0 ∷ 0 ∷ 0 ∷ 0 ∷ 0 ∷ 1 ∷ 0 ∷ 0 ∷ 0 ∷ 16 ∷ 0 ∷ 0 ∷ 0 ∷ 24 ∷ 115 ∷ 116 ∷ 99 ∷ 111 ∷ 0 ∷ 0 ∷ 0 ∷ 0 ∷ 0 ∷ 0 ∷ 0 ∷ 2 ∷ 0 ∷ 0 ∷ 0 ∷ 36 ∷ 0 ∷ 0 ∷ 0 ∷ 44 ∷ 0 ∷ 0 ∷ 0 ∷ 24 ∷ 117 ∷ 100 ∷ 116 ∷ 97 ∷ 0 ∷ 0 ∷ 0 ∷ 16 ∷ 169 ∷ 110 ∷ 97 ∷ 109 ∷ 0 ∷ 4 ∷ 21 ∷ 199 ∷ 82 ∷ 101 ∷ 101 ∷ 108 ∷ []

-- the same with a longer name: the file grows at its end
abbrev pub last_named : List ℕ
last_named = 0 ∷ 0 ∷ 0 ∷ 20 ∷ 102 ∷ 116 ∷ 121 ∷ 112 ∷ 113 ∷ 116 ∷ 32 ∷ 32 ∷ 0 ∷ 0 ∷ 0 ∷ 0 ∷ 113 ∷ 116 ∷ 32 ∷ 32 ∷ 0 ∷ 0 ∷ 0 ∷ 1 ∷ 109 ∷ 100 ∷ 97 ∷ 116 ∷ 0 ∷ 0 ∷ 0 ∷ 0 ∷ 0 ∷ 0 ∷ 0 ∷ 32 ∷ 0 ∷ 1 ∷ 2 ∷ 3 ∷ 4 ∷ 5 ∷ 6 ∷ 7 ∷ 8 ∷ 9 ∷ 10 ∷ 11 ∷ 12 ∷ 13 ∷ 14 ∷ 15 ∷ 0 ∷ 0 ∷ 0 ∷ 143 ∷ 109 ∷ 111 ∷ 111 ∷ 118 ∷ 0 ∷ 0 ∷ 0 ∷ 104 ∷ 116 ∷ 114 ∷ 97 ∷ 107 ∷ 0 ∷ 0 ∷ 0 ∷ 96 ∷ 109 ∷ 100 ∷ 105 ∷ 97 ∷ 0 ∷ 0 ∷ 0 ∷ 88 ∷ 109 ∷ 105 ∷ 110 ∷ 102 ∷ 0 ∷ 0 ∷ 0 ∷ 80 ∷ 115 ∷ 116 ∷ 98 ∷ 108 ∷ 0 ∷ 0 ∷ 0 ∷ 28 ∷ 115 ∷ 116 ∷ 115 ∷ 99 ∷ 0 ∷ 0 ∷ 0 ∷ 0 ∷ 0 ∷ 0 ∷ 0 ∷ 1 ∷ 0 ∷ 0 ∷ 0 ∷ 1 ∷ 0 ∷ 0 ∷ 0 ∷ 8 ∷ 0 ∷ 0 ∷ 0 ∷ 1 ∷ 0 ∷ 0 ∷ 0 ∷ 20 ∷ 115 ∷ 116 ∷ 115 ∷ 122 ∷ 0 ∷ 0 ∷ 0 ∷ 0 ∷ 0 ∷ 0 ∷ 0 ∷ 1 ∷ 0 ∷ 0 ∷ 0 ∷ 16 ∷ 0 ∷ 0 ∷ 0 ∷ 24 ∷ 115 ∷ 116 ∷ 99 ∷ 111 ∷ 0 ∷ 0 ∷ 0 ∷ 0 ∷ 0 ∷ 0 ∷ 0 ∷ 2 ∷ 0 ∷ 0 ∷ 0 ∷ 36 ∷ 0 ∷ 0 ∷ 0 ∷ 44 ∷ 0 ∷ 0 ∷ 0 ∷ 31 ∷ 117 ∷ 100 ∷ 116 ∷ 97 ∷ 0 ∷ 0 ∷ 0 ∷ 23 ∷ 169 ∷ 110 ∷ 97 ∷ 109 ∷ 0 ∷ 11 ∷ 21 ∷ 199 ∷ 76 ∷ 111 ∷ 110 ∷ 103 ∷ 101 ∷ 114 ∷ 32 ∷ 110 ∷ 97 ∷ 109 ∷ 101 ∷ []

-- two tracks, with places of 32 and of 64 bits
abbrev pub two_tracks : List ℕ
two_tracks = 0 ∷ 0 ∷ 0 ∷ 20 ∷ 102 ∷ 116 ∷ 121 ∷ 112 ∷ 113 ∷ 116 ∷ 32 ∷ 32 ∷ 0 ∷ 0 ∷ 0 ∷ 0 ∷ 113 ∷ 116 ∷ 32 ∷ 32 ∷ 0 ∷ 0 ∷ 0 ∷ 236 ∷ 109 ∷ 111 ∷ 111 ∷ 118 ∷ 0 ∷ 0 ∷ 0 ∷ 100 ∷ 116 ∷ 114 ∷ 97 ∷ 107 ∷ 0 ∷ 0 ∷ 0 ∷ 92 ∷ 109 ∷ 100 ∷ 105 ∷ 97 ∷ 0 ∷ 0 ∷ 0 ∷ 84 ∷ 109 ∷ 105 ∷ 110 ∷ 102 ∷ 0 ∷ 0 ∷ 0 ∷ 76 ∷ 115 ∷ 116 ∷ 98 ∷ 108 ∷ 0 ∷ 0 ∷ 0 ∷ 28 ∷ 115 ∷ 116 ∷ 115 ∷ 99 ∷ 0 ∷ 0 ∷ 0 ∷ 0 ∷ 0 ∷ 0 ∷ 0 ∷ 1 ∷ 0 ∷ 0 ∷ 0 ∷ 1 ∷ 0 ∷ 0 ∷ 0 ∷ 1 ∷ 0 ∷ 0 ∷ 0 ∷ 1 ∷ 0 ∷ 0 ∷ 0 ∷ 20 ∷ 115 ∷ 116 ∷ 115 ∷ 122 ∷ 0 ∷ 0 ∷ 0 ∷ 0 ∷ 0 ∷ 0 ∷ 0 ∷ 4 ∷ 0 ∷ 0 ∷ 0 ∷ 1 ∷ 0 ∷ 0 ∷ 0 ∷ 20 ∷ 115 ∷ 116 ∷ 99 ∷ 111 ∷ 0 ∷ 0 ∷ 0 ∷ 0 ∷ 0 ∷ 0 ∷ 0 ∷ 1 ∷ 0 ∷ 0 ∷ 1 ∷ 8 ∷ 0 ∷ 0 ∷ 0 ∷ 104 ∷ 116 ∷ 114 ∷ 97 ∷ 107 ∷ 0 ∷ 0 ∷ 0 ∷ 96 ∷ 109 ∷ 100 ∷ 105 ∷ 97 ∷ 0 ∷ 0 ∷ 0 ∷ 88 ∷ 109 ∷ 105 ∷ 110 ∷ 102 ∷ 0 ∷ 0 ∷ 0 ∷ 80 ∷ 115 ∷ 116 ∷ 98 ∷ 108 ∷ 0 ∷ 0 ∷ 0 ∷ 28 ∷ 115 ∷ 116 ∷ 115 ∷ 99 ∷ 0 ∷ 0 ∷ 0 ∷ 0 ∷ 0 ∷ 0 ∷ 0 ∷ 1 ∷ 0 ∷ 0 ∷ 0 ∷ 1 ∷ 0 ∷ 0 ∷ 0 ∷ 1 ∷ 0 ∷ 0 ∷ 0 ∷ 1 ∷ 0 ∷ 0 ∷ 0 ∷ 20 ∷ 115 ∷ 116 ∷ 115 ∷ 122 ∷ 0 ∷ 0 ∷ 0 ∷ 0 ∷ 0 ∷ 0 ∷ 0 ∷ 4 ∷ 0 ∷ 0 ∷ 0 ∷ 1 ∷ 0 ∷ 0 ∷ 0 ∷ 24 ∷ 99 ∷ 111 ∷ 54 ∷ 52 ∷ 0 ∷ 0 ∷ 0 ∷ 0 ∷ 0 ∷ 0 ∷ 0 ∷ 1 ∷ 0 ∷ 0 ∷ 0 ∷ 0 ∷ 0 ∷ 0 ∷ 1 ∷ 12 ∷ 0 ∷ 0 ∷ 0 ∷ 24 ∷ 117 ∷ 100 ∷ 116 ∷ 97 ∷ 0 ∷ 0 ∷ 0 ∷ 16 ∷ 169 ∷ 110 ∷ 97 ∷ 109 ∷ 0 ∷ 4 ∷ 21 ∷ 199 ∷ 82 ∷ 101 ∷ 101 ∷ 108 ∷ 0 ∷ 0 ∷ 0 ∷ 16 ∷ 109 ∷ 100 ∷ 97 ∷ 116 ∷ 97 ∷ 98 ∷ 99 ∷ 100 ∷ 101 ∷ 102 ∷ 103 ∷ 104 ∷ []

-- the same with a name that is one byte longer: the places in both tables move
abbrev pub two_moved : List ℕ
two_moved = 0 ∷ 0 ∷ 0 ∷ 20 ∷ 102 ∷ 116 ∷ 121 ∷ 112 ∷ 113 ∷ 116 ∷ 32 ∷ 32 ∷ 0 ∷ 0 ∷ 0 ∷ 0 ∷ 113 ∷ 116 ∷ 32 ∷ 32 ∷ 0 ∷ 0 ∷ 0 ∷ 237 ∷ 109 ∷ 111 ∷ 111 ∷ 118 ∷ 0 ∷ 0 ∷ 0 ∷ 100 ∷ 116 ∷ 114 ∷ 97 ∷ 107 ∷ 0 ∷ 0 ∷ 0 ∷ 92 ∷ 109 ∷ 100 ∷ 105 ∷ 97 ∷ 0 ∷ 0 ∷ 0 ∷ 84 ∷ 109 ∷ 105 ∷ 110 ∷ 102 ∷ 0 ∷ 0 ∷ 0 ∷ 76 ∷ 115 ∷ 116 ∷ 98 ∷ 108 ∷ 0 ∷ 0 ∷ 0 ∷ 28 ∷ 115 ∷ 116 ∷ 115 ∷ 99 ∷ 0 ∷ 0 ∷ 0 ∷ 0 ∷ 0 ∷ 0 ∷ 0 ∷ 1 ∷ 0 ∷ 0 ∷ 0 ∷ 1 ∷ 0 ∷ 0 ∷ 0 ∷ 1 ∷ 0 ∷ 0 ∷ 0 ∷ 1 ∷ 0 ∷ 0 ∷ 0 ∷ 20 ∷ 115 ∷ 116 ∷ 115 ∷ 122 ∷ 0 ∷ 0 ∷ 0 ∷ 0 ∷ 0 ∷ 0 ∷ 0 ∷ 4 ∷ 0 ∷ 0 ∷ 0 ∷ 1 ∷ 0 ∷ 0 ∷ 0 ∷ 20 ∷ 115 ∷ 116 ∷ 99 ∷ 111 ∷ 0 ∷ 0 ∷ 0 ∷ 0 ∷ 0 ∷ 0 ∷ 0 ∷ 1 ∷ 0 ∷ 0 ∷ 1 ∷ 9 ∷ 0 ∷ 0 ∷ 0 ∷ 104 ∷ 116 ∷ 114 ∷ 97 ∷ 107 ∷ 0 ∷ 0 ∷ 0 ∷ 96 ∷ 109 ∷ 100 ∷ 105 ∷ 97 ∷ 0 ∷ 0 ∷ 0 ∷ 88 ∷ 109 ∷ 105 ∷ 110 ∷ 102 ∷ 0 ∷ 0 ∷ 0 ∷ 80 ∷ 115 ∷ 116 ∷ 98 ∷ 108 ∷ 0 ∷ 0 ∷ 0 ∷ 28 ∷ 115 ∷ 116 ∷ 115 ∷ 99 ∷ 0 ∷ 0 ∷ 0 ∷ 0 ∷ 0 ∷ 0 ∷ 0 ∷ 1 ∷ 0 ∷ 0 ∷ 0 ∷ 1 ∷ 0 ∷ 0 ∷ 0 ∷ 1 ∷ 0 ∷ 0 ∷ 0 ∷ 1 ∷ 0 ∷ 0 ∷ 0 ∷ 20 ∷ 115 ∷ 116 ∷ 115 ∷ 122 ∷ 0 ∷ 0 ∷ 0 ∷ 0 ∷ 0 ∷ 0 ∷ 0 ∷ 4 ∷ 0 ∷ 0 ∷ 0 ∷ 1 ∷ 0 ∷ 0 ∷ 0 ∷ 24 ∷ 99 ∷ 111 ∷ 54 ∷ 52 ∷ 0 ∷ 0 ∷ 0 ∷ 0 ∷ 0 ∷ 0 ∷ 0 ∷ 1 ∷ 0 ∷ 0 ∷ 0 ∷ 0 ∷ 0 ∷ 0 ∷ 1 ∷ 13 ∷ 0 ∷ 0 ∷ 0 ∷ 25 ∷ 117 ∷ 100 ∷ 116 ∷ 97 ∷ 0 ∷ 0 ∷ 0 ∷ 17 ∷ 169 ∷ 110 ∷ 97 ∷ 109 ∷ 0 ∷ 5 ∷ 21 ∷ 199 ∷ 82 ∷ 101 ∷ 101 ∷ 108 ∷ 115 ∷ 0 ∷ 0 ∷ 0 ∷ 16 ∷ 109 ∷ 100 ∷ 97 ∷ 116 ∷ 97 ∷ 98 ∷ 99 ∷ 100 ∷ 101 ∷ 102 ∷ 103 ∷ 104 ∷ []

-- a name of 28 bytes
abbrev pub big : List ℕ
big = codes "abcdefghijklmnopqrstuvwxyz01"

-- a name of 11 bytes
abbrev longer : List ℕ
longer = codes "Longer name"

pub named_in_place : new_file reel (set big) ≡ reel_named
unfolding edited_file units chunks read mend
named_in_place = refl

in_place_fits : has_room reel (set big) ≡ true
unfolding edited_file units chunks read mend
in_place_fits = refl

its_patches : patches reel (set big) ≡ patch 20 (0 ∷ 0 ∷ 0 ∷ 160 ∷ []) ++ patch 132 (0 ∷ 0 ∷ 0 ∷ 48 ∷ 117 ∷ 100 ∷ 116 ∷ 97 ∷ 0 ∷ 0 ∷ 0 ∷ 40 ∷ 169 ∷ 110 ∷ 97 ∷ 109 ∷ 0 ∷ 28 ∷ 21 ∷ 199 ∷ 97 ∷ 98 ∷ 99 ∷ 100 ∷ 101 ∷ 102 ∷ 103 ∷ 104 ∷ 105 ∷ 106 ∷ 107 ∷ 108 ∷ 109 ∷ 110 ∷ 111 ∷ 112 ∷ 113 ∷ 114 ∷ 115 ∷ 116 ∷ 117 ∷ 118 ∷ 119 ∷ 120 ∷ 121 ∷ 122 ∷ 48 ∷ 49 ∷ [])
unfolding edited_file units chunks read mend
its_patches = refl

pub not_too_large : too_large reel (set big) ≡ None
unfolding edited_file units chunks read mend leaves walk
not_too_large = refl

named_by_rewriting : new_file tight (set big) ≡ tight_named
unfolding edited_file units chunks read mend
named_by_rewriting = refl

rewriting_has_no_room : has_room tight (set big) ≡ false
unfolding edited_file units chunks read mend
rewriting_has_no_room = refl

wide_by_rewriting : new_file wide_reel (set big) ≡ wide_named
unfolding edited_file units chunks read mend
wide_by_rewriting = refl

named_at_the_end : new_file moov_last (set longer) ≡ last_named
unfolding edited_file units chunks read mend
named_at_the_end = refl

end_fits : has_room moov_last (set longer) ≡ true
unfolding edited_file units chunks read mend
end_fits = refl

patches_at_the_end : patches moov_last (set longer) ≡ patch 52 (0 ∷ 0 ∷ 0 ∷ 143 ∷ []) ++ patch 164 (0 ∷ 0 ∷ 0 ∷ 31 ∷ 117 ∷ 100 ∷ 116 ∷ 97 ∷ 0 ∷ 0 ∷ 0 ∷ 23 ∷ 169 ∷ 110 ∷ 97 ∷ 109 ∷ 0 ∷ 11 ∷ 21 ∷ 199 ∷ 76 ∷ 111 ∷ 110 ∷ 103 ∷ 101 ∷ 114 ∷ 32 ∷ 110 ∷ 97 ∷ 109 ∷ 101 ∷ [])
unfolding edited_file units chunks read mend
patches_at_the_end = refl

both_tracks : new_file two_tracks (set (codes "Reels")) ≡ two_moved
unfolding edited_file units chunks read mend
both_tracks = refl

named_again : new_file reel_named (set big) ≡ reel_named
unfolding edited_file units chunks read mend
named_again = refl

-- what the tables of the first movie find, where its places stand, and the text that it has
its_pieces : pieces reel ≡ record { chunks = Some (0, 0 ∷ 0 ∷ 0 ∷ 0 ∷ 0 ∷ 0 ∷ 0 ∷ 0 ∷ 0 ∷ 0 ∷ 0 ∷ 0 ∷ 0 ∷ 0 ∷ 0 ∷ 1 ∷ []) ∷ Some (0, 0 ∷ 0 ∷ 0 ∷ 0 ∷ 0 ∷ 0 ∷ 0 ∷ 1 ∷ []) ∷ []; samples = ((0 ∷ 0 ∷ 0 ∷ 0 ∷ 0 ∷ 0 ∷ 0 ∷ 0 ∷ []) ∷ []) ∷ ((0 ∷ 0 ∷ 0 ∷ 0 ∷ 0 ∷ 0 ∷ 0 ∷ 1 ∷ []) ∷ []) ∷ [] } ∷ []
unfolding read chunks leaves
its_pieces = refl

its_places : offset_places reel ≡ record { at = 124; len = 4 } ∷ record { at = 128; len = 4 } ∷ []
unfolding read chunks walk
its_places = refl

its_fields : fields reel (User (four (169 ∷ codes "nam"))) ≡ record { lang = 5575; raw = codes "Reel" } ∷ []
unfolding read chunks
its_fields = refl

abbrev part : List ℕ → ℕ → ℕ → ℕ → ℕ → Role → Part
part id at body len next role = record { id = four id; at = at; body = record { at = body; len = len }; next = next; role = role }

-- the parts of the first movie
its_parts : parts_of reel ≡ part (codes "ftyp") 0 8 12 20 Opaque ∷ part (codes "moov") 20 28 128 156 Opaque ∷ part (codes "free") 156 164 16 180 Padding ∷ part (codes "mdat") 180 188 16 204 Essence ∷ part (codes "trak") 28 36 96 132 Opaque ∷ part (codes "mdia") 36 44 88 132 Opaque ∷ part (codes "minf") 44 52 80 132 Opaque ∷ part (codes "stbl") 52 60 72 132 Opaque ∷ part (codes "stsc") 60 68 20 88 Opaque ∷ part (codes "stsz") 88 96 12 108 Opaque ∷ part (codes "stco") 108 116 16 132 Tables ∷ part (codes "udta") 132 140 16 156 UserData ∷ part (169 ∷ codes "nam") 140 148 8 156 Opaque ∷ []
unfolding read chunks inner_parts
its_parts = refl

-- user data that ends in four zeros, three bytes more in moov, and a tail of two bytes
abbrev resting : List ℕ
resting = 0 ∷ 0 ∷ 0 ∷ 23 ∷ 109 ∷ 111 ∷ 111 ∷ 118 ∷ 0 ∷ 0 ∷ 0 ∷ 12 ∷ 117 ∷ 100 ∷ 116 ∷ 97 ∷ 0 ∷ 0 ∷ 0 ∷ 0 ∷ 1 ∷ 2 ∷ 3 ∷ 4 ∷ 5 ∷ []

abbrev rest : ℕ → ℕ → Part
rest at len = part (0 ∷ 0 ∷ 0 ∷ 0 ∷ []) at at len (at + len) Rest

its_rests : parts_of resting ≡ part (codes "moov") 0 8 15 23 Opaque ∷ rest 23 2 ∷ part (codes "udta") 8 16 4 20 UserData ∷ rest 16 4 ∷ rest 20 3 ∷ []
unfolding read chunks inner_parts
its_rests = refl

its_essence : essence reel ≡ record { at = 188; len = 16 } ∷ []
unfolding read chunks walk
its_essence = refl

its_user_data : user_span reel ≡ Some (record { at = 140; len = 16 })
unfolding read chunks
its_user_data = refl

its_tracks : track_tables reel ≡ record { narrow = record { at = 116; len = 16 } ∷ []; wide = []; runs = record { at = 68; len = 20 } ∷ []; sizes = record { at = 96; len = 12 } ∷ [] } ∷ []
unfolding read chunks walk
its_tracks = refl

pub fine_reel : why reel ≡ None
unfolding read chunks walk leaves
fine_reel = refl

fine_tight : why tight ≡ None
unfolding read chunks walk leaves
fine_tight = refl

fine_wide_reel : why wide_reel ≡ None
unfolding read chunks walk leaves
fine_wide_reel = refl

fine_moov_last : why moov_last ≡ None
unfolding read chunks walk leaves
fine_moov_last = refl

fine_two_tracks : why two_tracks ≡ None
unfolding read chunks walk leaves
fine_two_tracks = refl

fine_reel_named : why reel_named ≡ None
unfolding read chunks walk leaves
fine_reel_named = refl

fine_two_moved : why two_moved ≡ None
unfolding read chunks walk leaves
fine_two_moved = refl

-- ---- keys

-- the edit that sets a key
abbrev set_key : List ℕ → List EditItem
set_key text = record { name = Key (codes "a"); change = Set text } ∷ []

-- the movie with a new key table: its `meta` of 100 bytes stands behind the user data and takes the place of the padding
abbrev reel_keyed : List ℕ
reel_keyed = 0 ∷ 0 ∷ 0 ∷ 20 ∷ 102 ∷ 116 ∷ 121 ∷ 112 ∷ 113 ∷ 116 ∷ 32 ∷ 32 ∷ 0 ∷ 0 ∷ 0 ∷ 0 ∷ 113 ∷ 116 ∷ 32 ∷ 32 ∷ 0 ∷ 0 ∷ 0 ∷ 236 ∷ 109 ∷ 111 ∷ 111 ∷ 118 ∷ 0 ∷ 0 ∷ 0 ∷ 104 ∷ 116 ∷ 114 ∷ 97 ∷ 107 ∷ 0 ∷ 0 ∷ 0 ∷ 96 ∷ 109 ∷ 100 ∷ 105 ∷ 97 ∷ 0 ∷ 0 ∷ 0 ∷ 88 ∷ 109 ∷ 105 ∷ 110 ∷ 102 ∷ 0 ∷ 0 ∷ 0 ∷ 80 ∷ 115 ∷ 116 ∷ 98 ∷ 108 ∷ 0 ∷ 0 ∷ 0 ∷ 28 ∷ 115 ∷ 116 ∷ 115 ∷ 99 ∷ 0 ∷ 0 ∷ 0 ∷ 0 ∷ 0 ∷ 0 ∷ 0 ∷ 1 ∷ 0 ∷ 0 ∷ 0 ∷ 1 ∷ 0 ∷ 0 ∷ 0 ∷ 1 ∷ 0 ∷ 0 ∷ 0 ∷ 1 ∷ 0 ∷ 0 ∷ 0 ∷ 20 ∷ 115 ∷ 116 ∷ 115 ∷ 122 ∷ 0 ∷ 0 ∷ 0 ∷ 0 ∷ 0 ∷ 0 ∷ 0 ∷ 8 ∷ 0 ∷ 0 ∷ 0 ∷ 2 ∷ 0 ∷ 0 ∷ 0 ∷ 24 ∷ 115 ∷ 116 ∷ 99 ∷ 111 ∷ 0 ∷ 0 ∷ 0 ∷ 0 ∷ 0 ∷ 0 ∷ 0 ∷ 2 ∷ 0 ∷ 0 ∷ 1 ∷ 8 ∷ 0 ∷ 0 ∷ 1 ∷ 16 ∷ 0 ∷ 0 ∷ 0 ∷ 24 ∷ 117 ∷ 100 ∷ 116 ∷ 97 ∷ 0 ∷ 0 ∷ 0 ∷ 16 ∷ 169 ∷ 110 ∷ 97 ∷ 109 ∷ 0 ∷ 4 ∷ 21 ∷ 199 ∷ 82 ∷ 101 ∷ 101 ∷ 108 ∷ 0 ∷ 0 ∷ 0 ∷ 100 ∷ 109 ∷ 101 ∷ 116 ∷ 97 ∷ 0 ∷ 0 ∷ 0 ∷ 33 ∷ 104 ∷ 100 ∷ 108 ∷ 114 ∷ 0 ∷ 0 ∷ 0 ∷ 0 ∷ 0 ∷ 0 ∷ 0 ∷ 0 ∷ 109 ∷ 100 ∷ 116 ∷ 97 ∷ 0 ∷ 0 ∷ 0 ∷ 0 ∷ 0 ∷ 0 ∷ 0 ∷ 0 ∷ 0 ∷ 0 ∷ 0 ∷ 0 ∷ 0 ∷ 0 ∷ 0 ∷ 0 ∷ 25 ∷ 107 ∷ 101 ∷ 121 ∷ 115 ∷ 0 ∷ 0 ∷ 0 ∷ 0 ∷ 0 ∷ 0 ∷ 0 ∷ 1 ∷ 0 ∷ 0 ∷ 0 ∷ 9 ∷ 109 ∷ 100 ∷ 116 ∷ 97 ∷ 97 ∷ 0 ∷ 0 ∷ 0 ∷ 34 ∷ 105 ∷ 108 ∷ 115 ∷ 116 ∷ 0 ∷ 0 ∷ 0 ∷ 26 ∷ 0 ∷ 0 ∷ 0 ∷ 1 ∷ 0 ∷ 0 ∷ 0 ∷ 18 ∷ 100 ∷ 97 ∷ 116 ∷ 97 ∷ 0 ∷ 0 ∷ 0 ∷ 1 ∷ 0 ∷ 0 ∷ 0 ∷ 0 ∷ 72 ∷ 105 ∷ 0 ∷ 0 ∷ 0 ∷ 24 ∷ 109 ∷ 100 ∷ 97 ∷ 116 ∷ 0 ∷ 0 ∷ 0 ∷ 0 ∷ 0 ∷ 0 ∷ 0 ∷ 0 ∷ 0 ∷ 0 ∷ 0 ∷ 0 ∷ 0 ∷ 0 ∷ 0 ∷ 1 ∷ []

keyed : new_file reel (set_key (codes "Hi")) ≡ reel_keyed
unfolding edited_file units chunks read mend leaves walk key_table each
keyed = refl

keyed_rewrites : has_room reel (set_key (codes "Hi")) ≡ false
unfolding edited_file units chunks read mend key_table each
keyed_rewrites = refl

its_key : fields reel_keyed (Key (codes "a")) ≡ record { lang = 0; raw = 0 ∷ 0 ∷ 0 ∷ 1 ∷ 0 ∷ 0 ∷ 0 ∷ 0 ∷ codes "Hi" } ∷ []
unfolding edited_file units chunks read mend key_table each
its_key = refl

-- another text of the same length is written in place, as one patch over the key table
keyed_in_place : patches reel_keyed (set_key (codes "Ho")) ≡ patch 156 (0 ∷ 0 ∷ 0 ∷ 100 ∷ 109 ∷ 101 ∷ 116 ∷ 97 ∷ 0 ∷ 0 ∷ 0 ∷ 33 ∷ 104 ∷ 100 ∷ 108 ∷ 114 ∷ 0 ∷ 0 ∷ 0 ∷ 0 ∷ 0 ∷ 0 ∷ 0 ∷ 0 ∷ 109 ∷ 100 ∷ 116 ∷ 97 ∷ 0 ∷ 0 ∷ 0 ∷ 0 ∷ 0 ∷ 0 ∷ 0 ∷ 0 ∷ 0 ∷ 0 ∷ 0 ∷ 0 ∷ 0 ∷ 0 ∷ 0 ∷ 0 ∷ 25 ∷ 107 ∷ 101 ∷ 121 ∷ 115 ∷ 0 ∷ 0 ∷ 0 ∷ 0 ∷ 0 ∷ 0 ∷ 0 ∷ 1 ∷ 0 ∷ 0 ∷ 0 ∷ 9 ∷ 109 ∷ 100 ∷ 116 ∷ 97 ∷ 97 ∷ 0 ∷ 0 ∷ 0 ∷ 34 ∷ 105 ∷ 108 ∷ 115 ∷ 116 ∷ 0 ∷ 0 ∷ 0 ∷ 26 ∷ 0 ∷ 0 ∷ 0 ∷ 1 ∷ 0 ∷ 0 ∷ 0 ∷ 18 ∷ 100 ∷ 97 ∷ 116 ∷ 97 ∷ 0 ∷ 0 ∷ 0 ∷ 1 ∷ 0 ∷ 0 ∷ 0 ∷ 0 ∷ 72 ∷ 111 ∷ [])
unfolding edited_file units chunks read mend leaves walk key_table each
keyed_in_place = refl

key_has_room : has_room reel_keyed (set_key (codes "Ho")) ≡ true
unfolding edited_file units chunks read mend leaves walk key_table each
key_has_room = refl

-- ---- wide tables

-- the movie with wide tables: moov is eight bytes longer, and both places move by that
abbrev reel_wide : List ℕ
reel_wide = 0 ∷ 0 ∷ 0 ∷ 20 ∷ 102 ∷ 116 ∷ 121 ∷ 112 ∷ 113 ∷ 116 ∷ 32 ∷ 32 ∷ 0 ∷ 0 ∷ 0 ∷ 0 ∷ 113 ∷ 116 ∷ 32 ∷ 32 ∷ 0 ∷ 0 ∷ 0 ∷ 144 ∷ 109 ∷ 111 ∷ 111 ∷ 118 ∷ 0 ∷ 0 ∷ 0 ∷ 112 ∷ 116 ∷ 114 ∷ 97 ∷ 107 ∷ 0 ∷ 0 ∷ 0 ∷ 104 ∷ 109 ∷ 100 ∷ 105 ∷ 97 ∷ 0 ∷ 0 ∷ 0 ∷ 96 ∷ 109 ∷ 105 ∷ 110 ∷ 102 ∷ 0 ∷ 0 ∷ 0 ∷ 88 ∷ 115 ∷ 116 ∷ 98 ∷ 108 ∷ 0 ∷ 0 ∷ 0 ∷ 28 ∷ 115 ∷ 116 ∷ 115 ∷ 99 ∷ 0 ∷ 0 ∷ 0 ∷ 0 ∷ 0 ∷ 0 ∷ 0 ∷ 1 ∷ 0 ∷ 0 ∷ 0 ∷ 1 ∷ 0 ∷ 0 ∷ 0 ∷ 1 ∷ 0 ∷ 0 ∷ 0 ∷ 1 ∷ 0 ∷ 0 ∷ 0 ∷ 20 ∷ 115 ∷ 116 ∷ 115 ∷ 122 ∷ 0 ∷ 0 ∷ 0 ∷ 0 ∷ 0 ∷ 0 ∷ 0 ∷ 8 ∷ 0 ∷ 0 ∷ 0 ∷ 2 ∷ 0 ∷ 0 ∷ 0 ∷ 32 ∷ 99 ∷ 111 ∷ 54 ∷ 52 ∷ 0 ∷ 0 ∷ 0 ∷ 0 ∷ 0 ∷ 0 ∷ 0 ∷ 2 ∷ 0 ∷ 0 ∷ 0 ∷ 0 ∷ 0 ∷ 0 ∷ 0 ∷ 196 ∷ 0 ∷ 0 ∷ 0 ∷ 0 ∷ 0 ∷ 0 ∷ 0 ∷ 204 ∷ 0 ∷ 0 ∷ 0 ∷ 24 ∷ 117 ∷ 100 ∷ 116 ∷ 97 ∷ 0 ∷ 0 ∷ 0 ∷ 16 ∷ 169 ∷ 110 ∷ 97 ∷ 109 ∷ 0 ∷ 4 ∷ 21 ∷ 199 ∷ 82 ∷ 101 ∷ 101 ∷ 108 ∷ 0 ∷ 0 ∷ 0 ∷ 24 ∷ 102 ∷ 114 ∷ 101 ∷ 101 ∷ 0 ∷ 0 ∷ 0 ∷ 0 ∷ 0 ∷ 0 ∷ 0 ∷ 0 ∷ 0 ∷ 0 ∷ 0 ∷ 0 ∷ 0 ∷ 0 ∷ 0 ∷ 0 ∷ 0 ∷ 0 ∷ 0 ∷ 24 ∷ 109 ∷ 100 ∷ 97 ∷ 116 ∷ 0 ∷ 0 ∷ 0 ∷ 0 ∷ 0 ∷ 0 ∷ 0 ∷ 0 ∷ 0 ∷ 0 ∷ 0 ∷ 0 ∷ 0 ∷ 0 ∷ 0 ∷ 1 ∷ []

made_wide : widened_file reel ≡ reel_wide
unfolding widened_file chunks read mend wide_in
made_wide = refl

-- it is supported, and its tables find the same
fine_wide : why reel_wide ≡ None
unfolding read chunks walk leaves
fine_wide = refl

same_found : pieces reel_wide ≡ pieces reel
unfolding read chunks walk leaves
same_found = refl

-- what is kept has a wide table too
same_kept : kept reel_wide ≡ wide_kept (kept reel)
unfolding read chunks walk leaves tokens key_table each
same_kept = refl

-- the edits of small movies don't widen
stays_narrow : widens reel (set big) ≡ false
unfolding edited_file units chunks read mend leaves walk
stays_narrow = refl

-- Worked files: what an edit makes of them, and why files are refused.
use Rattle.std.proofs.Common.{◌≡◌, ℕ, ◌+◌, ◌^◌, List, [], ◌∷◌, ◌++◌, map, Some, None, refl, true, false}
use Rattle.std.specs.Prelude.{codes, replicate, nat_lt, if◌then◌else◌}
use Rattle.std.specs.Int.{w16, w32, w64, to_le_bytes}
use Rattle.std.specs.Str.{chars, is_utf8}
use Rattle.part_tree.specs.Letters.{four}
use Rattle.part_tree.specs.declared.field.Change.TheVariants.{Set}
use Rattle.part_tree.specs.declared.field.EditItem.{EditItem}
use Rattle.part_tree.specs.declared.field.FieldName.TheVariants.{Info}
use Rattle.part_tree.specs.declared.field.RuleSet.TheVariants.{Base}
use Rattle.part_tree.specs.declared.names.Kind.TheVariants.{Avi}
use Rattle.part_tree.specs.declared.why.Why.TheVariants.{IndexAstray, IndexBase, IndexKind, IndexOverlap, IndexPlace, IndexShort, NoHdrl, NoMovi, Truncated, UnknownKind}
use Rattle.part_tree.specs.declared.part.Part.{Part}
use Rattle.part_tree.specs.declared.part.Role.{Role}
use Rattle.part_tree.specs.declared.part.Role.TheVariants.{Opaque, Tables, Essence}
use Rattle.field_model.specs.Broken.{broken}
use Rattle.container_model.specs.Chunk.{read, chunks}
use Rattle.container_model.specs.Units.{units}
use Rattle.avi_model.specs.Why.{why}
use Rattle.avi_model.specs.NewFile.{laid_file}
use Rattle.avi_model.specs.Edited.{fields, new_file}
use Rattle.container_model.specs.Tests.{first}
use Rattle.avi_model.specs.Large.{too_large, standard_checks}
use Rattle.avi_model.specs.Room.{has_room, patches}
use Rattle.avi_model.specs.Map.{parts_of, essence_bytes, counted_entries}

-- ---- how the files are spelled

abbrev le16 : ℕ → List ℕ
le16 n = to_le_bytes w16 n

abbrev le32 : ℕ → List ℕ
le32 n = to_le_bytes w32 n

abbrev le64 : ℕ → List ℕ
le64 n = to_le_bytes w64 n

abbrev part : List ℕ → ℕ → List ℕ → List ℕ
part id size body = id ++ (le32 size ++ body)

abbrev zeros : ℕ → List ℕ
zeros n = replicate n 0

abbrev sets : List ℕ → List EditItem
sets text = record { name = Info (four (codes "INAM")); change = Set text } ∷ []

-- a list of fields with the title Hi, 24 bytes in all
abbrev list_hi : List ℕ
list_hi = part (codes "LIST") 16 (codes "INFO" ++ part (codes "INAM") 3 (codes "Hi" ++ 0 ∷ (0 ∷ [])))

-- ---- one stream, two frames, idx1

abbrev stream_head : List ℕ
stream_head = part (codes "strh") 56 (codes "vids" ++ zeros 52) ++ part (codes "strf") 40 (zeros 40)

abbrev hdrl : List ℕ
hdrl = part (codes "LIST") 192 (codes "hdrl" ++ (part (codes "avih") 56 (zeros 56) ++ part (codes "LIST") 116 (codes "strl" ++ stream_head)))

abbrev frame : ℕ → List ℕ
frame k = part (codes "00db") 8 (le64 k)

abbrev movi : List ℕ
movi = part (codes "LIST") 36 (codes "movi" ++ (frame 0 ++ frame 1))

abbrev entry : List ℕ → ℕ → ℕ → ℕ → List ℕ
entry id flags offset len = id ++ (le32 flags ++ (le32 offset ++ le32 len))

abbrev two_entries : ℕ → ℕ → List ℕ
two_entries a b = part (codes "idx1") 32 (entry (codes "00db") 16 a 8 ++ entry (codes "00db") 16 b 8)

abbrev form : ℕ → List ℕ → List ℕ
form size body = part (codes "RIFF") size (codes "AVI " ++ body)

abbrev frames_file : ℕ → ℕ → List ℕ
frames_file a b = form 288 (hdrl ++ (movi ++ two_entries a b))

-- the title stands behind hdrl; offsets from movi stay
from_movi_row : new_file (frames_file 4 20) (sets (codes "Hi")) ≡ form 312 (hdrl ++ (list_hi ++ (movi ++ two_entries 4 20)))
unfolding laid_file units chunks read
from_movi_row = refl

-- offsets from the start of the file move
from_start_row : new_file (frames_file 224 240) (sets (codes "Hi")) ≡ form 312 (hdrl ++ (list_hi ++ (movi ++ two_entries 248 264)))
unfolding laid_file units chunks read
from_start_row = refl

-- without idx1
no_index_row : new_file (form 248 (hdrl ++ movi)) (sets (codes "Hi")) ≡ form 272 (hdrl ++ (list_hi ++ movi))
unfolding laid_file units chunks read
no_index_row = refl

-- A shorter title leaves two bytes, in which no padding stands; so the unit grows.
shorter_row : new_file (form 312 (hdrl ++ (list_hi ++ (movi ++ two_entries 4 20)))) (sets (codes "H"))
    ≡ form 318 (hdrl ++ (part (codes "LIST") 14 (codes "INFO" ++ part (codes "INAM") 2 (codes "H" ++ 0 ∷ [])) ++ (part (codes "JUNK") 0 [] ++ (movi ++ two_entries 4 20))))
unfolding laid_file units chunks read
shorter_row = refl

-- an entry that names nothing stays as it is
uncounted_row : new_file (frames_file 4 4000) (sets (codes "Hi")) ≡ form 312 (hdrl ++ (list_hi ++ (movi ++ two_entries 4 4000)))
unfolding laid_file units chunks read
uncounted_row = refl

-- ---- OpenDML: a super index and standard indexes in two forms

abbrev super_entry : ℕ → ℕ → ℕ → List ℕ
super_entry place size duration = le64 place ++ (le32 size ++ le32 duration)

abbrev super_head : ℕ → ℕ → List ℕ
super_head type used = le16 4 ++ (0 ∷ type ∷ [] ++ (le32 used ++ (codes "00db" ++ zeros 12)))

abbrev super_index : ℕ → ℕ → ℕ → ℕ → List ℕ
super_index type used a b = part (codes "indx") 72 (super_head type used ++ (super_entry a 44 1 ++ (super_entry b 44 1 ++ super_entry 0 0 0)))

abbrev field_index : ℕ → ℕ → ℕ → List ℕ
field_index base offset second = part (codes "ix00") 36 (le16 3 ++ (1 ∷ 1 ∷ [] ++ (le32 1 ++ (codes "00db" ++ (le64 base ++ (le32 0 ++ (le32 offset ++ (le32 8 ++ le32 second))))))))

abbrev hdrl_with : List ℕ → List ℕ
hdrl_with index = part (codes "LIST") 272 (codes "hdrl" ++ (part (codes "avih") 56 (zeros 56) ++ part (codes "LIST") 196 (codes "strl" ++ (stream_head ++ index))))

abbrev field_movi : List ℕ → List ℕ
field_movi index = part (codes "LIST") 64 (codes "movi" ++ (frame 7 ++ index))

abbrev further : ℕ → List ℕ → List ℕ
further size index = part (codes "RIFF") size (codes "AVIX" ++ field_movi index)

abbrev two_forms : List ℕ → List ℕ → List ℕ → List ℕ
two_forms super first second = form 356 (hdrl_with super ++ field_movi first) ++ further 76 second

open_dml_row : new_file (two_forms (super_index 0 3 320 404) (field_index 304 8 12) (field_index 388 8 12)) (sets (codes "Hi"))
    ≡ form 380 (hdrl_with (super_index 0 3 344 428) ++ (list_hi ++ field_movi (field_index 328 8 12))) ++ further 76 (field_index 412 8 12)
unfolding laid_file units chunks read
open_dml_row = refl

-- ---- two streams whose indexes interleave in movi

abbrev stream_list : ℕ → ℕ → List ℕ
stream_list p q = part (codes "LIST") 80 (codes "strl" ++ (part (codes "strh") 4 (zeros 4) ++ part (codes "indx") 56 (le16 4 ++ (0 ∷ 0 ∷ [] ++ (le32 2 ++ (codes "00db" ++ (zeros 12 ++ (super_entry p 40 1 ++ super_entry q 40 1))))))))

abbrev streams_hdrl : ℕ → ℕ → ℕ → ℕ → List ℕ
streams_hdrl a b c d = part (codes "LIST") 192 (codes "hdrl" ++ (part (codes "avih") 4 (zeros 4) ++ (stream_list a b ++ stream_list c d)))

-- one field, base, offset and size; bit 31 of the size says that it is no key frame
abbrev plain_index : List ℕ → ℕ → ℕ → ℕ → List ℕ
plain_index id base offset size = part id 32 (le16 2 ++ (0 ∷ 1 ∷ [] ++ (le32 1 ++ (codes "00db" ++ (le64 base ++ (le32 0 ++ (le32 offset ++ le32 size)))))))

abbrev sound : ℕ → List ℕ
sound k = part (codes "01wb") 8 (le64 k)

abbrev streams_movi : ℕ → ℕ → ℕ → ℕ → List ℕ
streams_movi a b c d =
    part (codes "LIST") 232 (codes "movi" ++ (frame 1 ++ (sound 2 ++ (plain_index (codes "ix00") a 8 8 ++ (field_index b 8 12 ++ (sound 3 ++ (frame 4 ++ (plain_index (codes "ix01") c 8 8 ++ plain_index (codes "ix00") d 8 (8 + 2 ^ 31)))))))))

-- an entry of no bytes, and one that stands for an index chunk
abbrev start_entries : ℕ → ℕ → List ℕ
start_entries a b = part (codes "idx1") 48 (entry (codes "00db") 16 a 8 ++ (entry (codes "7Fxx") 0 4000 0 ++ entry (codes "ix00") 0 b 32))

interleaved_row : new_file (form 500 (streams_hdrl 256 412 296 372 ++ (streams_movi 224 240 340 356 ++ start_entries 224 256))) (sets (codes "Hi"))
    ≡ form 524 (streams_hdrl 280 436 320 396 ++ (list_hi ++ (streams_movi 248 264 364 380 ++ start_entries 248 280)))
unfolding laid_file units chunks read
interleaved_row = refl

-- From movi: a frame, a place behind the file, an index chunk, and a place inside one, which isn't counted. None of them changes.
abbrev movi_entries : List ℕ
movi_entries = part (codes "idx1") 64 (entry (codes "00db") 16 4 8 ++ (entry (codes "00db") 16 4000 8 ++ (entry (codes "ix00") 0 36 32 ++ entry (codes "00db") 16 44 8)))

mixed_row : new_file (form 516 (streams_hdrl 256 412 296 372 ++ (streams_movi 224 240 340 356 ++ movi_entries))) (sets (codes "Hi"))
    ≡ form 540 (streams_hdrl 280 436 320 396 ++ (list_hi ++ (streams_movi 248 264 364 380 ++ movi_entries)))
unfolding laid_file units chunks read
mixed_row = refl

-- ---- room in place

abbrev list_row : List ℕ → List ℕ
list_row title = part (codes "LIST") 16 (codes "INFO" ++ part (codes "INAM") 3 (title ++ 0 ∷ (0 ∷ [])))

-- A title of the same length is written where the old one stood; a shorter one and a first one have no room.
room_row : (has_room (form 312 (hdrl ++ (list_hi ++ (movi ++ two_entries 4 20)))) (sets (codes "Ho")) ≡ true)
    × (patches (form 312 (hdrl ++ (list_hi ++ (movi ++ two_entries 4 20)))) (sets (codes "Ho")) ≡ record { at = 212; bytes = list_row (codes "Ho") } ∷ [])
unfolding units chunks read
room_row = (refl, refl)

no_room_row : (has_room (form 312 (hdrl ++ (list_hi ++ (movi ++ two_entries 4 20)))) (sets (codes "H")) ≡ false) × (has_room (frames_file 4 20) (sets (codes "Hi")) ≡ false)
unfolding units chunks read
no_room_row = (refl, refl)

-- ---- what is too large

-- 200 bytes at 1000 stay, and 100 bytes at 1500 move by 24
abbrev moves_of : ℕ → ℕ
moves_of p = if nat_lt p 1500 then p else p + 24

-- Base 1000; the first entry names 1500 and the second one 1000. The new base is 1024, and the second entry stands before it.
before_base_row : first (standard_checks moves_of (le16 2 ++ (0 ∷ 1 ∷ [] ++ (le32 2 ++ (codes "00db" ++ (le64 1000 ++ (le32 0 ++ (le32 500 ++ (le32 8 ++ (le32 0 ++ le32 8))))))))) (Some 500)) ≡ Some (record { size = 1000; limit = 0 })
before_base_row = refl

-- ---- what is told

told_frames_row : (essence_bytes (frames_file 4 20) ≡ 32) × (counted_entries (frames_file 4 20) ≡ 2)
unfolding chunks read
told_frames_row = (refl, refl)

told_uncounted_row : counted_entries (frames_file 4 4000) ≡ 1
unfolding chunks read
told_uncounted_row = refl

told_open_dml_row : (essence_bytes (two_forms (super_index 0 3 320 404) (field_index 304 8 12) (field_index 388 8 12)) ≡ 120) × (counted_entries (two_forms (super_index 0 3 320 404) (field_index 304 8 12) (field_index 388 8 12)) ≡ 2)
unfolding chunks read
told_open_dml_row = (refl, refl)

-- the place, the end and the role of a part
abbrev told : Part → ℕ × (ℕ × Role)
told p = (p.at, (p.next, p.role))

-- hdrl with avih, strl, strh, strf and indx; movi; and movi and a last index of the further form
told_parts_row : map told (parts_of (two_forms (super_index 0 3 320 404) (field_index 304 8 12) (field_index 388 8 12)))
    ≡ (12, (292, Opaque)) ∷ (24, (88, Opaque)) ∷ (88, (292, Opaque)) ∷ (100, (164, Opaque)) ∷ (164, (212, Opaque)) ∷ (212, (292, Tables)) ∷ (292, (364, Essence)) ∷ (376, (448, Essence)) ∷ []
unfolding chunks read
told_parts_row = refl

told_roles_row : map told (parts_of (form 312 (hdrl ++ (list_hi ++ (movi ++ two_entries 4 20)))))
    ≡ (12, (212, Opaque)) ∷ (24, (88, Opaque)) ∷ (88, (212, Opaque)) ∷ (100, (164, Opaque)) ∷ (164, (212, Opaque)) ∷ (212, (236, Rattle.part_tree.specs.declared.part.Role.TheVariants.Info)) ∷ (224, (236, Opaque)) ∷ (236, (280, Essence)) ∷ (280, (320, Tables)) ∷ []
unfolding chunks read
told_roles_row = refl

-- ---- the premises of the law are met

supported_row : why (frames_file 224 240) ≡ None
unfolding chunks read
supported_row = refl

dml_supported : why (two_forms (super_index 0 3 320 404) (field_index 304 8 12) (field_index 388 8 12)) ≡ None
unfolding chunks read
dml_supported = refl

interleaved_supported : why (form 500 (streams_hdrl 256 412 296 372 ++ (streams_movi 224 240 340 356 ++ start_entries 224 256))) ≡ None
unfolding chunks read
interleaved_supported = refl

mixed_supported : why (form 516 (streams_hdrl 256 412 296 372 ++ (streams_movi 224 240 340 356 ++ movi_entries))) ≡ None
unfolding chunks read
mixed_supported = refl

not_broken : broken Avi 0 (fields (frames_file 224 240)) (sets (codes "Hi")) Base ≡ None
unfolding chunks read chars is_utf8 lib.Utf8.encode
not_broken = refl

not_large : too_large (frames_file 224 240) (sets (codes "Hi")) ≡ None
unfolding laid_file units chunks read
not_large = refl

-- ---- why files are refused

eleven_bytes : why (codes "RIFF" ++ (le32 3 ++ codes "AVI")) ≡ Some UnknownKind
unfolding chunks read
eleven_bytes = refl

form_too_long : why (form 289 (hdrl ++ (movi ++ two_entries 4 20))) ≡ Some (Truncated 0)
unfolding chunks read
form_too_long = refl

further_too_long : why (form 356 (hdrl_with (super_index 0 3 320 404) ++ field_movi (field_index 304 8 12)) ++ further 77 (field_index 388 8 12)) ≡ Some (Truncated 364)
unfolding chunks read
further_too_long = refl

chunk_too_long : why (form 288 (part (codes "LIST") 192 (codes "hdrl" ++ (part (codes "avih") 56 (zeros 56) ++ part (codes "LIST") 117 (codes "strl" ++ stream_head))) ++ (movi ++ two_entries 4 20))) ≡ Some (Truncated 88)
unfolding chunks read
chunk_too_long = refl

no_hdrl : why (form 88 (movi ++ two_entries 4 20)) ≡ Some NoHdrl
unfolding chunks read
no_hdrl = refl

no_movi : why (form 244 (hdrl ++ two_entries 4 20)) ≡ Some NoMovi
unfolding chunks read
no_movi = refl

-- four entries are said to be used, and three are there
too_short : why (two_forms (super_index 0 4 320 404) (field_index 304 8 12) (field_index 388 8 12)) ≡ Some (IndexShort 212)
unfolding chunks read
too_short = refl

no_kind : why (two_forms (super_index 2 3 320 404) (field_index 304 8 12) (field_index 388 8 12)) ≡ Some (IndexKind 212)
unfolding chunks read
no_kind = refl

-- a super index names a super index
named_super : why (two_forms (super_index 0 3 320 404) (part (codes "ix00") 36 (super_head 0 0 ++ zeros 12)) (field_index 388 8 12)) ≡ Some (IndexKind 320)
unfolding chunks read
named_super = refl

-- a place that is in no movi
no_place : why (two_forms (super_index 0 3 320 100) (field_index 304 8 12) (field_index 388 8 12)) ≡ Some (IndexPlace 100)
unfolding chunks read
no_place = refl

-- a chunk that is named twice
named_twice : why (two_forms (super_index 0 3 320 320) (field_index 304 8 12) (field_index 388 8 12)) ≡ Some (IndexOverlap 320)
unfolding chunks read
named_twice = refl

-- an entry in its own index
in_index : why (two_forms (super_index 0 3 320 404) (field_index 304 24 28) (field_index 388 8 12)) ≡ Some (IndexOverlap 320)
unfolding chunks read
in_index = refl

-- a second place at the entry's end
second_too_far : why (two_forms (super_index 0 3 320 404) (field_index 304 8 12) (field_index 388 8 16)) ≡ Some (IndexAstray 404 0)
unfolding chunks read
second_too_far = refl

no_base : why (frames_file 225 240) ≡ Some IndexBase
unfolding chunks read
no_base = refl

entry_astray : why (frames_file 224 4000) ≡ Some (IndexAstray 256 1)
unfolding chunks read
entry_astray = refl

-- Worked rows of the definitions, by computation.
use Rattle.std.proofs.Common.{◌≡◌, ℕ, List, [], ◌∷◌, ◌++◌, replicate, map, nat_lt, true, false, Some, None, refl, codes}
use Rattle.std.specs.Fmt.{digits}
use Rattle.std.specs.Str.{chars, is_utf8}
use Rattle.part_tree.specs.declared.field.BextField.TheVariants.{Description, Originator, OriginationDate, TimeReference, Version, Umid, LoudnessValue, LoudnessRange, CodingHistory}
use Rattle.part_tree.specs.declared.field.Change.TheVariants.{Set, Remove}
use Rattle.part_tree.specs.declared.field.EditItem.{EditItem}
use Rattle.part_tree.specs.declared.field.FieldName.{FieldName}
use Rattle.part_tree.specs.declared.field.FieldName.TheVariants.{Bext, Info, Whole, User, Key, Stream}
use Rattle.part_tree.specs.declared.field.RuleSet.TheVariants.{Base, Ebu, Fadgi}
use Rattle.part_tree.specs.declared.names.Kind.TheVariants.{Wave, Bw64, Avi, Mov}
use Rattle.part_tree.specs.Letters.{four}
use Rattle.part_tree.specs.Names.{bext_row, field_names, field_place}
use Rattle.field_model.specs.Bext.{range_of, lay_range, new_body}
use Rattle.field_model.specs.Broken.{broken, findings}
use Rattle.field_model.specs.Dates.{is_date, is_time, is_info_date, spelled_date}
use Rattle.field_model.specs.Fields.{FieldMap, plain}
use Rattle.field_model.specs.History.{is_history}
use Rattle.field_model.specs.KindFacts.{has_field}
use Rattle.field_model.specs.Numbers.{loudness_of, loudness_text, count_of}
use Rattle.field_model.specs.Shown.{shown, shown_texts}
use Rattle.field_model.specs.Texts.{field_name, name_text}
use Rattle.field_model.specs.Update.{update, effective}

abbrev pub info : List ℕ → FieldName
info id = Info (four id)

abbrev pub set : FieldName → List ℕ → EditItem
set name text = record { name = name; change = Set text }

abbrev pub remove : FieldName → EditItem
remove name = record { name = name; change = Remove }

-- the fields of a file without any
abbrev pub none : FieldMap
none name = []

-- the fields of a file with this bext alone
abbrev pub of_bext : List ℕ → FieldMap
of_bext body (Bext field) = plain (range_of (bext_row field) body) ∷ []
of_bext body _ = []

-- texts of loudness: the ends of the range, and what lies outside or isn't spelled so
loudness_rows :
    ((loudness_of (codes "-327.68") ≡ Some 32768) × (loudness_of (codes "327.66") ≡ Some 32766) × (loudness_of (codes "-23.00") ≡ Some 63236) × (loudness_of (codes "0.00") ≡ Some 0))
    × ((loudness_of (codes "327.67") ≡ None) × (loudness_of (codes "-327.69") ≡ None) × (loudness_of (codes "-0.00") ≡ None) × (loudness_of (codes "01.00") ≡ None) × (loudness_of (codes "1.0") ≡ None) × (loudness_of (codes ".50") ≡ None) × (loudness_of (codes "1,00") ≡ None) × (loudness_of (codes "+1.00") ≡ None) × (loudness_of [] ≡ None) × (loudness_of (codes "1.000") ≡ None))
loudness_rows = ((refl, refl, refl, refl), (refl, refl, refl, refl, refl, refl, refl, refl, refl, refl))

loudness_texts : (loudness_text 32768 ≡ codes "-327.68") × (loudness_text 32766 ≡ codes "327.66") × (loudness_text 63236 ≡ codes "-23.00") × (loudness_text 5 ≡ codes "0.05") × (loudness_text 65535 ≡ codes "-0.01")
unfolding digits
loudness_texts = (refl, refl, refl, refl, refl)

-- dates that exist, in the year 0 too, and those that don't
date_rows :
    ((is_date (codes "2024-02-29") ≡ true) × (is_date (codes "2023-02-29") ≡ false) × (is_date (codes "0000-02-29") ≡ true) × (is_date (codes "1900-02-29") ≡ false) × (is_date (codes "2000-02-29") ≡ true) × (is_date (codes "2024_01.31") ≡ true) × (is_date (codes "2024-04-31") ≡ false) × (is_date (codes "2024-12-31") ≡ true) × (is_date (codes "2024-13-01") ≡ false) × (is_date (codes "2024-00-01") ≡ false) × (is_date (codes "2024-01-00") ≡ false) × (is_date (codes "2024/01/01") ≡ false) × (is_date (codes "2024-1-01") ≡ false))
    × (spelled_date (codes "2024_01.31") ≡ codes "2024-01-31")
    × ((is_time (codes "23:59:59") ≡ true) × (is_time (codes "24:00:00") ≡ false) × (is_time (codes "12:60:00") ≡ false) × (is_time (codes "12:00:60") ≡ false))
    × ((is_info_date (codes "2024") ≡ true) × (is_info_date (codes "2024-12") ≡ true) × (is_info_date (codes "2024-13") ≡ false) × (is_info_date (codes "2024-02-30") ≡ false) × (is_info_date (codes "2024_01") ≡ false) × (is_info_date [] ≡ false))
date_rows = ((refl, refl, refl, refl, refl, refl, refl, refl, refl, refl, refl, refl, refl), refl, (refl, refl, refl, refl), (refl, refl, refl, refl, refl, refl))

count_rows : (count_of (codes "18446744073709551615") ≡ Some 18446744073709551615) × (count_of (codes "18446744073709551616") ≡ None) × (count_of (codes "0") ≡ Some 0) × (count_of (codes "00") ≡ None) × (count_of (codes "+1") ≡ None) × (count_of [] ≡ None)
count_rows = (refl, refl, refl, refl, refl, refl)

-- names, and texts that name nothing
name_rows :
    (field_name (codes "INAM") ≡ Some (info (codes "INAM"))) × (field_name (codes "inam") ≡ None) × (field_name (codes "XXXX") ≡ None) × (field_name (codes "UMID") ≡ Some (Bext Umid)) × (field_name (codes "XMP") ≡ Some (Whole (four (codes "_PMX")))) × (field_name (codes "_PMX") ≡ None) × (field_name (codes "MD5") ≡ Some (Whole (four (codes "MD5 ")))) × (field_name (codes "Reserved") ≡ None) × (field_name (codes "@nam") ≡ Some (User (four (169 ∷ codes "nam")))) × (field_name (codes "@na") ≡ None) × (field_name (codes "@n.m") ≡ None) × (field_name [] ≡ None)
name_rows = (refl, refl, refl, refl, refl, refl, refl, refl, refl, refl, refl, refl)

-- names of keys and of streams, and texts that are none
other_name_rows :
    ((field_name (codes "key:a") ≡ Some (Key (codes "a"))) × (field_name (codes "key:com.apple.quicktime.title") ≡ Some (Key (codes "com.apple.quicktime.title"))) × (field_name (codes "key:") ≡ None) × (field_name (codes "key:a b") ≡ None) × (field_name (codes "key:a=b") ≡ None))
    × ((field_name (codes "strn:0") ≡ Some (Stream 0)) × (field_name (codes "strn:4294967295") ≡ Some (Stream 4294967295)) × (field_name (codes "strn:4294967296") ≡ None) × (field_name (codes "strn:01") ≡ None) × (field_name (codes "strn:") ≡ None) × (field_name (codes "strn:-1") ≡ None))
    × ((name_text (Key (codes "a")) ≡ Some (codes "key:a")) × (name_text (Key (codes "a=b")) ≡ None) × (name_text (Stream 10) ≡ Some (codes "strn:10")))
unfolding digits
other_name_rows = ((refl, refl, refl, refl, refl), (refl, refl, refl, refl, refl, refl), (refl, refl, refl))

-- keys stand by their bytes behind all user types, streams by their numbers behind all keys
other_place_rows :
    (nat_lt (field_place (User (four (169 ∷ codes "zzz")))) (field_place (Key (codes "!"))) ≡ true)
    × (nat_lt (field_place (Key (codes "a"))) (field_place (Key (codes "a!"))) ≡ true)
    × (nat_lt (field_place (Key (codes "a!"))) (field_place (Key (codes "aa"))) ≡ true)
    × (nat_lt (field_place (Key (codes "aa"))) (field_place (Key (codes "b"))) ≡ true)
    × (nat_lt (field_place (Key (replicate 255 126))) (field_place (Stream 0)) ≡ true)
    × (nat_lt (field_place (Stream 2)) (field_place (Stream 10)) ≡ true)
other_place_rows = (refl, refl, refl, refl, refl, refl)

-- a key is laid with its type and locale, and shows its text where the type is UTF-8; a stream's name ends with one 0
other_value_rows :
    let f : FieldMap = update none (set (Key (codes "a")) (codes "Hi") ∷ set (Stream 0) (codes "Cam") ∷ []) in
    (f (Key (codes "a")) ≡ plain (0 ∷ 0 ∷ 0 ∷ 1 ∷ 0 ∷ 0 ∷ 0 ∷ 0 ∷ codes "Hi") ∷ []) × (shown_texts f (Key (codes "a")) ≡ codes "Hi" ∷ [])
    × (shown none (Key (codes "a")) (plain (0 ∷ 0 ∷ 0 ∷ 21 ∷ 0 ∷ 0 ∷ 0 ∷ 0 ∷ 7 ∷ [])) ≡ None)
    × (f (Stream 0) ≡ plain (codes "Cam" ++ 0 ∷ []) ∷ []) × (shown_texts f (Stream 0) ≡ codes "Cam" ∷ []) × (f (Stream 1) ≡ [])
    × (effective f (set (Key (codes "a")) (codes "Hi") ∷ []) ≡ []) × (update f (remove (Key (codes "a")) ∷ []) (Key (codes "a")) ≡ [])
other_value_rows = (refl, refl, refl, refl, refl, refl, refl, refl)

-- which kinds have keys and streams, and which texts they can't have
other_rule_rows :
    (broken Wave 0 none (set (Key (codes "a")) (codes "x") ∷ []) Base ≡ Some (record { rule = 1; field = Key (codes "a") }))
    × (broken Avi 1 none (set (Stream 1) (codes "x") ∷ []) Base ≡ Some (record { rule = 1; field = Stream 1 }))
    × (has_field Avi 1 (Stream 0) ≡ true) × (has_field Mov 0 (Key (codes "a")) ≡ true) × (has_field Bw64 0 (Bext Description) ≡ true) × (has_field Bw64 1 (Stream 0) ≡ false)
    × (broken Mov 0 none (set (Key (codes "a")) (0 ∷ []) ∷ []) Base ≡ Some (record { rule = 3; field = Key (codes "a") }))
    × (broken Mov 0 none (set (Key (codes "a")) (255 ∷ []) ∷ []) Base ≡ Some (record { rule = 12; field = Key (codes "a") }))
unfolding chars is_utf8
other_rule_rows = (refl, refl, refl, refl, refl, refl, refl, refl)

-- the names are in field order, one after the other
place_rows : map field_place field_names ≡ 0 ∷ 1 ∷ 2 ∷ 3 ∷ 4 ∷ 5 ∷ 6 ∷ 7 ∷ 8 ∷ 9 ∷ 10 ∷ 11 ∷ 12 ∷ 13 ∷ 14 ∷ 15 ∷ 16 ∷ 17 ∷ 18 ∷ 19 ∷ 20 ∷ 21 ∷ 22 ∷ 23 ∷ 24 ∷ 25 ∷ 26 ∷ 27 ∷ 28 ∷ 29 ∷ 30 ∷ 31 ∷ 32 ∷ 33 ∷ 34 ∷ 35 ∷ []
place_rows = refl

-- 256 letters fit a description, 257 don't; a plain file without bext gets one
description_rows :
    (broken Wave 0 none (set (Bext Description) (replicate 256 120) ∷ []) Base ≡ None)
    × (broken Wave 0 none (set (Bext Description) (replicate 257 120) ∷ []) Base ≡ Some (record { rule = 5; field = Bext Description }))
    × (update none (set (Bext Description) (replicate 256 120) ∷ []) (Bext Description) ≡ plain (replicate 256 120) ∷ [])
    × (update none (set (Bext Description) (replicate 256 120) ∷ []) (Bext Version) ≡ plain (0 ∷ 0 ∷ []) ∷ [])
unfolding chars is_utf8
description_rows = (refl, refl, refl, refl)

-- a loudness value raises version 0 to 2
raise_rows :
    let after = update (of_bext new_body) (set (Bext LoudnessValue) (codes "-23.00") ∷ []) in
    (after (Bext Version) ≡ plain (2 ∷ 0 ∷ []) ∷ []) × (after (Bext LoudnessValue) ≡ plain (4 ∷ 247 ∷ []) ∷ []) × (after (Bext LoudnessRange) ≡ plain (255 ∷ 127 ∷ []) ∷ []) × (after (Bext Umid) ≡ plain (replicate 64 0) ∷ [])
raise_rows = (refl, refl, refl, refl)

-- a UMID raises it to 1 and leaves the loudness fields
umid_rows :
    let after = update (of_bext new_body) (set (Bext Umid) (replicate 128 65) ∷ []) in
    (after (Bext Version) ≡ plain (1 ∷ 0 ∷ []) ∷ []) × (after (Bext Umid) ≡ plain (replicate 64 170) ∷ []) × (after (Bext LoudnessValue) ≡ plain (0 ∷ 0 ∷ []) ∷ [])
umid_rows = (refl, refl, refl)

-- an item of INFO beside others
info_rows :
    let f : FieldMap = update none (set (info (codes "INAM")) (codes "A") ∷ []) in
    (update f (set (info (codes "ICRD")) (codes "2024") ∷ []) (info (codes "ICRD")) ≡ plain (codes "2024" ++ 0 ∷ []) ∷ [])
    × (effective f (set (info (codes "INAM")) (codes "A") ∷ []) ≡ [])
    × (effective f (remove (info (codes "INAM")) ∷ remove (info (codes "ICRD")) ∷ []) ≡ remove (info (codes "INAM")) ∷ [])
info_rows = (refl, refl, refl)

-- a file without fields breaks the three rules of fadgi
finding_rows : findings Wave 0 none [] Fadgi ≡ record { rule = 22; field = Bext Description } ∷ record { rule = 23; field = Bext Originator } ∷ record { rule = 24; field = Bext OriginationDate } ∷ []
finding_rows = refl

-- a coding history that isn't a line, a description without an originator, and user data in WAVE
rule_rows :
    (broken Wave 0 none (set (Bext CodingHistory) (codes "A=PCM") ∷ []) Ebu ≡ Some (record { rule = 14; field = Bext CodingHistory }))
    × (broken Wave 0 none (set (Bext Description) (codes "x") ∷ []) Fadgi ≡ Some (record { rule = 23; field = Bext Originator }))
    × (broken Wave 0 none (set (User (four (169 ∷ codes "nam"))) (codes "x") ∷ []) Base ≡ Some (record { rule = 1; field = User (four (169 ∷ codes "nam")) }))
    × (broken Wave 0 none (set (info (codes "INAM")) (255 ∷ []) ∷ []) Base ≡ Some (record { rule = 12; field = info (codes "INAM") }))
    × (broken Wave 0 none (set (Whole (four (codes "axml"))) (255 ∷ []) ∷ []) Base ≡ None)
unfolding chars is_utf8
rule_rows = (refl, refl, refl, refl, refl)

history_rows :
    (is_history (codes "A=PCM,F=48000,W=24,M=stereo" ++ 13 ∷ 10 ∷ []) ≡ true) × (is_history (codes "A=PCM,A=PCM" ++ 13 ∷ 10 ∷ []) ≡ false) × (is_history (codes "A=" ++ 13 ∷ 10 ∷ []) ≡ false) × (is_history (codes "A=PCM," ++ 13 ∷ 10 ∷ []) ≡ false) × (is_history (codes "X=PCM" ++ 13 ∷ 10 ∷ []) ≡ false) × (is_history (13 ∷ 10 ∷ []) ≡ false) × (is_history (codes "A=PCM" ++ 10 ∷ []) ≡ false)
history_rows = (refl, refl, refl, refl, refl, refl, refl)

-- a time reference of 0 has nothing to remove
zero_rows : (effective (of_bext new_body) (remove (Bext TimeReference) ∷ []) ≡ []) × (effective (of_bext (lay_range 5 (1 ∷ 0 ∷ 0 ∷ 0 ∷ 0 ∷ 0 ∷ 0 ∷ 0 ∷ []) new_body)) (remove (Bext TimeReference) ∷ []) ≡ remove (Bext TimeReference) ∷ [])
unfolding digits
zero_rows = (refl, refl)

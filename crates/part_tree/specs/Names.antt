-- The names of fields, and their order: `bext` by EBU Tech 3285, INFO by RIFF, whole chunks, QuickTime's user data and keys,
-- and the names of AVI streams.
use Rattle.std.specs.Prelude.{ℕ, zero, suc, get_or, ◌+◌, ◌^◌, nat_lt, List, [], ◌∷◌, ◌++◌, map, length, take, drop, Bool, true, false, ◌&&◌, ◌==◌, codes, IsTrue}
use Rattle.std.specs.Str.{bytes_eq}
use Rattle.std.specs.List.{list_any, list_all, position_or_len}
use Rattle.std.specs.Char.{is_ascii_alphanumeric}
use Rattle.me_bytes.specs.Bytes.{be}
use Rattle.part_tree.specs.Letters.{four}
use Rattle.part_tree.specs.declared.field.BextField.{BextField}
use Rattle.part_tree.specs.declared.field.BextField.TheVariants.{Description, Originator, OriginatorReference, OriginationDate, OriginationTime, TimeReference, Version, Umid, LoudnessValue, LoudnessRange, MaxTruePeakLevel, MaxMomentaryLoudness, MaxShortTermLoudness, Reserved, CodingHistory}
use Rattle.part_tree.specs.declared.field.FieldName.{FieldName}
use Rattle.part_tree.specs.declared.field.FieldName.TheVariants.{Bext, Info, Whole, User, Key, Stream}
use Rattle.part_tree.specs.Keys.{filled, is_key_name}

-- the fields of bext in their order (EBU Tech 3285, section 2.3)
abbrev pub bext_fields : List BextField
bext_fields = Description ∷ Originator ∷ OriginatorReference ∷ OriginationDate ∷ OriginationTime ∷ TimeReference ∷ Version ∷ Umid ∷ LoudnessValue ∷ LoudnessRange ∷ MaxTruePeakLevel ∷ MaxMomentaryLoudness ∷ MaxShortTermLoudness ∷ Reserved ∷ CodingHistory ∷ []

-- the number of a field of bext in that order, from 0
abbrev pub bext_row : BextField → ℕ
bext_row Description = 0
bext_row Originator = 1
bext_row OriginatorReference = 2
bext_row OriginationDate = 3
bext_row OriginationTime = 4
bext_row TimeReference = 5
bext_row Version = 6
bext_row Umid = 7
bext_row LoudnessValue = 8
bext_row LoudnessRange = 9
bext_row MaxTruePeakLevel = 10
bext_row MaxMomentaryLoudness = 11
bext_row MaxShortTermLoudness = 12
bext_row Reserved = 13
bext_row CodingHistory = 14

-- the children of a LIST of type INFO that are fields
abbrev pub info_ids : List (List ℕ)
info_ids = codes "IARL" ∷ codes "IART" ∷ codes "ICMS" ∷ codes "ICMT" ∷ codes "ICOP" ∷ codes "ICRD" ∷ codes "IENG" ∷ codes "IGNR" ∷ codes "IKEY" ∷ codes "IMED" ∷ codes "INAM" ∷ codes "IPRD" ∷ codes "ISBJ" ∷ codes "ISFT" ∷ codes "ISRC" ∷ codes "ISRF" ∷ codes "ITCH" ∷ []

-- the chunks that are a field as a whole
abbrev pub whole_ids : List (List ℕ)
whole_ids = codes "axml" ∷ codes "iXML" ∷ codes "_PMX" ∷ codes "MD5 " ∷ []

-- the type of a user text: A9 and three ASCII letters or digits (QuickTime File Format, user data)
abbrev pub is_user_type : List ℕ → Bool
is_user_type id = bytes_eq (take 1 id) (169 ∷ []) && ((length id == 4) && list_all is_ascii_alphanumeric (drop 1 id))

-- whether it is the name of a field
abbrev pub is_field_name : FieldName → Bool
is_field_name (Bext field) = true
is_field_name (Info id) = list_any (bytes_eq id.0) info_ids
is_field_name (Whole id) = list_any (bytes_eq id.0) whole_ids
is_field_name (User id) = is_user_type id.0
is_field_name (Key name) = is_key_name name
is_field_name (Stream n) = nat_lt n (2 ^ 32)

-- a fact: it is the name of a field
abbrev pub IsFieldName : FieldName → Type 0
IsFieldName name = IsTrue (is_field_name name)

-- the names of fields that are few, in field order: those before user data
abbrev pub field_names : List FieldName
field_names = map Bext bext_fields ++ (map (λ id. Info (four id)) info_ids ++ map (λ id. Whole (four id)) whole_ids)

-- Where a name stands in field order: first bext, then INFO, then the whole chunks, then user types by their bytes, then
-- keys by their bytes, and last the streams by their numbers. A key's place is the number that its 255 bytes spell.
abbrev pub field_place : FieldName → ℕ
field_place (Bext field) = bext_row field
field_place (Info id) = 15 + position_or_len (bytes_eq id.0) info_ids
field_place (Whole id) = 32 + position_or_len (bytes_eq id.0) whole_ids
field_place (User id) = 36 + be id.0
field_place (Key name) = 36 + 2 ^ 32 + be (filled name)
field_place (Stream n) = 36 + 2 ^ 32 + 256 ^ 255 + n

-- whether two names are the same
abbrev pub same_name : FieldName → FieldName → Bool
same_name (Bext a) (Bext b) = bext_row a == bext_row b
same_name (Info a) (Info b) = bytes_eq a.0 b.0
same_name (Whole a) (Whole b) = bytes_eq a.0 b.0
same_name (User a) (User b) = bytes_eq a.0 b.0
same_name (Key a) (Key b) = bytes_eq a b
same_name (Stream a) (Stream b) = a == b
same_name _ _ = false

-- ---- the names of rules

-- the 24 rules in order (this project's own)
abbrev pub rule_names : List (List ℕ)
rule_names =
    codes "BASE-KIND"
    ∷ codes "BASE-VERSION"
    ∷ codes "BASE-NUL"
    ∷ codes "BASE-ASCII"
    ∷ codes "BASE-WIDTH"
    ∷ codes "BASE-DATE"
    ∷ codes "BASE-TIME"
    ∷ codes "BASE-TIMEREF"
    ∷ codes "BASE-LOUDNESS"
    ∷ codes "BASE-UMID"
    ∷ codes "BASE-MD5"
    ∷ codes "BASE-UTF8"
    ∷ codes "BASE-LONG"
    ∷ codes "EBU-HISTORY"
    ∷ codes "EBU-DATE"
    ∷ codes "EBU-TIME"
    ∷ codes "EBU-RANGE"
    ∷ codes "EBU-TEXT"
    ∷ codes "INFO-ONCE"
    ∷ codes "INFO-END"
    ∷ codes "INFO-DATE"
    ∷ codes "FADGI-DESCRIPTION"
    ∷ codes "FADGI-ORIGINATOR"
    ∷ codes "FADGI-DATE"
    ∷ []

-- the name of a rule by its number, from 1; none has another number
abbrev pub named_rule : ℕ → List ℕ
named_rule zero = []
named_rule (suc k) = get_or rule_names k []

-- The body of `bext`: its ranges, and how its version is raised (EBU Tech 3285, version 2, section 2.3).
use Rattle.std.specs.Prelude.{ℕ, zero, suc, ◌+◌, ◌-◌, List, [], ◌∷◌, ◌++◌, length, take, drop, replicate, nat_le, ◌==◌, if◌then◌else◌}
use Rattle.me_bytes.specs.Bytes.{le, le_bytes}
use Rattle.part_tree.specs.declared.field.BextField.{BextField}
use Rattle.part_tree.specs.declared.field.BextField.TheVariants.{Description, Originator, OriginatorReference, OriginationDate, OriginationTime, TimeReference, Umid, LoudnessValue, LoudnessRange, MaxTruePeakLevel, MaxMomentaryLoudness, MaxShortTermLoudness, CodingHistory}
use Rattle.part_tree.specs.declared.field.BextField.TheVariants as row
use Rattle.part_tree.specs.declared.field.Form.{Form}
use Rattle.part_tree.specs.declared.field.Form.TheVariants.{Text, Date, Time, Count, Version, Loudness}
use Rattle.part_tree.specs.declared.field.Form.TheVariants as form
use Rattle.part_tree.specs.Names.{bext_row}

-- a range of the body: where it begins, and how long it is
pub record Range : Type 0 where
  pub at : ℕ
  pub len : ℕ

-- so many bytes from a place on
abbrev pub range : ℕ → ℕ → Range
range at len = record { at = at; len = len }

-- the ranges of fixed length, in order; they fill the first 602 bytes
abbrev pub ranges : List Range
ranges = range 0 256 ∷ range 256 32 ∷ range 288 32 ∷ range 320 10 ∷ range 330 8 ∷ range 338 8 ∷ range 346 2 ∷ range 348 64 ∷ range 412 2 ∷ range 414 2 ∷ range 416 2 ∷ range 418 2 ∷ range 420 2 ∷ range 422 180 ∷ []

-- the k-th range, from 0; behind those of fixed length stands the rest of a body of so many bytes
abbrev pub range_from : List Range → ℕ → ℕ → Range
range_from [] k n = range 602 (n - 602)
range_from (r ∷ rs) zero n = r
range_from (r ∷ rs) (suc k) n = range_from rs k n

-- where the k-th range begins, and how long it is, in a body of so many bytes
abbrev pub range_at : ℕ → ℕ → ℕ
range_at k n = (range_from ranges k n).at

-- how long the k-th range is in a body of so many bytes
abbrev pub range_len : ℕ → ℕ → ℕ
range_len k n = (range_from ranges k n).len

-- the bytes of the k-th range
abbrev pub range_of : ℕ → List ℕ → List ℕ
range_of k body = take (range_len k (length body)) (drop (range_at k (length body)) body)

-- the body with these bytes in place of its k-th range
abbrev pub lay_range : ℕ → List ℕ → List ℕ → List ℕ
lay_range k raw body = take (range_at k (length body)) body ++ (raw ++ drop (range_at k (length body) + range_len k (length body)) body)

-- a new body
abbrev pub new_body : List ℕ
new_body = replicate 602 0

-- the version that a body tells
abbrev pub version : List ℕ → ℕ
version body = le (range_of 6 body)

-- 7FFF, the value of a loudness field that has none
abbrev pub no_loudness : List ℕ
no_loudness = 255 ∷ 127 ∷ []

-- a body whose loudness fields have no value
abbrev pub without_loudness : List ℕ → List ℕ
without_loudness body = lay_range 8 no_loudness (lay_range 9 no_loudness (lay_range 10 no_loudness (lay_range 11 no_loudness (lay_range 12 no_loudness body))))

-- a body whose UMID is zeros
abbrev pub without_umid : List ℕ → List ℕ
without_umid body = lay_range 7 (replicate 64 0) body

-- The body at a version, where it tells a lower one: what that version added gets no value.
-- The UMID came with version 1, the loudness fields with version 2.
abbrev pub raised : ℕ → List ℕ → List ℕ
raised to body =
    if nat_le to (version body) then body
    else lay_range 6 (le_bytes 2 to) (if to == 2 then without_loudness (if version body == 0 then without_umid body else body) else (if version body == 0 then without_umid body else body))

-- what the bytes of a field are
abbrev pub form_of : BextField → Form
form_of Description = Text
form_of Originator = Text
form_of OriginatorReference = Text
form_of OriginationDate = Date
form_of OriginationTime = Time
form_of TimeReference = Count
form_of row.Version = Version
form_of Umid = form.Umid
form_of LoudnessValue = Loudness
form_of LoudnessRange = Loudness
form_of MaxTruePeakLevel = Loudness
form_of MaxMomentaryLoudness = Loudness
form_of MaxShortTermLoudness = Loudness
form_of row.Reserved = form.Reserved
form_of CodingHistory = Text

-- the length of a field's range; the coding history has none of its own
abbrev pub width : BextField → ℕ
width field = range_len (bext_row field) 0

-- the bytes of a field without a value
abbrev pub blank_form : Form → ℕ → List ℕ
blank_form Loudness n = no_loudness
blank_form _ n = replicate n 0

-- the bytes of a field of `bext` without a value
abbrev pub blank : BextField → List ℕ
blank field = blank_form (form_of field) (width field)

-- the version that a field came with
abbrev pub since_form : Form → ℕ
since_form form.Umid = 1
since_form Loudness = 2
since_form _ = 0

-- the version that a field came with
abbrev pub since : BextField → ℕ
since field = since_form (form_of field)

-- The texts of names are bytes.
use Rattle.std.proofs.Common.{◌≡◌, ℕ, ◌^◌, ◌<◌, rules, List, [], ◌∷◌, ◌++◌, length, drop, Bool, true, false, ◌&&◌, ◌||◌, ◌==◌, Some, None, refl, ap, ◌∙◌, arith, if◌then◌else◌}
use Rattle.std.specs.Prelude.{nat_lt, nat_le, decimal, codes}
use Rattle.std.specs.Char.{is_ascii_alphanumeric, is_ascii_digit}
use Rattle.std.specs.List.{AllByRecursion, list_all, list_any}
use Rattle.std.specs.Str.{bytes_eq}
use Rattle.std.proofs.lemmas.Bool.{and_parts, cond-true, ltb-true}
use Rattle.std.proofs.lemmas.Bool.Decides.{nat_tests}
use Rattle.std.proofs.lemmas.List.Folds.{list_all-append}
use Rattle.std.proofs.lemmas.Fmt.{digits_decimal}
use Rattle.std.specs.Str.Parse.{digits_value}
use Rattle.std.proofs.lemmas.Str.Parse.{IsNumeralModel, numerals_by_value}
use Rattle.part_tree.specs.declared.field.BextField.TheVariants as bext
use Rattle.part_tree.specs.declared.field.FieldName.{FieldName}
use Rattle.part_tree.specs.declared.field.FieldName.TheVariants.{Bext, Info, Whole, User, Key, Stream}
use Rattle.part_tree.specs.Keys.{is_key_letter}
use Rattle.part_tree.specs.Names.{info_ids, is_field_name, whole_ids}
use Rattle.part_tree.proofs.Places.{bytes_same}
use Rattle.field_model.specs.Texts.{text_of, whole_text}
use Rattle.core_edit.specs.Exported.{label, or_nothing}

abbrev is_byte : ℕ → Bool
is_byte b = nat_lt b 256

abbrev are_bytes : List ℕ → Bool
are_bytes bs = list_all is_byte bs

-- what passes a test is bytes where each that passes is one
weaker : (p : ℕ → Bool) (bs : List ℕ) → ((b : ℕ) → p b ≡ true → is_byte b ≡ true) → list_all p bs ≡ true → are_bytes bs ≡ true
weaker p [] more h = refl
weaker p (b ∷ bs) more h =
    let parts = and_parts (p b) (list_all p bs) h in
    ap (λ (t : Bool). t && are_bytes bs) (more b parts.0) ∙ weaker p bs more parts.1

one_of : (ids : List (List ℕ)) (id : List ℕ) → list_all are_bytes ids ≡ true → list_any (bytes_eq id) ids ≡ true → are_bytes id ≡ true
one_of [] id all there = absurd cc
one_of (x ∷ ids) id all there = go (bytes_eq id x) refl (one_of ids id (and_parts (are_bytes x) (list_all are_bytes ids) all).1) there
  where
    go : (t : Bool) → bytes_eq id x ≡ t → (list_any (bytes_eq id) ids ≡ true → are_bytes id ≡ true) → (t || list_any (bytes_eq id) ids) ≡ true → are_bytes id ≡ true
    go true e more h = ap are_bytes (bytes_same id x e) ∙ (and_parts (are_bytes x) (list_all are_bytes ids) all).0
    go false e more h = more h

whole : (id : List ℕ) → are_bytes id ≡ true → are_bytes (whole_text id) ≡ true
whole id h = go (bytes_eq id (codes "_PMX")) (bytes_eq id (codes "MD5 "))
  where
    go : (s t : Bool) → are_bytes (if s then codes "XMP" else (if t then codes "MD5" else id)) ≡ true
    go true t = refl
    go false true = refl
    go false false = h

alphanumeric : (b : ℕ) → is_ascii_alphanumeric b ≡ true → is_byte b ≡ true
alphanumeric b h = grind (arith, nat_tests)

key_letter : (b : ℕ) → is_key_letter b ≡ true → is_byte b ≡ true
key_letter b h = grind (arith, nat_tests)

digit : (b : ℕ) → is_ascii_digit b ≡ true → is_byte b ≡ true
digit b h = grind (arith, nat_tests)

own : IsNumeralModel (λ ds. list_all is_ascii_digit ds ≡ true) (digits_value 10)
own = numerals_by_value (λ ds. list_all is_ascii_digit ds ≡ true) (search rules)

behind : (front rest : List ℕ) → are_bytes front ≡ true → are_bytes rest ≡ true → are_bytes (front ++ rest) ≡ true
behind front rest h k = list_all-append is_byte front rest ∙ ap (λ (t : Bool). t && are_bytes rest) h ∙ k

-- a text with its name's guard
guarded : (name : FieldName) (text : List ℕ) → is_field_name name ≡ true → text_of name ≡ Some text → are_bytes text ≡ true → are_bytes (label name) ≡ true
guarded name text is has small = ap (λ o. are_bytes (or_nothing o)) (cond-true (is_field_name name) (text_of name) None is ∙ has) ∙ small

label_test : (name : FieldName) → is_field_name name ≡ true → are_bytes (label name) ≡ true
label_test (Bext bext.Reserved) is = refl
label_test (Bext bext.Description) is = refl
label_test (Bext bext.Originator) is = refl
label_test (Bext bext.OriginatorReference) is = refl
label_test (Bext bext.OriginationDate) is = refl
label_test (Bext bext.OriginationTime) is = refl
label_test (Bext bext.TimeReference) is = refl
label_test (Bext bext.Version) is = refl
label_test (Bext bext.Umid) is = refl
label_test (Bext bext.LoudnessValue) is = refl
label_test (Bext bext.LoudnessRange) is = refl
label_test (Bext bext.MaxTruePeakLevel) is = refl
label_test (Bext bext.MaxMomentaryLoudness) is = refl
label_test (Bext bext.MaxShortTermLoudness) is = refl
label_test (Bext bext.CodingHistory) is = refl
label_test (Info id) is = guarded (Info id) _ is refl (one_of info_ids id.0 refl is)
label_test (Whole id) is = guarded (Whole id) _ is refl (whole id.0 (one_of whole_ids id.0 refl is))
label_test (User id) is =
    guarded (User id) _ is refl (weaker is_ascii_alphanumeric (drop 1 id.0) alphanumeric (and_parts (length id.0 == 4) (list_all is_ascii_alphanumeric (drop 1 id.0)) (and_parts _ _ is).1).1)
label_test (Key k) is = guarded (Key k) _ is refl (behind (codes "key:") k refl (weaker is_key_letter k key_letter (and_parts (nat_le (length k) 255) (list_all is_key_letter k) (and_parts (nat_lt 0 (length k)) _ is).1).1))
label_test (Stream n) is =
    let small : n < 2 ^ 32 = ltb-true n (2 ^ 32) is in
    guarded (Stream n) _ is refl (behind (codes "strn:") (decimal n) refl (weaker is_ascii_digit (decimal n) digit (digits_decimal own n (omega (arith, small)))))

all_bytes : (bs : List ℕ) → are_bytes bs ≡ true → AllByRecursion (λ b. b < 256) bs
all_bytes [] h = tt
all_bytes (b ∷ bs) h = let parts = and_parts (is_byte b) (are_bytes bs) h in (ltb-true b 256 parts.0, all_bytes bs parts.1)

pub label_bytes : (name : FieldName) → is_field_name name ≡ true → AllByRecursion (λ b. b < 256) (label name)
label_bytes name is = all_bytes (label name) (label_test name is)

-- Names at one place of the field order are the same.
use Rattle.std.proofs.Common.{◌≡◌, ℕ, ◌<◌, ◌≤◌, List, [], ◌∷◌, length, get_or, take, drop, true, refl, sym, ap, ◌∙◌, arith, nat_le, ◌||◌, inl, inr, subst, ◌^◌}
use Rattle.std.specs.Prelude.{◌⊎◌}
use Rattle.std.specs.Int.{is_in_range}
use Rattle.std.specs.Str.{bytes_eq}
use Rattle.std.specs.List.{list_any, list_all, position_or_len}
use Rattle.std.specs.Char.{is_ascii_alphanumeric}
use Rattle.std.proofs.lemmas.Bool.{eqb-true, eq-eqb, and_parts, or_cases, ltb-true, leb-true}
use Rattle.std.proofs.lemmas.List.Sums.{passes_at_first}
use Rattle.me_bytes.specs.Bytes.{be}
use Rattle.part_tree.specs.declared.field.BextField.{BextField}
use Rattle.part_tree.specs.declared.field.BextField.TheVariants.{Description, Originator, OriginatorReference, OriginationDate, OriginationTime, TimeReference, Version, Umid, LoudnessValue, LoudnessRange, MaxTruePeakLevel, MaxMomentaryLoudness, MaxShortTermLoudness, Reserved, CodingHistory}
use Rattle.part_tree.specs.declared.field.FieldName.{FieldName}
use Rattle.part_tree.specs.declared.field.FieldName.TheVariants.{Bext, Info, Whole, User, Key, Stream}
use Rattle.part_tree.specs.declared.names.FourCc.{FourCc}
use Rattle.part_tree.specs.Names.{bext_fields, bext_row, info_ids, whole_ids, IsFieldName, is_user_type, field_place, same_name}
use Rattle.part_tree.proofs.Stands.{key_below, one_key}
use Rattle.part_tree.proofs.Words.{any_before}

-- the same bytes are equal, and equal bytes are the same
pub bytes_same : (xs ys : List ℕ) → bytes_eq xs ys ≡ true → xs ≡ ys
bytes_same [] [] h = refl
bytes_same [] (y ∷ ys) h = absurd cc
bytes_same (x ∷ xs) [] h = absurd cc
bytes_same (x ∷ xs) (y ∷ ys) h =
    let parts = and_parts _ _ h in
    ap (λ (n : ℕ). n ∷ xs) (eqb-true x y parts.0) ∙ ap (λ (zs : List ℕ). y ∷ zs) (bytes_same xs ys parts.1)

pub bytes_refl : (xs : List ℕ) → bytes_eq xs xs ≡ true
bytes_refl [] = refl
bytes_refl (x ∷ xs) = rw (eq-eqb x x refl) (bytes_refl xs)

bytes_equal : (xs ys : List ℕ) → xs ≡ ys → bytes_eq xs ys ≡ true
bytes_equal xs ys e = ap (bytes_eq xs) (sym e) ∙ bytes_refl xs

-- ---- what is the same is equal

row_field : (field : BextField) → get_or bext_fields (bext_row field) Description ≡ field
row_field Description = refl
row_field Originator = refl
row_field OriginatorReference = refl
row_field OriginationDate = refl
row_field OriginationTime = refl
row_field TimeReference = refl
row_field Version = refl
row_field Umid = refl
row_field LoudnessValue = refl
row_field LoudnessRange = refl
row_field MaxTruePeakLevel = refl
row_field MaxMomentaryLoudness = refl
row_field MaxShortTermLoudness = refl
row_field Reserved = refl
row_field CodingHistory = refl

pub row_injective : (a b : BextField) → bext_row a ≡ bext_row b → a ≡ b
row_injective a b e = sym (row_field a) ∙ ap (λ (k : ℕ). get_or bext_fields k Description) e ∙ row_field b

code_equal : (a b : FourCc) → bytes_eq a.0 b.0 ≡ true → a ≡ b
code_equal a b h = let build : List ℕ → FourCc = λ xs. record { 0 = xs } in ap build (bytes_same a.0 b.0 h)

pub same_is_equal : (a b : FieldName) → same_name a b ≡ true → a ≡ b
same_is_equal (Bext a) (Bext b) h = ap Bext (row_injective a b (eqb-true (bext_row a) (bext_row b) h))
same_is_equal (Info a) (Info b) h = ap Info (code_equal a b h)
same_is_equal (Whole a) (Whole b) h = ap Whole (code_equal a b h)
same_is_equal (User a) (User b) h = ap User (code_equal a b h)
same_is_equal (Key a) (Key b) h = ap Key (bytes_same a b h)
same_is_equal (Stream a) (Stream b) h = ap Stream (eqb-true a b h)
same_is_equal (Bext a) (Info b) h = absurd cc
same_is_equal (Bext a) (Whole b) h = absurd cc
same_is_equal (Bext a) (User b) h = absurd cc
same_is_equal (Bext a) (Key b) h = absurd cc
same_is_equal (Bext a) (Stream b) h = absurd cc
same_is_equal (Info a) (Bext b) h = absurd cc
same_is_equal (Info a) (Whole b) h = absurd cc
same_is_equal (Info a) (User b) h = absurd cc
same_is_equal (Info a) (Key b) h = absurd cc
same_is_equal (Info a) (Stream b) h = absurd cc
same_is_equal (Whole a) (Bext b) h = absurd cc
same_is_equal (Whole a) (Info b) h = absurd cc
same_is_equal (Whole a) (User b) h = absurd cc
same_is_equal (Whole a) (Key b) h = absurd cc
same_is_equal (Whole a) (Stream b) h = absurd cc
same_is_equal (User a) (Bext b) h = absurd cc
same_is_equal (User a) (Info b) h = absurd cc
same_is_equal (User a) (Whole b) h = absurd cc
same_is_equal (User a) (Key b) h = absurd cc
same_is_equal (User a) (Stream b) h = absurd cc
same_is_equal (Key a) (Bext b) h = absurd cc
same_is_equal (Key a) (Info b) h = absurd cc
same_is_equal (Key a) (Whole b) h = absurd cc
same_is_equal (Key a) (User b) h = absurd cc
same_is_equal (Key a) (Stream b) h = absurd cc
same_is_equal (Stream a) (Bext b) h = absurd cc
same_is_equal (Stream a) (Info b) h = absurd cc
same_is_equal (Stream a) (Whole b) h = absurd cc
same_is_equal (Stream a) (User b) h = absurd cc
same_is_equal (Stream a) (Key b) h = absurd cc

pub same_refl : (a : FieldName) → same_name a a ≡ true
same_refl (Bext a) = eq-eqb (bext_row a) (bext_row a) refl
same_refl (Info a) = bytes_refl a.0
same_refl (Whole a) = bytes_refl a.0
same_refl (User a) = bytes_refl a.0
same_refl (Key a) = bytes_refl a
same_refl (Stream a) = eq-eqb a a refl

-- ---- one place, one name

pub row_small : (field : BextField) → bext_row field < 15
row_small Description = omega arith
row_small Originator = omega arith
row_small OriginatorReference = omega arith
row_small OriginationDate = omega arith
row_small OriginationTime = omega arith
row_small TimeReference = omega arith
row_small Version = omega arith
row_small Umid = omega arith
row_small LoudnessValue = omega arith
row_small LoudnessRange = omega arith
row_small MaxTruePeakLevel = omega arith
row_small MaxMomentaryLoudness = omega arith
row_small MaxShortTermLoudness = omega arith
row_small Reserved = omega arith
row_small CodingHistory = omega arith

-- an identifier of a table has a number in it, and stands there
inside : (id : List ℕ) (ids : List (List ℕ)) → list_any (bytes_eq id) ids ≡ true → position_or_len (bytes_eq id) ids < length ids
inside id ids h = ltb-true (position_or_len (bytes_eq id) ids) (length ids) (sym (any_before (bytes_eq id) ids) ∙ h)

stands : (id : List ℕ) (ids : List (List ℕ)) → list_any (bytes_eq id) ids ≡ true → id ≡ get_or ids (position_or_len (bytes_eq id) ids) []
stands id ids h = bytes_same id _ (passes_at_first (bytes_eq id) ids [] (inside id ids h))

one_number : (a b : List ℕ) (ids : List (List ℕ)) → list_any (bytes_eq a) ids ≡ true → list_any (bytes_eq b) ids ≡ true
    → position_or_len (bytes_eq a) ids ≡ position_or_len (bytes_eq b) ids → bytes_eq a b ≡ true
one_number a b ids ha hb e = bytes_equal a b (stands a ids ha ∙ ap (λ (k : ℕ). get_or ids k []) e ∙ sym (stands b ids hb))

small_letter : (x : ℕ) → is_ascii_alphanumeric x ≡ true → x < 256
small_letter x h = go (or_cases _ _ h)
  where
    below : (low high : ℕ) → is_in_range low high x ≡ true → x ≤ high
    below low high t = leb-true x high (and_parts (nat_le low x) (nat_le x high) t).1

    inner : (is_in_range 48 57 x ≡ true) ⊎ (is_in_range 65 90 x ≡ true) → x < 256
    inner (inl t) = omega (arith, below 48 57 t)
    inner (inr t) = omega (arith, below 65 90 t)

    go : ((is_in_range 48 57 x || is_in_range 65 90 x) ≡ true) ⊎ (is_in_range 97 122 x ≡ true) → x < 256
    go (inl t) = inner (or_cases (is_in_range 48 57 x) (is_in_range 65 90 x) t)
    go (inr t) = omega (arith, below 97 122 t)

-- the number of four bytes tells them
four_numbers : (x y z w a b c d : ℕ) → x < 256 → y < 256 → z < 256 → w < 256 → a < 256 → b < 256 → c < 256 → d < 256
    → be (x ∷ y ∷ z ∷ w ∷ []) ≡ be (a ∷ b ∷ c ∷ d ∷ []) → (x ≡ a) × (y ≡ b) × (z ≡ c) × (w ≡ d)
four_numbers x y z w a b c d hx hy hz hw ha hb hc hd e = (omega (arith, e), omega (arith, e), omega (arith, e), omega (arith, e))

abbrev IsFour : List ℕ → Type 0
IsFour a = (x : ℕ) × (y : ℕ) × (z : ℕ) × (w : ℕ) × (a ≡ x ∷ y ∷ z ∷ w ∷ []) × (x < 256) × (y < 256) × (z < 256) × (w < 256)

-- a user type has four bytes
long_four : (a : List ℕ) → length a ≡ 4 → bytes_eq (take 1 a) (169 ∷ []) ≡ true → list_all is_ascii_alphanumeric (drop 1 a) ≡ true → IsFour a
long_four [] n first rest = absurd (omega (arith, n))
long_four (x ∷ []) n first rest = absurd (omega (arith, n))
long_four (x ∷ y ∷ []) n first rest = absurd (omega (arith, n))
long_four (x ∷ y ∷ z ∷ []) n first rest = absurd (omega (arith, n))
long_four (x ∷ y ∷ z ∷ w ∷ []) n first rest =
    let parts = and_parts (is_ascii_alphanumeric y) _ rest in
    let more = and_parts (is_ascii_alphanumeric z) _ parts.1 in
    let last = and_parts (is_ascii_alphanumeric w) _ more.1 in
    (x, y, z, w, refl, omega (arith, eqb-true x 169 (and_parts _ _ first).0), small_letter y parts.0, small_letter z more.0, small_letter w last.0)
long_four (x ∷ y ∷ z ∷ w ∷ v ∷ more) n first rest = absurd (omega (arith, n))

four_bytes : (a : List ℕ) → is_user_type a ≡ true → IsFour a
four_bytes a h =
    let parts = and_parts _ _ h in
    let more = and_parts _ _ parts.1 in
    long_four a (eqb-true (length a) 4 more.0) parts.0 more.1

one_type : (a b : List ℕ) → is_user_type a ≡ true → is_user_type b ≡ true → be a ≡ be b → bytes_eq a b ≡ true
one_type a b ha hb e =
    let p = four_bytes a ha in
    let q = four_bytes b hb in
    let f = four_numbers p.0 p.1 p.2 p.3 q.0 q.1 q.2 q.3 p.5 p.6 p.7 p.8 q.5 q.6 q.7 q.8 (ap be (sym p.4) ∙ e ∙ ap be q.4) in
    bytes_equal a b (p.4 ∙ (ap (λ (n : ℕ). n ∷ p.1 ∷ p.2 ∷ p.3 ∷ []) f.0 ∙ ap (λ (n : ℕ). q.0 ∷ n ∷ p.2 ∷ p.3 ∷ []) f.1 ∙ ap (λ (n : ℕ). q.0 ∷ q.1 ∷ n ∷ p.3 ∷ []) f.2 ∙ ap (λ (n : ℕ). q.0 ∷ q.1 ∷ q.2 ∷ n ∷ []) f.3) ∙ sym q.4)

user_small : (a : List ℕ) → is_user_type a ≡ true → be a < 2 ^ 32
user_small a h =
    let p = four_bytes a h in
    let small : (x y z w : ℕ) → x < 256 → y < 256 → z < 256 → w < 256 → be (x ∷ y ∷ z ∷ w ∷ []) < 2 ^ 32 = λ x y z w hx hy hz hw. omega arith in
    let P : List ℕ → Type 0 = λ xs. be xs < 2 ^ 32 in
    subst P (sym p.4) (small p.0 p.1 p.2 p.3 p.5 p.6 p.7 p.8)

pub place_is_same : (a b : FieldName) → IsFieldName a → IsFieldName b → field_place a ≡ field_place b → same_name a b ≡ true
place_is_same (Bext a) (Bext b) ha hb e = eq-eqb (bext_row a) (bext_row b) e
place_is_same (Info a) (Info b) ha hb e = one_number a.0 b.0 info_ids ha hb (omega (arith, e))
place_is_same (Whole a) (Whole b) ha hb e = one_number a.0 b.0 whole_ids ha hb (omega (arith, e))
place_is_same (User a) (User b) ha hb e = one_type a.0 b.0 ha hb (omega (arith, e))
place_is_same (Bext a) (Info b) ha hb e = absurd (omega (arith, e, row_small a))
place_is_same (Bext a) (Whole b) ha hb e = absurd (omega (arith, e, row_small a))
place_is_same (Bext a) (User b) ha hb e = absurd (omega (arith, e, row_small a))
place_is_same (Info a) (Bext b) ha hb e = absurd (omega (arith, e, row_small b))
place_is_same (Whole a) (Bext b) ha hb e = absurd (omega (arith, e, row_small b))
place_is_same (User a) (Bext b) ha hb e = absurd (omega (arith, e, row_small b))
place_is_same (Info a) (Whole b) ha hb e = absurd (omega (arith, e, inside a.0 info_ids ha))
place_is_same (Info a) (User b) ha hb e = absurd (omega (arith, e, inside a.0 info_ids ha))
place_is_same (Whole a) (Info b) ha hb e = absurd (omega (arith, e, inside b.0 info_ids hb))
place_is_same (User a) (Info b) ha hb e = absurd (omega (arith, e, inside b.0 info_ids hb))
place_is_same (Whole a) (User b) ha hb e = absurd (omega (arith, e, inside a.0 whole_ids ha))
place_is_same (User a) (Whole b) ha hb e = absurd (omega (arith, e, inside b.0 whole_ids hb))
place_is_same (Key a) (Key b) ha hb e = bytes_equal a b (one_key a b ha hb (omega (arith, e)))
place_is_same (Stream a) (Stream b) ha hb e = eq-eqb a b (omega (arith, e))
place_is_same (Key a) (Stream b) ha hb e = absurd (omega (arith, e, key_below a ha))
place_is_same (Stream a) (Key b) ha hb e = absurd (omega (arith, e, key_below b hb))
place_is_same (Bext a) (Key b) ha hb e = absurd (omega (arith, e, row_small a))
place_is_same (Key a) (Bext b) ha hb e = absurd (omega (arith, e, row_small b))
place_is_same (Bext a) (Stream b) ha hb e = absurd (omega (arith, e, row_small a))
place_is_same (Stream a) (Bext b) ha hb e = absurd (omega (arith, e, row_small b))
place_is_same (Info a) (Key b) ha hb e = absurd (omega (arith, e, inside a.0 info_ids ha))
place_is_same (Key a) (Info b) ha hb e = absurd (omega (arith, e, inside b.0 info_ids hb))
place_is_same (Info a) (Stream b) ha hb e = absurd (omega (arith, e, inside a.0 info_ids ha))
place_is_same (Stream a) (Info b) ha hb e = absurd (omega (arith, e, inside b.0 info_ids hb))
place_is_same (Whole a) (Key b) ha hb e = absurd (omega (arith, e, inside a.0 whole_ids ha))
place_is_same (Key a) (Whole b) ha hb e = absurd (omega (arith, e, inside b.0 whole_ids hb))
place_is_same (Whole a) (Stream b) ha hb e = absurd (omega (arith, e, inside a.0 whole_ids ha))
place_is_same (Stream a) (Whole b) ha hb e = absurd (omega (arith, e, inside b.0 whole_ids hb))
place_is_same (User a) (Key b) ha hb e = absurd (omega (arith, e, user_small a.0 ha))
place_is_same (Key a) (User b) ha hb e = absurd (omega (arith, e, user_small b.0 hb))
place_is_same (User a) (Stream b) ha hb e = absurd (omega (arith, e, user_small a.0 ha))
place_is_same (Stream a) (User b) ha hb e = absurd (omega (arith, e, user_small b.0 hb))

-- What a raise and the items of an edit leave in each range of `bext` is what they leave in the fields.
use Rattle.std.proofs.Common.{◌≡◌, ℕ, ◌≤◌, List, [], ◌∷◌, length, replicate, refl, sym, ap, ◌∙◌, arith, subst, ◌==◌, nat_le, if◌then◌else◌, Bool, true, false, inr, Option, Some, None, ◌||◌, max}
use Rattle.std.specs.List.{list_any}
use Rattle.std.proofs.lemmas.Bool.{eqb-true, eqb-false, le-leb, cond-true, cond-false}
use Rattle.me_bytes.specs.Bytes.{le, le_bytes}
use Rattle.me_bytes.proofs.Laws.{length-le_bytes}
use Rattle.part_tree.specs.declared.field.BextField.{BextField}
use Rattle.part_tree.specs.declared.field.BextField.TheVariants.{Description, Originator, OriginatorReference, OriginationDate, OriginationTime, TimeReference, Version, Umid, LoudnessValue, LoudnessRange, MaxTruePeakLevel, MaxMomentaryLoudness, MaxShortTermLoudness, Reserved, CodingHistory}
use Rattle.part_tree.specs.declared.field.FieldName.{FieldName}
use Rattle.part_tree.specs.declared.field.FieldName.TheVariants.{Bext, Info, Whole, User, Key, Stream}
use Rattle.part_tree.specs.declared.field.Form.{Form}
use Rattle.part_tree.specs.declared.field.Form.TheVariants as form
use Rattle.part_tree.specs.declared.field.Value.{Value}
use Rattle.part_tree.specs.Names.{bext_row, same_name}
use Rattle.field_model.specs.Bext.{form_of, width, range_of, lay_range, raised, version, without_loudness, without_umid, no_loudness, new_body}
use Rattle.field_model.specs.Body.{lay_item, lay_items, edited_bext, FitsBext, FitBext, AreRanges}
use Rattle.field_model.specs.Fields.{FieldMap, plain, version_of, first_raw}
use Rattle.field_model.specs.Update.{RawItem, needed, updated, updated_values, raised_values, raised_form, made, is_bext, since_name, listed}
use Rattle.field_model.proofs.Ranges.{Fills, range_lay_same, range_lay_other, lay_long}

-- the rows are few
pub row_small : (field : BextField) → bext_row field ≤ 14
row_small Description = omega arith
row_small Originator = omega arith
row_small OriginatorReference = omega arith
row_small OriginationDate = omega arith
row_small OriginationTime = omega arith
row_small TimeReference = omega arith
row_small Version = omega arith
row_small Umid = omega arith
row_small LoudnessValue = omega arith
row_small LoudnessRange = omega arith
row_small MaxTruePeakLevel = omega arith
row_small MaxMomentaryLoudness = omega arith
row_small MaxShortTermLoudness = omega arith
row_small Reserved = omega arith
row_small CodingHistory = omega arith

-- a range after bytes were laid in another or the same one
pub range_lay : (j k : ℕ) (raw body : List ℕ) → j ≤ 14 → k ≤ 14 → 602 ≤ length body → Fills j raw → range_of k (lay_range j raw body) ≡ (if k == j then raw else range_of k body)
range_lay j k raw body hj hk long f = go (k == j) refl
  where
    go : (t : Bool) → (k == j) ≡ t → range_of k (lay_range j raw body) ≡ (if t then raw else range_of k body)
    go true e = let same : k ≡ j = eqb-true k j e in let P : ℕ → Type 0 = λ i. range_of i (lay_range j raw body) ≡ raw in subst P (sym same) (range_lay_same j raw body hj long f)
    go false e = range_lay_other j k raw body hj hk long f (eqb-false k j e)

-- ---- a raise

-- the UMID taken away
umid_long : (body : List ℕ) → 602 ≤ length body → 602 ≤ length (without_umid body)
umid_long body long = lay_long 7 (replicate 64 0) body (omega arith) long (inr refl)

range_umid : (k : ℕ) (body : List ℕ) → k ≤ 14 → 602 ≤ length body → range_of k (without_umid body) ≡ (if k == 7 then replicate 64 0 else range_of k body)
range_umid k body h long = range_lay 7 k (replicate 64 0) body (omega arith) h long (inr refl)

-- the loudness fields taken away
abbrev loudness_raw : ℕ → List ℕ → List ℕ
loudness_raw k r = if k == 8 then no_loudness else (if k == 9 then no_loudness else (if k == 10 then no_loudness else (if k == 11 then no_loudness else (if k == 12 then no_loudness else r))))

long_12 : (body : List ℕ) → 602 ≤ length body → 602 ≤ length (lay_range 12 no_loudness body)
long_12 body long = lay_long 12 no_loudness body (omega arith) long (inr refl)

long_11 : (body : List ℕ) → 602 ≤ length body → 602 ≤ length (lay_range 11 no_loudness (lay_range 12 no_loudness body))
long_11 body long = lay_long 11 no_loudness (lay_range 12 no_loudness body) (omega arith) (long_12 body long) (inr refl)

long_10 : (body : List ℕ) → 602 ≤ length body → 602 ≤ length (lay_range 10 no_loudness (lay_range 11 no_loudness (lay_range 12 no_loudness body)))
long_10 body long = lay_long 10 no_loudness (lay_range 11 no_loudness (lay_range 12 no_loudness body)) (omega arith) (long_11 body long) (inr refl)

long_9 : (body : List ℕ) → 602 ≤ length body → 602 ≤ length (lay_range 9 no_loudness (lay_range 10 no_loudness (lay_range 11 no_loudness (lay_range 12 no_loudness body))))
long_9 body long = lay_long 9 no_loudness (lay_range 10 no_loudness (lay_range 11 no_loudness (lay_range 12 no_loudness body))) (omega arith) (long_10 body long) (inr refl)

loudness_long : (body : List ℕ) → 602 ≤ length body → 602 ≤ length (without_loudness body)
loudness_long body long = lay_long 8 no_loudness (lay_range 9 no_loudness (lay_range 10 no_loudness (lay_range 11 no_loudness (lay_range 12 no_loudness body)))) (omega arith) (long_9 body long) (inr refl)

range_loudness : (k : ℕ) (body : List ℕ) → k ≤ 14 → 602 ≤ length body → range_of k (without_loudness body) ≡ loudness_raw k (range_of k body)
range_loudness k body h long =
    let b12 = lay_range 12 no_loudness body in
    let b11 = lay_range 11 no_loudness b12 in
    let b10 = lay_range 10 no_loudness b11 in
    let b9 = lay_range 9 no_loudness b10 in
    let e12 = range_lay 12 k no_loudness body (omega arith) h long (inr refl) in
    let e11 = range_lay 11 k no_loudness b12 (omega arith) h (long_12 body long) (inr refl) in
    let e10 = range_lay 10 k no_loudness b11 (omega arith) h (long_11 body long) (inr refl) in
    let e9 = range_lay 9 k no_loudness b10 (omega arith) h (long_10 body long) (inr refl) in
    let e8 = range_lay 8 k no_loudness b9 (omega arith) h (long_9 body long) (inr refl) in
    e8 ∙ ap (λ (r : List ℕ). if k == 8 then no_loudness else r) (e9
    ∙ ap (λ (r : List ℕ). if k == 9 then no_loudness else r) (e10
    ∙ ap (λ (r : List ℕ). if k == 10 then no_loudness else r) (e11
    ∙ ap (λ (r : List ℕ). if k == 11 then no_loudness else r) e12)))

-- the body after a raise, by its three tests: the version is high enough, it becomes 2, and it was 0
abbrev cleared : Bool → Bool → List ℕ → List ℕ
cleared two none body = if two then without_loudness (if none then without_umid body else body) else (if none then without_umid body else body)

abbrev raised_by : Bool → Bool → Bool → ℕ → List ℕ → List ℕ
raised_by high two none to body = if high then body else lay_range 6 (le_bytes 2 to) (cleared two none body)

abbrev raw_by : Bool → Bool → Bool → ℕ → ℕ → List ℕ → List ℕ
raw_by high two none to k r = if high then r else (if k == 6 then le_bytes 2 to else (if two then loudness_raw k (if none then (if k == 7 then replicate 64 0 else r) else r) else (if none then (if k == 7 then replicate 64 0 else r) else r)))

cleared_long : (two none : Bool) (body : List ℕ) → 602 ≤ length body → 602 ≤ length (cleared two none body)
cleared_long true true body long = loudness_long (without_umid body) (umid_long body long)
cleared_long true false body long = loudness_long body long
cleared_long false true body long = umid_long body long
cleared_long false false body long = long

version_fills : (to : ℕ) → Fills 6 (le_bytes 2 to)
version_fills to = inr (length-le_bytes 2 to)

raised_by_long : (high two none : Bool) (to : ℕ) (body : List ℕ) → 602 ≤ length body → 602 ≤ length (raised_by high two none to body)
raised_by_long true two none to body long = long
raised_by_long false two none to body long = lay_long 6 (le_bytes 2 to) (cleared two none body) (omega arith) (cleared_long two none body long) (version_fills to)

pub raised_long : (to : ℕ) (body : List ℕ) → 602 ≤ length body → 602 ≤ length (raised to body)
raised_long to body long = raised_by_long (nat_le to (version body)) (to == 2) (version body == 0) to body long

range_cleared : (two none : Bool) (k : ℕ) (body : List ℕ) → k ≤ 14 → 602 ≤ length body → range_of k (cleared two none body) ≡ (if two then loudness_raw k (if none then (if k == 7 then replicate 64 0 else range_of k body) else range_of k body) else (if none then (if k == 7 then replicate 64 0 else range_of k body) else range_of k body))
range_cleared true true k body h long = range_loudness k (without_umid body) h (umid_long body long) ∙ ap (loudness_raw k) (range_umid k body h long)
range_cleared true false k body h long = range_loudness k body h long
range_cleared false true k body h long = range_umid k body h long
range_cleared false false k body h long = refl

range_raised_by : (high two none : Bool) (to k : ℕ) (body : List ℕ) → k ≤ 14 → 602 ≤ length body → range_of k (raised_by high two none to body) ≡ raw_by high two none to k (range_of k body)
range_raised_by true two none to k body h long = refl
range_raised_by false two none to k body h long =
    range_lay 6 k (le_bytes 2 to) (cleared two none body) (omega arith) h (cleared_long two none body long) (version_fills to)
    ∙ ap (λ (r : List ℕ). if k == 6 then le_bytes 2 to else r) (range_cleared two none k body h long)

-- the same of the values, by these tests
abbrev form_by : Form → Bool → Bool → ℕ → List Value → List Value
form_by form.Version two none to vs = plain (le_bytes 2 to) ∷ []
form_by form.Umid two none to vs = if none then plain (replicate 64 0) ∷ [] else vs
form_by form.Loudness two none to vs = if two then plain no_loudness ∷ [] else vs
form_by _ two none to vs = vs

abbrev values_by : Bool → Bool → Bool → ℕ → BextField → List Value → List Value
values_by high two none to field vs = if high then vs else form_by (form_of field) two none to vs

same_form : (form : Form) (to old : ℕ) (vs : List Value) → form_by form (to == 2) (old == 0) to vs ≡ raised_form form to old vs
same_form form.Text to old vs = refl
same_form form.Date to old vs = refl
same_form form.Time to old vs = refl
same_form form.Count to old vs = refl
same_form form.Version to old vs = refl
same_form form.Umid to old vs = refl
same_form form.Loudness to old vs = refl
same_form form.Reserved to old vs = refl

by_tests : (P : Bool → Bool → Bool → Type 0) → P true true true → P true true false → P true false true → P true false false → P false true true → P false true false → P false false true → P false false false → (a b c : Bool) → P a b c
by_tests P p0 p1 p2 p3 p4 p5 p6 p7 true true true = p0
by_tests P p0 p1 p2 p3 p4 p5 p6 p7 true true false = p1
by_tests P p0 p1 p2 p3 p4 p5 p6 p7 true false true = p2
by_tests P p0 p1 p2 p3 p4 p5 p6 p7 true false false = p3
by_tests P p0 p1 p2 p3 p4 p5 p6 p7 false true true = p4
by_tests P p0 p1 p2 p3 p4 p5 p6 p7 false true false = p5
by_tests P p0 p1 p2 p3 p4 p5 p6 p7 false false true = p6
by_tests P p0 p1 p2 p3 p4 p5 p6 p7 false false false = p7

abbrev Agree : ℕ → List ℕ → BextField → Bool → Bool → Bool → Type 0
Agree to r field high two none = values_by high two none to field (plain r ∷ []) ≡ plain (raw_by high two none to (bext_row field) r) ∷ []

agree : (to : ℕ) (r : List ℕ) (field : BextField) (high two none : Bool) → Agree to r field high two none
agree to r Description a b c = by_tests (Agree to r Description) refl refl refl refl refl refl refl refl a b c
agree to r Originator a b c = by_tests (Agree to r Originator) refl refl refl refl refl refl refl refl a b c
agree to r OriginatorReference a b c = by_tests (Agree to r OriginatorReference) refl refl refl refl refl refl refl refl a b c
agree to r OriginationDate a b c = by_tests (Agree to r OriginationDate) refl refl refl refl refl refl refl refl a b c
agree to r OriginationTime a b c = by_tests (Agree to r OriginationTime) refl refl refl refl refl refl refl refl a b c
agree to r TimeReference a b c = by_tests (Agree to r TimeReference) refl refl refl refl refl refl refl refl a b c
agree to r Version a b c = by_tests (Agree to r Version) refl refl refl refl refl refl refl refl a b c
agree to r Umid a b c = by_tests (Agree to r Umid) refl refl refl refl refl refl refl refl a b c
agree to r LoudnessValue a b c = by_tests (Agree to r LoudnessValue) refl refl refl refl refl refl refl refl a b c
agree to r LoudnessRange a b c = by_tests (Agree to r LoudnessRange) refl refl refl refl refl refl refl refl a b c
agree to r MaxTruePeakLevel a b c = by_tests (Agree to r MaxTruePeakLevel) refl refl refl refl refl refl refl refl a b c
agree to r MaxMomentaryLoudness a b c = by_tests (Agree to r MaxMomentaryLoudness) refl refl refl refl refl refl refl refl a b c
agree to r MaxShortTermLoudness a b c = by_tests (Agree to r MaxShortTermLoudness) refl refl refl refl refl refl refl refl a b c
agree to r Reserved a b c = by_tests (Agree to r Reserved) refl refl refl refl refl refl refl refl a b c
agree to r CodingHistory a b c = by_tests (Agree to r CodingHistory) refl refl refl refl refl refl refl refl a b c

-- a raise of the body is the raise of the fields
pub ranges_raised : (to : ℕ) (body : List ℕ) (field : BextField) → 602 ≤ length body
    → raised_values to (version body) field (plain (range_of (bext_row field) body) ∷ []) ≡ plain (range_of (bext_row field) (raised to body)) ∷ []
ranges_raised to body field long =
    let high = nat_le to (version body) in
    let two = to == 2 in
    let none = version body == 0 in
    let vs = plain (range_of (bext_row field) body) ∷ [] in
    ap (λ (ws : List Value). if high then vs else ws) (sym (same_form (form_of field) to (version body) vs))
    ∙ agree to (range_of (bext_row field) body) field high two none
    ∙ ap (λ (r : List ℕ). plain r ∷ []) (sym (range_raised_by high two none to (bext_row field) body (row_small field) long))

-- ---- the items

item_long : (name : FieldName) (value : Option Value) (body : List ℕ) → FitsBext name value → 602 ≤ length body → 602 ≤ length (lay_item name value body)
item_long (Bext field) None body fits long = absurd fits
item_long (Bext field) (Some v) body fits long = lay_long (bext_row field) v.raw body (row_small field) long fits.1
item_long (Info id) value body fits long = long
item_long (Whole id) value body fits long = long
item_long (User id) value body fits long = long
item_long (Key name) value body fits long = long
item_long (Stream n) value body fits long = long

item_value : (v : Value) → v.lang ≡ 0 → v ≡ plain v.raw
item_value v e = let back : Value → ℕ → Value = λ w n. record { lang = n; raw = w.raw } in ap (back v) e

-- the values of a field after an item are those of the body after it
value_laid : (name : FieldName) (value : Option Value) (field : BextField) (body : List ℕ) → FitsBext name value → 602 ≤ length body
    → (if same_name name (Bext field) then listed value else plain (range_of (bext_row field) body) ∷ []) ≡ plain (range_of (bext_row field) (lay_item name value body)) ∷ []
value_laid (Bext other) None field body fits long = absurd fits
value_laid (Bext other) (Some v) field body fits long = go (bext_row other == bext_row field) refl
  where
    go : (t : Bool) → (bext_row other == bext_row field) ≡ t → (if t then v ∷ [] else plain (range_of (bext_row field) body) ∷ []) ≡ plain (range_of (bext_row field) (lay_range (bext_row other) v.raw body)) ∷ []
    go true e =
        let same = eqb-true (bext_row other) (bext_row field) e in
        let laid : range_of (bext_row field) (lay_range (bext_row other) v.raw body) ≡ v.raw =
        let P : ℕ → Type 0 = λ i. range_of i (lay_range (bext_row other) v.raw body) ≡ v.raw in
        subst P same (range_lay_same (bext_row other) v.raw body (row_small other) long fits.1)
        in
        ap (λ (w : Value). w ∷ []) (item_value v fits.0 ∙ ap plain (sym laid))
    go false e =
        ap (λ (r : List ℕ). plain r ∷ [])
        (sym (range_lay_other (bext_row other) (bext_row field) v.raw body (row_small other) (row_small field) long fits.1 (λ same. eqb-false (bext_row other) (bext_row field) e (sym same))))
value_laid (Info id) value field body fits long = refl
value_laid (Whole id) value field body fits long = refl
value_laid (User id) value field body fits long = refl
value_laid (Key name) value field body fits long = refl
value_laid (Stream n) value field body fits long = refl

pub values_laid : (e : List RawItem) (field : BextField) (body : List ℕ) → FitBext e → 602 ≤ length body
    → updated_values e (Bext field) (plain (range_of (bext_row field) body) ∷ []) ≡ plain (range_of (bext_row field) (lay_items e body)) ∷ []
values_laid [] field body fit long = refl
values_laid (i ∷ e) field body fit long =
    ap (updated_values e (Bext field)) (value_laid i.name i.value field body fit.0 long)
    ∙ values_laid e field (lay_item i.name i.value body) fit.1 (item_long i.name i.value body fit.0 long)

-- ---- the whole

-- the fields of bext, laid over a body that tells the same version
edited : (e : List RawItem) (f : FieldMap) (body : List ℕ) (field : BextField) → 602 ≤ length body → FitBext e
    → version_of f ≡ version body → made f field ≡ plain (range_of (bext_row field) body) ∷ []
    → updated_values e (Bext field) (raised_values (needed e) (version_of f) field (made f field)) ≡ plain (range_of (bext_row field) (edited_bext e body)) ∷ []
edited e f body field long fit same there =
    ap (λ (vs : List Value). updated_values e (Bext field) (raised_values (needed e) (version_of f) field vs)) there
    ∙ ap (λ (n : ℕ). updated_values e (Bext field) (raised_values (needed e) n field (plain (range_of (bext_row field) body) ∷ []))) same
    ∙ ap (updated_values e (Bext field)) (ranges_raised (needed e) body field long)
    ∙ values_laid e field (raised (needed e) body) fit (raised_long (needed e) body long)

-- without an item of bext nothing is raised and nothing is laid
abbrev names_bext : List RawItem → Bool
names_bext e = list_any (λ i. is_bext i.name) e

neither : (a b : Bool) → (a || b) ≡ false → (a ≡ false) × (b ≡ false)
neither true b h = absurd cc
neither false b h = (refl, h)

untouched_item : (name : FieldName) (value : Option Value) (body : List ℕ) → is_bext name ≡ false → (since_name name ≡ 0) × (lay_item name value body ≡ body)
untouched_item (Bext field) value body h = absurd cc
untouched_item (Info id) value body h = (refl, refl)
untouched_item (Whole id) value body h = (refl, refl)
untouched_item (User id) value body h = (refl, refl)
untouched_item (Key name) value body h = (refl, refl)
untouched_item (Stream n) value body h = (refl, refl)

raised_none : (body : List ℕ) → raised 0 body ≡ body
raised_none body = cond-true (nat_le 0 (version body)) _ _ (le-leb 0 (version body) (omega arith))

untouched : (e : List RawItem) (body : List ℕ) → names_bext e ≡ false → (needed e ≡ 0) × (lay_items e body ≡ body)
untouched [] body h = (refl, refl)
untouched (i ∷ e) body h =
    let parts = neither (is_bext i.name) (names_bext e) h in
    let first = untouched_item i.name i.value body parts.0 in
    let rest = untouched e body parts.1 in
    (ap (λ (n : ℕ). max n (needed e)) first.0 ∙ ap (λ (n : ℕ). max 0 n) rest.0, ap (lay_items e) first.1 ∙ rest.1)

-- the fields of bext after an edit are the ranges of the body after it
pub bext_edited : (e : List RawItem) (f : FieldMap) (body : List ℕ) (field : BextField) → 602 ≤ length body → FitBext e → AreRanges f body
    → updated e f (Bext field) ≡ plain (range_of (bext_row field) (edited_bext e body)) ∷ []
bext_edited e f body field long fit are = go (names_bext e) refl
  where
    same : version_of f ≡ version body
    same = ap (λ (vs : List Value). le (first_raw vs)) (are Version)

    there : made f field ≡ plain (range_of (bext_row field) body) ∷ []
    there = ap (λ (vs : List Value). if length vs == 0 then plain (replicate (width field) 0) ∷ [] else f (Bext field)) (are Version) ∙ are field

    go : (t : Bool) → names_bext e ≡ t → (if t then updated_values e (Bext field) (raised_values (needed e) (version_of f) field (made f field)) else f (Bext field)) ≡ plain (range_of (bext_row field) (edited_bext e body)) ∷ []
    go true h = edited e f body field long fit same there
    go false h =
        let z = untouched e (raised (needed e) body) h in
        are field ∙ ap (λ (b : List ℕ). plain (range_of (bext_row field) b) ∷ []) (sym (z.1 ∙ ap (λ (n : ℕ). raised n body) z.0 ∙ raised_none body))

new_ranges : (field : BextField) → range_of (bext_row field) new_body ≡ replicate (width field) 0
new_ranges Description = refl
new_ranges Originator = refl
new_ranges OriginatorReference = refl
new_ranges OriginationDate = refl
new_ranges OriginationTime = refl
new_ranges TimeReference = refl
new_ranges Version = refl
new_ranges Umid = refl
new_ranges LoudnessValue = refl
new_ranges LoudnessRange = refl
new_ranges MaxTruePeakLevel = refl
new_ranges MaxMomentaryLoudness = refl
new_ranges MaxShortTermLoudness = refl
new_ranges Reserved = refl
new_ranges CodingHistory = refl

-- where there is no bext, an item of it makes a new one
pub bext_made : (e : List RawItem) (f : FieldMap) (field : BextField) → FitBext e → list_any (λ i. is_bext i.name) e ≡ true → ((other : BextField) → f (Bext other) ≡ [])
    → updated e f (Bext field) ≡ plain (range_of (bext_row field) (edited_bext e new_body)) ∷ []
bext_made e f field fit names absent =
    let same : version_of f ≡ version new_body = ap (λ (vs : List Value). le (first_raw vs)) (absent Version) in
    let there : made f field ≡ plain (range_of (bext_row field) new_body) ∷ [] =
    ap (λ (vs : List Value). if length vs == 0 then plain (replicate (width field) 0) ∷ [] else f (Bext field)) (absent Version) ∙ ap (λ (r : List ℕ). plain r ∷ []) (sym (new_ranges field))
    in
    ap (λ (t : Bool). if t then updated_values e (Bext field) (raised_values (needed e) (version_of f) field (made f field)) else f (Bext field)) names
    ∙ edited e f new_body field (omega arith) fit same there

-- a name outside bext that no item names keeps its values
kept : (e : List RawItem) (name : FieldName) (vs : List Value) → list_any (λ i. same_name i.name name) e ≡ false → updated_values e name vs ≡ vs
kept [] name vs h = refl
kept (i ∷ e) name vs h =
    let parts = neither (same_name i.name name) (list_any (λ i. same_name i.name name) e) h in
    ap (updated_values e name) (cond-false (same_name i.name name) _ _ parts.0) ∙ kept e name vs parts.1

pub updated_other : (e : List RawItem) (f : FieldMap) (name : FieldName) → is_bext name ≡ false → list_any (λ i. same_name i.name name) e ≡ false → updated e f name ≡ f name
updated_other e f (Bext field) other h = absurd cc
updated_other e f (Info id) other h = kept e (Info id) (f (Info id)) h
updated_other e f (Whole id) other h = kept e (Whole id) (f (Whole id)) h
updated_other e f (User id) other h = kept e (User id) (f (User id)) h
updated_other e f (Key name) other h = kept e (Key name) (f (Key name)) h
updated_other e f (Stream n) other h = kept e (Stream n) (f (Stream n)) h

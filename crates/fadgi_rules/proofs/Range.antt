-- The loudness range that is shown, before and after an edit.
use Rattle.std.proofs.Common.{◌≡◌, ℕ, ◌-◌, ◌/◌, ◌%◌, ◌<◌, ◌≤◌, List, [], ◌∷◌, ◌++◌, get_or, drop, Bool, true, false, cond, refl, sym, ap, ◌∙◌, arith, subst, Option, Some, None, inl, inr, codes, max}
use Rattle.std.specs.Prelude.{◌||◌, ◌&&◌, ◌==◌, option_map, is_none, nat_le, nat_lt, ◌⊎◌, unwrap_or, decimal}
use Rattle.std.specs.List.{list_any, filter_map, cons_option}
use Rattle.std.proofs.lemmas.Bool.{cond-true, cond-false, and_parts, lt-ltb, le-ltb, le-leb, lt-leb, leb-true, leb-false, eqb-true, eqb-false, ne_eqb, cases_lt}
use Rattle.std.proofs.lemmas.Fmt.{decimal_digit, first_decimal}
use Rattle.me_bytes.specs.Bytes.{le, le_bytes}
use Rattle.me_bytes.proofs.Laws.{le-le_bytes}
use Rattle.part_tree.specs.declared.field.BextField.{BextField}
use Rattle.part_tree.specs.declared.field.BextField.TheVariants.{Description, Originator, OriginatorReference, OriginationDate, OriginationTime, TimeReference, Version, Umid, LoudnessValue, LoudnessRange, MaxTruePeakLevel, MaxMomentaryLoudness, MaxShortTermLoudness, Reserved, CodingHistory}
use Rattle.part_tree.specs.declared.field.Change.{Change}
use Rattle.part_tree.specs.declared.field.Change.TheVariants.{Set, Remove}
use Rattle.part_tree.specs.declared.field.EditItem.{EditItem}
use Rattle.part_tree.specs.declared.field.FieldName.{FieldName}
use Rattle.part_tree.specs.declared.field.FieldName.TheVariants.{Bext, Info, Whole, User, Key, Stream}
use Rattle.part_tree.specs.declared.field.Value.{Value}
use Rattle.part_tree.specs.declared.names.Kind.{Kind}
use Rattle.part_tree.specs.Names.{same_name}
use Rattle.part_tree.proofs.Places.{same_is_equal}
use Rattle.core_edit.specs.Edits.{AreSound}
use Rattle.field_model.specs.Bext.{no_loudness, width}
use Rattle.field_model.specs.Broken.{some_text}
use Rattle.field_model.specs.Fields.{FieldMap, plain, version_of, first_raw}
use Rattle.field_model.specs.Lawful.{BextIsWhole}
use Rattle.field_model.specs.Numbers.{is_negative, is_hundredths, hundredths_of, hundredths_text, two_digits, loudness_text, loudness_of, positive_loudness, negative_loudness}
use Rattle.field_model.specs.Raw.{raw_of}
use Rattle.field_model.specs.Shown.{shown_loudness, shown_texts}
use Rattle.field_model.specs.Update.{RawItem, has_effect, effective, written, raw_change, raw_item, raw_items, is_bext, since_name, needed, made, raised_form, update}
use Rattle.fadgi_rules.specs.declared.row.FieldRule.TheVariants as row
use Rattle.fadgi_rules.specs.Changed.{change_in}
use Rattle.fadgi_rules.specs.Present.{number, shows_negative}
use Rattle.fadgi_rules.specs.Rows.{changed_fails}
use Rattle.fadgi_rules.proofs.After.{laid, after}
use Rattle.fadgi_rules.proofs.Passes.{EffectsPass}
use Rattle.fadgi_rules.proofs.Views.{change_sound, touches, ready, bext_after, made_there, made_new}

-- ---- the sign of a loudness text

positive_start : (xs ys : List ℕ) → 48 ≤ get_or xs 0 0 → is_negative (xs ++ ys) ≡ false
positive_start [] ys h = absurd (omega (arith, h))
positive_start (x ∷ xs) ys h = ne_eqb x 45 (λ e. omega (arith, e, h))

decimal_start : (n : ℕ) → n < 32768 → 48 ≤ get_or (decimal n) 0 0
decimal_start n small = go (cases_lt n 10)
  where
    go : (n < 10) ⊎ (10 ≤ n) → 48 ≤ get_or (decimal n) 0 0
    go (inl lt) = omega (arith, ap (λ (xs : List ℕ). get_or xs 0 0) (decimal_digit n lt))
    go (inr le) = omega (arith, first_decimal n (omega (arith, le)) (omega (arith, small)))

-- a loudness text is negative from 8000 on
sign : (n : ℕ) → is_negative (loudness_text n) ≡ nat_le 32768 n
sign n = go (cases_lt n 32768)
  where
    go : (n < 32768) ⊎ (32768 ≤ n) → is_negative (loudness_text n) ≡ nat_le 32768 n
    go (inl lt) =
        ap is_negative (cond-true (nat_lt n 32768) (hundredths_text n) _ (lt-ltb n 32768 lt))
        ∙ positive_start (decimal (n / 100)) (codes "." ++ two_digits (n % 100)) (decimal_start (n / 100) (omega (arith, lt)))
        ∙ sym (lt-leb 32768 n lt)
    go (inr le) =
        ap is_negative (cond-false (nat_lt n 32768) (hundredths_text n) (codes "-" ++ hundredths_text (65536 - n)) (le-ltb n 32768 le)) ∙ sym (le-leb 32768 n le)

-- ---- the texts of values at a version

abbrev texts_at : ℕ → List Value → List (List ℕ)
texts_at version vs = filter_map (λ v. shown_loudness version (le v.raw)) vs

-- below version 2 nothing is shown
low_shows : (version n : ℕ) → version < 2 → shown_loudness version n ≡ None
low_shows version n lt = ap (λ (t : Bool). cond (t || (n == 32767)) None (Some (loudness_text n))) (lt-ltb version 2 lt)

low_none : (version : ℕ) (vs : List Value) → version < 2 → texts_at version vs ≡ []
low_none version [] lt = refl
low_none version (v ∷ vs) lt = ap (λ (o : Option (List ℕ)). cons_option o (texts_at version vs)) (low_shows version (le v.raw) lt) ∙ low_none version vs lt

-- 7FFF shows nothing
blank_none : (version : ℕ) → texts_at version (plain no_loudness ∷ []) ≡ []
blank_none version = go (nat_lt version 2)
  where
    go : (t : Bool) → cons_option (cond (t || true) None (Some (loudness_text 32767))) [] ≡ []
    go true = refl
    go false = refl

high_shows : (version n : ℕ) → 2 ≤ version → (n ≡ 32767 → ⊥) → shown_loudness version n ≡ Some (loudness_text n)
high_shows version n le other =
    ap (λ (t : Bool). cond (t || (n == 32767)) None (Some (loudness_text n))) (le-ltb version 2 le)
    ∙ cond-false (n == 32767) None (Some (loudness_text n)) (ne_eqb n 32767 other)

-- ---- as the fields stand

or_false : (t : Bool) → (t || false) ≡ t
or_false true = refl
or_false false = refl

one_shows : (version n : ℕ) → list_any is_negative (cons_option (shown_loudness version n) []) ≡ (nat_le 2 version && nat_le 32768 n)
one_shows version n = go (cases_lt version 2)
  where
    by : 2 ≤ version → (t : Bool) → (n == 32767) ≡ t → list_any is_negative (cons_option (cond t None (Some (loudness_text n))) []) ≡ nat_le 32768 n
    by le true e = sym (lt-leb 32768 n (omega (arith, eqb-true n 32767 e)))
    by le false e = or_false (is_negative (loudness_text n)) ∙ sign n

    go : (version < 2) ⊎ (2 ≤ version) → list_any is_negative (cons_option (shown_loudness version n) []) ≡ (nat_le 2 version && nat_le 32768 n)
    go (inl lt) =
        ap (λ (o : Option (List ℕ)). list_any is_negative (cons_option o [])) (low_shows version n lt) ∙ sym (ap (λ (t : Bool). t && nat_le 32768 n) (lt-leb 2 version lt))
    go (inr le) =
        ap (λ (t : Bool). list_any is_negative (cons_option (cond (t || (n == 32767)) None (Some (loudness_text n))) [])) (le-ltb version 2 le)
        ∙ by le (n == 32767) refl ∙ sym (ap (λ (t : Bool). t && nat_le 32768 n) (le-leb 2 version le))

pub range_now : (f : FieldMap) → BextIsWhole f → some_text is_negative f (Bext LoudnessRange) ≡ shows_negative f
range_now f (inl all) =
    let v = all LoudnessRange in
    ap (λ (vs : List Value). list_any is_negative (texts_at (version_of f) vs)) v.1 ∙ one_shows (version_of f) (le v.0.raw)
    ∙ ap (λ (vs : List Value). nat_le 2 (version_of f) && nat_le 32768 (le (first_raw vs))) (sym v.1)
range_now f (inr none) =
    ap (λ (vs : List Value). list_any is_negative (texts_at (version_of f) vs)) (none LoudnessRange)
    ∙ sym (ap (λ (vs : List Value). nat_le 2 (le (first_raw vs)) && nat_le 32768 (number f LoudnessRange)) (none Version))

-- ---- the version that the items need

since_small : (name : FieldName) → since_name name ≤ 2
since_small (Bext Description) = omega arith
since_small (Bext Originator) = omega arith
since_small (Bext OriginatorReference) = omega arith
since_small (Bext OriginationDate) = omega arith
since_small (Bext OriginationTime) = omega arith
since_small (Bext TimeReference) = omega arith
since_small (Bext Version) = omega arith
since_small (Bext Umid) = omega arith
since_small (Bext LoudnessValue) = omega arith
since_small (Bext LoudnessRange) = omega arith
since_small (Bext MaxTruePeakLevel) = omega arith
since_small (Bext MaxMomentaryLoudness) = omega arith
since_small (Bext MaxShortTermLoudness) = omega arith
since_small (Bext Reserved) = omega arith
since_small (Bext CodingHistory) = omega arith
since_small (Info id) = omega arith
since_small (Whole id) = omega arith
since_small (User id) = omega arith
since_small (Key k) = omega arith
since_small (Stream n) = omega arith

max_small : (a b : ℕ) → a ≤ 2 → b ≤ 2 → max a b ≤ 2
max_small a b ha hb = grind (arith, ha, hb)

max_right : (a b n : ℕ) → n ≤ b → n ≤ max a b
max_right a b n h = grind (arith, h)

needed_small : (e : List RawItem) → needed e ≤ 2
needed_small [] = omega arith
needed_small (i ∷ e) = max_small (since_name i.name) (needed e) (since_small i.name) (needed_small e)

-- an item with an effect that sets the loudness range needs version 2
abbrev NeedsTwo : List RawItem → Type 0
NeedsTwo e = (list_any (λ i. is_bext i.name) e ≡ true) × (2 ≤ needed e)

more_needed : (o : Option RawItem) (e : List RawItem) → NeedsTwo e → NeedsTwo (cons_option o e)
more_needed None e h = h
more_needed (Some i) e h = (go (is_bext i.name), max_right (since_name i.name) (needed e) 2 h.1)
  where
    go : (t : Bool) → (t || list_any (λ j. is_bext j.name) e) ≡ true
    go true = refl
    go false = h.0

some_is : (a b : Change) → Some a ≡ Some b → a ≡ b
some_is a b h = ap (λ (o : Option Change). unwrap_or o Remove) h

needs_two : (f : FieldMap) (e : List EditItem) (change : Change) (i : RawItem) → change_in f e (Bext LoudnessRange) ≡ Some change → raw_change (Bext LoudnessRange) change ≡ Some i → i.name ≡ Bext LoudnessRange → NeedsTwo (raw_items f e)
needs_two f [] change i to raw is = absurd cc
needs_two f (item ∷ e) change i to raw is = go (same_name item.name (Bext LoudnessRange)) (has_effect f item) refl to (λ rest. needs_two f e change i rest raw is)
  where
    first : NeedsTwo (i ∷ raw_items f e)
    first =
        let P : FieldName → Type 0 = λ n. ((is_bext n || list_any (λ j. is_bext j.name) (raw_items f e)) ≡ true) × (2 ≤ max (since_name n) (needed (raw_items f e))) in
        subst P (sym is) (refl, left (needed (raw_items f e)))
      where
        left : (b : ℕ) → 2 ≤ max 2 b
        left b = grind arith

    go : (s b : Bool) → same_name item.name (Bext LoudnessRange) ≡ s → cond (s && b) (Some item.change) (change_in f e (Bext LoudnessRange)) ≡ Some change → (change_in f e (Bext LoudnessRange) ≡ Some change → NeedsTwo (raw_items f e))
        → NeedsTwo (filter_map raw_item (cond b (item ∷ effective f e) (effective f e)))
    go true true same h rest =
        let here : raw_item item ≡ Some i = ap (λ (n : FieldName). raw_change n item.change) (same_is_equal item.name (Bext LoudnessRange) same) ∙ ap (raw_change (Bext LoudnessRange)) (some_is item.change change h) ∙ raw in
        let P : Option RawItem → Type 0 = λ o. NeedsTwo (cons_option o (raw_items f e)) in
        subst P (sym here) first
    go false true same h rest = more_needed (raw_item item) (raw_items f e) (rest h)
    go true false same h rest = rest h
    go false false same h rest = rest h

-- ---- the version after an edit

no_version : (kind : Kind) (streams : ℕ) (f : FieldMap) (e : List EditItem) → AreSound e → EffectsPass kind streams f e → change_in f e (Bext Version) ≡ None
no_version kind streams f e sound pass = go (change_in f e (Bext Version)) refl
  where
    go : (c : Option Change) → change_in f e (Bext Version) ≡ c → c ≡ None
    go None h = refl
    go (Some change) h = let z = (change_sound kind streams f e (Bext Version) change sound pass h).passes.1.0 in absurd cc

version_after : (kind : Kind) (streams : ℕ) (f : FieldMap) (e : List EditItem) → AreSound e → EffectsPass kind streams f e → version_of (update f e) ≡ le (first_raw (ready f e Version))
version_after kind streams f e sound pass =
    ap (λ (vs : List Value). le (first_raw vs)) (bext_after f e Version sound ∙ ap (λ (c : Option Change). after (Bext Version) c (ready f e Version)) (no_version kind streams f e sound pass))

small_version : (to : ℕ) → to ≤ 2 → le (le_bytes 2 to) ≡ to
small_version to le = le-le_bytes 2 to (omega (arith, le))

-- what a raise to a version leaves
abbrev raised_to : Bool → ℕ → BextField → FieldMap → List Value
raised_to kept to field f = cond kept (made f field) (raised_form (Rattle.field_model.specs.Bext.form_of field) to (version_of f) (made f field))

-- a range that no item changes shows what it showed
raised_shows : (f : FieldMap) (to : ℕ) (kept : Bool) → BextIsWhole f → to ≤ 2 → nat_le to (version_of f) ≡ kept
    → texts_at (le (first_raw (raised_to kept to Version f))) (raised_to kept to LoudnessRange f) ≡ texts_at (version_of f) (f (Bext LoudnessRange))
raised_shows f to true (inl all) small h =
    let v = all Version in
    ap (λ (vs : List Value). texts_at (le (first_raw vs)) (made f LoudnessRange)) (made_there f Version v.0 v.1)
    ∙ ap (texts_at (version_of f)) (made_there f LoudnessRange v.0 v.1)
raised_shows f to true (inr none) small h =
    let zeros = made_new f LoudnessRange (none Version) in
    ap (λ (vs : List Value). texts_at (le (first_raw vs)) (made f LoudnessRange)) (made_new f Version (none Version))
    ∙ low_none 0 (made f LoudnessRange) (omega arith)
    ∙ ap (texts_at (version_of f)) (sym (none LoudnessRange))
raised_shows f to false lawful small h =
    let old : version_of f < to = leb-false to (version_of f) h in
    go (to == 2) refl ∙ sym (low_none (version_of f) (f (Bext LoudnessRange)) (omega (arith, old, small)))
  where
    go : (t : Bool) → (to == 2) ≡ t → texts_at (le (le_bytes 2 to)) (cond t (plain no_loudness ∷ []) (made f LoudnessRange)) ≡ []
    go true e = blank_none (le (le_bytes 2 to))
    go false e = low_none (le (le_bytes 2 to)) (made f LoudnessRange) (let other = eqb-false to 2 e in omega (arith, small_version to small, small, other))

still : (kind : Kind) (streams : ℕ) (f : FieldMap) (e : List EditItem) → BextIsWhole f → AreSound e → EffectsPass kind streams f e → change_in f e (Bext LoudnessRange) ≡ None → shown_texts (update f e) (Bext LoudnessRange) ≡ shown_texts f (Bext LoudnessRange)
still kind streams f e lawful sound pass none =
    ap (texts_at (version_of (update f e))) (bext_after f e LoudnessRange sound ∙ ap (λ (c : Option Change). after (Bext LoudnessRange) c (ready f e LoudnessRange)) none)
    ∙ ap (λ (version : ℕ). texts_at version (ready f e LoudnessRange)) (version_after kind streams f e sound pass)
    ∙ go (touches f e)
  where
    go : (t : Bool) → texts_at (le (first_raw (cond t (raised_to (nat_le (needed (raw_items f e)) (version_of f)) (needed (raw_items f e)) Version f) (f (Bext Version))))) (cond t (raised_to (nat_le (needed (raw_items f e)) (version_of f)) (needed (raw_items f e)) LoudnessRange f) (f (Bext LoudnessRange))) ≡ texts_at (version_of f) (f (Bext LoudnessRange))
    go true = raised_shows f (needed (raw_items f e)) (nat_le (needed (raw_items f e)) (version_of f)) lawful (needed_small (raw_items f e)) refl
    go false = refl

gone : (f : FieldMap) (e : List EditItem) → AreSound e → change_in f e (Bext LoudnessRange) ≡ Some Remove → shown_texts (update f e) (Bext LoudnessRange) ≡ []
gone f e sound to =
    ap (texts_at (version_of (update f e))) (bext_after f e LoudnessRange sound ∙ ap (λ (c : Option Change). after (Bext LoudnessRange) c (ready f e LoudnessRange)) to)
    ∙ blank_none (version_of (update f e))

-- ---- a range that is set

version_two : (f : FieldMap) (to : ℕ) (kept : Bool) → BextIsWhole f → 2 ≤ to → to ≤ 2 → nat_le to (version_of f) ≡ kept → 2 ≤ le (first_raw (raised_to kept to Version f))
version_two f to true (inl all) low high h =
    let v = all Version in
    omega (arith, low, leb-true to (version_of f) h, ap (λ (vs : List Value). le (first_raw vs)) (made_there f Version v.0 v.1))
version_two f to true (inr none) low high h =
    let zero_version : version_of f ≡ 0 = ap (λ (vs : List Value). le (first_raw vs)) (none Version) in
    absurd (omega (arith, low, leb-true to (version_of f) h, zero_version))
version_two f to false lawful low high h = omega (arith, low, small_version to high)

-- a loudness text is the number that it writes, with its sign
abbrev Writes : List ℕ → ℕ → Type 0
Writes text n = (n < 65536) × (n ≡ 32767 → ⊥) × (nat_le 32768 n ≡ is_negative text)

some_number : (a b : ℕ) → Some a ≡ Some b → a ≡ b
some_number a b h = ap (λ (o : Option ℕ). unwrap_or o 0) h

-- what is given where a test holds
given : (t : Bool) (a b : ℕ) → cond t (Some a) None ≡ Some b → (t ≡ true) × (a ≡ b)
given true a b h = (refl, some_number a b h)
given false a b h = absurd cc

writes : (text : List ℕ) (n : ℕ) → loudness_of text ≡ Some n → Writes text n
writes text n h = go (is_negative text) refl h
  where
    go : (t : Bool) → is_negative text ≡ t → cond t (negative_loudness (drop 1 text)) (positive_loudness text) ≡ Some n → Writes text n
    go true is h =
        let d = drop 1 text in
        let z = given (is_hundredths d && (nat_le 1 (hundredths_of d) && nat_le (hundredths_of d) 32768)) (65536 - hundredths_of d) n h in
        let p = and_parts (nat_le 1 (hundredths_of d)) (nat_le (hundredths_of d) 32768) (and_parts (is_hundredths d) _ z.0).1 in
        let low : 1 ≤ hundredths_of d = leb-true 1 (hundredths_of d) p.0 in
        let high : hundredths_of d ≤ 32768 = leb-true (hundredths_of d) 32768 p.1 in
        (omega (arith, low, high, z.1), λ e. omega (arith, low, high, z.1, e), le-leb 32768 n (omega (arith, low, high, z.1)) ∙ sym is)
    go false is h =
        let z = given (is_hundredths text && nat_le (hundredths_of text) 32766) (hundredths_of text) n h in
        let high : hundredths_of text ≤ 32766 = leb-true (hundredths_of text) 32766 (and_parts (is_hundredths text) _ z.0).1 in
        (omega (arith, high, z.1), λ e. omega (arith, high, z.1, e), lt-leb 32768 n (omega (arith, high, z.1)) ∙ sym is)

set_shows : (kind : Kind) (streams : ℕ) (f : FieldMap) (e : List EditItem) (text : List ℕ) (n : ℕ) → BextIsWhole f → AreSound e → EffectsPass kind streams f e → change_in f e (Bext LoudnessRange) ≡ Some (Set text) → loudness_of text ≡ Some n
    → some_text is_negative (update f e) (Bext LoudnessRange) ≡ is_negative text
set_shows kind streams f e text n lawful sound pass to is =
    let w = writes text n is in
    let raw : raw_of (Bext LoudnessRange) text ≡ Some (le_bytes 2 n) = ap (option_map (le_bytes 2)) is in
    let spelled : raw_change (Bext LoudnessRange) (Set text) ≡ Some (written (Bext LoudnessRange) (le_bytes 2 n)) = ap (option_map (written (Bext LoudnessRange))) raw in
    let two = needs_two f e (Set text) (written (Bext LoudnessRange) (le_bytes 2 n)) to spelled refl in
    let high = version_two f (needed (raw_items f e)) (nat_le (needed (raw_items f e)) (version_of f)) lawful two.1 (needed_small (raw_items f e)) refl in
    let version : 2 ≤ version_of (update f e) =
    omega (arith, high, version_after kind streams f e sound pass, ap (λ (t : Bool). le (first_raw (cond t (raised_to (nat_le (needed (raw_items f e)) (version_of f)) (needed (raw_items f e)) Version f) (f (Bext Version))))) two.0)
    in
    let number : le (le_bytes 2 n) ≡ n = le-le_bytes 2 n (omega (arith, w.0)) in
    ap (λ (vs : List Value). list_any is_negative (texts_at (version_of (update f e)) vs))
    (bext_after f e LoudnessRange sound ∙ ap (λ (c : Option Change). after (Bext LoudnessRange) c (ready f e LoudnessRange)) to ∙ ap (λ (o : Option RawItem). laid o (ready f e LoudnessRange)) spelled)
    ∙ ap (λ (k : ℕ). list_any is_negative (cons_option (shown_loudness (version_of (update f e)) k) [])) number
    ∙ ap (λ (o : Option (List ℕ)). list_any is_negative (cons_option o [])) (high_shows (version_of (update f e)) n version w.1)
    ∙ or_false (is_negative (loudness_text n)) ∙ sign n ∙ w.2

pub range_after : (kind : Kind) (streams : ℕ) (f : FieldMap) (e : List EditItem) → BextIsWhole f → AreSound e → EffectsPass kind streams f e
    → some_text is_negative (update f e) (Bext LoudnessRange) ≡ changed_fails row.Range f (Bext LoudnessRange) (change_in f e (Bext LoudnessRange))
range_after kind streams f e lawful sound pass = go (change_in f e (Bext LoudnessRange)) refl
  where
    number_of : (text : List ℕ) (o : Option ℕ) → loudness_of text ≡ o → is_none o ≡ false → (n : ℕ) × (loudness_of text ≡ Some n)
    number_of text None is some = absurd cc
    number_of text (Some n) is some = (n, is)

    go : (c : Option Change) → change_in f e (Bext LoudnessRange) ≡ c → some_text is_negative (update f e) (Bext LoudnessRange) ≡ changed_fails row.Range f (Bext LoudnessRange) c
    go None h = ap (list_any is_negative) (still kind streams f e lawful sound pass h)
    go (Some Remove) h = ap (list_any is_negative) (gone f e sound h)
    go (Some (Set text)) h =
        let z = change_sound kind streams f e (Bext LoudnessRange) (Set text) sound pass h in
        let n = number_of text (loudness_of text) refl z.passes.1.1.1.1.1.1.1.1.0 in
        set_shows kind streams f e text n.0 lawful sound pass h n.1

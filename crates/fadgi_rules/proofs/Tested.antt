-- Whether a rule fails for a name after an edit, by what the edit does to the name.
use Rattle.std.proofs.Common.{◌≡◌, ℕ, ◌-◌, List, [], ◌∷◌, ◌++◌, length, Bool, true, false, refl, sym, ap, ◌∙◌, subst, Option, Some, None, inl, inr, codes}
use Rattle.std.specs.Prelude.{◌||◌, ◌&&◌, ◌==◌, not, nat_lt, ◌⊎◌}
use Rattle.std.specs.List.{list_any, list_all, cons_option}
use Rattle.std.proofs.lemmas.Bool.{cond-true, cond-false, or_cases}
use Rattle.part_tree.specs.declared.field.BextField.{BextField}
use Rattle.part_tree.specs.declared.field.BextField.TheVariants.{Description, Originator, OriginatorReference, OriginationDate, OriginationTime, LoudnessRange, CodingHistory}
use Rattle.part_tree.specs.declared.field.Change.{Change}
use Rattle.part_tree.specs.declared.field.Change.TheVariants.{Set, Remove}
use Rattle.part_tree.specs.declared.field.EditItem.{EditItem}
use Rattle.part_tree.specs.declared.field.FieldName.{FieldName}
use Rattle.part_tree.specs.declared.field.FieldName.TheVariants.{Bext, Info, User}
use Rattle.part_tree.specs.declared.field.Form.{Form}
use Rattle.part_tree.specs.declared.field.Form.TheVariants.{Text}
use Rattle.part_tree.specs.declared.field.Value.{Value}
use Rattle.part_tree.specs.declared.names.FourCc.{FourCc}
use Rattle.part_tree.specs.declared.names.Kind.{Kind}
use Rattle.part_tree.specs.declared.names.Kind.TheVariants.{Wave, Rf64, Bw64, Avi, Mov}
use Rattle.part_tree.specs.Letters.{four}
use Rattle.part_tree.specs.Names.{same_name, info_ids}
use Rattle.part_tree.proofs.Places.{same_is_equal}
use Rattle.core_edit.specs.Edits.{AreSound}
use Rattle.field_model.specs.Bext.{form_of, width}
use Rattle.field_model.specs.Broken.{some_text, shows_too_little, ends_with_zero}
use Rattle.field_model.specs.Dates.{is_date, is_time, is_info_date, spelled_date, spelled_time}
use Rattle.field_model.specs.Fields.{FieldMap}
use Rattle.field_model.specs.History.{is_history}
use Rattle.field_model.specs.Lawful.{BextIsWhole}
use Rattle.field_model.specs.Raw.{raw_of, raw_form, fits_width, padded}
use Rattle.field_model.specs.Rules.{form_number, is_info, is_short, is_printable}
use Rattle.field_model.specs.Shown.{unless_empty, shown_texts}
use Rattle.field_model.specs.Update.{update}
use Rattle.fadgi_rules.specs.declared.row.FieldRule.{FieldRule}
use Rattle.fadgi_rules.specs.declared.row.FieldRule.TheVariants as row
use Rattle.fadgi_rules.specs.Changed.{change_in}
use Rattle.fadgi_rules.specs.Rows.{fields_of, fails, text_fails, needs_text, changed_fails, LooksAt}
use Rattle.fadgi_rules.proofs.After.{after, values_after}
use Rattle.fadgi_rules.proofs.Looks.{one, IsInfo, info_one}
use Rattle.fadgi_rules.proofs.Passes.{EffectsPass}
use Rattle.fadgi_rules.proofs.Range.{range_after}
use Rattle.fadgi_rules.proofs.Spelled.{HasNoZero, Spells, date_spelled, time_spelled, text_before, text_alone}
use Rattle.fadgi_rules.proofs.Views.{Sound, change_sound, Texted, shows_still, shows_none, set_value}

-- ---- texts that show themselves

abbrev Plain : FieldName → Type 0
Plain (Bext field) = form_of field ≡ Text
Plain (Info id) = Unit {0}
Plain (User id) = Unit {0}
Plain name = ⊥

plain_texted : (name : FieldName) → Plain name → Texted name
plain_texted (Bext field) h = let P : Form → Type 0 = λ form. Rattle.fadgi_rules.proofs.Views.TextForm form in subst P (sym h) tt
plain_texted (Info id) h = tt
plain_texted (User id) h = tt
plain_texted name h = absurd h

opposite : (t : Bool) → not t ≡ false → t ≡ true
opposite true h = refl
opposite false h = absurd cc

-- the raw bytes of a text of bext that breaks no rule, and what they show
text_raw : (kind : Kind) (streams : ℕ) (field : BextField) (text : List ℕ) → form_of field ≡ Text → Sound kind streams (Bext field) (Set text) → raw_of (Bext field) text ≡ Some (padded field text)
text_raw kind streams field text is sound =
    let wide : not (fits_width field text) ≡ false = sym (ap (λ (form : Form). (form_number form == form_number Text) && not (fits_width field text)) is) ∙ sound.passes.1.1.1.1.0 in
    ap (λ (form : Form). raw_form form field text) is ∙ cond-true (fits_width field text) (Some (padded field text)) None (opposite (fits_width field text) wide)

no_zero : (kind : Kind) (streams : ℕ) (field : BextField) (text : List ℕ) → form_of field ≡ Text → Sound kind streams (Bext field) (Set text) → HasNoZero text
no_zero kind streams field text is sound =
    sym (ap (λ (form : Form). ((form_number form == form_number Text) || is_info (Bext field) || is_short (Bext field)) && list_any (λ x. x == 0) text) is) ∙ sound.passes.1.1.0

plain_set : (kind : Kind) (streams : ℕ) (f : FieldMap) (e : List EditItem) (name : FieldName) (text : List ℕ) → AreSound e → EffectsPass kind streams f e → Plain name → change_in f e name ≡ Some (Set text)
    → shown_texts (update f e) name ≡ text ∷ []
plain_set kind streams f e (Bext field) text sound pass h to =
    let z = change_sound kind streams f e (Bext field) (Set text) sound pass to in
    let none : HasNoZero text = no_zero kind streams field text h z in
    set_value f e (Bext field) text (padded field text) sound (plain_texted (Bext field) h) to (text_raw kind streams field text h z)
    ∙ ap (λ (raw : List ℕ). cons_option (unless_empty raw) []) (text_before text (width field - length text) none)
    ∙ ap (λ (o : Option (List ℕ)). cons_option o []) (cond-false (length text == 0) None (Some text) z.some)
plain_set kind streams f e (Info id) text sound pass h to =
    let z = change_sound kind streams f e (Info id) (Set text) sound pass to in
    set_value f e (Info id) text (text ++ 0 ∷ []) sound tt to refl ∙ ap (λ (raw : List ℕ). raw ∷ []) (text_alone text z.passes.1.1.0)
plain_set kind streams f e (User id) text sound pass h to = set_value f e (User id) text text sound tt to refl
plain_set kind streams f e name text sound pass h to = absurd h

-- ---- dates and times

date_set : (kind : Kind) (streams : ℕ) (f : FieldMap) (e : List EditItem) (text : List ℕ) → AreSound e → EffectsPass kind streams f e → change_in f e (Bext OriginationDate) ≡ Some (Set text)
    → (shown_texts (update f e) (Bext OriginationDate) ≡ spelled_date text ∷ []) × (is_date text ≡ true) × Spells is_date (spelled_date text)
date_set kind streams f e text sound pass to =
    let z = change_sound kind streams f e (Bext OriginationDate) (Set text) sound pass to in
    let is : is_date text ≡ true = opposite (is_date text) z.passes.1.1.1.1.1.0 in
    let s = date_spelled text is in
    (set_value f e (Bext OriginationDate) text (spelled_date text) sound tt to (cond-true (is_date text) (Some (spelled_date text)) None is) ∙ ap (λ (o : Option (List ℕ)). cons_option o []) s.shows, is, s)

time_set : (kind : Kind) (streams : ℕ) (f : FieldMap) (e : List EditItem) (text : List ℕ) → AreSound e → EffectsPass kind streams f e → change_in f e (Bext OriginationTime) ≡ Some (Set text)
    → (shown_texts (update f e) (Bext OriginationTime) ≡ spelled_time text ∷ []) × (is_time text ≡ true) × Spells is_time (spelled_time text)
time_set kind streams f e text sound pass to =
    let z = change_sound kind streams f e (Bext OriginationTime) (Set text) sound pass to in
    let is : is_time text ≡ true = opposite (is_time text) z.passes.1.1.1.1.1.1.0 in
    let s = time_spelled text is in
    (set_value f e (Bext OriginationTime) text (spelled_time text) sound tt to (cond-true (is_time text) (Some (spelled_time text)) None is) ∙ ap (λ (o : Option (List ℕ)). cons_option o []) s.shows, is, s)

-- ---- tests of the texts that are shown

or_false : (t : Bool) → (t || false) ≡ t
or_false true = refl
or_false false = refl

-- a text that is shown for the one that is set, and passes a test like it
abbrev ShowsFor : (List ℕ → Bool) → FieldMap → FieldName → List ℕ → Type 0
ShowsFor test f name text = (spelled : List ℕ) × (shown_texts f name ≡ spelled ∷ []) × (test spelled ≡ test text)

abbrev tested : (List ℕ → Bool) → FieldMap → FieldName → Option Change → Bool
tested test f name None = some_text test f name
tested test f name (Some Remove) = false
tested test f name (Some (Set text)) = test text

text_after : (test : List ℕ → Bool) (f : FieldMap) (e : List EditItem) (name : FieldName) → BextIsWhole f → AreSound e → Texted name
    → ((text : List ℕ) → change_in f e name ≡ Some (Set text) → ShowsFor test (update f e) name text)
    → some_text test (update f e) name ≡ tested test f name (change_in f e name)
text_after test f e name lawful sound h sets = go (change_in f e name) refl
  where
    go : (c : Option Change) → change_in f e name ≡ c → some_text test (update f e) name ≡ tested test f name c
    go None is = ap (list_any test) (shows_still f e name lawful sound h is)
    go (Some Remove) is = ap (list_any test) (shows_none f e name sound h is)
    go (Some (Set text)) is =
        let z = sets text is in
        ap (list_any test) z.1 ∙ or_false (test z.0) ∙ z.2

-- and of whether some text is shown that isn't empty
abbrev is_empty : List ℕ → Bool
is_empty text = length text == 0

abbrev lacked : FieldMap → FieldName → Option Change → Bool
lacked f name None = shows_too_little f name
lacked f name (Some Remove) = true
lacked f name (Some (Set text)) = is_empty text

lack_after : (f : FieldMap) (e : List EditItem) (name : FieldName) → BextIsWhole f → AreSound e → Texted name
    → ((text : List ℕ) → change_in f e name ≡ Some (Set text) → ShowsFor is_empty (update f e) name text)
    → shows_too_little (update f e) name ≡ lacked f name (change_in f e name)
lack_after f e name lawful sound h sets = go (change_in f e name) refl
  where
    Lack : List (List ℕ) → Bool
    Lack ts = (length ts == 0) || list_any is_empty ts

    go : (c : Option Change) → change_in f e name ≡ c → shows_too_little (update f e) name ≡ lacked f name c
    go None is = ap (λ (ts : List (List ℕ)). (length ts == 0) || list_any is_empty ts) (shows_still f e name lawful sound h is)
    go (Some Remove) is = ap (λ (ts : List (List ℕ)). (length ts == 0) || list_any is_empty ts) (shows_none f e name sound h is)
    go (Some (Set text)) is =
        let z = sets text is in
        ap (λ (ts : List (List ℕ)). (length ts == 0) || list_any is_empty ts) z.1 ∙ or_false (is_empty z.0) ∙ z.2

-- ---- values of INFO

ends : (text : List ℕ) → ends_with_zero (text ++ 0 ∷ []) ≡ true
ends [] = refl
ends (x ∷ []) = refl
ends (x ∷ y ∷ text) = ends (y ∷ text)

-- ---- each rule

by_cases : (a b : Option Change → Bool) → a None ≡ b None → a (Some Remove) ≡ b (Some Remove) → ((text : List ℕ) → a (Some (Set text)) ≡ b (Some (Set text))) → (c : Option Change) → a c ≡ b c
by_cases a b none gone to None = none
by_cases a b none gone to (Some Remove) = gone
by_cases a b none gone to (Some (Set text)) = to text

module _ (kind : Kind) (streams : ℕ) (f : FieldMap) (e : List EditItem) (lawful : BextIsWhole f) (sound : AreSound e) (pass : EffectsPass kind streams f e) where
  abbrev Holds : FieldRule → FieldName → Type 0
  Holds r name = fails r (update f e) name ≡ changed_fails r f name (change_in f e name)

  -- a rule whose test is made of the texts that are shown
  by_texts : (r : FieldRule) (test : List ℕ → Bool) (name : FieldName) → Texted name → fails r ≡ some_text test → needs_text r ≡ false → ((text : List ℕ) → text_fails r text ≡ test text)
      → ((text : List ℕ) → change_in f e name ≡ Some (Set text) → ShowsFor test (update f e) name text) → Holds r name
  by_texts r test name texted same none each sets =
      ap (λ (p : FieldMap → FieldName → Bool). p (update f e) name) same ∙ text_after test f e name lawful sound texted sets
      ∙ by_cases (tested test f name) (changed_fails r f name) (ap (λ (p : FieldMap → FieldName → Bool). p f name) (sym same)) (sym none) (λ text. sym (each text)) (change_in f e name)

  by_plain : (r : FieldRule) (test : List ℕ → Bool) (name : FieldName) → Plain name → fails r ≡ some_text test → needs_text r ≡ false → ((text : List ℕ) → text_fails r text ≡ test text) → Holds r name
  by_plain r test name is same none each =
      by_texts r test name (plain_texted name is) same none each (λ text to. (text, plain_set kind streams f e name text sound pass is to, refl))

  -- a rule that wants a text
  by_lack : (r : FieldRule) (name : FieldName) → Texted name → fails r ≡ shows_too_little → needs_text r ≡ true → ((text : List ℕ) → text_fails r text ≡ is_empty text)
      → ((text : List ℕ) → change_in f e name ≡ Some (Set text) → ShowsFor is_empty (update f e) name text) → Holds r name
  by_lack r name texted same needs each sets =
      ap (λ (p : FieldMap → FieldName → Bool). p (update f e) name) same ∙ lack_after f e name lawful sound texted sets
      ∙ by_cases (lacked f name) (changed_fails r f name) (ap (λ (p : FieldMap → FieldName → Bool). p f name) (sym same)) (sym needs) (λ text. sym (each text)) (change_in f e name)

  plain_lack : (r : FieldRule) (name : FieldName) → Plain name → fails r ≡ shows_too_little → needs_text r ≡ true → ((text : List ℕ) → text_fails r text ≡ is_empty text) → Holds r name
  plain_lack r name is same needs each =
      by_lack r name (plain_texted name is) same needs each (λ text to. (text, plain_set kind streams f e name text sound pass is to, refl))

  date_holds : Holds row.Date (Bext OriginationDate)
  date_holds =
      by_texts row.Date (λ text. not (is_date text)) (Bext OriginationDate) tt refl refl (λ text. refl)
      (λ text to. let z = date_set kind streams f e text sound pass to in (spelled_date text, z.0, ap not (z.2.passes ∙ sym z.1)))

  time_holds : Holds row.Time (Bext OriginationTime)
  time_holds =
      by_texts row.Time (λ text. not (is_time text)) (Bext OriginationTime) tt refl refl (λ text. refl)
      (λ text to. let z = time_set kind streams f e text sound pass to in (spelled_time text, z.0, ap not (z.2.passes ∙ sym z.1)))

  date_lack : Holds row.HasDate (Bext OriginationDate)
  date_lack =
      by_lack row.HasDate (Bext OriginationDate) tt refl refl (λ text. refl)
      (λ text to. (spelled_date text, (date_set kind streams f e text sound pass to).0, (date_set kind streams f e text sound pass to).2.some ∙ sym (change_sound kind streams f e (Bext OriginationDate) (Set text) sound pass to).some))

  letters_hold : (field : BextField) → form_of field ≡ Text → Holds row.Letters (Bext field)
  letters_hold field is = by_plain row.Letters (λ text. not (list_all is_printable text)) (Bext field) is refl refl (λ text. refl)

  -- the values of INFO, by the change
  info_values : (test : List Value → Bool) (r : FieldRule) (id : FourCc) → fails r ≡ (λ g name. test (g name)) → needs_text r ≡ false → ((text : List ℕ) → text_fails r text ≡ false)
      → test [] ≡ false → ((text : List ℕ) → test (record { lang = 0; raw = text ++ 0 ∷ [] } ∷ []) ≡ false) → Holds r (Info id)
  info_values test r id same none each empty set_one =
      ap (λ (p : FieldMap → FieldName → Bool). p (update f e) (Info id)) same
      ∙ ap test (values_after f e (Info id) (f (Info id)) sound)
      ∙ by_cases (λ c. test (after (Info id) c (f (Info id)))) (changed_fails r f (Info id)) (ap (λ (p : FieldMap → FieldName → Bool). p f (Info id)) (sym same)) (empty ∙ sym none) (λ text. set_one text ∙ sym (each text)) (change_in f e (Info id))

  once_holds : (id : FourCc) → Holds row.Once (Info id)
  once_holds id = info_values (λ vs. nat_lt 1 (length vs)) row.Once id refl refl (λ text. refl) refl (λ text. refl)

  end_holds : (id : FourCc) → Holds row.End (Info id)
  end_holds id = info_values (λ vs. list_any (λ v. not (ends_with_zero v.raw)) vs) row.End id refl refl (λ text. refl) refl (λ text. ap (λ (t : Bool). not t || false) (ends text))

  on : (r : FieldRule) (x name : FieldName) → name ≡ x → Holds r x → Holds r name
  on r x name is h = subst (Holds r) (sym is) h

  on_info : (r : FieldRule) (name : FieldName) → IsInfo name → ((id : FourCc) → Holds r (Info id)) → Holds r name
  on_info r name is h = on r (Info is.0) name is.1 (h is.0)

  letters : (name : FieldName) → (same_name name (Bext Description) || (same_name name (Bext Originator) || (same_name name (Bext OriginatorReference) || false))) ≡ true → Holds row.Letters name
  letters name h = go (or_cases (same_name name (Bext Description)) _ h)
    where
      last : (same_name name (Bext Originator) ≡ true) ⊎ ((same_name name (Bext OriginatorReference) || false) ≡ true) → Holds row.Letters name
      last (inl is) = on row.Letters (Bext Originator) name (same_is_equal name (Bext Originator) is) (letters_hold Originator refl)
      last (inr is) = on row.Letters (Bext OriginatorReference) name (one name (Bext OriginatorReference) is) (letters_hold OriginatorReference refl)

      go : (same_name name (Bext Description) ≡ true) ⊎ ((same_name name (Bext Originator) || (same_name name (Bext OriginatorReference) || false)) ≡ true) → Holds row.Letters name
      go (inl is) = on row.Letters (Bext Description) name (same_is_equal name (Bext Description) is) (letters_hold Description refl)
      go (inr is) = last (or_cases (same_name name (Bext Originator)) _ is)

  description : (name : FieldName) (k : Kind) → list_any (same_name name) (fields_of row.HasDescription k) ≡ true → Holds row.HasDescription name
  description name Wave h = on row.HasDescription (Bext Description) name (one name (Bext Description) h) (plain_lack row.HasDescription (Bext Description) refl refl refl (λ text. refl))
  description name Rf64 h = on row.HasDescription (Bext Description) name (one name (Bext Description) h) (plain_lack row.HasDescription (Bext Description) refl refl refl (λ text. refl))
  description name Bw64 h = on row.HasDescription (Bext Description) name (one name (Bext Description) h) (plain_lack row.HasDescription (Bext Description) refl refl refl (λ text. refl))
  description name Avi h = on row.HasDescription (Info (four (codes "INAM"))) name (one name (Info (four (codes "INAM"))) h) (plain_lack row.HasDescription (Info (four (codes "INAM"))) tt refl refl (λ text. refl))
  description name Mov h = on row.HasDescription (User (four (169 ∷ codes "nam"))) name (one name (User (four (169 ∷ codes "nam"))) h) (plain_lack row.HasDescription (User (four (169 ∷ codes "nam"))) tt refl refl (λ text. refl))

  originator : (name : FieldName) (k : Kind) → list_any (same_name name) (fields_of row.HasOriginator k) ≡ true → Holds row.HasOriginator name
  originator name Wave h = on row.HasOriginator (Bext Originator) name (one name (Bext Originator) h) (plain_lack row.HasOriginator (Bext Originator) refl refl refl (λ text. refl))
  originator name Rf64 h = on row.HasOriginator (Bext Originator) name (one name (Bext Originator) h) (plain_lack row.HasOriginator (Bext Originator) refl refl refl (λ text. refl))
  originator name Bw64 h = on row.HasOriginator (Bext Originator) name (one name (Bext Originator) h) (plain_lack row.HasOriginator (Bext Originator) refl refl refl (λ text. refl))
  originator name Avi h = on row.HasOriginator (Info (four (codes "IARL"))) name (one name (Info (four (codes "IARL"))) h) (plain_lack row.HasOriginator (Info (four (codes "IARL"))) tt refl refl (λ text. refl))
  originator name Mov h = absurd cc

  origination : (name : FieldName) (k : Kind) → list_any (same_name name) (fields_of row.HasDate k) ≡ true → Holds row.HasDate name
  origination name Wave h = on row.HasDate (Bext OriginationDate) name (one name (Bext OriginationDate) h) date_lack
  origination name Rf64 h = on row.HasDate (Bext OriginationDate) name (one name (Bext OriginationDate) h) date_lack
  origination name Bw64 h = on row.HasDate (Bext OriginationDate) name (one name (Bext OriginationDate) h) date_lack
  origination name Avi h = on row.HasDate (Info (four (codes "ICRD"))) name (one name (Info (four (codes "ICRD"))) h) (plain_lack row.HasDate (Info (four (codes "ICRD"))) tt refl refl (λ text. refl))
  origination name Mov h = on row.HasDate (User (four (169 ∷ codes "day"))) name (one name (User (four (169 ∷ codes "day"))) h) (plain_lack row.HasDate (User (four (169 ∷ codes "day"))) tt refl refl (λ text. refl))

  -- a rule fails after an edit as the change of the field says
  pub rule_holds : (r : FieldRule) (name : FieldName) → LooksAt r name → Holds r name
  rule_holds row.History name looks = on row.History (Bext CodingHistory) name (one name (Bext CodingHistory) looks.1) (by_plain row.History (λ text. not (is_history text)) (Bext CodingHistory) refl refl refl (λ text. refl))
  rule_holds row.Date name looks = on row.Date (Bext OriginationDate) name (one name (Bext OriginationDate) looks.1) date_holds
  rule_holds row.Time name looks = on row.Time (Bext OriginationTime) name (one name (Bext OriginationTime) looks.1) time_holds
  rule_holds row.Range name looks = on row.Range (Bext LoudnessRange) name (one name (Bext LoudnessRange) looks.1) (range_after kind streams f e lawful sound pass)
  rule_holds row.Letters name looks = letters name looks.1
  rule_holds row.Once name looks = on_info row.Once name (info_one name info_ids looks.1) once_holds
  rule_holds row.End name looks = on_info row.End name (info_one name info_ids looks.1) end_holds
  rule_holds row.Created name looks = on row.Created (Info (four (codes "ICRD"))) name (one name (Info (four (codes "ICRD"))) looks.1) (by_plain row.Created (λ text. not (is_info_date text)) (Info (four (codes "ICRD"))) tt refl refl (λ text. refl))
  rule_holds row.HasDescription name looks = description name looks.0 looks.1
  rule_holds row.HasOriginator name looks = originator name looks.0 looks.1
  rule_holds row.HasDate name looks = origination name looks.0 looks.1

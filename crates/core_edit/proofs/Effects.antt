-- What the spelling of a text shows, and the one value of a field of bext.
use Rattle.std.proofs.Common.{◌≡◌, ℕ, zero, suc, ◌<◌, ◌≤◌, ◌-◌, List, [], ◌∷◌, ◌++◌, length, get_or, replicate, Bool, true, false, ◌&&◌, ◌||◌, ◌==◌, not, ◌⊎◌, refl, sym, ap, ◌∙◌, arith, inl, inr, subst, Option, Some, None, cond}
use Rattle.std.specs.Str.{bytes_eq}
use Rattle.std.proofs.lemmas.Bool.{cond-true, cond-false}
use Rattle.std.proofs.lemmas.List.Sums.{take_while-cons}
use Rattle.part_tree.specs.declared.field.BextField.{BextField}
use Rattle.part_tree.specs.declared.field.BextField.TheVariants.{Description, Originator, OriginatorReference, OriginationDate, OriginationTime, TimeReference, Version, Umid, LoudnessValue, LoudnessRange, MaxTruePeakLevel, MaxMomentaryLoudness, MaxShortTermLoudness, Reserved, CodingHistory}
use Rattle.part_tree.specs.declared.field.FieldName.{FieldName}
use Rattle.part_tree.specs.declared.field.FieldName.TheVariants.{Bext, Info, Whole, User, Key, Stream}
use Rattle.part_tree.specs.declared.field.Form.TheVariants.{Text}
use Rattle.part_tree.specs.declared.field.Value.{Value}
use Rattle.part_tree.specs.declared.names.FourCc.{FourCc}
use Rattle.field_model.specs.Bext.{form_of, width}
use Rattle.field_model.specs.Body.{FillsRange}
use Rattle.field_model.specs.Fields.{FieldMap, plain, version_of}
use Rattle.field_model.specs.Lawful.{BextIsWhole, IsLawful}
use Rattle.field_model.specs.Raw.{fits_width, padded, raw_form, raw_of, raw_whole}
use Rattle.field_model.specs.Shown.{before_zero, shown, unless_empty}
use Rattle.field_model.specs.Update.{is_nothing, only_shown, removes, same_text, shown_spelled, shows_already}
use Rattle.field_model.proofs.Fits.{raw_fills}
use Rattle.core_edit.specs.Forms.{FormHasNumber, HasNumber}
use Rattle.core_edit.specs.Shown.{shown_at, spelled_at, spelled_form, spelled_whole}

-- ---- bytes before the first 0

-- zeros behind a text don't show
pub before_zeros : (text : List ℕ) (n : ℕ) → before_zero (text ++ replicate n 0) ≡ before_zero text
before_zeros [] zero = refl
before_zeros [] (suc n) = refl
before_zeros (x ∷ text) n =
    take_while-cons (λ (y : ℕ). not (y == 0)) x (text ++ replicate n 0)
    ∙ ap (λ (xs : List ℕ). cond (not (x == 0)) (x ∷ xs) []) (before_zeros text n)
    ∙ sym (take_while-cons (λ (y : ℕ). not (y == 0)) x text)

-- what the spelling of a text of bext shows: none where it doesn't fit, else what stands before its first 0
spelled_text : (field : BextField) (version : ℕ) (text : List ℕ) → fits_width field text ≡ true → spelled_form Text version (raw_form Text field text) ≡ unless_empty (before_zero text)
spelled_text field version text fits =
    ap (spelled_form Text version) (cond-true (fits_width field text) (Some (padded field text)) None fits) ∙ ap unless_empty (before_zeros text (width field - length text))

pub unfit_shows : (field : BextField) (version : ℕ) (found text : List ℕ) → fits_width field text ≡ false
    → false ≡ same_text (Some found) (spelled_form Text version (raw_form Text field text))
unfit_shows field version found text unfit =
    sym (ap (λ (o : Option (List ℕ)). same_text (Some found) (spelled_form Text version o)) (cond-false (fits_width field text) (Some (padded field text)) None unfit))

pub empty_shows : (field : BextField) (version : ℕ) (found text : List ℕ) → fits_width field text ≡ true → (length (before_zero text) == 0) ≡ true
    → false ≡ same_text (Some found) (spelled_form Text version (raw_form Text field text))
empty_shows field version found text fits empty =
    sym (ap (same_text (Some found)) (spelled_text field version text fits ∙ cond-true (length (before_zero text) == 0) None (Some (before_zero text)) empty))

pub text_shows : (field : BextField) (version : ℕ) (found text : List ℕ) → fits_width field text ≡ true → (length (before_zero text) == 0) ≡ false
    → bytes_eq found (before_zero text) ≡ same_text (Some found) (spelled_form Text version (raw_form Text field text))
text_shows field version found text fits some =
    sym (ap (same_text (Some found)) (spelled_text field version text fits ∙ cond-false (length (before_zero text) == 0) None (Some (before_zero text)) some))

pub info_shows : (version : ℕ) (name : FieldName) (id : FourCc) (found text shown : List ℕ) (same : Bool) → name ≡ Info id → same ≡ bytes_eq found shown → shown ≡ before_zero text
    → same ≡ same_text (Some found) (spelled_at version name (raw_of name text))
info_shows version name id found text shown same is told before =
    let Shows : FieldName → Type 0 = λ n. same ≡ same_text (Some found) (spelled_at version n (raw_of n text)) in
    subst Shows (sym is) (told ∙ ap (bytes_eq found) (before ∙ sym (before_zeros text 1)))

-- the same of a stream
pub stream_shows : (version : ℕ) (name : FieldName) (n : ℕ) (found text shown : List ℕ) (same : Bool) → name ≡ Stream n → same ≡ bytes_eq found shown → shown ≡ before_zero text
    → same ≡ same_text (Some found) (spelled_at version name (raw_of name text))
stream_shows version name n found text shown same is told before =
    let Shows : FieldName → Type 0 = λ m. same ≡ same_text (Some found) (spelled_at version m (raw_of m text)) in
    subst Shows (sym is) (told ∙ ap (bytes_eq found) (before ∙ sym (before_zeros text 1)))

whole_is : (version : ℕ) (id : FourCc) (o : Option (List ℕ)) → spelled_whole id.0 o ≡ spelled_at version (Whole id) o
whole_is version id None = refl
whole_is version id (Some raw) = refl

pub whole_shows : (version : ℕ) (name : FieldName) (id : FourCc) (found text : List ℕ) (same : Bool) → name ≡ Whole id
    → same ≡ same_text (Some found) (spelled_whole id.0 (raw_whole id.0 text)) → same ≡ same_text (Some found) (spelled_at version name (raw_of name text))
whole_shows version name id found text same is told =
    let Shows : FieldName → Type 0 = λ n. same ≡ same_text (Some found) (spelled_at version n (raw_of n text)) in
    subst Shows (sym is) (told ∙ ap (same_text (Some found)) (whole_is version id (raw_whole id.0 text)))

-- ---- numbers

fills_two : (raw : List ℕ) (k : ℕ) → (k ≡ 14 → ⊥) → (n : ℕ) → (k ≡ 14) ⊎ (length raw ≡ n) → length raw ≡ n
fills_two raw k other n (inl e) = absurd (other e)
fills_two raw k other n (inr e) = e

-- bytes that fill a range are as many as a number has
pub fills_number : (field : BextField) (raw : List ℕ) → FillsRange field raw → FormHasNumber (form_of field) raw
fills_number Description raw h = tt
fills_number Originator raw h = tt
fills_number OriginatorReference raw h = tt
fills_number OriginationDate raw h = tt
fills_number OriginationTime raw h = tt
fills_number TimeReference raw h = fills_two raw 5 (λ e. omega (arith, e)) 8 h
fills_number Version raw h = fills_two raw 6 (λ e. omega (arith, e)) 2 h
fills_number Umid raw h = tt
fills_number LoudnessValue raw h = fills_two raw 8 (λ e. omega (arith, e)) 2 h
fills_number LoudnessRange raw h = fills_two raw 9 (λ e. omega (arith, e)) 2 h
fills_number MaxTruePeakLevel raw h = fills_two raw 10 (λ e. omega (arith, e)) 2 h
fills_number MaxMomentaryLoudness raw h = fills_two raw 11 (λ e. omega (arith, e)) 2 h
fills_number MaxShortTermLoudness raw h = fills_two raw 12 (λ e. omega (arith, e)) 2 h
fills_number Reserved raw h = tt
fills_number CodingHistory raw h = tt

-- the spelling of a number has as many bytes
pub spelled_number : (field : BextField) (text raw : List ℕ) → Some raw ≡ raw_form (form_of field) field text → FormHasNumber (form_of field) raw
spelled_number field text raw h = fills_number field raw (raw_fills field text raw (sym h))

-- ---- the one value

-- in lawful fields a value of bext fills its range
pub held_fills : (f : FieldMap) (field : BextField) (vs : List Value) (d : Value) → BextIsWhole f → vs ≡ f (Bext field) → 0 < length vs → FillsRange field (get_or vs 0 d).raw
held_fills f field vs d (inl all) same some =
    let one = all field in
    subst (λ (ws : List Value). FillsRange field (get_or ws 0 d).raw) (sym (same ∙ one.1)) one.2
held_fills f field vs d (inr none) same some = absurd (omega (arith, some, ap length (same ∙ none field)))

pub held_number : (f : FieldMap) (name : FieldName) (vs : List Value) (d : Value) → IsLawful f → vs ≡ f name → 0 < length vs → HasNumber name (get_or vs 0 d).raw
held_number f (Bext field) vs d lawful same some = fills_number field (get_or vs 0 d).raw (held_fills f field vs d lawful.bext same some)
held_number f (Info id) vs d lawful same some = tt
held_number f (Whole id) vs d lawful same some = tt
held_number f (User id) vs d lawful same some = tt
held_number f (Key name) vs d lawful same some = tt
held_number f (Stream n) vs d lawful same some = tt

-- what a value shows, by the version alone
pub shown_is : (f : FieldMap) (name : FieldName) (v : Value) → shown f name v ≡ shown_at (version_of f) name v.raw
shown_is f (Bext field) v = refl
shown_is f (Info id) v = refl
shown_is f (Whole id) v = refl
shown_is f (User id) v = refl
shown_is f (Key name) v = refl
shown_is f (Stream n) v = refl

pub spelled_is : (f : FieldMap) (name : FieldName) (o : Option (List ℕ)) → shown_spelled f name o ≡ spelled_at (version_of f) name o
spelled_is f name None = refl
spelled_is f name (Some raw) = shown_is f name (plain raw)

-- a list of another length than 1 shows no text alone
pub not_only : (f : FieldMap) (name : FieldName) (vs : List Value) → (length vs ≡ 1 → ⊥) → only_shown f name vs ≡ None
not_only f name [] other = refl
not_only f name (v ∷ []) other = absurd (other refl)
not_only f name (v ∷ w ∷ vs) other = refl

pub only : (f : FieldMap) (name : FieldName) (vs : List Value) (d : Value) → length vs ≡ 1 → only_shown f name vs ≡ shown_at (version_of f) name (get_or vs 0 d).raw
only f name [] d h = absurd (omega (arith, h))
only f name (v ∷ []) d h = shown_is f name v
only f name (v ∷ w ∷ vs) d h = absurd (omega (arith, h))

-- in lawful fields removing changes something in a field of bext where its one value isn't nothing
pub removes_only : (f : FieldMap) (field : BextField) (vs : List Value) (d : Value) → length vs ≡ 1 → removes f (Bext field) vs ≡ not (is_nothing f field (get_or vs 0 d))
removes_only f field [] d h = absurd (omega (arith, h))
removes_only f field (v ∷ []) d h = ap not (and_true (is_nothing f field v))
  where
    and_true : (t : Bool) → (t && true) ≡ t
    and_true true = refl
    and_true false = refl
removes_only f field (v ∷ w ∷ vs) d h = absurd (omega (arith, h))

-- and none has two values
pub none_two : (f : FieldMap) (field : BextField) (vs : List Value) → BextIsWhole f → vs ≡ f (Bext field) → 2 ≤ length vs → ⊥
none_two f field vs (inl all) same two = omega (arith, two, ap length (same ∙ (all field).1))
none_two f field vs (inr none) same two = omega (arith, two, ap length (same ∙ none field))

-- ---- the answers

-- what one value of some fields shows, against what the name alone shows
pub already_one : (f : FieldMap) (name : FieldName) (vs : List Value) (d : Value) (version : ℕ) (raw text : List ℕ) (same : Bool)
    → vs ≡ f name → length vs ≡ 1 → version ≡ version_of f → raw ≡ (get_or vs 0 d).raw
    → same ≡ (same_text (shown_at version name raw) (Some text) || same_text (shown_at version name raw) (spelled_at version name (raw_of name text)))
    → same ≡ shows_already f name text
already_one f name vs d version raw text same held one told bytes is =
    let shows : shown_at version name raw ≡ only_shown f name (f name) =
    ap (λ (n : ℕ). shown_at n name raw) told ∙ ap (shown_at (version_of f) name) bytes ∙ sym (only f name vs d one) ∙ ap (only_shown f name) held in
    let spells : spelled_at version name (raw_of name text) ≡ shown_spelled f name (raw_of name text) = ap (λ (n : ℕ). spelled_at n name (raw_of name text)) told ∙ sym (spelled_is f name (raw_of name text)) in
    is ∙ ap (λ (o : Option (List ℕ)). same_text o (Some text) || same_text o (spelled_at version name (raw_of name text))) shows
    ∙ ap (λ (o : Option (List ℕ)). same_text (only_shown f name (f name)) (Some text) || same_text (only_shown f name (f name)) o) spells

-- The texts that a name shows after an edit, by what the edit does to the name.
use Rattle.std.proofs.Common.{◌≡◌, ℕ, List, [], ◌∷◌, length, replicate, Bool, true, false, cond, refl, sym, ap, ◌∙◌, subst, Option, Some, None, inl, inr}
use Rattle.std.specs.Prelude.{◌||◌, ◌&&◌, ◌==◌, option_map, nat_le, unwrap_or}
use Rattle.std.specs.List.{list_any, filter_map, cons_option}
use Rattle.std.proofs.lemmas.Bool.{cond-true, cond-false}
use Rattle.part_tree.specs.declared.field.BextField.{BextField}
use Rattle.part_tree.specs.declared.field.BextField.TheVariants.{Version}
use Rattle.part_tree.specs.declared.field.Change.{Change}
use Rattle.part_tree.specs.declared.field.Change.TheVariants.{Set, Remove}
use Rattle.part_tree.specs.declared.field.EditItem.{EditItem}
use Rattle.part_tree.specs.declared.field.FieldName.{FieldName}
use Rattle.part_tree.specs.declared.field.FieldName.TheVariants.{Bext, Info, User}
use Rattle.part_tree.specs.declared.field.Form.{Form}
use Rattle.part_tree.specs.declared.field.Form.TheVariants.{Text, Date, Time, Count, Umid, Loudness, Reserved}
use Rattle.part_tree.specs.declared.field.Form.TheVariants as form
use Rattle.part_tree.specs.declared.field.Value.{Value}
use Rattle.part_tree.specs.declared.names.Kind.{Kind}
use Rattle.part_tree.specs.Names.{same_name}
use Rattle.part_tree.proofs.Places.{same_is_equal}
use Rattle.core_edit.specs.Edits.{AreSound, is_empty_set}
use Rattle.field_model.specs.Bext.{form_of, width, blank_form}
use Rattle.field_model.specs.Fields.{FieldMap, plain, version_of}
use Rattle.field_model.specs.Lawful.{BextIsWhole}
use Rattle.field_model.specs.Raw.{raw_of}
use Rattle.field_model.specs.Shown.{before_zero, unless_empty, shown, shown_form, shown_texts}
use Rattle.field_model.specs.Update.{RawItem, has_effect, written, raw_items, listed, updated_values, is_bext, needed, made, raised_form, raised_values, update}
use Rattle.fadgi_rules.specs.Changed.{change_in}
use Rattle.fadgi_rules.specs.Items.{item_tests}
use Rattle.fadgi_rules.specs.Present.{plain_text}
use Rattle.fadgi_rules.proofs.After.{laid, after, values_after}
use Rattle.fadgi_rules.proofs.Least.{item}
use Rattle.fadgi_rules.proofs.Passes.{Passes, EffectsPass}
use Rattle.fadgi_rules.proofs.Spelled.{zeros_empty}

-- ---- the item that changes a name

some_is : (a b : Change) → Some a ≡ Some b → a ≡ b
some_is a b h = ap (λ (o : Option Change). unwrap_or o Remove) h

-- it breaks no rule and sets no empty text
pub record Sound (kind : Kind) (streams : ℕ) (name : FieldName) (change : Change) : Type 0 where
  pub passes : Passes (item_tests kind streams) (item name change)
  pub some : is_empty_set change ≡ false

pub change_sound : (kind : Kind) (streams : ℕ) (f : FieldMap) (e : List EditItem) (name : FieldName) (change : Change) → AreSound e → EffectsPass kind streams f e → change_in f e name ≡ Some change → Sound kind streams name change
change_sound kind streams f [] name change sound pass h = absurd cc
change_sound kind streams f (i ∷ e) name change sound pass h = go (same_name i.name name) (has_effect f i) refl refl h (change_sound kind streams f e name change sound.3 pass.1)
  where
    go : (s b : Bool) → same_name i.name name ≡ s → has_effect f i ≡ b → cond (s && b) (Some i.change) (change_in f e name) ≡ Some change
        → (change_in f e name ≡ Some change → Sound kind streams name change) → Sound kind streams name change
    go true true same acts h rest =
        let is : i.name ≡ name = same_is_equal i.name name same in
        let to : i.change ≡ change = some_is i.change change h in
        let P : FieldName → Type 0 = λ n. Passes (item_tests kind streams) (item n i.change) in
        let Q : Change → Type 0 = λ c. Passes (item_tests kind streams) (item name c) in
        record { passes = subst Q to (subst P is (pass.0 acts)); some = ap is_empty_set (sym to) ∙ sound.1 }
    go false true same acts h rest = rest h
    go true false same acts h rest = rest h
    go false false same acts h rest = rest h

-- ---- the fields of bext

-- items of other names leave the values of a field of bext
untouched : (e : List RawItem) (field : BextField) (vs : List Value) → list_any (λ i. is_bext i.name) e ≡ false → updated_values e (Bext field) vs ≡ vs
untouched [] field vs h = refl
untouched (i ∷ e) field vs h = go (is_bext i.name) refl h (untouched e field vs)
  where
    other : (name : FieldName) → is_bext name ≡ false → same_name name (Bext field) ≡ false
    other (Bext a) h = absurd cc
    other name h = refl

    go : (t : Bool) → is_bext i.name ≡ t → (t || list_any (λ j. is_bext j.name) e) ≡ false → (list_any (λ j. is_bext j.name) e ≡ false → updated_values e (Bext field) vs ≡ vs)
        → updated_values e (Bext field) (cond (same_name i.name (Bext field)) (listed i.value) vs) ≡ vs
    go true is h again = absurd cc
    go false is h again = ap (updated_values e (Bext field)) (cond-false (same_name i.name (Bext field)) (listed i.value) vs (other i.name is)) ∙ again h

-- whether some item with an effect is of bext
abbrev pub touches : FieldMap → List EditItem → Bool
touches f e = list_any (λ i. is_bext i.name) (raw_items f e)

-- the values of a field of bext before the items are laid: raised, or made
abbrev pub ready : FieldMap → List EditItem → BextField → List Value
ready f e field = cond (touches f e) (raised_values (needed (raw_items f e)) (version_of f) field (made f field)) (f (Bext field))

pub bext_after : (f : FieldMap) (e : List EditItem) (field : BextField) → AreSound e → update f e (Bext field) ≡ after (Bext field) (change_in f e (Bext field)) (ready f e field)
bext_after f e field sound = go (touches f e) refl
  where
    all : List Value
    all = raised_values (needed (raw_items f e)) (version_of f) field (made f field)

    go : (t : Bool) → touches f e ≡ t → cond t (updated_values (raw_items f e) (Bext field) all) (f (Bext field)) ≡ after (Bext field) (change_in f e (Bext field)) (cond t all (f (Bext field)))
    go true h = values_after f e (Bext field) all sound
    go false h = sym (untouched (raw_items f e) field (f (Bext field)) h) ∙ values_after f e (Bext field) (f (Bext field)) sound

-- ---- names that show their bytes as a text

abbrev pub TextForm : Form → Type 0
TextForm Text = Unit {0}
TextForm Date = Unit {0}
TextForm Time = Unit {0}
TextForm Count = ⊥
TextForm form.Version = ⊥
TextForm Umid = ⊥
TextForm Loudness = ⊥
TextForm Reserved = ⊥

abbrev pub Texted : FieldName → Type 0
Texted (Bext field) = TextForm (form_of field)
Texted (Info id) = Unit {0}
Texted (User id) = Unit {0}
Texted name = ⊥

form_shows : (form : Form) (version : ℕ) (raw : List ℕ) → TextForm form → shown_form form version raw ≡ unless_empty (before_zero raw)
form_shows Text version raw h = refl
form_shows Date version raw h = refl
form_shows Time version raw h = refl
form_shows Count version raw h = absurd h
form_shows form.Version version raw h = absurd h
form_shows Umid version raw h = absurd h
form_shows Loudness version raw h = absurd h
form_shows Reserved version raw h = absurd h

pub shows_plain : (f : FieldMap) (name : FieldName) (v : Value) → Texted name → shown f name v ≡ plain_text name v.raw
shows_plain f (Bext field) v h = form_shows (form_of field) (version_of f) v.raw h
shows_plain f (Info id) v h = refl
shows_plain f (User id) v h = refl
shows_plain f name v h = absurd h

-- the texts of some values
abbrev pub texts : FieldName → List Value → List (List ℕ)
texts name vs = filter_map (λ v. plain_text name v.raw) vs

all_plain : (f : FieldMap) (name : FieldName) (vs : List Value) → Texted name → filter_map (shown f name) vs ≡ texts name vs
all_plain f name [] h = refl
all_plain f name (v ∷ vs) h =
    ap (λ (o : Option (List ℕ)). cons_option o (filter_map (shown f name) vs)) (shows_plain f name v h) ∙ ap (cons_option (plain_text name v.raw)) (all_plain f name vs h)

pub shown_plain : (f : FieldMap) (name : FieldName) → Texted name → shown_texts f name ≡ texts name (f name)
shown_plain f name h = all_plain f name (f name) h

-- a raise leaves texts
form_kept : (form : Form) (to old : ℕ) (vs : List Value) → TextForm form → raised_form form to old vs ≡ vs
form_kept Text to old vs h = refl
form_kept Date to old vs h = refl
form_kept Time to old vs h = refl
form_kept Count to old vs h = absurd h
form_kept form.Version to old vs h = absurd h
form_kept Umid to old vs h = absurd h
form_kept Loudness to old vs h = absurd h
form_kept Reserved to old vs h = absurd h

raised_kept : (to old : ℕ) (field : BextField) (vs : List Value) → TextForm (form_of field) → raised_values to old field vs ≡ vs
raised_kept to old field vs h = go (nat_le to old)
  where
    go : (t : Bool) → cond t vs (raised_form (form_of field) to old vs) ≡ vs
    go true = refl
    go false = form_kept (form_of field) to old vs h

-- where bext is there it is as it was, and a new one shows nothing
pub made_there : (f : FieldMap) (field : BextField) (v : Value) → f (Bext Version) ≡ v ∷ [] → made f field ≡ f (Bext field)
made_there f field v h = cond-false (length (f (Bext Version)) == 0) _ _ (ap (λ (ws : List Value). length ws == 0) h)

pub made_new : (f : FieldMap) (field : BextField) → f (Bext Version) ≡ [] → made f field ≡ plain (replicate (width field) 0) ∷ []
made_new f field h = cond-true (length (f (Bext Version)) == 0) _ _ (ap (λ (ws : List Value). length ws == 0) h)

made_shows : (f : FieldMap) (field : BextField) → BextIsWhole f → texts (Bext field) (made f field) ≡ texts (Bext field) (f (Bext field))
made_shows f field (inl all) =
    let v = all Version in
    ap (texts (Bext field)) (made_there f field v.0 v.1)
made_shows f field (inr none) =
    ap (texts (Bext field)) (made_new f field (none Version))
    ∙ ap (λ (raw : List ℕ). cons_option (unless_empty raw) []) (zeros_empty (width field))
    ∙ ap (texts (Bext field)) (sym (none field))

ready_shows : (f : FieldMap) (e : List EditItem) (field : BextField) → BextIsWhole f → TextForm (form_of field) → texts (Bext field) (ready f e field) ≡ texts (Bext field) (f (Bext field))
ready_shows f e field lawful h = go (touches f e)
  where
    go : (t : Bool) → texts (Bext field) (cond t (raised_values (needed (raw_items f e)) (version_of f) field (made f field)) (f (Bext field))) ≡ texts (Bext field) (f (Bext field))
    go true = ap (texts (Bext field)) (raised_kept (needed (raw_items f e)) (version_of f) field (made f field) h) ∙ made_shows f field lawful
    go false = refl

-- ---- the texts after an edit

-- a name that no item changes
pub shows_still : (f : FieldMap) (e : List EditItem) (name : FieldName) → BextIsWhole f → AreSound e → Texted name → change_in f e name ≡ None → shown_texts (update f e) name ≡ shown_texts f name
shows_still f e (Bext field) lawful sound h none =
    shown_plain (update f e) (Bext field) h
    ∙ ap (texts (Bext field)) (bext_after f e field sound ∙ ap (λ (c : Option Change). after (Bext field) c (ready f e field)) none)
    ∙ ready_shows f e field lawful h ∙ sym (shown_plain f (Bext field) h)
shows_still f e (Info id) lawful sound h none =
    ap (texts (Info id)) (values_after f e (Info id) (f (Info id)) sound ∙ ap (λ (c : Option Change). after (Info id) c (f (Info id))) none)
shows_still f e (User id) lawful sound h none =
    ap (texts (User id)) (values_after f e (User id) (f (User id)) sound ∙ ap (λ (c : Option Change). after (User id) c (f (User id))) none)
shows_still f e name lawful sound h none = absurd h

-- a name that is removed
blank_shows : (form : Form) (n : ℕ) → TextForm form → unless_empty (before_zero (blank_form form n)) ≡ None
blank_shows Text n h = ap unless_empty (zeros_empty n)
blank_shows Date n h = ap unless_empty (zeros_empty n)
blank_shows Time n h = ap unless_empty (zeros_empty n)
blank_shows Count n h = absurd h
blank_shows form.Version n h = absurd h
blank_shows Umid n h = absurd h
blank_shows Loudness n h = absurd h
blank_shows Reserved n h = absurd h

pub shows_none : (f : FieldMap) (e : List EditItem) (name : FieldName) → AreSound e → Texted name → change_in f e name ≡ Some Remove → shown_texts (update f e) name ≡ []
shows_none f e (Bext field) sound h gone =
    shown_plain (update f e) (Bext field) h
    ∙ ap (texts (Bext field)) (bext_after f e field sound ∙ ap (λ (c : Option Change). after (Bext field) c (ready f e field)) gone)
    ∙ ap (λ (o : Option (List ℕ)). cons_option o []) (blank_shows (form_of field) (width field) h)
shows_none f e (Info id) sound h gone =
    ap (texts (Info id)) (values_after f e (Info id) (f (Info id)) sound ∙ ap (λ (c : Option Change). after (Info id) c (f (Info id))) gone)
shows_none f e (User id) sound h gone =
    ap (texts (User id)) (values_after f e (User id) (f (User id)) sound ∙ ap (λ (c : Option Change). after (User id) c (f (User id))) gone)
shows_none f e name sound h gone = absurd h

-- the values of a name that is set to a text which is laid as some bytes
pub set_value : (f : FieldMap) (e : List EditItem) (name : FieldName) (text raw : List ℕ) → AreSound e → Texted name → change_in f e name ≡ Some (Set text) → raw_of name text ≡ Some raw
    → shown_texts (update f e) name ≡ cons_option (plain_text name raw) []
set_value f e (Bext field) text raw sound h to spelled =
    shown_plain (update f e) (Bext field) h
    ∙ ap (texts (Bext field)) (bext_after f e field sound ∙ ap (λ (c : Option Change). after (Bext field) c (ready f e field)) to ∙ ap (λ (o : Option (List ℕ)). laid (option_map (written (Bext field)) o) (ready f e field)) spelled)
set_value f e (Info id) text raw sound h to spelled =
    ap (texts (Info id)) (values_after f e (Info id) (f (Info id)) sound ∙ ap (λ (c : Option Change). after (Info id) c (f (Info id))) to ∙ ap (λ (o : Option (List ℕ)). laid (option_map (written (Info id)) o) (f (Info id))) spelled)
set_value f e (User id) text raw sound h to spelled =
    ap (texts (User id)) (values_after f e (User id) (f (User id)) sound ∙ ap (λ (c : Option Change). after (User id) c (f (User id))) to ∙ ap (λ (o : Option (List ℕ)). laid (option_map (written (User id)) o) (f (User id))) spelled)
set_value f e name text raw sound h to spelled = absurd h

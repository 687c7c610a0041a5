-- Fields made, raised and laid one after the other are the fields after the edit, and stay lawful.
use Rattle.std.proofs.Common.{◌≡◌, ℕ, zero, suc, ◌+◌, ◌<◌, ◌≤◌, List, [], ◌∷◌, length, get_or, replicate, Bool, true, false, ◌==◌, refl, sym, ap, ◌∙◌, arith, inl, inr, subst, Option, Some, None, if◌then◌else◌, nat_le, nat_lt, ltb-false, true≢false, Result, Ok, Err, IfOk, OnOk}
use Rattle.std.proofs.lemmas.Bool.{cond-true, cond-false, eqb-true, eq-eqb, lt-ltb, le-ltb, ltb-true, or_parts}
use Rattle.std.specs.List.{AllByRecursion}
use Rattle.std.specs.Str.{bytes_eq}
use Rattle.std.proofs.lemmas.List.{length-replicate}
use Rattle.me_bytes.specs.Bytes.{le_bytes}
use Rattle.me_bytes.proofs.Laws.{length-le_bytes}
use Rattle.part_tree.specs.declared.field.BextField.{BextField}
use Rattle.part_tree.specs.declared.field.BextField.TheVariants.{Description, Originator, OriginatorReference, OriginationDate, OriginationTime, TimeReference, Version, Umid, LoudnessValue, LoudnessRange, MaxTruePeakLevel, MaxMomentaryLoudness, MaxShortTermLoudness, Reserved, CodingHistory}
use Rattle.part_tree.specs.declared.field.FieldName.{FieldName}
use Rattle.part_tree.specs.declared.field.FieldName.TheVariants.{Bext, Info, Whole, User, Key, Stream}
use Rattle.part_tree.specs.declared.field.Value.{Value}
use Rattle.part_tree.specs.declared.fields.Entry.{Entry}
use Rattle.part_tree.specs.Fields.{Replaces, values}
use Rattle.part_tree.specs.Fields as entries
use Rattle.part_tree.specs.Names.{bext_row, same_name}
use Rattle.part_tree.proofs.Places.{row_injective, row_small, same_is_equal}
use Rattle.field_model.specs.Bext.{form_of, no_loudness, width}
use Rattle.field_model.specs.Body.{FillsRange, FitBext, FitsBext}
use Rattle.field_model.specs.Fields.{FieldMap, plain, version_of}
use Rattle.field_model.specs.Lawful.{BextIsWhole, FitKeys, FitsKey, HasKeyHead, IsLawful}
use Rattle.field_model.specs.Update.{RawItem, is_bext, listed, made, needed, raised_form, raised_values, updated, updated_values}
use Rattle.core_edit.specs.declared.apply.TheConstants.{FIELDS}
use Rattle.core_edit.specs.Updates.{names_bext, prepared}

-- ---- the table

-- each field stands at its number
pub field_row : (k : ℕ) (d : BextField) → k < 15 → bext_row (get_or FIELDS k d) ≡ k
field_row zero d h = refl
field_row (suc zero) d h = refl
field_row (suc (suc zero)) d h = refl
field_row (suc (suc (suc zero))) d h = refl
field_row (suc (suc (suc (suc zero)))) d h = refl
field_row (suc (suc (suc (suc (suc zero))))) d h = refl
field_row (suc (suc (suc (suc (suc (suc zero)))))) d h = refl
field_row (suc (suc (suc (suc (suc (suc (suc zero))))))) d h = refl
field_row (suc (suc (suc (suc (suc (suc (suc (suc zero)))))))) d h = refl
field_row (suc (suc (suc (suc (suc (suc (suc (suc (suc zero))))))))) d h = refl
field_row (suc (suc (suc (suc (suc (suc (suc (suc (suc (suc zero)))))))))) d h = refl
field_row (suc (suc (suc (suc (suc (suc (suc (suc (suc (suc (suc zero))))))))))) d h = refl
field_row (suc (suc (suc (suc (suc (suc (suc (suc (suc (suc (suc (suc zero)))))))))))) d h = refl
field_row (suc (suc (suc (suc (suc (suc (suc (suc (suc (suc (suc (suc (suc zero))))))))))))) d h = refl
field_row (suc (suc (suc (suc (suc (suc (suc (suc (suc (suc (suc (suc (suc (suc zero)))))))))))))) d h = refl
field_row (suc (suc (suc (suc (suc (suc (suc (suc (suc (suc (suc (suc (suc (suc (suc k))))))))))))))) d h = absurd (omega arith)

-- ---- the fields of bext before the items

-- the first k fields of bext have these values, and all other fields what they had
pub record AreRaised (f : FieldMap) (raised : BextField → List Value) (k : ℕ) (es : List Entry) : Type 0 where
  pub rows : (field : BextField) → values es (Bext field) ≡ (if nat_lt (bext_row field) k then raised field else f (Bext field))
  pub others : (name : FieldName) → is_bext name ≡ false → values es name ≡ f name

pub none_raised : (es : List Entry) (raised : BextField → List Value) → AreRaised (values es) raised 0 es
none_raised es raised = record { rows = λ field. sym (cond-false (nat_lt (bext_row field) 0) (raised field) (values es (Bext field)) (le-ltb (bext_row field) 0 (omega arith))); others = λ name other. refl }

more : (row k : ℕ) → (row ≡ k → ⊥) → nat_lt row k ≡ nat_lt row (k + 1)
more row k other = go (nat_lt row k) refl
  where
    go : (t : Bool) → nat_lt row k ≡ t → t ≡ nat_lt row (k + 1)
    go true h = sym (lt-ltb row (k + 1) (omega (arith, ltb-true row k h)))
    go false h = sym (le-ltb row (k + 1) (omega (arith, other, ltb-false row k h)))

pub raised_more : (f : FieldMap) (raised : BextField → List Value) (k : ℕ) (old new : List Entry) (this : BextField) (v : Value)
    → bext_row this ≡ k → raised this ≡ v ∷ [] → Replaces old new (Bext this) (v ∷ []) → AreRaised f raised k old → AreRaised f raised (k + 1) new
raised_more f raised k old new this v row is puts before = record {
  rows = λ field. at field (bext_row this == bext_row field) refl;
  others = λ name other. puts.others name (not_bext name other) ∙ before.others name other;
}
  where
    not_bext : (name : FieldName) → is_bext name ≡ false → same_name (Bext this) name ≡ false
    not_bext (Bext field) h = absurd cc
    not_bext name h = refl

    at : (field : BextField) (t : Bool) → (bext_row this == bext_row field) ≡ t → values new (Bext field) ≡ (if nat_lt (bext_row field) (k + 1) then raised field else f (Bext field))
    at field true h =
        let same : this ≡ field = row_injective this field (eqb-true (bext_row this) (bext_row field) h) in
        let low : nat_lt (bext_row field) (k + 1) ≡ true = lt-ltb (bext_row field) (k + 1) (omega (arith, row, eqb-true (bext_row this) (bext_row field) h)) in
        subst (λ (b : BextField). values new (Bext b) ≡ raised b) same (puts.only ∙ sym is) ∙ sym (cond-true (nat_lt (bext_row field) (k + 1)) (raised field) (f (Bext field)) low)
    at field false h =
        let other : bext_row field ≡ k → ⊥ = λ e. true≢false (sym (eq-eqb (bext_row this) (bext_row field) (row ∙ sym e)) ∙ h) in
        puts.others (Bext field) h ∙ before.rows field ∙ ap (λ (t : Bool). if t then raised field else f (Bext field)) (more (bext_row field) k other)

-- where all are raised, bext is prepared
pub all_raised : (f : FieldMap) (e : List RawItem) (k to : ℕ) (es : List Entry) → 15 ≤ k → names_bext e ≡ true → to ≡ needed e
    → AreRaised f (λ field. raised_values to (version_of f) field (made f field)) k es → (name : FieldName) → values es name ≡ prepared e f name
all_raised f e k to es past some version are (Bext field) =
    are.rows field ∙ cond-true (nat_lt (bext_row field) k) _ _ (lt-ltb (bext_row field) k (omega (arith, past, row_small field)))
    ∙ ap (λ (n : ℕ). raised_values n (version_of f) field (made f field)) version ∙ sym (cond-true (names_bext e) _ _ some)
all_raised f e k to es past some version are (Info id) = are.others (Info id) refl
all_raised f e k to es past some version are (Whole id) = are.others (Whole id) refl
all_raised f e k to es past some version are (User id) = are.others (User id) refl
all_raised f e k to es past some version are (Key name) = are.others (Key name) refl
all_raised f e k to es past some version are (Stream n) = are.others (Stream n) refl

pub none_named : (f : FieldMap) (e : List RawItem) → names_bext e ≡ false → (name : FieldName) → f name ≡ prepared e f name
none_named f e none (Bext field) = sym (cond-false (names_bext e) _ _ none)
none_named f e none (Info id) = refl
none_named f e none (Whole id) = refl
none_named f e none (User id) = refl
none_named f e none (Key name) = refl
none_named f e none (Stream n) = refl

-- ---- the value that is made

pub made_held : (f : FieldMap) (field : BextField) (vs : List Value) (d : Value) → BextIsWhole f → vs ≡ f (Bext field) → 1 ≤ length vs → made f field ≡ get_or vs 0 d ∷ []
made_held f field vs d (inl all) same some =
    let one = all field in
    ap (λ (ws : List Value). if length ws == 0 then plain (replicate (width field) 0) ∷ [] else f (Bext field)) (all Version).1
    ∙ one.1 ∙ ap (λ (ws : List Value). get_or ws 0 d ∷ []) (sym (same ∙ one.1))
made_held f field vs d (inr none) same some = absurd (omega (arith, some, ap length (same ∙ none field)))

pub made_none : (f : FieldMap) (field : BextField) (vs : List Value) → BextIsWhole f → vs ≡ f (Bext field) → length vs < 1 → made f field ≡ plain (replicate (width field) 0) ∷ []
made_none f field vs (inl all) same none = absurd (omega (arith, none, ap length (same ∙ (all field).1)))
made_none f field vs (inr none) same few = ap (λ (ws : List Value). if length ws == 0 then plain (replicate (width field) 0) ∷ [] else f (Bext field)) (none Version)

pub one_copied : {E : Type 0} (r : Result Value E) (x : Value) → IfOk r (λ v. v ≡ x) → IfOk r (λ v. x ∷ [] ≡ v ∷ [])
one_copied (Ok v) x h = ap (λ (w : Value). w ∷ []) (sym h)
one_copied (Err e) x h = tt

-- ---- the items

pub on_ok : {X E : Type 0} (r : Result X E) (A B : Type 0) → (A → B) → OnOk r A → OnOk r B
on_ok (Ok x) A B f h = f h
on_ok (Err e) A B f h = tt

listed_is : (value : Option Value) → entries.listed value ≡ listed value
listed_is None = refl
listed_is (Some v) = refl

-- what a name has after one item
pub put_is : (old new : List Entry) (item : FieldName) (copy value : Option Value) → copy ≡ value → Replaces old new item (entries.listed copy)
    → (name : FieldName) → values new name ≡ (if same_name item name then listed value else values old name)
put_is old new item copy value same puts name = go (same_name item name) refl
  where
    go : (t : Bool) → same_name item name ≡ t → values new name ≡ (if t then listed value else values old name)
    go true h = subst (λ (n : FieldName). values new n ≡ listed value) (same_is_equal item name h) (puts.only ∙ ap entries.listed same ∙ listed_is value)
    go false h = puts.others name h

no_bext : (e : List RawItem) (field : BextField) (vs : List Value) → names_bext e ≡ false → updated_values e (Bext field) vs ≡ vs
no_bext [] field vs h = refl
no_bext (i ∷ e) field vs h =
    let z = or_parts (is_bext i.name) (names_bext e) h in
    ap (updated_values e (Bext field)) (cond-false (same_name i.name (Bext field)) _ _ (not_bext i.name z.0)) ∙ no_bext e field vs z.1
  where
    not_bext : (name : FieldName) → is_bext name ≡ false → same_name name (Bext field) ≡ false
    not_bext (Bext other) h = absurd cc
    not_bext name h = refl

-- the items laid over the prepared fields are the fields after the edit
pub laid_is_updated : (f : FieldMap) (e : List RawItem) (name : FieldName) → updated_values e name (prepared e f name) ≡ updated e f name
laid_is_updated f e (Bext field) = go (names_bext e) refl
  where
    go : (t : Bool) → names_bext e ≡ t
        → updated_values e (Bext field) (if t then raised_values (needed e) (version_of f) field (made f field) else f (Bext field))
        ≡ (if t then updated_values e (Bext field) (raised_values (needed e) (version_of f) field (made f field)) else f (Bext field))
    go true h = refl
    go false h = no_bext e field (f (Bext field)) h
laid_is_updated f e (Info id) = refl
laid_is_updated f e (Whole id) = refl
laid_is_updated f e (User id) = refl
laid_is_updated f e (Key name) = refl
laid_is_updated f e (Stream n) = refl

-- what the items make of prepared fields is what the edit makes
pub all_put : (f g h : FieldMap) (first second e : List RawItem) → first ≡ e → second ≡ e → ((name : FieldName) → g name ≡ prepared first f name)
    → ((name : FieldName) → h name ≡ updated_values second name (g name)) → (name : FieldName) → h name ≡ updated e f name
all_put f g h first second e one two before after name =
    after name ∙ ap (λ (d : List RawItem). updated_values d name (g name)) two ∙ ap (updated_values e name) (before name ∙ ap (λ (d : List RawItem). prepared d f name) one) ∙ laid_is_updated f e name

-- ---- lawful

-- one value, which fills the range of a field
abbrev OneFills : BextField → List Value → Type 0
OneFills field vs = (v : Value) × (vs ≡ v ∷ []) × FillsRange field v.raw

made_one : (f : FieldMap) (field : BextField) → BextIsWhole f → OneFills field (made f field)
made_one f field (inl all) = subst (OneFills field) (sym (ap (λ (ws : List Value). if length ws == 0 then plain (replicate (width field) 0) ∷ [] else f (Bext field)) (all Version).1)) (all field)
made_one f field (inr none) =
    subst (OneFills field) (sym (ap (λ (ws : List Value). if length ws == 0 then plain (replicate (width field) 0) ∷ [] else f (Bext field)) (none Version)))
    (plain (replicate (width field) 0), refl, inr (length-replicate (width field) 0))

either : (field : BextField) (raw : List ℕ) (vs : List Value) (t : Bool) → FillsRange field raw → OneFills field vs → OneFills field (if t then plain raw ∷ [] else vs)
either field raw vs true fills one = (plain raw, refl, fills)
either field raw vs false fills one = one

form_one : (to old : ℕ) (field : BextField) (vs : List Value) → OneFills field vs → OneFills field (raised_form (form_of field) to old vs)
form_one to old Description vs one = one
form_one to old Originator vs one = one
form_one to old OriginatorReference vs one = one
form_one to old OriginationDate vs one = one
form_one to old OriginationTime vs one = one
form_one to old TimeReference vs one = one
form_one to old Version vs one = (plain (le_bytes 2 to), refl, inr (length-le_bytes 2 to))
form_one to old Umid vs one = either Umid (replicate 64 0) vs (old == 0) (inr refl) one
form_one to old LoudnessValue vs one = either LoudnessValue no_loudness vs (to == 2) (inr refl) one
form_one to old LoudnessRange vs one = either LoudnessRange no_loudness vs (to == 2) (inr refl) one
form_one to old MaxTruePeakLevel vs one = either MaxTruePeakLevel no_loudness vs (to == 2) (inr refl) one
form_one to old MaxMomentaryLoudness vs one = either MaxMomentaryLoudness no_loudness vs (to == 2) (inr refl) one
form_one to old MaxShortTermLoudness vs one = either MaxShortTermLoudness no_loudness vs (to == 2) (inr refl) one
form_one to old Reserved vs one = one
form_one to old CodingHistory vs one = one

raised_one : (to old : ℕ) (field : BextField) (vs : List Value) → OneFills field vs → OneFills field (raised_values to old field vs)
raised_one to old field vs one = go (nat_le to old)
  where
    go : (t : Bool) → OneFills field (if t then vs else raised_form (form_of field) to old vs)
    go true = one
    go false = form_one to old field vs one

item_one : (name : FieldName) (value : Option Value) (field : BextField) (vs : List Value) → FitsBext name value → OneFills field vs → OneFills field (if same_name name (Bext field) then listed value else vs)
item_one (Bext a) None field vs fits one = absurd fits
item_one (Bext a) (Some v) field vs fits one = go (bext_row a == bext_row field) refl
  where
    go : (t : Bool) → (bext_row a == bext_row field) ≡ t → OneFills field (if t then v ∷ [] else vs)
    go true h = (v, refl, subst (λ (b : BextField). FillsRange b v.raw) (row_injective a field (eqb-true (bext_row a) (bext_row field) h)) fits.1)
    go false h = one
item_one (Info id) value field vs fits one = one
item_one (Whole id) value field vs fits one = one
item_one (User id) value field vs fits one = one
item_one (Key name) value field vs fits one = one
item_one (Stream n) value field vs fits one = one

values_one : (e : List RawItem) (field : BextField) (vs : List Value) → FitBext e → OneFills field vs → OneFills field (updated_values e (Bext field) vs)
values_one [] field vs fit one = one
values_one (i ∷ e) field vs fit one = values_one e field (if same_name i.name (Bext field) then listed i.value else vs) fit.1 (item_one i.name i.value field vs fit.0 one)

updated_whole : (f : FieldMap) (e : List RawItem) → BextIsWhole f → FitBext e → (t : Bool) → names_bext e ≡ t → BextIsWhole (updated e f)
updated_whole f e lawful fit true h =
    inl (λ field. subst (OneFills field) (sym (cond-true (names_bext e) _ _ h)) (values_one e field _ fit (raised_one (needed e) (version_of f) field (made f field) (made_one f field lawful))))
updated_whole f e (inl all) fit false h = inl (λ field. subst (OneFills field) (sym (cond-false (names_bext e) _ _ h)) (all field))
updated_whole f e (inr none) fit false h = inr (λ field. cond-false (names_bext e) _ _ h ∙ none field)

-- each of some values has its type and its locale
abbrev HaveHeads : List Value → Type 0
HaveHeads vs = AllByRecursion HasKeyHead vs

item_has_heads : (name : FieldName) (value : Option Value) (key : List ℕ) (vs : List Value) → FitsKey name value → HaveHeads vs → HaveHeads (if same_name name (Key key) then listed value else vs)
item_has_heads (Key a) None key vs fits have = go (bytes_eq a key)
  where
    go : (t : Bool) → HaveHeads (if t then [] else vs)
    go true = tt
    go false = have
item_has_heads (Key a) (Some v) key vs fits have = go (bytes_eq a key)
  where
    go : (t : Bool) → HaveHeads (if t then v ∷ [] else vs)
    go true = (fits, tt)
    go false = have
item_has_heads (Bext field) value key vs fits have = have
item_has_heads (Info id) value key vs fits have = have
item_has_heads (Whole id) value key vs fits have = have
item_has_heads (User id) value key vs fits have = have
item_has_heads (Stream n) value key vs fits have = have

values_have_heads : (e : List RawItem) (key : List ℕ) (vs : List Value) → FitKeys e → HaveHeads vs → HaveHeads (updated_values e (Key key) vs)
values_have_heads [] key vs fit have = have
values_have_heads (i ∷ e) key vs fit have = values_have_heads e key (if same_name i.name (Key key) then listed i.value else vs) fit.1 (item_has_heads i.name i.value key vs fit.0 have)

-- fields that are those after the edit are lawful
pub lawful_after : (f g : FieldMap) (e : List RawItem) → IsLawful f → FitBext e → FitKeys e → ((name : FieldName) → g name ≡ updated e f name) → IsLawful g
lawful_after f g e lawful fit keys same = record {
  bext = go (updated_whole f e lawful.bext fit (names_bext e) refl);
  keys = λ name. subst HaveHeads (sym (same (Key name))) (values_have_heads e name (f (Key name)) keys (lawful.keys name));
}
  where
    go : BextIsWhole (updated e f) → BextIsWhole g
    go (inl all) = inl (λ field. subst (OneFills field) (sym (same (Bext field))) (all field))
    go (inr none) = inr (λ field. same (Bext field) ∙ none field)

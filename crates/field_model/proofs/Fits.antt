-- The bytes that a text is laid as in `bext` fill the field's range.
use Rattle.std.proofs.Common.{◌≡◌, ℕ, zero, suc, ◌+◌, ◌-◌, List, [], ◌∷◌, ◌++◌, length, take, drop, replicate, refl, sym, ap, ◌∙◌, arith, subst, nat_le, if◌then◌else◌, Bool, true, false, inl, inr, Option, Some, None, codes}
use Rattle.std.specs.Prelude.{unwrap_or, option_map}
use Rattle.std.specs.List.{filter_map, cons_option}
use Rattle.std.proofs.lemmas.Bool.{leb-true, and_parts, eqb-true}
use Rattle.std.proofs.lemmas.List.{length-append, length-take, length-drop, length-replicate}
use Rattle.me_bytes.specs.Bytes.{le_bytes}
use Rattle.me_bytes.proofs.Laws.{length-le_bytes}
use Rattle.part_tree.specs.declared.field.BextField.{BextField}
use Rattle.part_tree.specs.declared.field.BextField.TheVariants.{Description, Originator, OriginatorReference, OriginationDate, OriginationTime, TimeReference, Version, Umid, LoudnessValue, LoudnessRange, MaxTruePeakLevel, MaxMomentaryLoudness, MaxShortTermLoudness, Reserved, CodingHistory}
use Rattle.part_tree.specs.declared.field.Change.{Change}
use Rattle.part_tree.specs.declared.field.Change.TheVariants.{Set, Remove}
use Rattle.part_tree.specs.declared.field.EditItem.{EditItem}
use Rattle.part_tree.specs.declared.field.FieldName.{FieldName}
use Rattle.part_tree.specs.declared.field.FieldName.TheVariants.{Bext, Info, Whole, User, Key, Stream}
use Rattle.field_model.specs.Bext.{blank}
use Rattle.field_model.specs.Body.{FillsRange, FitsBext, FitBext}
use Rattle.field_model.specs.Dates.{fits, has_form, is_date, is_time, spelled_date, spelled_time}
use Rattle.field_model.specs.Fields.{FieldMap}
use Rattle.field_model.specs.Numbers.{is_hex, hex_bytes}
use Rattle.field_model.specs.Raw.{raw_of}
use Rattle.field_model.specs.Update.{RawItem, written, raw_change, raw_item, raw_items, effective}

some_is : (a b : List ℕ) → Some a ≡ Some b → a ≡ b
some_is a b h = ap (λ (o : Option (List ℕ)). unwrap_or o []) h

-- what is given where a test holds
given : (t : Bool) (a b : List ℕ) → (if t then Some a else None) ≡ Some b → (t ≡ true) × (a ≡ b)
given true a b h = (refl, some_is a b h)
given false a b h = absurd cc

mapped : (n : ℕ) (o : Option ℕ) (raw : List ℕ) → option_map (le_bytes n) o ≡ Some raw → length raw ≡ n
mapped n None raw h = absurd cc
mapped n (Some x) raw h = ap length (sym (some_is (le_bytes n x) raw h)) ∙ length-le_bytes n x

-- a text of a form has its length
pub form_length : (form text : List ℕ) → has_form form text ≡ true → length text ≡ length form
form_length [] [] h = refl
form_length [] (x ∷ xs) h = absurd cc
form_length (f ∷ fs) [] h = absurd cc
form_length (f ∷ fs) (x ∷ xs) h = omega (arith, form_length fs xs (and_parts (fits f x) (has_form fs xs) h).1)

text_width : (w : ℕ) (text raw : List ℕ) → (if nat_le (length text) w then Some (text ++ replicate (w - length text) 0) else None) ≡ Some raw → length raw ≡ w
text_width w text raw h =
    let z = given (nat_le (length text) w) (text ++ replicate (w - length text) 0) raw h in
    ap length (sym z.1) ∙ omega (arith, leb-true (length text) w z.0, length-append text (replicate (w - length text) 0), length-replicate {A = ℕ} (w - length text) 0)

date_width : (text raw : List ℕ) → (if is_date text then Some (spelled_date text) else None) ≡ Some raw → length raw ≡ 10
date_width text raw h =
    let z = given (is_date text) (spelled_date text) raw h in
    let n : length text ≡ 10 = form_length (codes "ddddsddsdd") text (and_parts _ _ z.0).0 in
    ap length (sym z.1) ∙ omega (arith, n, length-append (take 4 text) (codes "-" ++ (take 2 (drop 5 text) ++ (codes "-" ++ take 2 (drop 8 text)))), length-append (take 2 (drop 5 text)) (codes "-" ++ take 2 (drop 8 text)), length-take 4 text, length-take 2 (drop 5 text), length-drop 5 text, length-take 2 (drop 8 text), length-drop 8 text)

time_width : (text raw : List ℕ) → (if is_time text then Some (spelled_time text) else None) ≡ Some raw → length raw ≡ 8
time_width text raw h =
    let z = given (is_time text) (spelled_time text) raw h in
    let n : length text ≡ 8 = form_length (codes "ddsddsdd") text (and_parts _ _ z.0).0 in
    ap length (sym z.1) ∙ omega (arith, n, length-append (take 2 text) (codes ":" ++ (take 2 (drop 3 text) ++ (codes ":" ++ take 2 (drop 6 text)))), length-append (take 2 (drop 3 text)) (codes ":" ++ take 2 (drop 6 text)), length-take 2 text, length-take 2 (drop 3 text), length-drop 3 text, length-take 2 (drop 6 text), length-drop 6 text)

hex_length : (n : ℕ) (text : List ℕ) → length text ≡ n + n → length (hex_bytes text) ≡ n
hex_length zero [] h = refl
hex_length (suc n) [] h = absurd (omega (arith, h))
hex_length n (a ∷ []) h = absurd (omega (arith, h))
hex_length zero (a ∷ b ∷ text) h = absurd (omega (arith, h))
hex_length (suc n) (a ∷ b ∷ text) h = omega (arith, hex_length n text (omega (arith, h)))

umid_width : (text raw : List ℕ) → (if is_hex 128 text then Some (hex_bytes text) else None) ≡ Some raw → length raw ≡ 64
umid_width text raw h =
    let z = given (is_hex 128 text) (hex_bytes text) raw h in
    ap length (sym z.1) ∙ hex_length 64 text (eqb-true (length text) 128 (and_parts _ _ z.0).0)

pub raw_fills : (field : BextField) (text raw : List ℕ) → raw_of (Bext field) text ≡ Some raw → FillsRange field raw
raw_fills Description text raw h = inr (text_width 256 text raw h)
raw_fills Originator text raw h = inr (text_width 32 text raw h)
raw_fills OriginatorReference text raw h = inr (text_width 32 text raw h)
raw_fills OriginationDate text raw h = inr (date_width text raw h)
raw_fills OriginationTime text raw h = inr (time_width text raw h)
raw_fills TimeReference text raw h = inr (mapped 8 _ raw h)
raw_fills Version text raw h = absurd cc
raw_fills Umid text raw h = inr (umid_width text raw h)
raw_fills LoudnessValue text raw h = inr (mapped 2 _ raw h)
raw_fills LoudnessRange text raw h = inr (mapped 2 _ raw h)
raw_fills MaxTruePeakLevel text raw h = inr (mapped 2 _ raw h)
raw_fills MaxMomentaryLoudness text raw h = inr (mapped 2 _ raw h)
raw_fills MaxShortTermLoudness text raw h = inr (mapped 2 _ raw h)
raw_fills Reserved text raw h = absurd cc
raw_fills CodingHistory text raw h = inl refl

pub blank_fills : (field : BextField) → FillsRange field (blank field)
blank_fills Description = inr refl
blank_fills Originator = inr refl
blank_fills OriginatorReference = inr refl
blank_fills OriginationDate = inr refl
blank_fills OriginationTime = inr refl
blank_fills TimeReference = inr refl
blank_fills Version = inr refl
blank_fills Umid = inr refl
blank_fills LoudnessValue = inr refl
blank_fills LoudnessRange = inr refl
blank_fills MaxTruePeakLevel = inr refl
blank_fills MaxMomentaryLoudness = inr refl
blank_fills MaxShortTermLoudness = inr refl
blank_fills Reserved = inr refl
blank_fills CodingHistory = inl refl

-- what an item gives, put before items that fit
abbrev Joins : List RawItem → Option RawItem → Type 0
Joins e o = FitBext (cons_option o e)

written_fits : (name : FieldName) (text raw : List ℕ) → raw_of name text ≡ Some raw → FitsBext (written name raw).name (written name raw).value
written_fits (Bext field) text raw h = (refl, raw_fills field text raw h)
written_fits (Info id) text raw h = tt
written_fits (Whole id) text raw h = tt
written_fits (User id) text raw h = tt
written_fits (Key name) text raw h = tt
written_fits (Stream n) text raw h = tt

set_fits : (name : FieldName) (text : List ℕ) (e : List RawItem) → FitBext e → (o : Option (List ℕ)) → raw_of name text ≡ o → Joins e (raw_change name (Set text))
set_fits name text e fit None h = let P : Option (List ℕ) → Type 0 = λ o. Joins e (option_map (written name) o) in subst P (sym h) fit
set_fits name text e fit (Some raw) h = let P : Option (List ℕ) → Type 0 = λ o. Joins e (option_map (written name) o) in subst P (sym h) (written_fits name text raw h, fit)

change_fits : (name : FieldName) (change : Change) (e : List RawItem) → FitBext e → Joins e (raw_change name change)
change_fits name (Set text) e fit = set_fits name text e fit (raw_of name text) refl
change_fits (Bext field) Remove e fit = ((refl, blank_fills field), fit)
change_fits (Info id) Remove e fit = (tt, fit)
change_fits (Whole id) Remove e fit = (tt, fit)
change_fits (User id) Remove e fit = (tt, fit)
change_fits (Key name) Remove e fit = (tt, fit)
change_fits (Stream n) Remove e fit = (tt, fit)

all_fit : (items : List EditItem) → FitBext (filter_map raw_item items)
all_fit [] = tt
all_fit (i ∷ items) = change_fits i.name i.change (filter_map raw_item items) (all_fit items)

-- the items of an edit, in raw bytes, fit the ranges of bext
pub raw_items_fit : (f : FieldMap) (e : List EditItem) → FitBext (raw_items f e)
raw_items_fit f e = all_fit (effective f e)

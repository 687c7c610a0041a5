-- The field that a text names has that text, and the other way round.
use Rattle.std.proofs.Common.{◌≡◌, ℕ, zero, suc, ◌^◌, ◌<◌, List, [], ◌∷◌, ◌++◌, length, get_or, take, drop, Bool, true, false, ◌&&◌, ◌||◌, not, ◌==◌, Option, Some, None, refl, sym, ap, ◌∙◌, subst, cond, arith, rules, inl, inr, ne_eqb}
use Rattle.std.specs.Prelude.{◌⊎◌, codes, decimal, find, nat_lt, option_map}
use Rattle.std.specs.Char.{is_ascii_digit}
use Rattle.std.specs.List.{AllByRecursion, list_all, list_any}
use Rattle.std.specs.Str.{bytes_eq}
use Rattle.std.specs.Str.Parse.{digits_value}
use Rattle.std.proofs.lemmas.Bool.{and_parts, cond-true, ltb-true, eqb-true, lt-ltb, and_from, false≢true}
use Rattle.std.proofs.lemmas.Fmt.{decimal-digits_value, digits_decimal, digits_value-decimal, decimal_nonempty, first_decimal, decimal_digit}
use Rattle.std.proofs.lemmas.Str.Parse.{IsNumeralModel, numerals_by_value}
use Rattle.part_tree.specs.declared.field.BextField.{BextField}
use Rattle.part_tree.specs.declared.field.BextField.TheVariants.{Description, Originator, OriginatorReference, OriginationDate, OriginationTime, TimeReference, Version, Umid, LoudnessValue, LoudnessRange, MaxTruePeakLevel, MaxMomentaryLoudness, MaxShortTermLoudness, Reserved, CodingHistory}
use Rattle.part_tree.specs.declared.field.FieldName.{FieldName}
use Rattle.part_tree.specs.declared.field.FieldName.TheVariants.{Bext, Info, Whole, User, Key, Stream}
use Rattle.part_tree.specs.declared.names.FourCc.{FourCc}
use Rattle.part_tree.specs.Keys.{is_key_name}
use Rattle.part_tree.specs.Letters.{four}
use Rattle.part_tree.specs.Names.{field_names, info_ids, is_field_name, is_user_type, whole_ids}
use Rattle.part_tree.proofs.Places.{bytes_same}
use Rattle.field_model.specs.Numbers.{is_numeral, number_below}
use Rattle.field_model.specs.Texts.{bext_text, field_name, is_text, key_name, name_text, or_name, stream_name, text_of, user_name, user_type, whole_text}

abbrev some_or : {X : Type 0} → X → Option X → X
some_or d None = d
some_or d (Some x) = x

some_same : {X : Type 0} {x y : X} → Some x ≡ Some y → x ≡ y
some_same {X} {x} {y} e = ap (some_or x) e

-- ---- the first that passes

found_passes : {X : Type 0} (p : X → Bool) (xs : List X) (x : X) → find p xs ≡ Some x → p x ≡ true
found_passes p [] x h = absurd cc
found_passes {X} p (y ∷ ys) x h = go (p y) refl (found_passes p ys x) h
  where
    go : (t : Bool) → p y ≡ t → (find p ys ≡ Some x → p x ≡ true) → cond t (Some y) (find p ys) ≡ Some x → p x ≡ true
    go true e more h = subst (λ (z : X). p z ≡ true) (some_same h) e
    go false e more h = more h

is_this : (text : List ℕ) (o : Option (List ℕ)) → is_text text o ≡ true → o ≡ Some text
is_this text None h = absurd cc
is_this text (Some t) h = ap Some (bytes_same t text h)

-- ---- digits

own : IsNumeralModel (λ ds. list_all is_ascii_digit ds ≡ true) (digits_value 10)
own = numerals_by_value (λ ds. list_all is_ascii_digit ds ≡ true) (search rules)

suc_zero : (n : ℕ) → (suc n == 0) ≡ false
suc_zero n = ne_eqb (suc n) 0 (λ e. absurd (omega (arith, e)))

one_of : (x : ℕ) (xs : List ℕ) → ((length xs == 0) || not (x == 48)) ≡ true → x ≡ 48 → length (x ∷ xs) ≡ 1
one_of x [] h e = refl
one_of x (y ∷ xs) h e = absurd (false≢true (ap (λ (n : ℕ). not (n == 48)) (sym e) ∙ ap (λ (t : Bool). t || not (x == 48)) (sym (suc_zero (length xs))) ∙ h))

-- a decimal number without leading zeros is the text of its number
written : (text : List ℕ) → is_numeral text ≡ true → digits_value 10 text < 2 ^ 32 → decimal (digits_value 10 text) ≡ text
written [] h small = absurd cc
written (x ∷ xs) h small =
    let parts = and_parts (list_all is_ascii_digit (x ∷ xs)) ((length xs == 0) || not (x == 48)) h in
    decimal-digits_value own (x ∷ xs) parts.0 (omega arith) (λ e. one_of x xs parts.1 e) (omega (arith, small))

-- ---- from a text to the name

if_some : {X : Type 0} (t : Bool) (x y : X) → cond t (Some x) None ≡ Some y → (t ≡ true) × (x ≡ y)
if_some true x y h = (refl, some_same h)
if_some false x y h = absurd cc

-- a text that begins with these letters is they and the rest
begins : (front text : List ℕ) → bytes_eq (take (length front) text) front ≡ true → front ++ drop (length front) text ≡ text
begins [] text h = refl
begins (x ∷ front) [] h = absurd cc
begins (x ∷ front) (y ∷ text) h =
    let parts = and_parts (y == x) (bytes_eq (take (length front) text) front) h in
    let same : y ≡ x = eqb-true y x parts.0 in
    ap (λ (z : ℕ). z ∷ (front ++ drop (length front) text)) (sym same) ∙ ap (λ (r : List ℕ). y ∷ r) (begins front text parts.1)

user_told : (text : List ℕ) (name : FieldName) → user_name text ≡ Some name → name_text name ≡ Some text
user_told text name h =
    let got = if_some (bytes_eq (take 1 text) (codes "@") && is_user_type (user_type text)) (User (four (user_type text))) name h in
    let parts = and_parts (bytes_eq (take 1 text) (codes "@")) (is_user_type (user_type text)) got.0 in
    ap name_text (sym got.1) ∙ cond-true (is_user_type (user_type text)) (Some (64 ∷ drop 1 text)) None parts.1 ∙ ap Some (begins (64 ∷ []) text parts.0)

key_told : (text : List ℕ) (name : FieldName) → key_name text ≡ Some name → name_text name ≡ Some text
key_told text name h =
    let got = if_some (bytes_eq (take 4 text) (codes "key:") && is_key_name (drop 4 text)) (Key (drop 4 text)) name h in
    let parts = and_parts (bytes_eq (take 4 text) (codes "key:")) (is_key_name (drop 4 text)) got.0 in
    ap name_text (sym got.1) ∙ cond-true (is_key_name (drop 4 text)) (Some (codes "key:" ++ drop 4 text)) None parts.1 ∙ ap Some (begins (codes "key:") text parts.0)

number_told : (text : List ℕ) (name : FieldName) → option_map Stream (number_below (2 ^ 32) text) ≡ Some name → name_text name ≡ Some (codes "strn:" ++ text)
number_told text name h = go (is_numeral text && nat_lt (digits_value 10 text) (2 ^ 32)) refl h
  where
    go : (t : Bool) → (is_numeral text && nat_lt (digits_value 10 text) (2 ^ 32)) ≡ t → option_map Stream (cond t (Some (digits_value 10 text)) None) ≡ Some name → name_text name ≡ Some (codes "strn:" ++ text)
    go false e h = absurd cc
    go true e h =
        let parts = and_parts (is_numeral text) (nat_lt (digits_value 10 text) (2 ^ 32)) e in
        let small = ltb-true (digits_value 10 text) (2 ^ 32) parts.1 in
        ap name_text (sym (some_same h)) ∙ cond-true (nat_lt (digits_value 10 text) (2 ^ 32)) (Some (codes "strn:" ++ decimal (digits_value 10 text))) None parts.1
        ∙ ap (λ (d : List ℕ). Some (codes "strn:" ++ d)) (written text parts.0 small)

stream_told : (text : List ℕ) (name : FieldName) → stream_name text ≡ Some name → name_text name ≡ Some text
stream_told text name h = go (bytes_eq (take 5 text) (codes "strn:")) refl h
  where
    go : (t : Bool) → bytes_eq (take 5 text) (codes "strn:") ≡ t → cond t (option_map Stream (number_below (2 ^ 32) (drop 5 text))) None ≡ Some name → name_text name ≡ Some text
    go false e h = absurd cc
    go true e h = number_told (drop 5 text) name h ∙ ap Some (begins (codes "strn:") text e)

either : (text : List ℕ) (a b : Option FieldName) → ((name : FieldName) → a ≡ Some name → name_text name ≡ Some text) → ((name : FieldName) → b ≡ Some name → name_text name ≡ Some text)
    → (name : FieldName) → or_name a b ≡ Some name → name_text name ≡ Some text
either text None b first second name h = second name h
either text (Some n) b first second name h = first name h

-- the field that a text names has that text
pub named_text : (text : List ℕ) (name : FieldName) → field_name text ≡ Some name → name_text name ≡ Some text
named_text text name h =
    either text (find (λ n. is_text text (name_text n)) field_names) (or_name (user_name text) (or_name (key_name text) (stream_name text)))
    (λ n e. is_this text (name_text n) (found_passes (λ (m : FieldName). is_text text (name_text m)) field_names n e))
    (either text (user_name text) (or_name (key_name text) (stream_name text)) (user_told text) (either text (key_name text) (stream_name text) (key_told text) (stream_told text)))
    name h

-- no two texts name one field
pub one_text : (a b : List ℕ) (name : FieldName) → field_name a ≡ Some name → field_name b ≡ Some name → a ≡ b
one_text a b name ha hb = some_same (sym (named_text a name ha) ∙ named_text b name hb)

-- ---- from a name to its text

-- the text of one of a few identifiers names it
few_back : (make : FourCc → FieldName) (text : List ℕ → List ℕ) (ids : List (List ℕ)) (id : List ℕ) → list_any (bytes_eq id) ids ≡ true
    → AllByRecursion (λ i. field_name (text i) ≡ Some (make (four i))) ids → field_name (text id) ≡ Some (make (four id))
few_back make text [] id h all = absurd cc
few_back make text (i ∷ ids) id h all = go (bytes_eq id i) refl (λ rest. few_back make text ids id rest all.1) h
  where
    go : (t : Bool) → bytes_eq id i ≡ t → (list_any (bytes_eq id) ids ≡ true → field_name (text id) ≡ Some (make (four id))) → (t || list_any (bytes_eq id) ids) ≡ true → field_name (text id) ≡ Some (make (four id))
    go true e more h = subst (λ (x : List ℕ). field_name (text x) ≡ Some (make (four x))) (sym (bytes_same id i e)) all.0
    go false e more h = more h

info_back : (id : List ℕ) → list_any (bytes_eq id) info_ids ≡ true → field_name id ≡ Some (Info (four id))
info_back id h = few_back Info (λ i. i) info_ids id h (refl, (refl, (refl, (refl, (refl, (refl, (refl, (refl, (refl, (refl, (refl, (refl, (refl, (refl, (refl, (refl, (refl, tt)))))))))))))))))

whole_back : (id : List ℕ) → list_any (bytes_eq id) whole_ids ≡ true → field_name (whole_text id) ≡ Some (Whole (four id))
whole_back id h = few_back Whole whole_text whole_ids id h (refl, (refl, (refl, (refl, tt))))

bext_back : (field : BextField) (text : List ℕ) → bext_text field ≡ Some text → field_name text ≡ Some (Bext field)
bext_back Description text h = ap field_name (sym (some_same h))
bext_back Originator text h = ap field_name (sym (some_same h))
bext_back OriginatorReference text h = ap field_name (sym (some_same h))
bext_back OriginationDate text h = ap field_name (sym (some_same h))
bext_back OriginationTime text h = ap field_name (sym (some_same h))
bext_back TimeReference text h = ap field_name (sym (some_same h))
bext_back Version text h = ap field_name (sym (some_same h))
bext_back Umid text h = ap field_name (sym (some_same h))
bext_back LoudnessValue text h = ap field_name (sym (some_same h))
bext_back LoudnessRange text h = ap field_name (sym (some_same h))
bext_back MaxTruePeakLevel text h = ap field_name (sym (some_same h))
bext_back MaxMomentaryLoudness text h = ap field_name (sym (some_same h))
bext_back MaxShortTermLoudness text h = ap field_name (sym (some_same h))
bext_back Reserved text h = absurd cc
bext_back CodingHistory text h = ap field_name (sym (some_same h))

-- the type of a user field is A9 and the letters behind it
user_front : (id : List ℕ) → is_user_type id ≡ true → 169 ∷ drop 1 id ≡ id
user_front id h = begins (169 ∷ []) id (and_parts (bytes_eq (take 1 id) (169 ∷ [])) _ h).0

user_back : (id : List ℕ) → is_user_type id ≡ true → field_name (64 ∷ drop 1 id) ≡ Some (User (four id))
user_back id h =
    let same = user_front id h in
    let is : is_user_type (169 ∷ drop 1 id) ≡ true = ap is_user_type same ∙ h in
    ap (λ (o : Option FieldName). or_name o (or_name (key_name (64 ∷ drop 1 id)) (stream_name (64 ∷ drop 1 id)))) (cond-true (is_user_type (169 ∷ drop 1 id)) (Some (User (four (169 ∷ drop 1 id)))) None is)
    ∙ ap (λ (i : List ℕ). Some (User (four i))) same

key_back : (name : List ℕ) → is_key_name name ≡ true → field_name (codes "key:" ++ name) ≡ Some (Key name)
key_back name h = ap (λ (o : Option FieldName). or_name o (stream_name (codes "key:" ++ name))) (cond-true (is_key_name name) (Some (Key name)) None h)

all_digits : (n : ℕ) → n < 2 ^ 32 → list_all is_ascii_digit (decimal n) ≡ true
all_digits n small = digits_decimal own n (omega (arith, small))

no_zero : (ds : List ℕ) → 0 < length ds → list_all is_ascii_digit ds ≡ true → (48 < get_or ds 0 0) ⊎ (length ds ≡ 1) → is_numeral ds ≡ true
no_zero [] some all first = absurd (omega arith)
no_zero (x ∷ []) some all first = ap (λ (t : Bool). t && true) all
no_zero (x ∷ y ∷ ds) some all (inr one) = absurd (omega (arith, one))
no_zero (x ∷ y ∷ ds) some all (inl above) =
    let other : (x == 48) ≡ false = ne_eqb x 48 (λ e. absurd (omega (arith, above, e))) in
    ap (λ (t : Bool). t && ((suc (length ds) == 0) || not (x == 48))) all ∙ ap (λ (t : Bool). t || not (x == 48)) (suc_zero (length ds)) ∙ ap not other

first_or_one : (n : ℕ) → n < 2 ^ 32 → (48 < get_or (decimal n) 0 0) ⊎ (length (decimal n) ≡ 1)
first_or_one zero small = inr (ap length (decimal_digit 0 (omega arith)))
first_or_one (suc n) small = inl (first_decimal (suc n) (omega arith) (omega (arith, small)))

number_back : (n : ℕ) → n < 2 ^ 32 → number_below (2 ^ 32) (decimal n) ≡ Some n
number_back n small =
    let same : digits_value 10 (decimal n) ≡ n = digits_value-decimal own n (omega (arith, small)) in
    let numeral : is_numeral (decimal n) ≡ true = no_zero (decimal n) (decimal_nonempty n (omega (arith, small))) (all_digits n small) (first_or_one n small) in
    let below : nat_lt (digits_value 10 (decimal n)) (2 ^ 32) ≡ true = ap (λ (m : ℕ). nat_lt m (2 ^ 32)) same ∙ lt-ltb n (2 ^ 32) small in
    cond-true (is_numeral (decimal n) && nat_lt (digits_value 10 (decimal n)) (2 ^ 32)) (Some (digits_value 10 (decimal n))) None (and_from _ _ numeral below) ∙ ap Some same

stream_back : (n : ℕ) → n < 2 ^ 32 → field_name (codes "strn:" ++ decimal n) ≡ Some (Stream n)
stream_back n small = ap (option_map Stream) (number_back n small)

field_back : (name : FieldName) (text : List ℕ) → is_field_name name ≡ true → text_of name ≡ Some text → field_name text ≡ Some name
field_back (Bext field) text is h = bext_back field text h
field_back (Info id) text is h = ap field_name (sym (some_same h)) ∙ info_back id.0 is
field_back (Whole id) text is h = ap field_name (sym (some_same h)) ∙ whole_back id.0 is
field_back (User id) text is h = ap field_name (sym (some_same h)) ∙ user_back id.0 is
field_back (Key name) text is h = ap field_name (sym (some_same h)) ∙ key_back name is
field_back (Stream n) text is h = ap field_name (sym (some_same h)) ∙ stream_back n (ltb-true n (2 ^ 32) is)

-- the text of a field's name names it
pub text_named : (name : FieldName) (text : List ℕ) → name_text name ≡ Some text → field_name text ≡ Some name
text_named name text h = go (is_field_name name) refl h
  where
    go : (t : Bool) → is_field_name name ≡ t → cond t (text_of name) None ≡ Some text → field_name text ≡ Some name
    go true e h = field_back name text e h
    go false e h = absurd cc

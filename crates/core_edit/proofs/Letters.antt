-- Bytes that are text, and digits that are a number.
use Rattle.std.proofs.Common.{◌≡◌, ℕ, zero, suc, ◌^◌, ◌<◌, ◌≤◌, List, [], ◌∷◌, length, drop, Bool, true, false, ◌&&◌, ◌==◌, refl, sym, ap, ◌∙◌, arith, Some, None, nat_lt, cond, subst}
use Rattle.std.specs.Prelude.{IsTrue, ◌↔◌}
use Rattle.std.specs.List.{list_all}
use Rattle.std.specs.Char.{is_ascii_digit, digit_value}
use Rattle.std.specs.Str.{IsUtf8, IsAscii, is_utf8}
use Rattle.std.specs.Str.Parse.{AllDigits, IsNumeral, digits_value, without_leading_plus}
use Rattle.std.proofs.lemmas.Bool.{and_parts, leb-true, cond-true, cond-false, lt-ltb, le-ltb, ltb-true, ne_eqb, and_from, and_left, and_right, false_from_ne_true, false≢true}
use Rattle.std.proofs.lemmas.Str.{IsUtf8-from_is_utf8, is_utf8-from_IsUtf8, IsUtf8-from_ascii}
use Rattle.field_model.specs.Numbers.{count_of, is_numeral}

-- a test that tells UTF-8 is the definition's
pub told_utf8 : (t : Bool) (bs : List ℕ) → IsTrue t ↔ IsUtf8 bs → t ≡ is_utf8 bs
told_utf8 true bs h = sym (is_utf8-from_IsUtf8 bs (h.0 refl))
told_utf8 false bs h = sym (false_from_ne_true (is_utf8 bs) (λ yes. false≢true (h.1 (IsUtf8-from_is_utf8 bs yes))))

-- ---- digits

abbrev AreDigits : List ℕ → Type 0
AreDigits text = list_all is_ascii_digit text ≡ true

digit_range : (x : ℕ) → is_ascii_digit x ≡ true → (48 ≤ x) × (x ≤ 57)
digit_range x h = let p = and_parts _ _ h in (leb-true 48 x p.0, leb-true x 57 p.1)

pub digits_ascii : (text : List ℕ) → AreDigits text → IsAscii text
digits_ascii [] h i = omega arith
digits_ascii (x ∷ text) h zero = omega (arith, (digit_range x (and_parts _ _ h).0).1)
digits_ascii (x ∷ text) h (suc i) = digits_ascii text (and_parts _ _ h).1 i

pub digit_small : (x : ℕ) → is_ascii_digit x ≡ true → digit_value x < 10
digit_small x h =
    let r = digit_range x h in
    let low : nat_lt x 48 ≡ false = le-ltb x 48 r.0 in
    let high : nat_lt x 58 ≡ true = lt-ltb x 58 (omega (arith, r.1)) in
    rw (low, high) (omega (arith, r.0, r.1))

pub all_digits : (text : List ℕ) → AreDigits text → AllDigits 10 text
all_digits [] h = tt
all_digits (x ∷ text) h = (digit_small x (and_parts _ _ h).0, all_digits text (and_parts _ _ h).1)

no_plus : (text : List ℕ) → AreDigits text → without_leading_plus text ≡ text
no_plus [] h = refl
no_plus (x ∷ text) h =
    let other : (x == 43) ≡ false = ne_eqb x 43 (λ e. omega (arith, e, (digit_range x (and_parts _ _ h).0).0)) in
    ap (λ (t : Bool). drop (cond t 1 0) (x ∷ text)) other

-- a numeral has digits, and one at least
pub numeral_digits : (text : List ℕ) → is_numeral text ≡ true → (0 < length text) × AreDigits text
numeral_digits [] h = absurd cc
numeral_digits (x ∷ text) h = (omega arith, (and_parts _ _ h).0)

-- what a parser of numbers answers on it
pub parsed : (text : List ℕ) (n : ℕ) → is_numeral text ≡ true → (IsNumeral 10 (without_leading_plus text) × (digits_value 10 (without_leading_plus text) < 2 ^ 64)) × (n ≡ digits_value 10 (without_leading_plus text)) → Some n ≡ count_of text
parsed text n h told =
    let d = numeral_digits text h in
    let same = no_plus text d.1 in
    let small : digits_value 10 text < 2 ^ 64 = let P : List ℕ → Type 0 = λ xs. digits_value 10 xs < 2 ^ 64 in subst P same told.0.1 in
    let both : (is_numeral text && nat_lt (digits_value 10 text) (2 ^ 64)) ≡ true = and_from _ _ h (lt-ltb (digits_value 10 text) (2 ^ 64) small) in
    ap Some (told.1 ∙ ap (digits_value 10) same) ∙ sym (cond-true _ (Some (digits_value 10 text)) None both)

pub not_parsed : (text : List ℕ) → is_numeral text ≡ true → ((IsNumeral 10 (without_leading_plus text) × (digits_value 10 (without_leading_plus text) < 2 ^ 64)) → ⊥) → None ≡ count_of text
not_parsed text h told =
    let d = numeral_digits text h in
    let same = no_plus text d.1 in
    let Told : List ℕ → Type 0 = λ xs. (IsNumeral 10 xs × (digits_value 10 xs < 2 ^ 64)) → ⊥ in
    let no = subst Told same told in
    let big : nat_lt (digits_value 10 text) (2 ^ 64) ≡ false = false_from_ne_true _ (λ yes. no ((d.0, all_digits text d.1), ltb-true (digits_value 10 text) (2 ^ 64) yes)) in
    sym (cond-false _ (Some (digits_value 10 text)) None (and_right _ _ big))

pub no_numeral : (text : List ℕ) → is_numeral text ≡ false → None ≡ count_of text
no_numeral text h = sym (cond-false _ (Some (digits_value 10 text)) None (and_left _ _ h))

-- a numeral is text
pub numeral_utf8 : (text : List ℕ) → is_numeral text ≡ true → IsUtf8 text
numeral_utf8 text h = IsUtf8-from_ascii text (digits_ascii text (numeral_digits text h).1)

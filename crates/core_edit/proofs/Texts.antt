-- Texts gone through a byte at a time.
use Rattle.std.proofs.Common.{◌≡◌, ℕ, zero, suc, ◌+◌, ◌*◌, ◌<◌, ◌≤◌, List, [], ◌∷◌, length, get_or, drop, take, replicate, Bool, true, false, ◌&&◌, ◌==◌, ◌||◌, not, refl, sym, ap, ◌∙◌, arith, subst}
use Rattle.std.specs.List.{list_all}
use Rattle.std.specs.Char.{is_ascii_digit, digit_value}
use Rattle.std.specs.Str.Parse.{digits_value}
use Rattle.std.proofs.lemmas.Bool.{ne_eqb, eq-eqb, and_parts, cond-true}
use Rattle.std.proofs.lemmas.List.{at_drop_more, at_drop_all}
use Rattle.field_model.specs.Dates.{fits, has_form, number_at}
use Rattle.field_model.specs.Numbers.{is_numeral}
use Rattle.field_model.proofs.Fits.{form_length}
use Rattle.core_edit.proofs.Letters.{digit_small}

-- ---- forms

pub form_next : (form text : List ℕ) (i : ℕ) → i < length form → length form ≡ length text
    → has_form (drop i form) (drop i text) ≡ (fits (get_or form i 0) (get_or text i 0) && has_form (drop (i + 1) form) (drop (i + 1) text))
form_next form text i inside long =
    at_drop_more (λ (fs : List ℕ). has_form fs (drop i text)) form i 0 inside
    ∙ at_drop_more (λ (xs : List ℕ). has_form (get_or form i 0 ∷ drop (i + 1) form) xs) text i 0 (omega (arith, long))

pub form_end : (form text : List ℕ) (i : ℕ) → length form ≤ i → length form ≡ length text → has_form (drop i form) (drop i text) ≡ true
form_end form text i past long =
    at_drop_all (λ (fs : List ℕ). has_form fs (drop i text)) form i past
    ∙ at_drop_all (λ (xs : List ℕ). has_form [] xs) text i (omega (arith, long))

pub form_other : (form text : List ℕ) → (length form ≡ length text → ⊥) → has_form form text ≡ false
form_other form text other = go (has_form form text) refl
  where
    go : (t : Bool) → has_form form text ≡ t → t ≡ false
    go true h = absurd (other (sym (form_length form text h)))
    go false h = refl

-- ---- numbers of few digits

-- the most that so many digits and letters write
abbrev pub most : ℕ → ℕ
most k = get_or (0 ∷ 36 ∷ 396 ∷ 3996 ∷ 39996 ∷ []) k 0

pub most_next : (k n d : ℕ) → k < 4 → n ≤ most k → d ≤ 36 → n * 10 + d ≤ most (suc k)
most_next zero n d lt small digit = omega arith
most_next (suc zero) n d lt small digit = omega arith
most_next (suc (suc zero)) n d lt small digit = omega arith
most_next (suc (suc (suc zero))) n d lt small digit = omega arith
most_next (suc (suc (suc (suc k)))) n d lt small digit = absurd (omega arith)

pub most_small : (k : ℕ) → most k ≤ 39996
most_small zero = omega arith
most_small (suc zero) = omega arith
most_small (suc (suc zero)) = omega arith
most_small (suc (suc (suc zero))) = omega arith
most_small (suc (suc (suc (suc zero)))) = omega arith
most_small (suc (suc (suc (suc (suc k))))) = omega arith

-- ---- numerals

pub numeral_parts : (text : List ℕ) → 0 < length text → is_numeral text ≡ (list_all is_ascii_digit text && ((length text == 1) || not (get_or text 0 0 == 48)))
numeral_parts [] h = absurd (omega arith)
numeral_parts (x ∷ []) h = refl
numeral_parts (x ∷ y ∷ text) h = let two : (length (x ∷ y ∷ text) == 1) ≡ false = ne_eqb (suc (suc (length text))) 1 (λ e. omega (arith, e)) in let one : (length (y ∷ text) == 0) ≡ false = ne_eqb (suc (length text)) 0 (λ e. omega (arith, e)) in rw (two, one) refl

-- ---- zeros

pub take_zeros : (n m : ℕ) → n ≤ m → take {A = ℕ} n (replicate m 0) ≡ replicate n 0
take_zeros zero m h = refl
take_zeros (suc n) zero h = absurd (omega arith)
take_zeros (suc n) (suc m) h = ap (λ (xs : List ℕ). 0 ∷ xs) (take_zeros n m (omega arith))

-- ---- the numbers of a date

-- a d of a form stands for a digit
digit_of : (form text : List ℕ) (k : ℕ) → has_form form text ≡ true → k < length form → get_or form k 0 ≡ 100 → is_ascii_digit (get_or text k 0) ≡ true
digit_of [] text k h inside d = absurd (omega arith)
digit_of (f ∷ fs) [] k h inside d = absurd cc
digit_of (f ∷ fs) (x ∷ xs) zero h inside d =
    let first = (and_parts (fits f x) (has_form fs xs) h).0 in
    sym (cond-true (f == 100) _ _ (eq-eqb f 100 d)) ∙ first
digit_of (f ∷ fs) (x ∷ xs) (suc k) h inside d = digit_of fs xs k (and_parts (fits f x) (has_form fs xs) h).1 (omega arith) d

two_at : (k : ℕ) (text : List ℕ) → k + 2 ≤ length text → take 2 (drop k text) ≡ get_or text k 0 ∷ get_or text (k + 1) 0 ∷ []
two_at zero [] h = absurd (omega arith)
two_at zero (x ∷ []) h = absurd (omega arith)
two_at zero (x ∷ y ∷ text) h = refl
two_at (suc k) [] h = absurd (omega arith)
two_at (suc k) (x ∷ text) h = let e : suc k + 1 ≡ suc (k + 1) = omega arith in two_at k text (omega arith) ∙ ap (λ (j : ℕ). get_or text k 0 ∷ get_or (x ∷ text) j 0 ∷ []) (sym e)

four_at : (text : List ℕ) → 4 ≤ length text → take 4 text ≡ get_or text 0 0 ∷ get_or text 1 0 ∷ get_or text 2 0 ∷ get_or text 3 0 ∷ []
four_at [] h = absurd (omega arith)
four_at (a ∷ []) h = absurd (omega arith)
four_at (a ∷ b ∷ []) h = absurd (omega arith)
four_at (a ∷ b ∷ c ∷ []) h = absurd (omega arith)
four_at (a ∷ b ∷ c ∷ d ∷ text) h = refl

small_two : (a b : ℕ) → digit_value a < 10 → digit_value b < 10 → digits_value 10 (a ∷ b ∷ []) ≤ 99
small_two a b ha hb = omega (arith, ha, hb)

small_four : (a b c d : ℕ) → digit_value a < 10 → digit_value b < 10 → digit_value c < 10 → digit_value d < 10 → digits_value 10 (a ∷ b ∷ c ∷ d ∷ []) ≤ 9999
small_four a b c d ha hb hc hd = omega (arith, ha, hb, hc, hd)

pub number_two : (form text : List ℕ) (k : ℕ) → has_form form text ≡ true → k + 2 ≤ length form → get_or form k 0 ≡ 100 → get_or form (k + 1) 0 ≡ 100 → number_at k 2 text ≤ 99
number_two form text k h inside one two =
    let n = form_length form text h in
    let P : List ℕ → Type 0 = λ xs. digits_value 10 xs ≤ 99 in
    subst P (sym (two_at k text (omega (arith, n, inside))))
    (small_two (get_or text k 0) (get_or text (k + 1) 0) (digit_small (get_or text k 0) (digit_of form text k h (omega (arith, inside)) one)) (digit_small (get_or text (k + 1) 0) (digit_of form text (k + 1) h (omega (arith, inside)) two)))

pub number_four : (form text : List ℕ) → has_form form text ≡ true → 4 ≤ length form → get_or form 0 0 ≡ 100 → get_or form 1 0 ≡ 100 → get_or form 2 0 ≡ 100 → get_or form 3 0 ≡ 100 → number_at 0 4 text ≤ 9999
number_four form text h inside a b c d =
    let n = form_length form text h in
    let P : List ℕ → Type 0 = λ xs. digits_value 10 xs ≤ 9999 in
    let at : (k : ℕ) → k < 4 → get_or form k 0 ≡ 100 → digit_value (get_or text k 0) < 10 = λ k lt is. digit_small (get_or text k 0) (digit_of form text k h (omega (arith, inside)) is) in
    subst P (sym (four_at text (omega (arith, n, inside))))
    (small_four (get_or text 0 0) (get_or text 1 0) (get_or text 2 0) (get_or text 3 0) (at 0 (omega arith) a) (at 1 (omega arith) b) (at 2 (omega arith) c) (at 3 (omega arith) d))

-- The text that is shown for the spelling of a text is one that passes the same tests.
use Rattle.std.proofs.Common.{◌≡◌, ℕ, zero, suc, List, [], ◌∷◌, ◌++◌, length, replicate, Bool, true, false, cond, refl, sym, ap, ◌∙◌, arith, Some, None, codes}
use Rattle.std.specs.Prelude.{not, ◌||◌, ◌&&◌, ◌==◌, nat_le}
use Rattle.std.specs.List.{list_any, list_all}
use Rattle.std.specs.Char.{is_ascii_digit}
use Rattle.std.proofs.lemmas.Bool.{and_parts, and_from, eqb-true, ne_eqb, leb-true, cond-true, cond-false}
use Rattle.std.proofs.lemmas.List.Sums.{take_while-cons}
use Rattle.field_model.specs.Dates.{fits, has_form, number_at, date_exists, is_date, is_time, spelled_date, spelled_time}
use Rattle.field_model.specs.Shown.{before_zero, unless_empty}
use Rattle.field_model.proofs.Fits.{form_length}

-- ---- the bytes before the first 0

abbrev pub HasNoZero : List ℕ → Type 0
HasNoZero text = list_any (λ x. x == 0) text ≡ false

neither : (a b : Bool) → (a || b) ≡ false → (a ≡ false) × (b ≡ false)
neither true b h = absurd cc
neither false b h = (refl, h)

-- zeros show nothing
pub zeros_empty : (n : ℕ) → before_zero (replicate n 0) ≡ []
zeros_empty zero = refl
zeros_empty (suc n) = refl

-- a text before zeros shows itself
pub text_before : (text : List ℕ) (n : ℕ) → HasNoZero text → before_zero (text ++ replicate n 0) ≡ text
text_before [] n h = zeros_empty n
text_before (x ∷ text) n h =
    let parts = neither (x == 0) (list_any (λ y. y == 0) text) h in
    take_while-cons (λ y. not (y == 0)) x (text ++ replicate n 0)
    ∙ ap (λ (t : Bool). cond (not t) (x ∷ before_zero (text ++ replicate n 0)) []) parts.0
    ∙ ap (λ (xs : List ℕ). x ∷ xs) (text_before text n parts.1)

pub text_alone : (text : List ℕ) → HasNoZero text → before_zero (text ++ 0 ∷ []) ≡ text
text_alone text h = text_before text 1 h

pub text_whole : (text : List ℕ) → HasNoZero text → before_zero text ≡ text
text_whole [] h = refl
text_whole (x ∷ text) h =
    let parts = neither (x == 0) (list_any (λ y. y == 0) text) h in
    take_while-cons (λ y. not (y == 0)) x text
    ∙ ap (λ (t : Bool). cond (not t) (x ∷ before_zero text) []) parts.0
    ∙ ap (λ (xs : List ℕ). x ∷ xs) (text_whole text parts.1)

-- ---- dates and times as they are spelled

digit_some : (x : ℕ) → is_ascii_digit x ≡ true → (x == 0) ≡ false
digit_some x h = ne_eqb x 0 (λ e. omega (arith, e, leb-true 48 x (and_parts _ _ h).0))

-- what has a form of digits and signs has no 0
form_no_zero : (form text : List ℕ) → has_form form text ≡ true → list_all (λ s. (s == 100) || ((s == 45) || (s == 58))) form ≡ true → HasNoZero text
form_no_zero [] [] h signs = refl
form_no_zero [] (x ∷ text) h signs = absurd cc
form_no_zero (s ∷ form) [] h signs = absurd cc
form_no_zero (s ∷ form) (x ∷ text) h signs =
    let parts = and_parts (fits s x) (has_form form text) h in
    let ok = and_parts ((s == 100) || ((s == 45) || (s == 58))) _ signs in
    let here : (x == 0) ≡ false = go (s == 100) refl parts.0 ok.0 in
    ap (λ (t : Bool). t || list_any (λ y. y == 0) text) here ∙ form_no_zero form text parts.1 ok.1
  where
    sign : (s == 115) ≡ false → ((s == 45) || (s == 58)) ≡ true → (x == s) ≡ true → (x == 0) ≡ false
    sign other is same = ne_eqb x 0 (λ e. by (s == 45) refl is (sym (eqb-true x s same) ∙ e))
      where
        by : (t : Bool) → (s == 45) ≡ t → (t || (s == 58)) ≡ true → s ≡ 0 → ⊥
        by true e is z = omega (arith, eqb-true s 45 e, z)
        by false e is z = omega (arith, eqb-true s 58 is, z)

    go : (t : Bool) → (s == 100) ≡ t → fits s x ≡ true → (t || ((s == 45) || (s == 58))) ≡ true → (x == 0) ≡ false
    go true e fit is = digit_some x (sym (cond-true (s == 100) _ _ e) ∙ fit)
    go false e fit is =
        let other : (s == 115) ≡ false = ne_eqb s 115 (λ z. by (s == 45) refl is z) in
        sign other is (sym (cond-false (s == 115) _ _ other) ∙ (sym (cond-false (s == 100) _ _ e) ∙ fit))
      where
        by : (t : Bool) → (s == 45) ≡ t → (t || (s == 58)) ≡ true → s ≡ 115 → ⊥
        by true e is z = omega (arith, eqb-true s 45 e, z)
        by false e is z = omega (arith, eqb-true s 58 is, z)

-- the separators become signs
date_form : (text : List ℕ) → has_form (codes "ddddsddsdd") text ≡ true
    → (has_form (codes "dddd-dd-dd") (spelled_date text) ≡ true) × (has_form (codes "ddddsddsdd") (spelled_date text) ≡ true) × (date_exists (number_at 0 4 (spelled_date text)) (number_at 5 2 (spelled_date text)) (number_at 8 2 (spelled_date text)) ≡ date_exists (number_at 0 4 text) (number_at 5 2 text) (number_at 8 2 text))
date_form (a ∷ b ∷ c ∷ d ∷ s ∷ e ∷ f ∷ t ∷ g ∷ i ∷ []) h =
    let p1 = and_parts (fits 100 a) (has_form (codes "dddsddsdd") (b ∷ c ∷ d ∷ s ∷ e ∷ f ∷ t ∷ g ∷ i ∷ [])) h in
    let p2 = and_parts (fits 100 b) (has_form (codes "ddsddsdd") (c ∷ d ∷ s ∷ e ∷ f ∷ t ∷ g ∷ i ∷ [])) p1.1 in
    let p3 = and_parts (fits 100 c) (has_form (codes "dsddsdd") (d ∷ s ∷ e ∷ f ∷ t ∷ g ∷ i ∷ [])) p2.1 in
    let p4 = and_parts (fits 100 d) (has_form (codes "sddsdd") (s ∷ e ∷ f ∷ t ∷ g ∷ i ∷ [])) p3.1 in
    let p5 = and_parts (fits 115 s) (has_form (codes "ddsdd") (e ∷ f ∷ t ∷ g ∷ i ∷ [])) p4.1 in
    let p6 = and_parts (fits 100 e) (has_form (codes "dsdd") (f ∷ t ∷ g ∷ i ∷ [])) p5.1 in
    let p7 = and_parts (fits 100 f) (has_form (codes "sdd") (t ∷ g ∷ i ∷ [])) p6.1 in
    let p8 = and_parts (fits 115 t) (has_form (codes "dd") (g ∷ i ∷ [])) p7.1 in
    let p9 = and_parts (fits 100 g) (has_form (codes "d") (i ∷ [])) p8.1 in
    let all = and_from (fits 100 a) (has_form (codes "dddsddsdd") (b ∷ c ∷ d ∷ 45 ∷ e ∷ f ∷ 45 ∷ g ∷ i ∷ [])) p1.0 (and_from (fits 100 b) (has_form (codes "ddsddsdd") (c ∷ d ∷ 45 ∷ e ∷ f ∷ 45 ∷ g ∷ i ∷ [])) p2.0 (and_from (fits 100 c) (has_form (codes "dsddsdd") (d ∷ 45 ∷ e ∷ f ∷ 45 ∷ g ∷ i ∷ [])) p3.0 (and_from (fits 100 d) (has_form (codes "ddsdd") (e ∷ f ∷ 45 ∷ g ∷ i ∷ [])) p4.0 (and_from (fits 100 e) (has_form (codes "dsdd") (f ∷ 45 ∷ g ∷ i ∷ [])) p6.0 (and_from (fits 100 f) (has_form (codes "dd") (g ∷ i ∷ [])) p7.0 (p8.1)))))) in
    (all, all, refl)
date_form [] h = absurd cc
date_form (a ∷ []) h = absurd (omega (arith, form_length (codes "ddddsddsdd") (a ∷ []) h))
date_form (a ∷ b ∷ []) h = absurd (omega (arith, form_length (codes "ddddsddsdd") (a ∷ b ∷ []) h))
date_form (a ∷ b ∷ c ∷ []) h = absurd (omega (arith, form_length (codes "ddddsddsdd") (a ∷ b ∷ c ∷ []) h))
date_form (a ∷ b ∷ c ∷ d ∷ []) h = absurd (omega (arith, form_length (codes "ddddsddsdd") (a ∷ b ∷ c ∷ d ∷ []) h))
date_form (a ∷ b ∷ c ∷ d ∷ s ∷ []) h = absurd (omega (arith, form_length (codes "ddddsddsdd") (a ∷ b ∷ c ∷ d ∷ s ∷ []) h))
date_form (a ∷ b ∷ c ∷ d ∷ s ∷ e ∷ []) h = absurd (omega (arith, form_length (codes "ddddsddsdd") (a ∷ b ∷ c ∷ d ∷ s ∷ e ∷ []) h))
date_form (a ∷ b ∷ c ∷ d ∷ s ∷ e ∷ f ∷ []) h = absurd (omega (arith, form_length (codes "ddddsddsdd") (a ∷ b ∷ c ∷ d ∷ s ∷ e ∷ f ∷ []) h))
date_form (a ∷ b ∷ c ∷ d ∷ s ∷ e ∷ f ∷ t ∷ []) h = absurd (omega (arith, form_length (codes "ddddsddsdd") (a ∷ b ∷ c ∷ d ∷ s ∷ e ∷ f ∷ t ∷ []) h))
date_form (a ∷ b ∷ c ∷ d ∷ s ∷ e ∷ f ∷ t ∷ g ∷ []) h = absurd (omega (arith, form_length (codes "ddddsddsdd") (a ∷ b ∷ c ∷ d ∷ s ∷ e ∷ f ∷ t ∷ g ∷ []) h))
date_form (a ∷ b ∷ c ∷ d ∷ s ∷ e ∷ f ∷ t ∷ g ∷ i ∷ j ∷ text) h = absurd (omega (arith, form_length (codes "ddddsddsdd") (a ∷ b ∷ c ∷ d ∷ s ∷ e ∷ f ∷ t ∷ g ∷ i ∷ j ∷ text) h))

-- a spelling that shows itself and passes a test that the text passes
pub record Spells (test : List ℕ → Bool) (spelled : List ℕ) : Type 0 where
  pub shows : unless_empty (before_zero spelled) ≡ Some spelled
  pub passes : test spelled ≡ true
  pub some : (length spelled == 0) ≡ false

shows_itself : (spelled : List ℕ) → HasNoZero spelled → (length spelled == 0) ≡ false → unless_empty (before_zero spelled) ≡ Some spelled
shows_itself spelled none some =
    ap unless_empty (text_whole spelled none) ∙ cond-false (length spelled == 0) None (Some spelled) some

pub date_spelled : (text : List ℕ) → is_date text ≡ true → Spells is_date (spelled_date text)
date_spelled text h =
    let parts = and_parts (has_form (codes "ddddsddsdd") text) _ h in
    let z = date_form text parts.0 in
    let long : length (spelled_date text) ≡ 10 = form_length (codes "dddd-dd-dd") (spelled_date text) z.0 in
    let some : (length (spelled_date text) == 0) ≡ false = ne_eqb (length (spelled_date text)) 0 (λ e. omega (arith, long, e)) in
    record {
      shows = shows_itself (spelled_date text) (form_no_zero (codes "dddd-dd-dd") (spelled_date text) z.0 refl) some;
      passes = and_from _ _ z.1 (z.2 ∙ parts.1);
      some = some;
    }

time_form : (text : List ℕ) → has_form (codes "ddsddsdd") text ≡ true
    → (has_form (codes "dd:dd:dd") (spelled_time text) ≡ true) × (is_time (spelled_time text) ≡ is_time text)
time_form (a ∷ b ∷ s ∷ c ∷ d ∷ t ∷ e ∷ f ∷ []) h =
    let p1 = and_parts (fits 100 a) (has_form (codes "dsddsdd") (b ∷ s ∷ c ∷ d ∷ t ∷ e ∷ f ∷ [])) h in
    let p2 = and_parts (fits 100 b) (has_form (codes "sddsdd") (s ∷ c ∷ d ∷ t ∷ e ∷ f ∷ [])) p1.1 in
    let p3 = and_parts (fits 115 s) (has_form (codes "ddsdd") (c ∷ d ∷ t ∷ e ∷ f ∷ [])) p2.1 in
    let p4 = and_parts (fits 100 c) (has_form (codes "dsdd") (d ∷ t ∷ e ∷ f ∷ [])) p3.1 in
    let p5 = and_parts (fits 100 d) (has_form (codes "sdd") (t ∷ e ∷ f ∷ [])) p4.1 in
    let p6 = and_parts (fits 115 t) (has_form (codes "dd") (e ∷ f ∷ [])) p5.1 in
    let p7 = and_parts (fits 100 e) (has_form (codes "d") (f ∷ [])) p6.1 in
    let all = and_from (fits 100 a) (has_form (codes "dsddsdd") (b ∷ 58 ∷ c ∷ d ∷ 58 ∷ e ∷ f ∷ [])) p1.0 (and_from (fits 100 b) (has_form (codes "ddsdd") (c ∷ d ∷ 58 ∷ e ∷ f ∷ [])) p2.0 (and_from (fits 100 c) (has_form (codes "dsdd") (d ∷ 58 ∷ e ∷ f ∷ [])) p4.0 (and_from (fits 100 d) (has_form (codes "dd") (e ∷ f ∷ [])) p5.0 (p6.1)))) in
    let same : has_form (codes "ddsddsdd") (spelled_time (a ∷ b ∷ s ∷ c ∷ d ∷ t ∷ e ∷ f ∷ [])) ≡ has_form (codes "ddsddsdd") (a ∷ b ∷ s ∷ c ∷ d ∷ t ∷ e ∷ f ∷ []) = all ∙ sym h in
    (all, ap (λ (y : Bool). y && (nat_le (number_at 0 2 (a ∷ b ∷ s ∷ c ∷ d ∷ t ∷ e ∷ f ∷ [])) 23 && (nat_le (number_at 3 2 (a ∷ b ∷ s ∷ c ∷ d ∷ t ∷ e ∷ f ∷ [])) 59 && nat_le (number_at 6 2 (a ∷ b ∷ s ∷ c ∷ d ∷ t ∷ e ∷ f ∷ [])) 59))) same)
time_form [] h = absurd cc
time_form (a ∷ []) h = absurd (omega (arith, form_length (codes "ddsddsdd") (a ∷ []) h))
time_form (a ∷ b ∷ []) h = absurd (omega (arith, form_length (codes "ddsddsdd") (a ∷ b ∷ []) h))
time_form (a ∷ b ∷ s ∷ []) h = absurd (omega (arith, form_length (codes "ddsddsdd") (a ∷ b ∷ s ∷ []) h))
time_form (a ∷ b ∷ s ∷ c ∷ []) h = absurd (omega (arith, form_length (codes "ddsddsdd") (a ∷ b ∷ s ∷ c ∷ []) h))
time_form (a ∷ b ∷ s ∷ c ∷ d ∷ []) h = absurd (omega (arith, form_length (codes "ddsddsdd") (a ∷ b ∷ s ∷ c ∷ d ∷ []) h))
time_form (a ∷ b ∷ s ∷ c ∷ d ∷ t ∷ []) h = absurd (omega (arith, form_length (codes "ddsddsdd") (a ∷ b ∷ s ∷ c ∷ d ∷ t ∷ []) h))
time_form (a ∷ b ∷ s ∷ c ∷ d ∷ t ∷ e ∷ []) h = absurd (omega (arith, form_length (codes "ddsddsdd") (a ∷ b ∷ s ∷ c ∷ d ∷ t ∷ e ∷ []) h))
time_form (a ∷ b ∷ s ∷ c ∷ d ∷ t ∷ e ∷ f ∷ g ∷ text) h = absurd (omega (arith, form_length (codes "ddsddsdd") (a ∷ b ∷ s ∷ c ∷ d ∷ t ∷ e ∷ f ∷ g ∷ text) h))

pub time_spelled : (text : List ℕ) → is_time text ≡ true → Spells is_time (spelled_time text)
time_spelled text h =
    let z = time_form text (and_parts (has_form (codes "ddsddsdd") text) _ h).0 in
    let long : length (spelled_time text) ≡ 8 = form_length (codes "dd:dd:dd") (spelled_time text) z.0 in
    let some : (length (spelled_time text) == 0) ≡ false = ne_eqb (length (spelled_time text)) 0 (λ e. omega (arith, long, e)) in
    record {
      shows = shows_itself (spelled_time text) (form_no_zero (codes "dd:dd:dd") (spelled_time text) z.0 refl) some;
      passes = z.1 ∙ h;
      some = some;
    }

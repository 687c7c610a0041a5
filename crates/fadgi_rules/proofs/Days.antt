-- A day is a date with `-` between its numbers.
use Rattle.std.proofs.Common.{◌≡◌, ℕ, List, [], ◌∷◌, length, Bool, true, false, refl, sym, ap, ◌∙◌, arith, subst, codes}
use Rattle.std.specs.Prelude.{◌&&◌, ◌==◌}
use Rattle.std.proofs.lemmas.Bool.{eqb-true}
use Rattle.core_edit.proofs.Texts.{form_other}
use Rattle.field_model.specs.Dates.{fits, is_date, is_day, date_exists, number_at}
use Rattle.fadgi_rules.specs.Days.{has_dashes}

and_no : (a b : Bool) → b ≡ false → (a && b) ≡ false
and_no true b h = h
and_no false b h = refl

-- a text of another length is none
other : (text : List ℕ) → (10 ≡ length text → ⊥) → is_day text ≡ (has_dashes text && is_date text)
other text apart =
    ap (λ (t : Bool). t && date_exists (number_at 0 4 text) (number_at 5 2 text) (number_at 8 2 text)) (form_other (codes "dddd-dd-dd") text apart)
    ∙ sym (and_no (has_dashes text) (is_date text) (ap (λ (t : Bool). t && date_exists (number_at 0 4 text) (number_at 5 2 text) (number_at 8 2 text)) (form_other (codes "ddddsddsdd") text apart)))

abbrev DayIs : List ℕ → Type 0
DayIs text = is_day text ≡ (has_dashes text && is_date text)

ten : (a b c d s e f t g i : ℕ) → DayIs (a ∷ b ∷ c ∷ d ∷ s ∷ e ∷ f ∷ t ∷ g ∷ i ∷ [])
ten a b c d s e f t g i = go (s == 45) (t == 45) refl refl
  where
    exists : Bool
    exists = date_exists (number_at 0 4 (a ∷ b ∷ c ∷ d ∷ s ∷ e ∷ f ∷ t ∷ g ∷ i ∷ [])) (number_at 5 2 (a ∷ b ∷ c ∷ d ∷ s ∷ e ∷ f ∷ t ∷ g ∷ i ∷ [])) (number_at 8 2 (a ∷ b ∷ c ∷ d ∷ s ∷ e ∷ f ∷ t ∷ g ∷ i ∷ []))

    shape : Bool → Bool → Bool
    shape x y = fits 100 a && (fits 100 b && (fits 100 c && (fits 100 d && (x && (fits 100 e && (fits 100 f && (y && (fits 100 g && (fits 100 i && true)))))))))

    late : (x : Bool) → shape x false ≡ false
    late x = and_no (fits 100 a) _ (and_no (fits 100 b) _ (and_no (fits 100 c) _ (and_no (fits 100 d) _ (and_no x _ (and_no (fits 100 e) _ (and_no (fits 100 f) false refl))))))

    early : (y : Bool) → shape false y ≡ false
    early y = and_no (fits 100 a) _ (and_no (fits 100 b) _ (and_no (fits 100 c) _ (and_no (fits 100 d) false refl)))

    go : (x y : Bool) → (s == 45) ≡ x → (t == 45) ≡ y → (shape (s == 45) (t == 45) && exists) ≡ (((s == 45) && (t == 45)) && is_date (a ∷ b ∷ c ∷ d ∷ s ∷ e ∷ f ∷ t ∷ g ∷ i ∷ []))
    go true true p q =
        let P : ℕ → Type 0 = λ z. DayIs (a ∷ b ∷ c ∷ d ∷ z ∷ e ∷ f ∷ t ∷ g ∷ i ∷ []) in
        let Q : ℕ → Type 0 = λ z. DayIs (a ∷ b ∷ c ∷ d ∷ 45 ∷ e ∷ f ∷ z ∷ g ∷ i ∷ []) in
        subst P (sym (eqb-true s 45 p)) (subst Q (sym (eqb-true t 45 q)) refl)
    go true false p q =
        ap (λ (y : Bool). shape (s == 45) y && exists) q ∙ ap (λ (x : Bool). x && exists) (late (s == 45))
        ∙ sym (ap (λ (y : Bool). ((s == 45) && y) && is_date (a ∷ b ∷ c ∷ d ∷ s ∷ e ∷ f ∷ t ∷ g ∷ i ∷ [])) q ∙ ap (λ (x : Bool). x && is_date (a ∷ b ∷ c ∷ d ∷ s ∷ e ∷ f ∷ t ∷ g ∷ i ∷ [])) (and_no (s == 45) false refl))
    go false y p q =
        ap (λ (x : Bool). shape x (t == 45) && exists) p ∙ ap (λ (x : Bool). x && exists) (early (t == 45))
        ∙ sym (ap (λ (x : Bool). (x && (t == 45)) && is_date (a ∷ b ∷ c ∷ d ∷ s ∷ e ∷ f ∷ t ∷ g ∷ i ∷ [])) p)

pub day_is : (text : List ℕ) → DayIs text
day_is [] = other [] (λ e. omega (arith, e))
day_is (a ∷ []) = other (a ∷ []) (λ e. omega (arith, e))
day_is (a ∷ b ∷ []) = other (a ∷ b ∷ []) (λ e. omega (arith, e))
day_is (a ∷ b ∷ c ∷ []) = other (a ∷ b ∷ c ∷ []) (λ e. omega (arith, e))
day_is (a ∷ b ∷ c ∷ d ∷ []) = other (a ∷ b ∷ c ∷ d ∷ []) (λ e. omega (arith, e))
day_is (a ∷ b ∷ c ∷ d ∷ s ∷ []) = other (a ∷ b ∷ c ∷ d ∷ s ∷ []) (λ e. omega (arith, e))
day_is (a ∷ b ∷ c ∷ d ∷ s ∷ e ∷ []) = other (a ∷ b ∷ c ∷ d ∷ s ∷ e ∷ []) (λ e. omega (arith, e))
day_is (a ∷ b ∷ c ∷ d ∷ s ∷ e ∷ f ∷ []) = other (a ∷ b ∷ c ∷ d ∷ s ∷ e ∷ f ∷ []) (λ e. omega (arith, e))
day_is (a ∷ b ∷ c ∷ d ∷ s ∷ e ∷ f ∷ t ∷ []) = other (a ∷ b ∷ c ∷ d ∷ s ∷ e ∷ f ∷ t ∷ []) (λ e. omega (arith, e))
day_is (a ∷ b ∷ c ∷ d ∷ s ∷ e ∷ f ∷ t ∷ g ∷ []) = other (a ∷ b ∷ c ∷ d ∷ s ∷ e ∷ f ∷ t ∷ g ∷ []) (λ e. omega (arith, e))
day_is (a ∷ b ∷ c ∷ d ∷ s ∷ e ∷ f ∷ t ∷ g ∷ i ∷ []) = ten a b c d s e f t g i
day_is (a ∷ b ∷ c ∷ d ∷ s ∷ e ∷ f ∷ t ∷ g ∷ i ∷ j ∷ text) = other (a ∷ b ∷ c ∷ d ∷ s ∷ e ∷ f ∷ t ∷ g ∷ i ∷ j ∷ text) (λ e. omega (arith, e))

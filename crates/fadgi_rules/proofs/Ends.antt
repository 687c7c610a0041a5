-- The last byte.
use Rattle.std.proofs.Common.{◌≡◌, ℕ, suc, ◌-◌, ◌<◌, List, [], ◌∷◌, length, get_or, refl, ap, ◌∙◌, arith}
use Rattle.std.specs.Prelude.{◌==◌}
use Rattle.field_model.specs.Broken.{ends_with_zero}

pub last_is : (xs : List ℕ) → 0 < length xs → (get_or xs (length xs - 1) 0 == 0) ≡ ends_with_zero xs
last_is [] h = absurd (omega (arith, h))
last_is (x ∷ []) h = refl
last_is (x ∷ y ∷ xs) h =
    let place : length (x ∷ y ∷ xs) - 1 ≡ suc (length (y ∷ xs) - 1) = omega arith in
    ap (λ (k : ℕ). get_or (x ∷ y ∷ xs) k 0 == 0) place ∙ last_is (y ∷ xs) (omega arith)

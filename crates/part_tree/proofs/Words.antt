-- Bytes of other lengths are not the same, and a table that is gone through.
use Rattle.std.proofs.Common.{◌≡◌, ℕ, suc, ◌+◌, ◌<◌, ◌≤◌, List, [], ◌∷◌, length, get_or, Bool, true, false, refl, sym, ap, ◌∙◌, arith, ◌||◌, nat_lt, not, cond, inl, inr}
use Rattle.std.specs.Prelude.{◌⊎◌}
use Rattle.std.specs.Str.{bytes_eq}
use Rattle.std.specs.List.{list_any, position_or_len}
use Rattle.std.proofs.lemmas.Bool.{and_parts, lt-ltb, le-ltb, cases_lt}
use Rattle.std.proofs.lemmas.List.Sums.{position_or_len_is}

pub same_length : (xs ys : List ℕ) → bytes_eq xs ys ≡ true → length xs ≡ length ys
same_length [] [] h = refl
same_length [] (y ∷ ys) h = absurd cc
same_length (x ∷ xs) [] h = absurd cc
same_length (x ∷ xs) (y ∷ ys) h = ap suc (same_length xs ys (and_parts _ _ h).1)

pub differs : (xs ys : List ℕ) → length xs < length ys → bytes_eq xs ys ≡ false
differs xs ys lt = go (bytes_eq xs ys) refl
  where
    go : (t : Bool) → bytes_eq xs ys ≡ t → t ≡ false
    go true h = absurd (omega (arith, same_length xs ys h))
    go false h = refl

less_more : (n m : ℕ) → nat_lt n m ≡ nat_lt (1 + n) (suc m)
less_more n m = go (cases_lt n m)
  where
    go : (n < m) ⊎ (m ≤ n) → nat_lt n m ≡ nat_lt (1 + n) (suc m)
    go (inl lt) = lt-ltb n m lt ∙ sym (lt-ltb (1 + n) (suc m) (omega arith))
    go (inr le) = le-ltb n m le ∙ sym (le-ltb (1 + n) (suc m) (omega arith))

any_step : (t : Bool) (rest : Bool) (n m : ℕ) → rest ≡ nat_lt n m → (t || rest) ≡ nat_lt (cond (not t) (1 + n) 0) (suc m)
any_step true rest n m e = sym (lt-ltb 0 (suc m) (omega arith))
any_step false rest n m e = e ∙ less_more n m

-- whether one of them passes, by the number of the first that does
pub any_before : {X : Type 0} (p : X → Bool) (xs : List X) → list_any p xs ≡ nat_lt (position_or_len p xs) (length xs)
any_before p [] = refl
any_before p (x ∷ xs) = any_step (p x) (list_any p xs) (position_or_len p xs) (length xs) (any_before p xs)

-- the first one that passes
pub first_is : {X : Type 0} (p : X → Bool) (xs : List X) (i : ℕ) (d : X) → i < length xs → ((j : ℕ) (e : X) → j < i → p (get_or xs j e) ≡ false) → p (get_or xs i d) ≡ true → i ≡ position_or_len p xs
first_is p xs i d lt before here = sym (position_or_len_is p xs i d (omega arith) (λ j less. before j d less) (λ inside. here))

-- none passes
pub none_is : {X : Type 0} (p : X → Bool) (xs : List X) (i : ℕ) (d : X) → i ≡ length xs → ((j : ℕ) (e : X) → j < i → p (get_or xs j e) ≡ false) → i ≡ position_or_len p xs
none_is p xs i d end before = sym (position_or_len_is p xs i d (omega (arith, end)) (λ j less. before j d less) (λ inside. absurd (omega (arith, end))))

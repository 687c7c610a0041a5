-- The cells of a table that is written, name by name.
use Rattle.std.proofs.Common.{◌≡◌, ℕ, ◌+◌, ◌≤◌, List, [], ◌∷◌, ◌++◌, length, get_or, drop, Bool, true, false, Some, None, refl, sym, ap, ◌∙◌, append_assoc, append-nil, map, filter, cond, inl, inr}
use Rattle.std.specs.Prelude.{◌⊎◌, slice_get, is_some}
use Rattle.std.proofs.lemmas.Bool.{false≢true}
use Rattle.std.proofs.lemmas.List.{at_drop_all, at_drop_more}
use Rattle.std.proofs.lemmas.Option.{get_or_from_slice_get, slice_get_cases, slice_get_within}

-- what is made of some of a list, of its first and of the others
pub kept_cons : {X Y : Type 0} (p : X → Bool) (f : X → Y) (x : X) (xs : List X) → map f (filter p (x ∷ xs)) ≡ map f (filter p (x ∷ [])) ++ map f (filter p xs)
kept_cons p f x xs = go (p x)
  where
    go : (t : Bool) → map f (cond t (x ∷ filter p xs) (filter p xs)) ≡ map f (cond t (x ∷ []) []) ++ map f (filter p xs)
    go true = refl
    go false = refl

module _ {X Y : Type 0} (p : X → Bool) (f : X → Y) where
  pub kept_more : (xs : List X) (k : ℕ) (x : X) (done new whole : List Y) → slice_get xs k ≡ Some x → new ≡ done ++ map f (filter p (x ∷ []))
      → done ++ map f (filter p (drop k xs)) ≡ whole → new ++ map f (filter p (drop (k + 1) xs)) ≡ whole
  kept_more xs k x done new whole is put so_far =
      let G : List X → List Y = λ ys. map f (filter p ys) in
      let rest = G (drop (k + 1) xs) in
      let split : G (drop k xs) ≡ G (x ∷ []) ++ rest =
      at_drop_more G xs k x (slice_get_within xs k x is) ∙ ap (λ y. G (y ∷ drop (k + 1) xs)) (get_or_from_slice_get xs k x x is) ∙ kept_cons p f x (drop (k + 1) xs) in
      ap (λ (ys : List Y). ys ++ rest) put ∙ append_assoc done (G (x ∷ [])) rest ∙ ap (λ (ys : List Y). done ++ ys) (sym split) ∙ so_far

  past : (xs : List X) (k : ℕ) → slice_get xs k ≡ None → length xs ≤ k
  past xs k none = go (slice_get_cases xs k).1
    where
      go : ((x : X) × (Rattle.std.proofs.Common.◌<◌ k (length xs)) × (slice_get xs k ≡ Some x) × (get_or xs k x ≡ x)) ⊎ ((length xs ≤ k) × (slice_get xs k ≡ None)) → length xs ≤ k
      go (inl found) = absurd (false≢true (ap is_some (sym none ∙ found.2)))
      go (inr h) = h.0

  pub kept_end : (xs : List X) (k : ℕ) (done whole : List Y) → slice_get xs k ≡ None → done ++ map f (filter p (drop k xs)) ≡ whole → done ≡ whole
  kept_end xs k done whole none so_far =
      let G : List X → List Y = λ ys. map f (filter p ys) in
      sym (append-nil done) ∙ ap (λ (ys : List Y). done ++ ys) (sym (at_drop_all G xs k (past xs k none))) ∙ so_far

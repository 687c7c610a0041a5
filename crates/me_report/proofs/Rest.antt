-- Lines put one after the other, and those that are left.
use Rattle.std.proofs.Common.{◌≡◌, ℕ, ◌+◌, ◌<◌, ◌≤◌, List, ◌++◌, length, get_or, drop, sym, ap, ◌∙◌, Some, None, inl, inr, append_assoc}
use Rattle.std.specs.Prelude.{◌⊎◌, slice_get, is_some}
use Rattle.std.specs.List.{flat_map}
use Rattle.std.proofs.lemmas.Bool.{false≢true}
use Rattle.std.proofs.lemmas.List.{at_drop_more, at_drop_all, append-nil}
use Rattle.std.proofs.lemmas.Option.{slice_get_within, get_or_from_slice_get, slice_get_cases}

pub next_lines : {X : Type 0} (f : X → List ℕ) (xs : List X) (k : ℕ) (x : X) (done new whole : List ℕ) → slice_get xs k ≡ Some x → new ≡ done ++ f x → done ++ flat_map f (drop k xs) ≡ whole → new ++ flat_map f (drop (k + 1) xs) ≡ whole
next_lines f xs k x done new whole is put so_far =
    let rest = flat_map f (drop (k + 1) xs) in
    let split : flat_map f (drop k xs) ≡ f x ++ rest = at_drop_more (flat_map f) xs k x (slice_get_within xs k x is) ∙ ap (λ y. f y ++ rest) (get_or_from_slice_get xs k x x is) in
    ap (λ (ys : List ℕ). ys ++ rest) put ∙ append_assoc done (f x) rest ∙ ap (λ (ys : List ℕ). done ++ ys) (sym split) ∙ so_far

past : {X : Type 0} (xs : List X) (k : ℕ) → slice_get xs k ≡ None → length xs ≤ k
past {X = X} xs k none = go (slice_get_cases xs k).1
  where
    go : ((x : X) × (k < length xs) × (slice_get xs k ≡ Some x) × (get_or xs k x ≡ x)) ⊎ ((length xs ≤ k) × (slice_get xs k ≡ None)) → length xs ≤ k
    go (inl found) = absurd (false≢true (ap is_some (sym none ∙ found.2)))
    go (inr h) = h.0

pub last_lines : {X : Type 0} (f : X → List ℕ) (xs : List X) (k : ℕ) (done whole : List ℕ) → slice_get xs k ≡ None → done ++ flat_map f (drop k xs) ≡ whole → done ≡ whole
last_lines f xs k done whole none so_far = sym (append-nil done) ∙ ap (λ (ys : List ℕ). done ++ ys) (sym (at_drop_all (flat_map f) xs k (past xs k none))) ∙ so_far

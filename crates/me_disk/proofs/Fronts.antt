-- Fronts of lists.
use Rattle.std.proofs.Common.{◌≡◌, ℕ, ◌+◌, ◌-◌, ◌<◌, ◌≤◌, min, List, [], ◌++◌, length, take, drop, sym, ap, ◌∙◌, arith, length-drop, take-append-drop}
use Rattle.std.proofs.lemmas.List.{drop-drop, drop_all, take_rest}

-- a rest is its front, and what lies behind it
pub drop_split : {A : Type 0} → (at n : ℕ) (xs : List A) → drop at xs ≡ take n (drop at xs) ++ drop (at + n) xs
drop_split at n xs = sym (take-append-drop n (drop at xs)) ∙ ap (λ l. take n (drop at xs) ++ l) (drop-drop n at xs)

-- what a source gives of what it has left
pub gives_front : (xs new : List ℕ) (at n room : ℕ) → at ≤ length xs → length new ≡ room → n ≡ min (length (take (length xs - at) (drop at xs))) room → take n new ≡ take n (take (length xs - at) (drop at xs))
    → (drop at xs ≡ take n new ++ drop (at + n) xs) × (n ≡ 0 → 0 < length new → drop (at + n) xs ≡ [])
gives_front xs new at n room within same count front =
    let is : take n new ≡ take n (drop at xs) = front ∙ ap (take n) (take_rest xs at) in
    let few : n ≡ min (length xs - at) room = count ∙ ap (λ (l : List ℕ). min (length l) room) (take_rest xs at) ∙ ap (λ (k : ℕ). min k room) (length-drop at xs) in
    (drop_split at n xs ∙ ap (λ (l : List ℕ). l ++ drop (at + n) xs) (sym is), λ none some. drop_all (at + n) xs (omega arith))

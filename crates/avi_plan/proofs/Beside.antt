-- Spans before a range and behind it, by the places of a list.
use Rattle.std.proofs.Common.{ℕ, zero, suc, ◌+◌, ◌≤◌, ◌<◌, List, [], ◌∷◌, length, take, drop, get_or, arith}
use Rattle.std.specs.List.{AllByRecursion}
use Rattle.unit_plan.specs.declared.cut.CutAt.{CutAt}
use Rattle.avi_plan.specs.Row.{IsBeside}

all_front : (P : CutAt → Type 0) (xs : List CutAt) (j : ℕ) → j ≤ length xs → ((m : ℕ) (d : CutAt) → m < j → P (get_or xs m d)) → AllByRecursion P (take j xs)
all_front P [] zero le h = tt
all_front P [] (suc j) le h = tt
all_front P (x ∷ xs) zero le h = tt
all_front P (x ∷ xs) (suc j) le h = (h 0 x (omega arith), all_front P xs j (omega (arith, le)) (λ m d lt. h (suc m) d (omega (arith, lt))))

all_back : (P : CutAt → Type 0) (xs : List CutAt) (j : ℕ) → ((m : ℕ) (d : CutAt) → j ≤ m → m < length xs → P (get_or xs m d)) → AllByRecursion P (drop j xs)
all_back P [] zero h = tt
all_back P [] (suc j) h = tt
all_back P (x ∷ xs) zero h = (h 0 x (omega arith) (omega arith), all_back P xs zero (λ m d le lt. h (suc m) d (omega arith) (omega (arith, lt))))
all_back P (x ∷ xs) (suc j) h = all_back P xs j (λ m d le lt. h (suc m) d (omega (arith, le)) (omega (arith, lt)))

pub is_beside : (at next end j i : ℕ) (xs : List CutAt) → next ≤ end → j ≤ length xs → ((m : ℕ) (d : CutAt) → m < j → (get_or xs m d).span.at + (get_or xs m d).span.len ≤ at)
    → ((m : ℕ) (d : CutAt) → j ≤ m → m < i → next ≤ (get_or xs m d).span.at) → length xs ≤ i → IsBeside at next end (take j xs) (drop j xs)
is_beside at next end j i xs order few low high all = record {
  low_ends = all_front (λ (k : CutAt). k.span.at + k.span.len ≤ at) xs j few low;
  high_begins = all_back (λ (k : CutAt). next ≤ k.span.at) xs j (λ m d le lt. high m d le (omega (arith, lt, all)));
  inside = order;
}

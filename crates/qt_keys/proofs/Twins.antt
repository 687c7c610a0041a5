-- Values of which no two are the same, sorted or not.
use Rattle.std.proofs.Common.{◌≡◌, ℕ, zero, suc, ◌+◌, ◌-◌, ◌<◌, ◌≤◌, Bool, true, false, List, [], ◌∷◌, length, get_or, refl, sym, ap, ◌∙◌, arith, Ordering, subst, inl, inr, ◌⊎◌}
use Rattle.std.specs.Prelude.{◌||◌, ◌&&◌, not, map, nat_eq, IsPermutation, IsSorted}
use Rattle.std.specs.Str.{bytes_eq}
use Rattle.std.specs.Cmp.Lexicographic.{slice_cmp}
use Rattle.std.proofs.lemmas.Map.Text.{is_eq-slice_cmp}
use Rattle.std.proofs.lemmas.Bool.Decides.{nat_tests}
use denote.Ref.{Bor}
use Rattle.std.specs.List.{AllByRecursion, IsDistinct, list_any}
use Rattle.std.specs.Cmp.{IsTotalOrder}
use Rattle.std.specs.Ordering.{eq_by_cmp, is_eq, is_lt, nat_cmp}
use Rattle.std.specs.declared.cmp.Ordering.TheVariants.{Less, Equal, Greater}
use Rattle.std.proofs.lemmas.Bool.{cases_lt}
use Rattle.std.proofs.lemmas.Cmp.{eq_by_cmp_equiv}
use Rattle.std.proofs.lemmas.List.Sorted.{IsPermutation-sym, ranks_by, sorted_far}
use Rattle.std.proofs.lemmas.Map.Keys.{IsDistinct-IsPermutation, IsDistinct-from_apart, apart_from_distinct}
use Rattle.qt_keys.specs.Table.{all_differ}

module _ {K : Type 0} (e : K → K → Bool) where
  none_same : (x : K) (xs : List K) → list_any (e x) xs ≡ false → AllByRecursion (λ y. e x y ≡ false) xs
  none_same x [] h = tt
  none_same x (y ∷ ys) h = go (e x y) refl h (none_same x ys)
    where
      go : (t : Bool) → e x y ≡ t → (t || list_any (e x) ys) ≡ false → (list_any (e x) ys ≡ false → AllByRecursion (λ z. e x z ≡ false) ys) → AllByRecursion (λ z. e x z ≡ false) (y ∷ ys)
      go true i h more = absurd cc
      go false i h more = (i, more h)

  same_none : (x : K) (xs : List K) → AllByRecursion (λ y. e x y ≡ false) xs → list_any (e x) xs ≡ false
  same_none x [] h = refl
  same_none x (y ∷ ys) h = rw h.0 (same_none x ys h.1)

  pub distinct_of : (xs : List K) → all_differ e xs ≡ true → IsDistinct e xs
  unfolding IsDistinct
  distinct_of [] h = tt
  distinct_of (x ∷ xs) h = go (list_any (e x) xs) refl h (distinct_of xs)
    where
      go : (t : Bool) → list_any (e x) xs ≡ t → (not t && all_differ e xs) ≡ true → (all_differ e xs ≡ true → IsDistinct e xs) → IsDistinct e (x ∷ xs)
      go true i h more = absurd cc
      go false i h more = (none_same x xs i, more h)

  pub of_distinct : (xs : List K) → IsDistinct e xs → all_differ e xs ≡ true
  unfolding IsDistinct
  of_distinct [] h = refl
  of_distinct (x ∷ xs) h = rw (same_none x xs h.0) (of_distinct xs h.1)

  -- two of them are the same
  pub twins : (xs : List K) (i j : ℕ) (d : K) → i < j → j < length xs → e (get_or xs i d) (get_or xs j d) ≡ true → all_differ e xs ≡ false
  twins xs i j d lt in_list same = go (all_differ e xs) refl
    where
      go : (t : Bool) → all_differ e xs ≡ t → t ≡ false
      go false h = refl
      go true h = absurd (let apart = apart_from_distinct e xs i j d (distinct_of xs h) lt in_list in cc)

  pub differ_anyhow : ((x y : K) → e x y ≡ e y x) → (xs ys : List K) → IsPermutation xs ys → all_differ e ys ≡ all_differ e xs
  differ_anyhow flips xs ys p = go (all_differ e xs) (all_differ e ys) refl refl
    where
      go : (t u : Bool) → all_differ e xs ≡ t → all_differ e ys ≡ u → u ≡ t
      go true true h g = refl
      go false false h g = refl
      go true false h g = absurd (let d = of_distinct ys (IsDistinct-IsPermutation e flips xs ys p (distinct_of xs h)) in cc)
      go false true h g = absurd (let d = of_distinct xs (IsDistinct-IsPermutation e flips ys xs (IsPermutation-sym xs ys p) (distinct_of ys g)) in cc)

-- neighbours that differ, up to a place
abbrev pub Apart : {K : Type 0} → (K → K → Ordering) → List K → ℕ → Type 0
Apart {K} cmp xs n = (k : ℕ) (d : K) → k + 1 < n → eq_by_cmp cmp (get_or xs k d) (get_or xs (k + 1) d) ≡ false

pub apart_more : {K : Type 0} (cmp : K → K → Ordering) (xs : List K) (n : ℕ) → 1 ≤ n → Apart cmp xs n → ((d : K) → eq_by_cmp cmp (get_or xs (n - 1) d) (get_or xs n d) ≡ false) → Apart cmp xs (n + 1)
apart_more {K} cmp xs n low apart here k d lt = go (cases_lt (k + 1) n)
  where
    go : (k + 1 < n) ⊎ (n ≤ k + 1) → eq_by_cmp cmp (get_or xs k d) (get_or xs (k + 1) d) ≡ false
    go (inl less) = apart k d less
    go (inr more) = let e : k + 1 ≡ n = omega arith in let f : n - 1 ≡ k = omega arith in subst (λ (i : ℕ). eq_by_cmp cmp (get_or xs k d) (get_or xs i d) ≡ false) (sym e) (subst (λ (i : ℕ). eq_by_cmp cmp (get_or xs i d) (get_or xs n d) ≡ false) f (here d))

module _ {K : Type 0} (cmp : K → K → Ordering) (laws : IsTotalOrder cmp) where
  pub rises : (x y : K) → is_lt (cmp y x) ≡ false → is_eq (cmp x y) ≡ false → cmp x y ≡ Less
  rises x y low other = go (cmp x y) refl (cmp y x) refl (laws.antisymm y x)
    where
      go : (o : Ordering) → cmp x y ≡ o → (u : Ordering) → cmp y x ≡ u → cmp y x ≡ Rattle.std.specs.Ordering.ordering_reverse (cmp x y) → o ≡ Less
      go Less i u j flip = refl
      go Equal i u j flip = absurd (let f : is_eq (cmp x y) ≡ true = ap is_eq i in cc)
      go Greater i u j flip = absurd (let f : is_lt (cmp y x) ≡ true = ap is_lt (flip ∙ ap Rattle.std.specs.Ordering.ordering_reverse i) in cc)

  far : (xs : List K) → IsSorted cmp xs → Apart cmp xs (length xs) → (i j : ℕ) (d : K) → i < j → j < length xs → eq_by_cmp cmp (get_or xs i d) (get_or xs j d) ≡ false
  far xs up apart i j d lt in_list = go (cmp (get_or xs i d) (get_or xs j d)) refl
    where
      go : (o : Ordering) → cmp (get_or xs i d) (get_or xs j d) ≡ o → is_eq o ≡ false
      go Less h = refl
      go Greater h = refl
      go Equal h =
          let less = rises (get_or xs i d) (get_or xs (i + 1) d) (up i d (omega arith) (omega arith)) (apart i d (omega arith)) in
          let down : cmp (get_or xs j d) (get_or xs (i + 1) d) ≡ Less = sym (laws.congr (get_or xs i d) (get_or xs j d) (get_or xs (i + 1) d) h) ∙ less in
          let no = sorted_far (λ x y. is_lt (cmp x y)) (ranks_by laws (λ x. x)) xs up (i + 1) j d (omega arith) in_list in
          absurd (let yes : is_lt (cmp (get_or xs j d) (get_or xs (i + 1) d)) ≡ true = ap is_lt down in cc)

  pub sorted_differ : (xs : List K) → IsSorted cmp xs → Apart cmp xs (length xs) → all_differ (eq_by_cmp cmp) xs ≡ true
  sorted_differ xs up apart = of_distinct (eq_by_cmp cmp) xs (IsDistinct-from_apart (eq_by_cmp cmp) xs (far xs up apart))

  pub sorted_same : (xs ys : List K) → IsPermutation xs ys → all_differ (eq_by_cmp cmp) ys ≡ all_differ (eq_by_cmp cmp) xs
  sorted_same xs ys p = differ_anyhow (eq_by_cmp cmp) (eq_by_cmp_equiv laws).symm xs ys p

-- an element that is there, whatever is told past the end
any_default : {K : Type 0} (xs : List K) (i : ℕ) (d e : K) → i < length xs → get_or xs i d ≡ get_or xs i e
any_default [] i d e lt = absurd (omega arith)
any_default (x ∷ xs) zero d e lt = refl
any_default (x ∷ xs) (suc i) d e lt = any_default xs i d e (omega arith)

-- what a test of two elements says of them
pub tested : {K : Type 0} (cmp : K → K → Ordering) (xs : List K) (i j : ℕ) (d x y : K) (o : Ordering) (t : Bool) → i < length xs → j < length xs → x ≡ get_or xs i x → y ≡ get_or xs j y → o ≡ cmp x y → t ≡ is_eq o
    → eq_by_cmp cmp (get_or xs i d) (get_or xs j d) ≡ t
tested cmp xs i j d x y o t li lj xi yj oc te =
    ap (λ a. is_eq (cmp a (get_or xs j d))) (any_default xs i d x li ∙ sym xi) ∙ ap (λ b. is_eq (cmp x b)) (any_default xs j d y lj ∙ sym yj) ∙ ap is_eq (sym oc) ∙ sym te

-- ---- the same of lists that are seen otherwise

any_seen : {K J : Type 0} (f : K → J) (e : K → K → Bool) (d : J → J → Bool) → ((x y : K) → e x y ≡ d (f x) (f y)) → (x : K) (xs : List K) → list_any (e x) xs ≡ list_any (d (f x)) (map f xs)
any_seen f e d same x [] = refl
any_seen f e d same x (y ∷ ys) = rw (same x y, any_seen f e d same x ys) refl

pub differ_seen : {K J : Type 0} (f : K → J) (e : K → K → Bool) (d : J → J → Bool) → ((x y : K) → e x y ≡ d (f x) (f y)) → (xs : List K) → all_differ e xs ≡ all_differ d (map f xs)
differ_seen f e d same [] = refl
differ_seen f e d same (x ∷ xs) = rw (any_seen f e d same x xs, differ_seen f e d same xs) refl

map_same : {K : Type 0} (xs : List K) → map (λ x. x) xs ≡ xs
map_same [] = refl
map_same (x ∷ xs) = ap (λ (ys : List _). x ∷ ys) (map_same xs)

-- numbers that differ by their order
pub numbers_differ : (xs : List ℕ) → all_differ (eq_by_cmp nat_cmp) xs ≡ all_differ nat_eq xs
numbers_differ xs = differ_seen (λ x. x) (eq_by_cmp nat_cmp) nat_eq same xs ∙ ap (all_differ nat_eq) (map_same xs)
  where
    same : (x y : ℕ) → eq_by_cmp nat_cmp x y ≡ nat_eq x y
    same x y = grind (arith, nat_tests)

-- texts that differ by their order
pub texts_differ : (xs : List (Bor (List ℕ))) → all_differ (eq_by_cmp (λ x y. slice_cmp nat_cmp x.now y.now)) xs ≡ all_differ bytes_eq (map (λ x. x.now) xs)
texts_differ xs = differ_seen (λ x. x.now) (eq_by_cmp (λ x y. slice_cmp nat_cmp x.now y.now)) bytes_eq (λ x y. is_eq-slice_cmp x.now y.now) xs

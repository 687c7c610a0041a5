-- The index chunks by place.
use Rattle.std.proofs.Common.{◌≡◌, ◌∙◌, ℕ, zero, suc, ◌+◌, ◌-◌, ◌<◌, ◌≤◌, Bool, true, false, leb, List, [], ◌∷◌, length, map, get_or, refl, sym, ap, subst, inl, inr, arith}
use Rattle.std.specs.Prelude.{if◌then◌else◌, nat_lt, Some, None}
use Rattle.std.specs.List.{All, AllByRecursion, sum_by}
use Rattle.std.proofs.lemmas.List.Sums.{sum_by-cons}
use Rattle.std.proofs.lemmas.List.Sorted.{All-permutation, sum_by-IsPermutation}
use Rattle.std.specs.List.Sorted.{IsNonDecreasingBy, IsPermutation}
use Rattle.std.proofs.lemmas.Bool.{cases_lt, le-leb, lt-leb, le-ltb, lt-ltb, ltb-true, ltb-false}
use Rattle.std.specs.declared.result.Result.TheVariants.{Err}
use Rattle.part_tree.specs.declared.why.ReadFault.{ReadFault}
use Rattle.part_tree.specs.declared.why.ReadFault.TheVariants as Fault
use Rattle.part_tree.specs.Ranges.{Ascends}
use Rattle.part_tree.specs.declared.why.Why.TheVariants.{IndexOverlap}
use Rattle.container_model.specs.Tables.{Table, named}
use Rattle.container_model.specs.Tests.{first}
use Rattle.avi_model.specs.Support.{by_place, put_by_place}
use Rattle.avi_model.specs.Why.{overlap_tests}
use Rattle.avi_file.specs.declared.index.IndexChunk.{IndexChunk}
use Rattle.avi_file.specs.Indexes.{kept_of}
use Rattle.avi_file.specs.Order.{IsNamed, Orders, TestsApart, bodies_in}

-- ---- apart

-- what is left of the tables, whose chunks these are, has the tests of all
pub record ApartLeft (from : ℕ) (xs : List IndexChunk) (ts : List Table) : Type 0 where
  pub us : List Table
  pub are : xs ≡ map kept_of us
  pub tests : first (overlap_tests 0 ts) ≡ first (overlap_tests from us)

-- where what is left ascends, all do
abbrev pub AscendLeft : ℕ → List IndexChunk → List IndexChunk → Type 0
AscendLeft from xs all = Ascends from (bodies_in xs) → Ascends 0 (bodies_in all)

pub apart_next : (from : ℕ) (x : IndexChunk) (xs : List IndexChunk) (ts : List Table) → ApartLeft from (x ∷ xs) ts → from + 8 ≤ x.body.at → ApartLeft (x.body.at + x.body.len) xs ts
apart_next from x xs ts left far = go left.us left.are left.tests
  where
    go : (us : List Table) → x ∷ xs ≡ map kept_of us → first (overlap_tests 0 ts) ≡ first (overlap_tests from us) → ApartLeft (x.body.at + x.body.len) xs ts
    go [] e tests = absurd cc
    go (u ∷ us) e tests =
        let one : x ≡ kept_of u = cc in
        let rest : xs ≡ map kept_of us = cc in
        let place : x.body.at ≡ u.at = ap (λ (y : IndexChunk). y.body.at) one in
        let end : u.at + length u.body ≡ x.body.at + x.body.len = ap (λ (y : IndexChunk). y.body.at + y.body.len) (sym one) in
        record {
          us = us;
          are = rest;
          tests = tests ∙ ap (λ (t : Bool). if t then Some (IndexOverlap (u.at - 8)) else first (overlap_tests (u.at + length u.body) us)) (le-ltb u.at (from + 8) (omega arith)) ∙ ap (λ (p : ℕ). first (overlap_tests p us)) end;
        }

pub apart_cut : (from : ℕ) (x : IndexChunk) (xs : List IndexChunk) (ts : List Table) → ApartLeft from (x ∷ xs) ts → x.body.at < from + 8 → first (overlap_tests 0 ts) ≡ Some (IndexOverlap (x.body.at - 8))
apart_cut from x xs ts left near = go left.us left.are left.tests
  where
    go : (us : List Table) → x ∷ xs ≡ map kept_of us → first (overlap_tests 0 ts) ≡ first (overlap_tests from us) → first (overlap_tests 0 ts) ≡ Some (IndexOverlap (x.body.at - 8))
    go [] e tests = absurd cc
    go (u ∷ us) e tests =
        let one : x ≡ kept_of u = cc in
        let place : x.body.at ≡ u.at = ap (λ (y : IndexChunk). y.body.at) one in
        tests ∙ ap (λ (t : Bool). if t then Some (IndexOverlap (u.at - 8)) else first (overlap_tests (u.at + length u.body) us)) (lt-ltb u.at (from + 8) (omega arith)) ∙ ap (λ (p : ℕ). Some (IndexOverlap (p - 8))) (sym place)

pub apart_end : (from : ℕ) (ts : List Table) → ApartLeft from [] ts → first (overlap_tests 0 ts) ≡ None
apart_end from ts left = go left.us left.are left.tests
  where
    go : (us : List Table) → [] ≡ map kept_of us → first (overlap_tests 0 ts) ≡ first (overlap_tests from us) → first (overlap_tests 0 ts) ≡ None
    go [] e tests = tests
    go (u ∷ us) e tests = absurd cc

-- ---- of each

pub each_of : {X : Type 0} (P : X → Type 0) (xs : List X) → AllByRecursion P xs → All P xs
each_of P [] all k d lt = absurd (omega arith)
each_of P (x ∷ xs) all zero d lt = all.0
each_of P (x ∷ xs) all (suc k) d lt = each_of P xs all.1 k d (omega arith)

pub of_each : {X : Type 0} (P : X → Type 0) (xs : List X) → All P xs → AllByRecursion P xs
of_each P [] all = tt
of_each P (x ∷ xs) all = (all 0 x (omega arith), of_each P xs (λ k d lt. all (suc k) d (omega arith)))

pub moved_all : (P : IndexChunk → Type 0) (xs ys : List IndexChunk) → IsPermutation xs ys → AllByRecursion P xs → AllByRecursion P ys
moved_all P xs ys moves all = of_each P ys (All-permutation P xs ys moves (each_of P xs all))

-- ---- sorted lists of the same chunks

abbrev place_of : IndexChunk → ℕ
place_of x = x.body.at

abbrev Rises : ℕ → List IndexChunk → Type 0
Rises low [] = Unit {0}
Rises low (x ∷ xs) = (low ≤ place_of x) × Rises (place_of x) xs

rises_from : (low : ℕ) (xs : List IndexChunk) → IsNonDecreasingBy place_of xs → ((d : IndexChunk) → 0 < length xs → low ≤ place_of (get_or xs 0 d)) → Rises low xs
rises_from low [] up first_is = tt
rises_from low (x ∷ xs) up first_is = (first_is x (omega arith), rises_from (place_of x) xs (λ i j d le lt. up (suc i) (suc j) d (omega arith) (omega arith)) (λ d lt. up 0 1 d (omega arith) (omega arith)))

abbrev by : ℕ → IndexChunk → ℕ
by p x = if leb (place_of x) p then 1 else 0

none_by : (low p : ℕ) (xs : List IndexChunk) → Rises low xs → p < low → sum_by (by p) xs ≡ 0
none_by low p [] up lt = refl
none_by low p (x ∷ xs) up lt =
    let far : by p x ≡ 0 = ap (λ (t : Bool). if t then 1 else 0) (lt-leb (place_of x) p (omega (arith, up.0))) in
    let rest : sum_by (by p) xs ≡ 0 = none_by (place_of x) p xs up.1 (omega (arith, up.0)) in
    sum_by-cons (by p) x xs ∙ omega (arith, far, rest)

-- a chunk that is one of a file
abbrev Known : List ℕ → IndexChunk → Type 0
Known b x = (p : ℕ) × (x ≡ kept_of (named b p))

same_known : (b : List ℕ) (x y : IndexChunk) → Known b x → Known b y → place_of x ≡ place_of y → x ≡ y
same_known b x y kx ky same =
    let px : place_of x ≡ kx.0 + 8 = ap place_of kx.1 in
    let py : place_of y ≡ ky.0 + 8 = ap place_of ky.1 in
    let place : kx.0 ≡ ky.0 = omega arith in
    kx.1 ∙ ap (λ (p : ℕ). kept_of (named b p)) place ∙ sym ky.1

abbrev SameSums : List IndexChunk → List IndexChunk → Type 0
SameSums xs ys = (f : IndexChunk → ℕ) → sum_by f xs ≡ sum_by f ys

not_before : (low : ℕ) (x y : IndexChunk) (xs ys : List IndexChunk) → Rises low (y ∷ ys) → SameSums (x ∷ xs) (y ∷ ys) → place_of x < place_of y → ⊥
not_before low x y xs ys up same lt =
    let p = place_of x in
    let one : by p x ≡ 1 = ap (λ (t : Bool). if t then 1 else 0) (le-leb (place_of x) p (omega arith)) in
    let none : sum_by (by p) (y ∷ ys) ≡ 0 = none_by (place_of y) p (y ∷ ys) (let le : place_of y ≤ place_of y = omega arith in (le, up.1)) lt in
    absurd (omega (arith, one, none, sum_by-cons (by p) x xs, same (by p)))

unique : (b : List ℕ) (low : ℕ) (xs ys : List IndexChunk) → Rises low xs → Rises low ys → SameSums xs ys → AllByRecursion (Known b) xs → AllByRecursion (Known b) ys → xs ≡ ys
unique b low [] [] up down same kx ky = refl
unique b low [] (y ∷ ys) up down same kx ky = absurd (omega (arith, same (λ z. 1), sum_by-cons (λ z. 1) y ys))
unique b low (x ∷ xs) [] up down same kx ky = absurd (omega (arith, same (λ z. 1), sum_by-cons (λ z. 1) x xs))
unique b low (x ∷ xs) (y ∷ ys) up down same kx ky =
    let place : place_of x ≡ place_of y = elim (cases_lt (place_of x) (place_of y)) [
      | inl lt ↦ absurd (not_before low x y xs ys down same lt)
      | inr le ↦ elim (cases_lt (place_of y) (place_of x)) [
        | inl lt ↦ absurd (not_before low y x ys xs up (λ f. sym (same f)) lt)
        | inr le_too ↦ omega arith
      ]
    ] in
    let one : x ≡ y = same_known b x y kx.0 ky.0 place in
    let rest : SameSums xs ys = λ f. omega (arith, same f, sum_by-cons f x xs, sum_by-cons f y ys, ap f one) in
    let later : Rises (place_of x) ys = subst (λ (p : ℕ). Rises p ys) (sym place) down.1 in
    ap (λ (z : IndexChunk). z ∷ xs) one ∙ ap (λ (zs : List IndexChunk). y ∷ zs) (unique b (place_of x) xs ys up.1 later rest kx.1 ky.1)

-- ---- the model's order

sums_put : (f : IndexChunk → ℕ) (t : Table) (us : List Table) → sum_by f (map kept_of (put_by_place t us)) ≡ f (kept_of t) + sum_by f (map kept_of us)
sums_put f t [] = sum_by-cons f (kept_of t) []
sums_put f t (u ∷ us) = go (nat_lt t.at u.at) (sums_put f t us)
  where
    go : (s : Bool) → sum_by f (map kept_of (put_by_place t us)) ≡ f (kept_of t) + sum_by f (map kept_of us) → sum_by f (map kept_of (if s then t ∷ (u ∷ us) else u ∷ put_by_place t us)) ≡ f (kept_of t) + sum_by f (map kept_of (u ∷ us))
    go true e = sum_by-cons f (kept_of t) (map kept_of (u ∷ us))
    go false e = omega (arith, e, sum_by-cons f (kept_of u) (map kept_of (put_by_place t us)), sum_by-cons f (kept_of u) (map kept_of us))

pub sums_placed : (f : IndexChunk → ℕ) (ts : List Table) → sum_by f (map kept_of (by_place ts)) ≡ sum_by f (map kept_of ts)
sums_placed f [] = refl
sums_placed f (t ∷ ts) = omega (arith, sums_put f t (by_place ts), sums_placed f ts, sum_by-cons f (kept_of t) (map kept_of ts))

rises_put : (low : ℕ) (t : Table) (us : List Table) → Rises low (map kept_of us) → low ≤ t.at → Rises low (map kept_of (put_by_place t us))
rises_put low t [] up le = (le, tt)
rises_put low t (u ∷ us) up le = go (nat_lt t.at u.at) refl (λ near. rises_put u.at t us up.1 near)
  where
    go : (s : Bool) → nat_lt t.at u.at ≡ s → (u.at ≤ t.at → Rises u.at (map kept_of (put_by_place t us))) → Rises low (map kept_of (if s then t ∷ (u ∷ us) else u ∷ put_by_place t us))
    go true e later = let near : t.at ≤ u.at = omega (arith, ltb-true t.at u.at e) in (le, (near, up.1))
    go false e later = (up.0, later (omega (arith, ltb-false t.at u.at e)))

rises_placed : (ts : List Table) → Rises 0 (map kept_of (by_place ts))
rises_placed [] = tt
rises_placed (t ∷ ts) = rises_put 0 t (by_place ts) (rises_placed ts) (omega arith)

known_put : (b : List ℕ) (t : Table) (us : List Table) → Known b (kept_of t) → AllByRecursion (Known b) (map kept_of us) → AllByRecursion (Known b) (map kept_of (put_by_place t us))
known_put b t [] one all = (one, tt)
known_put b t (u ∷ us) one all = go (nat_lt t.at u.at) (known_put b t us one all.1)
  where
    go : (s : Bool) → AllByRecursion (Known b) (map kept_of (put_by_place t us)) → AllByRecursion (Known b) (map kept_of (if s then t ∷ (u ∷ us) else u ∷ put_by_place t us))
    go true later = (one, all)
    go false later = (all.0, later)

known_placed : (b : List ℕ) (ts : List Table) → AllByRecursion (IsNamed b) ts → AllByRecursion (Known b) (map kept_of (by_place ts))
known_placed b [] all = tt
known_placed b (t ∷ ts) all = known_put b t (by_place ts) ((all.0).place, ap kept_of (all.0).is) (known_placed b ts all.1)

known_all : (b : List ℕ) (ts : List Table) → AllByRecursion (IsNamed b) ts → AllByRecursion (Known b) (map kept_of ts)
known_all b [] all = tt
known_all b (t ∷ ts) all = (((all.0).place, ap kept_of (all.0).is), known_all b ts all.1)

-- a sorted list of the chunks is that of the model
pub sorted_is : (b : List ℕ) (ts : List Table) (xs ys : List IndexChunk) → AllByRecursion (IsNamed b) ts → xs ≡ map kept_of ts → IsPermutation xs ys → IsNonDecreasingBy place_of ys → ys ≡ map kept_of (by_place ts)
sorted_is b ts xs ys all same moves up =
    let known : AllByRecursion (Known b) ys = moved_all (Known b) xs ys moves (subst (AllByRecursion (Known b)) (sym same) (known_all b ts all)) in
    let sums : SameSums ys (map kept_of (by_place ts)) = λ f. sum_by-IsPermutation f xs ys moves ∙ ap (sum_by f) same ∙ sym (sums_placed f ts) in
    unique b 0 ys (map kept_of (by_place ts)) (rises_from 0 ys up (λ d lt. omega arith)) (rises_placed ts) sums known (known_placed b ts all)

pub apart_fault : (ts : List Table) (fault : ReadFault) → TestsApart 0 (by_place ts) (Err fault) → Orders ts (Err fault)
apart_fault ts (Fault.Why w) h = h
apart_fault ts Fault.Depot h = h
apart_fault ts Fault.Memory h = tt

-- Where places go.
use Rattle.std.proofs.Common.{◌≡◌, ℕ, zero, suc, ◌+◌, ◌-◌, ◌^◌, ◌<◌, ◌≤◌, List, [], ◌∷◌, length, get_or, Bool, true, false, nat_le, nat_lt, ◌&&◌, cond, Option, Some, None, is_some, refl, sym, ap, subst, ◌∙◌, arith}
use Rattle.std.specs.List.Sorted.{IsPartitionedBy, IsPartitionPoint}
use Rattle.std.proofs.lemmas.Bool.{and_parts, leb-true, ltb-true, le-leb}
use Rattle.part_tree.specs.declared.names.Span.{Span}
use Rattle.part_tree.specs.Moves.{Move, Ascend, holds, place, place_by}

-- a new place ends before 2^63
pub new_fits : (low : ℕ) (moves : List Move) (i : ℕ) (d : Move) → Ascend low moves → i < length moves → (get_or moves i d).1 + (get_or moves i d).0.len < 2 ^ 63
new_fits low [] i d h lt = absurd (omega arith)
new_fits low (m ∷ moves) zero d h lt = h.2
new_fits low (m ∷ moves) (suc i) d h lt = new_fits (m.0.at + m.0.len) moves i d h.3 (omega arith)

-- each range begins at or after the place from which they ascend
later : (low : ℕ) (moves : List Move) (i : ℕ) (d : Move) → Ascend low moves → i < length moves → low ≤ (get_or moves i d).0.at
later low [] i d h lt = absurd (omega arith)
later low (m ∷ moves) zero d h lt = h.0
later low (m ∷ moves) (suc i) d h lt = let rest = later (m.0.at + m.0.len) moves i d h.3 (omega arith) in let first = h.0 in omega arith

-- a range doesn't hold a place at or after its end
past : (s : Span) (at : ℕ) → s.at + s.len ≤ at → holds s at ≡ false
past s at end = go (holds s at) refl
  where
    go : (t : Bool) → holds s at ≡ t → t ≡ false
    go true h = absurd (omega (arith, ltb-true at (s.at + s.len) (and_parts (nat_le s.at at) (nat_lt at (s.at + s.len)) h).1))
    go false h = refl

-- nor one before its start
before : (s : Span) (at : ℕ) → nat_le s.at at ≡ false → holds s at ≡ false
before s at h = ap (λ t. t && nat_lt at (s.at + s.len)) h

skip : (m : Move) (moves : List Move) (at : ℕ) → holds m.0 at ≡ false → place (m ∷ moves) at ≡ place moves at
skip m moves at h = ap (λ t. cond t (Some (m.1 + (at - m.0.at))) (place moves at)) h

start_before : (s : Span) (at : ℕ) → holds s at ≡ true → s.at ≤ at
start_before s at h = leb-true s.at at (and_parts (nat_le s.at at) (nat_lt at (s.at + s.len)) h).0

-- the one range that holds a place gives its new place
pub placed_by : (low : ℕ) (moves : List Move) (i : ℕ) (d : Move) (at : ℕ) → Ascend low moves → i < length moves → holds (get_or moves i d).0 at ≡ true → place moves at ≡ place_by (get_or moves i d) at
placed_by low [] i d at h lt here = absurd (omega arith)
placed_by low (m ∷ moves) zero d at h lt here =
    let there = ap (λ t. cond t (Some (m.1 + (at - m.0.at))) (place moves at)) here in
    there ∙ sym (ap (λ t. cond t (Some (m.1 + (at - m.0.at))) None) here)
placed_by low (m ∷ moves) (suc i) d at h lt here =
    let more = later (m.0.at + m.0.len) moves i d h.3 (omega arith) in
    let far = start_before (get_or moves i d).0 at here in
    skip m moves at (past m.0 at (omega arith)) ∙ placed_by (m.0.at + m.0.len) moves i d at h.3 (omega arith) here

-- no range that begins at or before a place
none_holds : (moves : List Move) (at : ℕ) → ((i : ℕ) (d : Move) → i < length moves → nat_le (get_or moves i d).0.at at ≡ false) → place moves at ≡ None
none_holds [] at h = refl
none_holds (m ∷ moves) at h = skip m moves at (before m.0 at (h 0 m (omega arith))) ∙ none_holds moves at (λ i d lt. h (suc i) d (omega arith))

abbrev pub Begins : ℕ → Move → Bool
Begins at m = nat_le m.0.at at

-- ranges that ascend are partitioned by whether they begin at or before a place
pub partitioned : (low : ℕ) (moves : List Move) (at : ℕ) → Ascend low moves → IsPartitionedBy (Begins at) moves
partitioned low [] at h i j d le lt here = absurd (omega arith)
partitioned low (m ∷ moves) at h zero zero d le lt here = here
partitioned low (m ∷ moves) at h zero (suc j) d le lt here =
    let more = later (m.0.at + m.0.len) moves j d h.3 (omega arith) in
    let far = leb-true (get_or moves j d).0.at at here in
    le-leb m.0.at at (omega arith)
partitioned low (m ∷ moves) at h (suc i) zero d le lt here = absurd (omega arith)
partitioned low (m ∷ moves) at h (suc i) (suc j) d le lt here = partitioned (m.0.at + m.0.len) moves at h.3 i j d (omega arith) (omega arith) here

abbrev pub Cut : ℕ → List Move → ℕ → Type 0
Cut at moves n = IsPartitionPoint (λ m. Begins at m ≡ true) (λ m. Begins at m ≡ false) moves n

-- behind no range that begins at or before it no place is held
pub none_before : (moves : List Move) (at : ℕ) → Cut at moves 0 → place moves at ≡ None
none_before moves at c = none_holds moves at (λ i d lt. c.1 i d (omega arith) lt)

-- else the last of them alone may hold it
pub last_before : (low : ℕ) (moves : List Move) (at n : ℕ) (d : Move) → Ascend low moves → n < length moves → Cut at moves (suc n) → place moves at ≡ place_by (get_or moves n d) at
last_before low [] at n d h lt c = absurd (omega arith)
last_before low (m ∷ moves) at zero d h lt c = go (holds m.0 at) refl
  where
    rest : place moves at ≡ None
    rest = none_holds moves at (λ i e less. c.1 (suc i) e (omega arith) (omega arith))

    go : (t : Bool) → holds m.0 at ≡ t → place (m ∷ moves) at ≡ place_by m at
    go t e = ap (λ (p : Option ℕ). cond (holds m.0 at) (Some (m.1 + (at - m.0.at))) p) rest
last_before low (m ∷ moves) at (suc n) d h lt c =
    let more = later (m.0.at + m.0.len) moves n d h.3 (omega arith) in
    let far = leb-true (get_or moves n d).0.at at (c.0 (suc n) d (omega arith) (omega arith)) in
    skip m moves at (past m.0 at (omega arith))
    ∙ last_before (m.0.at + m.0.len) moves at n d h.3 (omega arith) ((λ i e low less. c.0 (suc i) e (omega arith) (omega arith)), (λ i e low less. c.1 (suc i) e (omega arith) (omega arith)))

-- a new place comes from a range that holds the place
found : (m : Move) (at : ℕ) → is_some (place_by m at) ≡ true → holds m.0 at ≡ true
found m at some = go (holds m.0 at) refl
  where
    go : (t : Bool) → holds m.0 at ≡ t → t ≡ true
    go true h = refl
    go false h = sym (ap (λ t. is_some (cond t (Some (m.1 + (at - m.0.at))) None)) h) ∙ some

-- a place that is found in some range is the new place
pub found_there : (moves : List Move) (i at : ℕ) (r : Option ℕ) → Ascend 0 moves → i < length moves → ((d : Move) → r ≡ place_by (get_or moves i d) at) → is_some r ≡ true → r ≡ place moves at
found_there moves i at r h lt is some =
    let d : Move = (record { at = 0; len = 0 }, 0) in
    is d ∙ sym (placed_by 0 moves i d at h lt (found (get_or moves i d) at (ap is_some (sym (is d)) ∙ some)))

-- the last range that begins at or before a place tells where it goes
pub last_tells : (moves : List Move) (n at : ℕ) (r : Option ℕ) → 0 < n → ((d : Move) → 0 < n → place moves at ≡ place_by (get_or moves (n - 1) d) at) → ((d : Move) → r ≡ place_by (get_or moves (n - 1) d) at) → r ≡ place moves at
last_tells moves n at r some last is = let d : Move = (record { at = 0; len = 0 }, 0) in is d ∙ sym (last d some)

-- the same for how many begin there
pub last_of : (moves : List Move) (at n : ℕ) (d : Move) → Ascend 0 moves → n ≤ length moves → Cut at moves n → 0 < n → place moves at ≡ place_by (get_or moves (n - 1) d) at
last_of moves at zero d h le c some = absurd (omega (arith, some))
last_of moves at (suc n) d h le c some =
    let less : suc n - 1 ≡ n = omega arith in
    last_before 0 moves at n d h (omega arith) c ∙ ap (λ (k : ℕ). place_by (get_or moves k d) at) (sym less)

pub none_of : (moves : List Move) (at n : ℕ) → Cut at moves n → n ≡ 0 → place moves at ≡ None
none_of moves at n c e = let P : ℕ → Type 0 = λ k. Cut at moves k in none_before moves at (subst P e c)

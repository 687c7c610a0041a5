-- The rows of a table of chunk places, read one after the other from the file.
use Rattle.std.proofs.Common.{◌≡◌, ◌∙◌, ℕ, zero, suc, ◌+◌, ◌-◌, ◌*◌, ◌≤◌, ◌<◌, Bool, true, false, cond, List, [], ◌∷◌, length, take, drop, get_or, refl, sym, ap, arith, Option, Some, zero-add, add-zero, add_comm, le_refl}
use Rattle.std.specs.Prelude.{◌||◌}
use Rattle.std.proofs.Math.Nat.{mul-suc, mul-zero}
use Rattle.std.specs.Int.{w32, from_be_bytes}
use Rattle.std.proofs.lemmas.List.{drop-drop, drop-take, length-take-le, take-take}
use Rattle.part_tree.specs.Ranges.{in_one, within}
use Rattle.part_tree.specs.declared.names.Span.{Span}
use Rattle.container_model.specs.Rows.{Width, field, numbers}
use Rattle.container_model.specs.Tests.{or_else}
use Rattle.container_model.specs.Written.{slice}
use Rattle.container_model.proofs.Windows.{length_slice}
use Rattle.mov_file.specs.Chunks.{HasRows, first_astray, places_of, width_of}
use Rattle.mov_file.proofs.Heads.{in_slice}

-- ---- a range of some number

pub held_at : (ms : List Span) (k : ℕ) (d : Span) (p : ℕ) → k < length ms → within (get_or ms k d) p 1 ≡ true → in_one ms p 1 ≡ true
held_at [] k d p lt e = absurd (omega (arith, lt))
held_at (m ∷ ms) zero d p lt e = ap (λ (t : Bool). t || in_one ms p 1) e
held_at (m ∷ ms) (suc k) d p lt e = or_true (within m p 1) (in_one ms p 1) (held_at ms k d p (omega (arith, lt)) e)
  where
    or_true : (a b : Bool) → b ≡ true → (a || b) ≡ true
    or_true true b e = refl
    or_true false b e = e

-- ---- rows of a page, one after the other

-- a row is the first of those that are left
pub numbers_next : (w : Width) (k at : ℕ) (x : List ℕ) → numbers w (suc k) (drop at x) ≡ field w at x ∷ numbers w k (drop (at + w.bytes) x)
numbers_next w k at x = ap (λ (y : List ℕ). field w at x ∷ numbers w k y) (drop-drop w.bytes at x)

-- the next row lies in one of the ranges
pub astray_more : (ms : List Span) (w : Width) (k at n : ℕ) (x : List ℕ) → in_one ms (field w at x) 1 ≡ true → first_astray ms n (numbers w (suc k) (drop at x)) ≡ first_astray ms (suc n) (numbers w k (drop (at + w.bytes) x))
astray_more ms w k at n x t =
    let rest = numbers w k (drop (at + w.bytes) x) in
    let here : first_astray ms n (field w at x ∷ rest) ≡ first_astray ms (suc n) rest = rw t refl in
    ap (first_astray ms n) (numbers_next w k at x) ∙ here

-- the next row lies in none
pub astray_here : (ms : List Span) (w : Width) (k at n : ℕ) (x : List ℕ) → in_one ms (field w at x) 1 ≡ false → first_astray ms n (numbers w (suc k) (drop at x)) ≡ Some n
astray_here ms w k at n x t =
    let rest = numbers w k (drop (at + w.bytes) x) in
    let here : first_astray ms n (field w at x ∷ rest) ≡ Some n = rw t refl in
    ap (first_astray ms n) (numbers_next w k at x) ∙ here

-- ---- pages, one after the other

step_by : (w : Width) (k : ℕ) → w.bytes + w.bytes * k ≡ w.bytes * suc k
step_by w k = sym (mul-suc w.bytes k ∙ add_comm (w.bytes * k) w.bytes)

-- so many rows, and so many behind them
pub astray_split : (ms : List Span) (w : Width) (k m n : ℕ) (x : List ℕ) (found : Option ℕ) → first_astray ms n (numbers w k x) ≡ found
    → first_astray ms n (numbers w (k + m) x) ≡ or_else found (first_astray ms (n + k) (numbers w m (drop (w.bytes * k) x)))
astray_split ms w zero m n x found e =
    ap (λ (j : ℕ). first_astray ms n (numbers w j x)) (zero-add m)
    ∙ ap (λ (j : ℕ). first_astray ms j (numbers w m x)) (sym (add-zero n))
    ∙ ap (λ (j : ℕ). first_astray ms (n + 0) (numbers w m (drop j x))) (sym (mul-zero w.bytes))
    ∙ ap (λ (o : Option ℕ). or_else o (first_astray ms (n + 0) (numbers w m (drop (w.bytes * 0) x)))) e
astray_split ms w (suc k) m n x found e =
    let one : suc k + m ≡ suc (k + m) = omega arith in
    ap (λ (j : ℕ). first_astray ms n (numbers w j x)) one ∙ go (in_one ms (w.get (take w.bytes x)) 1) refl e (λ h. astray_split ms w k m (suc n) (drop w.bytes x) found h)
  where
    go : (t : Bool) → in_one ms (w.get (take w.bytes x)) 1 ≡ t → cond (in_one ms (w.get (take w.bytes x)) 1) (first_astray ms (suc n) (numbers w k (drop w.bytes x))) (Some n) ≡ found
        → (first_astray ms (suc n) (numbers w k (drop w.bytes x)) ≡ found
        → first_astray ms (suc n) (numbers w (k + m) (drop w.bytes x)) ≡ or_else found (first_astray ms (suc n + k) (numbers w m (drop (w.bytes * k) (drop w.bytes x)))))
        → cond (in_one ms (w.get (take w.bytes x)) 1) (first_astray ms (suc n) (numbers w (k + m) (drop w.bytes x))) (Some n)
        ≡ or_else found (first_astray ms (n + suc k) (numbers w m (drop (w.bytes * suc k) x)))
    go true t h again =
        let rest = drop w.bytes x in
        let far : drop (w.bytes * k) rest ≡ drop (w.bytes * suc k) x = drop-drop (w.bytes * k) w.bytes x ∙ ap (λ (j : ℕ). drop j x) (step_by w k) in
        let count : suc n + k ≡ n + suc k = omega arith in
        let here : first_astray ms (suc n) (numbers w k rest) ≡ found = ap (λ (u : Bool). cond u (first_astray ms (suc n) (numbers w k rest)) (Some n)) (sym t) ∙ h in
        ap (λ (u : Bool). cond u (first_astray ms (suc n) (numbers w (k + m) rest)) (Some n)) t
        ∙ again here
        ∙ ap (λ (j : ℕ). or_else found (first_astray ms j (numbers w m (drop (w.bytes * k) rest)))) count
        ∙ ap (λ (y : List ℕ). or_else found (first_astray ms (n + suc k) (numbers w m y))) far
    go false t h again =
        let rest = drop w.bytes x in
        let here : Some n ≡ found = ap (λ (u : Bool). cond u (first_astray ms (suc n) (numbers w k rest)) (Some n)) (sym t) ∙ h in
        ap (λ (u : Bool). cond u (first_astray ms (suc n) (numbers w (k + m) rest)) (Some n)) t
        ∙ ap (λ (o : Option ℕ). or_else o (first_astray ms (n + suc k) (numbers w m (drop (w.bytes * suc k) x)))) here

-- rows in a range that holds them
step_in : (w : Width) (k m : ℕ) (x : List ℕ) → w.bytes ≤ m → numbers w k (take (m - w.bytes) (drop w.bytes x)) ≡ numbers w k (drop w.bytes x) → numbers w (suc k) (take m x) ≡ numbers w (suc k) x
step_in w k m x le again =
    let split : m ≡ w.bytes + (m - w.bytes) = omega arith in
    let tail : drop w.bytes (take m x) ≡ take (m - w.bytes) (drop w.bytes x) = ap (λ (i : ℕ). drop w.bytes (take i x)) split ∙ drop-take w.bytes (m - w.bytes) x in
    ap (λ (h : List ℕ). w.get h ∷ numbers w k (drop w.bytes (take m x))) (take-take w.bytes m x le)
    ∙ ap (λ (t : List ℕ). w.get (take w.bytes x) ∷ t) (ap (numbers w k) tail ∙ again)

pub rows_in : (wide : Bool) (k m : ℕ) (x : List ℕ) → (width_of wide).bytes * k ≤ m → numbers (width_of wide) k (take m x) ≡ numbers (width_of wide) k x
rows_in wide zero m x le = refl
rows_in true (suc k) m x le = step_in (width_of true) k m x (omega arith) (rows_in true k (m - 8) (drop 8 x) (omega arith))
rows_in false (suc k) m x le = step_in (width_of false) k m x (omega arith) (rows_in false k (m - 4) (drop 4 x) (omega arith))

-- a page of rows in a file
pub page_rows : (wide : Bool) (k at : ℕ) (b page : List ℕ) → page ≡ take ((width_of wide).bytes * k) (drop at b) → numbers (width_of wide) k page ≡ numbers (width_of wide) k (drop at b)
page_rows wide k at b page is = ap (numbers (width_of wide) k) is ∙ rows_in wide k ((width_of wide).bytes * k) (drop at b) (le_refl ((width_of wide).bytes * k))

-- the row behind one
pub next_row : (wide : Bool) (r : ℕ) → (width_of wide).bytes * r + (width_of wide).bytes ≡ (width_of wide).bytes * (r + 1)
next_row true r = omega arith
next_row false r = omega arith

-- the rows that are left, by a page of them
pub astray_by_page : (ms : List Span) (wide : Bool) (n s count from : ℕ) (b : List ℕ) (found : Option ℕ) → n + s ≤ count → first_astray ms (n + 1) (numbers (width_of wide) s (drop (from + (width_of wide).bytes * n) b)) ≡ found
    → first_astray ms (n + 1) (numbers (width_of wide) (count - n) (drop (from + (width_of wide).bytes * n) b))
    ≡ or_else found (first_astray ms (n + s + 1) (numbers (width_of wide) (count - (n + s)) (drop (from + (width_of wide).bytes * (n + s)) b)))
astray_by_page ms wide n s count from b found le e =
    let w = width_of wide in
    let x = drop (from + w.bytes * n) b in
    let m = count - (n + s) in
    let split : count - n ≡ s + m = omega (arith, le) in
    let on : n + 1 + s ≡ n + s + 1 = omega arith in
    let far : drop (w.bytes * s) x ≡ drop (from + w.bytes * (n + s)) b = drop-drop (w.bytes * s) (from + w.bytes * n) b ∙ ap (λ (j : ℕ). drop j b) (pages_on wide from n s) in
    ap (λ (j : ℕ). first_astray ms (n + 1) (numbers w j x)) split
    ∙ astray_split ms w s m (n + 1) x found e
    ∙ ap (λ (j : ℕ). or_else found (first_astray ms j (numbers w m (drop (w.bytes * s) x)))) on
    ∙ ap (λ (y : List ℕ). or_else found (first_astray ms (n + s + 1) (numbers w m y))) far
  where
    pages_on : (wide : Bool) (from n s : ℕ) → from + (width_of wide).bytes * n + (width_of wide).bytes * s ≡ from + (width_of wide).bytes * (n + s)
    pages_on true from n s = omega arith
    pages_on false from n s = omega arith

-- a page that was read of a file
pub page_is : (page old main b : List ℕ) (at from k : ℕ) → page ≡ take (length old) (drop at main) → main ≡ b → length old ≡ k → at ≡ from → page ≡ take k (drop from b)
page_is page old main b at from k is same long there =
    is ∙ ap (λ (n : ℕ). take n (drop at main)) long ∙ ap (λ (n : ℕ). take k (drop n main)) there ∙ ap (λ (x : List ℕ). take k (drop from x)) same

-- a page of at most 4,096 rows, at the front of a buffer
pub page_long : (wide : Bool) (w n : ℕ) (buffer : List ℕ) → w ≡ (width_of wide).bytes → n ≤ 4096 → length buffer ≡ 32768 → length (take (w * n) buffer) ≡ (width_of wide).bytes * n
page_long true w n buffer is few long = let same : w * n ≡ 8 * n = ap (λ (k : ℕ). k * n) is in length-take-le (w * n) buffer (omega (arith, few, same, long)) ∙ same
page_long false w n buffer is few long = let same : w * n ≡ 4 * n = ap (λ (k : ℕ). k * n) is in length-take-le (w * n) buffer (omega (arith, few, same, long)) ∙ same

module _ (wide : Bool) (b : List ℕ) (at n count : ℕ) (inside : at + n ≤ length b) (read : count ≡ from_be_bytes w32 (take 4 (drop (at + 4) b))) (eight : 8 ≤ n) where
  count_told : count ≡ from_be_bytes w32 (take 4 (drop 4 (slice b at n)))
  count_told = read ∙ ap (from_be_bytes w32) (sym (in_slice b at n 4 4 (omega arith)))

  told : HasRows wide (slice b at n) → 8 + (width_of wide).bytes * count ≤ n
  told has =
      let long : 8 + (width_of wide).bytes * count ≤ length (slice b at n) = rw count_told has in
      rw (sym (length_slice b at n inside)) long

  pub rows_fit : HasRows wide (slice b at n) → (width_of wide).bytes * count ≤ n - 8
  rows_fit has = omega (arith, told has)

  pub rows_told : HasRows wide (slice b at n) → numbers (width_of wide) count (drop (at + 8) b) ≡ places_of wide (slice b at n)
  rows_told has =
      let w = width_of wide in
      let split : n ≡ 8 + (n - 8) = omega arith in
      let tail : drop 8 (slice b at n) ≡ take (n - 8) (drop (at + 8) b) = ap (λ (i : ℕ). drop 8 (take i (drop at b))) split ∙ drop-take 8 (n - 8) (drop at b) ∙ ap (take (n - 8)) (drop-drop 8 at b) in
      sym (rows_in wide count (n - 8) (drop (at + 8) b) (rows_fit has)) ∙ ap (numbers w count) (sym tail) ∙ ap (λ (k : ℕ). numbers w k (drop 8 (slice b at n))) count_told

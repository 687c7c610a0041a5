-- Changes of a row of cells.
use Rattle.std.proofs.Common.{◌≡◌, ◌∙◌, ◌≤◌, ◌<◌, ℕ, zero, suc, ◌+◌, Bool, true, false, List, [], ◌∷◌, ◌++◌, length, take, drop, get_or, set, refl, sym, ap, arith, subst, append_assoc}
use Rattle.std.proofs.lemmas.List.{at_drop_more, drop_all, take_all, append-nil, drop-set-lt, take_more_set}
use Rattle.std.specs.Prelude.{◌&&◌, ◌||◌, if◌then◌else◌}
use Rattle.edit_planner.specs.declared.cells.CellAt.{CellAt}
use Rattle.edit_planner.specs.declared.cells.Content.{Content}
use Rattle.edit_planner.specs.declared.cells.Content.TheVariants.{Kept, Body, Listed, Gap, Edited}
use Rattle.edit_planner.specs.Cells.{Follow}
use Rattle.edit_planner.specs.Row.{changed_row, count_row, new_at, is_gap, is_format, all_gaps, stops, put_new, place_for, place_from, starts_at}

-- ---- where a cell begins

pub start_at : (from k : ℕ) (xs : List CellAt) (d : CellAt) → k < length xs → (get_or xs k d).next ≡ starts_at from (suc k) xs
start_at from k [] d h = absurd (omega arith)
start_at from zero (x ∷ xs) d h = refl
start_at from (suc k) (x ∷ xs) d h = start_at x.next k xs d (omega arith)

-- ---- where a new cell goes

gap_no_format : (x : Content) → is_gap x ≡ true → is_format x ≡ false
gap_no_format (Kept id role) e = absurd cc
gap_no_format (Body body) e = absurd cc
gap_no_format (Listed list) e = absurd cc
gap_no_format Gap e = refl
gap_no_format (Edited now parts) e = absurd cc

and_no : (a : Bool) → (a && false) ≡ false
and_no true = refl
and_no false = refl

gaps_place : (b : Bool) (xs : List CellAt) → all_gaps xs ≡ true → place_for b xs ≡ 0
gaps_place b [] e = refl
gaps_place b (x ∷ xs) e = go (b && is_format x.content) (is_gap x.content && all_gaps xs) e
  where
    go : (f g : Bool) → g ≡ true → (if f || g then 0 else place_for b xs + 1) ≡ 0
    go true g e = refl
    go false true e = refl
    go false false e = absurd cc

pub place_is : (b : Bool) (k last : ℕ) (xs : List CellAt) → place_from b k last xs ≡ (if all_gaps xs then last else k + place_for b xs)
place_is b k last [] = refl
place_is b k last (x ∷ xs) = go (b && is_format x.content) (is_gap x.content) refl refl (all_gaps xs) refl (λ n. place_is b (k + 1) n xs)
  where
    none : is_gap x.content ≡ true → (b && is_format x.content) ≡ false
    none e = ap (λ (t : Bool). b && t) (gap_no_format x.content e) ∙ and_no b

    go : (f g : Bool) → (b && is_format x.content) ≡ f → is_gap x.content ≡ g → (a : Bool) → all_gaps xs ≡ a
        → ((n : ℕ) → place_from b (k + 1) n xs ≡ (if all_gaps xs then n else (k + 1) + place_for b xs))
        → (if f then k else place_from b (k + 1) (if g then last else k + 1) xs) ≡ (if g && a then last else k + (if f || (g && a) then 0 else place_for b xs + 1))
    go true true e i a h again = let n = none i in absurd cc
    go true false e i a h again = omega arith
    go false true e i true h again = again last ∙ ap (λ (t : Bool). if t then last else (k + 1) + place_for b xs) h
    go false true e i false h again = again last ∙ ap (λ (t : Bool). if t then last else (k + 1) + place_for b xs) h ∙ omega arith
    go false false e i true h again = again (k + 1) ∙ ap (λ (t : Bool). if t then k + 1 else (k + 1) + place_for b xs) h ∙ omega (arith, gaps_place b xs h)
    go false false e i false h again = again (k + 1) ∙ ap (λ (t : Bool). if t then k + 1 else (k + 1) + place_for b xs) h ∙ omega arith

pub place_found : (b : Bool) (xs : List CellAt) → place_from b 0 0 xs ≡ place_for b xs
place_found b xs = place_is b 0 0 xs ∙ go (all_gaps xs) refl
  where
    go : (a : Bool) → all_gaps xs ≡ a → (if a then 0 else 0 + place_for b xs) ≡ place_for b xs
    go true e = sym (gaps_place b xs e)
    go false e = omega arith

pub place_inside : (b : Bool) (xs : List CellAt) → place_for b xs ≤ length xs
place_inside b [] = omega arith
place_inside b (x ∷ xs) = go (stops b x xs) (place_inside b xs)
  where
    go : (t : Bool) → place_for b xs ≤ length xs → (if t then 0 else place_for b xs + 1) ≤ suc (length xs)
    go true h = omega arith
    go false h = omega arith

-- a step of the loop that looks for it
pub place_step : (b : Bool) (k last : ℕ) (xs : List CellAt) (i : ℕ) (x : CellAt) → i < length xs → x ≡ get_or xs i x
    → place_from b k last (drop i xs) ≡ (if b && is_format x.content then k else place_from b (k + 1) (if is_gap x.content then last else k + 1) (drop (i + 1) xs))
place_step b k last xs i x h e =
    at_drop_more (place_from b k last) xs i x h
    ∙ ap (λ (y : CellAt). if b && is_format y.content then k else place_from b (k + 1) (if is_gap y.content then last else k + 1) (drop (i + 1) xs)) (sym e)

-- ---- a cell put into a row

pub put_is : (b : Bool) (new : ℕ → CellAt) (from : ℕ) (xs : List CellAt) → put_new b new from xs ≡ take (place_for b xs) xs ++ new (starts_at from (place_for b xs) xs) ∷ drop (place_for b xs) xs
put_is b new from [] = refl
put_is b new from (x ∷ xs) = go (stops b x xs) (put_is b new x.next xs)
  where
    more : (n : ℕ) → take (n + 1) (x ∷ xs) ++ new (starts_at from (n + 1) (x ∷ xs)) ∷ drop (n + 1) (x ∷ xs) ≡ x ∷ (take n xs ++ new (starts_at x.next n xs) ∷ drop n xs)
    more n = let e : n + 1 ≡ suc n = omega arith in ap (λ (m : ℕ). take m (x ∷ xs) ++ new (starts_at from m (x ∷ xs)) ∷ drop m (x ∷ xs)) e

    go : (t : Bool) → put_new b new x.next xs ≡ take (place_for b xs) xs ++ new (starts_at x.next (place_for b xs) xs) ∷ drop (place_for b xs) xs
        → (if t then new from ∷ (x ∷ xs) else x ∷ put_new b new x.next xs)
        ≡ take (if t then 0 else place_for b xs + 1) (x ∷ xs) ++ new (starts_at from (if t then 0 else place_for b xs + 1) (x ∷ xs)) ∷ drop (if t then 0 else place_for b xs + 1) (x ∷ xs)
    go true h = refl
    go false h = ap (λ (ys : List CellAt). x ∷ ys) h ∙ sym (more (place_for b xs))

pub put_done : (b : Bool) (new : ℕ → CellAt) (from k at : ℕ) (xs ys zs : List CellAt) → ys ≡ xs → zs ≡ xs → k ≡ place_for b ys → at ≡ starts_at from k zs
    → take k xs ++ new at ∷ drop k xs ≡ put_new b new from xs
put_done b new from k at xs ys zs y z e s =
    let place : k ≡ place_for b xs = e ∙ ap (place_for b) y in
    let start : at ≡ starts_at from k xs = s ∙ ap (starts_at from k) z in
    ap (λ (n : ℕ). take k xs ++ new n ∷ drop k xs) start ∙ ap (λ (n : ℕ). take n xs ++ new (starts_at from n xs) ∷ drop n xs) place ∙ sym (put_is b new from xs)

-- ---- cells that change where they stand

-- one cell more of a loop that changes them
pub change_step : (q : Content → Bool) (g : ℕ → CellAt → CellAt) (n m : ℕ) (xs whole : List CellAt) (i : ℕ) (x y d : CellAt) → i < length xs → x ≡ get_or xs i d
    → y ≡ (if q x.content then g n x else x) → m ≡ (if q x.content then n + 1 else n)
    → take i xs ++ changed_row q g n (drop i xs) ≡ whole → take (i + 1) (set xs i y) ++ changed_row q g m (drop (i + 1) (set xs i y)) ≡ whole
change_step q g n m xs whole i x y d lt here now count left =
    ap (λ (ys : List CellAt). take (i + 1) (set xs i y) ++ changed_row q g m ys) (drop-set-lt (i + 1) xs i y (omega arith))
    ∙ ap (λ (ys : List CellAt). ys ++ changed_row q g m (drop (i + 1) xs)) (take_more_set xs i y lt)
    ∙ append_assoc (take i xs) (y ∷ []) (changed_row q g m (drop (i + 1) xs))
    ∙ ap (λ (ys : List CellAt). take i xs ++ ys) (go (q x.content) now count ∙ sym row)
    ∙ left
  where
    row : changed_row q g n (drop i xs) ≡ (if q x.content then g n x ∷ changed_row q g (n + 1) (drop (i + 1) xs) else x ∷ changed_row q g n (drop (i + 1) xs))
    row = at_drop_more (changed_row q g n) xs i d lt ∙ ap (λ (z : CellAt). if q z.content then g n z ∷ changed_row q g (n + 1) (drop (i + 1) xs) else z ∷ changed_row q g n (drop (i + 1) xs)) (sym here)

    go : (t : Bool) → y ≡ (if t then g n x else x) → m ≡ (if t then n + 1 else n)
        → y ∷ changed_row q g m (drop (i + 1) xs) ≡ (if t then g n x ∷ changed_row q g (n + 1) (drop (i + 1) xs) else x ∷ changed_row q g n (drop (i + 1) xs))
    go true e f = rw (e, f) refl
    go false e f = rw (e, f) refl

pub change_end : (q : Content → Bool) (g : ℕ → CellAt → CellAt) (n : ℕ) (xs whole : List CellAt) (i : ℕ) → length xs ≤ i → take i xs ++ changed_row q g n (drop i xs) ≡ whole → xs ≡ whole
change_end q g n xs whole i le left = sym (ap (λ (ys : List CellAt). take i xs ++ changed_row q g n ys) (drop_all i xs le) ∙ append-nil (take i xs) ∙ take_all i xs le) ∙ left

-- how many there are: so far, and of those that are left
pub count_step : (q : Content → Bool) (n m : ℕ) (xs : List CellAt) (whole i : ℕ) (x y d : CellAt) → i < length xs → x ≡ get_or xs i d → m ≡ (if q x.content then n + 1 else n)
    → n + count_row q (drop i xs) ≡ whole → m + count_row q (drop (i + 1) (set xs i y)) ≡ whole
count_step q n m xs whole i x y d lt here count left = go (q x.content) count row
  where
    row : count_row q (drop i xs) ≡ (if q x.content then count_row q (drop (i + 1) xs) + 1 else count_row q (drop (i + 1) xs))
    row = at_drop_more (count_row q) xs i d lt ∙ ap (λ (z : CellAt). if q z.content then count_row q (drop (i + 1) xs) + 1 else count_row q (drop (i + 1) xs)) (sym here)

    same : count_row q (drop (i + 1) (set xs i y)) ≡ count_row q (drop (i + 1) xs)
    same = ap (count_row q) (drop-set-lt (i + 1) xs i y (omega arith))

    go : (t : Bool) → m ≡ (if t then n + 1 else n) → count_row q (drop i xs) ≡ (if t then count_row q (drop (i + 1) xs) + 1 else count_row q (drop (i + 1) xs)) → m + count_row q (drop (i + 1) (set xs i y)) ≡ whole
    go true e f = omega (arith, same)
    go false e f = omega (arith, same)

pub count_end : (q : Content → Bool) (n : ℕ) (xs : List CellAt) (whole i : ℕ) → length xs ≤ i → n + count_row q (drop i xs) ≡ whole → n ≡ whole
count_end q n xs whole i le left = let e = ap (count_row q) (drop_all i xs le) in omega arith

-- ---- whatever the file

pub change_follows : (q : Content → Bool) (g : ℕ → CellAt → CellAt) → ((n : ℕ) (x : CellAt) → ((g n x).at ≡ x.at) × ((g n x).next ≡ x.next)) → (n at : ℕ) (xs : List CellAt) (end : ℕ) → Follow at xs end → Follow at (changed_row q g n xs) end
change_follows q g same n at [] end h = h
change_follows q g same n at (x ∷ xs) end h = go (q x.content) (λ m. change_follows q g same m x.next xs end h.3)
  where
    go : (t : Bool) → ((m : ℕ) → Follow x.next (changed_row q g m xs) end) → Follow at (if t then g n x ∷ changed_row q g (n + 1) xs else x ∷ changed_row q g n xs) end
    go true again =
        let s = same n x in
        (s.0 ∙ h.0, omega arith, omega arith, subst (λ (k : ℕ). Follow k (changed_row q g (n + 1) xs) end) (sym s.1) (again (n + 1)))
    go false again = (h.0, h.1, h.2, again n)

follow_end : (at : ℕ) (xs : List CellAt) (end : ℕ) → Follow at xs end → at ≤ end
follow_end at [] end h = omega arith
follow_end at (x ∷ xs) end h = omega arith

pub put_follows : (b : Bool) (content : Content) (at : ℕ) (xs : List CellAt) (end : ℕ) → Follow at xs end → Follow at (put_new b (new_at content) at xs) end
put_follows b content at [] end h = (refl, omega arith, omega arith, h)
put_follows b content at (x ∷ xs) end h = go (stops b x xs) (put_follows b content x.next xs end h.3)
  where
    go : (t : Bool) → Follow x.next (put_new b (new_at content) x.next xs) end → Follow at (if t then new_at content at ∷ (x ∷ xs) else x ∷ put_new b (new_at content) x.next xs) end
    go true again = (refl, omega arith, follow_end at (x ∷ xs) end h, h)
    go false again = (h.0, h.1, h.2, again)

pub count_few : (t : Bool) (n m i : ℕ) → m ≡ (if t then n + 1 else n) → n ≤ i → m ≤ i + 1
count_few true n m i e h = omega arith
count_few false n m i e h = omega arith

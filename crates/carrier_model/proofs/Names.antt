-- What an edit of the names in a stream's list leaves of its cells.
use Rattle.std.proofs.Common.{◌≡◌, ℕ, zero, suc, Bool, true, false, cond, List, [], ◌∷◌, ◌++◌, refl, ap}
use Rattle.std.specs.List.{flat_map, list_any, AllByRecursion}
use Rattle.container_model.specs.Chunk.{Chunk}
use Rattle.container_model.specs.Stood.{bare}
use Rattle.container_model.specs.Units.{Cell, kept, gap, edited, was, live}
use Rattle.container_model.proofs.Copied.{Quiet, Unseen}
use Rattle.container_model.proofs.Reread.{CellPads, IsPadded, ArePadded}
use Rattle.container_model.proofs.Units.{AllCells}
use Rattle.carrier_model.specs.Cells.{change, settle_cells}
use Rattle.carrier_model.specs.Names.{is_name, some_head, put_name, nth_name, put_names, name_cells}
use Rattle.carrier_model.proofs.Cells.{Gaps, Makes, was_acted, gaps_acted, cells_acted, pads_acted}
use Rattle.carrier_model.proofs.Quiet.{QuietAct, quiet_acted}

-- ---- a new name

was_put : (new : List Chunk) (xs : List Cell) → flat_map was (put_name (edited [] new) xs) ≡ flat_map was xs
was_put new [] = refl
was_put new (x ∷ xs) = go (some_head (x ∷ xs)) (was_put new xs)
  where
    go : (t : Bool) → flat_map was (put_name (edited [] new) xs) ≡ flat_map was xs → flat_map was (cond t (x ∷ put_name (edited [] new) xs) (edited [] new ∷ (x ∷ xs))) ≡ was x ++ flat_map was xs
    go true g = ap (λ (cs : List Chunk). was x ++ cs) g
    go false g = refl

gaps_put : (P : Chunk → Type 0) (new : List Chunk) (xs : List Cell) → Gaps P xs → Gaps P (put_name (edited [] new) xs)
gaps_put P new [] h = tt
gaps_put P new (x ∷ xs) h = go (some_head (x ∷ xs)) x h (λ g. gaps_put P new xs g)
  where
    go : (t : Bool) (x : Cell) → Gaps P (x ∷ xs) → (Gaps P xs → Gaps P (put_name (edited [] new) xs)) → Gaps P (cond t (x ∷ put_name (edited [] new) xs) (edited [] new ∷ (x ∷ xs)))
    go true (kept c) h again = again h
    go true (gap c) h again = (h.0, again h.1)
    go true (edited old now) h again = again h
    go false x h again = h

cells_put : (P : Chunk → Type 0) (new : List Chunk) → AllByRecursion P new → (xs : List Cell) → AllCells P xs → AllCells P (put_name (edited [] new) xs)
cells_put P new m [] h = (m, tt)
cells_put P new m (x ∷ xs) h = go (some_head (x ∷ xs)) x h (λ g. cells_put P new m xs g)
  where
    go : (t : Bool) (x : Cell) → AllCells P (x ∷ xs) → (AllCells P xs → AllCells P (put_name (edited [] new) xs)) → AllCells P (cond t (x ∷ put_name (edited [] new) xs) (edited [] new ∷ (x ∷ xs)))
    go true (kept c) h again = (h.0, again h.1)
    go true (gap c) h again = (h.0, again h.1)
    go true (edited old now) h again = (h.0, again h.1)
    go false x h again = (m, h)

pads_put : (new : List Chunk) → ArePadded new → (xs : List Cell) (left : List ℕ) → CellPads xs left → CellPads (put_name (edited [] new) xs) left
pads_put new m [] left h = (m, tt)
pads_put new m (x ∷ xs) left h = go (some_head (x ∷ xs)) x h (λ g. pads_put new m xs left g)
  where
    go : (t : Bool) (x : Cell) → CellPads (x ∷ xs) left → (CellPads xs left → CellPads (put_name (edited [] new) xs) left) → CellPads (cond t (x ∷ put_name (edited [] new) xs) (edited [] new ∷ (x ∷ xs))) left
    go true (kept c) h again = (rw (was_put new xs) h.0, again h.1)
    go true (gap c) h again = (rw (was_put new xs) h.0, again h.1)
    go true (edited old now) h again = (h.0, again h.1)
    go false x h again = (m, h)

quiet_put : (p : Chunk → Bool) (new : List Chunk) → Unseen p new → (xs : List Cell) → Quiet p xs → Quiet p (put_name (edited [] new) xs)
quiet_put p new m [] h = (tt, m, tt)
quiet_put p new m (x ∷ xs) h = go (some_head (x ∷ xs)) x h (λ g. quiet_put p new m xs g)
  where
    go : (t : Bool) (x : Cell) → Quiet p (x ∷ xs) → (Quiet p xs → Quiet p (put_name (edited [] new) xs)) → Quiet p (cond t (x ∷ put_name (edited [] new) xs) (edited [] new ∷ (x ∷ xs)))
    go true (kept c) h again = again h
    go true (gap c) h again = (h.0, again h.1)
    go true (edited old now) h again = (h.0, h.1, again h.2)
    go false x h again = (tt, m, h)

-- ---- all names

nth_made : (P : Chunk → Type 0) (new : List Chunk) → AllByRecursion P new → Makes P (change is_name (nth_name new))
nth_made P new m zero c = m
nth_made P new m (suc n) c = tt

pub was_names : (new : List Chunk) (xs : List Cell) → flat_map was (name_cells new xs) ≡ flat_map was xs
was_names new xs = go (list_any is_name (flat_map live xs)) new
  where
    go : (t : Bool) (new : List Chunk) → flat_map was (cond t (settle_cells is_name (nth_name new) 0 xs) (put_names new xs)) ≡ flat_map was xs
    go true new = was_acted (change is_name (nth_name new)) xs
    go false [] = refl
    go false (c ∷ cs) = was_put (c ∷ cs) xs

pub gaps_names : (P : Chunk → Type 0) (new : List Chunk) (xs : List Cell) → Gaps P xs → Gaps P (name_cells new xs)
gaps_names P new xs h = go (list_any is_name (flat_map live xs)) new
  where
    go : (t : Bool) (new : List Chunk) → Gaps P (cond t (settle_cells is_name (nth_name new) 0 xs) (put_names new xs))
    go true new = gaps_acted P (change is_name (nth_name new)) xs h
    go false [] = h
    go false (c ∷ cs) = gaps_put P (c ∷ cs) xs h

pub cells_names : (P : Chunk → Type 0) (new : List Chunk) → AllByRecursion P new → (xs : List Cell) → AllCells P xs → AllCells P (name_cells new xs)
cells_names P new m xs h = go (list_any is_name (flat_map live xs)) new m
  where
    go : (t : Bool) (new : List Chunk) → AllByRecursion P new → AllCells P (cond t (settle_cells is_name (nth_name new) 0 xs) (put_names new xs))
    go true new m = cells_acted P (change is_name (nth_name new)) (nth_made P new m) xs h
    go false [] m = h
    go false (c ∷ cs) m = cells_put P (c ∷ cs) m xs h

pub pads_names : (new : List Chunk) → ArePadded new → (xs : List Cell) (left : List ℕ) → CellPads xs left → CellPads (name_cells new xs) left
pads_names new m xs left h = go (list_any is_name (flat_map live xs)) new m
  where
    go : (t : Bool) (new : List Chunk) → ArePadded new → CellPads (cond t (settle_cells is_name (nth_name new) 0 xs) (put_names new xs)) left
    go true new m = pads_acted (change is_name (nth_name new)) (nth_made IsPadded new m) xs left h
    go false [] m = h
    go false (c ∷ cs) m = pads_put (c ∷ cs) m xs left h

-- a test that sees no name
pub quiet_names : (p : Chunk → Bool) → ((c : Chunk) → is_name c ≡ true → p (bare c) ≡ false) → (new : List Chunk) → Unseen p new → (xs : List Cell) → Quiet p xs → Quiet p (name_cells new xs)
quiet_names p none new m xs h = go (list_any is_name (flat_map live xs)) new m
  where
    act : (new : List Chunk) → Unseen p new → QuietAct p (change is_name (nth_name new))
    act new m zero c is = (none c is, m)
    act new m (suc n) c is = (none c is, tt)

    go : (t : Bool) (new : List Chunk) → Unseen p new → Quiet p (cond t (settle_cells is_name (nth_name new) 0 xs) (put_names new xs))
    go true new m = quiet_acted p (change is_name (nth_name new)) (act new m) xs h
    go false [] m = h
    go false (c ∷ cs) m = quiet_put p (c ∷ cs) m xs h

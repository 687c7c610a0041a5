-- A change of cells is the same change of what stands there now, and of nothing that stood there.
use Rattle.std.proofs.Common.{◌≡◌, ℕ, Bool, true, false, cond, List, [], ◌∷◌, ◌++◌, length, refl, sym, ap, ◌∙◌, append_assoc}
use Rattle.std.specs.Prelude.{◌||◌}
use Rattle.std.specs.List.{flat_map, AllByRecursion}
use Rattle.std.proofs.lemmas.List.{append-nil}
use Rattle.std.proofs.lemmas.List.Concat.{flat_map-append}
use Rattle.container_model.specs.Chunk.{Chunk, PadStands, spell_all}
use Rattle.container_model.specs.Units.{Cell, kept, gap, edited, was, live}
use Rattle.container_model.proofs.Units.{AllCells, All-both}
use Rattle.container_model.proofs.Reread.{CellPads, IsPadded, ArePadded}
use Rattle.carrier_model.specs.Cells.{Change, leave, become, changed, changed_cell, change_at, counted, count_all, settle, settle_cells, Test, Side, behind, before, meets, some_meets, beside, insert, only_gaps, new_cell, insert_cell, Act, nothing, change, add, acted, acted_cells}

-- ---- what stands there now

settle-append : (p : Chunk → Bool) (f : ℕ → Chunk → Change) (n : ℕ) (a b : List Chunk) → settle p f n (a ++ b) ≡ settle p f n a ++ settle p f (count_all p n a) b
settle-append p f n [] b = refl
settle-append p f n (c ∷ a) b = ap (λ (x : List Chunk). changed (change_at p f n c) c ++ x) (settle-append p f (counted p n c) a b) ∙ sym (append_assoc (changed (change_at p f n c) c) _ _)

live_changed : (d : Change) (c : Chunk) → live (changed_cell d c) ≡ changed d c
live_changed leave c = refl
live_changed (become cs) c = refl

was_changed : (d : Change) (c : Chunk) → was (changed_cell d c) ≡ c ∷ []
was_changed leave c = refl
was_changed (become cs) c = refl

live_settle : (p : Chunk → Bool) (f : ℕ → Chunk → Change) (n : ℕ) (xs : List Cell) → flat_map live (settle_cells p f n xs) ≡ settle p f n (flat_map live xs)
live_settle p f n [] = refl
live_settle p f n (kept c ∷ xs) = rw (live_changed (change_at p f n c) c, live_settle p f (counted p n c) xs) refl
live_settle p f n (gap c ∷ xs) = live_settle p f n xs
live_settle p f n (edited old now ∷ xs) = rw (live_settle p f (count_all p n now) xs) (sym (settle-append p f n now (flat_map live xs)))

insert_here : (s : Side) (t : Test) (c : Chunk) (a b : List Chunk) → some_meets t a ≡ true → insert s t c (a ++ b) ≡ insert s t c a ++ b
insert_here s t c [] b h = absurd cc
insert_here s t c (d ∷ a) b h = go (meets t d) h (insert_here s t c a b)
  where
    go : (m : Bool) → (m || some_meets t a) ≡ true → (some_meets t a ≡ true → insert s t c (a ++ b) ≡ insert s t c a ++ b)
        → cond m (beside s c d ++ (a ++ b)) (d ∷ insert s t c (a ++ b)) ≡ cond m (beside s c d ++ a) (d ∷ insert s t c a) ++ b
    go true h again = sym (append_assoc (beside s c d) a b)
    go false h again = ap (λ (x : List Chunk). d ∷ x) (again h)

insert_past : (s : Side) (t : Test) (c : Chunk) (a b : List Chunk) → some_meets t a ≡ false → insert s t c (a ++ b) ≡ a ++ insert s t c b
insert_past s t c [] b h = refl
insert_past s t c (d ∷ a) b h = go (meets t d) h (insert_past s t c a b)
  where
    go : (m : Bool) → (m || some_meets t a) ≡ false → (some_meets t a ≡ false → insert s t c (a ++ b) ≡ a ++ insert s t c b)
        → cond m (beside s c d ++ (a ++ b)) (d ∷ insert s t c (a ++ b)) ≡ d ∷ (a ++ insert s t c b)
    go true h again = absurd cc
    go false h again = ap (λ (x : List Chunk). d ∷ x) (again h)

only_gaps_live : (xs : List Cell) → only_gaps xs ≡ true → flat_map live xs ≡ []
only_gaps_live [] e = refl
only_gaps_live (kept c ∷ xs) e = absurd cc
only_gaps_live (gap c ∷ xs) e = only_gaps_live xs e
only_gaps_live (edited old now ∷ xs) e = absurd cc

live_beside : (s : Side) (c d : Chunk) (xs : List Cell) → flat_map live (beside s (new_cell c) (kept d) ++ xs) ≡ beside s c d ++ flat_map live xs
live_beside behind c d xs = refl
live_beside before c d xs = refl

live_insert : (s : Side) (t : Test) (c : Chunk) (xs : List Cell) → flat_map live (insert_cell s t c xs) ≡ insert s t c (flat_map live xs)
live_insert s t c [] = refl
live_insert s t c (kept d ∷ xs) = go (meets t d) (live_insert s t c xs)
  where
    go : (m : Bool) → flat_map live (insert_cell s t c xs) ≡ insert s t c (flat_map live xs)
        → flat_map live (cond m (beside s (new_cell c) (kept d) ++ xs) (kept d ∷ insert_cell s t c xs)) ≡ cond m (beside s c d ++ flat_map live xs) (d ∷ insert s t c (flat_map live xs))
    go true h = live_beside s c d xs
    go false h = ap (λ (x : List Chunk). d ∷ x) h
live_insert s t c (gap d ∷ xs) = go (only_gaps xs) refl (live_insert s t c xs)
  where
    go : (m : Bool) → only_gaps xs ≡ m → flat_map live (insert_cell s t c xs) ≡ insert s t c (flat_map live xs)
        → flat_map live (cond m (new_cell c ∷ (gap d ∷ xs)) (gap d ∷ insert_cell s t c xs)) ≡ insert s t c (flat_map live xs)
    go true e h = rw (only_gaps_live xs e) refl
    go false e h = h
live_insert s t c (edited old now ∷ xs) = go (some_meets t now) refl (live_insert s t c xs)
  where
    go : (m : Bool) → some_meets t now ≡ m → flat_map live (insert_cell s t c xs) ≡ insert s t c (flat_map live xs)
        → flat_map live (cond m (edited old (insert s t c now) ∷ xs) (edited old now ∷ insert_cell s t c xs)) ≡ insert s t c (now ++ flat_map live xs)
    go true e h = sym (insert_here s t c now (flat_map live xs) e)
    go false e h = ap (λ (x : List Chunk). now ++ x) h ∙ sym (insert_past s t c now (flat_map live xs) e)

pub live_acted : (a : Act) (xs : List Cell) → flat_map live (acted_cells a xs) ≡ acted a (flat_map live xs)
live_acted nothing xs = refl
live_acted (change p f) xs = live_settle p f 0 xs
live_acted (add s t c) xs = live_insert s t c xs

-- ---- what stood there

was_settle : (p : Chunk → Bool) (f : ℕ → Chunk → Change) (n : ℕ) (xs : List Cell) → flat_map was (settle_cells p f n xs) ≡ flat_map was xs
was_settle p f n [] = refl
was_settle p f n (kept c ∷ xs) = rw (was_changed (change_at p f n c) c, was_settle p f (counted p n c) xs) refl
was_settle p f n (gap c ∷ xs) = ap (λ (x : List Chunk). c ∷ x) (was_settle p f n xs)
was_settle p f n (edited old now ∷ xs) = ap (λ (x : List Chunk). old ++ x) (was_settle p f (count_all p n now) xs)

was_beside : (s : Side) (c d : Chunk) (xs : List Cell) → flat_map was (beside s (new_cell c) (kept d) ++ xs) ≡ d ∷ flat_map was xs
was_beside behind c d xs = refl
was_beside before c d xs = refl

was_insert : (s : Side) (t : Test) (c : Chunk) (xs : List Cell) → flat_map was (insert_cell s t c xs) ≡ flat_map was xs
was_insert s t c [] = refl
was_insert s t c (kept d ∷ xs) = go (meets t d) (was_insert s t c xs)
  where
    go : (m : Bool) → flat_map was (insert_cell s t c xs) ≡ flat_map was xs → flat_map was (cond m (beside s (new_cell c) (kept d) ++ xs) (kept d ∷ insert_cell s t c xs)) ≡ d ∷ flat_map was xs
    go true h = was_beside s c d xs
    go false h = ap (λ (x : List Chunk). d ∷ x) h
was_insert s t c (gap d ∷ xs) = go (only_gaps xs) (was_insert s t c xs)
  where
    go : (m : Bool) → flat_map was (insert_cell s t c xs) ≡ flat_map was xs → flat_map was (cond m (new_cell c ∷ (gap d ∷ xs)) (gap d ∷ insert_cell s t c xs)) ≡ d ∷ flat_map was xs
    go true h = refl
    go false h = ap (λ (x : List Chunk). d ∷ x) h
was_insert s t c (edited old now ∷ xs) = go (some_meets t now) (was_insert s t c xs)
  where
    go : (m : Bool) → flat_map was (insert_cell s t c xs) ≡ flat_map was xs → flat_map was (cond m (edited old (insert s t c now) ∷ xs) (edited old now ∷ insert_cell s t c xs)) ≡ old ++ flat_map was xs
    go true h = refl
    go false h = ap (λ (x : List Chunk). old ++ x) h

pub was_acted : (a : Act) (xs : List Cell) → flat_map was (acted_cells a xs) ≡ flat_map was xs
was_acted nothing xs = refl
was_acted (change p f) xs = was_settle p f 0 xs
was_acted (add s t c) xs = was_insert s t c xs

-- ---- what holds of each padding

abbrev pub Gaps : (Chunk → Type 0) → List Cell → Type 0
Gaps P [] = Unit {0}
Gaps P (kept c ∷ xs) = Gaps P xs
Gaps P (gap c ∷ xs) = P c × Gaps P xs
Gaps P (edited old now ∷ xs) = Gaps P xs

gaps_changed : (P : Chunk → Type 0) (d : Change) (c : Chunk) (xs : List Cell) → Gaps P xs → Gaps P (changed_cell d c ∷ xs)
gaps_changed P leave c xs h = h
gaps_changed P (become cs) c xs h = h

gaps_settle : (P : Chunk → Type 0) (p : Chunk → Bool) (f : ℕ → Chunk → Change) (n : ℕ) (xs : List Cell) → Gaps P xs → Gaps P (settle_cells p f n xs)
gaps_settle P p f n [] h = tt
gaps_settle P p f n (kept c ∷ xs) h = gaps_changed P (change_at p f n c) c _ (gaps_settle P p f (counted p n c) xs h)
gaps_settle P p f n (gap c ∷ xs) h = (h.0, gaps_settle P p f n xs h.1)
gaps_settle P p f n (edited old now ∷ xs) h = gaps_settle P p f (count_all p n now) xs h

gaps_beside : (P : Chunk → Type 0) (s : Side) (c d : Chunk) (xs : List Cell) → Gaps P xs → Gaps P (beside s (new_cell c) (kept d) ++ xs)
gaps_beside P behind c d xs h = h
gaps_beside P before c d xs h = h

gaps_insert : (P : Chunk → Type 0) (s : Side) (t : Test) (c : Chunk) (xs : List Cell) → Gaps P xs → Gaps P (insert_cell s t c xs)
gaps_insert P s t c [] h = tt
gaps_insert P s t c (kept d ∷ xs) h = go (meets t d) (gaps_insert P s t c xs h)
  where
    go : (m : Bool) → Gaps P (insert_cell s t c xs) → Gaps P (cond m (beside s (new_cell c) (kept d) ++ xs) (kept d ∷ insert_cell s t c xs))
    go true g = gaps_beside P s c d xs h
    go false g = g
gaps_insert P s t c (gap d ∷ xs) h = go (only_gaps xs) (gaps_insert P s t c xs h.1)
  where
    go : (m : Bool) → Gaps P (insert_cell s t c xs) → Gaps P (cond m (new_cell c ∷ (gap d ∷ xs)) (gap d ∷ insert_cell s t c xs))
    go true g = h
    go false g = (h.0, g)
gaps_insert P s t c (edited old now ∷ xs) h = go (some_meets t now) (gaps_insert P s t c xs h)
  where
    go : (m : Bool) → Gaps P (insert_cell s t c xs) → Gaps P (cond m (edited old (insert s t c now) ∷ xs) (edited old now ∷ insert_cell s t c xs))
    go true g = h
    go false g = g

pub gaps_acted : (P : Chunk → Type 0) (a : Act) (xs : List Cell) → Gaps P xs → Gaps P (acted_cells a xs)
gaps_acted P nothing xs h = h
gaps_acted P (change p f) xs h = gaps_settle P p f 0 xs h
gaps_acted P (add s t c) xs h = gaps_insert P s t c xs h

pub All-parts : (P : Chunk → Type 0) (a b : List Chunk) → AllByRecursion P (a ++ b) → AllByRecursion P a × AllByRecursion P b
All-parts P [] b h = (tt, h)
All-parts P (c ∷ a) b h = let g = All-parts P a b h.1 in ((h.0, g.0), g.1)

-- ---- what is made

abbrev pub made_by : Change → List Chunk
made_by leave = []
made_by (become cs) = cs

abbrev pub Makes : (Chunk → Type 0) → Act → Type 0
Makes P nothing = Unit {0}
Makes P (change p f) = (n : ℕ) (c : Chunk) → AllByRecursion P (made_by (f n c))
Makes P (add s t c) = P c

made_at : (P : Chunk → Type 0) (p : Chunk → Bool) (f : ℕ → Chunk → Change) → Makes P (change p f) → (n : ℕ) (c : Chunk) → AllByRecursion P (made_by (change_at p f n c))
made_at P p f m n c = go (p c)
  where
    go : (t : Bool) → AllByRecursion P (made_by (cond t (f n c) leave))
    go true = m n c
    go false = tt

all_changed : (P : Chunk → Type 0) (d : Change) (c : Chunk) → P c → AllByRecursion P (made_by d) → AllByRecursion P (changed d c)
all_changed P leave c h g = (h, tt)
all_changed P (become cs) c h g = g

pub all_settle : (P : Chunk → Type 0) (p : Chunk → Bool) (f : ℕ → Chunk → Change) → Makes P (change p f) → (n : ℕ) (cs : List Chunk) → AllByRecursion P cs → AllByRecursion P (settle p f n cs)
all_settle P p f m n [] h = tt
all_settle P p f m n (c ∷ cs) h = All-both P (changed (change_at p f n c) c) _ (all_changed P (change_at p f n c) c h.0 (made_at P p f m n c)) (all_settle P p f m (counted p n c) cs h.1)

all_beside : (P : Chunk → Type 0) (s : Side) (c d : Chunk) (cs : List Chunk) → P c → P d → AllByRecursion P cs → AllByRecursion P (beside s c d ++ cs)
all_beside P behind c d cs m h g = (h, (m, g))
all_beside P before c d cs m h g = (m, (h, g))

pub all_insert : (P : Chunk → Type 0) (s : Side) (t : Test) (c : Chunk) → P c → (cs : List Chunk) → AllByRecursion P cs → AllByRecursion P (insert s t c cs)
all_insert P s t c m [] h = (m, tt)
all_insert P s t c m (d ∷ cs) h = go (meets t d) (all_insert P s t c m cs h.1)
  where
    go : (b : Bool) → AllByRecursion P (insert s t c cs) → AllByRecursion P (cond b (beside s c d ++ cs) (d ∷ insert s t c cs))
    go true g = all_beside P s c d cs m h.0 h.1
    go false g = (h.0, g)

pub all_acted : (P : Chunk → Type 0) (a : Act) → Makes P a → (cs : List Chunk) → AllByRecursion P cs → AllByRecursion P (acted a cs)
all_acted P nothing m cs h = h
all_acted P (change p f) m cs h = all_settle P p f m 0 cs h
all_acted P (add s t c) m cs h = all_insert P s t c m cs h

cells_changed : (P : Chunk → Type 0) (d : Change) (c : Chunk) (xs : List Cell) → P c → AllByRecursion P (made_by d) → AllCells P xs → AllCells P (changed_cell d c ∷ xs)
cells_changed P leave c xs h m g = (h, g)
cells_changed P (become cs) c xs h m g = (m, g)

cells_settle : (P : Chunk → Type 0) (p : Chunk → Bool) (f : ℕ → Chunk → Change) → Makes P (change p f) → (n : ℕ) (xs : List Cell) → AllCells P xs → AllCells P (settle_cells p f n xs)
cells_settle P p f m n [] h = tt
cells_settle P p f m n (kept c ∷ xs) h = cells_changed P (change_at p f n c) c _ h.0 (made_at P p f m n c) (cells_settle P p f m (counted p n c) xs h.1)
cells_settle P p f m n (gap c ∷ xs) h = (h.0, cells_settle P p f m n xs h.1)
cells_settle P p f m n (edited old now ∷ xs) h = (all_settle P p f m n now h.0, cells_settle P p f m (count_all p n now) xs h.1)

cells_beside : (P : Chunk → Type 0) (s : Side) (c d : Chunk) (xs : List Cell) → P c → P d → AllCells P xs → AllCells P (beside s (new_cell c) (kept d) ++ xs)
cells_beside P behind c d xs m h g = (h, ((m, tt), g))
cells_beside P before c d xs m h g = ((m, tt), (h, g))

cells_insert : (P : Chunk → Type 0) (s : Side) (t : Test) (c : Chunk) → P c → (xs : List Cell) → AllCells P xs → AllCells P (insert_cell s t c xs)
cells_insert P s t c m [] h = ((m, tt), tt)
cells_insert P s t c m (kept d ∷ xs) h = go (meets t d) (cells_insert P s t c m xs h.1)
  where
    go : (b : Bool) → AllCells P (insert_cell s t c xs) → AllCells P (cond b (beside s (new_cell c) (kept d) ++ xs) (kept d ∷ insert_cell s t c xs))
    go true g = cells_beside P s c d xs m h.0 h.1
    go false g = (h.0, g)
cells_insert P s t c m (gap d ∷ xs) h = go (only_gaps xs) (cells_insert P s t c m xs h.1)
  where
    go : (b : Bool) → AllCells P (insert_cell s t c xs) → AllCells P (cond b (new_cell c ∷ (gap d ∷ xs)) (gap d ∷ insert_cell s t c xs))
    go true g = ((m, tt), h)
    go false g = (h.0, g)
cells_insert P s t c m (edited old now ∷ xs) h = go (some_meets t now) (cells_insert P s t c m xs h.1)
  where
    go : (b : Bool) → AllCells P (insert_cell s t c xs) → AllCells P (cond b (edited old (insert s t c now) ∷ xs) (edited old now ∷ insert_cell s t c xs))
    go true g = (all_insert P s t c m now h.0, h.1)
    go false g = (h.0, g)

pub cells_acted : (P : Chunk → Type 0) (a : Act) → Makes P a → (xs : List Cell) → AllCells P xs → AllCells P (acted_cells a xs)
cells_acted P nothing m xs h = h
cells_acted P (change p f) m xs h = cells_settle P p f m 0 xs h
cells_acted P (add s t c) m xs h = cells_insert P s t c m xs h

-- ---- pads

pads_changed : (d : Change) (c : Chunk) (xs ys : List Cell) (left : List ℕ) → flat_map was ys ≡ flat_map was xs → ArePadded (made_by d) → CellPads ys left
    → PadStands c.form (length c.body) c.pad (spell_all (flat_map was xs) ++ left) → CellPads (changed_cell d c ∷ ys) left
pads_changed leave c xs ys left e m g h = (rw e h, g)
pads_changed (become cs) c xs ys left e m g h = (m, g)

pads_settle : (p : Chunk → Bool) (f : ℕ → Chunk → Change) → Makes IsPadded (change p f) → (n : ℕ) (xs : List Cell) (left : List ℕ) → CellPads xs left → CellPads (settle_cells p f n xs) left
pads_settle p f m n [] left h = tt
pads_settle p f m n (kept c ∷ xs) left h =
    let next = counted p n c in
    pads_changed (change_at p f n c) c xs (settle_cells p f next xs) left (was_settle p f next xs) (made_at IsPadded p f m n c) (pads_settle p f m next xs left h.1) h.0
pads_settle p f m n (gap c ∷ xs) left h = (rw (was_settle p f n xs) h.0, pads_settle p f m n xs left h.1)
pads_settle p f m n (edited old now ∷ xs) left h = (all_settle IsPadded p f m n now h.0, pads_settle p f m (count_all p n now) xs left h.1)

pads_beside : (s : Side) (c d : Chunk) (xs : List Cell) (left : List ℕ) → IsPadded c → CellPads (kept d ∷ xs) left → CellPads (beside s (new_cell c) (kept d) ++ xs) left
pads_beside behind c d xs left m h = (h.0, ((m, tt), h.1))
pads_beside before c d xs left m h = ((m, tt), (h.0, h.1))

pads_insert : (s : Side) (t : Test) (c : Chunk) → IsPadded c → (xs : List Cell) (left : List ℕ) → CellPads xs left → CellPads (insert_cell s t c xs) left
pads_insert s t c m [] left h = ((m, tt), tt)
pads_insert s t c m (kept d ∷ xs) left h = go (meets t d) (pads_insert s t c m xs left h.1)
  where
    go : (b : Bool) → CellPads (insert_cell s t c xs) left → CellPads (cond b (beside s (new_cell c) (kept d) ++ xs) (kept d ∷ insert_cell s t c xs)) left
    go true g = pads_beside s c d xs left m h
    go false g = (rw (was_insert s t c xs) h.0, g)
pads_insert s t c m (gap d ∷ xs) left h = go (only_gaps xs) (pads_insert s t c m xs left h.1)
  where
    go : (b : Bool) → CellPads (insert_cell s t c xs) left → CellPads (cond b (new_cell c ∷ (gap d ∷ xs)) (gap d ∷ insert_cell s t c xs)) left
    go true g = ((m, tt), (h.0, h.1))
    go false g = (rw (was_insert s t c xs) h.0, g)
pads_insert s t c m (edited old now ∷ xs) left h = go (some_meets t now) (pads_insert s t c m xs left h.1)
  where
    go : (b : Bool) → CellPads (insert_cell s t c xs) left → CellPads (cond b (edited old (insert s t c now) ∷ xs) (edited old now ∷ insert_cell s t c xs)) left
    go true g = (all_insert IsPadded s t c m now h.0, h.1)
    go false g = (h.0, g)

pub pads_acted : (a : Act) → Makes IsPadded a → (xs : List Cell) (left : List ℕ) → CellPads xs left → CellPads (acted_cells a xs) left
pads_acted nothing m xs left h = h
pads_acted (change p f) m xs left h = pads_settle p f m 0 xs left h
pads_acted (add s t c) m xs left h = pads_insert s t c m xs left h

-- a property that follows from what stood there and from another one of what stands there now
pub settle_from : (Q R P : Chunk → Type 0) (p : Chunk → Bool) (f : ℕ → Chunk → Change) → ((n : ℕ) (c : Chunk) → Q c → AllByRecursion R (changed (change_at p f n c) c) → AllByRecursion P (changed (change_at p f n c) c))
    → (n : ℕ) (cs : List Chunk) → AllByRecursion Q cs → AllByRecursion R (settle p f n cs) → AllByRecursion P (settle p f n cs)
settle_from Q R P p f step n [] q r = tt
settle_from Q R P p f step n (c ∷ cs) q r =
    let parts = All-parts R (changed (change_at p f n c) c) _ r in
    All-both P (changed (change_at p f n c) c) _ (step n c q.0 parts.0) (settle_from Q R P p f step (counted p n c) cs q.1 parts.1)

-- what holds of all that stands there now, and of padding
pub cells_from : (P : Chunk → Type 0) (xs : List Cell) → Gaps P xs → AllByRecursion P (flat_map live xs) → AllCells P xs
cells_from P [] g h = tt
cells_from P (kept c ∷ xs) g h = (h.0, cells_from P xs g h.1)
cells_from P (gap c ∷ xs) g h = (g.0, cells_from P xs g.1 h)
cells_from P (edited old now ∷ xs) g h = let parts = All-parts P now (flat_map live xs) h in (parts.0, cells_from P xs g parts.1)

pub live_from : (P : Chunk → Type 0) (xs : List Cell) → AllCells P xs → AllByRecursion P (flat_map live xs)
live_from P [] h = tt
live_from P (kept c ∷ xs) h = (h.0, live_from P xs h.1)
live_from P (gap c ∷ xs) h = live_from P xs h.1
live_from P (edited old now ∷ xs) h = All-both P now (flat_map live xs) h.0 (live_from P xs h.1)

-- ---- what a view sees of chunks that an act neither changes nor makes

module _ {X : Type 0} (v : Chunk → List X) where
  -- what stands in place of a chunk is seen as the chunk
  abbrev pub Unseen : Act → Type 0
  Unseen nothing = Unit {0}
  Unseen (change p f) = (n : ℕ) (c : Chunk) → p c ≡ true → flat_map v (changed (f n c) c) ≡ v c
  Unseen (add s t c) = v c ≡ []

  settle_unseen : (p : Chunk → Bool) (f : ℕ → Chunk → Change) → Unseen (change p f) → (n : ℕ) (cs : List Chunk) → flat_map v (settle p f n cs) ≡ flat_map v cs
  settle_unseen p f u n [] = refl
  settle_unseen p f u n (c ∷ cs) =
      flat_map-append v (changed (change_at p f n c) c) (settle p f (counted p n c) cs) ∙ rw (one (p c) refl, settle_unseen p f u (counted p n c) cs) refl
    where
      one : (t : Bool) → p c ≡ t → flat_map v (changed (cond t (f n c) leave) c) ≡ v c
      one true e = u n c e
      one false e = append-nil (v c)

  see_beside : (s : Side) (c d : Chunk) (cs : List Chunk) → v c ≡ [] → flat_map v (beside s c d ++ cs) ≡ v d ++ flat_map v cs
  see_beside behind c d cs e = rw e refl
  see_beside before c d cs e = rw e refl

  insert_unseen : (s : Side) (t : Test) (c : Chunk) → v c ≡ [] → (cs : List Chunk) → flat_map v (insert s t c cs) ≡ flat_map v cs
  insert_unseen s t c e [] = rw e refl
  insert_unseen s t c e (d ∷ cs) = go (meets t d) (insert_unseen s t c e cs)
    where
      go : (m : Bool) → flat_map v (insert s t c cs) ≡ flat_map v cs → flat_map v (cond m (beside s c d ++ cs) (d ∷ insert s t c cs)) ≡ v d ++ flat_map v cs
      go true h = see_beside s c d cs e
      go false h = ap (λ (x : List X). v d ++ x) h

  pub acted_unseen : (a : Act) → Unseen a → (cs : List Chunk) → flat_map v (acted a cs) ≡ flat_map v cs
  acted_unseen nothing u cs = refl
  acted_unseen (change p f) u cs = settle_unseen p f u 0 cs
  acted_unseen (add s t c) u cs = insert_unseen s t c u cs

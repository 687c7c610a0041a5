-- What all steps of an edit leave: of the cells, their pads, their headers and the first of them.
use Rattle.std.proofs.Common.{◌≡◌, ℕ, Bool, true, false, cond, List, [], ◌∷◌, ◌++◌, refl, sym, ap, subst, ◌∙◌}
use Rattle.std.specs.List.{flat_map, AllByRecursion}
use Rattle.std.proofs.lemmas.Bool.{cond-false}
use Rattle.container_model.specs.Chunk.{Chunk, Header, too_short, no_header, past_end, full_header, Head}
use Rattle.container_model.specs.Sizes.{Sizes, riff_front}
use Rattle.container_model.specs.Units.{Cell, kept, gap, edited, was, live}
use Rattle.container_model.proofs.Reread.{CellPads, IsPadded, Neutral, CellHeads}
use Rattle.carrier_model.specs.Cells.{Change, leave, become, changed_cell, change_at, counted, count_all, settle_cells, Side, behind, before, Test, meets, some_meets, beside, insert, only_gaps, new_cell, insert_cell, Act, nothing, change, add, acted, acted_cells}
use Rattle.carrier_model.specs.Info.{own_size}
use Rattle.carrier_model.proofs.Cells.{live_acted, was_acted, Gaps, gaps_acted, Makes, pads_acted, made_by, all_settle, all_insert, All-parts, Unseen, acted_unseen}
use Rattle.carrier_model.specs.Steps.{Step, carried, stepped}

pub live_carried : (ss : List Step) (xs : List Cell) → flat_map live (carried ss xs) ≡ stepped ss (flat_map live xs)
live_carried [] xs = refl
live_carried (s ∷ ss) xs = live_carried ss (acted_cells (s (flat_map live xs)) xs) ∙ ap (stepped ss) (live_acted (s (flat_map live xs)) xs)

pub was_carried : (ss : List Step) (xs : List Cell) → flat_map was (carried ss xs) ≡ flat_map was xs
was_carried [] xs = refl
was_carried (s ∷ ss) xs = was_carried ss (acted_cells (s (flat_map live xs)) xs) ∙ was_acted (s (flat_map live xs)) xs

pub gaps_carried : (P : Chunk → Type 0) (ss : List Step) (xs : List Cell) → Gaps P xs → Gaps P (carried ss xs)
gaps_carried P [] xs h = h
gaps_carried P (s ∷ ss) xs h = gaps_carried P ss (acted_cells (s (flat_map live xs)) xs) (gaps_acted P (s (flat_map live xs)) xs h)

-- whatever a step makes has a property
abbrev pub AllMake : (Chunk → Type 0) → List Step → Type 0
AllMake P ss = AllByRecursion (λ s. (cs : List Chunk) → Makes P (s cs)) ss

pub pads_carried : (ss : List Step) → AllMake IsPadded ss → (xs : List Cell) (left : List ℕ) → CellPads xs left → CellPads (carried ss xs) left
pads_carried [] m xs left h = h
pads_carried (s ∷ ss) m xs left h = pads_carried ss m.1 (acted_cells (s (flat_map live xs)) xs) left (pads_acted (s (flat_map live xs)) (m.0 (flat_map live xs)) xs left h)

-- ---- what stands there now where something was edited

abbrev pub NowCells : (Chunk → Type 0) → List Cell → Type 0
NowCells P [] = Unit {0}
NowCells P (kept c ∷ xs) = NowCells P xs
NowCells P (gap c ∷ xs) = NowCells P xs
NowCells P (edited old now ∷ xs) = AllByRecursion P now × NowCells P xs

now_changed : (P : Chunk → Type 0) (d : Change) (c : Chunk) (xs : List Cell) → AllByRecursion P (made_by d) → NowCells P xs → NowCells P (changed_cell d c ∷ xs)
now_changed P leave c xs m h = h
now_changed P (become cs) c xs m h = (m, h)

now_settle : (P : Chunk → Type 0) (p : Chunk → Bool) (f : ℕ → Chunk → Change) → Makes P (change p f) → (n : ℕ) (xs : List Cell) → NowCells P xs → NowCells P (settle_cells p f n xs)
now_settle P p f m n [] h = tt
now_settle P p f m n (kept c ∷ xs) h = now_changed P (change_at p f n c) c _ (go (p c)) (now_settle P p f m (counted p n c) xs h)
  where
    go : (t : Bool) → AllByRecursion P (made_by (cond t (f n c) leave))
    go true = m n c
    go false = tt
now_settle P p f m n (gap c ∷ xs) h = now_settle P p f m n xs h
now_settle P p f m n (edited old now ∷ xs) h = (all_settle P p f m n now h.0, now_settle P p f m (count_all p n now) xs h.1)

now_beside : (P : Chunk → Type 0) (s : Side) (c d : Chunk) (xs : List Cell) → P c → NowCells P xs → NowCells P (beside s (new_cell c) (kept d) ++ xs)
now_beside P behind c d xs m h = ((m, tt), h)
now_beside P before c d xs m h = ((m, tt), h)

now_insert : (P : Chunk → Type 0) (s : Side) (t : Test) (c : Chunk) → P c → (xs : List Cell) → NowCells P xs → NowCells P (insert_cell s t c xs)
now_insert P s t c m [] h = ((m, tt), tt)
now_insert P s t c m (kept d ∷ xs) h = go (meets t d) (now_insert P s t c m xs h)
  where
    go : (b : Bool) → NowCells P (insert_cell s t c xs) → NowCells P (cond b (beside s (new_cell c) (kept d) ++ xs) (kept d ∷ insert_cell s t c xs))
    go true g = now_beside P s c d xs m h
    go false g = g
now_insert P s t c m (gap d ∷ xs) h = go (only_gaps xs) (now_insert P s t c m xs h)
  where
    go : (b : Bool) → NowCells P (insert_cell s t c xs) → NowCells P (cond b (new_cell c ∷ (gap d ∷ xs)) (gap d ∷ insert_cell s t c xs))
    go true g = ((m, tt), h)
    go false g = g
now_insert P s t c m (edited old now ∷ xs) h = go (some_meets t now) (now_insert P s t c m xs h.1)
  where
    go : (b : Bool) → NowCells P (insert_cell s t c xs) → NowCells P (cond b (edited old (insert s t c now) ∷ xs) (edited old now ∷ insert_cell s t c xs))
    go true g = (all_insert P s t c m now h.0, h.1)
    go false g = (h.0, g)

now_acted : (P : Chunk → Type 0) (a : Act) → Makes P a → (xs : List Cell) → NowCells P xs → NowCells P (acted_cells a xs)
now_acted P nothing m xs h = h
now_acted P (change p f) m xs h = now_settle P p f m 0 xs h
now_acted P (add s t c) m xs h = now_insert P s t c m xs h

pub now_carried : (P : Chunk → Type 0) (ss : List Step) → AllMake P ss → (xs : List Cell) → NowCells P xs → NowCells P (carried ss xs)
now_carried P [] m xs h = h
now_carried P (s ∷ ss) m xs h = now_carried P ss m.1 (acted_cells (s (flat_map live xs)) xs) (now_acted P (s (flat_map live xs)) (m.0 (flat_map live xs)) xs h)

pub now_live : (P : Chunk → Type 0) (xs : List Cell) → AllByRecursion P (flat_map live xs) → NowCells P xs
now_live P [] h = tt
now_live P (kept c ∷ xs) h = now_live P xs h.1
now_live P (gap c ∷ xs) h = now_live P xs h
now_live P (edited old now ∷ xs) h = let g = All-parts P now (flat_map live xs) h in (g.0, now_live P xs g.1)

pub now_both : (P Q R : Chunk → Type 0) → ((c : Chunk) → P c → Q c → R c) → (xs : List Cell) → NowCells P xs → NowCells Q xs → NowCells R xs
now_both P Q R f [] h g = tt
now_both P Q R f (kept c ∷ xs) h g = now_both P Q R f xs h g
now_both P Q R f (gap c ∷ xs) h g = now_both P Q R f xs h g
now_both P Q R f (edited old now ∷ xs) h g = (each now h.0 g.0, now_both P Q R f xs h.1 g.1)
  where
    each : (cs : List Chunk) → AllByRecursion P cs → AllByRecursion Q cs → AllByRecursion R cs
    each [] p q = tt
    each (c ∷ cs) p q = (f c p.0 q.0, each cs p.1 q.1)

-- ---- headers

-- each kept chunk's header is read in its turn; padding, and a chunk of its own size, is read in any state
abbrev pub Own : Chunk → Type 0
Own c = own_size c.form ≡ true → Neutral riff_front c

abbrev pub KeptHeads : Sizes → List Cell → Type 0
KeptHeads s [] = Unit {0}
KeptHeads s (kept c ∷ xs) = (next : Sizes) × Head riff_front s next c × Own c × KeptHeads next xs
KeptHeads s (gap c ∷ xs) = Neutral riff_front c × KeptHeads s xs
KeptHeads s (edited old now ∷ xs) = KeptHeads s xs

abbrev next_of : Sizes → Header Sizes → Sizes
next_of s too_short = s
next_of s no_header = s
next_of s past_end = s
next_of s (full_header form id n after next) = next

pub same_state : (s next : Sizes) (c : Chunk) → Head riff_front s next c → Neutral riff_front c → next ≡ s
same_state s next c h n = ap (next_of s) (sym (h []) ∙ n s [])

-- a step changes chunks of their own size alone
abbrev pub OwnAct : Act → Type 0
OwnAct nothing = Unit {0}
OwnAct (change p f) = (c : Chunk) → p c ≡ true → own_size c.form ≡ true
OwnAct (add s t c) = Unit {0}

heads_settle : (p : Chunk → Bool) (f : ℕ → Chunk → Change) → OwnAct (change p f) → (n : ℕ) (s : Sizes) (xs : List Cell) → KeptHeads s xs → KeptHeads s (settle_cells p f n xs)
heads_settle p f o n s [] h = tt
heads_settle p f o n s (kept c ∷ xs) h = go (p c) refl (λ m t g. heads_settle p f o m t xs g)
  where
    by : (d : Change) (m : ℕ) → own_size c.form ≡ true → ((m : ℕ) (t : Sizes) → KeptHeads t xs → KeptHeads t (settle_cells p f m xs)) → KeptHeads s (changed_cell d c ∷ settle_cells p f m xs)
    by leave m own again = (h.0, h.1, h.2, again m h.0 h.3)
    by (become cs) m own again = again m s (subst (λ (t : Sizes). KeptHeads t xs) (same_state s h.0 c h.1 (h.2 own)) h.3)

    go : (t : Bool) → p c ≡ t → ((m : ℕ) (t : Sizes) → KeptHeads t xs → KeptHeads t (settle_cells p f m xs)) → KeptHeads s (changed_cell (cond t (f n c) leave) c ∷ settle_cells p f (cond t (Rattle.std.specs.Prelude.suc n) n) xs)
    go true e again = by (f n c) (Rattle.std.specs.Prelude.suc n) (o c e) again
    go false e again = (h.0, h.1, h.2, again n h.0 h.3)
heads_settle p f o n s (gap c ∷ xs) h = (h.0, heads_settle p f o n s xs h.1)
heads_settle p f o n s (edited old now ∷ xs) h = heads_settle p f o (count_all p n now) s xs h

heads_beside : (s : Sizes) (side : Side) (c d : Chunk) (xs : List Cell) → KeptHeads s (kept d ∷ xs) → KeptHeads s (beside side (new_cell c) (kept d) ++ xs)
heads_beside s behind c d xs h = h
heads_beside s before c d xs h = h

heads_insert : (side : Side) (t : Test) (c : Chunk) (s : Sizes) (xs : List Cell) → KeptHeads s xs → KeptHeads s (insert_cell side t c xs)
heads_insert side t c s [] h = tt
heads_insert side t c s (kept d ∷ xs) h = go (meets t d) (heads_insert side t c h.0 xs h.3)
  where
    go : (b : Bool) → KeptHeads h.0 (insert_cell side t c xs) → KeptHeads s (cond b (beside side (new_cell c) (kept d) ++ xs) (kept d ∷ insert_cell side t c xs))
    go true g = heads_beside s side c d xs h
    go false g = (h.0, h.1, h.2, g)
heads_insert side t c s (gap d ∷ xs) h = go (only_gaps xs) (heads_insert side t c s xs h.1)
  where
    go : (b : Bool) → KeptHeads s (insert_cell side t c xs) → KeptHeads s (cond b (new_cell c ∷ (gap d ∷ xs)) (gap d ∷ insert_cell side t c xs))
    go true g = h
    go false g = (h.0, g)
heads_insert side t c s (edited old now ∷ xs) h = go (some_meets t now) (heads_insert side t c s xs h)
  where
    go : (b : Bool) → KeptHeads s (insert_cell side t c xs) → KeptHeads s (cond b (edited old (insert side t c now) ∷ xs) (edited old now ∷ insert_cell side t c xs))
    go true g = h
    go false g = g

heads_acted : (a : Act) → OwnAct a → (s : Sizes) (xs : List Cell) → KeptHeads s xs → KeptHeads s (acted_cells a xs)
heads_acted nothing o s xs h = h
heads_acted (change p f) o s xs h = heads_settle p f o 0 s xs h
heads_acted (add side t c) o s xs h = heads_insert side t c s xs h

abbrev pub AllOwn : List Step → Type 0
AllOwn ss = AllByRecursion (λ s. (cs : List Chunk) → OwnAct (s cs)) ss

pub heads_carried : (ss : List Step) → AllOwn ss → (s : Sizes) (xs : List Cell) → KeptHeads s xs → KeptHeads s (carried ss xs)
heads_carried [] o s xs h = h
heads_carried (t ∷ ss) o s xs h = heads_carried ss o.1 s (acted_cells (t (flat_map live xs)) xs) (heads_acted (t (flat_map live xs)) (o.0 (flat_map live xs)) s xs h)

pub cell_heads : (s : Sizes) (xs : List Cell) → KeptHeads s xs → NowCells (Neutral riff_front) xs → CellHeads riff_front s xs
cell_heads s [] h n = tt
cell_heads s (kept c ∷ xs) h n = (h.0, h.1, cell_heads h.0 xs h.3 n)
cell_heads s (gap c ∷ xs) h n = (h.0, cell_heads s xs h.1 n)
cell_heads s (edited old now ∷ xs) h n = (n.0, cell_heads s xs h n.1)

-- ---- the first chunk

abbrev pub FirstKept : Chunk → List Cell → Type 0
FirstKept c xs = (ys : List Cell) × (xs ≡ kept c ∷ ys)

-- a step leaves a chunk, and puts nothing before it
abbrev pub Passes : Chunk → Act → Type 0
Passes c nothing = Unit {0}
Passes c (change p f) = p c ≡ false
Passes c (add behind t d) = Unit {0}
Passes c (add before t d) = meets t c ≡ false

first_acted : (c : Chunk) (a : Act) → Passes c a → (xs : List Cell) → FirstKept c xs → FirstKept c (acted_cells a xs)
first_acted c nothing m xs k = k
first_acted c (change p f) m xs k = (settle_cells p f (counted p 0 c) k.0, rw k.1 (rw m refl))
first_acted c (add behind t d) m xs k = go (meets t c) refl
  where
    go : (b : Bool) → meets t c ≡ b → FirstKept c (insert_cell behind t d xs)
    go true e = (new_cell d ∷ k.0, rw k.1 (Rattle.std.proofs.lemmas.Bool.cond-true (meets t c) _ _ e))
    go false e = (insert_cell behind t d k.0, rw k.1 (cond-false (meets t c) _ _ e))
first_acted c (add before t d) m xs k = (insert_cell before t d k.0, rw k.1 (cond-false (meets t c) _ _ m))

abbrev pub AllPass : Chunk → List Step → Type 0
AllPass c ss = AllByRecursion (λ s. (cs : List Chunk) → Passes c (s cs)) ss

pub first_carried : (c : Chunk) (ss : List Step) → AllPass c ss → (xs : List Cell) → FirstKept c xs → FirstKept c (carried ss xs)
first_carried c [] m xs k = k
first_carried c (s ∷ ss) m xs k = first_carried c ss m.1 (acted_cells (s (flat_map live xs)) xs) (first_acted c (s (flat_map live xs)) (m.0 (flat_map live xs)) xs k)

-- ---- a view that sees nothing of the steps

pub steps_unseen : {X : Type 0} (v : Chunk → List X) (ss : List Step) → AllByRecursion (λ s. (cs : List Chunk) → Unseen v (s cs)) ss → (cs : List Chunk) → flat_map v (stepped ss cs) ≡ flat_map v cs
steps_unseen v [] u cs = refl
steps_unseen v (s ∷ ss) u cs = steps_unseen v ss u.1 (acted (s cs) cs) ∙ acted_unseen v (s cs) (u.0 cs) cs

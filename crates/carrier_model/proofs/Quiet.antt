-- A test that sees no carrier finds the same chunks after an edit.
use Rattle.std.proofs.Common.{◌≡◌, ℕ, Bool, true, false, cond, List, [], ◌∷◌, ◌++◌, refl}
use Rattle.std.specs.List.{flat_map}
use Rattle.container_model.specs.Chunk.{Chunk}
use Rattle.container_model.specs.Units.{Cell, kept, gap, edited, live}
use Rattle.container_model.specs.Stood.{bare}
use Rattle.container_model.specs.Items.{Items, Item, Carrier, put_all}
use Rattle.container_model.proofs.Copied.{Quiet, Unseen}
use Rattle.container_model.proofs.Units.{All-both}
use Rattle.carrier_model.specs.Cells.{Change, leave, become, changed, changed_cell, change_at, counted, count_all, settle, settle_cells, Test, Side, behind, before, meets, some_meets, beside, insert, only_gaps, new_cell, insert_cell, Act, nothing, change, add, acted_cells}
use Rattle.carrier_model.specs.Lists.{edit_list_cells, lists_act_by, new_carrier, has_carrier, sets_some, all_items, home, concerns, items_of, part_of}
use Rattle.carrier_model.proofs.Cells.{all_insert}

abbrev pub Settles : (Chunk → Bool) → Change → Chunk → Type 0
Settles p leave c = Unit {0}
Settles p (become cs) c = (p (bare c) ≡ false) × Unseen p cs

abbrev pub QuietAct : (Chunk → Bool) → Act → Type 0
QuietAct p nothing = Unit {0}
QuietAct p (change q f) = (n : ℕ) (c : Chunk) → q c ≡ true → Settles p (f n c) c
QuietAct p (add s t c) = p (bare c) ≡ false

settles_at : (p q : Chunk → Bool) (f : ℕ → Chunk → Change) → QuietAct p (change q f) → (n : ℕ) (c : Chunk) → Settles p (change_at q f n c) c
settles_at p q f m n c = go (q c) refl
  where
    go : (t : Bool) → q c ≡ t → Settles p (cond t (f n c) leave) c
    go true e = m n c e
    go false e = tt

unseen_changed : (p : Chunk → Bool) (d : Change) (c : Chunk) → Settles p d c → p (bare c) ≡ false → Unseen p (changed d c)
unseen_changed p leave c h g = (g, tt)
unseen_changed p (become cs) c h g = h.1

unseen_settle : (p q : Chunk → Bool) (f : ℕ → Chunk → Change) → QuietAct p (change q f) → (n : ℕ) (cs : List Chunk) → Unseen p cs → Unseen p (settle q f n cs)
unseen_settle p q f m n [] h = tt
unseen_settle p q f m n (c ∷ cs) h = All-both _ (changed (change_at q f n c) c) _ (unseen_changed p (change_at q f n c) c (settles_at p q f m n c) h.0) (unseen_settle p q f m (counted q n c) cs h.1)

quiet_changed : (p : Chunk → Bool) (d : Change) (c : Chunk) (xs : List Cell) → Settles p d c → Quiet p xs → Quiet p (changed_cell d c ∷ xs)
quiet_changed p leave c xs h g = g
quiet_changed p (become cs) c xs h g = ((h.0, tt), h.1, g)

quiet_settle : (p q : Chunk → Bool) (f : ℕ → Chunk → Change) → QuietAct p (change q f) → (n : ℕ) (xs : List Cell) → Quiet p xs → Quiet p (settle_cells q f n xs)
quiet_settle p q f m n [] h = tt
quiet_settle p q f m n (kept c ∷ xs) h = quiet_changed p (change_at q f n c) c _ (settles_at p q f m n c) (quiet_settle p q f m (counted q n c) xs h)
quiet_settle p q f m n (gap c ∷ xs) h = (h.0, quiet_settle p q f m n xs h.1)
quiet_settle p q f m n (edited old now ∷ xs) h = (h.0, unseen_settle p q f m n now h.1, quiet_settle p q f m (count_all q n now) xs h.2)

quiet_beside : (p : Chunk → Bool) (s : Side) (c d : Chunk) (xs : List Cell) → p (bare c) ≡ false → Quiet p xs → Quiet p (beside s (new_cell c) (kept d) ++ xs)
quiet_beside p behind c d xs m h = (tt, (m, tt), h)
quiet_beside p before c d xs m h = (tt, (m, tt), h)

quiet_insert : (p : Chunk → Bool) (s : Side) (t : Test) (c : Chunk) → p (bare c) ≡ false → (xs : List Cell) → Quiet p xs → Quiet p (insert_cell s t c xs)
quiet_insert p s t c m [] h = (tt, (m, tt), tt)
quiet_insert p s t c m (kept d ∷ xs) h = go (meets t d) (quiet_insert p s t c m xs h)
  where
    go : (b : Bool) → Quiet p (insert_cell s t c xs) → Quiet p (cond b (beside s (new_cell c) (kept d) ++ xs) (kept d ∷ insert_cell s t c xs))
    go true g = quiet_beside p s c d xs m h
    go false g = g
quiet_insert p s t c m (gap d ∷ xs) h = go (only_gaps xs) (quiet_insert p s t c m xs h.1)
  where
    go : (b : Bool) → Quiet p (insert_cell s t c xs) → Quiet p (cond b (new_cell c ∷ (gap d ∷ xs)) (gap d ∷ insert_cell s t c xs))
    go true g = (tt, (m, tt), h)
    go false g = (h.0, g)
quiet_insert p s t c m (edited old now ∷ xs) h = go (some_meets t now) (quiet_insert p s t c m xs h.2)
  where
    go : (b : Bool) → Quiet p (insert_cell s t c xs) → Quiet p (cond b (edited old (insert s t c now) ∷ xs) (edited old now ∷ insert_cell s t c xs))
    go true g = (h.0, all_insert (λ c. p (bare c) ≡ false) s t c m now h.1, h.2)
    go false g = (h.0, h.1, g)

pub quiet_acted : (p : Chunk → Bool) (a : Act) → QuietAct p a → (xs : List Cell) → Quiet p xs → Quiet p (acted_cells a xs)
quiet_acted p nothing m xs h = h
quiet_acted p (change q f) m xs h = quiet_settle p q f m 0 xs h
quiet_acted p (add s t c) m xs h = quiet_insert p s t c m xs h

-- An edit of carriers that a test doesn't see is nothing to it.
pub quiet_lists : {V : Type 0} (p : Chunk → Bool) (k : Carrier) (it : Items V) → ((c : Chunk) → k.is c ≡ true → p (bare c) ≡ false) → ((c : Chunk) (items : List Chunk) (rest : List ℕ) → p (bare (k.closing c items rest)) ≡ false) → ((items : List Chunk) → p (bare (k.fresh items)) ≡ false)
    → (t : Test) (e : List (Item V)) (xs : List Cell) → Quiet p xs → Quiet p (edit_list_cells k it t e xs)
quiet_lists p k it carriers closed new t e xs h = quiet_acted p (lists_act_by k it t e (flat_map live xs) (has_carrier k (flat_map live xs))) (go (has_carrier k (flat_map live xs))) xs h
  where
    fresh : (b : Bool) → QuietAct p (new_carrier k it t e b)
    fresh true = new (put_all it e [])
    fresh false = tt

    one : (g : List ℕ → ℕ) (n : ℕ) (c : Chunk) (b : Bool) → k.is c ≡ true → Settles p (cond b (become (Rattle.container_model.specs.Items.edit_carrier k it (part_of g n e) c ∷ [])) leave) c
    one g n c true is = (carriers c is, (closed c (put_all it (part_of g n e) (k.opening c).chunks) (k.opening c).left, tt))
    one g n c false is = tt

    go : (b : Bool) → QuietAct p (lists_act_by k it t e (flat_map live xs) b)
    go false = fresh (sets_some e)
    go true = λ n c is. one (home (all_items k it (flat_map live xs))) n c (concerns (home (all_items k it (flat_map live xs))) n (items_of k it c) e) is

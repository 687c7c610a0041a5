-- Where tracks are changed and no other atom is, the cells and pieces of an edit are the old ones changed.
use Rattle.std.proofs.Common.{Bool, List, None, Option, Some, [], ap, cond, false, map, refl, suc, sym, true, zero, ℕ, ◌++◌, ◌∙◌, ◌∷◌, ◌≡◌}
use Rattle.std.specs.Prelude.{codes, not, ◌&&◌, ◌||◌}
use Rattle.std.specs.List.{AllByRecursion, flat_map, list_any}
use Rattle.std.specs.Str.{bytes_eq}
use Rattle.part_tree.specs.declared.field.Value.{Value}
use Rattle.carrier_model.specs.Cells.{acted_cells, behind, changed_cell, count_all, insert_cell, leave, never, new_cell, only_gaps, settle, settle_cells}
use Rattle.carrier_model.specs.Steps.{carried}
use Rattle.container_model.proofs.Items.{same_true}
use Rattle.container_model.specs.Atoms.{is}
use Rattle.container_model.specs.Chunk.{Chunk, spell, spell_all}
use Rattle.container_model.specs.Cuts.{changed_piece}
use Rattle.container_model.specs.Items.{Item, edit_carrier, put_all}
use Rattle.container_model.specs.Units.{Cell, Piece, Slot, begun, closed, copied, edited, gap, is_empty, kept, kept_next, lacks_pad, live, shut, units}
use Rattle.mov_model.specs.Atoms.{cell_by, cell_of, is_padding}
use Rattle.mov_model.specs.Carried.{Changes, carry, carry_by, first_becomes, fresh, key_step, steps, user_step}
use Rattle.mov_model.specs.Keys.{edit_meta, is_meta, new_meta}
use Rattle.mov_model.proofs.Carry.{Sort, none_meets, track_not}
use Rattle.mov_model.proofs.Cells.{is_user, meta_sort, user_sort}
use Rattle.qt_text.specs.User.{udta, user_items}

-- padding is no track
pub padding_no_track : (c : Chunk) → is_padding c.id ≡ true → is c (codes "trak") ≡ false
padding_no_track c p = away (is c (codes "trak")) refl
  where
    away : (t : Bool) → is c (codes "trak") ≡ t → t ≡ false
    away true i = let no : is_padding c.id ≡ false = rw (same_true c.id (codes "trak") i) refl in absurd cc
    away false i = refl

module _ (h : Chunk → Chunk) (same_id : (c : Chunk) → (h c).id ≡ c.id) (same : (c : Chunk) → is c (codes "trak") ≡ false → h c ≡ c) where
  sort_same : (sort : Chunk → Bool) → Sort sort → (c : Chunk) → sort (h c) ≡ sort c
  sort_same sort s c = go (is c (codes "trak")) refl
    where
      go : (t : Bool) → is c (codes "trak") ≡ t → sort (h c) ≡ sort c
      go true e = let track : is (h c) (codes "trak") ≡ true = ap (λ (x : List ℕ). bytes_eq x (codes "trak")) (same_id c) ∙ e in track_not sort s (h c) track ∙ sym (track_not sort s c e)
      go false e = ap sort (same c e)

  -- an atom that is kept is changed
  abbrev pub moved_cell : Cell → Cell
  moved_cell (kept c) = kept (h c)
  moved_cell (gap c) = gap c
  moved_cell (edited old now) = edited old now

  cells_read : (cs : List Chunk) → map cell_of (map h cs) ≡ map moved_cell (map cell_of cs)
  cells_read [] = refl
  cells_read (c ∷ cs) = ap (λ (t : Bool). cell_by (h c) t ∷ map cell_of (map h cs)) (ap is_padding (same_id c)) ∙ go (is_padding c.id) refl (cells_read cs)
    where
      go : (t : Bool) → is_padding c.id ≡ t → map cell_of (map h cs) ≡ map moved_cell (map cell_of cs) → cell_by (h c) t ∷ map cell_of (map h cs) ≡ moved_cell (cell_by c t) ∷ map moved_cell (map cell_of cs)
      go true p again = ap (λ (d : Chunk). gap d ∷ map cell_of (map h cs)) (same c (padding_no_track c p)) ∙ ap (λ (x : List Cell). gap c ∷ x) again
      go false p again = ap (λ (x : List Cell). kept (h c) ∷ x) again

  any_more : (sort : Chunk → Bool) (now a b : List Chunk) → list_any sort a ≡ list_any sort b → list_any sort (now ++ a) ≡ list_any sort (now ++ b)
  any_more sort [] a b e = e
  any_more sort (c ∷ now) a b e = ap (λ (t : Bool). sort c || t) (any_more sort now a b e)

  any_same : (sort : Chunk → Bool) → Sort sort → (xs : List Cell) → list_any sort (flat_map live (map moved_cell xs)) ≡ list_any sort (flat_map live xs)
  any_same sort s [] = refl
  any_same sort s (kept c ∷ xs) = ap (λ (t : Bool). t || list_any sort (flat_map live (map moved_cell xs))) (sort_same sort s c) ∙ ap (λ (t : Bool). sort c || t) (any_same sort s xs)
  any_same sort s (gap c ∷ xs) = any_same sort s xs
  any_same sort s (edited old now ∷ xs) = any_more sort now (flat_map live (map moved_cell xs)) (flat_map live xs) (any_same sort s xs)

  settle_same : (sort : Chunk → Bool) → Sort sort → (g : Chunk → Chunk) (n : ℕ) (xs : List Cell) → settle_cells sort (first_becomes g) n (map moved_cell xs) ≡ map moved_cell (settle_cells sort (first_becomes g) n xs)
  settle_same sort s g n [] = refl
  settle_same sort s g n (gap c ∷ xs) = ap (λ (x : List Cell). gap c ∷ x) (settle_same sort s g n xs)
  settle_same sort s g n (edited old now ∷ xs) = ap (λ (x : List Cell). edited old (settle sort (first_becomes g) n now) ∷ x) (settle_same sort s g (count_all sort n now) xs)
  settle_same sort s g n (kept c ∷ xs) =
      ap (λ (t : Bool). changed_cell (cond t (first_becomes g n (h c)) leave) (h c) ∷ settle_cells sort (first_becomes g) (cond t (suc n) n) (map moved_cell xs)) (sort_same sort s c)
      ∙ go (sort c) refl n (λ k. settle_same sort s g k xs)
    where
      go : (t : Bool) → sort c ≡ t → (n : ℕ) → ((k : ℕ) → settle_cells sort (first_becomes g) k (map moved_cell xs) ≡ map moved_cell (settle_cells sort (first_becomes g) k xs))
          → changed_cell (cond t (first_becomes g n (h c)) leave) (h c) ∷ settle_cells sort (first_becomes g) (cond t (suc n) n) (map moved_cell xs)
          ≡ map moved_cell (changed_cell (cond t (first_becomes g n c) leave) c ∷ settle_cells sort (first_becomes g) (cond t (suc n) n) xs)
      go true u zero again =
          ap (λ (d : Chunk). edited (d ∷ []) (g d ∷ []) ∷ settle_cells sort (first_becomes g) 1 (map moved_cell xs)) (same c (s.no_track c u)) ∙ ap (λ (x : List Cell). edited (c ∷ []) (g c ∷ []) ∷ x) (again 1)
      go true u (suc n) again = ap (λ (x : List Cell). kept (h c) ∷ x) (again (suc (suc n)))
      go false u n again = ap (λ (x : List Cell). kept (h c) ∷ x) (again n)

  gaps_same : (xs : List Cell) → only_gaps (map moved_cell xs) ≡ only_gaps xs
  gaps_same [] = refl
  gaps_same (kept c ∷ xs) = refl
  gaps_same (gap c ∷ xs) = gaps_same xs
  gaps_same (edited old now ∷ xs) = refl

  insert_same : (c : Chunk) (xs : List Cell) → insert_cell behind never c (map moved_cell xs) ≡ map moved_cell (insert_cell behind never c xs)
  insert_same c [] = refl
  insert_same c (kept d ∷ xs) = ap (λ (x : List Cell). kept (h d) ∷ x) (insert_same c xs)
  insert_same c (gap d ∷ xs) = ap (λ (t : Bool). cond t (new_cell c ∷ (gap d ∷ map moved_cell xs)) (gap d ∷ insert_cell behind never c (map moved_cell xs))) (gaps_same xs) ∙ go (only_gaps xs) (insert_same c xs)
    where
      go : (t : Bool) → insert_cell behind never c (map moved_cell xs) ≡ map moved_cell (insert_cell behind never c xs)
          → cond t (new_cell c ∷ (gap d ∷ map moved_cell xs)) (gap d ∷ insert_cell behind never c (map moved_cell xs)) ≡ map moved_cell (cond t (new_cell c ∷ (gap d ∷ xs)) (gap d ∷ insert_cell behind never c xs))
      go true again = refl
      go false again = ap (λ (x : List Cell). gap d ∷ x) again
  insert_same c (edited old now ∷ xs) = rw (none_meets now) (ap (λ (x : List Cell). edited old now ∷ x) (insert_same c xs))

  carry_same : (sort : Chunk → Bool) → Sort sort → (g : Chunk → Chunk) (new : Option Chunk) (xs : List Cell)
      → acted_cells (carry sort g new (flat_map live (map moved_cell xs))) (map moved_cell xs) ≡ map moved_cell (acted_cells (carry sort g new (flat_map live xs)) xs)
  carry_same sort s g new xs = ap (λ (t : Bool). acted_cells (carry_by sort g new t) (map moved_cell xs)) (any_same sort s xs) ∙ go (list_any sort (flat_map live xs)) new
    where
      go : (t : Bool) (n : Option Chunk) → acted_cells (carry_by sort g n t) (map moved_cell xs) ≡ map moved_cell (acted_cells (carry_by sort g n t) xs)
      go true n = settle_same sort s g 0 xs
      go false None = refl
      go false (Some c) = insert_same c xs

  user_same : (e : List (Item Value)) (xs : List Cell) → acted_cells (user_step e (flat_map live (map moved_cell xs))) (map moved_cell xs) ≡ map moved_cell (acted_cells (user_step e (flat_map live xs)) xs)
  user_same [] xs = refl
  user_same (i ∷ e) xs = carry_same is_user user_sort (edit_carrier udta user_items (i ∷ e)) (fresh udta (put_all user_items (i ∷ e) [])) xs

  keys_same : (e : List (Item (List ℕ))) (xs : List Cell) → acted_cells (key_step e (flat_map live (map moved_cell xs))) (map moved_cell xs) ≡ map moved_cell (acted_cells (key_step e (flat_map live xs)) xs)
  keys_same [] xs = refl
  keys_same (i ∷ e) xs = carry_same is_meta meta_sort (edit_meta (i ∷ e)) (new_meta (i ∷ e)) xs

  carried_same : (e : Changes) (cs : List Chunk) → carried (steps e) (map cell_of (map h cs)) ≡ map moved_cell (carried (steps e) (map cell_of cs))
  carried_same e cs =
      let xs = map cell_of cs in
      let mid = acted_cells (user_step e.users (flat_map live xs)) xs in
      ap (carried (steps e)) (cells_read cs) ∙ ap (λ (ys : List Cell). acted_cells (key_step e.keys (flat_map live ys)) ys) (user_same e.users xs) ∙ keys_same e.keys mid

  -- ---- pieces

  -- no pad is missing, and padding is not changed
  abbrev pub PadsThere : List Cell → Type 0
  PadsThere [] = Unit {0}
  PadsThere (kept c ∷ xs) = (lacks_pad c ≡ false) × (lacks_pad (h c) ≡ false) × PadsThere xs
  PadsThere (gap c ∷ xs) = (lacks_pad c ≡ false) × (h c ≡ c) × PadsThere xs
  PadsThere (edited old now ∷ xs) = PadsThere xs

  -- what is asked of the atoms that are read
  abbrev pub PadThere : Chunk → Type 0
  PadThere c = (lacks_pad c ≡ false) × (lacks_pad (h c) ≡ false)

  pads_read : (cs : List Chunk) → AllByRecursion PadThere cs → PadsThere (map cell_of cs)
  pads_read [] p = tt
  pads_read (c ∷ cs) p = go (is_padding c.id) refl (pads_read cs p.1)
    where
      go : (t : Bool) → is_padding c.id ≡ t → PadsThere (map cell_of cs) → PadsThere (cell_by c t ∷ map cell_of cs)
      go true e again = (p.0.0, same c (padding_no_track c e), again)
      go false e again = (p.0.0, p.0.1, again)

  pads_settle : (sort : Chunk → Bool) (g : Chunk → Chunk) (n : ℕ) (xs : List Cell) → PadsThere xs → PadsThere (settle_cells sort (first_becomes g) n xs)
  pads_settle sort g n [] p = tt
  pads_settle sort g n (gap c ∷ xs) p = (p.0, p.1, pads_settle sort g n xs p.2)
  pads_settle sort g n (edited old now ∷ xs) p = pads_settle sort g (count_all sort n now) xs p
  pads_settle sort g n (kept c ∷ xs) p = go (sort c) n (λ k. pads_settle sort g k xs p.2)
    where
      go : (t : Bool) (n : ℕ) → ((k : ℕ) → PadsThere (settle_cells sort (first_becomes g) k xs)) → PadsThere (changed_cell (cond t (first_becomes g n c) leave) c ∷ settle_cells sort (first_becomes g) (cond t (suc n) n) xs)
      go true zero again = again 1
      go true (suc n) again = (p.0, p.1, again (suc (suc n)))
      go false n again = (p.0, p.1, again n)

  pads_insert : (c : Chunk) (xs : List Cell) → PadsThere xs → PadsThere (insert_cell behind never c xs)
  pads_insert c [] p = tt
  pads_insert c (kept d ∷ xs) p = (p.0, p.1, pads_insert c xs p.2)
  pads_insert c (gap d ∷ xs) p = go (only_gaps xs) (pads_insert c xs p.2)
    where
      go : (t : Bool) → PadsThere (insert_cell behind never c xs) → PadsThere (cond t (new_cell c ∷ (gap d ∷ xs)) (gap d ∷ insert_cell behind never c xs))
      go true again = p
      go false again = (p.0, p.1, again)
  pads_insert c (edited old now ∷ xs) p = rw (none_meets now) (pads_insert c xs p)

  pads_carry : (sort : Chunk → Bool) (g : Chunk → Chunk) (new : Option Chunk) (xs : List Cell) → PadsThere xs → PadsThere (acted_cells (carry sort g new (flat_map live xs)) xs)
  pads_carry sort g new xs p = go (list_any sort (flat_map live xs)) new
    where
      go : (t : Bool) (n : Option Chunk) → PadsThere (acted_cells (carry_by sort g n t) xs)
      go true n = pads_settle sort g 0 xs p
      go false None = p
      go false (Some c) = pads_insert c xs p

  pads_user : (e : List (Item Value)) (xs : List Cell) → PadsThere xs → PadsThere (acted_cells (user_step e (flat_map live xs)) xs)
  pads_user [] xs p = p
  pads_user (i ∷ e) xs p = pads_carry is_user (edit_carrier udta user_items (i ∷ e)) (fresh udta (put_all user_items (i ∷ e) [])) xs p

  pads_keys : (e : List (Item (List ℕ))) (xs : List Cell) → PadsThere xs → PadsThere (acted_cells (key_step e (flat_map live xs)) xs)
  pads_keys [] xs p = p
  pads_keys (i ∷ e) xs p = pads_carry is_meta (edit_meta (i ∷ e)) (new_meta (i ∷ e)) xs p

  closed_same : (last : Bool) (s : Slot) (ps : List Piece) → map (changed_piece h) (closed last s ++ ps) ≡ closed last s ++ map (changed_piece h) ps
  closed_same last shut ps = refl
  closed_same last (begun lead slot now) ps = refl

  empty_same : (xs : List Cell) → is_empty (map moved_cell xs) ≡ is_empty xs
  empty_same [] = refl
  empty_same (x ∷ xs) = refl

  units_same : (s : Slot) (xs : List Cell) → PadsThere xs → units s (map moved_cell xs) ≡ map (changed_piece h) (units s xs)
  unfolding units
  units_same shut [] p = refl
  units_same (begun lead slot now) [] p = refl
  units_same s (kept c ∷ xs) p =
      ap (λ (t : Bool). closed false s ++ kept_next (t && not (is_empty (map moved_cell xs))) (h c) (λ u. units u (map moved_cell xs))) p.1
      ∙ ap (λ (ps : List Piece). closed false s ++ (copied (h c) ∷ ps)) (units_same shut xs p.2) ∙ sym (closed_same false s (copied c ∷ units shut xs))
      ∙ ap (λ (t : Bool). map (changed_piece h) (closed false s ++ kept_next (t && not (is_empty xs)) c (λ u. units u xs))) (sym p.0)
  units_same shut (gap c ∷ xs) p =
      ap (λ (t : Bool). kept_next (t && not (is_empty (map moved_cell xs))) c (λ u. units u (map moved_cell xs))) p.0 ∙ ap (λ (ps : List Piece). copied c ∷ ps) (units_same shut xs p.2)
      ∙ ap (λ (d : Chunk). copied d ∷ map (changed_piece h) (units shut xs)) (sym p.1)
      ∙ ap (λ (t : Bool). map (changed_piece h) (kept_next (t && not (is_empty xs)) c (λ u. units u xs))) (sym p.0)
  units_same (begun lead slot now) (gap c ∷ xs) p = units_same (begun lead (slot ++ spell c) now) xs p.2
  units_same shut (edited old new ∷ xs) p = units_same (begun [] (spell_all old) new) xs p
  units_same (begun lead slot now) (edited old new ∷ xs) p = units_same (begun lead (slot ++ spell_all old) (now ++ new)) xs p

  -- The pieces of changed atoms are the pieces, changed.
  pub pieces_same : (e : Changes) (cs : List Chunk) → AllByRecursion PadThere cs → units shut (carried (steps e) (map cell_of (map h cs))) ≡ map (changed_piece h) (units shut (carried (steps e) (map cell_of cs)))
  pieces_same e cs p =
      let xs = map cell_of cs in
      let mid = acted_cells (user_step e.users (flat_map live xs)) xs in
      ap (units shut) (carried_same e cs) ∙ units_same shut (carried (steps e) xs) (pads_keys e.keys mid (pads_user e.users xs (pads_read cs p)))

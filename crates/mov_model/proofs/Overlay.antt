-- To relocate the tables in the old file and then to lay the edit gives the new file.
use Rattle.std.proofs.Common.{Bool, List, None, Option, Some, suc, zero, [], ap, append_assoc, cond, false, leb, length, map, refl, sym, true, ℕ, ◌++◌, ◌+◌, ◌∙◌, ◌∷◌, ◌≡◌}
use Rattle.std.specs.Prelude.{IfSome, codes, not, ◌&&◌, ◌||◌}
use Rattle.std.proofs.lemmas.List.{append-nil}
use Rattle.std.proofs.lemmas.List.Concat.{flat_map-append}
use Rattle.std.specs.List.{AllByRecursion, flat_map, list_any}
use Rattle.part_tree.specs.declared.field.Value.{Value}
use Rattle.container_model.proofs.Deep.{Alike, alike_len}
use Rattle.container_model.proofs.Units.{BringsPad, spell_all-append}
use Rattle.container_model.specs.Chunk.{Chunk, spell, spell_all}
use Rattle.container_model.specs.Cuts.{changed_piece}
use Rattle.container_model.specs.Items.{Item, edit_carrier, put_all}
use Rattle.container_model.specs.Units.{Cell, Piece, Slot, begun, closed, copied, cuts, edited, gap, is_empty, kept, kept_next, lacks_pad, lay, live, old_bytes, padded, replaced, shut, unit_bytes, units, was}
use Rattle.carrier_model.proofs.Fitted.{LastOnly}
use Rattle.mov_model.specs.Atoms.{cell_by, cell_of, is_padding}
use Rattle.container_model.specs.Atoms.{atom, is}
use Rattle.carrier_model.specs.Cells.{acted_cells, behind, changed, changed_cell, count_all, insert_cell, leave, never, only_gaps, settle, settle_cells, some_meets}
use Rattle.carrier_model.specs.Steps.{carried}
use Rattle.mov_model.specs.Carried.{Changes, carry, carry_by, first_becomes, fresh, key_step, steps, user_step}
use Rattle.mov_model.specs.Keys.{edit_meta, is_meta, new_meta}
use Rattle.mov_model.proofs.Carry.{Edits, Fresh, Sort, none_meets}
use Rattle.mov_model.proofs.Cells.{is_user, meta_edits, meta_fresh, meta_sort, user_edits, user_fresh, user_sort}
use Rattle.std.specs.Str.{bytes_eq}
use Rattle.mov_model.specs.New.{ends_open, fill, grown, hanging, padding}
use Rattle.qt_text.specs.User.{udta, user_items}

module _ (g : Chunk → Chunk) where
  -- copied chunks keep their length, and nothing in a unit is changed
  abbrev pub Fixed : List Piece → Type 0
  Fixed [] = Unit {0}
  Fixed (copied c ∷ ps) = Alike c (g c) × Fixed ps
  Fixed (replaced lead slot now last ∷ ps) = (lead ≡ []) × (map g now ≡ now) × Fixed ps

  pub changed_cuts : (f : Bool) (at : ℕ) (ps : List Piece) → Fixed ps → cuts (fill f) at (map (changed_piece g) ps) ≡ cuts (fill f) at ps
  changed_cuts f at [] h = refl
  changed_cuts f at (copied c ∷ ps) h = ap (λ (n : ℕ). cuts (fill f) (at + n) (map (changed_piece g) ps)) (alike_len c (g c) h.0) ∙ changed_cuts f (at + length (spell c)) ps h.1
  changed_cuts f at (replaced lead slot now last ∷ ps) h = ap (λ (x : List _). Rattle.container_model.specs.Units.cut_of (fill f) at lead slot now last ∷ x) (changed_cuts f (at + length (spell_all lead ++ slot)) ps h.2)

  map-chunks : (a b : List Chunk) → map g (a ++ b) ≡ map g a ++ map g b
  map-chunks [] b = refl
  map-chunks (c ∷ a) b = ap (λ (x : List Chunk). g c ∷ x) (map-chunks a b)

  module _ (free : (body : List ℕ) → g (atom (codes "free") body) ≡ atom (codes "free") body) where
    fill_fixed : (f last : Bool) (slot : List ℕ) (s : ℕ) → map g (fill f last slot s) ≡ fill f last slot s
    fill_fixed f last slot s = go (f && last)
      where
        one : (t : Bool) (body : List ℕ) → map g (cond t [] (atom (codes "free") body ∷ [])) ≡ cond t [] (atom (codes "free") body ∷ [])
        one true body = refl
        one false body = ap (λ (c : Chunk). c ∷ []) (free body)

        go : (t : Bool) → map g (cond t [] (padding slot s)) ≡ cond t [] (padding slot s)
        go true = refl
        go false = one (Rattle.std.proofs.Common.leb (length slot) s) _

    pub changed_lay : (f : Bool) (ps : List Piece) → Fixed ps → lay (fill f) (map (changed_piece g) ps) ≡ map g (lay (fill f) ps)
    changed_lay f [] h = refl
    changed_lay f (copied c ∷ ps) h = ap (λ (x : List Chunk). g c ∷ x) (changed_lay f ps h.1)
    changed_lay f (replaced lead slot now last ∷ ps) h =
        let p = fill f last slot (length (unit_bytes lead now)) in
        let one : map g (map padded lead ++ (now ++ p)) ≡ map padded lead ++ (now ++ p)
        = ap (λ (x : List Chunk). map g (map padded x ++ (now ++ p))) h.0 ∙ map-chunks now p ∙ rw (h.1, fill_fixed f last slot (length (unit_bytes lead now))) (ap (λ (x : List Chunk). map padded x ++ (now ++ p)) (sym h.0)) in
        sym (map-chunks (map padded lead ++ (now ++ p)) (lay (fill f) ps) ∙ ap (λ (x : List Chunk). x ++ map g (lay (fill f) ps)) one ∙ ap (λ (x : List Chunk). (map padded lead ++ (now ++ p)) ++ x) (sym (changed_lay f ps h.2)))

  pub changed_grown : (more : List ℕ) (ps : List Piece) → map (changed_piece g) (grown more ps) ≡ grown more (map (changed_piece g) ps)
  changed_grown more [] = refl
  changed_grown more (copied c ∷ ps) = ap (λ (x : List Piece). copied (g c) ∷ x) (changed_grown more ps)
  changed_grown more (replaced lead slot now true ∷ ps) = refl
  changed_grown more (replaced lead slot now false ∷ ps) = ap (λ (x : List Piece). replaced lead slot now false ∷ x) (changed_grown more ps)

  pub grown_fixed : (more : List ℕ) (ps : List Piece) → Fixed ps → Fixed (grown more ps)
  grown_fixed more [] h = tt
  grown_fixed more (copied c ∷ ps) h = (h.0, grown_fixed more ps h.1)
  grown_fixed more (replaced lead slot now true ∷ ps) h = h
  grown_fixed more (replaced lead slot now false ∷ ps) h = (h.0, h.1, grown_fixed more ps h.2)

  pub changed_brings : (ps : List Piece) → BringsPad ps → BringsPad (map (changed_piece g) ps)
  changed_brings [] h = tt
  changed_brings (copied c ∷ ps) h = changed_brings ps h
  changed_brings (replaced lead slot now last ∷ ps) h = (h.0, changed_brings ps h.1)

  pub changed_last : (ps : List Piece) → LastOnly ps → LastOnly (map (changed_piece g) ps)
  changed_last [] h = tt
  changed_last (copied c ∷ ps) h = changed_last ps h
  changed_last (replaced lead slot now last ∷ ps) h = (λ e. ap (map (changed_piece g)) (h.0 e), changed_last ps h.1)

  pub changed_open : (ps : List Piece) → ends_open (map (changed_piece g) ps) ≡ ends_open ps
  changed_open [] = refl
  changed_open (copied c ∷ ps) = changed_open ps
  changed_open (replaced lead slot now last ∷ ps) = ap (λ (t : Bool). last || t) (changed_open ps)

  pub changed_hanging : (f : Bool) (ps : List Piece) → hanging (fill f) (map (changed_piece g) ps) ≡ hanging (fill f) ps
  changed_hanging f [] = refl
  changed_hanging f (copied c ∷ ps) = changed_hanging f ps
  changed_hanging f (replaced lead slot now true ∷ ps) = refl
  changed_hanging f (replaced lead slot now false ∷ ps) = changed_hanging f ps

  -- ---- pieces of cells

  -- copied chunks keep their length and have their pads; padding and what is edited is not changed
  abbrev pub FixedCells : List Cell → Type 0
  FixedCells [] = Unit {0}
  FixedCells (kept c ∷ xs) = (lacks_pad c ≡ false) × Alike c (g c) × FixedCells xs
  FixedCells (gap c ∷ xs) = (lacks_pad c ≡ false) × (g c ≡ c) × FixedCells xs
  FixedCells (edited old now ∷ xs) = (map g old ≡ old) × (map g now ≡ now) × FixedCells xs

  abbrev FixedSlot : Slot → Type 0
  FixedSlot shut = Unit {0}
  FixedSlot (begun lead slot now) = (lead ≡ []) × (map g now ≡ now)

  fixed_closed : (last : Bool) (s : Slot) (ps : List Piece) → FixedSlot s → Fixed ps → Fixed (closed last s ++ ps)
  fixed_closed last shut ps h f = f
  fixed_closed last (begun lead slot now) ps h f = (h.0, h.1, f)

  fixed_next : (t : Bool) (c : Chunk) (end : Bool) (more : Slot → List Piece) → t ≡ false → Alike c (g c) → Fixed (more shut) → Fixed (kept_next (t && end) c more)
  fixed_next true c end more e h f = absurd cc
  fixed_next false c end more e h f = (h, f)

  same_alike : (c : Chunk) → g c ≡ c → Alike c (g c)
  same_alike c e = record { form_is = ap (λ (x : Chunk). x.form) e; id_is = ap (λ (x : Chunk). x.id) e; len_is = ap (λ (x : Chunk). length x.body) e; pad_is = ap (λ (x : Chunk). x.pad) e }

  pub fixed_units : (s : Slot) (xs : List Cell) → FixedSlot s → FixedCells xs → Fixed (units s xs)
  unfolding units
  fixed_units s [] h f = rw (← append-nil (closed true s)) (fixed_closed true s [] h tt)
  fixed_units s (kept c ∷ xs) h f = fixed_closed false s _ h (fixed_next (lacks_pad c) c (not (is_empty xs)) (λ t. units t xs) f.0 f.1 (fixed_units shut xs tt f.2))
  fixed_units shut (gap c ∷ xs) h f = fixed_next (lacks_pad c) c (not (is_empty xs)) (λ t. units t xs) f.0 (same_alike c f.1) (fixed_units shut xs tt f.2)
  fixed_units (begun lead slot now) (gap c ∷ xs) h f = fixed_units (begun lead (slot ++ spell c) now) xs h f.2
  fixed_units shut (edited old new ∷ xs) h f = fixed_units (begun [] (spell_all old) new) xs (refl, f.1) f.2
  fixed_units (begun lead slot now) (edited old new ∷ xs) h f = fixed_units (begun lead (slot ++ spell_all old) (now ++ new)) xs (h.0, map-chunks now new ∙ rw (h.1, f.1) refl) f.2

  abbrev pub slot_bytes : Slot → List ℕ
  slot_bytes shut = []
  slot_bytes (begun lead slot now) = spell_all lead ++ slot

  old_closed : (last : Bool) (s : Slot) → flat_map old_bytes (map (changed_piece g) (closed last s)) ≡ slot_bytes s
  old_closed last shut = refl
  old_closed last (begun lead slot now) = append-nil (spell_all lead ++ slot)

  map-pieces : (a b : List Piece) → map (changed_piece g) (a ++ b) ≡ map (changed_piece g) a ++ map (changed_piece g) b
  map-pieces [] b = refl
  map-pieces (p ∷ a) b = ap (λ (x : List Piece). changed_piece g p ∷ x) (map-pieces a b)

  old_next : (t end : Bool) (c : Chunk) (more : Slot → List Piece) (b : List ℕ) → t ≡ false → flat_map old_bytes (map (changed_piece g) (more shut)) ≡ b → flat_map old_bytes (map (changed_piece g) (kept_next (t && end) c more)) ≡ spell (g c) ++ b
  old_next true end c more b e h = absurd cc
  old_next false end c more b e h = ap (λ (x : List ℕ). spell (g c) ++ x) h

  -- the changed pieces make up the changed chunks
  pub changed_old : (s : Slot) (xs : List Cell) → FixedCells xs → flat_map old_bytes (map (changed_piece g) (units s xs)) ≡ slot_bytes s ++ spell_all (map g (flat_map was xs))
  unfolding units
  changed_old s [] f = old_closed true s ∙ sym (append-nil (slot_bytes s))
  changed_old s (kept c ∷ xs) f =
      let next = kept_next (lacks_pad c && not (is_empty xs)) c (λ t. units t xs) in
      ap (flat_map old_bytes) (map-pieces (closed false s) next) ∙ flat_map-append old_bytes (map (changed_piece g) (closed false s)) (map (changed_piece g) next)
      ∙ rw (old_closed false s, old_next (lacks_pad c) (not (is_empty xs)) c (λ t. units t xs) _ f.0 (changed_old shut xs f.2)) refl
  changed_old shut (gap c ∷ xs) f = old_next (lacks_pad c) (not (is_empty xs)) c (λ t. units t xs) _ f.0 (changed_old shut xs f.2)
  changed_old (begun lead slot now) (gap c ∷ xs) f =
      changed_old (begun lead (slot ++ spell c) now) xs f.2 ∙ ap (λ (d : Chunk). (spell_all lead ++ (slot ++ spell d)) ++ spell_all (map g (flat_map was xs))) (sym f.1) ∙ simp append_assoc
  changed_old shut (edited old new ∷ xs) f =
      changed_old (begun [] (spell_all old) new) xs f.2 ∙ ap (λ (d : List Chunk). spell_all d ++ spell_all (map g (flat_map was xs))) (sym f.0)
      ∙ sym (ap spell_all (map-chunks old (flat_map was xs)) ∙ spell_all-append (map g old) (map g (flat_map was xs)))
  changed_old (begun lead slot now) (edited old new ∷ xs) f =
      changed_old (begun lead (slot ++ spell_all old) (now ++ new)) xs f.2 ∙ ap (λ (d : List Chunk). (spell_all lead ++ (slot ++ spell_all d)) ++ spell_all (map g (flat_map was xs))) (sym f.0)
      ∙ rw (map-chunks old (flat_map was xs), spell_all-append (map g old) (map g (flat_map was xs))) (simp append_assoc)

  -- ---- the cells of an edit

  module _ (same : (c : Chunk) → is c (codes "trak") ≡ false → g c ≡ c) where
    fixed_read : (cs : List Chunk) → AllByRecursion (λ c. (lacks_pad c ≡ false) × Alike c (g c)) cs → FixedCells (map cell_of cs)
    fixed_read [] h = tt
    fixed_read (c ∷ cs) h = go (is_padding c.id) refl (fixed_read cs h.1)
      where
        no_track : is_padding c.id ≡ true → is c (codes "trak") ≡ false
        no_track p = away (is c (codes "trak")) refl
          where
            away : (t : Bool) → is c (codes "trak") ≡ t → t ≡ false
            away true i = let no : is_padding c.id ≡ false = rw (Rattle.container_model.proofs.Items.same_true c.id (codes "trak") i) refl in absurd cc
            away false i = refl

        go : (t : Bool) → is_padding c.id ≡ t → FixedCells (map cell_of cs) → FixedCells (cell_by c t ∷ map cell_of cs)
        go true p again = (h.0.0, same c (no_track p), again)
        go false p again = (h.0.0, h.0.1, again)

    head_same : (c : Chunk) (cs : List Chunk) → map g (c ∷ cs) ≡ c ∷ cs → g c ≡ c
    head_same c cs e = ap (λ (ds : List Chunk). elim ds [ [] ↦ c | d ∷ more ↦ d ]) e

    tail_same : (c : Chunk) (cs : List Chunk) → map g (c ∷ cs) ≡ c ∷ cs → map g cs ≡ cs
    tail_same c cs e = ap (λ (ds : List Chunk). elim ds [ [] ↦ cs | d ∷ more ↦ more ]) e

    -- ---- the first carrier is edited

    module _ (sort : Chunk → Bool) (h : Chunk → Chunk) (kept_same : (c : Chunk) → sort c ≡ true → (g c ≡ c) × (g (h c) ≡ h c)) where
      fixed_now : (n : ℕ) (now : List Chunk) → map g now ≡ now → map g (settle sort (first_becomes h) n now) ≡ settle sort (first_becomes h) n now
      fixed_now n [] e = refl
      fixed_now n (c ∷ now) e = go (sort c) refl n (fixed_now (suc n) now (tail_same c now e)) (fixed_now n now (tail_same c now e))
        where
          go : (t : Bool) → sort c ≡ t → (n : ℕ) → map g (settle sort (first_becomes h) (suc n) now) ≡ settle sort (first_becomes h) (suc n) now → map g (settle sort (first_becomes h) n now) ≡ settle sort (first_becomes h) n now
              → map g (changed (cond t (first_becomes h n c) leave) c ++ settle sort (first_becomes h) (cond t (suc n) n) now) ≡ changed (cond t (first_becomes h n c) leave) c ++ settle sort (first_becomes h) (cond t (suc n) n) now
          go true u zero more again = rw ((kept_same c u).1, more) refl
          go true u (suc n) more again = rw ((kept_same c u).0, more) refl
          go false u n more again = rw (head_same c now e, again) refl

      fixed_settle : (n : ℕ) (xs : List Cell) → FixedCells xs → FixedCells (settle_cells sort (first_becomes h) n xs)
      fixed_settle n [] f = tt
      fixed_settle n (gap c ∷ xs) f = (f.0, f.1, fixed_settle n xs f.2)
      fixed_settle n (edited old now ∷ xs) f = (f.0, fixed_now n now f.1, fixed_settle (count_all sort n now) xs f.2)
      fixed_settle n (kept c ∷ xs) f = go (sort c) refl n (λ m. fixed_settle m xs f.2)
        where
          go : (t : Bool) → sort c ≡ t → (n : ℕ) → ((m : ℕ) → FixedCells (settle_cells sort (first_becomes h) m xs)) → FixedCells (changed_cell (cond t (first_becomes h n c) leave) c ∷ settle_cells sort (first_becomes h) (cond t (suc n) n) xs)
          go true u zero again = (ap (λ (x : Chunk). x ∷ []) (kept_same c u).0, ap (λ (x : Chunk). x ∷ []) (kept_same c u).1, again 1)
          go true u (suc n) again = (f.0, f.1, again (suc (suc n)))
          go false u n again = (f.0, f.1, again n)

    -- ---- a new one is put last

    fixed_insert : (c : Chunk) → g c ≡ c → (xs : List Cell) → FixedCells xs → FixedCells (insert_cell behind never c xs)
    fixed_insert c e [] f = (refl, ap (λ (x : Chunk). x ∷ []) e, tt)
    fixed_insert c e (kept d ∷ xs) f = (f.0, f.1, fixed_insert c e xs f.2)
    fixed_insert c e (gap d ∷ xs) f = go (only_gaps xs) (fixed_insert c e xs f.2)
      where
        go : (t : Bool) → FixedCells (insert_cell behind never c xs) → FixedCells (cond t (Rattle.carrier_model.specs.Cells.new_cell c ∷ (gap d ∷ xs)) (gap d ∷ insert_cell behind never c xs))
        go true again = (refl, ap (λ (x : Chunk). x ∷ []) e, f)
        go false again = (f.0, f.1, again)
    fixed_insert c e (edited old now ∷ xs) f = rw (none_meets now) (f.0, f.1, fixed_insert c e xs f.2)

    fixed_carry : (sort : Chunk → Bool) (h : Chunk → Chunk) (new : Option Chunk) → Sort sort → Edits h → IfSome new Fresh → (xs : List Cell) → FixedCells xs → FixedCells (acted_cells (carry sort h new (flat_map live xs)) xs)
    fixed_carry sort h new s k n xs f = go (list_any sort (flat_map live xs)) new n
      where
        go : (t : Bool) (m : Option Chunk) → IfSome m Fresh → FixedCells (acted_cells (carry_by sort h m t) xs)
        go true m n = fixed_settle sort h (λ c u. (same c (s.no_track c u), same (h c) (ap (λ (x : List ℕ). bytes_eq x (codes "trak")) (k.same_id c) ∙ s.no_track c u))) 0 xs f
        go false None n = f
        go false (Some c) n = fixed_insert c (same c n.no_track) xs f

    fixed_user : (e : List (Item Value)) (xs : List Cell) → FixedCells xs → FixedCells (acted_cells (user_step e (flat_map live xs)) xs)
    fixed_user [] xs f = f
    fixed_user (i ∷ e) xs f = fixed_carry is_user (edit_carrier udta user_items (i ∷ e)) (fresh udta (put_all user_items (i ∷ e) [])) user_sort (user_edits (i ∷ e)) (user_fresh (put_all user_items (i ∷ e) [])) xs f

    fixed_keys : (e : List (Item (List ℕ))) (xs : List Cell) → FixedCells xs → FixedCells (acted_cells (key_step e (flat_map live xs)) xs)
    fixed_keys [] xs f = f
    fixed_keys (i ∷ e) xs f = fixed_carry is_meta (edit_meta (i ∷ e)) (new_meta (i ∷ e)) meta_sort (meta_edits (i ∷ e)) (meta_fresh (i ∷ e)) xs f

    pub fixed_carried : (e : Changes) (cs : List Chunk) → AllByRecursion (λ c. (lacks_pad c ≡ false) × Alike c (g c)) cs → FixedCells (carried (steps e) (map cell_of cs))
    fixed_carried e cs h =
        let mid = acted_cells (user_step e.users (flat_map live (map cell_of cs))) (map cell_of cs) in
        fixed_keys e.keys mid (fixed_user e.users (map cell_of cs) (fixed_read cs h))

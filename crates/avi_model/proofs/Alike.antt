-- Cells that an edit of the lists of fields doesn't tell apart: what is kept has the same length, and all else is the same. The edit
-- replaces the same spans of both.
use Rattle.std.proofs.Common.{◌≡◌, ℕ, suc, ◌+◌, Bool, true, false, cond, List, [], ◌∷◌, ◌++◌, length, map, refl, sym, ap, subst, ◌∙◌, arith, inl, inr}
use Rattle.std.specs.Prelude.{◌⊎◌, ◌&&◌, ◌||◌, not}
use Rattle.std.specs.List.{flat_map}
use Rattle.std.proofs.lemmas.List.{length-append}
use Rattle.container_model.proofs.Units.{spell_all-append}
use Rattle.container_model.specs.Chunk.{Chunk, spell, spell_all}
use Rattle.container_model.specs.Splice.{Cut}
use Rattle.container_model.specs.Units.{Cell, kept, gap, edited, live, lacks_pad, Piece, replaced, Slot, shut, begun, is_empty, closed, kept_next, units, lead_pad, unit_bytes, padded, Fill, lay, cut_of, cuts}
use Rattle.container_model.specs.Deep.{Token}
use Rattle.container_model.specs.Items.{Item}
use Rattle.carrier_model.specs.Cells.{Change, leave, become, change_at, counted, count_all, settle, settle_cells, changed_cell, behind, meets, some_meets, insert, only_gaps, new_cell, insert_cell, acted_cells}
use Rattle.carrier_model.specs.Info.{info, info_items}
use Rattle.carrier_model.specs.Lists.{items_of, all_items, home, edit_nth, has_carrier, sets_some, new_carrier, lists_act_by, edit_list_cells}
use Rattle.avi_model.specs.NewFile.{Items}
use Rattle.avi_model.specs.NewFile.{home as behind_hdrl}

-- a chunk that is kept: a list of fields is the same, and no other chunk becomes one; it has the same length and place for a new list
pub record Same (c d : Chunk) : Type 0 where
  pub long : length (spell c) ≡ length (spell d)
  pub padded_long : length (spell_all (padded c ∷ [])) ≡ length (spell_all (padded d ∷ []))
  pub lacks : lacks_pad c ≡ lacks_pad d
  pub list : (c ≡ d) ⊎ ((info.is c ≡ false) × (info.is d ≡ false))
  pub place : meets behind_hdrl c ≡ meets behind_hdrl d

abbrev pub Alike : List Cell → List Cell → Type 0
Alike [] [] = Unit {0}
Alike (kept c ∷ xs) (kept d ∷ ys) = Same c d × Alike xs ys
Alike (gap c ∷ xs) (gap d ∷ ys) = (c ≡ d) × Alike xs ys
Alike (edited old now ∷ xs) (edited was new ∷ ys) = ((old ≡ was) × (now ≡ new)) × Alike xs ys
Alike _ _ = ⊥

pub same_refl : (c : Chunk) → Same c c
same_refl c = record { long = refl; padded_long = refl; lacks = refl; list = inl refl; place = refl }

-- ---- the edit

gaps_alike : (xs ys : List Cell) → Alike xs ys → only_gaps xs ≡ only_gaps ys
gaps_alike [] [] h = refl
gaps_alike (kept c ∷ xs) (kept d ∷ ys) h = refl
gaps_alike (gap c ∷ xs) (gap d ∷ ys) h = gaps_alike xs ys h.1
gaps_alike (edited o n ∷ xs) (edited p m ∷ ys) h = refl
gaps_alike _ _ h = absurd h

list_same : (c d : Chunk) → Same c d → info.is c ≡ info.is d
list_same c d h = go h.list
  where
    go : (c ≡ d) ⊎ ((info.is c ≡ false) × (info.is d ≡ false)) → info.is c ≡ info.is d
    go (inl e) = ap (λ (x : Chunk). info.is x) e
    go (inr n) = n.0 ∙ sym n.1

settle_alike : (f : ℕ → Chunk → Change) (n : ℕ) (xs ys : List Cell) → Alike xs ys → Alike (settle_cells info.is f n xs) (settle_cells info.is f n ys)
settle_alike f n [] [] h = tt
settle_alike f n (kept c ∷ xs) (kept d ∷ ys) h = go h.0.list (λ k. settle_alike f k xs ys h.1)
  where
    one : (x : Change) → Alike (settle_cells info.is f (counted info.is n c) xs) (settle_cells info.is f (counted info.is n c) ys)
        → Alike (changed_cell x c ∷ settle_cells info.is f (counted info.is n c) xs) (changed_cell x c ∷ settle_cells info.is f (counted info.is n c) ys)
    one leave g = (same_refl c, g)
    one (become cs) g = ((refl, refl), g)

    go : (c ≡ d) ⊎ ((info.is c ≡ false) × (info.is d ≡ false)) → ((k : ℕ) → Alike (settle_cells info.is f k xs) (settle_cells info.is f k ys))
        → Alike (changed_cell (change_at info.is f n c) c ∷ settle_cells info.is f (counted info.is n c) xs) (changed_cell (change_at info.is f n d) d ∷ settle_cells info.is f (counted info.is n d) ys)
    go (inl e) again =
        subst (λ (x : Chunk). Alike (changed_cell (change_at info.is f n c) c ∷ settle_cells info.is f (counted info.is n c) xs) (changed_cell (change_at info.is f n x) x ∷ settle_cells info.is f (counted info.is n x) ys)) e
        (one (change_at info.is f n c) (again (counted info.is n c)))
    go (inr m) again =
        subst (λ (t : Bool). Alike (changed_cell (cond t (f n c) leave) c ∷ settle_cells info.is f (cond t (suc n) n) xs) (changed_cell (change_at info.is f n d) d ∷ settle_cells info.is f (counted info.is n d) ys)) (sym m.0)
        (subst (λ (t : Bool). Alike (kept c ∷ settle_cells info.is f n xs) (changed_cell (cond t (f n d) leave) d ∷ settle_cells info.is f (cond t (suc n) n) ys)) (sym m.1) (h.0, again n))
settle_alike f n (gap c ∷ xs) (gap d ∷ ys) h = (h.0, settle_alike f n xs ys h.1)
settle_alike f n (edited o w ∷ xs) (edited p m ∷ ys) h =
    subst (λ (x : List Chunk). Alike (edited o (settle info.is f n w) ∷ settle_cells info.is f (count_all info.is n w) xs) (edited p (settle info.is f n x) ∷ settle_cells info.is f (count_all info.is n x) ys)) h.0.1
    ((h.0.0, refl), settle_alike f (count_all info.is n w) xs ys h.1)
settle_alike f n _ _ h = absurd h

insert_alike : (x : Chunk) (xs ys : List Cell) → Alike xs ys → Alike (insert_cell behind behind_hdrl x xs) (insert_cell behind behind_hdrl x ys)
insert_alike x [] [] h = ((refl, refl), tt)
insert_alike x (kept c ∷ xs) (kept d ∷ ys) h =
    subst (λ (t : Bool). Alike (cond (meets behind_hdrl c) (kept c ∷ (new_cell x ∷ xs)) (kept c ∷ insert_cell behind behind_hdrl x xs)) (cond t (kept d ∷ (new_cell x ∷ ys)) (kept d ∷ insert_cell behind behind_hdrl x ys))) h.0.place
    (go (meets behind_hdrl c) (insert_alike x xs ys h.1))
  where
    go : (t : Bool) → Alike (insert_cell behind behind_hdrl x xs) (insert_cell behind behind_hdrl x ys)
        → Alike (cond t (kept c ∷ (new_cell x ∷ xs)) (kept c ∷ insert_cell behind behind_hdrl x xs)) (cond t (kept d ∷ (new_cell x ∷ ys)) (kept d ∷ insert_cell behind behind_hdrl x ys))
    go true g = (h.0, ((refl, refl), h.1))
    go false g = (h.0, g)
insert_alike x (gap c ∷ xs) (gap d ∷ ys) h =
    subst (λ (t : Bool). Alike (cond (only_gaps xs) (new_cell x ∷ (gap c ∷ xs)) (gap c ∷ insert_cell behind behind_hdrl x xs)) (cond t (new_cell x ∷ (gap d ∷ ys)) (gap d ∷ insert_cell behind behind_hdrl x ys))) (gaps_alike xs ys h.1)
    (go (only_gaps xs) (insert_alike x xs ys h.1))
  where
    go : (t : Bool) → Alike (insert_cell behind behind_hdrl x xs) (insert_cell behind behind_hdrl x ys)
        → Alike (cond t (new_cell x ∷ (gap c ∷ xs)) (gap c ∷ insert_cell behind behind_hdrl x xs)) (cond t (new_cell x ∷ (gap d ∷ ys)) (gap d ∷ insert_cell behind behind_hdrl x ys))
    go true g = ((refl, refl), h)
    go false g = (h.0, g)
insert_alike x (edited o w ∷ xs) (edited p m ∷ ys) h =
    subst (λ (z : List Chunk). Alike (cond (some_meets behind_hdrl w) (edited o (insert behind behind_hdrl x w) ∷ xs) (edited o w ∷ insert_cell behind behind_hdrl x xs)) (cond (some_meets behind_hdrl z) (edited p (insert behind behind_hdrl x z) ∷ ys) (edited p z ∷ insert_cell behind behind_hdrl x ys))) h.0.1
    (go (some_meets behind_hdrl w) (insert_alike x xs ys h.1))
  where
    go : (t : Bool) → Alike (insert_cell behind behind_hdrl x xs) (insert_cell behind behind_hdrl x ys)
        → Alike (cond t (edited o (insert behind behind_hdrl x w) ∷ xs) (edited o w ∷ insert_cell behind behind_hdrl x xs)) (cond t (edited p (insert behind behind_hdrl x w) ∷ ys) (edited p w ∷ insert_cell behind behind_hdrl x ys))
    go true g = ((h.0.0, refl), h.1)
    go false g = ((h.0.0, refl), g)
insert_alike x _ _ h = absurd h

items_alike : (xs ys : List Cell) → Alike xs ys → all_items info info_items (flat_map live xs) ≡ all_items info info_items (flat_map live ys)
items_alike [] [] h = refl
items_alike (kept c ∷ xs) (kept d ∷ ys) h = go h.0.list (items_alike xs ys h.1)
  where
    go : (c ≡ d) ⊎ ((info.is c ≡ false) × (info.is d ≡ false)) → all_items info info_items (flat_map live xs) ≡ all_items info info_items (flat_map live ys)
        → cond (info.is c) (items_of info info_items c ∷ all_items info info_items (flat_map live xs)) (all_items info info_items (flat_map live xs))
        ≡ cond (info.is d) (items_of info info_items d ∷ all_items info info_items (flat_map live ys)) (all_items info info_items (flat_map live ys))
    go (inl e) g =
        ap (λ (z : List (List Token)). cond (info.is c) (items_of info info_items c ∷ z) z) g ∙ ap (λ (x : Chunk). cond (info.is x) (items_of info info_items x ∷ all_items info info_items (flat_map live ys)) (all_items info info_items (flat_map live ys))) e
    go (inr n) g = rw (n.0, n.1) g
items_alike (gap c ∷ xs) (gap d ∷ ys) h = items_alike xs ys h.1
items_alike (edited o w ∷ xs) (edited p m ∷ ys) h = subst (λ (z : List Chunk). all_items info info_items (w ++ flat_map live xs) ≡ all_items info info_items (z ++ flat_map live ys)) h.0.1 (both w (items_alike xs ys h.1))
  where
    both : (w : List Chunk) → all_items info info_items (flat_map live xs) ≡ all_items info info_items (flat_map live ys) → all_items info info_items (w ++ flat_map live xs) ≡ all_items info info_items (w ++ flat_map live ys)
    both [] e = e
    both (c ∷ cs) e = ap (λ (z : List (List Token)). cond (info.is c) (items_of info info_items c ∷ z) z) (both cs e)
items_alike _ _ h = absurd h

carriers_alike : (xs ys : List Cell) → Alike xs ys → has_carrier info (flat_map live xs) ≡ has_carrier info (flat_map live ys)
carriers_alike [] [] h = refl
carriers_alike (kept c ∷ xs) (kept d ∷ ys) h = ap (λ (b : Bool). b || has_carrier info (flat_map live xs)) (list_same c d h.0) ∙ ap (λ (b : Bool). info.is d || b) (carriers_alike xs ys h.1)
carriers_alike (gap c ∷ xs) (gap d ∷ ys) h = carriers_alike xs ys h.1
carriers_alike (edited o w ∷ xs) (edited p m ∷ ys) h = subst (λ (z : List Chunk). has_carrier info (w ++ flat_map live xs) ≡ has_carrier info (z ++ flat_map live ys)) h.0.1 (both w (carriers_alike xs ys h.1))
  where
    both : (w : List Chunk) → has_carrier info (flat_map live xs) ≡ has_carrier info (flat_map live ys) → has_carrier info (w ++ flat_map live xs) ≡ has_carrier info (w ++ flat_map live ys)
    both [] e = e
    both (c ∷ cs) e = ap (λ (b : Bool). info.is c || b) (both cs e)
carriers_alike _ _ h = absurd h

-- The edit leaves them alike.
pub edit_alike : (e : Items) (xs ys : List Cell) → Alike xs ys → Alike (edit_list_cells info info_items behind_hdrl e xs) (edit_list_cells info info_items behind_hdrl e ys)
edit_alike e xs ys h =
    subst (λ (t : Bool). Alike (acted_cells (lists_act_by info info_items behind_hdrl e (flat_map live xs) (has_carrier info (flat_map live xs))) xs) (acted_cells (lists_act_by info info_items behind_hdrl e (flat_map live ys) t) ys)) (carriers_alike xs ys h)
    (go (has_carrier info (flat_map live xs)))
  where
    fresh : (b : Bool) → Alike (acted_cells (new_carrier info info_items behind_hdrl e b) xs) (acted_cells (new_carrier info info_items behind_hdrl e b) ys)
    fresh true = insert_alike (info.fresh (Rattle.container_model.specs.Items.put_all info_items e [])) xs ys h
    fresh false = h

    go : (t : Bool) → Alike (acted_cells (lists_act_by info info_items behind_hdrl e (flat_map live xs) t) xs) (acted_cells (lists_act_by info info_items behind_hdrl e (flat_map live ys) t) ys)
    go false = fresh (sets_some e)
    go true =
        subst (λ (tss : List (List Token)). Alike (settle_cells info.is (edit_nth info info_items (home (all_items info info_items (flat_map live xs))) e) 0 xs) (settle_cells info.is (edit_nth info info_items (home tss) e) 0 ys)) (items_alike xs ys h)
        (settle_alike (edit_nth info info_items (home (all_items info info_items (flat_map live xs))) e) 0 xs ys h)

-- ---- the slots are the same, and what is laid is as long

data Both : Type 0 where
  none : Both
  pair : List Chunk → List Chunk → List ℕ → List Chunk → Both

abbrev left_slot : Both → Slot
left_slot none = shut
left_slot (pair l m slot now) = begun l slot now

abbrev right_slot : Both → Slot
right_slot none = shut
right_slot (pair l m slot now) = begun m slot now

abbrev SameLead : Both → Type 0
SameLead none = Unit {0}
SameLead (pair l m slot now) = (length (spell_all l) ≡ length (spell_all m)) × ((length (spell_all (map padded l)) ≡ length (spell_all (map padded m))) × (lead_pad l ≡ lead_pad m))

empty_alike : (xs ys : List Cell) → Alike xs ys → is_empty xs ≡ is_empty ys
empty_alike [] [] h = refl
empty_alike (kept c ∷ xs) (kept d ∷ ys) h = refl
empty_alike (gap c ∷ xs) (gap d ∷ ys) h = refl
empty_alike (edited o n ∷ xs) (edited p m ∷ ys) h = refl
empty_alike _ _ h = absurd h

-- the spans of pieces, and how long what is laid is
abbrev pub Told : Fill → List Piece → List Piece → Type 0
Told fill ps qs = ((at : ℕ) → cuts fill at ps ≡ cuts fill at qs) × (length (spell_all (lay fill ps)) ≡ length (spell_all (lay fill qs)))

module _ (fill : Fill) where
  unit_told : (l m : List Chunk) (slot : List ℕ) (now : List Chunk) (last : Bool) (ps qs : List Piece) → SameLead (pair l m slot now) → Told fill ps qs → Told fill (replaced l slot now last ∷ ps) (replaced m slot now last ∷ qs)
  unit_told l m slot now last ps qs h g = (one, two)
    where
      same_fill : fill last slot (length (unit_bytes m now)) ≡ fill last slot (length (unit_bytes l now))
      same_fill = ap (λ (x : List ℕ). fill last slot (length (x ++ spell_all now))) (sym h.1.1)

      cut_same : (at : ℕ) → cut_of fill at l slot now last ≡ cut_of fill at m slot now last
      cut_same at =
          ap (λ (k : ℕ). record { at = at + k; len = length slot; bytes = unit_bytes l now ++ spell_all (fill last slot (length (unit_bytes l now))) }) h.0
          ∙ ap (λ (x : List ℕ). record { at = at + length (spell_all m); len = length slot; bytes = (x ++ spell_all now) ++ spell_all (fill last slot (length (x ++ spell_all now))) }) h.1.1

      one : (at : ℕ) → cuts fill at (replaced l slot now last ∷ ps) ≡ cuts fill at (replaced m slot now last ∷ qs)
      one at =
          ap (λ (c : Cut). c ∷ cuts fill (at + length (spell_all l ++ slot)) ps) (cut_same at)
          ∙ ap (λ (k : ℕ). cut_of fill at m slot now last ∷ cuts fill (at + k) ps) (omega (arith, h.0, length-append (spell_all l) slot, length-append (spell_all m) slot))
          ∙ ap (λ (cs : List Cut). cut_of fill at m slot now last ∷ cs) (g.0 (at + length (spell_all m ++ slot)))

      f : List Chunk
      f = fill last slot (length (unit_bytes l now))

      two : length (spell_all (lay fill (replaced l slot now last ∷ ps))) ≡ length (spell_all (lay fill (replaced m slot now last ∷ qs)))
      two =
          let f = fill last slot (length (unit_bytes l now)) in
          ap length (spell_all-append (map padded l ++ (now ++ f)) (lay fill ps) ∙ ap (λ (x : List ℕ). x ++ spell_all (lay fill ps)) (spell_all-append (map padded l) (now ++ f)))
          ∙ omega (
            arith,
            h.1.0,
            g.1,
            length-append (spell_all (map padded l) ++ spell_all (now ++ f)) (spell_all (lay fill ps)),
            length-append (spell_all (map padded l)) (spell_all (now ++ f)),
            length-append (spell_all (map padded m) ++ spell_all (now ++ f)) (spell_all (lay fill qs)),
            length-append (spell_all (map padded m)) (spell_all (now ++ f)),
          )
          ∙ sym (ap (λ (x : List Chunk). length (spell_all ((map padded m ++ (now ++ x)) ++ lay fill qs))) same_fill ∙ ap length (spell_all-append (map padded m ++ (now ++ f)) (lay fill qs) ∙ ap (λ (x : List ℕ). x ++ spell_all (lay fill qs)) (spell_all-append (map padded m) (now ++ f))))

  closed_told : (last : Bool) (b : Both) (ps qs : List Piece) → SameLead b → Told fill ps qs → Told fill (closed last (left_slot b) ++ ps) (closed last (right_slot b) ++ qs)
  closed_told last none ps qs h g = g
  closed_told last (pair l m slot now) ps qs h g = unit_told l m slot now last ps qs h g

  kept_told : (r : Bool) (c d : Chunk) (xs ys : List Cell) → length (spell c) ≡ length (spell d) → length (spell_all (padded c ∷ [])) ≡ length (spell_all (padded d ∷ []))
      → ((b : Both) → SameLead b → Told fill (units (left_slot b) xs) (units (right_slot b) ys)) → Told fill (kept_next r c (λ t. units t xs)) (kept_next r d (λ t. units t ys))
  kept_told true c d xs ys e p h = h (pair (c ∷ []) (d ∷ []) [] []) (omega (arith, e, length-append (spell c) [], length-append (spell d) []), (p, refl))
  kept_told false c d xs ys e p h = (
    λ at. (h none tt).0 (at + length (spell c)) ∙ ap (λ (k : ℕ). cuts fill (at + k) (units shut ys)) e,
    omega (arith, e, (h none tt).1, length-append (spell c) (spell_all (lay fill (units shut xs))), length-append (spell d) (spell_all (lay fill (units shut ys)))),
  )

  units_told : (xs ys : List Cell) (b : Both) → Alike xs ys → SameLead b → Told fill (units (left_slot b) xs) (units (right_slot b) ys)
  unfolding units
  units_told [] [] none h s = (λ at. refl, refl)
  units_told [] [] (pair l m slot now) h s = unit_told l m slot now true [] [] s (λ at. refl, refl)
  units_told (kept c ∷ xs) (kept d ∷ ys) b h s =
      let test : (lacks_pad c && not (is_empty xs)) ≡ (lacks_pad d && not (is_empty ys)) = rw (h.0.lacks, empty_alike xs ys h.1) refl in
      subst (λ (r : Bool). Told fill (closed false (left_slot b) ++ kept_next (lacks_pad c && not (is_empty xs)) c (λ t. units t xs)) (closed false (right_slot b) ++ kept_next r d (λ t. units t ys))) test
      (closed_told false b _ _ s (kept_told (lacks_pad c && not (is_empty xs)) c d xs ys h.0.long h.0.padded_long (λ k g. units_told xs ys k h.1 g)))
  units_told (gap c ∷ xs) (gap d ∷ ys) none h s =
      let test : (lacks_pad c && not (is_empty xs)) ≡ (lacks_pad d && not (is_empty ys)) = ap (λ (x : Chunk). lacks_pad x && not (is_empty xs)) h.0 ∙ ap (λ (r : Bool). lacks_pad d && not r) (empty_alike xs ys h.1) in
      subst (λ (r : Bool). Told fill (kept_next (lacks_pad c && not (is_empty xs)) c (λ t. units t xs)) (kept_next r d (λ t. units t ys))) test
      (kept_told (lacks_pad c && not (is_empty xs)) c d xs ys (ap (λ (x : Chunk). length (spell x)) h.0) (ap (λ (x : Chunk). length (spell_all (padded x ∷ []))) h.0) (λ k g. units_told xs ys k h.1 g))
  units_told (gap c ∷ xs) (gap d ∷ ys) (pair l m slot now) h s =
      subst (λ (x : Chunk). Told fill (units (begun l (slot ++ spell c) now) xs) (units (begun m (slot ++ spell x) now) ys)) h.0 (units_told xs ys (pair l m (slot ++ spell c) now) h.1 s)
  units_told (edited o n ∷ xs) (edited p m ∷ ys) none h s =
      subst (λ (x : List Chunk). Told fill (units (begun [] (spell_all o) n) xs) (units (begun [] (spell_all x) m) ys)) h.0.0
      (subst (λ (x : List Chunk). Told fill (units (begun [] (spell_all o) n) xs) (units (begun [] (spell_all o) x) ys)) h.0.1 (units_told xs ys (pair [] [] (spell_all o) n) h.1 (refl, (refl, refl))))
  units_told (edited o n ∷ xs) (edited p m ∷ ys) (pair l k slot now) h s =
      subst (λ (x : List Chunk). Told fill (units (begun l (slot ++ spell_all o) (now ++ n)) xs) (units (begun k (slot ++ spell_all x) (now ++ m)) ys)) h.0.0
      (subst (λ (x : List Chunk). Told fill (units (begun l (slot ++ spell_all o) (now ++ n)) xs) (units (begun k (slot ++ spell_all o) (now ++ x)) ys)) h.0.1 (units_told xs ys (pair l k (slot ++ spell_all o) (now ++ n)) h.1 s))
  units_told _ _ b h s = absurd h

  -- The edit replaces the same spans, and lays as much.
  pub alike_told : (xs ys : List Cell) → Alike xs ys → Told fill (units shut xs) (units shut ys)
  alike_told xs ys h = units_told xs ys none h tt

-- What is written into chunks that are no carriers changes no edit: the same cells, with other bodies where chunks are kept.
use Rattle.std.proofs.Common.{◌≡◌, ℕ, ◌+◌, Bool, true, false, cond, List, [], ◌∷◌, ◌++◌, length, map, replicate, refl, sym, ap, ◌∙◌, arith, inl, inr}
use Rattle.std.specs.Prelude.{◌⊎◌, ◌&&◌, ◌||◌, not}
use Rattle.std.specs.List.{flat_map}
use Rattle.std.proofs.lemmas.List.{length-append}
use Rattle.container_model.proofs.Units.{spell_all-append}
use Rattle.container_model.specs.Chunk.{Chunk, header_bytes, pad_len, spell, spell_all}
use Rattle.container_model.specs.Written.{Write, written}
use Rattle.container_model.specs.Splice.{Cut}
use Rattle.container_model.specs.Units.{Cell, kept, gap, edited, live, lacks_pad, Piece, replaced, Slot, shut, begun, is_empty, closed, kept_next, units, lead_pad, unit_bytes, padded, Fill, lay, cut_of, cuts}
use Rattle.container_model.specs.Deep.{Token}
use Rattle.container_model.specs.Items.{Items, Item, Carrier}
use Rattle.container_model.proofs.Written.{renew, length-written, renew_alike, head_length}
use Rattle.container_model.proofs.Deep.{alike_len}
use Rattle.carrier_model.specs.Cells.{Change, leave, become, change_at, counted, count_all, settle, settle_cells, changed_cell, Test, Side, behind, before, meets, some_meets, beside, insert, only_gaps, new_cell, insert_cell, acted_cells}
use Rattle.carrier_model.specs.Lists.{items_of, all_items, home, edit_nth, has_carrier, sets_some, new_carrier, lists_act_by, edit_list_cells}

-- cells of which each kept chunk has what is written into it
abbrev pub renewed_cells : List Write → ℕ → List Cell → List Cell
renewed_cells ws at [] = []
renewed_cells ws at (kept c ∷ xs) = kept (renew ws at c) ∷ renewed_cells ws (at + length (spell c)) xs
renewed_cells ws at (gap c ∷ xs) = gap c ∷ renewed_cells ws (at + length (spell c)) xs
renewed_cells ws at (edited old now ∷ xs) = edited old now ∷ renewed_cells ws (at + length (spell_all old)) xs

pub gaps_renewed : (ws : List Write) (at : ℕ) (xs : List Cell) → only_gaps (renewed_cells ws at xs) ≡ only_gaps xs
gaps_renewed ws at [] = refl
gaps_renewed ws at (kept c ∷ xs) = refl
gaps_renewed ws at (gap c ∷ xs) = gaps_renewed ws (at + length (spell c)) xs
gaps_renewed ws at (edited old now ∷ xs) = refl

module _ (k : Carrier) (t : Test) (ws : List Write) where
  -- a carrier is left alone; no other chunk becomes one; and what is written doesn't change where a new one stands
  abbrev pub LeftAlone : ℕ → Chunk → Type 0
  LeftAlone at c = ((renew ws at c ≡ c) ⊎ ((k.is c ≡ false) × (k.is (renew ws at c) ≡ false))) × (meets t (renew ws at c) ≡ meets t c)

  abbrev pub Fixed : ℕ → List Cell → Type 0
  Fixed at [] = Unit {0}
  Fixed at (kept c ∷ xs) = LeftAlone at c × Fixed (at + length (spell c)) xs
  Fixed at (gap c ∷ xs) = Fixed (at + length (spell c)) xs
  Fixed at (edited old now ∷ xs) = Fixed (at + length (spell_all old)) xs

  one_length : (at : ℕ) (c : Chunk) → at + length (spell_all (c ∷ [])) ≡ at + length (spell c)
  one_length at c = omega (arith, length-append (spell c) [])

  -- ---- a change of carriers

  settle_kept : (f : ℕ → Chunk → Change) (n : ℕ) (at : ℕ) (c : Chunk) (xs : List Cell) → LeftAlone at c
      → ((m : ℕ) → settle_cells k.is f m (renewed_cells ws (at + length (spell c)) xs) ≡ renewed_cells ws (at + length (spell c)) (settle_cells k.is f m xs))
      → settle_cells k.is f n (kept (renew ws at c) ∷ renewed_cells ws (at + length (spell c)) xs) ≡ renewed_cells ws at (settle_cells k.is f n (kept c ∷ xs))
  settle_kept f n at c xs h again = go h.0
    where
      next : ℕ
      next = at + length (spell c)

      same : (d : Change) (m : ℕ) → renew ws at c ≡ c → changed_cell d (renew ws at c) ∷ settle_cells k.is f m (renewed_cells ws (at + length (spell c)) xs) ≡ renewed_cells ws at (changed_cell d c ∷ settle_cells k.is f m xs)
      same leave m i = ap (λ (ys : List Cell). kept (renew ws at c) ∷ ys) (again m)
      same (become cs) m i =
          ap (λ (d : Chunk). edited (d ∷ []) cs ∷ settle_cells k.is f m (renewed_cells ws (at + length (spell c)) xs)) i ∙ ap (λ (ys : List Cell). edited (c ∷ []) cs ∷ ys) (again m)
          ∙ ap (λ (q : ℕ). edited (c ∷ []) cs ∷ renewed_cells ws q (settle_cells k.is f m xs)) (sym (one_length at c))

      go : (renew ws at c ≡ c) ⊎ ((k.is c ≡ false) × (k.is (renew ws at c) ≡ false)) → settle_cells k.is f n (kept (renew ws at c) ∷ renewed_cells ws (at + length (spell c)) xs) ≡ renewed_cells ws at (settle_cells k.is f n (kept c ∷ xs))
      go (inl i) =
          ap (λ (d : Chunk). changed_cell (change_at k.is f n d) (renew ws at c) ∷ settle_cells k.is f (counted k.is n d) (renewed_cells ws (at + length (spell c)) xs)) i ∙ same (change_at k.is f n c) (counted k.is n c) i
      go (inr m) =
          ap (λ (b : Bool). changed_cell (cond b (f n (renew ws at c)) leave) (renew ws at c) ∷ settle_cells k.is f (cond b (Rattle.std.specs.Prelude.suc n) n) (renewed_cells ws (at + length (spell c)) xs)) m.1
          ∙ ap (λ (ys : List Cell). kept (renew ws at c) ∷ ys) (again n)
          ∙ ap (λ (b : Bool). renewed_cells ws at (changed_cell (cond b (f n c) leave) c ∷ settle_cells k.is f (cond b (Rattle.std.specs.Prelude.suc n) n) xs)) (sym m.0)

  settle_renewed : (f : ℕ → Chunk → Change) (n at : ℕ) (xs : List Cell) → Fixed at xs → settle_cells k.is f n (renewed_cells ws at xs) ≡ renewed_cells ws at (settle_cells k.is f n xs)
  settle_renewed f n at [] h = refl
  settle_renewed f n at (kept c ∷ xs) h = settle_kept f n at c xs h.0 (λ m. settle_renewed f m (at + length (spell c)) xs h.1)
  settle_renewed f n at (gap c ∷ xs) h = ap (λ (ys : List Cell). gap c ∷ ys) (settle_renewed f n (at + length (spell c)) xs h)
  settle_renewed f n at (edited old now ∷ xs) h = ap (λ (ys : List Cell). edited old (settle k.is f n now) ∷ ys) (settle_renewed f (count_all k.is n now) (at + length (spell_all old)) xs h)

  -- ---- a new carrier

  beside_renewed : (s : Side) (c d : Chunk) (at : ℕ) (xs : List Cell)
      → beside s (new_cell c) (kept (renew ws at d)) ++ renewed_cells ws (at + length (spell d)) xs ≡ renewed_cells ws at (beside s (new_cell c) (kept d) ++ xs)
  beside_renewed behind c d at xs = let z : (at + length (spell d)) + 0 ≡ at + length (spell d) = omega arith in ap (λ (q : ℕ). kept (renew ws at d) ∷ (new_cell c ∷ renewed_cells ws q xs)) (sym z)
  beside_renewed before c d at xs = let z : at + 0 ≡ at = omega arith in ap (λ (q : ℕ). new_cell c ∷ (kept (renew ws q d) ∷ renewed_cells ws (q + length (spell d)) xs)) (sym z)

  insert_renewed : (s : Side) (c : Chunk) (at : ℕ) (xs : List Cell) → Fixed at xs → insert_cell s t c (renewed_cells ws at xs) ≡ renewed_cells ws at (insert_cell s t c xs)
  insert_renewed s c at [] h = refl
  insert_renewed s c at (kept d ∷ xs) h =
      ap (λ (b : Bool). cond b (beside s (new_cell c) (kept (renew ws at d)) ++ renewed_cells ws (at + length (spell d)) xs) (kept (renew ws at d) ∷ insert_cell s t c (renewed_cells ws (at + length (spell d)) xs))) h.0.1
      ∙ go (meets t d) (insert_renewed s c (at + length (spell d)) xs h.1)
    where
      go : (b : Bool) → insert_cell s t c (renewed_cells ws (at + length (spell d)) xs) ≡ renewed_cells ws (at + length (spell d)) (insert_cell s t c xs)
          → cond b (beside s (new_cell c) (kept (renew ws at d)) ++ renewed_cells ws (at + length (spell d)) xs) (kept (renew ws at d) ∷ insert_cell s t c (renewed_cells ws (at + length (spell d)) xs))
          ≡ renewed_cells ws at (cond b (beside s (new_cell c) (kept d) ++ xs) (kept d ∷ insert_cell s t c xs))
      go true e = beside_renewed s c d at xs
      go false e = ap (λ (ys : List Cell). kept (renew ws at d) ∷ ys) e
  insert_renewed s c at (gap d ∷ xs) h =
      ap (λ (b : Bool). cond b (new_cell c ∷ (gap d ∷ renewed_cells ws (at + length (spell d)) xs)) (gap d ∷ insert_cell s t c (renewed_cells ws (at + length (spell d)) xs))) (gaps_renewed ws (at + length (spell d)) xs)
      ∙ go (only_gaps xs) (insert_renewed s c (at + length (spell d)) xs h)
    where
      go : (b : Bool) → insert_cell s t c (renewed_cells ws (at + length (spell d)) xs) ≡ renewed_cells ws (at + length (spell d)) (insert_cell s t c xs)
          → cond b (new_cell c ∷ (gap d ∷ renewed_cells ws (at + length (spell d)) xs)) (gap d ∷ insert_cell s t c (renewed_cells ws (at + length (spell d)) xs))
          ≡ renewed_cells ws at (cond b (new_cell c ∷ (gap d ∷ xs)) (gap d ∷ insert_cell s t c xs))
      go true e = let z : at + 0 ≡ at = omega arith in ap (λ (q : ℕ). new_cell c ∷ (gap d ∷ renewed_cells ws (q + length (spell d)) xs)) (sym z)
      go false e = ap (λ (ys : List Cell). gap d ∷ ys) e
  insert_renewed s c at (edited old now ∷ xs) h = go (some_meets t now) (insert_renewed s c (at + length (spell_all old)) xs h)
    where
      go : (b : Bool) → insert_cell s t c (renewed_cells ws (at + length (spell_all old)) xs) ≡ renewed_cells ws (at + length (spell_all old)) (insert_cell s t c xs)
          → cond b (edited old (insert s t c now) ∷ renewed_cells ws (at + length (spell_all old)) xs) (edited old now ∷ insert_cell s t c (renewed_cells ws (at + length (spell_all old)) xs))
          ≡ renewed_cells ws at (cond b (edited old (insert s t c now) ∷ xs) (edited old now ∷ insert_cell s t c xs))
      go true e = refl
      go false e = ap (λ (ys : List Cell). edited old now ∷ ys) e

  -- ---- the edit is the same

  module _ {V : Type 0} (it : Items V) where
    one_is : (at : ℕ) (c : Chunk) → (renew ws at c ≡ c) ⊎ ((k.is c ≡ false) × (k.is (renew ws at c) ≡ false)) → k.is (renew ws at c) ≡ k.is c
    one_is at c (inl i) = ap (λ (d : Chunk). k.is d) i
    one_is at c (inr n) = n.1 ∙ sym n.0

    one_items : (at : ℕ) (c : Chunk) (x y : List (List Token)) → (renew ws at c ≡ c) ⊎ ((k.is c ≡ false) × (k.is (renew ws at c) ≡ false)) → x ≡ y
        → cond (k.is (renew ws at c)) (items_of k it (renew ws at c) ∷ x) x ≡ cond (k.is c) (items_of k it c ∷ y) y
    one_items at c x y (inl i) e = ap (λ (d : Chunk). cond (k.is d) (items_of k it d ∷ x) x) i ∙ ap (λ (z : List (List Token)). cond (k.is c) (items_of k it c ∷ z) z) e
    one_items at c x y (inr n) e = rw (n.0, n.1) e

    items_renewed : (at : ℕ) (xs : List Cell) → Fixed at xs → all_items k it (flat_map live (renewed_cells ws at xs)) ≡ all_items k it (flat_map live xs)
    items_renewed at [] h = refl
    items_renewed at (kept c ∷ xs) h = one_items at c (all_items k it (flat_map live (renewed_cells ws (at + length (spell c)) xs))) (all_items k it (flat_map live xs)) h.0.0 (items_renewed (at + length (spell c)) xs h.1)
    items_renewed at (gap c ∷ xs) h = items_renewed (at + length (spell c)) xs h
    items_renewed at (edited old now ∷ xs) h = both now (items_renewed (at + length (spell_all old)) xs h)
      where
        both : (now : List Chunk) → all_items k it (flat_map live (renewed_cells ws (at + length (spell_all old)) xs)) ≡ all_items k it (flat_map live xs)
            → all_items k it (now ++ flat_map live (renewed_cells ws (at + length (spell_all old)) xs)) ≡ all_items k it (now ++ flat_map live xs)
        both [] e = e
        both (c ∷ cs) e = ap (λ (x : List (List Token)). cond (k.is c) (items_of k it c ∷ x) x) (both cs e)

    carriers_renewed : (at : ℕ) (xs : List Cell) → Fixed at xs → has_carrier k (flat_map live (renewed_cells ws at xs)) ≡ has_carrier k (flat_map live xs)
    carriers_renewed at [] h = refl
    carriers_renewed at (kept c ∷ xs) h = ap (λ (b : Bool). b || has_carrier k (flat_map live (renewed_cells ws (at + length (spell c)) xs))) (one_is at c h.0.0) ∙ ap (λ (b : Bool). k.is c || b) (carriers_renewed (at + length (spell c)) xs h.1)
    carriers_renewed at (gap c ∷ xs) h = carriers_renewed (at + length (spell c)) xs h
    carriers_renewed at (edited old now ∷ xs) h = both now (carriers_renewed (at + length (spell_all old)) xs h)
      where
        both : (now : List Chunk) → has_carrier k (flat_map live (renewed_cells ws (at + length (spell_all old)) xs)) ≡ has_carrier k (flat_map live xs)
            → has_carrier k (now ++ flat_map live (renewed_cells ws (at + length (spell_all old)) xs)) ≡ has_carrier k (now ++ flat_map live xs)
        both [] e = e
        both (c ∷ cs) e = ap (λ (x : Bool). k.is c || x) (both cs e)

    -- The edit of the cells with other bodies is the edit of the cells, with other bodies.
    pub carried_renewed : (e : List (Item V)) (at : ℕ) (xs : List Cell) → Fixed at xs → edit_list_cells k it t e (renewed_cells ws at xs) ≡ renewed_cells ws at (edit_list_cells k it t e xs)
    carried_renewed e at xs h =
        ap (λ (b : Bool). acted_cells (lists_act_by k it t e (flat_map live (renewed_cells ws at xs)) b) (renewed_cells ws at xs)) (carriers_renewed at xs h) ∙ go (has_carrier k (flat_map live xs))
      where
        fresh : (b : Bool) → acted_cells (new_carrier k it t e b) (renewed_cells ws at xs) ≡ renewed_cells ws at (acted_cells (new_carrier k it t e b) xs)
        fresh true = insert_renewed behind (k.fresh (Rattle.container_model.specs.Items.put_all it e [])) at xs h
        fresh false = refl

        go : (b : Bool) → acted_cells (lists_act_by k it t e (flat_map live (renewed_cells ws at xs)) b) (renewed_cells ws at xs) ≡ renewed_cells ws at (acted_cells (lists_act_by k it t e (flat_map live xs) b) xs)
        go false = fresh (sets_some e)
        go true =
            ap (λ (tss : List (List Token)). settle_cells k.is (edit_nth k it (home tss) e) 0 (renewed_cells ws at xs)) (items_renewed at xs h)
            ∙ settle_renewed (edit_nth k it (home (all_items k it (flat_map live xs))) e) 0 at xs h

-- ---- the slots are the same

data Both : Type 0 where
  none : Both
  pair : List Chunk → List Chunk → List ℕ → List Chunk → Both

abbrev left_slot : Both → Slot
left_slot none = shut
left_slot (pair l m slot now) = begun l slot now

abbrev right_slot : Both → Slot
right_slot none = shut
right_slot (pair l m slot now) = begun m slot now

abbrev SameLead : Both → Type 0
SameLead none = Unit {0}
SameLead (pair l m slot now) = (length (spell_all l) ≡ length (spell_all m)) × (lead_pad l ≡ lead_pad m)

module _ (ws : List Write) (fill : Fill) where
  renew_len : (at : ℕ) (c : Chunk) → length (spell (renew ws at c)) ≡ length (spell c)
  renew_len at c = alike_len c (renew ws at c) (renew_alike ws at c)

  lacks_same : (at : ℕ) (c : Chunk) → lacks_pad (renew ws at c) ≡ lacks_pad c
  lacks_same at c = ap (λ (k : ℕ). Rattle.std.specs.Prelude.nat_lt (length c.pad) (pad_len c.form k)) (length-written ws (at + head_length c) c.body)

  empty_same : (at : ℕ) (xs : List Cell) → is_empty (renewed_cells ws at xs) ≡ is_empty xs
  empty_same at [] = refl
  empty_same at (kept c ∷ xs) = refl
  empty_same at (gap c ∷ xs) = refl
  empty_same at (edited old now ∷ xs) = refl

  unit_cuts : (at : ℕ) (l m : List Chunk) (slot : List ℕ) (now : List Chunk) (last : Bool) (ps qs : List Piece) → length (spell_all l) ≡ length (spell_all m) → lead_pad l ≡ lead_pad m
      → ((at : ℕ) → cuts fill at ps ≡ cuts fill at qs) → cuts fill at (replaced l slot now last ∷ ps) ≡ cuts fill at (replaced m slot now last ∷ qs)
  unit_cuts at l m slot now last ps qs e g h =
      let one : cut_of fill at l slot now last ≡ cut_of fill at m slot now last = rw (e, g) refl in
      let next : at + length (spell_all l ++ slot) ≡ at + length (spell_all m ++ slot) = omega (arith, e, length-append (spell_all l) slot, length-append (spell_all m) slot) in
      ap (λ (c : Cut). c ∷ cuts fill (at + length (spell_all l ++ slot)) ps) one ∙ ap (λ (k : ℕ). cut_of fill at m slot now last ∷ cuts fill k ps) next ∙ ap (λ (x : List Cut). cut_of fill at m slot now last ∷ x) (h (at + length (spell_all m ++ slot)))

  closed_cuts : (at : ℕ) (last : Bool) (b : Both) (ps qs : List Piece) → SameLead b → ((at : ℕ) → cuts fill at ps ≡ cuts fill at qs) → cuts fill at (closed last (left_slot b) ++ ps) ≡ cuts fill at (closed last (right_slot b) ++ qs)
  closed_cuts at last none ps qs h g = g at
  closed_cuts at last (pair l m slot now) ps qs h g = unit_cuts at l m slot now last ps qs h.0 h.1 g

  kept_cuts : (at q : ℕ) (r : Bool) (c : Chunk) (xs ys : List Cell) → ((b : Both) (at : ℕ) → SameLead b → cuts fill at (units (left_slot b) ys) ≡ cuts fill at (units (right_slot b) xs))
      → cuts fill at (kept_next r (renew ws q c) (λ t. units t ys)) ≡ cuts fill at (kept_next r c (λ t. units t xs))
  kept_cuts at q true c xs ys h = h (pair (renew ws q c ∷ []) (c ∷ []) [] []) at (omega (arith, renew_len q c, length-append (spell (renew ws q c)) [], length-append (spell c) []), refl)
  kept_cuts at q false c xs ys h = ap (λ (k : ℕ). cuts fill (at + k) (units shut ys)) (renew_len q c) ∙ h none (at + length (spell c)) tt

  cuts_renewed : (xs : List Cell) (q : ℕ) (b : Both) (at : ℕ) → SameLead b → cuts fill at (units (left_slot b) (renewed_cells ws q xs)) ≡ cuts fill at (units (right_slot b) xs)
  unfolding units
  cuts_renewed [] q none at h = refl
  cuts_renewed [] q (pair l m slot now) at h = unit_cuts at l m slot now true [] [] h.0 h.1 (λ k. refl)
  cuts_renewed (kept c ∷ xs) q b at h =
      let ys = renewed_cells ws (q + length (spell c)) xs in
      let test : (lacks_pad (renew ws q c) && not (is_empty ys)) ≡ (lacks_pad c && not (is_empty xs)) = rw (lacks_same q c, empty_same (q + length (spell c)) xs) refl in
      ap (λ (r : Bool). cuts fill at (closed false (left_slot b) ++ kept_next r (renew ws q c) (λ t. units t ys))) test
      ∙ closed_cuts at false b _ _ h (λ k. kept_cuts k q (lacks_pad c && not (is_empty xs)) c xs ys (λ d k g. cuts_renewed xs (q + length (spell c)) d k g))
  cuts_renewed (gap c ∷ xs) q none at h =
      let ys = renewed_cells ws (q + length (spell c)) xs in
      ap (λ (r : Bool). cuts fill at (kept_next (lacks_pad c && not r) c (λ t. units t ys))) (empty_same (q + length (spell c)) xs) ∙ gap_cuts (lacks_pad c && not (is_empty xs)) c xs ys at (λ d k g. cuts_renewed xs (q + length (spell c)) d k g)
    where
      gap_cuts : (r : Bool) (c : Chunk) (xs ys : List Cell) (at : ℕ) → ((b : Both) (at : ℕ) → SameLead b → cuts fill at (units (left_slot b) ys) ≡ cuts fill at (units (right_slot b) xs))
          → cuts fill at (kept_next r c (λ t. units t ys)) ≡ cuts fill at (kept_next r c (λ t. units t xs))
      gap_cuts true c xs ys at h = h (pair (c ∷ []) (c ∷ []) [] []) at (refl, refl)
      gap_cuts false c xs ys at h = h none (at + length (spell c)) tt
  cuts_renewed (gap c ∷ xs) q (pair l m slot now) at h = cuts_renewed xs (q + length (spell c)) (pair l m (slot ++ spell c) now) at h
  cuts_renewed (edited old new ∷ xs) q none at h = cuts_renewed xs (q + length (spell_all old)) (pair [] [] (spell_all old) new) at (refl, refl)
  cuts_renewed (edited old new ∷ xs) q (pair l m slot now) at h = cuts_renewed xs (q + length (spell_all old)) (pair l m (slot ++ spell_all old) (now ++ new)) at h

  pub cuts_shut : (xs : List Cell) (q at : ℕ) → cuts fill at (units shut (renewed_cells ws q xs)) ≡ cuts fill at (units shut xs)
  cuts_shut xs q at = cuts_renewed xs q none at tt

-- the new list has the same length

abbrev zeros : ℕ → List ℕ
zeros n = replicate n 0

abbrev pub laid_length : Fill → List Piece → ℕ
laid_length fill ps = length (spell_all (lay fill ps))

abbrev SamePads : Both → Type 0
SamePads none = Unit {0}
SamePads (pair l m slot now) = (length (spell_all (map padded l)) ≡ length (spell_all (map padded m))) × (lead_pad l ≡ lead_pad m)

module _ (ws : List Write) (fill : Fill) where
  padded_len : (at : ℕ) (c : Chunk) → length (spell_all (padded (renew ws at c) ∷ [])) ≡ length (spell_all (padded c ∷ []))
  padded_len at c =
      let head = header_bytes c.form c.id (length c.body) in
      let len = length-written ws (at + head_length c) c.body in
      let b = written ws (at + head_length c) c.body in
      let pad : length (zeros (pad_len c.form (length b))) ≡ length (zeros (pad_len c.form (length c.body))) = ap (λ (k : ℕ). length (zeros (pad_len c.form k))) len in
      let h : header_bytes c.form c.id (length b) ≡ head = ap (header_bytes c.form c.id) len in
      omega (arith, len, ap length h, pad, length-append (header_bytes c.form c.id (length b) ++ (b ++ zeros (pad_len c.form (length b)))) [], length-append (header_bytes c.form c.id (length b)) (b ++ zeros (pad_len c.form (length b))), length-append b (zeros (pad_len c.form (length b))), length-append (head ++ (c.body ++ zeros (pad_len c.form (length c.body)))) [], length-append head (c.body ++ zeros (pad_len c.form (length c.body))), length-append c.body (zeros (pad_len c.form (length c.body))))

  unit_laid : (l m : List Chunk) (slot : List ℕ) (now : List Chunk) (last : Bool) (ps qs : List Piece) → length (spell_all (map padded l)) ≡ length (spell_all (map padded m)) → lead_pad l ≡ lead_pad m
      → laid_length fill ps ≡ laid_length fill qs → laid_length fill (replaced l slot now last ∷ ps) ≡ laid_length fill (replaced m slot now last ∷ qs)
  unit_laid l m slot now last ps qs e g h =
      let f = fill last slot (length (unit_bytes l now)) in
      let same : fill last slot (length (unit_bytes m now)) ≡ f = ap (λ (x : List ℕ). fill last slot (length (x ++ spell_all now))) (sym g) in
      ap length (spell_all-append (map padded l ++ (now ++ f)) (lay fill ps) ∙ ap (λ (x : List ℕ). x ++ spell_all (lay fill ps)) (spell_all-append (map padded l) (now ++ f)))
      ∙ omega (arith, e, h, length-append (spell_all (map padded l) ++ spell_all (now ++ f)) (spell_all (lay fill ps)), length-append (spell_all (map padded l)) (spell_all (now ++ f)), length-append (spell_all (map padded m) ++ spell_all (now ++ f)) (spell_all (lay fill qs)), length-append (spell_all (map padded m)) (spell_all (now ++ f)))
      ∙ sym (ap (λ (x : List Chunk). length (spell_all ((map padded m ++ (now ++ x)) ++ lay fill qs))) same ∙ ap length (spell_all-append (map padded m ++ (now ++ f)) (lay fill qs) ∙ ap (λ (x : List ℕ). x ++ spell_all (lay fill qs)) (spell_all-append (map padded m) (now ++ f))))

  closed_laid : (last : Bool) (b : Both) (ps qs : List Piece) → SamePads b → laid_length fill ps ≡ laid_length fill qs → laid_length fill (closed last (left_slot b) ++ ps) ≡ laid_length fill (closed last (right_slot b) ++ qs)
  closed_laid last none ps qs h g = g
  closed_laid last (pair l m slot now) ps qs h g = unit_laid l m slot now last ps qs h.0 h.1 g

  kept_laid : (r : Bool) (c d : Chunk) (xs ys : List Cell) → length (spell_all (padded c ∷ [])) ≡ length (spell_all (padded d ∷ [])) → length (spell c) ≡ length (spell d)
      → ((b : Both) → SamePads b → laid_length fill (units (left_slot b) ys) ≡ laid_length fill (units (right_slot b) xs))
      → laid_length fill (kept_next r c (λ t. units t ys)) ≡ laid_length fill (kept_next r d (λ t. units t xs))
  kept_laid true c d xs ys e g h = h (pair (c ∷ []) (d ∷ []) [] []) (e, refl)
  kept_laid false c d xs ys e g h = omega (arith, g, h none tt, length-append (spell c) (spell_all (lay fill (units shut ys))), length-append (spell d) (spell_all (lay fill (units shut xs))))

  laid_renewed : (xs : List Cell) (q : ℕ) (b : Both) → SamePads b → laid_length fill (units (left_slot b) (renewed_cells ws q xs)) ≡ laid_length fill (units (right_slot b) xs)
  unfolding units
  laid_renewed [] q none h = refl
  laid_renewed [] q (pair l m slot now) h = unit_laid l m slot now true [] [] h.0 h.1 refl
  laid_renewed (kept c ∷ xs) q b h =
      let ys = renewed_cells ws (q + length (spell c)) xs in
      let test : (lacks_pad (renew ws q c) && not (is_empty ys)) ≡ (lacks_pad c && not (is_empty xs)) = rw (lacks_same ws fill q c, empty_same ws fill (q + length (spell c)) xs) refl in
      ap (λ (r : Bool). laid_length fill (closed false (left_slot b) ++ kept_next r (renew ws q c) (λ t. units t ys))) test
      ∙ closed_laid false b _ _ h (kept_laid (lacks_pad c && not (is_empty xs)) (renew ws q c) c xs ys (padded_len q c) (renew_len ws fill q c) (λ d g. laid_renewed xs (q + length (spell c)) d g))
  laid_renewed (gap c ∷ xs) q none h =
      let ys = renewed_cells ws (q + length (spell c)) xs in
      ap (λ (r : Bool). laid_length fill (kept_next (lacks_pad c && not r) c (λ t. units t ys))) (empty_same ws fill (q + length (spell c)) xs)
      ∙ kept_laid (lacks_pad c && not (is_empty xs)) c c xs ys refl refl (λ d g. laid_renewed xs (q + length (spell c)) d g)
  laid_renewed (gap c ∷ xs) q (pair l m slot now) h = laid_renewed xs (q + length (spell c)) (pair l m (slot ++ spell c) now) h
  laid_renewed (edited old new ∷ xs) q none h = laid_renewed xs (q + length (spell_all old)) (pair [] [] (spell_all old) new) (refl, refl)
  laid_renewed (edited old new ∷ xs) q (pair l m slot now) h = laid_renewed xs (q + length (spell_all old)) (pair l m (slot ++ spell_all old) (now ++ new)) h

  pub laid_shut : (xs : List Cell) (q : ℕ) → laid_length fill (units shut (renewed_cells ws q xs)) ≡ laid_length fill (units shut xs)
  laid_shut xs q = laid_renewed xs q none tt

-- The chunks of the first form with the names of its streams set, as cells: the same, but that the first `hdrl` is another; and so they
-- are after an edit of the lists of fields.
use Rattle.std.proofs.Common.{◌≡◌, ◌∙◌, ◌⊎◌, ℕ, suc, ◌+◌, ◌<◌, Bool, true, false, cond, List, [], ◌∷◌, ◌++◌, length, map, refl, sym, ap, subst, arith, inl, inr}
use Rattle.std.specs.Prelude.{◌&&◌, ◌||◌, codes}
use Rattle.std.specs.Str.{bytes_eq}
use Rattle.std.specs.List.{flat_map}
use Rattle.std.proofs.lemmas.List.{append-nil, length-append}
use Rattle.container_model.specs.Chunk.{Chunk, Form, spell, spell_all}
use Rattle.container_model.specs.Deep.{Token}
use Rattle.container_model.specs.Items.{is_nil}
use Rattle.container_model.specs.Stood.{bare, first_of, only, stood}
use Rattle.container_model.specs.Units.{Cell, edited, gap, kept, live, was}
use Rattle.container_model.proofs.Plain.{IsPlain}
use Rattle.carrier_model.specs.Cells.{Change, become, behind, change_at, changed_cell, count_all, counted, insert, insert_cell, leave, meets, new_cell, only_gaps, settle_cells, some_meets, acted_cells}
use Rattle.carrier_model.specs.Info.{info, info_items, is_type, own_size}
use Rattle.carrier_model.specs.Lists.{all_items, edit_list_cells, edit_nth, has_carrier, home, items_of, lists_act_by, new_carrier, sets_some}
use Rattle.avi_model.specs.Named.{Names, cell_by, cell_of, children_named, hdrl_from, hdrl_named, is_hdrl}
use Rattle.avi_model.specs.NewFile.{Items}
use Rattle.avi_model.specs.NewFile.{home as behind_hdrl}
use Rattle.avi_model.proofs.Children.{AreChildren, behind_one, kids_of}
use Rattle.avi_model.proofs.NamedAlike.{not_padding}
use Rattle.avi_model.proofs.Respelled.{list_type}
use Rattle.avi_model.proofs.Streams.{list_with_plain}

-- a cell in which no `hdrl` is kept
abbrev pub Other : Cell → Type 0
Other (kept c) = (is_hdrl c ≡ false) × (meets behind_hdrl c ≡ false)
Other (gap c) = Unit {0}
Other (edited old now) = Unit {0}

-- the same cells, but that the first `hdrl`, behind so many bytes, is another
abbrev pub Swap : Chunk → Chunk → ℕ → List Cell → List Cell → Type 0
Swap h k n [] ys = ⊥
Swap h k n (x ∷ xs) [] = ⊥
Swap h k n (x ∷ xs) (y ∷ ys) = ((n ≡ 0) × (x ≡ kept h) × (y ≡ kept k) × (xs ≡ ys)) ⊎ ((m : ℕ) × (n ≡ length (spell_all (was x)) + m) × (x ≡ y) × Other x × Swap h k m xs ys)

-- ---- the chunks

meets_is : (c : Chunk) → IsPlain c → meets behind_hdrl c ≡ is_hdrl c
meets_is c p = ap (λ (f : Form). own_size f && (bytes_eq c.id (codes "LIST") && bytes_eq (Rattle.std.specs.Prelude.take 4 c.body) (codes "hdrl"))) (sym p.form_is)

pub record FirstSwap (e : Names) (last : Bool) (at : ℕ) (cs : List Chunk) : Type 0 where
  pub hdrl : Chunk
  pub ends : Bool
  pub front : ℕ
  pub swap : Swap hdrl (hdrl_named e ends hdrl) front (map cell_of cs) (map cell_of (children_named e last cs))
  pub site : hdrl_from last at cs ≡ record { at = at + front; ends = ends; stream = 0; chunk = hdrl } ∷ []
  pub typed : is_hdrl hdrl ≡ true
  pub typed_new : is_hdrl (hdrl_named e ends hdrl) ≡ true
  pub met : meets behind_hdrl hdrl ≡ true
  pub met_new : meets behind_hdrl (hdrl_named e ends hdrl) ≡ true
  pub grown : length (spell hdrl) + length (spell_all (children_named e last cs)) ≡ length (spell (hdrl_named e ends hdrl)) + length (spell_all cs)

pub first_swap : (e : Names) (last : Bool) (at to : ℕ) (cs : List Chunk) → AreChildren cs → 0 < length (first_of (only is_hdrl (stood to cs))) → FirstSwap e last at cs
first_swap e last at to [] h some = absurd (omega (arith, some))
first_swap e last at to (c ∷ cs) h some = go (is_hdrl c) refl some (λ i s. first_swap e last (at + length (spell c)) (to + length (spell c)) cs (behind_one c cs h i) s)
  where
    go : (t : Bool) → is_hdrl c ≡ t → 0 < length (first_of (cond t (record { at = to; chunk = bare c } ∷ only is_hdrl (stood (to + length (spell c)) cs)) (only is_hdrl (stood (to + length (spell c)) cs))))
        → (is_hdrl c ≡ false → 0 < length (first_of (only is_hdrl (stood (to + length (spell c)) cs))) → FirstSwap e last (at + length (spell c)) cs) → FirstSwap e last at (c ∷ cs)
    go true i some again =
        let ends = last && is_nil cs in
        let new = hdrl_named e ends c in
        let o = h.1.0 i in
        let z : at + 0 ≡ at = omega arith in
        let typed : is_hdrl new ≡ true = list_type (codes "hdrl") c (kids_of e ends c) o.0 ∙ i in
        let named_is : children_named e last (c ∷ cs) ≡ new ∷ cs = ap (λ (t : Bool). cond t (new ∷ cs) (c ∷ children_named e last cs)) i in
        let cell : (d : Chunk) → is_hdrl d ≡ true → cell_of d ≡ kept d = λ d j. ap (cell_by d) (not_padding d j) in
        record {
          hdrl = c;
          ends = ends;
          front = 0;
          swap = subst (λ (ks : List Chunk). Swap c new 0 (map cell_of (c ∷ cs)) (map cell_of ks)) (sym named_is) (inl (refl, cell c i, cell new typed, refl));
          site = ap (λ (t : Bool). cond t (record { at = at; ends = ends; stream = 0; chunk = c } ∷ []) (hdrl_from last (at + length (spell c)) cs)) i ∙ ap (λ (q : ℕ). record { at = q; ends = ends; stream = 0; chunk = c } ∷ []) (sym z);
          typed = i;
          typed_new = typed;
          met = meets_is c h.0.0 ∙ i;
          met_new = meets_is new (list_with_plain c (kids_of e ends c) h.0.0) ∙ typed;
          grown = omega (arith, ap (λ (ks : List Chunk). length (spell_all ks)) named_is, length-append (spell new) (spell_all cs), length-append (spell c) (spell_all cs));
        }
    go false i some again =
        let r = again i some in
        let more = children_named e last cs in
        let named_is : children_named e last (c ∷ cs) ≡ c ∷ more = ap (λ (t : Bool). cond t (hdrl_named e (last && is_nil cs) c ∷ cs) (c ∷ more)) i in
        let place : (at + length (spell c)) + r.front ≡ at + (length (spell c) + r.front) = omega arith in
        record {
          hdrl = r.hdrl;
          ends = r.ends;
          front = length (spell c) + r.front;
          swap =
              subst (λ (ks : List Chunk). Swap r.hdrl (hdrl_named e r.ends r.hdrl) (length (spell c) + r.front) (map cell_of (c ∷ cs)) (map cell_of ks)) (sym named_is)
              (inr (r.front, ap (λ (k : ℕ). k + r.front) (cell_long c (Rattle.carrier_model.specs.Info.is_padding c)), refl, other c (Rattle.carrier_model.specs.Info.is_padding c) i (meets_is c h.0.0 ∙ i), r.swap));
          site =
              ap (λ (t : Bool). cond t (record { at = at; ends = last && is_nil cs; stream = 0; chunk = c } ∷ []) (hdrl_from last (at + length (spell c)) cs)) i ∙ r.site
              ∙ ap (λ (q : ℕ). record { at = q; ends = r.ends; stream = 0; chunk = r.hdrl } ∷ []) place;
          typed = r.typed;
          typed_new = r.typed_new;
          met = r.met;
          met_new = r.met_new;
          grown = omega (arith, r.grown, ap (λ (ks : List Chunk). length (spell_all ks)) named_is, length-append (spell c) (spell_all more), length-append (spell c) (spell_all cs));
        }
      where
        cell_long : (c : Chunk) (t : Bool) → length (spell c) ≡ length (spell_all (was (cell_by c t)))
        cell_long c true = sym (ap length (append-nil (spell c)))
        cell_long c false = sym (ap length (append-nil (spell c)))

        other : (c : Chunk) (t : Bool) → is_hdrl c ≡ false → meets behind_hdrl c ≡ false → Other (cell_by c t)
        other c true i m = tt
        other c false i m = (i, m)

-- ---- an edit of the lists of fields

module _ (h k : Chunk) (no : info.is h ≡ false) (none : info.is k ≡ false) (met : meets behind_hdrl h ≡ true) (met_new : meets behind_hdrl k ≡ true) where
  carriers : (w a b : List Chunk) → has_carrier info a ≡ has_carrier info b → has_carrier info (w ++ a) ≡ has_carrier info (w ++ b)
  carriers [] a b e = e
  carriers (c ∷ w) a b e = ap (λ (t : Bool). info.is c || t) (carriers w a b e)

  carriers_swap : (n : ℕ) (xs ys : List Cell) → Swap h k n xs ys → has_carrier info (flat_map live xs) ≡ has_carrier info (flat_map live ys)
  carriers_swap n [] ys q = absurd q
  carriers_swap n (x ∷ xs) [] q = absurd q
  carriers_swap n (x ∷ xs) (y ∷ ys) (inl q) =
      ap (λ (z : Cell). has_carrier info (live z ++ flat_map live xs)) q.1 ∙ ap (λ (t : Bool). t || has_carrier info (flat_map live xs)) no ∙ ap (λ (zs : List Cell). has_carrier info (flat_map live zs)) q.3
      ∙ sym (ap (λ (t : Bool). t || has_carrier info (flat_map live ys)) none) ∙ sym (ap (λ (z : Cell). has_carrier info (live z ++ flat_map live ys)) q.2)
  carriers_swap n (x ∷ xs) (y ∷ ys) (inr q) = ap (λ (z : Cell). has_carrier info (live z ++ flat_map live xs)) q.2 ∙ carriers (live y) (flat_map live xs) (flat_map live ys) (carriers_swap q.0 xs ys q.4)

  abbrev items : List Chunk → List (List Token)
  items cs = all_items info info_items cs

  items_both : (w a b : List Chunk) → all_items info info_items a ≡ all_items info info_items b → all_items info info_items (w ++ a) ≡ all_items info info_items (w ++ b)
  items_both [] a b e = e
  items_both (c ∷ w) a b e = ap (λ (z : List (List Token)). cond (info.is c) (items_of info info_items c ∷ z) z) (items_both w a b e)

  items_swap : (n : ℕ) (xs ys : List Cell) → Swap h k n xs ys → all_items info info_items (flat_map live xs) ≡ all_items info info_items (flat_map live ys)
  items_swap n [] ys q = absurd q
  items_swap n (x ∷ xs) [] q = absurd q
  items_swap n (x ∷ xs) (y ∷ ys) (inl q) =
      ap (λ (z : Cell). items (live z ++ flat_map live xs)) q.1
      ∙ ap (λ (t : Bool). cond t (items_of info info_items h ∷ items (flat_map live xs)) (items (flat_map live xs))) no ∙ ap (λ (zs : List Cell). items (flat_map live zs)) q.3
      ∙ sym (ap (λ (t : Bool). cond t (items_of info info_items k ∷ items (flat_map live ys)) (items (flat_map live ys))) none)
      ∙ sym (ap (λ (z : Cell). items (live z ++ flat_map live ys)) q.2)
  items_swap n (x ∷ xs) (y ∷ ys) (inr q) = ap (λ (z : Cell). items (live z ++ flat_map live xs)) q.2 ∙ items_both (live y) (flat_map live xs) (flat_map live ys) (items_swap q.0 xs ys q.4)

  settle_swap : (f : ℕ → Chunk → Change) (i n : ℕ) (xs ys : List Cell) → Swap h k n xs ys → Swap h k n (settle_cells info.is f i xs) (settle_cells info.is f i ys)
  settle_swap f i n [] ys q = absurd q
  settle_swap f i n (x ∷ xs) [] q = absurd q
  settle_swap f i n (x ∷ xs) (y ∷ ys) (inl q) =
      subst (λ (z : Cell). Swap h k n (settle_cells info.is f i (z ∷ xs)) (settle_cells info.is f i (y ∷ ys))) (sym q.1)
      (subst (λ (z : Cell). Swap h k n (settle_cells info.is f i (kept h ∷ xs)) (settle_cells info.is f i (z ∷ ys))) (sym q.2)
      (inl (
        q.0,
        ap (λ (t : Bool). changed_cell (cond t (f i h) leave) h) no,
        ap (λ (t : Bool). changed_cell (cond t (f i k) leave) k) none,
        ap (λ (t : Bool). settle_cells info.is f (cond t (suc i) i) xs) no ∙ ap (settle_cells info.is f i) q.3 ∙ sym (ap (λ (t : Bool). settle_cells info.is f (cond t (suc i) i) ys) none),
      )))
  settle_swap f i n (x ∷ xs) (y ∷ ys) (inr q) =
      subst (λ (z : Cell). Swap h k n (settle_cells info.is f i (x ∷ xs)) (settle_cells info.is f i (z ∷ ys))) q.2 (one x q.1 q.3 (λ j. settle_swap f j q.0 xs ys q.4))
    where
      cell : (d : Change) (c : Chunk) → (is_hdrl c ≡ false) × (meets behind_hdrl c ≡ false) → Other (changed_cell d c) × (length (spell_all (was (changed_cell d c))) ≡ length (spell_all (c ∷ [])))
      cell leave c h2 = (h2, refl)
      cell (become cs) c h2 = (tt, refl)

      one : (x : Cell) → n ≡ length (spell_all (was x)) + q.0 → Other x → ((j : ℕ) → Swap h k q.0 (settle_cells info.is f j xs) (settle_cells info.is f j ys)) → Swap h k n (settle_cells info.is f i (x ∷ xs)) (settle_cells info.is f i (x ∷ ys))
      one (kept c) e other again = let z = cell (change_at info.is f i c) c other in inr (q.0, e ∙ ap (λ (m : ℕ). m + q.0) (sym z.1), refl, z.0, again (counted info.is i c))
      one (gap c) e other again = inr (q.0, e, refl, tt, again i)
      one (edited old now) e other again = inr (q.0, e, refl, tt, again (count_all info.is i now))

  not_gaps : (n : ℕ) (xs ys : List Cell) → Swap h k n xs ys → (only_gaps xs ≡ false) × (only_gaps ys ≡ false)
  not_gaps n [] ys q = absurd q
  not_gaps n (x ∷ xs) [] q = absurd q
  not_gaps n (x ∷ xs) (y ∷ ys) (inl q) = (ap (λ (z : Cell). only_gaps (z ∷ xs)) q.1, ap (λ (z : Cell). only_gaps (z ∷ ys)) q.2)
  not_gaps n (x ∷ xs) (y ∷ ys) (inr q) = subst (λ (z : Cell). (only_gaps (x ∷ xs) ≡ false) × (only_gaps (z ∷ ys) ≡ false)) q.2 (one x (not_gaps q.0 xs ys q.4))
    where
      one : (x : Cell) → (only_gaps xs ≡ false) × (only_gaps ys ≡ false) → (only_gaps (x ∷ xs) ≡ false) × (only_gaps (x ∷ ys) ≡ false)
      one (kept c) g = (refl, refl)
      one (gap c) g = g
      one (edited old now) g = (refl, refl)

  insert_swap : (d : Chunk) (n : ℕ) (xs ys : List Cell) → Swap h k n xs ys → Swap h k n (insert_cell behind behind_hdrl d xs) (insert_cell behind behind_hdrl d ys)
  insert_swap d n [] ys q = absurd q
  insert_swap d n (x ∷ xs) [] q = absurd q
  insert_swap d n (x ∷ xs) (y ∷ ys) (inl q) =
      subst (λ (z : Cell). Swap h k n (insert_cell behind behind_hdrl d (z ∷ xs)) (insert_cell behind behind_hdrl d (y ∷ ys))) (sym q.1)
      (subst (λ (z : Cell). Swap h k n (insert_cell behind behind_hdrl d (kept h ∷ xs)) (insert_cell behind behind_hdrl d (z ∷ ys))) (sym q.2)
      (subst (λ (t : Bool). Swap h k n (cond t (kept h ∷ (new_cell d ∷ xs)) (kept h ∷ insert_cell behind behind_hdrl d xs)) (insert_cell behind behind_hdrl d (kept k ∷ ys))) (sym met)
      (subst (λ (t : Bool). Swap h k n (kept h ∷ (new_cell d ∷ xs)) (cond t (kept k ∷ (new_cell d ∷ ys)) (kept k ∷ insert_cell behind behind_hdrl d ys))) (sym met_new)
      (inl (q.0, refl, refl, ap (λ (zs : List Cell). new_cell d ∷ zs) q.3)))))
  insert_swap d n (x ∷ xs) (y ∷ ys) (inr q) =
      subst (λ (z : Cell). Swap h k n (insert_cell behind behind_hdrl d (x ∷ xs)) (insert_cell behind behind_hdrl d (z ∷ ys))) q.2 (one x q.1 q.3 (insert_swap d q.0 xs ys q.4))
    where
      one : (x : Cell) → n ≡ length (spell_all (was x)) + q.0 → Other x → Swap h k q.0 (insert_cell behind behind_hdrl d xs) (insert_cell behind behind_hdrl d ys) → Swap h k n (insert_cell behind behind_hdrl d (x ∷ xs)) (insert_cell behind behind_hdrl d (x ∷ ys))
      one (kept c) e other again =
          subst (λ (t : Bool). Swap h k n (cond t (kept c ∷ (new_cell d ∷ xs)) (kept c ∷ insert_cell behind behind_hdrl d xs)) (cond t (kept c ∷ (new_cell d ∷ ys)) (kept c ∷ insert_cell behind behind_hdrl d ys))) (sym other.1)
          (inr (q.0, e, refl, other, again))
      one (gap c) e other again =
          let g = not_gaps q.0 xs ys q.4 in
          subst (λ (t : Bool). Swap h k n (cond t (new_cell d ∷ (gap c ∷ xs)) (gap c ∷ insert_cell behind behind_hdrl d xs)) (insert_cell behind behind_hdrl d (gap c ∷ ys))) (sym g.0)
          (subst (λ (t : Bool). Swap h k n (gap c ∷ insert_cell behind behind_hdrl d xs) (cond t (new_cell d ∷ (gap c ∷ ys)) (gap c ∷ insert_cell behind behind_hdrl d ys))) (sym g.1) (inr (q.0, e, refl, tt, again)))
      one (edited old w) e other again = by (some_meets behind_hdrl w)
        where
          by : (t : Bool) → Swap h k n (cond t (edited old (insert behind behind_hdrl d w) ∷ xs) (edited old w ∷ insert_cell behind behind_hdrl d xs)) (cond t (edited old (insert behind behind_hdrl d w) ∷ ys) (edited old w ∷ insert_cell behind behind_hdrl d ys))
          by true = inr (q.0, e, refl, tt, q.4)
          by false = inr (q.0, e, refl, tt, again)

  pub edit_swap : (e : Items) (n : ℕ) (xs ys : List Cell) → Swap h k n xs ys → Swap h k n (edit_list_cells info info_items behind_hdrl e xs) (edit_list_cells info info_items behind_hdrl e ys)
  edit_swap e n xs ys q =
      subst (λ (t : Bool). Swap h k n (acted_cells (lists_act_by info info_items behind_hdrl e (flat_map live xs) (has_carrier info (flat_map live xs))) xs) (acted_cells (lists_act_by info info_items behind_hdrl e (flat_map live ys) t) ys)) (carriers_swap n xs ys q)
      (go (has_carrier info (flat_map live xs)))
    where
      fresh : (b : Bool) → Swap h k n (acted_cells (new_carrier info info_items behind_hdrl e b) xs) (acted_cells (new_carrier info info_items behind_hdrl e b) ys)
      fresh true = insert_swap (info.fresh (Rattle.container_model.specs.Items.put_all info_items e [])) n xs ys q
      fresh false = q

      go : (t : Bool) → Swap h k n (acted_cells (lists_act_by info info_items behind_hdrl e (flat_map live xs) t) xs) (acted_cells (lists_act_by info info_items behind_hdrl e (flat_map live ys) t) ys)
      go false = fresh (sets_some e)
      go true =
          subst (λ (tss : List (List Token)). Swap h k n (settle_cells info.is (edit_nth info info_items (home (all_items info info_items (flat_map live xs))) e) 0 xs) (settle_cells info.is (edit_nth info info_items (home tss) e) 0 ys)) (items_swap n xs ys q)
          (settle_swap (edit_nth info info_items (home (all_items info info_items (flat_map live xs))) e) 0 n xs ys q)

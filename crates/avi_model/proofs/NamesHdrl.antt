-- The first hdrl of a file among its chunks: what the names replace lies in it, and an edit of the lists of fields replaces no byte of it.
use Rattle.std.proofs.Common.{◌≡◌, ℕ, ◌+◌, ◌<◌, ◌≤◌, Bool, true, false, cond, List, [], ◌∷◌, ◌++◌, length, map, refl, sym, ap, subst, ◌∙◌, arith, inl, inr}
use Rattle.std.specs.Prelude.{◌&&◌, not}
use Rattle.std.specs.List.{flat_map, AllByRecursion}
use Rattle.std.proofs.lemmas.List.{append-nil, length-append}
use Rattle.container_model.specs.Chunk.{Chunk, spell, spell_all}
use Rattle.container_model.specs.Items.{is_nil}
use Rattle.container_model.specs.Splice.{Cut}
use Rattle.container_model.specs.Stood.{bare, stood, only, first_of}
use Rattle.container_model.specs.Units.{Cell, kept, gap, edited, was, lacks_pad, Piece, Slot, shut, begun, is_empty, closed, kept_next, units, live, Fill, cuts}
use Rattle.container_model.proofs.Plain.{IsPlain}
use Rattle.container_model.proofs.Units.{begun_bytes, spell_all-append}
use Rattle.carrier_model.specs.Cells.{Change, leave, become, changed_cell, change_at, counted, count_all, settle_cells, Test, behind, beside, meets, some_meets, only_gaps, new_cell, insert_cell, acted_cells}
use Rattle.carrier_model.specs.Info.{info, info_items}
use Rattle.carrier_model.specs.Lists.{edit_list_cells, edit_nth, has_carrier, home as home_of, all_items, lists_act_by, new_carrier, sets_some}
use Rattle.avi_model.specs.Named.{Names, cell_by, cell_of, children_named, hdrl_from, hdrl_named, is_hdrl}
use Rattle.avi_model.specs.NewFile.{Items, home as behind_hdrl}
use Rattle.avi_model.proofs.Children.{AreChildren, Opens, behind_one}
use Rattle.avi_model.proofs.Composed.{Beside}
use Rattle.avi_model.proofs.NamedAlike.{not_info, not_padding}

-- ---- the first hdrl

pub record FirstHdrl (e : Names) (last : Bool) (at : ℕ) (cs : List Chunk) : Type 0 where
  pub front : List Chunk
  pub hdrl : Chunk
  pub rest : List Chunk
  pub is : cs ≡ front ++ (hdrl ∷ rest)
  pub named_is : children_named e last cs ≡ front ++ (hdrl_named e (last && is_nil rest) hdrl ∷ rest)
  pub site : hdrl_from last at cs ≡ record { at = at + length (spell_all front); ends = last && is_nil rest; stream = 0; chunk = hdrl } ∷ []
  pub plain : IsPlain hdrl
  pub opens : Opens hdrl
  pub typed : is_hdrl hdrl ≡ true

pub first_hdrl : (e : Names) (last : Bool) (at to : ℕ) (cs : List Chunk) → AreChildren cs → 0 < length (first_of (only is_hdrl (stood to cs))) → FirstHdrl e last at cs
first_hdrl e last at to [] h some = absurd (omega arith)
first_hdrl e last at to (c ∷ cs) h some = go (is_hdrl c) refl some (λ i s. first_hdrl e last (at + length (spell c)) (to + length (spell c)) cs (behind_one c cs h i) s)
  where
    go : (t : Bool) → is_hdrl c ≡ t → 0 < length (first_of (cond t (record { at = to; chunk = bare c } ∷ only is_hdrl (stood (to + length (spell c)) cs)) (only is_hdrl (stood (to + length (spell c)) cs))))
        → (is_hdrl c ≡ false → 0 < length (first_of (only is_hdrl (stood (to + length (spell c)) cs))) → FirstHdrl e last (at + length (spell c)) cs) → FirstHdrl e last at (c ∷ cs)
    go true i some again =
        let z : at + 0 ≡ at = omega arith in
        record {
          front = [];
          hdrl = c;
          rest = cs;
          is = refl;
          named_is = ap (λ (t : Bool). cond t (hdrl_named e (last && is_nil cs) c ∷ cs) (c ∷ children_named e last cs)) i;
          site = ap (λ (t : Bool). cond t (record { at = at; ends = last && is_nil cs; stream = 0; chunk = c } ∷ []) (hdrl_from last (at + length (spell c)) cs)) i ∙ ap (λ (q : ℕ). record { at = q; ends = last && is_nil cs; stream = 0; chunk = c } ∷ []) (sym z);
          plain = h.0.0;
          opens = h.1.0 i;
          typed = i;
        }
    go false i some again =
        let r = again i some in
        let place : (at + length (spell c)) + length (spell_all r.front) ≡ at + length (spell_all (c ∷ r.front)) = omega (arith, length-append (spell c) (spell_all r.front)) in
        record {
          front = c ∷ r.front;
          hdrl = r.hdrl;
          rest = r.rest;
          is = ap (λ (x : List Chunk). c ∷ x) r.is;
          named_is = ap (λ (t : Bool). cond t (hdrl_named e (last && is_nil cs) c ∷ cs) (c ∷ children_named e last cs)) i ∙ ap (λ (x : List Chunk). c ∷ x) r.named_is;
          site = ap (λ (t : Bool). cond t (record { at = at; ends = last && is_nil cs; stream = 0; chunk = c } ∷ []) (hdrl_from last (at + length (spell c)) cs)) i ∙ r.site ∙ ap (λ (q : ℕ). record { at = q; ends = last && is_nil r.rest; stream = 0; chunk = r.hdrl } ∷ []) place;
          plain = r.plain;
          opens = r.opens;
          typed = r.typed;
        }

-- ---- a chunk that is kept among some cells

-- so many bytes stand before it
pub record KeptAt (c : Chunk) (q : ℕ) (xs : List Cell) : Type 0 where
  pub front : List Cell
  pub rest : List Cell
  pub is : xs ≡ front ++ (kept c ∷ rest)
  pub long : length (spell_all (flat_map was front)) ≡ q

further : (x : Cell) (c : Chunk) (q : ℕ) (xs : List Cell) → KeptAt c q xs → KeptAt c (length (spell_all (was x)) + q) (x ∷ xs)
further x c q xs k =
    record {
      front = x ∷ k.front;
      rest = k.rest;
      is = ap (λ (y : List Cell). x ∷ y) k.is;
      long = ap length (spell_all-append (was x) (flat_map was k.front)) ∙ omega (arith, k.long, length-append (spell_all (was x)) (spell_all (flat_map was k.front)));
    }

-- with another number that is the same
at_same : (c : Chunk) (p q : ℕ) (xs : List Cell) → p ≡ q → KeptAt c p xs → KeptAt c q xs
at_same c p q xs e k = subst (λ (n : ℕ). KeptAt c n xs) e k

here : (c : Chunk) (xs : List Cell) → KeptAt c 0 (kept c ∷ xs)
here c xs = record { front = []; rest = xs; is = refl; long = refl }

one_long : (c : Chunk) → length (spell_all (c ∷ [])) ≡ length (spell c)
one_long c = ap length (append-nil (spell c))

kept_cells : (c : Chunk) → is_hdrl c ≡ true → (front rest : List Chunk) → KeptAt c (length (spell_all front)) (map cell_of (front ++ (c ∷ rest)))
kept_cells c i [] rest = subst (λ (t : Bool). KeptAt c 0 (cell_by c t ∷ map cell_of rest)) (sym (not_padding c i)) (here c (map cell_of rest))
kept_cells c i (d ∷ front) rest =
    at_same c (length (spell_all (was (cell_of d))) + length (spell_all front)) (length (spell_all (d ∷ front))) (cell_of d ∷ map cell_of (front ++ (c ∷ rest)))
    (omega (arith, same (Rattle.carrier_model.specs.Info.is_padding d), one_long d, length-append (spell d) (spell_all front)))
    (further (cell_of d) c (length (spell_all front)) (map cell_of (front ++ (c ∷ rest))) (kept_cells c i front rest))
  where
    same : (t : Bool) → length (spell_all (was (cell_by d t))) ≡ length (spell_all (d ∷ []))
    same true = refl
    same false = refl

changed_long : (d : Change) (c : Chunk) → length (spell_all (was (changed_cell d c))) ≡ length (spell_all (was (kept c)))
changed_long leave c = refl
changed_long (become cs) c = refl

kept_settled : (c : Chunk) → info.is c ≡ false → (f : ℕ → Chunk → Change) (n : ℕ) (us ys : List Cell) → KeptAt c (length (spell_all (flat_map was us))) (settle_cells info.is f n (us ++ (kept c ∷ ys)))
kept_settled c i f n [] ys = subst (λ (d : Change). KeptAt c 0 (changed_cell d c ∷ settle_cells info.is f (counted info.is n c) ys)) (sym (ap (λ (t : Bool). cond t (f n c) leave) i)) (here c (settle_cells info.is f (counted info.is n c) ys))
kept_settled c i f n (kept d ∷ us) ys =
    let x = changed_cell (change_at info.is f n d) d in
    at_same c (length (spell_all (was x)) + length (spell_all (flat_map was us))) (length (spell_all (flat_map was (kept d ∷ us)))) (settle_cells info.is f n (kept d ∷ (us ++ (kept c ∷ ys))))
    (omega (arith, changed_long (change_at info.is f n d) d, one_long d, length-append (spell d) (spell_all (flat_map was us))))
    (further x c (length (spell_all (flat_map was us))) (settle_cells info.is f (counted info.is n d) (us ++ (kept c ∷ ys))) (kept_settled c i f (counted info.is n d) us ys))
kept_settled c i f n (gap d ∷ us) ys =
    at_same c (length (spell_all (d ∷ [])) + length (spell_all (flat_map was us))) (length (spell_all (flat_map was (gap d ∷ us)))) (settle_cells info.is f n (gap d ∷ (us ++ (kept c ∷ ys))))
    (omega (arith, one_long d, length-append (spell d) (spell_all (flat_map was us))))
    (further (gap d) c (length (spell_all (flat_map was us))) (settle_cells info.is f n (us ++ (kept c ∷ ys))) (kept_settled c i f n us ys))
kept_settled c i f n (edited old now ∷ us) ys =
    at_same c (length (spell_all old) + length (spell_all (flat_map was us))) (length (spell_all (flat_map was (edited old now ∷ us)))) (settle_cells info.is f n (edited old now ∷ (us ++ (kept c ∷ ys))))
    (sym (ap length (spell_all-append old (flat_map was us)) ∙ length-append (spell_all old) (spell_all (flat_map was us))))
    (further (edited old (Rattle.carrier_model.specs.Cells.settle info.is f n now)) c (length (spell_all (flat_map was us))) (settle_cells info.is f (count_all info.is n now) (us ++ (kept c ∷ ys))) (kept_settled c i f (count_all info.is n now) us ys))

-- cells that stand before it as they are
as_it_is : (c : Chunk) (us ys : List Cell) → KeptAt c (length (spell_all (flat_map was us))) (us ++ (kept c ∷ ys))
as_it_is c us ys = record { front = us; rest = ys; is = refl; long = refl }

kept_inserted : (c : Chunk) (t : Test) (d : Chunk) (us ys : List Cell) → KeptAt c (length (spell_all (flat_map was us))) (insert_cell behind t d (us ++ (kept c ∷ ys)))
kept_inserted c t d [] ys = go (meets t c)
  where
    go : (b : Bool) → KeptAt c 0 (cond b (beside behind (new_cell d) (kept c) ++ ys) (kept c ∷ insert_cell behind t d ys))
    go true = here c (new_cell d ∷ ys)
    go false = here c (insert_cell behind t d ys)
kept_inserted c t d (kept b ∷ us) ys = go (meets t b) (kept_inserted c t d us ys)
  where
    go : (v : Bool) → KeptAt c (length (spell_all (flat_map was us))) (insert_cell behind t d (us ++ (kept c ∷ ys)))
        → KeptAt c (length (spell_all (flat_map was (kept b ∷ us)))) (cond v (beside behind (new_cell d) (kept b) ++ (us ++ (kept c ∷ ys))) (kept b ∷ insert_cell behind t d (us ++ (kept c ∷ ys))))
    go true again = as_it_is c (kept b ∷ (new_cell d ∷ us)) ys
    go false again =
        at_same c (length (spell_all (b ∷ [])) + length (spell_all (flat_map was us))) (length (spell_all (flat_map was (kept b ∷ us)))) (kept b ∷ insert_cell behind t d (us ++ (kept c ∷ ys)))
        (omega (arith, one_long b, length-append (spell b) (spell_all (flat_map was us))))
        (further (kept b) c (length (spell_all (flat_map was us))) (insert_cell behind t d (us ++ (kept c ∷ ys))) again)
kept_inserted c t d (gap b ∷ us) ys = go (only_gaps (us ++ (kept c ∷ ys))) (kept_inserted c t d us ys)
  where
    go : (v : Bool) → KeptAt c (length (spell_all (flat_map was us))) (insert_cell behind t d (us ++ (kept c ∷ ys)))
        → KeptAt c (length (spell_all (flat_map was (gap b ∷ us)))) (cond v (new_cell d ∷ (gap b ∷ (us ++ (kept c ∷ ys)))) (gap b ∷ insert_cell behind t d (us ++ (kept c ∷ ys))))
    go true again = as_it_is c (new_cell d ∷ (gap b ∷ us)) ys
    go false again =
        at_same c (length (spell_all (b ∷ [])) + length (spell_all (flat_map was us))) (length (spell_all (flat_map was (gap b ∷ us)))) (gap b ∷ insert_cell behind t d (us ++ (kept c ∷ ys)))
        (omega (arith, one_long b, length-append (spell b) (spell_all (flat_map was us))))
        (further (gap b) c (length (spell_all (flat_map was us))) (insert_cell behind t d (us ++ (kept c ∷ ys))) again)
kept_inserted c t d (edited old now ∷ us) ys = go (some_meets t now) (kept_inserted c t d us ys)
  where
    go : (v : Bool) → KeptAt c (length (spell_all (flat_map was us))) (insert_cell behind t d (us ++ (kept c ∷ ys)))
        → KeptAt c (length (spell_all (flat_map was (edited old now ∷ us)))) (cond v (edited old (Rattle.carrier_model.specs.Cells.insert behind t d now) ∷ (us ++ (kept c ∷ ys))) (edited old now ∷ insert_cell behind t d (us ++ (kept c ∷ ys))))
    go true again = as_it_is c (edited old (Rattle.carrier_model.specs.Cells.insert behind t d now) ∷ us) ys
    go false again =
        at_same c (length (spell_all old) + length (spell_all (flat_map was us))) (length (spell_all (flat_map was (edited old now ∷ us)))) (edited old now ∷ insert_cell behind t d (us ++ (kept c ∷ ys)))
        (sym (ap length (spell_all-append old (flat_map was us)) ∙ length-append (spell_all old) (spell_all (flat_map was us))))
        (further (edited old now) c (length (spell_all (flat_map was us))) (insert_cell behind t d (us ++ (kept c ∷ ys))) again)

-- hdrl is kept by an edit of the lists of fields
pub hdrl_kept : (e : Items) (c : Chunk) → is_hdrl c ≡ true → (front rest : List Chunk) → KeptAt c (length (spell_all front)) (edit_list_cells info info_items behind_hdrl e (map cell_of (front ++ (c ∷ rest))))
hdrl_kept e c i front rest = subst (λ (xs : List Cell). KeptAt c (length (spell_all front)) (acted_cells act xs)) (sym k.is) (subst (λ (n : ℕ). KeptAt c n (acted_cells act (k.front ++ (kept c ∷ k.rest)))) k.long (go (has_carrier info all)))
  where
    k : KeptAt c (length (spell_all front)) (map cell_of (front ++ (c ∷ rest)))
    k = kept_cells c i front rest

    all : List Chunk
    all = flat_map live (map cell_of (front ++ (c ∷ rest)))

    act : Rattle.carrier_model.specs.Cells.Act
    act = lists_act_by info info_items behind_hdrl e (flat_map live (map cell_of (front ++ (c ∷ rest)))) (has_carrier info (flat_map live (map cell_of (front ++ (c ∷ rest)))))

    added : (b : Bool) → KeptAt c (length (spell_all (flat_map was k.front))) (acted_cells (new_carrier info info_items behind_hdrl e b) (k.front ++ (kept c ∷ k.rest)))
    added true = kept_inserted c behind_hdrl (info.fresh (Rattle.container_model.specs.Items.put_all info_items e [])) k.front k.rest
    added false = as_it_is c k.front k.rest

    go : (b : Bool) → KeptAt c (length (spell_all (flat_map was k.front))) (acted_cells (lists_act_by info info_items behind_hdrl e all b) (k.front ++ (kept c ∷ k.rest)))
    go true = kept_settled c (not_info c i) (edit_nth info info_items (home_of (all_items info info_items all)) e) 0 k.front k.rest
    go false = added (sets_some e)

-- ---- no span touches it

module _ (fill : Fill) where
  -- spans that begin behind the chunk before a unit
  begun_later : (at low : ℕ) (ps : List Piece) → low ≤ at → AllByRecursion (λ d. low ≤ d.at) (cuts fill at ps)
  begun_later at low [] le = tt
  begun_later at low (Piece.copied c ∷ ps) le = begun_later (at + length (spell c)) low ps (omega (arith, le))
  begun_later at low (Piece.replaced lead slot now last ∷ ps) le = (omega (arith, le), begun_later (at + length (spell_all lead ++ slot)) low ps (omega (arith, le)))

  abbrev lead_of : Slot → List Chunk
  lead_of shut = []
  lead_of (begun lead slot now) = lead

  units_later : (at : ℕ) (s : Slot) (xs : List Cell) → AllByRecursion (λ d. at + length (spell_all (lead_of s)) ≤ d.at) (cuts fill at (units s xs))
  unfolding units
  units_later at shut xs = begun_later at (at + 0) (units shut xs) (omega arith)
  units_later at (begun lead slot now) [] = (omega arith, tt)
  units_later at (begun lead slot now) (kept c ∷ xs) =
      (omega arith, begun_later (at + length (spell_all lead ++ slot)) (at + length (spell_all lead)) (kept_next (lacks_pad c && not (is_empty xs)) c (λ t. units t xs)) (omega (arith, length-append (spell_all lead) slot)))
  units_later at (begun lead slot now) (gap c ∷ xs) = units_later at (begun lead (slot ++ spell c) now) xs
  units_later at (begun lead slot now) (edited old new ∷ xs) = units_later at (begun lead (slot ++ spell_all old) (now ++ new)) xs

  abbrev Clear : ℕ → ℕ → List Cut → Type 0
  Clear q n cs = AllByRecursion (Beside q n) cs

  behind_clear : (q n : ℕ) (cs : List Cut) → AllByRecursion (λ d. q + n ≤ d.at) cs → Clear q n cs
  behind_clear q n [] h = tt
  behind_clear q n (c ∷ cs) h = (inr h.0, behind_clear q n cs h.1)

  closed_clear : (q n at : ℕ) (last : Bool) (s : Slot) (ps : List Piece) → at + length (begun_bytes s) ≤ q → Clear q n (cuts fill (at + length (begun_bytes s)) ps) → Clear q n (cuts fill at (closed last s ++ ps))
  closed_clear q n at last shut ps le h = subst (λ (k : ℕ). Clear q n (cuts fill k ps)) (omega arith) h
  closed_clear q n at last (begun lead slot now) ps le h = (inl (omega (arith, le, length-append (spell_all lead) slot)), h)

  next_clear : (q n at : ℕ) (r : Bool) (c : Chunk) (more : Slot → List Piece) → ((t : Slot) (to : ℕ) → to + length (begun_bytes t) ≡ at + length (spell c) → Clear q n (cuts fill to (more t))) → Clear q n (cuts fill at (kept_next r c more))
  next_clear q n at true c more h = h (begun (c ∷ []) [] []) at (omega (arith, append-nil-long c))
    where
      append-nil-long : (c : Chunk) → length ((spell c ++ []) ++ []) ≡ length (spell c)
      append-nil-long c = ap length (append-nil (spell c ++ []) ∙ append-nil (spell c))
  next_clear q n at false c more h = h shut (at + length (spell c)) (omega arith)

  pub units_clear : (q at : ℕ) (s : Slot) (c : Chunk) (us ys : List Cell) → at + (length (begun_bytes s) + length (spell_all (flat_map was us))) ≡ q → Clear q (length (spell c)) (cuts fill at (units s (us ++ (kept c ∷ ys))))
  unfolding units
  units_clear q at s c [] ys e =
      closed_clear q (length (spell c)) at false s (kept_next (lacks_pad c && not (is_empty ys)) c (λ t. units t ys)) (omega (arith, e))
      (go (lacks_pad c && not (is_empty ys)))
    where
      n : ℕ
      n = length (spell c)

      far : at + length (begun_bytes s) ≡ q
      far = omega (arith, e)

      go : (r : Bool) → Clear q (length (spell c)) (cuts fill (at + length (begun_bytes s)) (kept_next r c (λ t. units t ys)))
      go true =
          behind_clear q (length (spell c)) (cuts fill (at + length (begun_bytes s)) (units (begun (c ∷ []) [] []) ys))
          (subst (λ (k : ℕ). AllByRecursion (λ d. k ≤ d.at) (cuts fill (at + length (begun_bytes s)) (units (begun (c ∷ []) [] []) ys))) (omega (arith, far, one_long c)) (units_later (at + length (begun_bytes s)) (begun (c ∷ []) [] []) ys))
      go false =
          behind_clear q (length (spell c)) (cuts fill ((at + length (begun_bytes s)) + length (spell c)) (units shut ys))
          (begun_later ((at + length (begun_bytes s)) + length (spell c)) (q + length (spell c)) (units shut ys) (omega (arith, far)))
  units_clear q at s c (kept d ∷ us) ys e =
      let low = length-append (spell d) (spell_all (flat_map was us)) in
      closed_clear q (length (spell c)) at false s (kept_next (lacks_pad d && not (is_empty (us ++ (kept c ∷ ys)))) d (λ t. units t (us ++ (kept c ∷ ys)))) (omega (arith, e))
      (next_clear q (length (spell c)) (at + length (begun_bytes s)) (lacks_pad d && not (is_empty (us ++ (kept c ∷ ys)))) d (λ t. units t (us ++ (kept c ∷ ys)))
      (λ t to same. units_clear q to t c us ys (omega (arith, e, same, low))))
  units_clear q at shut c (gap d ∷ us) ys e =
      let low = length-append (spell d) (spell_all (flat_map was us)) in
      next_clear q (length (spell c)) at (lacks_pad d && not (is_empty (us ++ (kept c ∷ ys)))) d (λ t. units t (us ++ (kept c ∷ ys)))
      (λ t to same. units_clear q to t c us ys (omega (arith, e, same, low)))
  units_clear q at (begun lead slot now) c (gap d ∷ us) ys e =
      units_clear q at (begun lead (slot ++ spell d) now) c us ys
      (omega (arith, e, length-append (spell d) (spell_all (flat_map was us)), length-append (spell_all lead) slot, length-append (spell_all lead) (slot ++ spell d), length-append slot (spell d)))
  units_clear q at shut c (edited old new ∷ us) ys e =
      units_clear q at (begun [] (spell_all old) new) c us ys (omega (arith, e, ap length (spell_all-append old (flat_map was us)), length-append (spell_all old) (spell_all (flat_map was us))))
  units_clear q at (begun lead slot now) c (edited old new ∷ us) ys e =
      units_clear q at (begun lead (slot ++ spell_all old) (now ++ new)) c us ys
      (omega (
        arith,
        e,
        ap length (spell_all-append old (flat_map was us)),
        length-append (spell_all old) (spell_all (flat_map was us)),
        length-append (spell_all lead) slot,
        length-append (spell_all lead) (slot ++ spell_all old),
        length-append slot (spell_all old),
      ))

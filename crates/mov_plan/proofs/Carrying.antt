-- The places of the atoms of moov after an edit of the carriers among them are those of the definitions.
use Rattle.std.proofs.Common.{◌≡◌, ◌∙◌, ℕ, zero, suc, ◌+◌, ◌-◌, Bool, true, false, cond, List, [], ◌∷◌, ◌++◌, length, map, take, drop, Option, Some, None, refl, sym, ap, subst, arith, append-nil, get_or}
use Rattle.std.specs.Prelude.{◌&&◌, ◌||◌, ◌≤◌, ◌<◌, not, codes, slice_index_or}
use Rattle.std.specs.List.{flat_map, insert, list_any, remove}
use Rattle.part_tree.specs.declared.field.Value.{Value}
use Rattle.container_model.specs.Atoms.{atom, is}
use Rattle.container_model.specs.Chunk.{Chunk, spell, spell_all}
use Rattle.container_model.specs.Items.{Item, edit_carrier, put_all}
use Rattle.container_model.specs.Units.{Cell, edited, gap, kept, live}
use Rattle.container_model.specs.Windows.{window}
use Rattle.container_model.proofs.Items.{same_true}
use Rattle.carrier_model.specs.Cells.{Act, Change, acted_cells, add, become, behind, change, change_at, changed, changed_cell, counted, insert_cell, leave, never, new_cell, nothing, only_gaps, settle, settle_cells, some_meets}
use Rattle.carrier_model.specs.Cells as cells
use Rattle.carrier_model.specs.Steps.{carried}
use Rattle.mov_model.specs.Carried.{Changes, add_last, carry_by, first_becomes, fresh, key_step, steps, user_step}
use Rattle.mov_model.specs.Keys.{edit_meta, is_meta, new_meta}
use Rattle.qt_text.specs.User.{udta, user_items}
use Rattle.unit_plan.specs.declared.place.What.{What}
use Rattle.unit_plan.specs.declared.place.What.TheVariants as whats
use Rattle.std.proofs.lemmas.List.{length-take, take_more}
use Rattle.mov_plan.specs.Carry.{last_by, last_end, IsFirst, IsKeyStep, IsNone, IsStep, IsUserStep, Tell, added, become_at, carried_by, is_pad, new_place, only_pads, with_bytes}
use Rattle.mov_plan.specs.Places.{Follow, shape_by, shape_in}
use Rattle.mov_plan.specs.Shapes.{Shape, atoms_by, atoms_of, changes, count_all, pads, seen_after, shapes, stays}
use Rattle.mov_plan.specs.declared.carry.Carry.{Carry}
use Rattle.mov_plan.specs.declared.carry.Carry.TheVariants.{Becomes, Comes, Stays}
use Rattle.mov_plan.specs.declared.carry.NewAtom.{NewAtom}
use Rattle.mov_plan.specs.declared.place.Place.{Place}

-- ---- what places tell

-- they have the shapes of the cells
pub told : (b : List ℕ) (seen : Bool) (ps : List Place) (xs : List Cell) → Tell b seen ps xs → map (shape_in b) ps ≡ shapes seen xs
told b seen [] [] h = refl
told b seen [] (x ∷ xs) h = absurd h
told b seen (p ∷ ps) [] h = absurd h
told b seen (p ∷ ps) (kept c ∷ xs) h =
    let rest = map (shape_in b) ps in
    ap (λ (w : What). shape_by (window b p.at p.next) (p.next - p.at) p.parts w ∷ rest) h.0
    ∙ ap (λ (n : ℕ). stays n p.parts ∷ rest) h.2
    ∙ ap (λ (n : ℕ). stays (length (spell c)) n ∷ rest) h.3
    ∙ ap (λ (ys : List Shape). stays (length (spell c)) (atoms_of seen c) ∷ ys) (told b (seen || udta.is c) ps xs h.4)
told b seen (p ∷ ps) (gap c ∷ xs) h =
    let rest = map (shape_in b) ps in
    ap (λ (w : What). shape_by (window b p.at p.next) (p.next - p.at) p.parts w ∷ rest) h.0
    ∙ ap (λ (y : List ℕ). pads y p.parts ∷ rest) h.1
    ∙ ap (λ (n : ℕ). pads (spell c) n ∷ rest) h.2
    ∙ ap (λ (ys : List Shape). pads (spell c) (atoms_of seen c) ∷ ys) (told b seen ps xs h.4)
told b seen (p ∷ ps) (edited old now ∷ xs) h =
    let rest = map (shape_in b) ps in
    ap (λ (w : What). shape_by (window b p.at p.next) (p.next - p.at) p.parts w ∷ rest) h.0
    ∙ ap (λ (y : List ℕ). changes y (spell_all now) p.parts ∷ rest) h.1
    ∙ ap (λ (n : ℕ). changes (spell_all old) (spell_all now) n ∷ rest) h.2
    ∙ ap (λ (ys : List Shape). changes (spell_all old) (spell_all now) (count_all seen now) ∷ ys) (told b (seen_after seen now) ps xs h.3)

-- an atom that is no user data counts for as many behind any
parts_any : (s : Bool) (c : Chunk) → udta.is c ≡ false → atoms_of s c ≡ atoms_of false c
parts_any true c e = ap (atoms_by c) (sym e)
parts_any false c e = refl

-- padding tells the same behind any
gaps_any : (b : List ℕ) (s t : Bool) (ps : List Place) (xs : List Cell) → only_gaps xs ≡ true → Tell b s ps xs → Tell b t ps xs
gaps_any b s t [] [] e h = tt
gaps_any b s t [] (x ∷ xs) e h = absurd h
gaps_any b s t (p ∷ ps) [] e h = absurd h
gaps_any b s t (p ∷ ps) (kept c ∷ xs) e h = absurd cc
gaps_any b s t (p ∷ ps) (gap c ∷ xs) e h = (h.0, h.1, h.2 ∙ parts_any s c h.3 ∙ sym (parts_any t c h.3), h.3, gaps_any b s t ps xs e h.4)
gaps_any b s t (p ∷ ps) (edited old now ∷ xs) e h = absurd cc

-- where padding alone is left
pads_are : (b : List ℕ) (s : Bool) (ps : List Place) (xs : List Cell) → Tell b s ps xs → only_pads ps ≡ only_gaps xs
pads_are b s [] [] h = refl
pads_are b s [] (x ∷ xs) h = absurd h
pads_are b s (p ∷ ps) [] h = absurd h
pads_are b s (p ∷ ps) (kept c ∷ xs) h = ap (λ (w : What). is_pad w && only_pads ps) h.0
pads_are b s (p ∷ ps) (gap c ∷ xs) h = ap (λ (w : What). is_pad w && only_pads ps) h.0 ∙ pads_are b s ps xs h.4
pads_are b s (p ∷ ps) (edited old now ∷ xs) h = ap (λ (w : What). is_pad w && only_pads ps) h.0

-- ---- a step

or_off : (a b : Bool) → (a || b) ≡ false → (a ≡ false) × (b ≡ false)
or_off true b e = absurd cc
or_off false b e = (refl, e)

or_none : (a : Bool) → (a || false) ≡ a
or_none true = refl
or_none false = refl

no_window : (b : List ℕ) (at : ℕ) → window b at at ≡ []
no_window b at = let none : at - at ≡ 0 = omega arith in ap (λ (n : ℕ). take n (drop at b)) none

-- one atom is spelled and counted as a list of one
one_spelled : (bytes : List ℕ) (c : Chunk) → bytes ≡ spell c → whats.Changes bytes ≡ whats.Changes (spell_all (c ∷ []))
one_spelled bytes c e = ap whats.Changes (e ∙ sym (append-nil (spell c)))

-- where nothing meets a test it stays
module _ (is : Chunk → Bool) (f : ℕ → Chunk → Change) where
  none_settles : (n : ℕ) (cs : List Chunk) → list_any is cs ≡ false → (settle is f n cs ≡ cs) × (cells.count_all is n cs ≡ n)
  none_settles n [] e = (refl, refl)
  none_settles n (c ∷ cs) e =
      let o = or_off (is c) (list_any is cs) e in
      let again = none_settles n cs o.1 in (
        ap (λ (t : Bool). changed (cond t (f n c) leave) c ++ settle is f (cond t (suc n) n) cs) o.0 ∙ ap (λ (xs : List Chunk). c ∷ xs) again.0,
        ap (λ (t : Bool). cells.count_all is (cond t (suc n) n) cs) o.0 ∙ again.1,
      )

module _ (is : Chunk → Bool) (g : Chunk → Chunk) where
  abbrev F : ℕ → Chunk → Change
  F = first_becomes g

  -- behind the first one all stay
  settle_rest : (n : ℕ) (cs : List Chunk) → settle is F (suc n) cs ≡ cs
  settle_rest n [] = refl
  settle_rest n (c ∷ cs) = go (is c) (settle_rest (suc n) cs) (settle_rest n cs)
    where
      go : (t : Bool) → settle is F (suc (suc n)) cs ≡ cs → settle is F (suc n) cs ≡ cs → changed (cond t leave leave) c ++ settle is F (cond t (suc (suc n)) (suc n)) cs ≡ c ∷ cs
      go true x y = ap (λ (xs : List Chunk). c ∷ xs) x
      go false x y = ap (λ (xs : List Chunk). c ∷ xs) y

  count_rest : (n : ℕ) (cs : List Chunk) → (m : ℕ) × (cells.count_all is (suc n) cs ≡ suc m)
  count_rest n [] = (n, refl)
  count_rest n (c ∷ cs) = go (is c) (count_rest (suc n) cs) (count_rest n cs)
    where
      go : (t : Bool) → ((m : ℕ) × (cells.count_all is (suc (suc n)) cs ≡ suc m)) → ((m : ℕ) × (cells.count_all is (suc n) cs ≡ suc m)) → (m : ℕ) × (cells.count_all is (cond t (suc (suc n)) (suc n)) cs ≡ suc m)
      go true x y = x
      go false x y = y

  rest_stays : (n : ℕ) (xs : List Cell) → settle_cells is F (suc n) xs ≡ xs
  rest_stays n [] = refl
  rest_stays n (kept c ∷ xs) = go (is c) (rest_stays (suc n) xs) (rest_stays n xs)
    where
      go : (t : Bool) → settle_cells is F (suc (suc n)) xs ≡ xs → settle_cells is F (suc n) xs ≡ xs → changed_cell (cond t leave leave) c ∷ settle_cells is F (cond t (suc (suc n)) (suc n)) xs ≡ kept c ∷ xs
      go true x y = ap (λ (ys : List Cell). kept c ∷ ys) x
      go false x y = ap (λ (ys : List Cell). kept c ∷ ys) y
  rest_stays n (gap c ∷ xs) = ap (λ (ys : List Cell). gap c ∷ ys) (rest_stays n xs)
  rest_stays n (edited old now ∷ xs) =
      let m = count_rest n now in
      ap (λ (cs : List Chunk). edited old cs ∷ settle_cells is F (cells.count_all is (suc n) now) xs) (settle_rest n now)
      ∙ ap (λ (k : ℕ). edited old now ∷ settle_cells is F k xs) m.1 ∙ ap (λ (ys : List Cell). edited old now ∷ ys) (rest_stays m.0 xs)

-- A state of the atoms before, kept while none meets the test, at which a new atom counts as it does.
module _ (b : List ℕ) (is : Chunk → Bool) (Ok : Bool → Type 0) (one : (s : Bool) (d : Chunk) → is d ≡ false → Ok s → Ok (s || udta.is d)) (many : (s : Bool) (cs : List Chunk) → list_any is cs ≡ false → Ok s → Ok (seen_after s cs)) where
  -- an atom that becomes another
  record Other (g : Chunk → Chunk) (now : NewAtom) (c : Chunk) : Type 0 where
    meets : is c ≡ true
    bytes : now.bytes ≡ spell (g c)
    parts : (s : Bool) → Ok s → now.parts ≡ atoms_of s (g c)
    same : udta.is (g c) ≡ udta.is c

  becomes : (g : Chunk → Chunk) (now : NewAtom) (k : ℕ) (c : Chunk) (s : Bool) (ps : List Place) (xs : List Cell) → Tell b s ps xs → IsFirst is k c xs → Ok s → Other g now c
      → Tell b s (become_at k now ps) (settle_cells is (first_becomes g) 0 xs)
  becomes g now k c s [] [] h f ok w = absurd f
  becomes g now k c s [] (x ∷ xs) h f ok w = absurd h
  becomes g now k c s (p ∷ ps) [] h f ok w = absurd h
  becomes g now zero c s (p ∷ ps) (kept d ∷ xs) h f ok w0 =
      let w : Other g now d = subst (Other g now) (sym f.0) w0 in
      let F = first_becomes g in
      let cell : settle_cells is F 0 (kept d ∷ xs) ≡ edited (d ∷ []) (g d ∷ []) ∷ xs
      = ap (λ (t : Bool). changed_cell (cond t (become (g d ∷ [])) leave) d ∷ settle_cells is F (cond t 1 0) xs) w.meets ∙ ap (λ (ys : List Cell). edited (d ∷ []) (g d ∷ []) ∷ ys) (rest_stays is g 0 xs) in
      let seen : (s || udta.is d) ≡ seen_after s (g d ∷ []) = ap (λ (t : Bool). s || t) (sym (or_none (udta.is (g d)) ∙ w.same)) in
      let parts = w.parts s ok in
      subst (Tell b s (with_bytes now p ∷ ps)) (sym cell)
      (one_spelled now.bytes (g d) w.bytes, h.1 ∙ sym (append-nil (spell d)), omega (arith, parts), subst (λ (t : Bool). Tell b t ps xs) seen h.4)
  becomes g now zero c s (p ∷ ps) (gap d ∷ xs) h f ok w = absurd f
  becomes g now zero c s (p ∷ ps) (edited old made ∷ xs) h f ok w = absurd f
  becomes g now (suc k) c s (p ∷ ps) (kept d ∷ xs) h f ok w =
      let F = first_becomes g in
      let cell : settle_cells is F 0 (kept d ∷ xs) ≡ kept d ∷ settle_cells is F 0 xs
      = ap (λ (t : Bool). changed_cell (cond t (become (g d ∷ [])) leave) d ∷ settle_cells is F (cond t 1 0) xs) f.0 in
      subst (Tell b s (p ∷ become_at k now ps)) (sym cell) (h.0, h.1, h.2, h.3, becomes g now k c (s || udta.is d) ps xs h.4 f.1 (one s d f.0 ok) w)
  becomes g now (suc k) c s (p ∷ ps) (gap d ∷ xs) h f ok w = (h.0, h.1, h.2, h.3, becomes g now k c s ps xs h.4 f ok w)
  becomes g now (suc k) c s (p ∷ ps) (edited old made ∷ xs) h f ok w =
      let F = first_becomes g in
      let none = none_settles is F 0 made f.0 in
      let cell : settle_cells is F 0 (edited old made ∷ xs) ≡ edited old made ∷ settle_cells is F 0 xs
      = ap (λ (cs : List Chunk). edited old cs ∷ settle_cells is F (cells.count_all is 0 made) xs) none.0 ∙ ap (λ (n : ℕ). edited old made ∷ settle_cells is F n xs) none.1 in
      subst (Tell b s (p ∷ become_at k now ps)) (sym cell) (h.0, h.1, h.2, becomes g now k c (seen_after s made) ps xs h.3 f.1 (many s made f.0 ok) w)

  -- a new one
  never_meets : (cs : List Chunk) → some_meets never cs ≡ false
  never_meets [] = refl
  never_meets (c ∷ cs) = never_meets cs

  comes : (now : NewAtom) (c : Chunk) (end : ℕ) (s : Bool) (ps : List Place) (xs : List Cell) → Tell b s ps xs → IsNone is xs → Ok s → now.bytes ≡ spell c → ((s : Bool) → Ok s → now.parts ≡ atoms_of s c)
      → Tell b s (added now end ps) (insert_cell behind never c xs)
  comes now c end s [] [] h f ok bytes parts = let p = parts s ok in (one_spelled now.bytes c bytes, no_window b end, omega (arith, p), tt)
  comes now c end s [] (x ∷ xs) h f ok bytes parts = absurd h
  comes now c end s (p ∷ ps) [] h f ok bytes parts = absurd h
  comes now c end s (p ∷ ps) (kept d ∷ xs) h f ok bytes parts =
      let o = or_off (is d) (list_any is (flat_map live xs)) f in
      let place : added now end (p ∷ ps) ≡ p ∷ added now p.next ps = ap (λ (w : What). cond (is_pad w && only_pads ps) (new_place end now ∷ (p ∷ ps)) (p ∷ added now p.next ps)) h.0 in
      subst (λ (qs : List Place). Tell b s qs (kept d ∷ insert_cell behind never c xs)) (sym place)
      (h.0, h.1, h.2, h.3, comes now c p.next (s || udta.is d) ps xs h.4 o.1 (one s d o.0 ok) bytes parts)
  comes now c end s (p ∷ ps) (gap d ∷ xs) h f ok bytes parts =
      let same : only_pads (p ∷ ps) ≡ only_gaps xs = pads_are b s (p ∷ ps) (gap d ∷ xs) h in
      subst (λ (t : Bool). Tell b s (cond t (new_place end now ∷ (p ∷ ps)) (p ∷ added now p.next ps)) (cond (only_gaps xs) (new_cell c ∷ (gap d ∷ xs)) (gap d ∷ insert_cell behind never c xs))) (sym same)
      (go (only_gaps xs) refl (comes now c p.next s ps xs h.4 f ok bytes parts))
    where
      go : (t : Bool) → only_gaps xs ≡ t → Tell b s (added now p.next ps) (insert_cell behind never c xs) → Tell b s (cond t (new_place end now ∷ (p ∷ ps)) (p ∷ added now p.next ps)) (cond t (new_cell c ∷ (gap d ∷ xs)) (gap d ∷ insert_cell behind never c xs))
      go true e again = let q = parts s ok in (one_spelled now.bytes c bytes, no_window b end, omega (arith, q), gaps_any b s (seen_after s (c ∷ [])) (p ∷ ps) (gap d ∷ xs) e h)
      go false e again = (h.0, h.1, h.2, h.3, again)
  comes now c end s (p ∷ ps) (edited old made ∷ xs) h f ok bytes parts =
      let o = any_both made (flat_map live xs) f in
      let place : added now end (p ∷ ps) ≡ p ∷ added now p.next ps = ap (λ (w : What). cond (is_pad w && only_pads ps) (new_place end now ∷ (p ∷ ps)) (p ∷ added now p.next ps)) h.0 in
      let cell : insert_cell behind never c (edited old made ∷ xs) ≡ edited old made ∷ insert_cell behind never c xs
      = ap (λ (t : Bool). cond t (edited old (cells.insert behind never c made) ∷ xs) (edited old made ∷ insert_cell behind never c xs)) (never_meets made) in
      subst (λ (qs : List Place). Tell b s qs (insert_cell behind never c (edited old made ∷ xs))) (sym place)
      (subst (Tell b s (p ∷ added now p.next ps)) (sym cell) (h.0, h.1, h.2, comes now c p.next (seen_after s made) ps xs h.3 o.1 (many s made o.0 ok) bytes parts))
    where
      any_both : (xs ys : List Chunk) → list_any is (xs ++ ys) ≡ false → (list_any is xs ≡ false) × (list_any is ys ≡ false)
      any_both [] ys e = (refl, e)
      any_both (x ∷ xs) ys e =
          let o = or_off (is x) (list_any is (xs ++ ys)) e in
          let q = any_both xs ys o.1 in
          (ap (λ (t : Bool). t || list_any is xs) o.0 ∙ q.0, q.1)

-- ---- the second step finds what was there before the first

module _ (isu isk : Chunk → Bool) (g : Chunk → Chunk) (apart : (c : Chunk) → isk c ≡ true → isu c ≡ false) (no_new : (c : Chunk) → isu c ≡ true → isk (g c) ≡ false) where
  abbrev G : ℕ → Chunk → Change
  G = first_becomes g

  -- an atom that isn't looked for isn't one after the first step
  other : (n : ℕ) (c : Chunk) (t : Bool) → isu c ≡ t → isk c ≡ false → list_any isk (changed (cond t (G n c) leave) c) ≡ false
  other zero c true e off = ap (λ (t : Bool). t || false) (no_new c e)
  other (suc n) c true e off = ap (λ (t : Bool). t || false) off
  other n c false e off = ap (λ (t : Bool). t || false) off

  any_off : (xs ys : List Chunk) → list_any isk xs ≡ false → list_any isk ys ≡ false → list_any isk (xs ++ ys) ≡ false
  any_off [] ys e h = h
  any_off (x ∷ xs) ys e h = let o = or_off (isk x) (list_any isk xs) e in ap (λ (t : Bool). t || list_any isk (xs ++ ys)) o.0 ∙ any_off xs ys o.1 h

  any_parts : (xs ys : List Chunk) → list_any isk (xs ++ ys) ≡ false → (list_any isk xs ≡ false) × (list_any isk ys ≡ false)
  any_parts [] ys e = (refl, e)
  any_parts (x ∷ xs) ys e =
      let o = or_off (isk x) (list_any isk (xs ++ ys)) e in
      let q = any_parts xs ys o.1 in
      (ap (λ (t : Bool). t || list_any isk xs) o.0 ∙ q.0, q.1)

  still_none : (n : ℕ) (cs : List Chunk) → list_any isk cs ≡ false → list_any isk (settle isu G n cs) ≡ false
  still_none n [] e = refl
  still_none n (c ∷ cs) e =
      let o = or_off (isk c) (list_any isk cs) e in
      any_off (changed (change_at isu G n c) c) (settle isu G (counted isu n c) cs) (other n c (isu c) refl o.0) (still_none (counted isu n c) cs o.1)

  first_still : (k : ℕ) (c : Chunk) (n : ℕ) (xs : List Cell) → IsFirst isk k c xs → IsFirst isk k c (settle_cells isu G n xs)
  first_still k c n [] f = f
  first_still zero c n (kept d ∷ xs) f =
      let no : isu d ≡ false = ap isu f.0 ∙ apart c f.1 in
      subst (λ (t : Bool). IsFirst isk zero c (changed_cell (cond t (G n d) leave) d ∷ settle_cells isu G (cond t (suc n) n) xs)) (sym no) f
  first_still zero c n (gap d ∷ xs) f = f
  first_still zero c n (edited old now ∷ xs) f = f
  first_still (suc k) c n (kept d ∷ xs) f = go n (isu d) refl (λ n. first_still k c n xs f.1)
    where
      go : (n : ℕ) (t : Bool) → isu d ≡ t → ((n : ℕ) → IsFirst isk k c (settle_cells isu G n xs)) → IsFirst isk (suc k) c (changed_cell (cond t (G n d) leave) d ∷ settle_cells isu G (cond t (suc n) n) xs)
      go zero true e again = (other zero d true e f.0, again 1)
      go (suc n) true e again = (f.0, again (suc (suc n)))
      go n false e again = (f.0, again n)
  first_still (suc k) c n (gap d ∷ xs) f = first_still k c n xs f
  first_still (suc k) c n (edited old now ∷ xs) f = (still_none n now f.0, first_still k c (cells.count_all isu n now) xs f.1)

  none_still : (n : ℕ) (xs : List Cell) → IsNone isk xs → IsNone isk (settle_cells isu G n xs)
  none_still n [] e = refl
  none_still n (kept d ∷ xs) e = let o = or_off (isk d) (list_any isk (flat_map live xs)) e in go n (isu d) refl o.0 (λ n. none_still n xs o.1)
    where
      go : (n : ℕ) (t : Bool) → isu d ≡ t → isk d ≡ false → ((n : ℕ) → IsNone isk (settle_cells isu G n xs)) → IsNone isk (changed_cell (cond t (G n d) leave) d ∷ settle_cells isu G (cond t (suc n) n) xs)
      go zero true e off again = ap (λ (t : Bool). t || list_any isk (flat_map live (settle_cells isu G 1 xs))) (no_new d e) ∙ again 1
      go (suc n) true e off again = ap (λ (t : Bool). t || list_any isk (flat_map live (settle_cells isu G (suc (suc n)) xs))) off ∙ again (suc (suc n))
      go n false e off again = ap (λ (t : Bool). t || list_any isk (flat_map live (settle_cells isu G n xs))) off ∙ again n
  none_still n (gap d ∷ xs) e = none_still n xs e
  none_still n (edited old now ∷ xs) e =
      let o = any_parts now (flat_map live xs) e in
      any_off (settle isu G n now) (flat_map live (settle_cells isu G (cells.count_all isu n now) xs)) (still_none n now o.0) (none_still (cells.count_all isu n now) xs o.1)

module _ (isk : Chunk → Bool) (u : Chunk) where
  not_gaps : (k : ℕ) (c : Chunk) (xs : List Cell) → IsFirst isk k c xs → only_gaps xs ≡ true → ⊥
  not_gaps k c [] f e = f
  not_gaps zero c (kept d ∷ xs) f e = absurd cc
  not_gaps zero c (gap d ∷ xs) f e = f
  not_gaps zero c (edited old now ∷ xs) f e = f
  not_gaps (suc k) c (kept d ∷ xs) f e = absurd cc
  not_gaps (suc k) c (gap d ∷ xs) f e = not_gaps k c xs f e
  not_gaps (suc k) c (edited old now ∷ xs) f e = absurd cc

  none_meets : (cs : List Chunk) → some_meets never cs ≡ false
  none_meets [] = refl
  none_meets (c ∷ cs) = none_meets cs

  first_then : (k : ℕ) (c : Chunk) (xs : List Cell) → IsFirst isk k c xs → IsFirst isk k c (insert_cell behind never u xs)
  first_then k c [] f = absurd f
  first_then zero c (kept d ∷ xs) f = f
  first_then zero c (gap d ∷ xs) f = absurd f
  first_then zero c (edited old now ∷ xs) f = absurd f
  first_then (suc k) c (kept d ∷ xs) f = (f.0, first_then k c xs f.1)
  first_then (suc k) c (gap d ∷ xs) f = go (only_gaps xs) refl (first_then k c xs f)
    where
      go : (t : Bool) → only_gaps xs ≡ t → IsFirst isk k c (insert_cell behind never u xs) → IsFirst isk (suc k) c (cond t (new_cell u ∷ (gap d ∷ xs)) (gap d ∷ insert_cell behind never u xs))
      go true e again = absurd (not_gaps k c xs f e)
      go false e again = again
  first_then (suc k) c (edited old now ∷ xs) f =
      subst (λ (t : Bool). IsFirst isk (suc k) c (cond t (edited old (cells.insert behind never u now) ∷ xs) (edited old now ∷ insert_cell behind never u xs))) (sym (none_meets now)) (f.0, first_then k c xs f.1)

  none_both : (ys xs zs : List Chunk) → list_any isk (ys ++ xs) ≡ false → (list_any isk xs ≡ false → list_any isk zs ≡ false) → list_any isk (ys ++ zs) ≡ false
  none_both [] xs zs e h = h e
  none_both (y ∷ ys) xs zs e h = let o = or_off (isk y) (list_any isk (ys ++ xs)) e in ap (λ (t : Bool). t || list_any isk (ys ++ zs)) o.0 ∙ none_both ys xs zs o.1 h

  none_then : (xs : List Cell) → isk u ≡ false → IsNone isk xs → IsNone isk (insert_cell behind never u xs)
  none_then [] off e = ap (λ (t : Bool). t || false) off
  none_then (kept d ∷ xs) off e =
      let o = or_off (isk d) (list_any isk (flat_map live xs)) e in
      ap (λ (t : Bool). t || list_any isk (flat_map live (insert_cell behind never u xs))) o.0 ∙ none_then xs off o.1
  none_then (gap d ∷ xs) off e = go (only_gaps xs) (none_then xs off e)
    where
      go : (t : Bool) → IsNone isk (insert_cell behind never u xs) → IsNone isk (cond t (new_cell u ∷ (gap d ∷ xs)) (gap d ∷ insert_cell behind never u xs))
      go true again = ap (λ (t : Bool). t || list_any isk (flat_map live xs)) off ∙ e
      go false again = again
  none_then (edited old now ∷ xs) off e =
      subst (λ (t : Bool). IsNone isk (cond t (edited old (cells.insert behind never u now) ∷ xs) (edited old now ∷ insert_cell behind never u xs))) (sym (none_meets now))
      (none_both now (flat_map live xs) (flat_map live (insert_cell behind never u xs)) e (λ h. none_then xs off h))

-- ---- what a step is

some_past : (is : Chunk → Bool) (ys xs : List Chunk) → list_any is ys ≡ false → list_any is xs ≡ true → list_any is (ys ++ xs) ≡ true
some_past is [] xs e h = h
some_past is (y ∷ ys) xs e h = let o = or_off (is y) (list_any is ys) e in ap (λ (t : Bool). t || list_any is (ys ++ xs)) o.0 ∙ some_past is ys xs o.1 h

-- the first that meets a test is one
some_first : (is : Chunk → Bool) (k : ℕ) (c : Chunk) (xs : List Cell) → IsFirst is k c xs → list_any is (flat_map live xs) ≡ true
some_first is k c [] f = absurd f
some_first is zero c (kept d ∷ xs) f = ap (λ (t : Bool). t || list_any is (flat_map live xs)) (ap is f.0 ∙ f.1)
some_first is zero c (gap d ∷ xs) f = absurd f
some_first is zero c (edited old now ∷ xs) f = absurd f
some_first is (suc k) c (kept d ∷ xs) f = ap (λ (t : Bool). t || list_any is (flat_map live xs)) f.0 ∙ some_first is k c xs f.1
some_first is (suc k) c (gap d ∷ xs) f = some_first is k c xs f
some_first is (suc k) c (edited old now ∷ xs) f = some_past is now (flat_map live xs) f.0 (some_first is k c xs f.1)

-- what a step does to the cells
abbrev step_cells : (Chunk → Bool) → (Chunk → Chunk) → Option Chunk → List Cell → List Cell
step_cells is g new xs = acted_cells (carry_by is g new (list_any is (flat_map live xs))) xs

module _ (b : List ℕ) (is : Chunk → Bool) (g : Chunk → Chunk) (new : Option Chunk) (Ok : Bool → Type 0)
    (one : (s : Bool) (d : Chunk) → is d ≡ false → Ok s → Ok (s || udta.is d)) (many : (s : Bool) (cs : List Chunk) → list_any is cs ≡ false → Ok s → Ok (seen_after s cs))
    (same : (c : Chunk) → is c ≡ true → udta.is (g c) ≡ udta.is c)
    (counts : (c : Chunk) (s : Bool) → is c ≡ true → Ok s → atoms_of s (g c) ≡ atoms_of false (g c))
    (fresh_counts : (c : Chunk) (s : Bool) → new ≡ Some c → Ok s → atoms_of s c ≡ atoms_of false c) where
  first_meets : (k : ℕ) (c : Chunk) (xs : List Cell) → IsFirst is k c xs → is c ≡ true
  first_meets k c [] f = absurd f
  first_meets zero c (kept d ∷ xs) f = f.1
  first_meets zero c (gap d ∷ xs) f = absurd f
  first_meets zero c (edited old now ∷ xs) f = absurd f
  first_meets (suc k) c (kept d ∷ xs) f = first_meets k c xs f.1
  first_meets (suc k) c (gap d ∷ xs) f = first_meets k c xs f
  first_meets (suc k) c (edited old now ∷ xs) f = first_meets k c xs f.1

  step_tells : (end : ℕ) (s : Bool) (ps : List Place) (xs : List Cell) (k : Carry) → Ok s → Tell b s ps xs → IsStep is g new k xs → Tell b s (carried_by end k ps) (step_cells is g new xs)
  step_tells end s ps xs Stays ok h st =
      let act : carry_by is g new (list_any is (flat_map live xs)) ≡ nothing = ap (carry_by is g new) st.0 ∙ ap add_last st.1 in
      subst (λ (a : Act). Tell b s ps (acted_cells a xs)) (sym act) h
  step_tells end s ps xs (Becomes k now) ok h st =
      let c = st.0 in
      let meets = first_meets k c xs st.1.0 in
      let act : carry_by is g new (list_any is (flat_map live xs)) ≡ change is (first_becomes g) = ap (carry_by is g new) (some_first is k c xs st.1.0) in
      subst (λ (a : Act). Tell b s (become_at k now ps) (acted_cells a xs)) (sym act)
      (becomes b is Ok one many g now k c s ps xs h st.1.0 ok (record { meets = meets; bytes = st.1.1.0; parts = λ s ok. st.1.1.1 ∙ sym (counts c s meets ok); same = same c meets }))
  step_tells end s ps xs (Comes now) ok h st =
      let c = st.0 in
      let act : carry_by is g new (list_any is (flat_map live xs)) ≡ add behind never c = ap (carry_by is g new) st.1.0 ∙ ap add_last st.1.1 in
      subst (λ (a : Act). Tell b s (added now end ps) (acted_cells a xs)) (sym act)
      (comes b is Ok one many now c end s ps xs h st.1.0 ok st.1.2.0 (λ s ok. st.1.2.1 ∙ sym (fresh_counts c s st.1.1 ok)))

-- ---- both steps

not_user : (c : Chunk) → is_meta c ≡ true → udta.is c ≡ false
not_user c e = go (is c (codes "meta")) refl e
  where
    go : (t : Bool) → is c (codes "meta") ≡ t → (t && Rattle.std.specs.Prelude.is_some (Rattle.qt_keys.specs.Read.key_table c.body)) ≡ true → udta.is c ≡ false
    go true i e = rw (same_true c.id (codes "meta") i) refl
    go false i e = absurd cc

not_meta : (c : Chunk) → udta.is c ≡ true → is_meta c ≡ false
not_meta c e = go (is_meta c) refl
  where
    go : (t : Bool) → is_meta c ≡ t → t ≡ false
    go true i = let no = not_user c i in absurd cc
    go false i = refl

fresh_user : (items : List Chunk) (c : Chunk) → fresh udta items ≡ Some c → udta.is c ≡ true
fresh_user [] c e = absurd cc
fresh_user (x ∷ xs) c e = ap (λ (o : Option Chunk). elim o [ Some d ↦ udta.is d | None ↦ true ]) (sym e)

fresh_meta : (e : List (Item (List ℕ))) (c : Chunk) → new_meta e ≡ Some c → udta.is c ≡ false
fresh_meta e c h = go (Rattle.carrier_model.specs.Lists.sets_some e) h
  where
    made : Chunk
    made = atom (codes "meta") (Rattle.qt_keys.specs.Table.table_bytes (Rattle.mov_model.specs.Keys.with_keys e Rattle.mov_model.specs.Keys.new_table))

    go : (t : Bool) → cond t (Some made) None ≡ Some c → udta.is c ≡ false
    go true h = ap (λ (o : Option Chunk). elim o [ Some d ↦ udta.is d | None ↦ false ]) (sym h)
    go false h = absurd cc

abbrev Unseen : Bool → Type 0
Unseen s = s ≡ false

module _ (b : List ℕ) (end : ℕ) (e : Changes) where
  abbrev after_users : List Cell → List Cell
  after_users xs = acted_cells (user_step e.users (flat_map live xs)) xs

  users_tell : (us : List (Item Value)) (ps : List Place) (xs : List Cell) (k : Carry) → Tell b false ps xs → IsUserStep us k xs → Tell b false (carried_by end k ps) (acted_cells (user_step us (flat_map live xs)) xs)
  users_tell [] ps xs k h st = subst (λ (j : Carry). Tell b false (carried_by end j ps) xs) (sym st) h
  users_tell (i ∷ us) ps xs k h st =
      step_tells b (λ c. udta.is c) (edit_carrier udta user_items (i ∷ us)) (fresh udta (put_all user_items (i ∷ us) [])) Unseen
      (λ s d no ok. ap (λ (t : Bool). t || udta.is d) ok ∙ no) (λ s cs no ok. ap (λ (t : Bool). t || list_any (λ c. udta.is c) cs) ok ∙ no)
      (λ c m. refl) (λ c s m ok. ap (λ (t : Bool). atoms_of t (edit_carrier udta user_items (i ∷ us) c)) ok) (λ c s n ok. ap (λ (t : Bool). atoms_of t c) ok)
      end false ps xs k refl h st

  keys_tell : (ks : List (Item (List ℕ))) (ps : List Place) (xs : List Cell) (k : Carry) → Tell b false ps xs → IsKeyStep ks k xs → Tell b false (carried_by end k ps) (acted_cells (key_step ks (flat_map live xs)) xs)
  keys_tell [] ps xs k h st = subst (λ (j : Carry). Tell b false (carried_by end j ps) xs) (sym st) h
  keys_tell (i ∷ ks) ps xs k h st =
      step_tells b is_meta (edit_meta (i ∷ ks)) (new_meta (i ∷ ks)) (λ s. Unit {0})
      (λ s d no ok. tt) (λ s cs no ok. tt)
      (λ c m. refl) (λ c s m ok. parts_any s (edit_meta (i ∷ ks) c) (not_user c m)) (λ c s n ok. parts_any s c (fresh_meta (i ∷ ks) c n))
      end false ps xs k tt h st

  -- the keys are found where they were
  keys_found : (us : List (Item Value)) (ks : List (Item (List ℕ))) (k : Carry) (xs : List Cell) → IsKeyStep ks k xs → IsKeyStep ks k (acted_cells (user_step us (flat_map live xs)) xs)
  keys_found [] ks k xs st = st
  keys_found (j ∷ us) [] k xs st = st
  keys_found (j ∷ us) (i ∷ ks) k xs st = go (list_any (λ c. udta.is c) (flat_map live xs)) (fresh udta (put_all user_items (j ∷ us) [])) refl
    where
      g : Chunk → Chunk
      g = edit_carrier udta user_items (j ∷ us)

      by_change : (k : Carry) → IsKeyStep (i ∷ ks) k xs → IsKeyStep (i ∷ ks) k (settle_cells (λ c. udta.is c) (first_becomes (edit_carrier udta user_items (j ∷ us))) 0 xs)
      by_change Stays st = (none_still (λ c. udta.is c) is_meta (edit_carrier udta user_items (j ∷ us)) not_user (λ c m. not_meta (edit_carrier udta user_items (j ∷ us) c) m) 0 xs st.0, st.1)
      by_change (Becomes n now) st = (st.0, (first_still (λ c. udta.is c) is_meta (edit_carrier udta user_items (j ∷ us)) not_user (λ c m. not_meta (edit_carrier udta user_items (j ∷ us) c) m) n st.0 0 xs st.1.0, st.1.1))
      by_change (Comes now) st = (st.0, (none_still (λ c. udta.is c) is_meta (edit_carrier udta user_items (j ∷ us)) not_user (λ c m. not_meta (edit_carrier udta user_items (j ∷ us) c) m) 0 xs st.1.0, st.1.1, st.1.2))

      by_add : (k : Carry) (u : Chunk) → udta.is u ≡ true → IsKeyStep (i ∷ ks) k xs → IsKeyStep (i ∷ ks) k (insert_cell behind never u xs)
      by_add Stays u is st = (none_then is_meta u xs (not_meta u is) st.0, st.1)
      by_add (Becomes n now) u is st = (st.0, (first_then is_meta u n st.0 xs st.1.0, st.1.1))
      by_add (Comes now) u is st = (st.0, (none_then is_meta u xs (not_meta u is) st.1.0, st.1.1, st.1.2))

      go : (t : Bool) (new : Option Chunk) → fresh udta (put_all user_items (j ∷ us) []) ≡ new
          → IsKeyStep (i ∷ ks) k (acted_cells (carry_by (λ c. udta.is c) (edit_carrier udta user_items (j ∷ us)) new t) xs)
      go true new e = by_change k st
      go false None e = st
      go false (Some u) e = by_add k u (fresh_user (put_all user_items (j ∷ us) []) u e) st

  -- The places after an edit tell the cells after it.
  pub carry_tells : (ps : List Place) (xs : List Cell) (user keys : Carry) → Tell b false ps xs → IsUserStep e.users user xs → IsKeyStep e.keys keys xs
      → Tell b false (carried_by end keys (carried_by end user ps)) (carried (steps e) xs)
  carry_tells ps xs user keys h u k =
      keys_tell e.keys (carried_by end user ps) (after_users xs) keys (users_tell e.users ps xs user h u) (keys_found e.users e.keys keys xs k)

-- ---- by their numbers

-- the places follow each other as before
follow_other : (now : NewAtom) (k from end : ℕ) (ps : List Place) → Follow from ps end → Follow from (become_at k now ps) end
follow_other now k from end [] h = h
follow_other now zero from end (p ∷ ps) h = h
follow_other now (suc k) from end (p ∷ ps) h = (h.0, h.1, h.2, follow_other now k p.next end ps h.3)

follow_added : (now : NewAtom) (from end : ℕ) (ps : List Place) → Follow from ps end → Follow from (added now from ps) end
follow_added now from end [] h = (refl, omega arith, omega (arith, h), h)
follow_added now from end (p ∷ ps) h = go (only_pads (p ∷ ps)) (follow_added now p.next end ps h.3)
  where
    go : (t : Bool) → Follow p.next (added now p.next ps) end → Follow from (cond t (new_place from now ∷ (p ∷ ps)) (p ∷ added now p.next ps)) end
    go true again = (refl, omega arith, omega (arith, h.0, h.1, h.2), (h.0, h.1, h.2, h.3))
    go false again = (h.0, h.1, h.2, again)

pub follow_carried : (k : Carry) (from end : ℕ) (ps : List Place) → Follow from ps end → Follow from (carried_by from k ps) end
follow_carried Stays from end ps h = h
follow_carried (Becomes k now) from end ps h = follow_other now k from end ps h
follow_carried (Comes now) from end ps h = follow_added now from end ps h

-- ---- one place after the other

and_true : (a : Bool) → (a && true) ≡ a
and_true true = refl
and_true false = refl

and_false : (a : Bool) → (a && false) ≡ false
and_false true = refl
and_false false = refl

and_assoc : (a b c : Bool) → (a && (b && c)) ≡ ((a && b) && c)
and_assoc true b c = refl
and_assoc false b c = refl

pads_both : (xs : List Place) (p : Place) → only_pads (xs ++ p ∷ []) ≡ (only_pads xs && is_pad p.what)
pads_both [] p = and_true (is_pad p.what)
pads_both (x ∷ xs) p = ap (λ (t : Bool). is_pad x.what && t) (pads_both xs p) ∙ and_assoc (is_pad x.what) (only_pads xs) (is_pad p.what)

-- one place more
last_by_more : (ps : List Place) (p : Place) (t : Bool) → is_pad p.what ≡ t → last_by (ps ++ p ∷ []) ≡ cond t (last_by ps) (suc (length ps))
last_by_more [] p t e = ap (λ (x : Bool). cond (x && true) zero (suc zero)) e ∙ ap (λ (x : Bool). cond x zero (suc zero)) (and_true t)
last_by_more (q ∷ ps) p true e =
    ap (λ (x : Bool). cond (is_pad q.what && x) 0 (suc (last_by (ps ++ p ∷ [])))) (pads_both ps p ∙ ap (λ (t : Bool). only_pads ps && t) e ∙ and_true (only_pads ps))
    ∙ ap (λ (n : ℕ). cond (is_pad q.what && only_pads ps) 0 (suc n)) (last_by_more ps p true e)
last_by_more (q ∷ ps) p false e =
    ap (λ (x : Bool). cond (is_pad q.what && x) 0 (suc (last_by (ps ++ p ∷ [])))) (pads_both ps p ∙ ap (λ (t : Bool). only_pads ps && t) e ∙ and_false (only_pads ps))
    ∙ ap (λ (x : Bool). cond x 0 (suc (last_by (ps ++ p ∷ [])))) (and_false (is_pad q.what))
    ∙ ap suc (last_by_more ps p false e)

end_more_by : (from : ℕ) (ps : List Place) (p : Place) (t : Bool) → is_pad p.what ≡ t → last_end from (ps ++ p ∷ []) ≡ cond t (last_end from ps) p.next
end_more_by from [] p t e = ap (λ (x : Bool). cond (x && true) from p.next) e ∙ go t
  where
    go : (t : Bool) → cond (t && true) from p.next ≡ cond t from p.next
    go true = refl
    go false = refl
end_more_by from (q ∷ ps) p true e =
    ap (λ (x : Bool). cond (is_pad q.what && x) from (last_end q.next (ps ++ p ∷ []))) (pads_both ps p ∙ ap (λ (t : Bool). only_pads ps && t) e ∙ and_true (only_pads ps))
    ∙ ap (λ (n : ℕ). cond (is_pad q.what && only_pads ps) from n) (end_more_by q.next ps p true e)
end_more_by from (q ∷ ps) p false e =
    ap (λ (x : Bool). cond (is_pad q.what && x) from (last_end q.next (ps ++ p ∷ []))) (pads_both ps p ∙ ap (λ (t : Bool). only_pads ps && t) e ∙ and_false (only_pads ps))
    ∙ ap (λ (x : Bool). cond x from (last_end q.next (ps ++ p ∷ []))) (and_false (is_pad q.what))
    ∙ end_more_by q.next ps p false e

pub last_low : (ps : List Place) → last_by ps ≤ length ps
last_low [] = omega arith
last_low (p ∷ ps) = go (only_pads (p ∷ ps)) (last_low ps)
  where
    go : (t : Bool) → last_by ps ≤ length ps → cond t 0 (suc (last_by ps)) ≤ suc (length ps)
    go true h = omega arith
    go false h = omega (arith, h)

-- behind one more of a list
pub past_other : (from : ℕ) (ps : List Place) (k : ℕ) (p : Place) → k < length ps → p ≡ get_or ps k p → is_pad p.what ≡ false
    → (last_by (take (k + 1) ps) ≡ k + 1) × (last_end from (take (k + 1) ps) ≡ p.next)
past_other from ps k p lt at off =
    let more : take (k + 1) ps ≡ take k ps ++ p ∷ [] = take_more ps k p lt ∙ ap (λ (q : Place). take k ps ++ q ∷ []) (sym at) in
    let long : suc (length (take k ps)) ≡ k + 1 = omega (arith, length-take k ps, lt) in
    (ap last_by more ∙ last_by_more (take k ps) p false off ∙ long, ap (last_end from) more ∙ end_more_by from (take k ps) p false off)

pub past_pad : (from : ℕ) (ps : List Place) (k : ℕ) (p : Place) → k < length ps → p ≡ get_or ps k p → is_pad p.what ≡ true
    → (last_by (take (k + 1) ps) ≡ last_by (take k ps)) × (last_end from (take (k + 1) ps) ≡ last_end from (take k ps))
past_pad from ps k p lt at on =
    let more : take (k + 1) ps ≡ take k ps ++ p ∷ [] = take_more ps k p lt ∙ ap (λ (q : Place). take k ps ++ q ∷ []) (sym at) in
    (ap last_by more ∙ last_by_more (take k ps) p true on, ap (last_end from) more ∙ end_more_by from (take k ps) p true on)

-- ---- places in a list

-- the place with a number, taken out and put in again
pub other_is : (k : ℕ) (now : NewAtom) (old : Place) (ps : List Place) → k < length ps → old ≡ slice_index_or ps k old → insert (remove ps k) k (with_bytes now old) ≡ become_at k now ps
other_is k now old [] lt e = absurd (omega (arith, lt))
other_is zero now old (p ∷ ps) lt e = ap (λ (q : Place). with_bytes now q ∷ ps) e
other_is (suc k) now old (p ∷ ps) lt e = ap (λ (qs : List Place). p ∷ qs) (other_is k now old ps (omega (arith, lt)) e)

-- a new one before padding, or at the end
pub added_is : (now : NewAtom) (from : ℕ) (ps : List Place) → insert ps (last_by ps) (new_place (last_end from ps) now) ≡ added now from ps
added_is now from [] = refl
added_is now from (p ∷ ps) = go (only_pads (p ∷ ps)) (added_is now p.next ps)
  where
    go : (t : Bool) → insert ps (last_by ps) (new_place (last_end p.next ps) now) ≡ added now p.next ps
        → insert (p ∷ ps) (cond t 0 (suc (last_by ps))) (new_place (cond t from (last_end p.next ps)) now) ≡ cond t (new_place from now ∷ (p ∷ ps)) (p ∷ added now p.next ps)
    go true again = refl
    go false again = ap (λ (qs : List Place). p ∷ qs) again

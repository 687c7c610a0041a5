-- The units of some cells before a chunk that is kept, and from it on.
use Rattle.std.proofs.Common.{◌≡◌, ℕ, ◌+◌, ◌<◌, ◌≤◌, Bool, true, false, cond, ltb, List, [], ◌∷◌, ◌++◌, length, map, refl, sym, ap, subst, ◌∙◌, append_assoc, arith, inl, inr}
use Rattle.std.specs.Prelude.{◌&&◌, not}
use Rattle.std.specs.List.{flat_map, AllByRecursion}
use Rattle.std.proofs.lemmas.Bool.{ltb-true}
use Rattle.std.proofs.lemmas.List.{append-nil, length-append, take_at, drop_at}
use Rattle.std.proofs.lemmas.List.Concat.{flat_map-append}
use Rattle.part_tree.specs.declared.plan.Patch.{Patch}
use Rattle.part_tree.specs.Patches.{InOrder, Touches}
use Rattle.container_model.specs.Chunk.{Chunk, spell, spell_all}
use Rattle.container_model.specs.Units.{Cell, kept, gap, edited, was, lacks_pad, padded, Piece, copied, replaced, Slot, shut, begun, is_empty, closed, kept_next, units, lay, lead_pad, unit_bytes, old_bytes, Fill}
use Rattle.container_model.proofs.Places.{old_length}
use Rattle.container_model.proofs.Units.{BringsPad, begun_bytes, spell_all-append}
use Rattle.carrier_model.specs.Room.{patch, unit_patch, unit_patches}
use Rattle.carrier_model.proofs.Fitted.{AllFit, LastOnly}
use Rattle.carrier_model.proofs.Patches.{order_low}
use Rattle.avi_model.specs.RoomAfter.{put_patch, put_patches}

-- ---- the pieces before a chunk that is kept

pub record Split (c : Chunk) (s : Slot) (us ys : List Cell) : Type 0 where
  pub front : List Piece
  pub is : units s (us ++ (kept c ∷ ys)) ≡ front ++ kept_next (lacks_pad c && not (is_empty ys)) c (λ t. units t ys)
  pub old : flat_map old_bytes front ≡ begun_bytes s ++ spell_all (flat_map was us)

closed_old : (last : Bool) (s : Slot) → flat_map old_bytes (closed last s) ≡ begun_bytes s
closed_old last shut = refl
closed_old last (begun lead slot now) = append-nil (spell_all lead ++ slot)

module _ (c : Chunk) (ys : List Cell) where
  -- a piece before
  add_closed : (s : Slot) (us : List Cell) (ps : List Piece) → (front : List Piece) × (ps ≡ front ++ kept_next (lacks_pad c && not (is_empty ys)) c (λ t. units t ys)) × (flat_map old_bytes front ≡ spell_all (flat_map was us))
      → units s (us ++ (kept c ∷ ys)) ≡ closed false s ++ ps → Split c s us ys
  add_closed s us ps f e = record {
    front = closed false s ++ f.0;
    is = e ∙ ap (λ (x : List Piece). closed false s ++ x) f.1 ∙ sym (append_assoc (closed false s) f.0 (kept_next (lacks_pad c && not (is_empty ys)) c (λ t. units t ys)));
    old = flat_map-append old_bytes (closed false s) f.0 ∙ ap (λ (x : List ℕ). x ++ flat_map old_bytes f.0) (closed_old false s) ∙ ap (λ (x : List ℕ). begun_bytes s ++ x) f.2;
  }

  next : (r : Bool) (d : Chunk) (us : List Cell) → ((t : Slot) → Split c t us ys)
      → (front : List Piece) × (kept_next r d (λ t. units t (us ++ (kept c ∷ ys))) ≡ front ++ kept_next (lacks_pad c && not (is_empty ys)) c (λ t. units t ys)) × (flat_map old_bytes front ≡ spell d ++ spell_all (flat_map was us))
  next true d us again = let k = again (begun (d ∷ []) [] []) in (k.front, k.is, k.old ∙ ap (λ (x : List ℕ). x ++ spell_all (flat_map was us)) (append-nil (spell d ++ []) ∙ append-nil (spell d)))
  next false d us again = let k = again shut in (copied d ∷ k.front, ap (λ (x : List Piece). copied d ∷ x) k.is, ap (λ (x : List ℕ). spell d ++ x) k.old)

  pub units_split : (s : Slot) (us : List Cell) → Split c s us ys
  unfolding units
  units_split s [] = add_closed s [] (kept_next (lacks_pad c && not (is_empty ys)) c (λ t. units t ys)) ([], refl, refl) refl
  units_split s (kept d ∷ us) =
      let w = us ++ (kept c ∷ ys) in
      add_closed s (kept d ∷ us) (kept_next (lacks_pad d && not (is_empty w)) d (λ t. units t w)) (next (lacks_pad d && not (is_empty w)) d us (λ t. units_split t us)) refl
  units_split shut (gap d ∷ us) =
      let w = us ++ (kept c ∷ ys) in
      add_closed shut (gap d ∷ us) (kept_next (lacks_pad d && not (is_empty w)) d (λ t. units t w)) (next (lacks_pad d && not (is_empty w)) d us (λ t. units_split t us)) refl
  units_split (begun lead slot now) (gap d ∷ us) =
      let k = units_split (begun lead (slot ++ spell d) now) us in
      record { front = k.front; is = k.is; old = k.old ∙ regroup (spell_all lead) slot (spell d) (spell_all (flat_map was us)) }
    where
      regroup : (a b d e : List ℕ) → (a ++ (b ++ d)) ++ e ≡ (a ++ b) ++ (d ++ e)
      regroup a b d e = simp append_assoc
  units_split shut (edited old new ∷ us) =
      let k = units_split (begun [] (spell_all old) new) us in
      record { front = k.front; is = k.is; old = k.old ∙ sym (spell_all-append old (flat_map was us)) }
  units_split (begun lead slot now) (edited old new ∷ us) =
      let k = units_split (begun lead (slot ++ spell_all old) (now ++ new)) us in
      record { front = k.front; is = k.is; old = k.old ∙ regroup (spell_all lead) slot (spell_all old) (spell_all (flat_map was us)) ∙ ap (λ (x : List ℕ). (spell_all lead ++ slot) ++ x) (sym (spell_all-append old (flat_map was us))) }
    where
      regroup : (a b d e : List ℕ) → (a ++ (b ++ d)) ++ e ≡ (a ++ b) ++ (d ++ e)
      regroup a b d e = simp append_assoc

-- bytes that are the same before and behind a place
pub same_parts : (p q u v : List ℕ) → length p ≡ length q → p ++ u ≡ q ++ v → (p ≡ q) × (u ≡ v)
same_parts p q u v e h = (
  sym (Rattle.std.proofs.lemmas.List.take_at p u (length p) refl) ∙ ap (λ (x : List ℕ). Rattle.std.proofs.Common.take (length p) x) h ∙ take_at q v (length p) (sym e),
  sym (Rattle.std.proofs.lemmas.List.drop_at p u (length p) refl) ∙ ap (λ (x : List ℕ). Rattle.std.proofs.Common.drop (length p) x) h ∙ drop_at q v (length p) (sym e),
)

-- ---- what holds of all pieces holds of those before

pub brings_left : (ps qs : List Piece) → BringsPad (ps ++ qs) → BringsPad ps
brings_left [] qs h = tt
brings_left (copied c ∷ ps) qs h = brings_left ps qs h
brings_left (replaced lead slot now last ∷ ps) qs h = (h.0, brings_left ps qs h.1)

pub brings_right : (ps qs : List Piece) → BringsPad (ps ++ qs) → BringsPad qs
brings_right [] qs h = h
brings_right (copied c ∷ ps) qs h = brings_right ps qs h
brings_right (replaced lead slot now last ∷ ps) qs h = brings_right ps qs h.1

both_none : (ps qs : List Piece) → ps ++ qs ≡ [] → qs ≡ []
both_none [] qs h = h
both_none (p ∷ ps) qs h = absurd cc

-- where others follow, none of them ends the list
pub fit_left : (fill : Fill) (ends : Bool) (ps qs : List Piece) → (qs ≡ [] → ⊥) → LastOnly (ps ++ qs) → AllFit fill ends (ps ++ qs) → AllFit fill false ps
fit_left fill ends [] qs some o h = tt
fit_left fill ends (copied c ∷ ps) qs some o h = fit_left fill ends ps qs some o h
fit_left fill ends (replaced lead slot now last ∷ ps) qs some o h = (((λ e. absurd cc), (λ e. h.0.1 (go last o.0))), fit_left fill ends ps qs some o.1 h.1)
  where
    off : (t : Bool) → (t && false) ≡ false
    off true = refl
    off false = refl

    go : (t : Bool) → (t ≡ true → ps ++ qs ≡ []) → (ends && t) ≡ false
    go true k = absurd (some (both_none ps qs (k refl)))
    go false k = off ends

-- the first piece is there
pub next_some : (s : Slot) (ys : List Cell) → (lead : List Chunk) (slot : List ℕ) (now : List Chunk) → s ≡ begun lead slot now → units s ys ≡ [] → ⊥
unfolding units
next_some s [] lead slot now e h = let q : closed true (begun lead slot now) ≡ [] = ap (closed true) (sym e) ∙ h in absurd cc
next_some s (kept c ∷ ys) lead slot now e h = let q : closed false (begun lead slot now) ++ kept_next (lacks_pad c && not (is_empty ys)) c (λ t. units t ys) ≡ [] = ap (λ (t : Slot). closed false t ++ kept_next (lacks_pad c && not (is_empty ys)) c (λ t. units t ys)) (sym e) ∙ h in absurd cc
next_some s (gap c ∷ ys) lead slot now e h = next_some (begun lead (slot ++ spell c) now) ys lead (slot ++ spell c) now refl (ap (λ (t : Slot). units t (gap c ∷ ys)) (sym e) ∙ h)
next_some s (edited old new ∷ ys) lead slot now e h = next_some (begun lead (slot ++ spell_all old) (now ++ new)) ys lead (slot ++ spell_all old) (now ++ new) refl (ap (λ (t : Slot). units t (edited old new ∷ ys)) (sym e) ∙ h)

pub kept_some : (r : Bool) (c : Chunk) (ys : List Cell) → kept_next r c (λ t. units t ys) ≡ [] → ⊥
kept_some true c ys h = next_some (begun (c ∷ []) [] []) ys (c ∷ []) [] [] refl h
kept_some false c ys h = absurd cc

-- ---- patches

module _ (fill : Fill) where
  pub patches_append : (at : ℕ) (ps qs : List Piece) → unit_patches fill at (ps ++ qs) ≡ unit_patches fill at ps ++ unit_patches fill (at + old_length ps) qs
  patches_append at [] qs = ap (λ (k : ℕ). unit_patches fill k qs) (omega arith)
  patches_append at (copied c ∷ ps) qs =
      patches_append (at + length (spell c)) ps qs
      ∙ ap (λ (k : ℕ). unit_patches fill (at + length (spell c)) ps ++ unit_patches fill k qs) (omega (arith, length-append (spell c) (flat_map old_bytes ps)))
  patches_append at (replaced lead slot now last ∷ ps) qs =
      let here = patch (at + length (spell_all lead)) (unit_patch fill lead slot now last) in
      let next = at + length (spell_all lead ++ slot) in
      ap (λ (x : List Patch). here ++ x) (patches_append next ps qs) ∙ sym (append_assoc here (unit_patches fill next ps) (unit_patches fill (next + old_length ps) qs))
      ∙ ap (λ (k : ℕ). (here ++ unit_patches fill next ps) ++ unit_patches fill k qs) (omega (arith, length-append (spell_all lead ++ slot) (flat_map old_bytes ps)))

  abbrev pub From : ℕ → List Patch → Type 0
  From low ps = AllByRecursion (λ (p : Patch). low ≤ p.at) ps

  one_from : (low at : ℕ) (b : List ℕ) (ps : List Patch) → low ≤ at → From low ps → From low (patch at b ++ ps)
  one_from low at [] ps le h = h
  one_from low at (x ∷ b) ps le h = (le, h)

  pieces_from : (low at : ℕ) (ps : List Piece) → low ≤ at → From low (unit_patches fill at ps)
  pieces_from low at [] le = tt
  pieces_from low at (copied c ∷ ps) le = pieces_from low (at + length (spell c)) ps (omega (arith, le))
  pieces_from low at (replaced lead slot now last ∷ ps) le =
      one_from low (at + length (spell_all lead)) (unit_patch fill lead slot now last) (unit_patches fill (at + length (spell_all lead ++ slot)) ps) (omega (arith, le)) (pieces_from low (at + length (spell_all lead ++ slot)) ps (omega (arith, le)))

  begun_from : (at : ℕ) (lead : List Chunk) (slot : List ℕ) (now : List Chunk) (ys : List Cell) → From (at + length (spell_all lead)) (unit_patches fill at (units (begun lead slot now) ys))
  unfolding units
  begun_from at lead slot now [] = one_from (at + length (spell_all lead)) (at + length (spell_all lead)) (unit_patch fill lead slot now true) [] (omega arith) tt
  begun_from at lead slot now (kept c ∷ ys) =
      let more = kept_next (lacks_pad c && not (is_empty ys)) c (λ t. units t ys) in
      one_from (at + length (spell_all lead)) (at + length (spell_all lead)) (unit_patch fill lead slot now false) (unit_patches fill (at + length (spell_all lead ++ slot)) more) (omega arith)
      (pieces_from (at + length (spell_all lead)) (at + length (spell_all lead ++ slot)) more (omega (arith, length-append (spell_all lead) slot)))
  begun_from at lead slot now (gap c ∷ ys) = begun_from at lead (slot ++ spell c) now ys
  begun_from at lead slot now (edited old new ∷ ys) = begun_from at lead (slot ++ spell_all old) (now ++ new) ys

  -- those from a chunk that is kept on stand behind it
  pub kept_from : (at : ℕ) (r : Bool) (c : Chunk) (ys : List Cell) → From (at + length (spell c)) (unit_patches fill at (kept_next r c (λ t. units t ys)))
  kept_from at true c ys = subst (λ (k : ℕ). From k (unit_patches fill at (units (begun (c ∷ []) [] []) ys))) (omega (arith, ap length (append-nil (spell c)))) (begun_from at (c ∷ []) [] [] ys)
  kept_from at false c ys = pieces_from (at + length (spell c)) (at + length (spell c)) (units shut ys) (omega arith)

  -- and the new bytes hold it
  held : (lead : List Chunk) (slot : List ℕ) (now : List Chunk) (last : Bool) (ps : List Piece) → spell_all (map padded lead) ≡ spell_all lead ++ lead_pad lead → length (spell_all lead) ≤ length (spell_all (lay fill (replaced lead slot now last ∷ ps)))
  held lead slot now last ps e =
      let f = fill last slot (length (unit_bytes lead now)) in
      omega (
        arith,
        ap length e,
        length-append (spell_all lead) (lead_pad lead),
        ap length (spell_all-append (map padded lead ++ (now ++ f)) (lay fill ps)),
        ap length (spell_all-append (map padded lead) (now ++ f)),
        length-append (spell_all (map padded lead ++ (now ++ f))) (spell_all (lay fill ps)),
        length-append (spell_all (map padded lead)) (spell_all (now ++ f)),
      )

  lead_stays : (lead : List Chunk) (slot : List ℕ) (now : List Chunk) (ys : List Cell) → BringsPad (units (begun lead slot now) ys) → length (spell_all lead) ≤ length (spell_all (lay fill (units (begun lead slot now) ys)))
  unfolding units
  lead_stays lead slot now [] b = held lead slot now true [] b.0
  lead_stays lead slot now (kept c ∷ ys) b = held lead slot now false (kept_next (lacks_pad c && not (is_empty ys)) c (λ t. units t ys)) b.0
  lead_stays lead slot now (gap c ∷ ys) b = lead_stays lead (slot ++ spell c) now ys b
  lead_stays lead slot now (edited old new ∷ ys) b = lead_stays lead (slot ++ spell_all old) (now ++ new) ys b

  pub kept_long : (r : Bool) (c : Chunk) (ys : List Cell) → BringsPad (kept_next r c (λ t. units t ys)) → length (spell c) ≤ length (spell_all (lay fill (kept_next r c (λ t. units t ys))))
  kept_long true c ys b = omega (arith, lead_stays (c ∷ []) [] [] ys b, ap length (append-nil (spell c)))
  kept_long false c ys b = omega (arith, length-append (spell c) (spell_all (lay fill (units shut ys))))

-- ---- patches put among others

pub order_tail : (new from : ℕ) (a b : List Patch) → InOrder new from (a ++ b) → InOrder new 0 b
order_tail new from [] b h = order_low new 0 from b (omega arith) h
order_tail new from (p ∷ a) b h = order_tail new (Rattle.part_tree.specs.Patches.end_of p) a b h.1

pub order_from : (new from low : ℕ) (ps : List Patch) → AllByRecursion (λ (p : Patch). low ≤ p.at) ps → InOrder new from ps → InOrder new low ps
order_from new from low [] h o = tt
order_from new from low (p ∷ ps) h o = (record { some = o.0.some; after = h.0; inside = o.0.inside }, o.1)

-- behind those that stand before it, and before those that stand behind it
put_one : (p : Patch) (xs ys : List Patch) → AllByRecursion (λ (q : Patch). q.at < p.at) xs → AllByRecursion (λ (q : Patch). p.at ≤ q.at) ys → put_patch p (xs ++ ys) ≡ xs ++ (p ∷ ys)
put_one p [] [] h k = refl
put_one p [] (y ∷ ys) h k = ap (λ (t : Bool). cond t (y ∷ put_patch p ys) (p ∷ (y ∷ ys))) (Rattle.std.proofs.lemmas.Bool.le-ltb y.at p.at k.0)
put_one p (x ∷ xs) ys h k = ap (λ (t : Bool). cond t (x ∷ put_patch p (xs ++ ys)) (p ∷ (x ∷ (xs ++ ys)))) (Rattle.std.proofs.lemmas.Bool.lt-ltb x.at p.at h.0) ∙ ap (λ (z : List Patch). x ∷ z) (put_one p xs ys h.1 k)

later : (new from : ℕ) (ps : List Patch) → InOrder new from ps → AllByRecursion (λ (p : Patch). from ≤ p.at) ps
later new from [] o = tt
later new from (p ∷ ps) o = (o.0.after, up ps (later new (Rattle.part_tree.specs.Patches.end_of p) ps o.1))
  where
    up : (qs : List Patch) → AllByRecursion (λ (q : Patch). p.at + length p.bytes ≤ q.at) qs → AllByRecursion (λ (q : Patch). from ≤ q.at) qs
    up [] h = tt
    up (q ∷ qs) h = (omega (arith, h.0, o.0.after), up qs h.1)

earlier : (new from : ℕ) (ps : List Patch) → InOrder new from ps → AllByRecursion (λ (p : Patch). p.at < new) ps
earlier new from [] o = tt
earlier new from (p ∷ ps) o = (omega (arith, o.0.some, o.0.inside), earlier new (Rattle.part_tree.specs.Patches.end_of p) ps o.1)

pub put_between : (low mid high : ℕ) (us ns vs : List Patch) → InOrder mid low us → InOrder high mid ns → AllByRecursion (λ (p : Patch). high ≤ p.at) vs → put_patches ns (us ++ vs) ≡ us ++ (ns ++ vs)
put_between low mid high us ns vs u n v = go ns mid (omega arith) n
  where
    below : (p : Patch) → mid ≤ p.at → (qs : List Patch) → AllByRecursion (λ (q : Patch). q.at < mid) qs → AllByRecursion (λ (q : Patch). q.at < p.at) qs
    below p le [] h = tt
    below p le (q ∷ qs) h = (omega (arith, h.0, le), below p le qs h.1)

    above : (p : Patch) → p.at < high → (qs : List Patch) → AllByRecursion (λ (q : Patch). high ≤ q.at) qs → AllByRecursion (λ (q : Patch). p.at ≤ q.at) qs
    above p lt [] h = tt
    above p lt (q ∷ qs) h = (omega (arith, h.0, lt), above p lt qs h.1)

    rest : (p : Patch) (qs : List Patch) → AllByRecursion (λ (q : Patch). p.at + length p.bytes ≤ q.at) qs → AllByRecursion (λ (q : Patch). p.at ≤ q.at) vs → AllByRecursion (λ (q : Patch). p.at ≤ q.at) (qs ++ vs)
    rest p [] h k = k
    rest p (q ∷ qs) h k = (omega (arith, h.0), rest p qs h.1 k)

    go : (ps : List Patch) (from : ℕ) → mid ≤ from → InOrder high from ps → put_patches ps (us ++ vs) ≡ us ++ (ps ++ vs)
    go [] from le o = refl
    go (p ∷ ps) from le o =
        ap (put_patch p) (go ps (Rattle.part_tree.specs.Patches.end_of p) (omega (arith, le, o.0.after)) o.1)
        ∙ put_one p us (ps ++ vs) (below p (omega (arith, le, o.0.after)) us (earlier mid low us u))
        (rest p ps (later high (Rattle.part_tree.specs.Patches.end_of p) ps o.1) (above p (omega (arith, o.0.some, o.0.inside)) vs v))

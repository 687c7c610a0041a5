-- Patches of a range, one after the other: they make bytes of the same length, or others where the range ends the file.
use Rattle.std.proofs.Common.{◌≡◌, ℕ, ◌+◌, ◌<◌, ◌≤◌, Bool, true, false, List, [], ◌∷◌, ◌++◌, length, map, take, drop, refl, sym, ap, subst, ◌∙◌, append_assoc, arith, inl, inr}
use Rattle.std.specs.Prelude.{◌⊎◌, ◌&&◌}
use Rattle.std.specs.List.{flat_map}
use Rattle.std.proofs.lemmas.Bool.{and_parts, cases_lt}
use Rattle.std.proofs.lemmas.List.{append-nil, drop-append-le, drop_at, length-append}
use Rattle.part_tree.specs.declared.plan.Patch.{Patch}
use Rattle.part_tree.specs.Patches.{InOrder, Touches, patched}
use Rattle.container_model.specs.Chunk.{Chunk, spell, spell_all}
use Rattle.container_model.specs.Units.{Piece, copied, replaced, Fill, lay, old_bytes, padded, unit_bytes}
use Rattle.container_model.proofs.Units.{BringsPad, spell_all-append}
use Rattle.carrier_model.specs.Room.{patch, unit_patch, unit_patches}
use Rattle.carrier_model.proofs.Fitted.{AllFit, Fits, LastOnly, piece_is}
use Rattle.carrier_model.proofs.Patches.{laid_behind, order_low, order_patch, patched-append, patched_one, touches_behind, touches_patch}

-- patches of a range lie in it, in order
abbrev pub InRange : ℕ → ℕ → List Patch → Type 0
InRange at n ps = (new from : ℕ) (qs : List Patch) → from ≤ at → at + n ≤ new → InOrder new (at + n) qs → InOrder new from (ps ++ qs)

-- Bytes that stand at a place become others of the same length.
pub record Exactly (at : ℕ) (x y : List ℕ) (ps : List Patch) : Type 0 where
  pub long : length y ≡ length x
  pub makes : (front rest : List ℕ) → length front ≡ at → patched ps (front ++ (x ++ rest)) ≡ front ++ (y ++ rest)
  pub order : InRange at (length y) ps

-- Bytes that end the file become others; what is left behind them is cut off.
pub record Lastly (at : ℕ) (x y : List ℕ) (ps : List Patch) : Type 0 where
  pub makes : (front rest : List ℕ) → length front ≡ at → (more : List ℕ) × (patched ps (front ++ (x ++ rest)) ≡ (front ++ y) ++ more)
  pub order : InRange at (length y) ps
  pub cover : (q : ℕ) → at + length x ≤ q → q < at + length y → Touches q ps

-- ---- ranges that follow each other

pub stays : (at : ℕ) (x : List ℕ) → Exactly at x x []
stays at x = record { long = refl; makes = λ front rest e. refl; order = λ new from qs le inside o. order_low new from (at + length x) qs (omega arith) o }

in_turn : (at n k : ℕ) (ps qs : List Patch) → InRange at n ps → InRange (at + n) k qs → InRange at (n + k) (ps ++ qs)
in_turn at n k ps qs p q new from rs le inside o =
    let end : (at + n) + k ≡ at + (n + k) = omega arith in
    subst (InOrder new from) (sym (append_assoc ps qs rs)) (p new from (qs ++ rs) le (omega arith) (q new (at + n) rs (omega arith) (omega arith) (subst (λ (m : ℕ). InOrder new m rs) (sym end) o)))

at_length : (at : ℕ) (y v : List ℕ) (ps : List Patch) → InRange at (length y + length v) ps → InRange at (length (y ++ v)) ps
at_length at y v ps r = subst (λ (n : ℕ). InRange at n ps) (sym (length-append y v)) r

split : (front x u rest : List ℕ) → front ++ ((x ++ u) ++ rest) ≡ front ++ (x ++ (u ++ rest))
split front x u rest = ap (λ (z : List ℕ). front ++ z) (append_assoc x u rest)

pub both : (at : ℕ) (x y u v : List ℕ) (ps qs : List Patch) → Exactly at x y ps → Exactly (at + length x) u v qs → Exactly at (x ++ u) (y ++ v) (ps ++ qs)
both at x y u v ps qs p q =
    let place : at + length x ≡ at + length y = omega (arith, p.long) in
    record {
      long = omega (arith, p.long, q.long, length-append x u, length-append y v);
      makes = λ front rest e.
          patched-append ps qs (front ++ ((x ++ u) ++ rest)) ∙ ap (λ (z : List ℕ). patched qs (patched ps z)) (split front x u rest) ∙ ap (patched qs) (p.makes front (u ++ rest) e ∙ sym (append_assoc front y (u ++ rest)))
          ∙ q.makes (front ++ y) rest (omega (arith, e, p.long, length-append front y)) ∙ append_assoc front y (v ++ rest) ∙ sym (split front y v rest);
      order = at_length at y v (ps ++ qs) (in_turn at (length y) (length v) ps qs p.order (subst (λ (k : ℕ). InRange k (length v) qs) place q.order));
    }

pub then_last : (at : ℕ) (x y u v : List ℕ) (ps qs : List Patch) → Exactly at x y ps → Lastly (at + length x) u v qs → Lastly at (x ++ u) (y ++ v) (ps ++ qs)
then_last at x y u v ps qs p q =
    let place : at + length x ≡ at + length y = omega (arith, p.long) in
    record {
      makes = λ front rest e.
          let m = q.makes (front ++ y) rest (omega (arith, e, p.long, length-append front y)) in (
            m.0,
            patched-append ps qs (front ++ ((x ++ u) ++ rest)) ∙ ap (λ (z : List ℕ). patched qs (patched ps z)) (split front x u rest) ∙ ap (patched qs) (p.makes front (u ++ rest) e ∙ sym (append_assoc front y (u ++ rest)))
                ∙ m.1 ∙ ap (λ (z : List ℕ). z ++ m.0) (append_assoc front y v),
          );
      order = at_length at y v (ps ++ qs) (in_turn at (length y) (length v) ps qs p.order (subst (λ (k : ℕ). InRange k (length v) qs) place q.order));
      cover = λ c low high. touches_behind c ps qs (q.cover c (omega (arith, low, length-append x u)) (omega (arith, high, p.long, length-append y v)));
    }

pub touches_before : (q : ℕ) (a b : List Patch) → Touches q a → Touches q (a ++ b)
touches_before q [] b h = absurd h
touches_before q (p ∷ a) b (inl h) = inl h
touches_before q (p ∷ a) b (inr h) = inr (touches_before q a b h)

-- new bytes behind those that ended the file
pub after_last : (at : ℕ) (x y v : List ℕ) (ps qs : List Patch) → Lastly at x y ps → Lastly (at + length y) [] v qs → Lastly at x (y ++ v) (ps ++ qs)
after_last at x y v ps qs p q = record {
  makes = λ front rest e.
      let m = p.makes front rest e in
      let k = q.makes (front ++ y) m.0 (omega (arith, e, length-append front y)) in
      (k.0, patched-append ps qs (front ++ (x ++ rest)) ∙ ap (patched qs) m.1 ∙ k.1 ∙ ap (λ (z : List ℕ). z ++ k.0) (append_assoc front y v));
  order = at_length at y v (ps ++ qs) (in_turn at (length y) (length v) ps qs p.order q.order);
  cover = λ c low high. go c low high (cases_lt c (at + length y));
}
  where
    go : (c : ℕ) → at + length x ≤ c → c < at + length (y ++ v) → (c < at + length y) ⊎ (at + length y ≤ c) → Touches c (ps ++ qs)
    go c low high (inl lt) = touches_before c ps qs (p.cover c low lt)
    go c low high (inr le) = touches_behind c ps qs (q.cover c (omega (arith, le)) (omega (arith, high, length-append y v)))

pub weaker : (at : ℕ) (x y : List ℕ) (ps : List Patch) → Exactly at x y ps → Lastly at x y ps
weaker at x y ps p = record {
  makes = λ front rest e. (rest, p.makes front rest e ∙ sym (append_assoc front y rest));
  order = p.order;
  cover = λ q low high. absurd (omega (arith, low, high, p.long));
}

-- at another place, of other bytes, by other patches, that are the same
pub told : (at to : ℕ) (x y u v : List ℕ) (ps : List Patch) → at ≡ to → u ≡ x → v ≡ y → Exactly at x y ps → Exactly to u v ps
told at to x y u v ps e f g s = subst (λ (k : ℕ). Exactly k u v ps) e (subst (λ (z : List ℕ). Exactly at z v ps) (sym f) (subst (λ (z : List ℕ). Exactly at x z ps) (sym g) s))

pub last_told : (at to : ℕ) (x y u v : List ℕ) (ps : List Patch) → at ≡ to → u ≡ x → v ≡ y → Lastly at x y ps → Lastly to u v ps
last_told at to x y u v ps e f g s = subst (λ (k : ℕ). Lastly k u v ps) e (subst (λ (z : List ℕ). Lastly at z v ps) (sym f) (subst (λ (z : List ℕ). Lastly at x z ps) (sym g) s))

-- ---- one patch

pub put : (at : ℕ) (x y : List ℕ) → length y ≡ length x → Exactly at x y (patch at y)
put at x y e = record {
  long = e;
  makes = λ front rest f. patched_one at y (front ++ (x ++ rest)) ∙ laid_behind at front y (x ++ rest) f ∙ ap (λ (z : List ℕ). front ++ (y ++ z)) (drop_at x rest (length y) (sym e));
  order = λ new from qs le inside o. order_patch new from at y qs le inside o;
}

-- a unit with its padding
pub put_unit : (at : ℕ) (slot u p : List ℕ) → Fits slot u p → Exactly at slot (u ++ p) (patch at (u ++ take 8 p))
put_unit at slot u p fit =
    let w = u ++ take 8 p in
    record {
      long = fit.fills;
      makes = λ front rest f.
          patched_one at w (front ++ (slot ++ rest)) ∙ laid_behind at front w (slot ++ rest) f ∙ ap (λ (z : List ℕ). front ++ (w ++ z)) (drop-append-le (length w) slot rest fit.room_is)
          ∙ ap (λ (z : List ℕ). front ++ z) (regroup u (take 8 p) (drop (length w) slot) rest ∙ ap (λ (z : List ℕ). (u ++ z) ++ rest) fit.stays);
      order = λ new from qs le inside o. order_patch new from at w qs le (omega (arith, inside, fit.fills, fit.room_is)) (order_low new (at + length w) (at + length (u ++ p)) qs (omega (arith, fit.fills, fit.room_is)) o);
    }
  where
    regroup : (a b c d : List ℕ) → (a ++ b) ++ (c ++ d) ≡ (a ++ (b ++ c)) ++ d
    regroup a b c d = simp append_assoc

-- a unit that ends the file
pub put_last : (at : ℕ) (slot u : List ℕ) → Lastly at slot u (patch at u)
put_last at slot u = record {
  makes = λ front rest f.
      (drop (length u) (slot ++ rest), patched_one at u (front ++ (slot ++ rest)) ∙ laid_behind at front u (slot ++ rest) f ∙ sym (append_assoc front u (drop (length u) (slot ++ rest))));
  order = λ new from qs le inside o. order_patch new from at u qs le inside o;
  cover = λ q low high. subst (Touches q) (append-nil (patch at u)) (touches_patch q at u [] (omega (arith, low)) high);
}

-- ---- units

module _ (fill : Fill) (ends : Bool) where
  -- one unit, where it fits its slot
  one_unit : (at : ℕ) (lead : List Chunk) (slot : List ℕ) (now : List Chunk) (last : Bool) → spell_all (map padded lead) ≡ spell_all lead ++ Rattle.container_model.specs.Units.lead_pad lead
      → Fits slot (unit_bytes lead now) (spell_all (fill last slot (length (unit_bytes lead now))))
      → Exactly at (spell_all lead ++ slot) (spell_all (map padded lead ++ (now ++ fill last slot (length (unit_bytes lead now))))) (patch (at + length (spell_all lead)) (unit_patch fill lead slot now last))
  one_unit at lead slot now last h fit =
      let u = unit_bytes lead now in
      let f = fill last slot (length u) in
      told at at (spell_all lead ++ slot) (spell_all lead ++ (u ++ spell_all f)) (spell_all lead ++ slot) (spell_all (map padded lead ++ (now ++ f))) (patch (at + length (spell_all lead)) (unit_patch fill lead slot now last)) refl refl (piece_is lead slot now f h)
      (both at (spell_all lead) (spell_all lead) slot (u ++ spell_all f) [] (patch (at + length (spell_all lead)) (unit_patch fill lead slot now last)) (stays at (spell_all lead)) (put_unit (at + length (spell_all lead)) slot u (spell_all f) fit))

  -- Units that fit their slots.
  pub units_exactly : (at : ℕ) (ps : List Piece) → ends ≡ false → BringsPad ps → AllFit fill ends ps → Exactly at (flat_map old_bytes ps) (spell_all (lay fill ps)) (unit_patches fill at ps)
  units_exactly at [] n b h = stays at []
  units_exactly at (copied c ∷ ps) n b h =
      both at (spell c) (spell c) (flat_map old_bytes ps) (spell_all (lay fill ps)) [] (unit_patches fill (at + length (spell c)) ps) (stays at (spell c)) (units_exactly (at + length (spell c)) ps n b h)
  units_exactly at (replaced lead slot now last ∷ ps) n b h =
      let f = fill last slot (length (unit_bytes lead now)) in
      let next = at + length (spell_all lead ++ slot) in
      let one = one_unit at lead slot now last b.0 (h.0.1 (ap (λ (t : Bool). t && last) n)) in
      told at at ((spell_all lead ++ slot) ++ flat_map old_bytes ps) (spell_all (map padded lead ++ (now ++ f)) ++ spell_all (lay fill ps)) ((spell_all lead ++ slot) ++ flat_map old_bytes ps) (spell_all (lay fill (replaced lead slot now last ∷ ps))) (patch (at + length (spell_all lead)) (unit_patch fill lead slot now last) ++ unit_patches fill next ps)
      refl refl (spell_all-append (map padded lead ++ (now ++ f)) (lay fill ps))
      (both at (spell_all lead ++ slot) (spell_all (map padded lead ++ (now ++ f))) (flat_map old_bytes ps) (spell_all (lay fill ps)) (patch (at + length (spell_all lead)) (unit_patch fill lead slot now last)) (unit_patches fill next ps) one (units_exactly next ps n b.1 h.1))

  -- Units of which the last one can end the file.
  pub units_lastly : (at : ℕ) (ps : List Piece) → LastOnly ps → BringsPad ps → AllFit fill ends ps → Lastly at (flat_map old_bytes ps) (spell_all (lay fill ps)) (unit_patches fill at ps)
  units_lastly at [] o b h = weaker at [] [] [] (stays at [])
  units_lastly at (copied c ∷ ps) o b h =
      then_last at (spell c) (spell c) (flat_map old_bytes ps) (spell_all (lay fill ps)) [] (unit_patches fill (at + length (spell c)) ps) (stays at (spell c)) (units_lastly (at + length (spell c)) ps o b h)
  units_lastly at (replaced lead slot now last ∷ ps) o b h = go (ends && last) refl (units_lastly (at + length (spell_all lead ++ slot)) ps o.1 b.1 h.1)
    where
      u : List ℕ
      u = unit_bytes lead now

      f : List Chunk
      f = fill last slot (length (unit_bytes lead now))

      next : ℕ
      next = at + length (spell_all lead ++ slot)

      here : List Patch
      here = patch (at + length (spell_all lead)) (unit_patch fill lead slot now last)

      go : (t : Bool) → (ends && last) ≡ t → Lastly (at + length (spell_all lead ++ slot)) (flat_map old_bytes ps) (spell_all (lay fill ps)) (unit_patches fill (at + length (spell_all lead ++ slot)) ps)
          → Lastly at ((spell_all lead ++ slot) ++ flat_map old_bytes ps) (spell_all (lay fill (replaced lead slot now last ∷ ps))) (patch (at + length (spell_all lead)) (unit_patch fill lead slot now last) ++ unit_patches fill (at + length (spell_all lead ++ slot)) ps)
      go false t more =
          last_told at at ((spell_all lead ++ slot) ++ flat_map old_bytes ps) (spell_all (map padded lead ++ (now ++ f)) ++ spell_all (lay fill ps)) ((spell_all lead ++ slot) ++ flat_map old_bytes ps) (spell_all (lay fill (replaced lead slot now last ∷ ps))) (here ++ unit_patches fill next ps) refl refl (spell_all-append (map padded lead ++ (now ++ f)) (lay fill ps))
          (then_last at (spell_all lead ++ slot) (spell_all (map padded lead ++ (now ++ f))) (flat_map old_bytes ps) (spell_all (lay fill ps)) here (unit_patches fill next ps) (one_unit at lead slot now last b.0 (h.0.1 t)) more)
      go true t more =
          let nil : ps ≡ [] = o.0 (and_parts ends last t).1 in
          let none : f ≡ [] = h.0.0 t in
          let w_is : unit_patch fill lead slot now last ≡ u = ap (λ (g : List Chunk). u ++ take 8 (spell_all g)) none ∙ append-nil u in
          let old : (spell_all lead ++ slot) ++ flat_map old_bytes ps ≡ spell_all lead ++ slot = ap (λ (z : List Piece). (spell_all lead ++ slot) ++ flat_map old_bytes z) nil ∙ append-nil (spell_all lead ++ slot) in
          let new : spell_all (lay fill (replaced lead slot now last ∷ ps)) ≡ spell_all lead ++ u
          = spell_all-append (map padded lead ++ (now ++ f)) (lay fill ps) ∙ ap (λ (z : List ℕ). z ++ spell_all (lay fill ps)) (piece_is lead slot now f b.0) ∙ ap (λ (z : List Piece). (spell_all lead ++ (u ++ spell_all f)) ++ spell_all (lay fill z)) nil
          ∙ append-nil (spell_all lead ++ (u ++ spell_all f)) ∙ ap (λ (g : List Chunk). spell_all lead ++ (u ++ spell_all g)) none ∙ ap (λ (z : List ℕ). spell_all lead ++ z) (append-nil u) in
          let one : Lastly at (spell_all lead ++ slot) (spell_all lead ++ u) (patch (at + length (spell_all lead)) u)
          = then_last at (spell_all lead) (spell_all lead) slot u [] (patch (at + length (spell_all lead)) u) (stays at (spell_all lead)) (put_last (at + length (spell_all lead)) slot u) in
          let same : here ++ unit_patches fill next ps ≡ patch (at + length (spell_all lead)) u
          = ap (λ (z : List Piece). here ++ unit_patches fill next z) nil ∙ append-nil here ∙ ap (patch (at + length (spell_all lead))) w_is in
          subst (Lastly at ((spell_all lead ++ slot) ++ flat_map old_bytes ps) (spell_all (lay fill (replaced lead slot now last ∷ ps)))) (sym same)
          (last_told at at (spell_all lead ++ slot) (spell_all lead ++ u) ((spell_all lead ++ slot) ++ flat_map old_bytes ps) (spell_all (lay fill (replaced lead slot now last ∷ ps))) (patch (at + length (spell_all lead)) u) refl old new one)

-- Where every unit fits its slot, whatever its padding is: no place moves, and the units' patches make the new chunks.
use Rattle.std.proofs.Common.{◌≡◌, ℕ, ◌+◌, ◌<◌, ◌≤◌, Bool, true, false, leb, List, [], ◌∷◌, ◌++◌, length, map, take, drop, refl, sym, ap, subst, ◌∙◌, append_assoc, arith, inl, inr}
use Rattle.std.specs.Prelude.{◌⊎◌, ◌&&◌, not}
use Rattle.std.specs.List.{flat_map}
use Rattle.std.proofs.lemmas.Bool.{and_parts, cases_lt, lt-leb}
use Rattle.std.proofs.lemmas.List.{append-nil, drop-append-le, length-append}
use Rattle.me_bytes.specs.Bytes.{overlay}
use Rattle.part_tree.specs.declared.plan.Patch.{Patch}
use Rattle.part_tree.specs.Patches.{InOrder, Touches, patched}
use Rattle.container_model.specs.Chunk.{Chunk, spell, spell_all}
use Rattle.container_model.specs.Splice.{Cut, end_of, gained, lost}
use Rattle.container_model.specs.Units.{Cell, kept, gap, edited, Piece, copied, replaced, Slot, shut, begun, is_empty, lacks_pad, closed, kept_next, padded, units, old_bytes, lead_pad, unit_bytes, Fill, lay, cut_of, cuts}
use Rattle.container_model.proofs.Places.{old_length}
use Rattle.container_model.proofs.Splice.{before_lost}
use Rattle.container_model.proofs.Units.{BringsPad, spell_all-append}
use Rattle.carrier_model.specs.Room.{patch, unit_patch, unit_patches}
use Rattle.carrier_model.proofs.Patches.{patched-append, patched_one, laid_behind, order_patch, touches_behind, touches_patch}

-- A unit with a spelling and a padding fits a slot: the two fill it, and the padding's body is the last bytes of the slot.
pub record Fits (slot u p : List ℕ) : Type 0 where
  pub room_is : length (u ++ take 8 p) ≤ length slot
  pub stays : take 8 p ++ drop (length (u ++ take 8 p)) slot ≡ p
  pub fills : length (u ++ p) ≡ length slot

-- ---- the last unit alone can end the list

abbrev pub LastOnly : List Piece → Type 0
LastOnly [] = Unit {0}
LastOnly (copied c ∷ ps) = LastOnly ps
LastOnly (replaced lead slot now last ∷ ps) = (last ≡ true → ps ≡ []) × LastOnly ps

last_closed : (s : Slot) (ps : List Piece) → LastOnly ps → LastOnly (closed false s ++ ps)
last_closed shut ps h = h
last_closed (begun lead slot now) ps h = ((λ e. absurd cc), h)

last_kept : (r : Bool) (c : Chunk) (more : Slot → List Piece) → ((t : Slot) → LastOnly (more t)) → LastOnly (kept_next r c more)
last_kept true c more h = h (begun (c ∷ []) [] [])
last_kept false c more h = h shut

pub last_units : (s : Slot) (xs : List Cell) → LastOnly (units s xs)
unfolding units
last_units shut [] = tt
last_units (begun lead slot now) [] = ((λ e. refl), tt)
last_units s (kept c ∷ xs) = last_closed s (kept_next (lacks_pad c && not (is_empty xs)) c (λ t. units t xs)) (last_kept (lacks_pad c && not (is_empty xs)) c (λ t. units t xs) (λ t. last_units t xs))
last_units shut (gap c ∷ xs) = last_kept (lacks_pad c && not (is_empty xs)) c (λ t. units t xs) (λ t. last_units t xs)
last_units (begun lead slot now) (gap c ∷ xs) = last_units (begun lead (slot ++ spell c) now) xs
last_units shut (edited old new ∷ xs) = last_units (begun [] (spell_all old) new) xs
last_units (begun lead slot now) (edited old new ∷ xs) = last_units (begun lead (slot ++ spell_all old) (now ++ new)) xs

-- ---- one unit

pub piece_is : (lead : List Chunk) (slot : List ℕ) (now f : List Chunk) → spell_all (map padded lead) ≡ spell_all lead ++ lead_pad lead
    → spell_all (map padded lead ++ (now ++ f)) ≡ spell_all lead ++ (unit_bytes lead now ++ spell_all f)
piece_is lead slot now f h =
    spell_all-append (map padded lead) (now ++ f) ∙ ap (λ (z : List ℕ). z ++ spell_all (now ++ f)) h ∙ ap (λ (z : List ℕ). (spell_all lead ++ lead_pad lead) ++ z) (spell_all-append now f)
    ∙ regroup (spell_all lead) (lead_pad lead) (spell_all now) (spell_all f)
  where
    regroup : (a b c d : List ℕ) → (a ++ b) ++ (c ++ d) ≡ a ++ ((b ++ c) ++ d)
    regroup a b c d = simp append_assoc

-- a span that isn't passed yet is nothing to a place
pub cut_open : (c : Cut) (cs : List Cut) (p : ℕ) → p < end_of c → (gained (c ∷ cs) p ≡ 0) × (lost (c ∷ cs) p ≡ 0)
cut_open c cs p lt = let t : leb (end_of c) p ≡ false = lt-leb _ _ lt in (rw (t, gained) refl, rw (t, lost) refl)

-- ---- all units

module _ (fill : Fill) (ends : Bool) where
  -- the unit that ends the file has no padding, and each other one fits its slot
  abbrev pub AllFit : List Piece → Type 0
  AllFit [] = Unit {0}
  AllFit (copied c ∷ ps) = AllFit ps
  AllFit (replaced lead slot now last ∷ ps) =
      (((ends && last) ≡ true → fill last slot (length (unit_bytes lead now)) ≡ []) × ((ends && last) ≡ false → Fits slot (unit_bytes lead now) (spell_all (fill last slot (length (unit_bytes lead now)))))) × AllFit ps

  -- no place before the end of the slots moves
  pub same_gained : (at : ℕ) (ps : List Piece) (p : ℕ) → LastOnly ps → AllFit ps → (ends ≡ true → p < at + old_length ps) → gained (cuts fill at ps) p ≡ lost (cuts fill at ps) p
  same_gained at [] p l h low = refl
  same_gained at (copied c ∷ ps) p l h low = same_gained (at + length (spell c)) ps p l h (λ e. omega (arith, low e, length-append (spell c) (flat_map old_bytes ps)))
  same_gained at (replaced lead slot now last ∷ ps) p l h low =
      go (ends && last) refl (cases_lt p (end_of c)) (same_gained next ps p l.1 h.1 (λ x. omega (arith, low x, length-append (spell_all lead ++ slot) (flat_map old_bytes ps))))
    where
      c : Cut
      c = cut_of fill at lead slot now last

      next : ℕ
      next = at + length (spell_all lead ++ slot)

      go : (t : Bool) → (ends && last) ≡ t → (p < end_of c) ⊎ (end_of c ≤ p) → gained (cuts fill next ps) p ≡ lost (cuts fill next ps) p → gained (c ∷ cuts fill next ps) p ≡ lost (c ∷ cuts fill next ps) p
      go t e (inl lt) again = let r = cut_open c (cuts fill next ps) p lt in r.0 ∙ sym r.1
      go true e (inr le) again =
          let q = and_parts ends last e in
          let nil : ps ≡ [] = l.0 q.1 in
          let old : old_length (replaced lead slot now last ∷ ps) ≡ length (spell_all lead ++ slot) + old_length ps = length-append (spell_all lead ++ slot) (flat_map old_bytes ps) in
          let none : old_length ps ≡ 0 = ap old_length nil in
          absurd (omega (arith, low q.0, old, none, le, length-append (spell_all lead) slot))
      go false e (inr le) again =
          let fit = h.0.1 e in
          let r = before_lost c (cuts fill next ps) p le in
          omega (arith, r.0, r.1, again, fit.fills)

  -- a list that ends no file keeps its length
  pub fitting_length : ends ≡ false → (ps : List Piece) → BringsPad ps → AllFit ps → length (spell_all (lay fill ps)) ≡ length (flat_map old_bytes ps)
  fitting_length n [] b h = refl
  fitting_length n (copied c ∷ ps) b h = omega (arith, fitting_length n ps b h, length-append (spell c) (spell_all (lay fill ps)), length-append (spell c) (flat_map old_bytes ps))
  fitting_length n (replaced lead slot now last ∷ ps) b h =
      let f = fill last slot (length (unit_bytes lead now)) in
      let fit = h.0.1 (ap (λ (t : Bool). t && last) n) in
      let new = piece_is lead slot now f b.0 in
      ap length (spell_all-append (map padded lead ++ (now ++ f)) (lay fill ps))
      ∙ omega (arith, fitting_length n ps b.1 h.1, fit.fills, ap length new, length-append (spell_all (map padded lead ++ (now ++ f))) (spell_all (lay fill ps)), length-append (spell_all lead) (unit_bytes lead now ++ spell_all f), length-append (spell_all lead ++ slot) (flat_map old_bytes ps), length-append (spell_all lead) slot)

  -- The patches of the units make the new chunks; bytes may be left behind them where the last slot ends the file.
  pub units_patched : (at : ℕ) (x : List ℕ) (ps : List Piece) (r : List ℕ) → length x ≡ at → LastOnly ps → BringsPad ps → AllFit ps → (ends ≡ true → r ≡ [])
      → (m : List ℕ) × (patched (unit_patches fill at ps) (x ++ (flat_map old_bytes ps ++ r)) ≡ (x ++ (spell_all (lay fill ps) ++ r)) ++ m)
  units_patched at x [] r e l b h n = ([], sym (append-nil (x ++ r)))
  units_patched at x (copied c ∷ ps) r e l b h n =
      let again = units_patched (at + length (spell c)) (x ++ spell c) ps r (omega (arith, e, length-append x (spell c))) l b h n in
      (again.0, ap (patched (unit_patches fill (at + length (spell c)) ps)) (regroup x (spell c) (flat_map old_bytes ps) r) ∙ again.1 ∙ ap (λ (z : List ℕ). z ++ again.0) (sym (regroup x (spell c) (spell_all (lay fill ps)) r)))
    where
      regroup : (a b c d : List ℕ) → a ++ ((b ++ c) ++ d) ≡ (a ++ b) ++ (c ++ d)
      regroup a b c d = simp append_assoc
  units_patched at x (replaced lead slot now last ∷ ps) r e l b h n =
      go (ends && last) refl (λ at2 x2 len. units_patched at2 x2 ps r len l.1 b.1 h.1 n)
    where
      u : List ℕ
      u = unit_bytes lead now

      f : List Chunk
      f = fill last slot (length (unit_bytes lead now))

      a : List ℕ
      a = spell_all lead

      y : List ℕ
      y = flat_map old_bytes ps ++ r

      regroup : (a b c d k : List ℕ) → a ++ (((b ++ c) ++ d) ++ k) ≡ (a ++ b) ++ (c ++ (d ++ k))
      regroup a b c d k = simp append_assoc

      -- the unit's patch
      one : (w : List ℕ) → patched (patch (at + length (spell_all lead)) w) (x ++ (((spell_all lead ++ slot) ++ flat_map old_bytes ps) ++ r)) ≡ (x ++ spell_all lead) ++ (w ++ drop (length w) (slot ++ (flat_map old_bytes ps ++ r)))
      one w =
          patched_one (at + length (spell_all lead)) w (x ++ (((spell_all lead ++ slot) ++ flat_map old_bytes ps) ++ r)) ∙ ap (overlay (at + length (spell_all lead)) w) (regroup x (spell_all lead) slot (flat_map old_bytes ps) r)
          ∙ laid_behind (at + length (spell_all lead)) (x ++ spell_all lead) w (slot ++ (flat_map old_bytes ps ++ r)) (omega (arith, e, length-append x (spell_all lead)))

      -- the new chunks of the unit
      new : spell_all (lay fill (replaced lead slot now last ∷ ps)) ≡ (spell_all lead ++ (unit_bytes lead now ++ spell_all (fill last slot (length (unit_bytes lead now))))) ++ spell_all (lay fill ps)
      new = spell_all-append (map padded lead ++ (now ++ f)) (lay fill ps) ∙ ap (λ (z : List ℕ). z ++ spell_all (lay fill ps)) (piece_is lead slot now f b.0)

      go : (t : Bool) → (ends && last) ≡ t
          → ((at2 : ℕ) (x2 : List ℕ) → length x2 ≡ at2 → (m : List ℕ) × (patched (unit_patches fill at2 ps) (x2 ++ (flat_map old_bytes ps ++ r)) ≡ (x2 ++ (spell_all (lay fill ps) ++ r)) ++ m))
          → (m : List ℕ) × (patched (patch (at + length (spell_all lead)) (unit_patch fill lead slot now last) ++ unit_patches fill (at + length (spell_all lead ++ slot)) ps) (x ++ (((spell_all lead ++ slot) ++ flat_map old_bytes ps) ++ r))
          ≡ (x ++ (spell_all (lay fill (replaced lead slot now last ∷ ps)) ++ r)) ++ m)
      go true t more =
          let q = and_parts ends last t in
          let nil : ps ≡ [] = l.0 q.1 in
          let none : f ≡ [] = h.0.0 t in
          let rest : r ≡ [] = n q.0 in
          let w = unit_patch fill lead slot now last in
          let w_is : w ≡ u = ap (λ (g : List Chunk). u ++ take 8 (spell_all g)) none ∙ append-nil u in
          let left = drop (length w) (slot ++ (flat_map old_bytes ps ++ r)) in
          let empty : flat_map old_bytes ps ++ r ≡ [] = ap (λ (z : List Piece). flat_map old_bytes z ++ r) nil ∙ rest in
          let same_new : spell_all (lay fill (replaced lead slot now last ∷ ps)) ++ r ≡ a ++ u
          = ap (λ (z : List ℕ). z ++ r) new ∙ ap (λ (z : List Piece). ((a ++ (u ++ spell_all f)) ++ spell_all (lay fill z)) ++ r) nil ∙ ap (λ (g : List Chunk). ((a ++ (u ++ spell_all g)) ++ []) ++ r) none ∙ ap (λ (z : List ℕ). ((a ++ (u ++ [])) ++ []) ++ z) rest
          ∙ append-nil ((a ++ (u ++ [])) ++ []) ∙ append-nil (a ++ (u ++ [])) ∙ ap (λ (z : List ℕ). a ++ z) (append-nil u) in (
            left,
            ap (λ (z : List Piece). patched (patch (at + length a) w ++ unit_patches fill (at + length (a ++ slot)) z) (x ++ (((a ++ slot) ++ flat_map old_bytes ps) ++ r))) nil
                ∙ patched-append (patch (at + length a) w) [] (x ++ (((a ++ slot) ++ flat_map old_bytes ps) ++ r)) ∙ one w
                ∙ ap (λ (z : List ℕ). (x ++ a) ++ (z ++ left)) w_is ∙ assoc x a u left ∙ ap (λ (z : List ℕ). (x ++ z) ++ left) (sym same_new),
          )
        where
          assoc : (a b c d : List ℕ) → (a ++ b) ++ (c ++ d) ≡ (a ++ (b ++ c)) ++ d
          assoc a b c d = simp append_assoc
      go false t more =
          let fit = h.0.1 t in
          let w = unit_patch fill lead slot now last in
          let s = spell_all f in
          let made_slot : w ++ drop (length w) (slot ++ y) ≡ (u ++ s) ++ y
          = ap (λ (z : List ℕ). w ++ z) (drop-append-le (length w) slot y fit.room_is) ∙ regroup_slot u (take 8 s) (drop (length w) slot) y ∙ ap (λ (z : List ℕ). (u ++ z) ++ y) fit.stays in
          let x2 = (x ++ a) ++ (u ++ s) in
          let at2 = at + length (a ++ slot) in
          let len : length x2 ≡ at2 = omega (arith, e, fit.fills, length-append (x ++ a) (u ++ s), length-append x a, length-append a slot) in
          let again = more at2 x2 len in (
            again.0,
            patched-append (patch (at + length a) w) (unit_patches fill at2 ps) (x ++ (((a ++ slot) ++ flat_map old_bytes ps) ++ r))
                ∙ ap (patched (unit_patches fill at2 ps)) (one w ∙ ap (λ (z : List ℕ). (x ++ a) ++ z) made_slot ∙ sym (append_assoc (x ++ a) (u ++ s) y))
                ∙ again.1 ∙ ap (λ (z : List ℕ). z ++ again.0) (back x a (u ++ s) (spell_all (lay fill ps)) r ∙ ap (λ (z : List ℕ). x ++ (z ++ r)) (sym new)),
          )
        where
          regroup_slot : (a b c d : List ℕ) → (a ++ b) ++ (c ++ d) ≡ (a ++ (b ++ c)) ++ d
          regroup_slot a b c d = simp append_assoc

          back : (a b c d k : List ℕ) → ((a ++ b) ++ c) ++ (d ++ k) ≡ a ++ (((b ++ c) ++ d) ++ k)
          back a b c d k = simp append_assoc

  -- how long the new chunks of a unit are, and those behind it
  unit_long : (lead : List Chunk) (slot : List ℕ) (now : List Chunk) (last : Bool) (ps : List Piece) → spell_all (map padded lead) ≡ spell_all lead ++ lead_pad lead
      → length (spell_all (lay fill (replaced lead slot now last ∷ ps))) ≡ length (spell_all lead) + (length (unit_bytes lead now ++ spell_all (fill last slot (length (unit_bytes lead now)))) + length (spell_all (lay fill ps)))
  unit_long lead slot now last ps h =
      let u = unit_bytes lead now in
      let f = fill last slot (length u) in
      let whole = ap length (spell_all-append (map padded lead ++ (now ++ f)) (lay fill ps) ∙ ap (λ (z : List ℕ). z ++ spell_all (lay fill ps)) (piece_is lead slot now f h)) in
      whole ∙ omega (arith, length-append (spell_all lead ++ (u ++ spell_all f)) (spell_all (lay fill ps)), length-append (spell_all lead) (u ++ spell_all f))

  -- The units' patches ascend and lie in the new list; where it is longer than the old one, they cover what it gained.
  pub units_in_order : (new from at : ℕ) (ps : List Piece) → from ≤ at → at + length (spell_all (lay fill ps)) ≤ new → LastOnly ps → BringsPad ps → AllFit ps → InOrder new from (unit_patches fill at ps)
  units_in_order new from at [] l r o b h = tt
  units_in_order new from at (copied c ∷ ps) l r o b h =
      units_in_order new from (at + length (spell c)) ps (omega (arith, l)) (omega (arith, r, length-append (spell c) (spell_all (lay fill ps)))) o b h
  units_in_order new from at (replaced lead slot now last ∷ ps) l r o b h =
      go (ends && last) refl (λ low next p q. units_in_order new low next ps p q o.1 b.1 h.1)
    where
      u : List ℕ
      u = unit_bytes lead now

      f : List Chunk
      f = fill last slot (length (unit_bytes lead now))

      long : length (spell_all (lay fill (replaced lead slot now last ∷ ps)))
          ≡ length (spell_all lead) + (length (unit_bytes lead now ++ spell_all (fill last slot (length (unit_bytes lead now)))) + length (spell_all (lay fill ps)))
      long = unit_long lead slot now last ps b.0

      go : (t : Bool) → (ends && last) ≡ t
          → ((low next : ℕ) → low ≤ next → next + length (spell_all (lay fill ps)) ≤ new → InOrder new low (unit_patches fill next ps))
          → InOrder new from (patch (at + length (spell_all lead)) (unit_patch fill lead slot now last) ++ unit_patches fill (at + length (spell_all lead ++ slot)) ps)
      go true t more =
          let q = and_parts ends last t in
          let nil : ps ≡ [] = o.0 q.1 in
          let none : f ≡ [] = h.0.0 t in
          let w = unit_patch fill lead slot now last in
          let w_is : w ≡ u = ap (λ (g : List Chunk). u ++ take 8 (spell_all g)) none ∙ append-nil u in
          let flat : length (u ++ spell_all f) ≡ length u = ap (λ (g : List Chunk). length (u ++ spell_all g)) none ∙ ap length (append-nil u) in
          let empty : unit_patches fill (at + length (spell_all lead ++ slot)) ps ≡ [] = ap (unit_patches fill (at + length (spell_all lead ++ slot))) nil in
          order_patch new from (at + length (spell_all lead)) w (unit_patches fill (at + length (spell_all lead ++ slot)) ps) (omega (arith, l)) (omega (arith, r, long, flat, ap length w_is))
          (subst (λ (k : List Patch). InOrder new ((at + length (spell_all lead)) + length w) k) (sym empty) tt)
      go false t more =
          let fit = h.0.1 t in
          let w = unit_patch fill lead slot now last in
          let next = at + length (spell_all lead ++ slot) in
          let inside : next + length (spell_all (lay fill ps)) ≤ new = omega (arith, r, long, fit.fills, length-append (spell_all lead) slot) in
          order_patch new from (at + length (spell_all lead)) w (unit_patches fill next ps) (omega (arith, l)) (omega (arith, inside, fit.room_is, length-append (spell_all lead) slot))
          (more ((at + length (spell_all lead)) + length w) next (omega (arith, fit.room_is, length-append (spell_all lead) slot)) inside)

  pub units_cover : (at : ℕ) (ps : List Piece) (q : ℕ) → LastOnly ps → BringsPad ps → AllFit ps → at + length (flat_map old_bytes ps) ≤ q → q < at + length (spell_all (lay fill ps)) → Touches q (unit_patches fill at ps)
  units_cover at [] q o b h low high = absurd (omega arith)
  units_cover at (copied c ∷ ps) q o b h low high =
      units_cover (at + length (spell c)) ps q o b h (omega (arith, low, length-append (spell c) (flat_map old_bytes ps))) (omega (arith, high, length-append (spell c) (spell_all (lay fill ps))))
  units_cover at (replaced lead slot now last ∷ ps) q o b h low high =
      go (ends && last) refl (λ next l r. units_cover next ps q o.1 b.1 h.1 l r)
    where
      u : List ℕ
      u = unit_bytes lead now

      f : List Chunk
      f = fill last slot (length (unit_bytes lead now))

      new : length (spell_all (lay fill (replaced lead slot now last ∷ ps)))
          ≡ length (spell_all lead) + (length (unit_bytes lead now ++ spell_all (fill last slot (length (unit_bytes lead now)))) + length (spell_all (lay fill ps)))
      new = unit_long lead slot now last ps b.0

      old : length (flat_map old_bytes (replaced lead slot now last ∷ ps)) ≡ length (spell_all lead ++ slot) + length (flat_map old_bytes ps)
      old = length-append (spell_all lead ++ slot) (flat_map old_bytes ps)

      go : (t : Bool) → (ends && last) ≡ t
          → ((next : ℕ) → next + length (flat_map old_bytes ps) ≤ q → q < next + length (spell_all (lay fill ps)) → Touches q (unit_patches fill next ps))
          → Touches q (patch (at + length (spell_all lead)) (unit_patch fill lead slot now last) ++ unit_patches fill (at + length (spell_all lead ++ slot)) ps)
      go true t more =
          let nil : ps ≡ [] = o.0 (and_parts ends last t).1 in
          let none : f ≡ [] = h.0.0 t in
          let w = unit_patch fill lead slot now last in
          let w_is : w ≡ u = ap (λ (g : List Chunk). u ++ take 8 (spell_all g)) none ∙ append-nil u in
          let flat : length (u ++ spell_all f) ≡ length u = ap (λ (g : List Chunk). length (u ++ spell_all g)) none ∙ ap length (append-nil u) in
          let rest : length (spell_all (lay fill ps)) ≡ 0 = ap (λ (z : List Piece). length (spell_all (lay fill z))) nil in
          touches_patch q (at + length (spell_all lead)) w (unit_patches fill (at + length (spell_all lead ++ slot)) ps) (omega (arith, low, old, length-append (spell_all lead) slot)) (omega (arith, high, new, flat, rest, ap length w_is))
      go false t more =
          let fit = h.0.1 t in
          let next = at + length (spell_all lead ++ slot) in
          touches_behind q (patch (at + length (spell_all lead)) (unit_patch fill lead slot now last)) (unit_patches fill next ps)
          (more next (omega (arith, low, old)) (omega (arith, high, new, fit.fills, length-append (spell_all lead) slot)))

-- In RIFF a unit that fits its slot fills it with its padding; the patches of units that fit make the new chunks.
use Rattle.std.proofs.Common.{◌≡◌, ℕ, ◌+◌, ◌-◌, ◌%◌, ◌^◌, ◌<◌, ◌≤◌, Bool, true, false, cond, eqb, leb, ltb, List, [], ◌∷◌, ◌++◌, length, take, drop, refl, sym, ap, subst, ◌∙◌, arith}
use Rattle.std.specs.Prelude.{◌&&◌, ◌||◌, codes}
use Rattle.std.specs.Int.{w32, to_le_bytes}
use Rattle.std.specs.List.{flat_map}
use Rattle.std.proofs.lemmas.Bool.{and_parts, eqb-true, le-leb, leb-true, lt-leb, ltb-true}
use Rattle.std.proofs.lemmas.List.{append-nil, drop_all, length-append, length-drop, take_at}
use Rattle.container_model.specs.Chunk.{Chunk, spell_all}
use Rattle.part_tree.specs.Patches.{InOrder, Touches, laid}
use Rattle.container_model.specs.Units.{Cell, Piece, copied, replaced, shut, units, old_bytes, unit_bytes, lay}
use Rattle.container_model.proofs.Units.{units_bring}
use Rattle.carrier_model.specs.Info.{made, fill_by, riff_fill}
use Rattle.carrier_model.specs.Room.{leaves_padding, fits_slot, units_fit, unit_patches}
use Rattle.carrier_model.proofs.Fitted.{AllFit, Fits, last_units, units_cover, units_in_order, units_patched}

-- ---- a unit that fits and doesn't end the file

filled : (slot u : List ℕ) → fits_slot false (length slot) (length u) ≡ true → Fits slot u (spell_all (fill_by slot (length u) (leb (length slot) (length u) || false)))
filled slot u h = go (eqb (length u) (length slot)) refl h
  where
    s : ℕ
    s = length u

    or_false : (t : Bool) → (t || false) ≡ t
    or_false true = refl
    or_false false = refl

    nothing : (p : List ℕ) → p ≡ [] → length slot ≡ s → Fits slot u p
    nothing p n e =
        let over : drop (length (u ++ [])) slot ≡ [] = drop_all (length (u ++ [])) slot (omega (arith, length-append u [])) in
        subst (Fits slot u) (sym n) (record { room_is = omega (arith, length-append u []); stays = over; fills = omega (arith, length-append u []) })

    body : List ℕ
    body = drop (s + 8) slot

    head : List ℕ
    head = codes "JUNK" ++ to_le_bytes w32 (length body)

    free : ((length slot - s) % 2) ≡ 0 → 8 ≤ length slot - s → length slot - s < 2 ^ 32 → Fits slot u (spell_all (fill_by slot s (leb (length slot) s || false)))
    free even low high =
        let less : leb (length slot) s ≡ false = lt-leb _ _ (omega arith) in
        let test : ((eqb ((length slot - s) % 2) 0) && (leb 8 (length slot - s) && ltb (length slot - s) (2 ^ 32))) ≡ true
        = rw (Rattle.std.proofs.lemmas.Bool.eq-eqb _ _ even, le-leb _ _ low, Rattle.std.proofs.lemmas.Bool.lt-ltb _ _ high) refl in
        let size : length body ≡ (length slot - s) - 8 = omega (arith, length-drop (s + 8) slot) in
        let no_pad : length body % 2 ≡ 0 = omega (arith, size, even, low) in
        let is : spell_all (fill_by slot s (leb (length slot) s || false)) ≡ head ++ (body ++ [])
        = ap (λ (t : Bool). spell_all (fill_by slot s (t || false))) less ∙ ap (λ (t : Bool). spell_all (made (codes "JUNK") (cond t body (cond ((eqb ((length slot - s) % 2) 1) && (leb 9 (length slot - s) && ltb (length slot - s) (2 ^ 32))) (drop (s + 7) slot) [])) ∷ [])) test
        ∙ ap (λ (k : ℕ). (head ++ (body ++ Rattle.std.specs.Prelude.replicate k 0)) ++ []) no_pad ∙ append-nil (head ++ (body ++ [])) in
        let plain : body ++ [] ≡ body = append-nil body in
        let p = head ++ body in
        let eight : length (u ++ head) ≡ s + 8 = omega (arith, length-append u head) in
        let done : Fits slot u p = record {
          room_is = omega (arith, eight);
          stays = ap (λ (k : ℕ). head ++ drop k slot) eight;
          fills = omega (arith, length-append u p, length-append head body, size);
        } in
        subst (Fits slot u) (sym (is ∙ ap (λ (y : List ℕ). head ++ y) plain)) done

    go : (t : Bool) → eqb s (length slot) ≡ t → (t || (leaves_padding (length slot - s) || false)) ≡ true → Fits slot u (spell_all (fill_by slot s (leb (length slot) s || false)))
    go true e h =
        let same : length slot ≡ s = sym (eqb-true _ _ e) in
        let full : leb (length slot) s ≡ true = le-leb _ _ (omega arith) in
        nothing _ (ap (λ (t : Bool). spell_all (fill_by slot s (t || false))) full) same
    go false e h =
        let p = and_parts (eqb ((length slot - s) % 2) 0) (leb 8 (length slot - s) && ltb (length slot - s) (2 ^ 32)) (sym (or_false (leaves_padding (length slot - s))) ∙ h) in
        let q = and_parts (leb 8 (length slot - s)) (ltb (length slot - s) (2 ^ 32)) p.1 in
        free (eqb-true _ _ p.0) (leb-true _ _ q.0) (ltb-true _ _ q.1)

-- ---- all units

module _ (ends : Bool) where
  fill_else : (last : Bool) (slot : List ℕ) (s : ℕ) → (ends && last) ≡ false → riff_fill ends last slot s ≡ fill_by slot s (leb (length slot) s || false)
  fill_else last slot s e = ap (λ (t : Bool). fill_by slot s (leb (length slot) s || t)) e

  fill_none : (last : Bool) (slot : List ℕ) (s : ℕ) → (ends && last) ≡ true → riff_fill ends last slot s ≡ []
  fill_none last slot s e = ap (λ (t : Bool). fill_by slot s (leb (length slot) s || t)) e ∙ ap (fill_by slot s) (or_true (leb (length slot) s))
    where
      or_true : (t : Bool) → (t || true) ≡ true
      or_true true = refl
      or_true false = refl

  piece_fits : (last : Bool) (slot u : List ℕ) → fits_slot (ends && last) (length slot) (length u) ≡ true → (ends && last) ≡ false → Fits slot u (spell_all (riff_fill ends last slot (length u)))
  piece_fits last slot u h e =
      subst (λ (cs : List Chunk). Fits slot u (spell_all cs)) (sym (fill_else last slot (length u) e)) (filled slot u (ap (λ (t : Bool). fits_slot t (length slot) (length u)) (sym e) ∙ h))

  pub riff_fits : (ps : List Piece) → units_fit ends ps ≡ true → AllFit (riff_fill ends) ends ps
  riff_fits [] h = tt
  riff_fits (copied c ∷ ps) h = riff_fits ps h
  riff_fits (replaced lead slot now last ∷ ps) h =
      let s = length (unit_bytes lead now) in
      let p = and_parts (fits_slot (ends && last) (length slot) s) (units_fit ends ps) h in
      ((λ e. fill_none last slot s e, λ e. piece_fits last slot (unit_bytes lead now) p.0 e), riff_fits ps p.1)

-- ---- the units of some cells

module _ (ends : Bool) (xs : List Cell) (fit : units_fit ends (units shut xs) ≡ true) where
  abbrev ps : List Piece
  ps = units shut xs

  pub cells_patched : (x r : List ℕ) → (ends ≡ true → r ≡ [])
      → laid (length x + (length (spell_all (lay (riff_fill ends) ps)) + length r)) (unit_patches (riff_fill ends) (length x) ps) (x ++ (flat_map old_bytes ps ++ r)) ≡ x ++ (spell_all (lay (riff_fill ends) ps) ++ r)
  cells_patched x r none =
      let new = spell_all (lay (riff_fill ends) ps) in
      let n = length x + (length new + length r) in
      let done = units_patched (riff_fill ends) ends (length x) x ps r refl (last_units shut xs) (units_bring shut xs tt) (riff_fits ends ps fit) none in
      ap (take n) done.1 ∙ take_at (x ++ (new ++ r)) done.0 n (omega (arith, length-append x (new ++ r), length-append new r))

  pub cells_ordered : (at : ℕ) → InOrder (at + length (spell_all (lay (riff_fill ends) ps))) at (unit_patches (riff_fill ends) at ps)
  cells_ordered at = units_in_order (riff_fill ends) ends (at + length (spell_all (lay (riff_fill ends) ps))) at at ps (omega arith) (omega arith) (last_units shut xs) (units_bring shut xs tt) (riff_fits ends ps fit)

  pub cells_covered : (at q : ℕ) → at + length (flat_map old_bytes ps) ≤ q → q < at + length (spell_all (lay (riff_fill ends) ps)) → Touches q (unit_patches (riff_fill ends) at ps)
  cells_covered at q low high = units_cover (riff_fill ends) ends at ps q (last_units shut xs) (units_bring shut xs tt) (riff_fits ends ps fit) low high

-- Where places go that stand behind all spans of an edit.
use Rattle.std.proofs.Common.{◌≡◌, ℕ, ◌+◌, ◌≤◌, Bool, true, false, cond, List, [], ◌∷◌, ◌++◌, length, map, refl, sym, ap, ◌∙◌, arith, inr}
use Rattle.std.specs.Str.{bytes_eq}
use Rattle.std.specs.List.{flat_map}
use Rattle.std.proofs.lemmas.List.{length-append}
use Rattle.std.proofs.lemmas.Slice.Eq.{bytes_eq-Decides}
use Rattle.container_model.specs.Chunk.{Chunk, spell, spell_all}
use Rattle.container_model.specs.Splice.{Cut, end_of, Ascend, shift, gained, lost, Outside}
use Rattle.container_model.specs.Units.{Piece, copied, replaced, Fill, padded, old_bytes, lead_pad, unit_bytes, shut, units, lay, cut_of, cuts}
use Rattle.container_model.proofs.Units.{BringsPad, spell_all-append, units_old, units_bring}
use Rattle.container_model.proofs.Splice.{before_lost}
use Rattle.container_model.proofs.Places.{old_length, cuts_ascend}
use Rattle.avi_model.specs.Avi.{Avi, inner}
use Rattle.avi_model.specs.NewFile.{Items, new_cells, new_children, pad_after, laid, edit_cuts}
use Rattle.avi_model.specs.Named.{ends_file}
use Rattle.carrier_model.specs.RiffForm.{pad_cut}
use Rattle.avi_model.proofs.Tables.{was_new}
use Rattle.carrier_model.specs.Info.{riff_fill}
use Rattle.avi_model.proofs.Read.{others_place}

-- behind the spans of units, with further spans
past_more : (fill : Fill) (at : ℕ) (ps : List Piece) (more : List Cut) (p : ℕ) → BringsPad ps → at + old_length ps ≤ p → Outside more p
    → Outside (cuts fill at ps ++ more) p × (gained (cuts fill at ps ++ more) p + old_length ps + lost more p ≡ lost (cuts fill at ps ++ more) p + length (spell_all (lay fill ps)) + gained more p)
past_more fill at [] more p h le o = (o, omega arith)
past_more fill at (copied d ∷ ps) more p h le o =
    let again = past_more fill (at + length (spell d)) ps more p h (omega (arith, length-append (spell d) (flat_map old_bytes ps))) o in
    (again.0, omega (arith, again.1, length-append (spell d) (flat_map old_bytes ps), length-append (spell d) (spell_all (lay fill ps))))
past_more fill at (replaced lead slot now last ∷ ps) more p h le o =
    let next = at + length (spell_all lead ++ slot) in
    let cut = cut_of fill at lead slot now last in
    let rest = cuts fill next ps ++ more in
    let again = past_more fill next ps more p h.1 (omega (arith, length-append (spell_all lead ++ slot) (flat_map old_bytes ps))) o in
    let end_is : end_of cut ≡ next = omega (arith, length-append (spell_all lead) slot) in
    let behind : end_of cut ≤ p = omega (arith, end_is, length-append (spell_all lead ++ slot) (flat_map old_bytes ps)) in
    let z = before_lost cut rest p behind in
    let f = fill last slot (length (unit_bytes lead now)) in
    let len : length (spell_all (lay fill (replaced lead slot now last ∷ ps))) ≡ length (spell_all lead) + length cut.bytes + length (spell_all (lay fill ps))
    = rw (spell_all-append (map padded lead ++ (now ++ f)) (lay fill ps), spell_all-append (map padded lead) (now ++ f), spell_all-append now f, h.0)
    (omega (arith, length-append ((spell_all lead ++ lead_pad lead) ++ (spell_all now ++ spell_all f)) (spell_all (lay fill ps)), length-append (spell_all lead ++ lead_pad lead) (spell_all now ++ spell_all f), length-append (spell_all lead) (lead_pad lead), length-append (spell_all now) (spell_all f), length-append (unit_bytes lead now) (spell_all f), length-append (lead_pad lead) (spell_all now))) in
    ((inr behind, again.0), omega (arith, z.0, z.1, again.1, len, length-append (spell_all lead) slot, length-append (spell_all lead ++ slot) (flat_map old_bytes ps)))

ascend_append : (low mid end : ℕ) (a b : List Cut) → Ascend low a mid → Ascend mid b end → Ascend low (a ++ b) end
ascend_append low mid end [] b h g = lower low mid end b h g
  where
    lower : (low mid end : ℕ) (b : List Cut) → low ≤ mid → Ascend mid b end → Ascend low b end
    lower low mid end [] h g = omega arith
    lower low mid end (c ∷ b) h g = (omega (arith, g.0), g.1)
ascend_append low mid end (c ∷ a) b h g = (h.0, ascend_append (end_of c) mid end a b h.1 g)

module _ (a : Avi) (e : Items) where
  ps : List Piece
  ps = units shut (new_cells a e)

  pub children_length : old_length (units shut (new_cells a e)) ≡ length (spell_all a.children)
  children_length = ap length (units_old shut (new_cells a e)) ∙ ap (λ (cs : List Chunk). length (spell_all cs)) (was_new a e)

  pad_end : 8 + length (inner a.children a.left) + length a.pad ≡ others_place a
  pad_end = omega (arith, length-append (inner a.children a.left) a.pad)

  -- the spans ascend
  pub edit_ascends : (end : ℕ) → others_place a ≤ end → Ascend 0 (edit_cuts a e) end
  edit_ascends end le =
      ascend_append 0 (12 + old_length (units shut (new_cells a e))) end (cuts (riff_fill (ends_file a)) 12 (units shut (new_cells a e))) (pad_cut (8 + length (inner a.children a.left)) a.pad (pad_after a e)) (cuts_ascend (riff_fill (ends_file a)) 12 (units shut (new_cells a e)) 0 (omega arith))
      (go (bytes_eq a.pad (pad_after a e)))
    where
      low : 12 + old_length (units shut (new_cells a e)) ≤ 8 + length (inner a.children a.left)
      low = omega (arith, children_length, length-append (spell_all a.children) a.left)

      go : (t : Bool) → Ascend (12 + old_length (units shut (new_cells a e))) (cond t [] (record { at = 8 + length (inner a.children a.left); len = length a.pad; bytes = pad_after a e } ∷ [])) end
      go true = omega (arith, low, pad_end, le)
      go false = (low, omega (arith, pad_end, le))

  -- places behind the first form move by what it grows
  pub past_edit : (q : ℕ) → others_place a ≤ q → Outside (edit_cuts a e) q × (shift (edit_cuts a e) q + others_place a ≡ q + others_place (laid a e))
  past_edit q le = go (bytes_eq a.pad (pad_after a e)) refl
    where
      cut : Cut
      cut = record { at = 8 + length (inner a.children a.left); len = length a.pad; bytes = pad_after a e }

      low : 12 + old_length (units shut (new_cells a e)) ≤ q
      low = omega (arith, children_length, length-append (spell_all a.children) a.left, pad_end, le)

      old_size : 8 + length (inner a.children a.left) ≡ 12 + old_length (units shut (new_cells a e)) + length a.left
      old_size = omega (arith, children_length, length-append (spell_all a.children) a.left)

      new_size : others_place (laid a e) ≡ 12 + length (spell_all (new_children a e)) + length a.left + length (pad_after a e)
      new_size = omega (arith, length-append (inner (new_children a e) a.left) (pad_after a e), length-append (spell_all (new_children a e)) a.left)

      go : (t : Bool) → bytes_eq a.pad (pad_after a e) ≡ t → Outside (cuts (riff_fill (ends_file a)) 12 (units shut (new_cells a e)) ++ cond t [] (record { at = 8 + length (inner a.children a.left); len = length a.pad; bytes = pad_after a e } ∷ [])) q
          × (shift (cuts (riff_fill (ends_file a)) 12 (units shut (new_cells a e)) ++ cond t [] (record { at = 8 + length (inner a.children a.left); len = length a.pad; bytes = pad_after a e } ∷ [])) q + others_place a ≡ q + others_place (laid a e))
      go true d =
          let m = past_more (riff_fill (ends_file a)) 12 (units shut (new_cells a e)) [] q (units_bring shut (new_cells a e) tt) low tt in
          let same : length (pad_after a e) ≡ length a.pad = ap length (sym ((bytes_eq-Decides a.pad (pad_after a e)).0 d)) in
          (m.0, omega (arith, m.1, old_size, new_size, same, pad_end, le))
      go false d =
          let behind : 8 + length (inner a.children a.left) + length a.pad ≤ q = omega (arith, pad_end, le) in
          let m = past_more (riff_fill (ends_file a)) 12 (units shut (new_cells a e)) (cut ∷ []) q (units_bring shut (new_cells a e) tt) low (inr behind, tt) in
          let z = before_lost cut [] q behind in
          (m.0, omega (arith, m.1, z.0, z.1, old_size, new_size, pad_end, le))

-- Where the places of a file go with an edit of fields and names: they keep their order, and what stands behind the first form goes as one.
use Rattle.std.proofs.Common.{◌≡◌, ℕ, ◌+◌, ◌≤◌, List, [], ◌∷◌, length, refl, sym, arith, inr}
use Rattle.std.proofs.lemmas.List.{length-append}
use Rattle.me_bytes.specs.Bytes.{IsBytes}
use Rattle.container_model.specs.Chunk.{spell_all}
use Rattle.container_model.specs.Splice.{Cut, end_of, shift, Ascend, Outside}
use Rattle.container_model.specs.Units.{Piece, shut, units, cuts, lay}
use Rattle.container_model.proofs.Goes.{Block, block_both, block_copy, block_pieces, wider}
use Rattle.container_model.proofs.Places.{old_length}
use Rattle.container_model.proofs.Splice.{lost_low, shift_order}
use Rattle.container_model.proofs.Stay.{Orders}
use Rattle.container_model.proofs.Units.{units_bring}
use Rattle.carrier_model.specs.Info.{riff_fill}
use Rattle.carrier_model.specs.RiffForm.{pad_cut}
use Rattle.avi_model.specs.After.{Changes, children_after, goes, joined, list_cuts, pad_after}
use Rattle.avi_model.specs.Avi.{Avi, avi_of, inner}
use Rattle.avi_model.specs.Named.{ends_file, name_cuts, named}
use Rattle.avi_model.specs.NewFile.{new_cells}
use Rattle.avi_model.specs.Support.{Supported}
use Rattle.avi_model.proofs.Blocks.{block_pad, block_same}
use Rattle.avi_model.proofs.Children.{AreChildren, children_block}
use Rattle.avi_model.proofs.NamesSet.{supported_children}
use Rattle.avi_model.proofs.Past.{children_length}
use Rattle.avi_model.proofs.Read.{others_place}

ends_by : (at end : ℕ) (cs : List Cut) → Ascend at cs end → at ≤ end
ends_by at end [] h = h
ends_by at end (c ∷ cs) h = omega (arith, h.0, ends_by (end_of c) end cs h.1)

outside_past : (at end p : ℕ) (cs : List Cut) → Ascend at cs end → end ≤ p → Outside cs p
outside_past at end p [] h le = tt
outside_past at end p (c ∷ cs) h le = (inr (omega (arith, ends_by (end_of c) end cs h.1, le)), outside_past (end_of c) end p cs h.1 le)

-- a place behind a range
pub behind_block : (at to end goal p : ℕ) (cs : List Cut) → Block at to end goal cs → end ≤ p → Outside cs p × (shift cs p + end + to ≡ p + goal + at)
behind_block at to end goal p cs h le =
    let out = outside_past at end p cs h.ascend le in
    let low = lost_low at end cs p h.ascend out (omega (arith, ends_by at end cs h.ascend, le)) in
    (out, omega (arith, h.past p le, low))

module _ (o : List ℕ) (bytes : IsBytes o) (s : Supported o) (e : Changes) where
  abbrev a : Avi
  a = avi_of o

  abbrev na : Avi
  na = named (avi_of o) e.names

  pub children : AreChildren (avi_of o).children
  children = supported_children o bytes s

  pub names_block : Block 12 12 (12 + length (spell_all (avi_of o).children)) (12 + length (spell_all (named (avi_of o) e.names).children)) (name_cuts (avi_of o) e.names)
  names_block = children_block e.names (ends_file a) 12 12 a.children children

  abbrev ps : List Piece
  ps = units shut (new_cells (named (avi_of o) e.names) e.infos)

  -- the units, the rest and the pad
  pub lists_block : Block 12 12 (8 + length (inner na.children na.left) + length a.pad) (8 + length (inner (children_after a e) a.left) + length (pad_after a e)) (list_cuts a e)
  lists_block =
      let fill = riff_fill (ends_file na) in
      let old = children_length na e.infos in
      let one = block_pieces fill 12 12 ps (units_bring shut (new_cells na e.infos) tt) in
      let half = 12 + old_length ps in
      let goal = 12 + length (spell_all (lay fill ps)) in
      let left = length a.left in
      let pad_at = 8 + length (inner na.children na.left) in
      let pad_to = 8 + length (inner (children_after a e) a.left) in
      let same_at : pad_at ≡ half + left = omega (arith, old, length-append (spell_all na.children) a.left) in
      let same_to : pad_to ≡ goal + left = omega (arith, length-append (spell_all (children_after a e)) a.left) in
      let two = block_copy half goal left in
      let three = block_pad pad_at pad_to a.pad (pad_after a e) in
      let more = block_same pad_at pad_to (pad_at + length a.pad) (pad_to + length (pad_after a e)) (half + left) (goal + left) (pad_at + length a.pad) (pad_to + length (pad_after a e)) (pad_cut pad_at a.pad (pad_after a e)) (sym same_at) (sym same_to) refl refl three in
      let both = block_both half goal (half + left) (goal + left) (pad_at + length a.pad) (pad_to + length (pad_after a e)) [] (pad_cut pad_at a.pad (pad_after a e)) two more in
      block_both 12 12 half goal (pad_at + length a.pad) (pad_to + length (pad_after a e)) (cuts fill 12 ps) (pad_cut pad_at a.pad (pad_after a e)) one both

  pub names_ascend : Ascend 0 (name_cuts a e.names) (12 + length (spell_all a.children))
  names_ascend = wider 0 12 (12 + length (spell_all a.children)) (12 + length (spell_all a.children)) (name_cuts a e.names) (omega arith) (omega arith) names_block.ascend

  pub lists_ascend : Ascend 0 (list_cuts a e) (8 + length (inner na.children na.left) + length a.pad)
  lists_ascend =
      wider 0 12 (8 + length (inner na.children na.left) + length a.pad) (8 + length (inner na.children na.left) + length a.pad) (list_cuts a e) (omega arith) (omega arith) lists_block.ascend

  -- places keep their order
  pub joined_order : Orders (goes (avi_of o) e) (λ p. Outside (name_cuts (avi_of o) e.names) p × Outside (list_cuts (avi_of o) e) (shift (name_cuts (avi_of o) e.names) p))
  joined_order p q x y lt =
      let one = shift_order 0 (12 + length (spell_all a.children)) (name_cuts a e.names) p q names_ascend x.0 y.0 (omega arith) lt in
      shift_order 0 (8 + length (inner na.children na.left) + length a.pad) (list_cuts a e) (shift (name_cuts a e.names) p) (shift (name_cuts a e.names) q) lists_ascend x.1 y.1 (omega arith) one

  -- what stands behind the first form goes by what it grows
  pub joined_past : (q : ℕ) → others_place (avi_of o) ≤ q
      → (Outside (name_cuts (avi_of o) e.names) q × Outside (list_cuts (avi_of o) e) (shift (name_cuts (avi_of o) e.names) q)) × (goes (avi_of o) e q + others_place (avi_of o) ≡ q + others_place (joined (avi_of o) e))
  joined_past q le =
      let old_place : others_place a ≡ 8 + length (inner a.children a.left) + length a.pad = omega (arith, length-append (inner a.children a.left) a.pad) in
      let new_place : others_place (joined a e) ≡ 8 + length (inner (children_after a e) a.left) + length (pad_after a e) = omega (arith, length-append (inner (children_after a e) a.left) (pad_after a e)) in
      let old_long = length-append (spell_all a.children) a.left in
      let named_long = length-append (spell_all na.children) a.left in
      let one = behind_block 12 12 (12 + length (spell_all a.children)) (12 + length (spell_all na.children)) q (name_cuts a e.names) names_block (omega (arith, le, old_place, old_long)) in
      let far : 8 + length (inner na.children na.left) + length a.pad ≤ shift (name_cuts a e.names) q = omega (arith, one.1, le, old_place, old_long, named_long) in
      let two = behind_block 12 12 (8 + length (inner na.children na.left) + length a.pad) (8 + length (inner (children_after a e) a.left) + length (pad_after a e)) (shift (name_cuts a e.names) q) (list_cuts a e) lists_block far in
      ((one.0, two.0), omega (arith, one.1, two.1, old_place, new_place, old_long, named_long))

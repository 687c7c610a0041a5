-- The new file is the old one with spans replaced, and the form's size set.
use Rattle.std.proofs.Common.{◌≡◌, ℕ, ◌+◌, ◌-◌, ◌≤◌, Bool, true, false, cond, List, [], ◌∷◌, ◌++◌, length, map, take, drop, refl, sym, ap, ◌∙◌, append_assoc, arith}
use Rattle.std.specs.Prelude.{codes}
use Rattle.std.specs.Int.{w32, w64, to_le_bytes}
use Rattle.std.specs.Str.{bytes_eq}
use Rattle.std.specs.List.{flat_map}
use Rattle.std.proofs.lemmas.List.{length-append, length-drop, drop_at, take_at, drop-drop, append-nil, take-append-drop}
use Rattle.field_model.specs.Update.{RawItem, raw_items}
use Rattle.container_model.specs.Chunk.{Form, riff, wide, short, long, to_end, Chunk, header_bytes, spell_all}
use Rattle.container_model.specs.Splice.{Cut, end_of, splice, splice_from, Ascend}
use Rattle.container_model.proofs.Places.{cuts_ascend}
use Rattle.container_model.specs.Units.{shut, lay, cuts, old_bytes}
use Rattle.container_model.proofs.Codec.{IsBytes}
use Rattle.container_model.proofs.Units.{From, From-low, splice_past, lay_splices_more, units_old, units_bring, cuts_from}
use Rattle.container_model.proofs.Items.{same_true}
use Rattle.wave_model.specs.Wave.{is_big, Wave, wave_of, inner, spell_wave, cells_of}
use Rattle.part_tree.specs.declared.field.EditItem.{EditItem}
use Rattle.wave_model.specs.Fields.{fields}
use Rattle.wave_model.specs.Carry.{steps}
use Rattle.carrier_model.specs.Steps.{carried}
use Rattle.wave_model.specs.New.{fill_of, pieces_of, new_children, new_size, with_riff_size, sized_ds64, new_wave, children_at, edit_cuts, new_file, cuts_of, new_size_of}
use Rattle.carrier_model.specs.RiffForm.{new_pad, pad_cut, with_size}
use Rattle.wave_model.specs.Edited.{Supported}
use Rattle.carrier_model.proofs.Steps.{was_carried}
use Rattle.wave_model.proofs.Cells.{was_cells}
use Rattle.wave_model.proofs.Again.{FormFine, spelled}
use Rattle.carrier_model.proofs.RiffForm.{field_of, IsForm, field_len}
use Rattle.wave_model.proofs.Ds64.{HasDs64}
use Rattle.wave_model.proofs.Form.{form_fine, old_form, spelled_is, has_ds64}
use Rattle.wave_model.proofs.Edited.{kind_len, length_new}

pad_from : (at : ℕ) (old new : List ℕ) → From at (pad_cut at old new)
pad_from at old new = go (bytes_eq old new)
  where
    go : (t : Bool) → From at (cond t [] (record { at = at; len = length old; bytes = new } ∷ []))
    go true = tt
    go false = omega arith

pad_spliced : (at : ℕ) (old new tail : List ℕ) → splice_from at (old ++ tail) (pad_cut at old new) ≡ new ++ tail
pad_spliced at old new tail = go (bytes_eq old new) refl
  where
    go : (t : Bool) → bytes_eq old new ≡ t → splice_from at (old ++ tail) (cond t [] (record { at = at; len = length old; bytes = new } ∷ [])) ≡ new ++ tail
    go true e = ap (λ (x : List ℕ). x ++ tail) (same_true old new e)
    go false e =
        let a : at - at ≡ 0 = omega arith in
        let b : (at + length old) - at ≡ length old = omega arith in
        rw (a, b, drop_at old tail (length old) refl) refl

from_both : (low : ℕ) (cs last : List Cut) → From low cs → From low last → From low (cs ++ last)
from_both low [] last g h = h
from_both low (c ∷ cs) last g h = g

-- what stands before the chunks that an edit looks at
abbrev before : Wave → List ℕ
before w = w.id ++ (field_of w.form (length (inner w)) ++ (codes "WAVE" ++ spell_all w.ds64))

abbrev pub the_pad : Wave → List RawItem → List ℕ
the_pad w e = new_pad (length (inner w)) (new_size w e) w.pad w.tail

-- the old file with the spans replaced
spliced : (w : Wave) (e : List RawItem) → IsForm w.form → length w.id ≡ 4
    → splice (spell_wave w) (edit_cuts w e) ≡ before w ++ (spell_all (new_children w e) ++ (w.left ++ (the_pad w e ++ w.tail)))
spliced w e f id_len =
    let fill = fill_of w in
    let ps = pieces_of w e in
    let n = length (inner w) in
    let head = before w in
    let start = children_at w in
    let old : flat_map old_bytes ps ≡ spell_all w.children = units_old shut (carried (steps e) (cells_of w)) ∙ ap spell_all (was_carried (steps e) (cells_of w) ∙ was_cells w.ds64 w.children) in
    let rest = w.left ++ (w.pad ++ w.tail) in
    let last = pad_cut (8 + n) w.pad (the_pad w e) in
    let size : n ≡ 4 + (length (spell_all w.ds64) + (length (spell_all w.children) + length w.left)) = omega (arith, length-append (spell_all w.ds64) (spell_all w.children ++ w.left), length-append (spell_all w.children) w.left) in
    let head_len : length head ≡ start = omega (arith, id_len, field_len w.form n, length-append w.id (field_of w.form n ++ (codes "WAVE" ++ spell_all w.ds64)), length-append (field_of w.form n) (codes "WAVE" ++ spell_all w.ds64), length-append (codes "WAVE") (spell_all w.ds64)) in
    let far : (start + length (flat_map old_bytes ps)) + length w.left ≡ 8 + n = omega (arith, size, ap length old) in
    let from : From (start + length (flat_map old_bytes ps)) last = From-low _ (8 + n) last (omega (arith, far)) (pad_from (8 + n) w.pad (the_pad w e)) in
    let whole : spell_wave w ≡ head ++ (flat_map old_bytes ps ++ rest)
    = spelled w f ∙ regroup w.id (field_of w.form n) (spell_all w.ds64) (spell_all w.children) w.left (w.pad ++ w.tail) ∙ ap (λ (x : List ℕ). head ++ (x ++ rest)) (sym old) in
    let tail : splice_from (start + length (flat_map old_bytes ps)) rest last ≡ w.left ++ (the_pad w e ++ w.tail)
    = splice_past (start + length (flat_map old_bytes ps)) w.left (w.pad ++ w.tail) last (rw far (pad_from (8 + n) w.pad (the_pad w e))) ∙ rw far (ap (λ (x : List ℕ). w.left ++ x) (pad_spliced (8 + n) w.pad (the_pad w e) w.tail)) in
    let cs = cuts fill start ps ++ last in
    let first : From start cs = from_both start (cuts fill start ps) last (cuts_from fill start ps start (omega arith)) (From-low start _ last (omega arith) from) in
    let zero : 0 + length head ≡ start = omega (arith, head_len) in
    ap (λ (x : List ℕ). splice x cs) whole ∙ splice_past 0 head (flat_map old_bytes ps ++ rest) cs (rw zero first)
    ∙ ap (λ (k : ℕ). head ++ splice_from k (flat_map old_bytes ps ++ rest) cs) zero
    ∙ ap (λ (x : List ℕ). head ++ x) (lay_splices_more fill start ps rest last (units_bring shut (carried (steps e) (cells_of w)) tt) from ∙ ap (λ (x : List ℕ). spell_all (lay fill ps) ++ x) tail)
  where
    regroup : (i g d c l r : List ℕ) → i ++ (g ++ ((codes "WAVE" ++ (d ++ (c ++ l))) ++ r)) ≡ (i ++ (g ++ (codes "WAVE" ++ d))) ++ (c ++ (l ++ r))
    regroup i g d c l r = simp append_assoc

-- ---- the size set

-- the new file, spelled
pub new_spelled : (w : Wave) (e : List RawItem) → IsForm w.form → length (inner (new_wave w e)) ≡ new_size w e
    → spell_wave (new_wave w e) ≡ w.id ++ (field_of w.form (new_size w e) ++ (codes "WAVE" ++ (spell_all (new_wave w e).ds64 ++ (spell_all (new_children w e) ++ (w.left ++ (the_pad w e ++ w.tail))))))
new_spelled w e f len =
    let n = new_wave w e in
    spelled n f ∙ ap (λ (k : ℕ). w.id ++ (field_of w.form k ++ (inner n ++ (n.pad ++ n.tail)))) len ∙ regroup w.id (field_of w.form (new_size w e)) (spell_all n.ds64) (spell_all n.children) w.left (n.pad ++ n.tail)
  where
    regroup : (i g d c l r : List ℕ) → i ++ (g ++ ((codes "WAVE" ++ (d ++ (c ++ l))) ++ r)) ≡ i ++ (g ++ (codes "WAVE" ++ (d ++ (c ++ (l ++ r)))))
    regroup i g d c l r = simp append_assoc

pub set_riff : (n : ℕ) (i g x : List ℕ) → length i ≡ 4 → length g ≡ 4 → with_size riff n (i ++ (g ++ x)) ≡ i ++ (to_le_bytes w32 n ++ x)
set_riff n i g x a b =
    let eight : length (i ++ g) ≡ 8 = omega (arith, a, b, length-append i g) in
    ap (λ (y : List ℕ). y ++ (to_le_bytes w32 n ++ drop 8 (i ++ (g ++ x)))) (take_at i (g ++ x) 4 a)
    ∙ ap (λ (y : List ℕ). i ++ (to_le_bytes w32 n ++ y)) (ap (drop 8) (sym (append_assoc i g x)) ∙ drop_at (i ++ g) x 8 eight)

-- riffSize stands at 20, first in the body of ds64
pub set_wide : (n : ℕ) (h b x : List ℕ) → length h ≡ 20 → 8 ≤ length b → with_size wide n (h ++ (b ++ x)) ≡ h ++ ((to_le_bytes w64 n ++ drop 8 b) ++ x)
set_wide n h b x a l =
    let split : b ≡ take 8 b ++ drop 8 b = sym (take-append-drop 8 b) in
    let eight : length (take 8 b) ≡ 8 = omega (arith, l, Rattle.std.proofs.lemmas.List.length-take 8 b) in
    let behind : drop 28 (h ++ (b ++ x)) ≡ drop 8 b ++ x
    = sym (drop-drop 8 20 (h ++ (b ++ x))) ∙ ap (drop 8) (drop_at h (b ++ x) 20 a) ∙ ap (λ (y : List ℕ). drop 8 (y ++ x)) split ∙ ap (drop 8) (append_assoc (take 8 b) (drop 8 b) x) ∙ drop_at (take 8 b) (drop 8 b ++ x) 8 eight in
    ap (λ (y : List ℕ). y ++ (to_le_bytes w64 n ++ drop 28 (h ++ (b ++ x)))) (take_at h (b ++ x) 20 a) ∙ ap (λ (y : List ℕ). h ++ (to_le_bytes w64 n ++ y)) behind
    ∙ ap (λ (y : List ℕ). h ++ y) (sym (append_assoc (to_le_bytes w64 n) (drop 8 b) x))

module _ (w : Wave) (e : List RawItem) (f : IsForm w.form) (wide_big : w.form ≡ wide → is_big w.id ≡ true) (id_len : length w.id ≡ 4) (has : HasDs64 (is_big w.id) w.ds64) (len : length (inner (new_wave w e)) ≡ new_size w e) where
  rest_of : List ℕ
  rest_of = spell_all (new_children w e) ++ (w.left ++ (the_pad w e ++ w.tail))

  set : (form : Form) → w.form ≡ form → IsForm form → spell_wave (new_wave w e) ≡ with_size w.form (new_size w e) (splice (spell_wave w) (edit_cuts w e))
  unfolding rest_of
  set riff i h =
      let n = new_size w e in
      let k = length (inner w) in
      let rest = spell_all (new_children w e) ++ (w.left ++ (the_pad w e ++ w.tail)) in
      new_spelled w e f len ∙ ap (λ (x : Form). w.id ++ (field_of x n ++ (codes "WAVE" ++ (spell_all (sized_ds64 x n w.ds64) ++ rest)))) i
      ∙ sym (ap (λ (x : Form). with_size x n (splice (spell_wave w) (edit_cuts w e))) i ∙ ap (with_size riff n) (spliced w e f id_len ∙ regroup w.id (field_of w.form k) (spell_all w.ds64) rest)
      ∙ set_riff n w.id (field_of w.form k) (codes "WAVE" ++ (spell_all w.ds64 ++ rest)) id_len (field_len w.form k))
    where
      regroup : (i g d r : List ℕ) → (i ++ (g ++ (codes "WAVE" ++ d))) ++ r ≡ i ++ (g ++ (codes "WAVE" ++ (d ++ r)))
      regroup i g d r = simp append_assoc
  set wide i h = by (is_big w.id) refl has
    where
      by : (t : Bool) → is_big w.id ≡ t → HasDs64 t w.ds64 → spell_wave (new_wave w e) ≡ with_size w.form (new_size w e) (splice (spell_wave w) (edit_cuts w e))
      by false x y = absurd (Rattle.wave_model.proofs.Edited.apart (is_big w.id) x (wide_big i))
      by true x y =
          let d = y.0 in
          let n = new_size w e in
          let k = length (inner w) in
          let rest = spell_all (new_children w e) ++ (w.left ++ (the_pad w e ++ w.tail)) in
          let ones : List ℕ = 255 ∷ 255 ∷ 255 ∷ 255 ∷ [] in
          let head = w.id ++ (ones ++ (codes "WAVE" ++ header_bytes d.form d.id (length d.body))) in
          let d_head : header_bytes d.form d.id (length d.body) ≡ d.id ++ Rattle.std.specs.Int.to_le_bytes w32 (length d.body) = ap (λ (q : Form). header_bytes q d.id (length d.body)) y.2.form_is in
          let head_len : length head ≡ 20 = omega (arith, id_len, ap length d_head, ap length y.2.id_is, length-append w.id (ones ++ (codes "WAVE" ++ header_bytes d.form d.id (length d.body))), length-append d.id (Rattle.std.specs.Int.to_le_bytes w32 (length d.body))) in
          let eight : 8 ≤ length d.body = omega (arith, y.2.long) in
          let new_len : length (to_le_bytes w64 n ++ drop 8 d.body) ≡ length d.body = omega (arith, eight, length-append (to_le_bytes w64 n) (drop 8 d.body), length-drop 8 d.body) in
          new_spelled w e f len ∙ ap (λ (q : Form). w.id ++ (field_of q n ++ (codes "WAVE" ++ (spell_all (sized_ds64 q n w.ds64) ++ rest)))) i
          ∙ ap (λ (ds : List Chunk). w.id ++ (ones ++ (codes "WAVE" ++ (spell_all (map (with_riff_size n) ds) ++ rest)))) y.1
          ∙ ap (λ (m : ℕ). w.id ++ (ones ++ (codes "WAVE" ++ (((header_bytes d.form d.id m ++ ((to_le_bytes w64 n ++ drop 8 d.body) ++ d.pad)) ++ []) ++ rest)))) new_len
          ∙ regroup w.id (header_bytes d.form d.id (length d.body)) (to_le_bytes w64 n ++ drop 8 d.body) d.pad rest
          ∙ sym (ap (λ (q : Form). with_size q n (splice (spell_wave w) (edit_cuts w e))) i
          ∙ ap (with_size wide n) (spliced w e f id_len ∙ ap (λ (q : Form). (w.id ++ (field_of q k ++ (codes "WAVE" ++ spell_all w.ds64))) ++ rest) i ∙ ap (λ (ds : List Chunk). (w.id ++ (ones ++ (codes "WAVE" ++ spell_all ds))) ++ rest) y.1
          ∙ regroup_old w.id (header_bytes d.form d.id (length d.body)) d.body d.pad rest)
          ∙ set_wide n head d.body (d.pad ++ rest) head_len eight)
        where
          regroup : (i h b p r : List ℕ) → i ++ ((255 ∷ 255 ∷ 255 ∷ 255 ∷ []) ++ (codes "WAVE" ++ (((h ++ (b ++ p)) ++ []) ++ r))) ≡ (i ++ ((255 ∷ 255 ∷ 255 ∷ 255 ∷ []) ++ (codes "WAVE" ++ h))) ++ (b ++ (p ++ r))
          regroup i h b p r = ap (λ (x : List ℕ). i ++ ((255 ∷ 255 ∷ 255 ∷ 255 ∷ []) ++ (codes "WAVE" ++ (x ++ r)))) (append-nil (h ++ (b ++ p))) ∙ (simp append_assoc)

          regroup_old : (i h b p r : List ℕ) → (i ++ ((255 ∷ 255 ∷ 255 ∷ 255 ∷ []) ++ (codes "WAVE" ++ ((h ++ (b ++ p)) ++ [])))) ++ r ≡ (i ++ ((255 ∷ 255 ∷ 255 ∷ 255 ∷ []) ++ (codes "WAVE" ++ h))) ++ (b ++ (p ++ r))
          regroup_old i h b p r = ap (λ (x : List ℕ). (i ++ ((255 ∷ 255 ∷ 255 ∷ 255 ∷ []) ++ (codes "WAVE" ++ x))) ++ r) (append-nil (h ++ (b ++ p))) ∙ (simp append_assoc)
  set short i h = absurd h
  set long i h = absurd h
  set to_end i h = absurd h

  pub new_is_spliced : spell_wave (new_wave w e) ≡ with_size w.form (new_size w e) (splice (spell_wave w) (edit_cuts w e))
  new_is_spliced = set w.form refl f

-- ---- the spans ascend

ascend_low : (low mid : ℕ) (b : List Cut) (end : ℕ) → low ≤ mid → Ascend mid b end → Ascend low b end
ascend_low low mid [] end l h = omega arith
ascend_low low mid (c ∷ cs) end l h = (omega (arith, h.0), h.1)

ascend_both : (low : ℕ) (a b : List Cut) (mid end : ℕ) → Ascend low a mid → Ascend mid b end → Ascend low (a ++ b) end
ascend_both low [] b mid end h g = ascend_low low mid b end h g
ascend_both low (c ∷ a) b mid end h g = (h.0, ascend_both (end_of c) a b mid end h.1 g)

pad_ascends : (mid at end : ℕ) (old new : List ℕ) → mid ≤ at → at + length old ≤ end → Ascend mid (pad_cut at old new) end
pad_ascends mid at end old new l h = go (bytes_eq old new)
  where
    go : (t : Bool) → Ascend mid (cond t [] (record { at = at; len = length old; bytes = new } ∷ [])) end
    go true = omega arith
    go false = (l, omega arith)

-- The spans ascend, are disjoint and lie in the old file.
pub spans_ascend : (o : List ℕ) (e : List EditItem) → IsBytes o → Supported o → Ascend 0 (cuts_of o e) (length o)
spans_ascend o e bytes sup =
    let w = wave_of o in
    let r = raw_items (fields o) e in
    let ps = pieces_of w r in
    let n = length (inner w) in
    let old : flat_map old_bytes ps ≡ spell_all w.children = units_old shut (carried (steps r) (cells_of w)) ∙ ap spell_all (was_carried (steps r) (cells_of w) ∙ was_cells w.ds64 w.children) in
    let size : n ≡ 4 + (length (spell_all w.ds64) + (length (spell_all w.children) + length w.left)) = omega (arith, length-append (spell_all w.ds64) (spell_all w.children ++ w.left), length-append (spell_all w.children) w.left) in
    let whole = ap length (spelled_is o bytes sup) in
    let head = header_bytes w.form w.id n in
    let head_len : 8 ≤ length head = long_head w.form (old_form o bytes sup) w.id n (kind_len (take 4 o) sup.form_id) in
    ascend_both 0 (cuts (fill_of w) (children_at w) ps) (pad_cut (8 + n) w.pad (the_pad w r)) (children_at w + length (flat_map old_bytes ps)) (length o) (cuts_ascend (fill_of w) (children_at w) ps 0 (omega arith))
    (pad_ascends (children_at w + length (flat_map old_bytes ps)) (8 + n) (length o) w.pad (the_pad w r) (omega (arith, size, ap length old)) (omega (arith, whole, head_len, length-append (head ++ (inner w ++ w.pad)) w.tail, length-append head (inner w ++ w.pad), length-append (inner w) w.pad)))
  where
    long_head : (form : Form) → IsForm form → (id : List ℕ) (n : ℕ) → length id ≡ 4 → 8 ≤ length (header_bytes form id n)
    long_head riff f id n l = omega (arith, l, length-append id (to_le_bytes w32 n))
    long_head wide f id n l = omega (arith, l, length-append id (255 ∷ 255 ∷ 255 ∷ 255 ∷ []))
    long_head short f id n l = absurd f
    long_head long f id n l = absurd f
    long_head to_end f id n l = absurd f

-- The new file is the old one with its spans replaced and the form's size set.
pub file_spliced : (o : List ℕ) (e : List EditItem) → IsBytes o → Supported o → new_file o e ≡ with_size (wave_of o).form (new_size_of o e) (splice o (cuts_of o e))
unfolding new_file
file_spliced o e bytes sup =
    let w = wave_of o in
    let r = raw_items (fields o) e in
    let fine = form_fine o bytes sup in
    new_is_spliced w r (old_form o bytes sup) (big w.form fine) (kind_len (take 4 o) sup.form_id) (has_ds64 o bytes sup) (length_new o bytes sup r)
    ∙ ap (λ (x : List ℕ). with_size w.form (new_size w r) (splice x (edit_cuts w r))) (sym (spelled_is o bytes sup))
  where
    big : (form : Form) → FormFine form (wave_of o).id (length (inner (wave_of o))) → form ≡ wide → is_big (wave_of o).id ≡ true
    big riff g e = absurd cc
    big wide g e = g
    big short g e = absurd g
    big long g e = absurd g
    big to_end g e = absurd g

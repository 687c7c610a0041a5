-- The new form is the old one with spans replaced and its size set; where an edit has room its patches make it.
use Rattle.std.proofs.Common.{◌≡◌, ℕ, ◌+◌, ◌-◌, ◌^◌, ◌<◌, ◌≤◌, Bool, true, false, cond, eqb, leb, List, [], ◌∷◌, ◌++◌, length, take, drop, refl, sym, ap, ◌∙◌, append_assoc, arith}
use Rattle.std.specs.Prelude.{◌&&◌, ◌%◌}
use Rattle.std.specs.Int.{w32, w64, to_le_bytes}
use Rattle.std.specs.Str.{bytes_eq}
use Rattle.std.specs.List.{flat_map}
use Rattle.std.proofs.lemmas.Bool.{and_parts, cond-true, eqb-true, eq-eqb, leb-true}
use Rattle.std.proofs.lemmas.List.{length-append, length-take, length-drop, take_at, drop_at, drop-drop, take-append-drop}
use Rattle.part_tree.specs.declared.plan.Patch.{Patch}
use Rattle.part_tree.specs.Order.{SoundPatches}
use Rattle.part_tree.specs.Patches.{InOrder, Touches, all_bytes, patched, laid}
use Rattle.container_model.specs.Chunk.{Form, riff, wide, short, long, to_end, header_bytes, spell_all}
use Rattle.container_model.specs.Items.{is_nil}
use Rattle.container_model.specs.Splice.{Cut, end_of, splice, splice_from, Ascend}
use Rattle.container_model.specs.Units.{Cell, Piece, shut, units, lay, cuts, was, old_bytes}
use Rattle.container_model.proofs.Items.{same_true}
use Rattle.container_model.proofs.Places.{cuts_ascend}
use Rattle.container_model.proofs.Units.{BringsPad, From, From-low, splice_past, lay_splices_more, units_old, units_bring, cuts_from}
use Rattle.carrier_model.specs.Room.{units_fit, patch, unit_patches}
use Rattle.carrier_model.specs.RiffForm.{RiffForm, body_of, spelled, ends_file, fill_of, new_children, new_size, new_pad, pad_after, sized_front, new_form, children_at, pad_cut, form_cuts, with_size, size_patch, form_patches, form_room}
use Rattle.carrier_model.proofs.Patches.{overlay_is, patched-append, patched_one, one_patch, order_low, order_patch, touches_behind}
use Rattle.carrier_model.proofs.Fitted.{AllFit, LastOnly, last_units, fitting_length, units_patched, units_in_order, units_cover}
use Rattle.carrier_model.proofs.Room.{riff_fits}

-- ---- its header

-- the field of a form's header
abbrev pub field_of : Form → ℕ → List ℕ
field_of wide n = 255 ∷ 255 ∷ 255 ∷ 255 ∷ []
field_of _ n = to_le_bytes w32 n

-- RIFF's own field, or FFFFFFFF
abbrev pub IsForm : Form → Type 0
IsForm riff = Unit {0}
IsForm wide = Unit {0}
IsForm _ = ⊥

pub header_is : (form : Form) (id : List ℕ) (n : ℕ) → IsForm form → header_bytes form id n ≡ id ++ field_of form n
header_is riff id n f = refl
header_is wide id n f = refl
header_is short id n f = absurd f
header_is long id n f = absurd f
header_is to_end id n f = absurd f

pub field_len : (form : Form) (n : ℕ) → length (field_of form n) ≡ 4
field_len riff n = refl
field_len wide n = refl
field_len short n = refl
field_len long n = refl
field_len to_end n = refl

-- a form whose size has its place
pub record IsRiff (r : RiffForm) : Type 0 where
  pub form_is : IsForm r.form
  pub id_len : length r.id ≡ 4
  pub front_long : r.form ≡ wide → 20 ≤ length r.front

-- the file, in parts
pub spelled_is : (r : RiffForm) → IsForm r.form → spelled r ≡ r.id ++ (field_of r.form (length (body_of r)) ++ (body_of r ++ (r.pad ++ r.tail)))
spelled_is r f = ap (λ (x : List ℕ). (x ++ (body_of r ++ r.pad)) ++ r.tail) (header_is r.form r.id (length (body_of r)) f) ∙ regroup r.id (field_of r.form (length (body_of r))) (body_of r) r.pad r.tail
  where
    regroup : (i g b p t : List ℕ) → ((i ++ g) ++ (b ++ p)) ++ t ≡ i ++ (g ++ (b ++ (p ++ t)))
    regroup i g b p t = simp append_assoc

pub sized_len : (form : Form) (n : ℕ) (front : List ℕ) → (form ≡ wide → 20 ≤ length front) → length (sized_front form n front) ≡ length front
sized_len riff n front l = refl
sized_len wide n front l =
    let long = l refl in
    omega (arith, long, length-append (take 12 front) (to_le_bytes w64 n ++ drop 20 front), length-append (to_le_bytes w64 n) (drop 20 front), length-take 12 front, length-drop 20 front)
sized_len short n front l = refl
sized_len long n front l = refl
sized_len to_end n front l = refl

-- ---- the size set

set_riff : (n : ℕ) (i g x : List ℕ) → length i ≡ 4 → length g ≡ 4 → take 4 (i ++ (g ++ x)) ++ (to_le_bytes w32 n ++ drop 8 (i ++ (g ++ x))) ≡ i ++ (to_le_bytes w32 n ++ x)
set_riff n i g x a b =
    let eight : length (i ++ g) ≡ 8 = omega (arith, a, b, length-append i g) in
    ap (λ (y : List ℕ). y ++ (to_le_bytes w32 n ++ drop 8 (i ++ (g ++ x)))) (take_at i (g ++ x) 4 a)
    ∙ ap (λ (y : List ℕ). i ++ (to_le_bytes w32 n ++ y)) (ap (drop 8) (sym (append_assoc i g x)) ∙ drop_at (i ++ g) x 8 eight)

-- riffSize stands at 20
set_wide : (n : ℕ) (h b x : List ℕ) → length h ≡ 20 → 8 ≤ length b → take 20 (h ++ (b ++ x)) ++ (to_le_bytes w64 n ++ drop 28 (h ++ (b ++ x))) ≡ h ++ ((to_le_bytes w64 n ++ drop 8 b) ++ x)
set_wide n h b x a l =
    let split : b ≡ take 8 b ++ drop 8 b = sym (take-append-drop 8 b) in
    let eight : length (take 8 b) ≡ 8 = omega (arith, l, length-take 8 b) in
    let behind : drop 28 (h ++ (b ++ x)) ≡ drop 8 b ++ x
    = sym (drop-drop 8 20 (h ++ (b ++ x))) ∙ ap (drop 8) (drop_at h (b ++ x) 20 a) ∙ ap (λ (y : List ℕ). drop 8 (y ++ x)) split ∙ ap (drop 8) (append_assoc (take 8 b) (drop 8 b) x) ∙ drop_at (take 8 b) (drop 8 b ++ x) 8 eight in
    ap (λ (y : List ℕ). y ++ (to_le_bytes w64 n ++ drop 28 (h ++ (b ++ x)))) (take_at h (b ++ x) 20 a) ∙ ap (λ (y : List ℕ). h ++ (to_le_bytes w64 n ++ y)) behind
    ∙ ap (λ (y : List ℕ). h ++ y) (sym (append_assoc (to_le_bytes w64 n) (drop 8 b) x))

-- a form's size set, with what stands behind the front
pub size_set : (form : Form) → IsForm form → (k n : ℕ) (id front x : List ℕ) → length id ≡ 4 → (form ≡ wide → 20 ≤ length front)
    → with_size form n (id ++ (field_of form k ++ (front ++ x))) ≡ id ++ (field_of form n ++ (sized_front form n front ++ x))
size_set riff f k n id front x i l = set_riff n id (to_le_bytes w32 k) (front ++ x) i refl
size_set wide f k n id front x i l =
    let ones : List ℕ = 255 ∷ 255 ∷ 255 ∷ 255 ∷ [] in
    let head = id ++ (ones ++ take 12 front) in
    let low = l refl in
    let head_len : length head ≡ 20 = omega (arith, i, low, length-append id (ones ++ take 12 front), length-take 12 front) in
    let rest_len : 8 ≤ length (drop 12 front) = omega (arith, low, length-drop 12 front) in
    let old : id ++ (ones ++ (front ++ x)) ≡ head ++ (drop 12 front ++ x)
    = ap (λ (y : List ℕ). id ++ (ones ++ (y ++ x))) (sym (take-append-drop 12 front)) ∙ regroup id (take 12 front) (drop 12 front) x in
    ap (with_size wide n) old ∙ set_wide n head (drop 12 front) x head_len rest_len
    ∙ ap (λ (y : List ℕ). head ++ ((to_le_bytes w64 n ++ y) ++ x)) (drop-drop 8 12 front) ∙ sym (regroup id (take 12 front) (to_le_bytes w64 n ++ drop 20 front) x)
  where
    regroup : (i a b x : List ℕ) → i ++ ((255 ∷ 255 ∷ 255 ∷ 255 ∷ []) ++ ((a ++ b) ++ x)) ≡ (i ++ ((255 ∷ 255 ∷ 255 ∷ 255 ∷ []) ++ a)) ++ (b ++ x)
    regroup i a b x = simp append_assoc
size_set short f k n id front x i l = absurd f
size_set long f k n id front x i l = absurd f
size_set to_end f k n id front x i l = absurd f

-- ---- the pad

pub pad_from : (at : ℕ) (old new : List ℕ) → From at (pad_cut at old new)
pad_from at old new = go (bytes_eq old new)
  where
    go : (t : Bool) → From at (cond t [] (record { at = at; len = length old; bytes = new } ∷ []))
    go true = tt
    go false = omega arith

pub pad_spliced : (at : ℕ) (old new tail : List ℕ) → splice_from at (old ++ tail) (pad_cut at old new) ≡ new ++ tail
pad_spliced at old new tail = go (bytes_eq old new) refl
  where
    go : (t : Bool) → bytes_eq old new ≡ t → splice_from at (old ++ tail) (cond t [] (record { at = at; len = length old; bytes = new } ∷ [])) ≡ new ++ tail
    go true e = ap (λ (x : List ℕ). x ++ tail) (same_true old new e)
    go false e =
        let a : at - at ≡ 0 = omega arith in
        let b : (at + length old) - at ≡ length old = omega arith in
        rw (a, b, drop_at old tail (length old) refl) refl

from_both : (low : ℕ) (cs last : List Cut) → From low cs → From low last → From low (cs ++ last)
from_both low [] last g h = h
from_both low (c ∷ cs) last g h = g

ascend_low : (low mid : ℕ) (b : List Cut) (end : ℕ) → low ≤ mid → Ascend mid b end → Ascend low b end
ascend_low low mid [] end l h = omega arith
ascend_low low mid (c ∷ cs) end l h = (omega (arith, h.0), h.1)

pub ascend_both : (low : ℕ) (a b : List Cut) (mid end : ℕ) → Ascend low a mid → Ascend mid b end → Ascend low (a ++ b) end
ascend_both low [] b mid end h g = ascend_low low mid b end h g
ascend_both low (c ∷ a) b mid end h g = (h.0, ascend_both (end_of c) a b mid end h.1 g)

pub pad_ascends : (mid at end : ℕ) (old new : List ℕ) → mid ≤ at → at + length old ≤ end → Ascend mid (pad_cut at old new) end
pad_ascends mid at end old new l h = go (bytes_eq old new)
  where
    go : (t : Bool) → Ascend mid (cond t [] (record { at = at; len = length old; bytes = new } ∷ [])) end
    go true = omega arith
    go false = (l, omega arith)

pub none_is : (x : List ℕ) → is_nil x ≡ true → x ≡ []
none_is [] e = refl
none_is (y ∷ x) e = absurd cc

-- a form with its front, size told in it
abbrev pub head_of : RiffForm → ℕ → List ℕ
head_of r n = r.id ++ (field_of r.form n ++ sized_front r.form n r.front)

module _ (r : RiffForm) (xs : List Cell) (is : IsRiff r) (was_is : flat_map was xs ≡ r.children) where
  abbrev ps : List Piece
  ps = units shut xs

  -- what stands behind the chunks
  abbrev pub rest : List ℕ
  rest = r.left ++ (r.pad ++ r.tail)

  pub old_is : flat_map old_bytes (units shut xs) ≡ spell_all r.children
  old_is = units_old shut xs ∙ ap spell_all was_is

  brings : BringsPad (units shut xs)
  brings = units_bring shut xs tt

  body_len : length (body_of r) ≡ length r.front + (length (spell_all r.children) + length r.left)
  body_len = omega (arith, length-append r.front (spell_all r.children ++ r.left), length-append (spell_all r.children) r.left)

  -- the size that is set is the size
  pub length_new : length (body_of (new_form r xs)) ≡ new_size r xs
  length_new =
      let more = spell_all (new_children r xs) ++ r.left in
      omega (arith, sized_len r.form (new_size r xs) r.front is.front_long, length-append (sized_front r.form (new_size r xs) r.front) more, length-append r.front more)

  -- ---- spans

  -- what stands before the chunks
  abbrev before : List ℕ
  before = r.id ++ (field_of r.form (length (body_of r)) ++ r.front)

  before_len : length before ≡ children_at r
  before_len = omega (arith, is.id_len, field_len r.form (length (body_of r)), length-append r.id (field_of r.form (length (body_of r)) ++ r.front), length-append (field_of r.form (length (body_of r))) r.front)

  whole : spelled r ≡ before ++ (spell_all r.children ++ rest)
  whole = spelled_is r is.form_is ∙ regroup r.id (field_of r.form (length (body_of r))) r.front (spell_all r.children) r.left (r.pad ++ r.tail)
    where
      regroup : (i g d c l p : List ℕ) → i ++ (g ++ ((d ++ (c ++ l)) ++ p)) ≡ (i ++ (g ++ d)) ++ (c ++ (l ++ p))
      regroup i g d c l p = simp append_assoc

  -- the old file with the spans replaced
  spliced : splice (spelled r) (form_cuts r xs) ≡ before ++ (spell_all (new_children r xs) ++ (r.left ++ (pad_after r xs ++ r.tail)))
  spliced =
      let fill = fill_of r in
      let n = length (body_of r) in
      let start = children_at r in
      let pad = pad_after r xs in
      let last = pad_cut (8 + n) r.pad pad in
      let far : (start + length (flat_map old_bytes ps)) + length r.left ≡ 8 + n = omega (arith, body_len, ap length old_is) in
      let from : From (start + length (flat_map old_bytes ps)) last = From-low _ (8 + n) last (omega (arith, far)) (pad_from (8 + n) r.pad pad) in
      let here : spelled r ≡ before ++ (flat_map old_bytes ps ++ rest) = whole ∙ ap (λ (x : List ℕ). before ++ (x ++ rest)) (sym old_is) in
      let tail : splice_from (start + length (flat_map old_bytes ps)) rest last ≡ r.left ++ (pad ++ r.tail)
      = splice_past (start + length (flat_map old_bytes ps)) r.left (r.pad ++ r.tail) last (rw far (pad_from (8 + n) r.pad pad)) ∙ rw far (ap (λ (x : List ℕ). r.left ++ x) (pad_spliced (8 + n) r.pad pad r.tail)) in
      let cs = cuts fill start ps ++ last in
      let first : From start cs = from_both start (cuts fill start ps) last (cuts_from fill start ps start (omega arith)) (From-low start _ last (omega arith) from) in
      let zero : 0 + length before ≡ start = omega (arith, before_len) in
      ap (λ (x : List ℕ). splice x cs) here ∙ splice_past 0 before (flat_map old_bytes ps ++ rest) cs (rw zero first)
      ∙ ap (λ (k : ℕ). before ++ splice_from k (flat_map old_bytes ps ++ rest) cs) zero
      ∙ ap (λ (x : List ℕ). before ++ x) (lay_splices_more fill start ps rest last brings from ∙ ap (λ (x : List ℕ). spell_all (lay fill ps) ++ x) tail)

  -- the new file, in parts
  pub new_spelled : spelled (new_form r xs) ≡ r.id ++ (field_of r.form (new_size r xs) ++ (sized_front r.form (new_size r xs) r.front ++ (spell_all (new_children r xs) ++ (r.left ++ (pad_after r xs ++ r.tail)))))
  new_spelled =
      let n = new_form r xs in
      spelled_is n is.form_is ∙ ap (λ (k : ℕ). r.id ++ (field_of r.form k ++ (body_of n ++ (n.pad ++ n.tail)))) length_new
      ∙ regroup r.id (field_of r.form (new_size r xs)) n.front (spell_all n.children) r.left (n.pad ++ n.tail)
    where
      regroup : (i g d c l p : List ℕ) → i ++ (g ++ ((d ++ (c ++ l)) ++ p)) ≡ i ++ (g ++ (d ++ (c ++ (l ++ p))))
      regroup i g d c l p = simp append_assoc

  -- The new file is the old one with its spans replaced and the form's size set.
  pub new_is_spliced : spelled (new_form r xs) ≡ with_size r.form (new_size r xs) (splice (spelled r) (form_cuts r xs))
  new_is_spliced =
      let k = length (body_of r) in
      let n = new_size r xs in
      let more = spell_all (new_children r xs) ++ (r.left ++ (pad_after r xs ++ r.tail)) in
      new_spelled ∙ sym (size_set r.form is.form_is k n r.id r.front more is.id_len is.front_long)
      ∙ ap (with_size r.form n) (sym (spliced ∙ regroup r.id (field_of r.form k) r.front more))
    where
      regroup : (i g d x : List ℕ) → (i ++ (g ++ d)) ++ x ≡ i ++ (g ++ (d ++ x))
      regroup i g d x = simp append_assoc

  -- how long the old file is
  pub spelled_len : length (spelled r) ≡ children_at r + (length (spell_all r.children) + length rest)
  spelled_len = ap length whole ∙ omega (arith, before_len, length-append before (spell_all r.children ++ rest), length-append (spell_all r.children) rest)

  -- The spans ascend, are disjoint and lie in the old file.
  pub spans_ascend : Ascend 0 (form_cuts r xs) (length (spelled r))
  spans_ascend =
      let start = children_at r in
      let n = length (body_of r) in
      ascend_both 0 (cuts (fill_of r) start ps) (pad_cut (8 + n) r.pad (pad_after r xs)) (start + length (flat_map old_bytes ps)) (length (spelled r)) (cuts_ascend (fill_of r) start ps 0 (omega arith))
      (pad_ascends (start + length (flat_map old_bytes ps)) (8 + n) (length (spelled r)) r.pad (pad_after r xs) (omega (arith, body_len, ap length old_is))
      (omega (arith, body_len, spelled_len, length-append r.left (r.pad ++ r.tail), length-append r.pad r.tail)))

  -- ---- in place

  module _ (tells : sized_front r.form (length (body_of r)) r.front ≡ r.front) (fit : units_fit (ends_file r) (units shut xs) ≡ true) where
    all_fit : AllFit (fill_of r) (ends_file r) (units shut xs)
    all_fit = riff_fits (ends_file r) (units shut xs) fit

    only_last : LastOnly (units shut xs)
    only_last = last_units shut xs

    -- what stands behind the chunks where the last slot ends the file
    pub ended_rest : ends_file r ≡ true → (r.left ≡ []) × (r.pad ≡ []) × (r.tail ≡ [])
    ended_rest t =
        let p = and_parts (is_nil r.left) (is_nil r.pad && is_nil r.tail) t in
        let q = and_parts (is_nil r.pad) (is_nil r.tail) p.1 in
        (none_is r.left p.0, none_is r.pad q.0, none_is r.tail q.1)

    nothing_behind : ends_file r ≡ true → r.left ++ (r.pad ++ r.tail) ≡ []
    nothing_behind t = let x = ended_rest t in ap (λ (l : List ℕ). l ++ (r.pad ++ r.tail)) x.0 ∙ ap (λ (l : List ℕ). l ++ r.tail) x.1 ∙ x.2

    -- The form keeps its size, unless the last slot ends the file; and its pad.
    pub size_stays : ends_file r ≡ false → new_size r xs ≡ length (body_of r)
    size_stays t =
        let same = fitting_length (fill_of r) (ends_file r) t (units shut xs) brings all_fit in
        omega (arith, same, body_len, ap length old_is, length-append r.front (spell_all (new_children r xs) ++ r.left), length-append (spell_all (new_children r xs)) r.left)

    pub pad_stays : pad_after r xs ≡ r.pad
    pad_stays = go (ends_file r) refl
      where
        kept_pad : (old n : ℕ) → n ≡ old → new_pad old n r.pad r.tail ≡ r.pad
        kept_pad old n e = cond-true (eqb old n) r.pad _ (eq-eqb old n (sym e))

        no_pad : (old n : ℕ) → new_pad old n [] [] ≡ []
        no_pad old n = side (eqb old n) (eqb (n % 2) 1)
          where
            side : (t u : Bool) → cond {A = List ℕ} t [] (cond (u && false) (0 ∷ []) []) ≡ []
            side true u = refl
            side false true = refl
            side false false = refl

        go : (t : Bool) → ends_file r ≡ t → pad_after r xs ≡ r.pad
        go false t = kept_pad (length (body_of r)) (new_size r xs) (size_stays t)
        go true t =
            let x = ended_rest t in
            ap (λ (p : List ℕ). new_pad (length (body_of r)) (new_size r xs) p r.tail) x.1 ∙ ap (λ (p : List ℕ). new_pad (length (body_of r)) (new_size r xs) [] p) x.2 ∙ no_pad (length (body_of r)) (new_size r xs) ∙ sym x.1

    head_len : (n : ℕ) → length (head_of r n) ≡ children_at r
    head_len n = omega (arith, is.id_len, field_len r.form n, sized_len r.form n r.front is.front_long, length-append r.id (field_of r.form n ++ sized_front r.form n r.front), length-append (field_of r.form n) (sized_front r.form n r.front))

    -- the old file and the new one, as a head and what is behind it
    old_head : spelled r ≡ head_of r (length (body_of r)) ++ (flat_map old_bytes (units shut xs) ++ rest)
    old_head = whole ∙ ap (λ (d : List ℕ). (r.id ++ (field_of r.form (length (body_of r)) ++ d)) ++ (spell_all r.children ++ rest)) (sym tells) ∙ ap (λ (x : List ℕ). head_of r (length (body_of r)) ++ (x ++ rest)) (sym old_is)

    new_head : head_of r (new_size r xs) ++ (spell_all (new_children r xs) ++ rest) ≡ spelled (new_form r xs)
    new_head =
        ap (λ (p : List ℕ). head_of r (new_size r xs) ++ (spell_all (new_children r xs) ++ (r.left ++ (p ++ r.tail)))) (sym pad_stays)
        ∙ sym (new_spelled ∙ regroup r.id (field_of r.form (new_size r xs)) (sized_front r.form (new_size r xs) r.front) (spell_all (new_children r xs) ++ (r.left ++ (pad_after r xs ++ r.tail))))
      where
        regroup : (i g d x : List ℕ) → i ++ (g ++ (d ++ x)) ≡ (i ++ (g ++ d)) ++ x
        regroup i g d x = simp append_assoc

    -- the patch of the size sets it
    size_patched : (form : Form) → IsForm form → (k n : ℕ) (b : List ℕ) → patched (size_patch form k n) b ≡ cond (eqb k n) b (with_size form n b)
    size_patched riff g k n b = go (eqb k n)
      where
        go : (t : Bool) → patched (cond t [] (patch 4 (to_le_bytes w32 n))) b ≡ cond t b (with_size riff n b)
        go true = refl
        go false = patched_one 4 (to_le_bytes w32 n) b ∙ overlay_is 4 (to_le_bytes w32 n) b
    size_patched wide g k n b = go (eqb k n)
      where
        go : (t : Bool) → patched (cond t [] (patch 20 (to_le_bytes w64 n))) b ≡ cond t b (with_size wide n b)
        go true = refl
        go false = patched_one 20 (to_le_bytes w64 n) b ∙ overlay_is 20 (to_le_bytes w64 n) b
    size_patched short g k n b = absurd g
    size_patched long g k n b = absurd g
    size_patched to_end g k n b = absurd g

    head_patched : (y : List ℕ) → patched (size_patch r.form (length (body_of r)) (new_size r xs)) (head_of r (length (body_of r)) ++ y) ≡ head_of r (new_size r xs) ++ y
    head_patched y = size_patched r.form is.form_is (length (body_of r)) (new_size r xs) (head_of r (length (body_of r)) ++ y) ∙ go (eqb (length (body_of r)) (new_size r xs)) refl
      where
        regroup : (i g d x : List ℕ) → (i ++ (g ++ d)) ++ x ≡ i ++ (g ++ (d ++ x))
        regroup i g d x = simp append_assoc

        set : (k n : ℕ) → sized_front r.form k r.front ≡ r.front → with_size r.form n (head_of r k ++ y) ≡ head_of r n ++ y
        set k n t =
            ap (λ (d : List ℕ). with_size r.form n ((r.id ++ (field_of r.form k ++ d)) ++ y)) t ∙ ap (with_size r.form n) (regroup r.id (field_of r.form k) r.front y)
            ∙ size_set r.form is.form_is k n r.id r.front y is.id_len is.front_long ∙ sym (regroup r.id (field_of r.form n) (sized_front r.form n r.front) y)

        go : (t : Bool) → eqb (length (body_of r)) (new_size r xs) ≡ t → cond t (head_of r (length (body_of r)) ++ y) (with_size r.form (new_size r xs) (head_of r (length (body_of r)) ++ y)) ≡ head_of r (new_size r xs) ++ y
        go true i = ap (λ (k : ℕ). head_of r k ++ y) (eqb-true (length (body_of r)) (new_size r xs) i)
        go false i = set (length (body_of r)) (new_size r xs) tells

    patched_new : (m : List ℕ) × (patched (form_patches r xs) (spelled r) ≡ spelled (new_form r xs) ++ m)
    patched_new =
        let y = flat_map old_bytes (units shut xs) ++ rest in
        let us = unit_patches (fill_of r) (children_at r) (units shut xs) in
        let done = units_patched (fill_of r) (ends_file r) (children_at r) (head_of r (new_size r xs)) (units shut xs) rest (head_len (new_size r xs)) only_last brings all_fit (λ t. nothing_behind t) in (
          done.0,
          patched-append (size_patch r.form (length (body_of r)) (new_size r xs)) us (spelled r)
              ∙ ap (patched us) (ap (patched (size_patch r.form (length (body_of r)) (new_size r xs))) old_head ∙ head_patched y)
              ∙ done.1 ∙ ap (λ (z : List ℕ). z ++ done.0) new_head,
        )

    -- how long the new file is
    new_length : length (spelled (new_form r xs)) ≡ children_at r + (length (spell_all (new_children r xs)) + length rest)
    new_length =
        sym (ap length new_head) ∙ omega (arith, head_len (new_size r xs), length-append (head_of r (new_size r xs)) (spell_all (new_children r xs) ++ rest), length-append (spell_all (new_children r xs)) rest)

    size_first : (form : Form) → IsForm form → (form ≡ wide → 28 ≤ children_at r) → (k n new : ℕ) (ps : List Patch) → children_at r ≤ new → InOrder new (children_at r) ps → InOrder new 0 (size_patch form k n ++ ps)
    size_first riff g l k n new ps i h = go (eqb k n)
      where
        inside : 8 ≤ new
        inside = omega (arith, i)

        go : (t : Bool) → InOrder new 0 (cond t [] (patch 4 (to_le_bytes w32 n)) ++ ps)
        go true = order_low new 0 (children_at r) ps (omega arith) h
        go false = order_patch new 0 4 (to_le_bytes w32 n) ps (omega arith) inside (order_low new 8 (children_at r) ps (omega arith) h)
    size_first wide g l k n new ps i h = go (eqb k n)
      where
        inside : 28 ≤ new
        inside = omega (arith, i, l refl)

        go : (t : Bool) → InOrder new 0 (cond t [] (patch 20 (to_le_bytes w64 n)) ++ ps)
        go true = order_low new 0 (children_at r) ps (omega arith) h
        go false = order_patch new 0 20 (to_le_bytes w64 n) ps (omega arith) inside (order_low new 28 (children_at r) ps (l refl) h)
    size_first short g l k n new ps i h = absurd g
    size_first long g l k n new ps i h = absurd g
    size_first to_end g l k n new ps i h = absurd g

    -- The patches are in order and lie in the new file.
    pub ordered : InOrder (length (spelled (new_form r xs))) 0 (form_patches r xs)
    ordered =
        let us = unit_patches (fill_of r) (children_at r) (units shut xs) in
        let long = length (spelled (new_form r xs)) in
        let inside : children_at r + length (spell_all (new_children r xs)) ≤ long = omega (arith, new_length) in
        size_first r.form is.form_is (λ w. omega (arith, is.front_long w)) (length (body_of r)) (new_size r xs) long us (omega (arith, inside))
        (units_in_order (fill_of r) (ends_file r) long (children_at r) (children_at r) (units shut xs) (omega arith) inside only_last brings all_fit)

    -- They cover what the file gains.
    pub covered : (q : ℕ) → length (spelled r) ≤ q → q < length (spelled (new_form r xs)) → Touches q (form_patches r xs)
    covered q low high = go (ends_file r) refl
      where
        go : (t : Bool) → ends_file r ≡ t → Touches q (form_patches r xs)
        go true t =
            let none : length rest ≡ 0 = ap length (nothing_behind t) in
            touches_behind q (size_patch r.form (length (body_of r)) (new_size r xs)) (unit_patches (fill_of r) (children_at r) (units shut xs))
            (units_cover (fill_of r) (ends_file r) (children_at r) (units shut xs) q only_last brings all_fit (omega (arith, low, spelled_len, ap length old_is, none)) (omega (arith, high, new_length, none)))
        go false t =
            let same = fitting_length (fill_of r) (ends_file r) t (units shut xs) brings all_fit in
            absurd (omega (arith, same, low, high, spelled_len, ap length old_is, new_length))

    -- The patches, laid over the old file at the new length, make the new file.
    pub laid_new : laid (length (spelled (new_form r xs))) (form_patches r xs) (spelled r) ≡ spelled (new_form r xs)
    laid_new = let p = patched_new in ap (take (length (spelled (new_form r xs)))) p.1 ∙ take_at (spelled (new_form r xs)) p.0 (length (spelled (new_form r xs))) refl

  -- An edit that has room has sound patches.
  pub sound_in_place : sized_front r.form (length (body_of r)) r.front ≡ r.front → form_room r xs ≡ true
      → (laid (length (spelled (new_form r xs))) (form_patches r xs) (spelled r) ≡ spelled (new_form r xs)) × SoundPatches (length (spelled r)) (length (spelled (new_form r xs))) (form_patches r xs)
  sound_in_place tells room =
      let p = and_parts (units_fit (ends_file r) (units shut xs)) (leb (all_bytes (form_patches r xs)) (2 ^ 24)) room in
      (laid_new tells p.0, record { in_order = ordered tells p.0; few_bytes = leb-true (all_bytes (form_patches r xs)) (2 ^ 24) p.1; cover = covered tells p.0 })

narrow : (t : Bool) (n : ℕ) → length (cond t [] (patch 4 (to_le_bytes w32 n))) ≤ 1
narrow true n = omega arith
narrow false n = one_patch 4 (to_le_bytes w32 n)

-- at most one patch sets the size
pub size_few : (form : Form) (k n : ℕ) → length (size_patch form k n) ≤ 1
size_few wide k n = by (eqb k n)
  where
    by : (t : Bool) → length (cond t [] (patch 20 (to_le_bytes w64 n))) ≤ 1
    by true = omega arith
    by false = one_patch 20 (to_le_bytes w64 n)
size_few riff k n = narrow (eqb k n) n
size_few short k n = narrow (eqb k n) n
size_few long k n = narrow (eqb k n) n
size_few to_end k n = narrow (eqb k n) n

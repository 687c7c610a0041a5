-- What the units of an edit come to in a file, and what that makes of the file.
use Rattle.std.proofs.Common.{◌≡◌, ◌∙◌, ℕ, ◌+◌, ◌-◌, ◌%◌, ◌≤◌, Bool, true, false, cond, eqb, leb, ltb, List, [], ◌∷◌, ◌++◌, length, map, take, drop, refl, sym, ap, subst, arith, append_assoc, append-nil, length-append, length-drop, length-take}
use Rattle.std.specs.Prelude.{◌&&◌, not, codes, replicate}
use Rattle.std.specs.Int.{w32, w64, to_le_bytes}
use Rattle.std.specs.Str.{bytes_eq}
use Rattle.std.specs.List.{flat_map}
use Rattle.std.proofs.lemmas.Bool.{and_parts, cond-true, cond-false, eq-eqb, eqb-true, eqb-false, leb-true, leb-false, lt-ltb}
use Rattle.std.proofs.lemmas.List.{length-map, drop-drop, drop_at, take-append-drop, take_all, nil_from_length}
use Rattle.std.proofs.lemmas.List.Concat.{flat_map-append}
use Rattle.std.proofs.lemmas.Nat.{le_bytes_4, le_bytes_8}
use Rattle.part_tree.specs.declared.field.EditItem.{EditItem}
use Rattle.part_tree.specs.declared.plan.Patch.{Patch}
use Rattle.part_tree.proofs.Places.{bytes_refl, bytes_same}
use Rattle.field_model.specs.Update.{RawItem, raw_items}
use Rattle.container_model.specs.Chunk.{riff, Chunk, pad_len, spell_all}
use Rattle.container_model.specs.Splice.{Ascend, Cut, end_of, splice, splice_from}
use Rattle.container_model.specs.Units.{shut, cuts, old_bytes}
use Rattle.container_model.proofs.Codec.{IsBytes, IsBytes-drop}
use Rattle.container_model.proofs.Fronts.{IsBytes-take}
use Rattle.container_model.proofs.Units.{From, cuts_from, lay_splices, splice_past, units_bring, units_old}
use Rattle.carrier_model.specs.Room.{patch, unit_patches, units_fit}
use Rattle.wave_model.specs.Wave.{is_big, is_wide, Wave, wave_of, inner, form_kind, form_size, behind_form, cells_of}
use Rattle.container_model.specs.Ds64.{le32, le64}
use Rattle.wave_model.specs.Fields.{fields}
use Rattle.wave_model.specs.Carry.{steps}
use Rattle.wave_model.specs.Edited.{Supported, parts, parts_of}
use Rattle.wave_model.specs.New.{ends_file, fill_of, pieces_of, new_children, new_size, sized_ds64, new_wave, new_file, children_at, edit_cuts, cuts_of}
use Rattle.carrier_model.specs.RiffForm.{new_pad, pad_cut, with_size, size_patch}
use Rattle.container_model.specs.Items.{is_nil}
use Rattle.wave_model.specs.Room.{patches_in}
use Rattle.carrier_model.proofs.Steps.{was_carried}
use Rattle.wave_model.proofs.Cells.{was_cells}
use Rattle.wave_model.proofs.Ds64.{HasDs64}
use Rattle.wave_model.proofs.Form.{behind_body, has_ds64, inner_len}
use Rattle.wave_model.proofs.Spans.{file_spliced}
use Rattle.unit_plan.specs.declared.cut.CutAt.{CutAt}
use Rattle.unit_plan.specs.declared.row.UnitCuts.{UnitCuts}
use Rattle.unit_plan.specs.Shapes.{parts_in}
use Rattle.unit_plan.specs.Rows.{Outcome}
use Rattle.unit_plan.specs.Cuts.{SpansAscend, cut_in, patch_of}
use Rattle.unit_plan.specs.Sized.{size_at, size_cut, sized, spliced_len}
use Rattle.unit_plan.proofs.Overlaid.{spliced_length}
use Rattle.unit_plan.proofs.Spliced.{ascend_in, first_cut}
use Rattle.wave_plan.specs.declared.frame.Frame.{Frame}
use Rattle.wave_plan.specs.Frame.{IsFrame, pad_after, tail_len}
use Rattle.wave_plan.specs.Framed.{framed, pad_cuts}
use Rattle.wave_plan.specs.Planned.{ComesTo, StandsIn, edited_cells, part_count}
use Rattle.wave_plan.proofs.Frames.{long_file, wide_low}
use Rattle.wave_plan.proofs.Numbers.{ascend_low, behind_size, behind_units, fit_framed, size_front, whole_ascend}

-- ---- spans that change nothing

ascend_end : (from end : ℕ) (cs : List Cut) → Ascend from cs end → from ≤ end
ascend_end from end [] h = h
ascend_end from end (c ∷ cs) h = omega (arith, h.0, ascend_end (end_of c) end cs h.1)

-- what stands in a span put back there
put_back : (b : List ℕ) (from at len : ℕ) → from ≤ at → take (at - from) (drop from b) ++ (take len (drop at b) ++ drop (at + len) b) ≡ drop from b
put_back b from at len le =
    let next : drop (at + len) b ≡ drop len (drop at b) = sym (drop-drop len at b) in
    let here : drop at b ≡ drop (at - from) (drop from b) = sym (drop-drop (at - from) from b ∙ ap (λ (n : ℕ). drop n b) (omega (arith, le))) in
    ap (λ (x : List ℕ). take (at - from) (drop from b) ++ (take len (drop at b) ++ x)) next
    ∙ ap (λ (x : List ℕ). take (at - from) (drop from b) ++ x) (take-append-drop len (drop at b))
    ∙ ap (λ (x : List ℕ). take (at - from) (drop from b) ++ x) here ∙ take-append-drop (at - from) (drop from b)

same_last : (b : List ℕ) (from : ℕ) (cs : List Cut) (c : Cut) → Ascend from (cs ++ c ∷ []) (length b) → c.bytes ≡ take c.len (drop c.at b)
    → splice_from from (drop from b) (cs ++ c ∷ []) ≡ splice_from from (drop from b) cs
same_last b from [] c h e =
    let next : drop (end_of c - from) (drop from b) ≡ drop (end_of c) b = drop-drop (end_of c - from) from b ∙ ap (λ (n : ℕ). drop n b) (omega (arith, h.0)) in
    ap (λ (x : List ℕ). take (c.at - from) (drop from b) ++ (c.bytes ++ x)) next
    ∙ ap (λ (x : List ℕ). take (c.at - from) (drop from b) ++ (x ++ drop (end_of c) b)) e ∙ put_back b from c.at c.len h.0
same_last b from (k ∷ cs) c h e =
    let next : drop (end_of k - from) (drop from b) ≡ drop (end_of k) b = drop-drop (end_of k - from) from b ∙ ap (λ (n : ℕ). drop n b) (omega (arith, h.0)) in
    ap (λ (x : List ℕ). take (k.at - from) (drop from b) ++ (k.bytes ++ x))
    (ap (λ (x : List ℕ). splice_from (end_of k) x (cs ++ c ∷ [])) next ∙ same_last b (end_of k) cs c h.1 e ∙ sym (ap (λ (x : List ℕ). splice_from (end_of k) x cs) next))

ascend_last : (from mid end : ℕ) (cs : List Cut) (c : Cut) → Ascend from cs mid → mid ≤ c.at → end_of c ≤ end → Ascend from (cs ++ c ∷ []) end
ascend_last from mid end [] c h le inside = (omega (arith, h), inside)
ascend_last from mid end (k ∷ cs) c h le inside = (h.0, ascend_last (end_of k) mid end cs c h.1 le inside)

-- the same of the first span
same_first : (b w : List ℕ) (at : ℕ) (cs : List Cut) → Ascend (at + length w) cs (length b) → w ≡ take (length w) (drop at b) → splice b (record { at = at; len = length w; bytes = w } ∷ cs) ≡ splice b cs
same_first b w at [] h e =
    let zero_at : at - 0 ≡ at = omega arith in
    let zero_end : (at + length w) - 0 ≡ at + length w = omega arith in
    ap (λ (n : ℕ). take (at - 0) b ++ (w ++ drop n b)) zero_end ∙ ap (λ (x : List ℕ). take (at - 0) b ++ (x ++ drop (at + length w) b)) e ∙ put_back b 0 at (length w) (omega arith)
same_first b w at (c ∷ cs) h e =
    let end = at + length w in
    let zero_end : end - 0 ≡ end = omega arith in
    let front = take (at - 0) b in
    let gap = take (c.at - end) (drop end b) in
    let whole : c.at ≡ end + (c.at - end) = omega (arith, h.0) in
    let rest = splice_from (end_of c) (drop (end_of c) b) cs in
    let next : drop (end_of c - end) (drop end b) ≡ drop (end_of c) b = drop-drop (end_of c - end) end b ∙ ap (λ (n : ℕ). drop n b) (omega (arith, h.0)) in
    let zero_c : end_of c - 0 ≡ end_of c = omega arith in
    let zero_at_c : c.at - 0 ≡ c.at = omega arith in
    ap (λ (n : ℕ). front ++ (w ++ splice_from end (drop n b) (c ∷ cs))) zero_end
    ∙ ap (λ (x : List ℕ). front ++ (w ++ (gap ++ (c.bytes ++ splice_from (end_of c) x cs)))) next
    ∙ ap (λ (x : List ℕ). front ++ (x ++ (gap ++ (c.bytes ++ rest)))) e
    ∙ regroup front (take (length w) (drop at b)) gap (c.bytes ++ rest)
    ∙ ap (λ (x : List ℕ). x ++ (c.bytes ++ rest)) (joined b at (length w) c.at h.0)
    ∙ sym (ap (λ (n : ℕ). take n b ++ (c.bytes ++ splice_from (end_of c) (drop (end_of c - 0) b) cs)) zero_at_c ∙ ap (λ (n : ℕ). take c.at b ++ (c.bytes ++ splice_from (end_of c) (drop n b) cs)) zero_c)
  where
    regroup : (a b c d : List ℕ) → a ++ (b ++ (c ++ d)) ≡ (a ++ (b ++ c)) ++ d
    regroup a b c d = simp append_assoc

    joined : (b : List ℕ) (at len to : ℕ) → at + len ≤ to → take (at - 0) b ++ (take len (drop at b) ++ take (to - (at + len)) (drop (at + len) b)) ≡ take to b
    joined b at len to le =
        let z : at - 0 ≡ at = omega arith in
        let one : take len (drop at b) ++ take (to - (at + len)) (drop (at + len) b) ≡ take (to - at) (drop at b) =
        sym (Rattle.unit_plan.proofs.Slots.slot_more b at (at + len) to (omega arith) le ∙ ap (λ (n : ℕ). take n (drop at b) ++ take (to - (at + len)) (drop (at + len) b)) (omega arith))
        in
        let two : take at b ++ take (to - at) (drop at b) ≡ take to b =
        sym (ap (λ (n : ℕ). take n b) (omega arith) ∙ Rattle.unit_plan.proofs.Slots.slot_more b 0 at to (omega arith) (omega (arith, le)) ∙ ap (λ (n : ℕ). take n b ++ take (to - at) (drop at b)) z)
        in
        ap (λ (n : ℕ). take n b ++ (take len (drop at b) ++ take (to - (at + len)) (drop (at + len) b))) z ∙ ap (λ (x : List ℕ). take at b ++ x) one ∙ two

-- ---- the form's pad

-- a span where the pad is, or none where there is none before and after
pub pads_same : (b : List ℕ) (cs : List Cut) (at q : ℕ) (pad new : List ℕ) → new ≡ replicate q 0 → pad ≡ take (length pad) (drop at b) → Ascend 0 (cs ++ record { at = at; len = length pad; bytes = new } ∷ []) (length b)
    → splice b (cs ++ map (cut_in b) (cond (eqb (length pad) 0 && eqb q 0) [] (record { span = record { at = at; len = length pad }; bytes = replicate q 0; keep = 0 } ∷ []))) ≡ splice b (cs ++ pad_cut at pad new)
pads_same b cs at q pad new is stood h = go (eqb (length pad) 0 && eqb q 0) refl
  where
    k : CutAt
    k = record { span = record { at = at; len = length pad }; bytes = replicate q 0; keep = 0 }

    one : cut_in b k ≡ record { at = at; len = length pad; bytes = new }
    one = ap (λ (x : List ℕ). record { at = at; len = length pad; bytes = x }) (append-nil (replicate q 0) ∙ sym is)

    by : (t : Bool) → bytes_eq pad new ≡ t → splice b (cs ++ record { at = at; len = length pad; bytes = new } ∷ []) ≡ splice b (cs ++ cond t [] (record { at = at; len = length pad; bytes = new } ∷ []))
    by false e = refl
    by true e = same_last b 0 cs (record { at = at; len = length pad; bytes = new }) h (sym (bytes_same pad new e) ∙ stood) ∙ ap (splice b) (sym (append-nil cs))

    go : (t : Bool) → (eqb (length pad) 0 && eqb q 0) ≡ t → splice b (cs ++ map (cut_in b) (cond t [] (k ∷ []))) ≡ splice b (cs ++ pad_cut at pad new)
    go true e =
        let p = and_parts (eqb (length pad) 0) (eqb q 0) e in
        let none : pad ≡ [] = nil_from_length pad (eqb-true (length pad) 0 p.0) in
        let nothing : new ≡ [] = is ∙ ap (λ (n : ℕ). replicate n 0) (eqb-true q 0 p.1) in
        sym (ap (λ (x : List ℕ). splice b (cs ++ pad_cut at x new)) none ∙ ap (λ (x : List ℕ). splice b (cs ++ pad_cut at [] x)) nothing)
    go false e = ap (λ (c : Cut). splice b (cs ++ c ∷ [])) one ∙ by (bytes_eq pad new) refl

-- ---- the file

with_is : (t : Bool) (n : ℕ) (x : List ℕ) → with_size (form_kind t) n x ≡ sized t n x
with_is true n x = refl
with_is false n x = refl

size_cut_in : (b : List ℕ) (t : Bool) (n : ℕ) → cut_in b (size_at t n) ≡ size_cut t n
size_cut_in b true n = ap (λ (x : List ℕ). record { at = 20; len = 8; bytes = x }) (append-nil (to_le_bytes w64 n))
size_cut_in b false n = ap (λ (x : List ℕ). record { at = 4; len = 4; bytes = x }) (append-nil (to_le_bytes w32 n))

size_set : (b : List ℕ) (t : Bool) (n : ℕ) (cs : List Cut) → Ascend ((size_at t n).span.at + (size_at t n).span.len) cs (length b) → splice b (size_cut t n ∷ cs) ≡ sized t n (splice b cs)
size_set b true n cs h = first_cut 20 (to_le_bytes w64 n) b cs h
size_set b false n cs h = first_cut 4 (to_le_bytes w32 n) b cs h

pub map-append : (b : List ℕ) (xs ys : List CutAt) → map (cut_in b) (xs ++ ys) ≡ map (cut_in b) xs ++ map (cut_in b) ys
map-append b [] ys = refl
map-append b (x ∷ xs) ys = ap (λ (cs : List Cut). cut_in b x ∷ cs) (map-append b xs ys)

take_again : (n : ℕ) (x : List ℕ) → take n x ≡ take (length (take n x)) x
take_again n x = go (leb n (length x)) refl
  where
    go : (t : Bool) → leb n (length x) ≡ t → take n x ≡ take (length (take n x)) x
    go true e = ap (λ (k : ℕ). take k x) (omega (arith, length-take n x, leb-true n (length x) e))
    go false e = ap (λ (y : List ℕ). y) (take_all n x (omega (arith, leb-false n (length x) e)) ∙ sym (take_all (length (take n x)) x (omega (arith, length-take n x, leb-false n (length x) e))))

pub eqb_sym : (a b : ℕ) → eqb a b ≡ eqb b a
eqb_sym a b = go (eqb a b) refl
  where
    go : (t : Bool) → eqb a b ≡ t → t ≡ eqb b a
    go true e = sym (eq-eqb b a (sym (eqb-true a b e)))
    go false e = sym (by (eqb b a) refl)
      where
        by : (s : Bool) → eqb b a ≡ s → s ≡ false
        by false i = refl
        by true i = absurd (eqb-false a b e (sym (eqb-true b a i)))

-- the pad of a form that has another size
abbrev pub new_pad_by : Wave → ℕ → List ℕ
new_pad_by v n = cond (eqb (n % 2) 1 && not (is_nil v.tail)) (0 ∷ []) []

tail_some : (x : List ℕ) → not (is_nil x) ≡ ltb 0 (length x)
tail_some [] = refl
tail_some (y ∷ x) = sym (lt-ltb 0 (length (y ∷ x)) (omega arith))

pub inner_long : (b : List ℕ) → length (inner (wave_of b)) ≡ 4 + (length (spell_all (wave_of b).ds64) + (length (spell_all (wave_of b).children) + length (wave_of b).left))
inner_long b = omega (arith, length-append (spell_all (wave_of b).ds64) (spell_all (wave_of b).children ++ (wave_of b).left), length-append (spell_all (wave_of b).children) (wave_of b).left)

pub file_long : (b : List ℕ) → IsBytes b → Supported b → length b ≡ 8 + (length (inner (wave_of b)) + (length (wave_of b).pad + length (wave_of b).tail))
file_long b bytes sup =
    omega (arith, long_file b sup, ap length (behind_body b bytes sup), length-drop 8 b, length-append (inner (wave_of b)) ((wave_of b).pad ++ (wave_of b).tail), length-append (wave_of b).pad (wave_of b).tail)

-- what stands behind ds64
pub behind_chunks : (b : List ℕ) → IsBytes b → Supported b → drop (children_at (wave_of b)) b ≡ spell_all (wave_of b).children ++ ((wave_of b).left ++ ((wave_of b).pad ++ (wave_of b).tail))
behind_chunks b bytes sup =
    let v = wave_of b in
    let at = children_at v in
    let front = codes "WAVE" ++ spell_all v.ds64 in
    let after = spell_all v.children ++ (v.left ++ (v.pad ++ v.tail)) in
    let place : at ≡ 8 + (at - 8) = omega arith in
    let size : length front ≡ at - 8 = omega (arith, length-append (codes "WAVE") (spell_all v.ds64)) in
    ap (λ (n : ℕ). drop n b) place ∙ sym (drop-drop (at - 8) 8 b) ∙ ap (drop (at - 8)) (behind_body b bytes sup ∙ regroup (spell_all v.ds64) (spell_all v.children) v.left (v.pad ++ v.tail)) ∙ drop_at front after (at - 8) size
  where
    regroup : (d c l t : List ℕ) → (codes "WAVE" ++ (d ++ (c ++ l))) ++ t ≡ (codes "WAVE" ++ d) ++ (c ++ (l ++ t))
    regroup d c l t = simp append_assoc

module _ (b : List ℕ) (e : List EditItem) (bytes : IsBytes b) (sup : Supported b) (f : Frame) (fr : IsFrame b f) (u : UnitCuts) (comes : ComesTo b e u) (st : StandsIn f u) where
  whole : SpansAscend 0 u.cuts.items f.len
  whole = whole_ascend f u st

  w : Wave
  w = wave_of b

  r : List RawItem
  r = raw_items (fields b) e

  pub cuts_are : map (cut_in b) u.cuts.items ≡ cuts (fill_of (wave_of b)) (children_at (wave_of b)) (pieces_of (wave_of b) (raw_items (fields b) e))
  cuts_are = ap (λ (o : Outcome). o.cuts) comes

  pub patches_are : flat_map patch_of u.cuts.items ≡ unit_patches (fill_of (wave_of b)) (children_at (wave_of b)) (pieces_of (wave_of b) (raw_items (fields b) e))
  patches_are = ap (λ (o : Outcome). o.patches) comes

  pub fits_are : u.fits ≡ units_fit (ends_file (wave_of b)) (pieces_of (wave_of b) (raw_items (fields b) e))
  fits_are = ap (λ (o : Outcome). o.fits) comes

  pub parts_are : u.parts ≡ parts_in part_count (new_children (wave_of b) (raw_items (fields b) e))
  parts_are = ap (λ (o : Outcome). o.parts) comes

  old_is : flat_map old_bytes (pieces_of (wave_of b) (raw_items (fields b) e)) ≡ spell_all (wave_of b).children
  old_is = units_old shut (edited_cells b e) ∙ ap spell_all (was_carried (steps (raw_items (fields b) e)) (cells_of (wave_of b)) ∙ was_cells (wave_of b).ds64 (wave_of b).children)

  -- what is behind the chunks
  rest : List ℕ
  rest = (wave_of b).left ++ ((wave_of b).pad ++ (wave_of b).tail)

  long : 12 ≤ length b
  long = long_file b sup

  tail_long : tail_len f ≡ length (wave_of b).tail
  tail_long = omega (arith, fr.len, fr.size, fr.pad, file_long b bytes sup)

  -- the file, cut where the chunks behind ds64 begin
  behind_front : drop (children_at (wave_of b)) b ≡ flat_map old_bytes (pieces_of (wave_of b) (raw_items (fields b) e)) ++ ((wave_of b).left ++ ((wave_of b).pad ++ (wave_of b).tail))
  behind_front = behind_chunks b bytes sup ∙ ap (λ (x : List ℕ). x ++ ((wave_of b).left ++ ((wave_of b).pad ++ (wave_of b).tail))) (sym old_is)

  -- the file with the units' spans replaced
  units_spliced : splice b (map (cut_in b) u.cuts.items) ≡ take (children_at (wave_of b)) b ++ (spell_all (new_children (wave_of b) (raw_items (fields b) e)) ++ ((wave_of b).left ++ ((wave_of b).pad ++ (wave_of b).tail)))
  units_spliced =
      let v = wave_of b in
      let q = raw_items (fields b) e in
      let ps = pieces_of v q in
      let at = children_at v in
      let after = v.left ++ (v.pad ++ v.tail) in
      let cs = cuts (fill_of v) at ps in
      let head = take at b in
      let inside : at ≤ length b = omega (arith, file_long b bytes sup, inner_long b) in
      let head_long : 0 + length head ≡ at = omega (arith, length-take at b, inside) in
      ap (splice b) cuts_are
      ∙ ap (λ (x : List ℕ). splice x cs) (sym (take-append-drop at b) ∙ ap (λ (x : List ℕ). head ++ x) behind_front)
      ∙ splice_past 0 head (flat_map old_bytes ps ++ after) cs (subst (λ (n : ℕ). From n cs) (sym head_long) (cuts_from (fill_of v) at ps at (omega arith)))
      ∙ ap (λ (n : ℕ). head ++ splice_from n (flat_map old_bytes ps ++ after) cs) head_long
      ∙ ap (λ (x : List ℕ). head ++ x) (lay_splices (fill_of v) at ps after (units_bring shut (edited_cells b e) tt))

  -- the size of the new form
  pub size_told : (moved n : ℕ) → moved ≡ spliced_len f.len u.cuts.items → n + f.len ≡ moved + f.size → n ≡ new_size (wave_of b) (raw_items (fields b) e)
  size_told moved n is sum =
      let v = wave_of b in
      let new = new_children v (raw_items (fields b) e) in
      let at = children_at v in
      let after = v.left ++ (v.pad ++ v.tail) in
      let inside : at ≤ length b = omega (arith, file_long b bytes sup, inner_long b) in
      let all : length (splice b (map (cut_in b) u.cuts.items)) ≡ spliced_len f.len u.cuts.items = spliced_length b f.len u.cuts.items (sym fr.len) whole in
      let told : moved ≡ at + (length (spell_all new) + length after) =
      omega (arith, is, all, ap length units_spliced, inside, length-take at b, length-append (take at b) (spell_all new ++ after), length-append (spell_all new) after)
      in
      omega (arith, told, sum, fr.len, fr.size, file_long b bytes sup, inner_long b, length-append v.left (v.pad ++ v.tail), length-append v.pad v.tail, length-append (spell_all v.ds64) (spell_all new ++ v.left), length-append (spell_all new) v.left)

  -- ---- the new file

  n_old : ℕ
  n_old = length (inner (wave_of b))

  low_units : (t : Bool) → f.wide ≡ t → (n : ℕ) → Ascend ((size_at t n).span.at + (size_at t n).span.len) (map (cut_in b) u.cuts.items) (length b)
  low_units t i n =
      subst (λ (s : Bool). Ascend ((size_at s n).span.at + (size_at s n).span.len) (map (cut_in b) u.cuts.items) (length b)) i
      (subst (Ascend ((size_at f.wide n).span.at + (size_at f.wide n).span.len) (map (cut_in b) u.cuts.items)) fr.len (ascend_in ((size_at f.wide n).span.at + (size_at f.wide n).span.len) f.len u.cuts.items b (behind_units f u st n)))

  -- what stands where the form's size is
  size_stood : splice b (size_cut (is_wide b) (length (inner (wave_of b))) ∷ map (cut_in b) u.cuts.items) ≡ splice b (map (cut_in b) u.cuts.items)
  size_stood = go (is_wide b) refl
    where
      n : ℕ
      n = length (inner (wave_of b))

      go : (t : Bool) → is_wide b ≡ t → splice b (size_cut t (length (inner (wave_of b))) ∷ map (cut_in b) u.cuts.items) ≡ splice b (map (cut_in b) u.cuts.items)
      go true i =
          let n = length (inner (wave_of b)) in
          let far = wide_low b bytes sup (children_at (wave_of b)) refl i in
          let size : n ≡ le64 (drop 20 b) = inner_len b bytes sup ∙ cond-true (is_wide b) (le64 (drop 20 b)) (le32 (drop 4 b)) i in
          let here : to_le_bytes w64 n ≡ take 8 (drop 20 b) = le_bytes_8 (take 8 (drop 20 b)) n (omega (arith, far, file_long b bytes sup, inner_long b, length-take 8 (drop 20 b), length-drop 20 b)) (IsBytes-take 8 (drop 20 b) (IsBytes-drop 20 b bytes)) size in
          same_first b (to_le_bytes w64 n) 20 (map (cut_in b) u.cuts.items) (low_units true (fr.wide ∙ i) n) here
      go false i =
          let n = length (inner (wave_of b)) in
          let size : n ≡ le32 (drop 4 b) = inner_len b bytes sup ∙ cond-false (is_wide b) (le64 (drop 20 b)) (le32 (drop 4 b)) i in
          let here : to_le_bytes w32 n ≡ take 4 (drop 4 b) = le_bytes_4 (take 4 (drop 4 b)) n (omega (arith, long, length-take 4 (drop 4 b), length-drop 4 b)) (IsBytes-take 4 (drop 4 b) (IsBytes-drop 4 b bytes)) size in
          same_first b (to_le_bytes w32 n) 4 (map (cut_in b) u.cuts.items) (low_units false (fr.wide ∙ i) n) here

  -- the pad that is there
  pub pad_stood : (wave_of b).pad ≡ take (length (wave_of b).pad) (drop (8 + length (inner (wave_of b))) b)
  pad_stood =
      let behind : behind_form b ≡ drop (8 + length (inner (wave_of b))) b = drop-drop (form_size b) 8 b ∙ ap (λ (n : ℕ). drop (8 + n) b) (sym (inner_len b bytes sup)) in
      take_again (pad_len riff (form_size b)) (behind_form b) ∙ ap (take (length (wave_of b).pad)) behind

  -- the pad that is to be there
  pub pad_told : (n : ℕ) → new_pad_by (wave_of b) n ≡ replicate (pad_after f n) 0
  pad_told n = ap (λ (t : Bool). cond {A = List ℕ} (eqb (n % 2) 1 && t) (0 ∷ []) []) (tail_some (wave_of b).tail ∙ ap (ltb 0) (sym tail_long)) ∙ by (eqb (n % 2) 1 && ltb 0 (tail_len f))
    where
      by : (t : Bool) → cond {A = List ℕ} t (0 ∷ []) [] ≡ replicate (cond t 1 0) 0
      by true = refl
      by false = refl

  pad_ascends : (new : List ℕ) → Ascend 0 (map (cut_in b) u.cuts.items ++ record { at = 8 + length (inner (wave_of b)); len = length (wave_of b).pad; bytes = new } ∷ []) (length b)
  pad_ascends new =
      ascend_last 0 st.end (length b) (map (cut_in b) u.cuts.items) (record { at = 8 + length (inner (wave_of b)); len = length (wave_of b).pad; bytes = new })
      (ascend_in 0 st.end u.cuts.items b (ascend_low 0 st.from st.end u.cuts.items (omega arith) st.ascend)) (omega (arith, st.round.high, fr.size)) (omega (arith, file_long b bytes sup))

  -- the pads of the two, where the size changes
  pads_told : (n : ℕ) (new : List ℕ) → new ≡ replicate (pad_after f n) 0
      → splice b (map (cut_in b) (u.cuts.items ++ pad_cuts f n)) ≡ splice b (map (cut_in b) u.cuts.items ++ pad_cut (8 + length (inner (wave_of b))) (wave_of b).pad new)
  pads_told n new is =
      let cs = map (cut_in b) u.cuts.items in
      let q = pad_after f n in
      let at = 8 + length (inner (wave_of b)) in
      ap (splice b) (map-append b u.cuts.items (pad_cuts f n))
      ∙ ap (λ (k : ℕ). splice b (cs ++ map (cut_in b) (cond (eqb f.pad 0 && eqb q 0) [] (record { span = record { at = 8 + k; len = f.pad }; bytes = replicate q 0; keep = 0 } ∷ [])))) fr.size
      ∙ ap (λ (k : ℕ). splice b (cs ++ map (cut_in b) (cond (eqb k 0 && eqb q 0) [] (record { span = record { at = at; len = k }; bytes = replicate q 0; keep = 0 } ∷ [])))) fr.pad
      ∙ pads_same b cs at q (wave_of b).pad new is pad_stood (pad_ascends new)

  -- the spans of the file with the size and the pad make the new file
  pub makes_new : (n : ℕ) → n ≡ new_size (wave_of b) (raw_items (fields b) e) → splice b (map (cut_in b) (framed f n u.cuts.items)) ≡ new_file b e
  makes_new n is = go (eqb n f.size) refl ∙ sym (file_spliced b e bytes sup)
    where
      go : (t : Bool) → eqb n f.size ≡ t
          → splice b (map (cut_in b) (cond t u.cuts.items (size_at f.wide n ∷ (u.cuts.items ++ pad_cuts f n)))) ≡ with_size (wave_of b).form (new_size (wave_of b) (raw_items (fields b) e)) (splice b (edit_cuts (wave_of b) (raw_items (fields b) e)))
      go true i =
          let v = wave_of b in
          let big = new_size v (raw_items (fields b) e) in
          let old = length (inner v) in
          let cs = map (cut_in b) u.cuts.items in
          let same : old ≡ big = sym fr.size ∙ sym (eqb-true n f.size i) ∙ is in
          let pad : new_pad old big v.pad v.tail ≡ v.pad = cond-true (eqb old big) v.pad (new_pad_by v big) (eq-eqb old big same) in
          let nothing : pad_cut (8 + old) v.pad (new_pad old big v.pad v.tail) ≡ [] =
          ap (pad_cut (8 + old) v.pad) pad ∙ cond-true (bytes_eq v.pad v.pad) [] (record { at = 8 + old; len = length v.pad; bytes = v.pad } ∷ []) (bytes_refl v.pad)
          in
          let all : splice b (edit_cuts v (raw_items (fields b) e)) ≡ splice b cs =
          ap (λ (x : List Cut). splice b (cuts (fill_of v) (children_at v) (pieces_of v (raw_items (fields b) e)) ++ x)) nothing
          ∙ ap (splice b) (append-nil (cuts (fill_of v) (children_at v) (pieces_of v (raw_items (fields b) e)))) ∙ ap (splice b) (sym cuts_are)
          in
          sym (
          ap (with_size v.form big) all ∙ ap (λ (k : ℕ). with_size v.form k (splice b cs)) (sym same) ∙ with_is (is_wide b) old (splice b cs)
          ∙ sym (size_set b (is_wide b) old cs (low_units (is_wide b) fr.wide old)) ∙ size_stood
          )
      go false i =
          let v = wave_of b in
          let big = new_size v (raw_items (fields b) e) in
          let old = length (inner v) in
          let cs = map (cut_in b) u.cuts.items in
          let unlike : eqb old big ≡ false = ap (λ (k : ℕ). eqb k big) (sym fr.size) ∙ ap (eqb f.size) (sym is) ∙ eqb_sym f.size n ∙ i in
          let new = new_pad old big v.pad v.tail in
          let pad : new ≡ replicate (pad_after f n) 0 = cond-false (eqb old big) v.pad (new_pad_by v big) unlike ∙ ap (new_pad_by v) (sym is) ∙ pad_told n in
          let low : Ascend ((size_at f.wide n).span.at + (size_at f.wide n).span.len) (map (cut_in b) (u.cuts.items ++ pad_cuts f n)) (length b) =
          subst (Ascend ((size_at f.wide n).span.at + (size_at f.wide n).span.len) (map (cut_in b) (u.cuts.items ++ pad_cuts f n))) fr.len
          (ascend_in ((size_at f.wide n).span.at + (size_at f.wide n).span.len) f.len (u.cuts.items ++ pad_cuts f n) b (behind_size f u st n))
          in
          ap (λ (c : Cut). splice b (c ∷ map (cut_in b) (u.cuts.items ++ pad_cuts f n))) (size_cut_in b f.wide n)
          ∙ size_set b f.wide n (map (cut_in b) (u.cuts.items ++ pad_cuts f n)) low
          ∙ ap (sized f.wide n) (pads_told n new pad ∙ ap (λ (x : List Cut). splice b (x ++ pad_cut (8 + old) v.pad new)) cuts_are)
          ∙ ap (λ (t : Bool). sized t n (splice b (edit_cuts v (raw_items (fields b) e)))) fr.wide
          ∙ sym (with_is (is_wide b) n (splice b (edit_cuts v (raw_items (fields b) e))))
          ∙ ap (λ (k : ℕ). with_size v.form k (splice b (edit_cuts v (raw_items (fields b) e)))) is

  -- ---- the patches

  size_patched : (t : Bool) (n old : ℕ) → flat_map patch_of (cond (eqb n old) [] (size_at t n ∷ [])) ≡ size_patch (form_kind t) old n
  size_patched t n old = go t (eqb n old) ∙ turn t
    where
      bare : Bool → Bool → List Patch
      bare true s = cond s [] (patch 20 (to_le_bytes w64 n))
      bare false s = cond s [] (patch 4 (to_le_bytes w32 n))

      go : (t s : Bool) → flat_map patch_of (cond s [] (size_at t n ∷ [])) ≡ bare t s
      go true true = refl
      go false true = refl
      go true false = append-nil (patch 20 (to_le_bytes w64 n))
      go false false = append-nil (patch 4 (to_le_bytes w32 n))

      turn : (t : Bool) → bare t (eqb n old) ≡ size_patch (form_kind t) old n
      turn true = ap (bare true) (eqb_sym n old)
      turn false = ap (bare false) (eqb_sym n old)

  -- Where the units fit, the patches are those of the edit.
  pub patches_told : (n : ℕ) → n + f.len ≡ spliced_len f.len u.cuts.items + f.size → n ≡ new_size (wave_of b) (raw_items (fields b) e) → u.fits ≡ true
      → flat_map patch_of (framed f n u.cuts.items) ≡ patches_in (wave_of b) (raw_items (fields b) e)
  patches_told n sum is fit =
      let v = wave_of b in
      let big = new_size v (raw_items (fields b) e) in
      ap (flat_map patch_of) (fit_framed f u st n sum fit)
      ∙ flat_map-append patch_of (size_front f n) u.cuts.items
      ∙ ap (λ (x : List Patch). x ++ flat_map patch_of u.cuts.items) (size_patched f.wide n f.size ∙ ap (λ (t : Bool). size_patch (form_kind t) f.size n) fr.wide ∙ ap (λ (k : ℕ). size_patch v.form k n) fr.size ∙ ap (size_patch v.form (length (inner v))) is)
      ∙ ap (λ (x : List Patch). size_patch v.form (length (inner v)) big ++ x) patches_are

  -- ---- the parts

  pub counted : (cs : List Chunk) → parts_in part_count cs ≡ length (flat_map parts_of cs)
  counted [] = refl
  counted (c ∷ cs) = omega (arith, counted cs, length-append (parts_of c) (flat_map parts_of cs))

  tables : (t : Bool) (ds : List Chunk) (n : ℕ) → length (sized_ds64 (form_kind t) n ds) ≡ length ds
  tables true ds n = length-map ds (Rattle.wave_model.specs.New.with_riff_size n)
  tables false ds n = refl

  table_parts : (t : Bool) → is_big (take 4 b) ≡ t → length (wave_of b).ds64 ≡ cond t 1 0
  table_parts t i = go t (subst (λ (s : Bool). HasDs64 s (wave_of b).ds64) i (has_ds64 b bytes sup))
    where
      go : (t : Bool) → HasDs64 t (wave_of b).ds64 → length (wave_of b).ds64 ≡ cond t 1 0
      go true h = ap (λ (ds : List Chunk). length ds) h.1
      go false h = ap (λ (ds : List Chunk). length ds) h

  pub parts_told : (n : ℕ) → n ≡ u.parts + cond f.big 1 0 → n ≡ parts (new_wave (wave_of b) (raw_items (fields b) e))
  parts_told n is =
      let v = wave_of b in
      let new = new_children v (raw_items (fields b) e) in
      let table : cond f.big 1 0 ≡ length (sized_ds64 v.form (new_size v (raw_items (fields b) e)) v.ds64) =
      ap (λ (t : Bool). cond {A = ℕ} t 1 0) fr.big ∙ sym (table_parts (is_big (take 4 b)) refl) ∙ sym (tables (is_wide b) v.ds64 (new_size v (raw_items (fields b) e)))
      in
      omega (arith, is, table, parts_are, counted new)

-- Where an edit has room, its patches make the new file.
use Rattle.std.proofs.Common.{◌≡◌, ℕ, ◌+◌, ◌^◌, ◌<◌, ◌≤◌, Bool, true, false, cond, eqb, leb, List, [], ◌∷◌, ◌++◌, length, map, take, drop, refl, sym, ap, ◌∙◌, append_assoc, arith}
use Rattle.std.specs.Prelude.{◌&&◌, ◌%◌, not, codes}
use Rattle.std.specs.Int.{w32, w64, to_le_bytes}
use Rattle.std.specs.List.{flat_map}
use Rattle.std.proofs.lemmas.Bool.{and_parts, cond-true, eqb-true, eq-eqb, leb-true}
use Rattle.std.proofs.lemmas.List.{append-nil, length-append, length-drop, take_at}
use Rattle.part_tree.specs.declared.field.EditItem.{EditItem}
use Rattle.part_tree.specs.declared.plan.Patch.{Patch}
use Rattle.part_tree.specs.Patches.{InOrder, Touches, all_bytes, patched, laid}
use Rattle.field_model.specs.Update.{RawItem, raw_items}
use Rattle.container_model.specs.Chunk.{Form, riff, wide, short, long, to_end, Chunk, header_bytes, spell_all}
use Rattle.container_model.specs.Units.{shut, old_bytes}
use Rattle.container_model.proofs.Codec.{IsBytes}
use Rattle.container_model.proofs.Units.{BringsPad, units_old, units_bring}
use Rattle.carrier_model.specs.Room.{units_fit, patch, unit_patches}
use Rattle.carrier_model.proofs.Patches.{overlay_is, patched-append, patched_one, order_low, order_patch, touches_behind}
use Rattle.carrier_model.proofs.Fitted.{AllFit, LastOnly, last_units, fitting_length, units_patched, units_in_order, units_cover}
use Rattle.carrier_model.proofs.Room.{riff_fits}
use Rattle.wave_model.specs.Wave.{is_big, Wave, wave_of, inner, spell_wave, cells_of}
use Rattle.wave_model.specs.Fields.{fields}
use Rattle.wave_model.specs.Carry.{steps}
use Rattle.carrier_model.specs.Steps.{carried}
use Rattle.wave_model.specs.New.{ends_file, fill_of, pieces_of, new_children, new_size, with_riff_size, sized_ds64, new_wave, new_file, children_at}
use Rattle.carrier_model.specs.RiffForm.{new_pad, with_size, size_patch}
use Rattle.container_model.specs.Items.{is_nil}
use Rattle.wave_model.specs.Edited.{Supported}
use Rattle.wave_model.specs.Room.{patches_in, patches, has_room, Room}
use Rattle.part_tree.specs.Order.{SoundPatches}
use Rattle.carrier_model.proofs.Steps.{was_carried}
use Rattle.wave_model.proofs.Cells.{was_cells}
use Rattle.wave_model.proofs.Again.{FormFine, spelled}
use Rattle.carrier_model.proofs.RiffForm.{field_of, IsForm, field_len}
use Rattle.wave_model.proofs.Ds64.{HasDs64}
use Rattle.wave_model.proofs.Form.{form_fine, old_form, spelled_is, has_ds64}
use Rattle.wave_model.proofs.Edited.{apart, kind_len, sized, total_len, length_new}
use Rattle.wave_model.proofs.Law.{same_ds64}
use Rattle.wave_model.proofs.Spans.{set_riff, set_wide, new_spelled}

-- what stands before the chunks of the form behind ds64, where the form has a size
abbrev front : Wave → ℕ → List ℕ
front w n = w.id ++ (field_of w.form n ++ (codes "WAVE" ++ spell_all (sized_ds64 w.form n w.ds64)))

module _ (o : List ℕ) (bytes : IsBytes o) (sup : Supported o) (e : List RawItem) where
  id_len : length (take 4 o) ≡ 4
  id_len = kind_len (take 4 o) sup.form_id

  front_len : length (front (wave_of o) (new_size (wave_of o) e)) ≡ children_at (wave_of o)
  front_len =
      let n = new_size (wave_of o) e in
      let v = wave_of o in
      let ds = sized_ds64 v.form n v.ds64 in
      omega (arith, id_len, field_len v.form n, total_len (is_big (take 4 o)) v.form n v.ds64 (sized o bytes sup e), length-append v.id (field_of v.form n ++ (codes "WAVE" ++ spell_all ds)), length-append (field_of v.form n) (codes "WAVE" ++ spell_all ds), length-append (codes "WAVE") (spell_all ds))

  -- the old file, as a front and what is behind it
  old_front : (y : List ℕ) → spell_all (wave_of o).children ++ ((wave_of o).left ++ ((wave_of o).pad ++ (wave_of o).tail)) ≡ y → o ≡ front (wave_of o) (length (inner (wave_of o))) ++ y
  old_front y b =
      let v = wave_of o in
      let k = length (inner v) in
      spelled_is o bytes sup ∙ spelled v (old_form o bytes sup) ∙ regroup v.id (field_of v.form k) (spell_all v.ds64) (spell_all v.children) v.left (v.pad ++ v.tail)
      ∙ ap (λ (ds : List Chunk). (v.id ++ (field_of v.form k ++ (codes "WAVE" ++ spell_all ds))) ++ (spell_all v.children ++ (v.left ++ (v.pad ++ v.tail)))) (sym (same_ds64 o bytes sup))
      ∙ ap (λ (z : List ℕ). front v k ++ z) b
    where
      regroup : (i g d c l r : List ℕ) → i ++ (g ++ ((codes "WAVE" ++ (d ++ (c ++ l))) ++ r)) ≡ (i ++ (g ++ (codes "WAVE" ++ d))) ++ (c ++ (l ++ r))
      regroup i g d c l r = simp append_assoc

  big : (form : Form) → FormFine form (take 4 o) (length (inner (wave_of o))) → form ≡ wide → is_big (take 4 o) ≡ true
  big riff g x = absurd cc
  big wide g x = g
  big short g x = absurd g
  big long g x = absurd g
  big to_end g x = absurd g

  -- setting the size changes the front alone
  set_front : (n : ℕ) (y : List ℕ) → with_size (wave_of o).form n (front (wave_of o) (length (inner (wave_of o))) ++ y) ≡ front (wave_of o) n ++ y
  set_front n y = go (wave_of o).form refl (old_form o bytes sup)
    where
      regroup : (i g d r : List ℕ) → (i ++ (g ++ (codes "WAVE" ++ d))) ++ r ≡ i ++ (g ++ (codes "WAVE" ++ (d ++ r)))
      regroup i g d r = simp append_assoc

      regroup_wide : (i h b p r : List ℕ) → (i ++ ((255 ∷ 255 ∷ 255 ∷ 255 ∷ []) ++ (codes "WAVE" ++ ((h ++ (b ++ p)) ++ [])))) ++ r ≡ (i ++ ((255 ∷ 255 ∷ 255 ∷ 255 ∷ []) ++ (codes "WAVE" ++ h))) ++ (b ++ (p ++ r))
      regroup_wide i h b p r = ap (λ (x : List ℕ). (i ++ ((255 ∷ 255 ∷ 255 ∷ 255 ∷ []) ++ (codes "WAVE" ++ x))) ++ r) (append-nil (h ++ (b ++ p))) ∙ (simp append_assoc)

      by : (t : Bool) → is_big (take 4 o) ≡ t → HasDs64 t (wave_of o).ds64 → (wave_of o).form ≡ wide → with_size wide n ((take 4 o ++ ((255 ∷ 255 ∷ 255 ∷ 255 ∷ []) ++ (codes "WAVE" ++ spell_all (map (with_riff_size (length (inner (wave_of o)))) (wave_of o).ds64)))) ++ y)
          ≡ (take 4 o ++ ((255 ∷ 255 ∷ 255 ∷ 255 ∷ []) ++ (codes "WAVE" ++ spell_all (map (with_riff_size n) (wave_of o).ds64)))) ++ y
      by false x h i = absurd (apart (is_big (take 4 o)) x (big (wave_of o).form (form_fine o bytes sup) i))
      by true x h i =
          let d = h.0 in
          let ones : List ℕ = 255 ∷ 255 ∷ 255 ∷ 255 ∷ [] in
          let body : ℕ → List ℕ = λ m. to_le_bytes w64 m ++ drop 8 d.body in
          let size : (m : ℕ) → length (body m) ≡ length d.body = λ m. omega (arith, h.2.long, length-append (to_le_bytes w64 m) (drop 8 d.body), length-drop 8 d.body) in
          let head = take 4 o ++ (ones ++ (codes "WAVE" ++ header_bytes d.form d.id (length d.body))) in
          let d_head : header_bytes d.form d.id (length d.body) ≡ d.id ++ to_le_bytes w32 (length d.body) = ap (λ (q : Form). header_bytes q d.id (length d.body)) h.2.form_is in
          let head_len : length head ≡ 20 = omega (arith, id_len, ap length d_head, ap length h.2.id_is, length-append (take 4 o) (ones ++ (codes "WAVE" ++ header_bytes d.form d.id (length d.body))), length-append d.id (to_le_bytes w32 (length d.body))) in
          let whole : (m : ℕ) → (take 4 o ++ (ones ++ (codes "WAVE" ++ spell_all (map (with_riff_size m) (wave_of o).ds64)))) ++ y ≡ head ++ (body m ++ (d.pad ++ y))
          = λ m. ap (λ (ds : List Chunk). (take 4 o ++ (ones ++ (codes "WAVE" ++ spell_all (map (with_riff_size m) ds)))) ++ y) h.1
          ∙ ap (λ (q : ℕ). (take 4 o ++ (ones ++ (codes "WAVE" ++ ((header_bytes d.form d.id q ++ (body m ++ d.pad)) ++ [])))) ++ y) (size m)
          ∙ regroup_wide (take 4 o) (header_bytes d.form d.id (length d.body)) (body m) d.pad y in
          let same : drop 8 (body (length (inner (wave_of o)))) ≡ drop 8 d.body = Rattle.std.proofs.lemmas.List.drop_at (to_le_bytes w64 (length (inner (wave_of o)))) (drop 8 d.body) 8 refl in
          ap (with_size wide n) (whole (length (inner (wave_of o)))) ∙ set_wide n head (body (length (inner (wave_of o)))) (d.pad ++ y) head_len (omega (arith, h.2.long, size (length (inner (wave_of o)))))
          ∙ ap (λ (z : List ℕ). head ++ ((to_le_bytes w64 n ++ z) ++ (d.pad ++ y))) same ∙ sym (whole n)

      go : (form : Form) → (wave_of o).form ≡ form → IsForm form → with_size (wave_of o).form n (front (wave_of o) (length (inner (wave_of o))) ++ y) ≡ front (wave_of o) n ++ y
      go riff i g =
          let v = wave_of o in
          let k = length (inner v) in
          ap (λ (q : Form). with_size q n ((v.id ++ (field_of q k ++ (codes "WAVE" ++ spell_all (sized_ds64 q k v.ds64)))) ++ y)) i
          ∙ ap (with_size riff n) (regroup v.id (to_le_bytes w32 k) (spell_all v.ds64) y) ∙ set_riff n v.id (to_le_bytes w32 k) (codes "WAVE" ++ (spell_all v.ds64 ++ y)) id_len refl
          ∙ sym (regroup v.id (to_le_bytes w32 n) (spell_all v.ds64) y) ∙ sym (ap (λ (q : Form). (v.id ++ (field_of q n ++ (codes "WAVE" ++ spell_all (sized_ds64 q n v.ds64)))) ++ y) i)
      go wide i g =
          let v = wave_of o in
          let k = length (inner v) in
          ap (λ (q : Form). with_size q n ((v.id ++ (field_of q k ++ (codes "WAVE" ++ spell_all (sized_ds64 q k v.ds64)))) ++ y)) i ∙ by (is_big (take 4 o)) refl (has_ds64 o bytes sup) i
          ∙ sym (ap (λ (q : Form). (v.id ++ (field_of q n ++ (codes "WAVE" ++ spell_all (sized_ds64 q n v.ds64)))) ++ y) i)
      go short i g = absurd g
      go long i g = absurd g
      go to_end i g = absurd g

  -- the patch of the size sets it
  size_patched : (form : Form) → IsForm form → (k n : ℕ) (b : List ℕ) → patched (size_patch form k n) b ≡ cond (eqb k n) b (with_size form n b)
  size_patched riff g k n b = go (eqb k n)
    where
      go : (t : Bool) → patched (cond t [] (patch 4 (to_le_bytes w32 n))) b ≡ cond t b (with_size riff n b)
      go true = refl
      go false = patched_one 4 (to_le_bytes w32 n) b ∙ overlay_is 4 (to_le_bytes w32 n) b
  size_patched wide g k n b = go (eqb k n)
    where
      go : (t : Bool) → patched (cond t [] (patch 20 (to_le_bytes w64 n))) b ≡ cond t b (with_size wide n b)
      go true = refl
      go false = patched_one 20 (to_le_bytes w64 n) b ∙ overlay_is 20 (to_le_bytes w64 n) b
  size_patched short g k n b = absurd g
  size_patched long g k n b = absurd g
  size_patched to_end g k n b = absurd g

  front_patched : (y : List ℕ) → patched (size_patch (wave_of o).form (length (inner (wave_of o))) (new_size (wave_of o) e)) (front (wave_of o) (length (inner (wave_of o))) ++ y) ≡ front (wave_of o) (new_size (wave_of o) e) ++ y
  front_patched y = size_patched (wave_of o).form (old_form o bytes sup) (length (inner (wave_of o))) (new_size (wave_of o) e) (front (wave_of o) (length (inner (wave_of o))) ++ y) ∙ go (eqb (length (inner (wave_of o))) (new_size (wave_of o) e)) refl
    where
      go : (t : Bool) → eqb (length (inner (wave_of o))) (new_size (wave_of o) e) ≡ t
          → cond t (front (wave_of o) (length (inner (wave_of o))) ++ y) (with_size (wave_of o).form (new_size (wave_of o) e) (front (wave_of o) (length (inner (wave_of o))) ++ y)) ≡ front (wave_of o) (new_size (wave_of o) e) ++ y
      go true i = ap (λ (k : ℕ). front (wave_of o) k ++ y) (eqb-true (length (inner (wave_of o))) (new_size (wave_of o) e) i)
      go false i = set_front (new_size (wave_of o) e) y

  none : (x : List ℕ) → is_nil x ≡ true → x ≡ []
  none [] i = refl
  none (y ∷ x) i = absurd cc

  old_is : flat_map old_bytes (pieces_of (wave_of o) e) ≡ spell_all (wave_of o).children
  old_is = units_old shut (carried (steps e) (cells_of (wave_of o))) ∙ ap spell_all (was_carried (steps e) (cells_of (wave_of o)) ∙ was_cells (wave_of o).ds64 (wave_of o).children)

  -- what is behind the chunks stays
  behind_is : units_fit (ends_file (wave_of o)) (pieces_of (wave_of o) e) ≡ true
      → (wave_of o).left ++ (new_pad (length (inner (wave_of o))) (new_size (wave_of o) e) (wave_of o).pad (wave_of o).tail ++ (wave_of o).tail) ≡ (wave_of o).left ++ ((wave_of o).pad ++ (wave_of o).tail)
  behind_is fit = go (ends_file (wave_of o)) refl
    where
      idle : (k : ℕ) (n : ℕ) → k ≡ n → new_pad k n (wave_of o).pad (wave_of o).tail ≡ (wave_of o).pad
      idle k n i = cond-true (eqb k n) _ _ (eq-eqb k n i)

      gone : (t : Bool) → (wave_of o).tail ≡ [] → (wave_of o).pad ≡ [] → cond t (wave_of o).pad (cond (eqb (new_size (wave_of o) e % 2) 1 && not (is_nil (wave_of o).tail)) (0 ∷ []) []) ≡ (wave_of o).pad
      gone true t p = refl
      gone false t p =
          ap (λ (x : List ℕ). cond (eqb (new_size (wave_of o) e % 2) 1 && not (is_nil x)) (0 ∷ []) []) t ∙ no_pad (eqb (new_size (wave_of o) e % 2) 1) ∙ sym p
        where
          no_pad : (t : Bool) → cond {A = List ℕ} (t && false) (0 ∷ []) [] ≡ []
          no_pad true = refl
          no_pad false = refl

      go : (t : Bool) → ends_file (wave_of o) ≡ t → (wave_of o).left ++ (new_pad (length (inner (wave_of o))) (new_size (wave_of o) e) (wave_of o).pad (wave_of o).tail ++ (wave_of o).tail) ≡ (wave_of o).left ++ ((wave_of o).pad ++ (wave_of o).tail)
      go true t =
          let p = and_parts (is_nil (wave_of o).left) (is_nil (wave_of o).pad && is_nil (wave_of o).tail) t in
          let q = and_parts (is_nil (wave_of o).pad) (is_nil (wave_of o).tail) p.1 in
          ap (λ (x : List ℕ). (wave_of o).left ++ (x ++ (wave_of o).tail)) (gone (eqb (length (inner (wave_of o))) (new_size (wave_of o) e)) (none (wave_of o).tail q.1) (none (wave_of o).pad q.0))
      go false t =
          let len = fitting_length (fill_of (wave_of o)) (ends_file (wave_of o)) t (pieces_of (wave_of o) e) (units_bring shut (carried (steps e) (cells_of (wave_of o))) tt) (riff_fits (ends_file (wave_of o)) (pieces_of (wave_of o) e) fit) in
          let same : length (inner (wave_of o)) ≡ new_size (wave_of o) e
          = omega (arith, len, ap length old_is, length-append (spell_all (wave_of o).ds64) (spell_all (wave_of o).children ++ (wave_of o).left), length-append (spell_all (wave_of o).children) (wave_of o).left, length-append (spell_all (wave_of o).ds64) (spell_all (new_children (wave_of o) e) ++ (wave_of o).left), length-append (spell_all (new_children (wave_of o) e)) (wave_of o).left) in
          ap (λ (x : List ℕ). (wave_of o).left ++ (x ++ (wave_of o).tail)) (idle (length (inner (wave_of o))) (new_size (wave_of o) e) same)

  nothing_behind : has_room (wave_of o) e ≡ true → ends_file (wave_of o) ≡ true → (wave_of o).left ++ ((wave_of o).pad ++ (wave_of o).tail) ≡ []
  nothing_behind room t =
      let p = and_parts (is_nil (wave_of o).left) (is_nil (wave_of o).pad && is_nil (wave_of o).tail) t in
      let q = and_parts (is_nil (wave_of o).pad) (is_nil (wave_of o).tail) p.1 in
      ap (λ (x : List ℕ). x ++ ((wave_of o).pad ++ (wave_of o).tail)) (none (wave_of o).left p.0) ∙ ap (λ (x : List ℕ). x ++ (wave_of o).tail) (none (wave_of o).pad q.0) ∙ none (wave_of o).tail q.1

  -- the new file, as a front and what is behind it
  new_front : has_room (wave_of o) e ≡ true → front (wave_of o) (new_size (wave_of o) e) ++ (spell_all (new_children (wave_of o) e) ++ ((wave_of o).left ++ ((wave_of o).pad ++ (wave_of o).tail))) ≡ spell_wave (new_wave (wave_of o) e)
  new_front room =
      let v = wave_of o in
      let fit = (and_parts (units_fit (ends_file v) (pieces_of v e)) (leb (all_bytes (patches_in v e)) (2 ^ 24)) room).0 in
      ap (λ (z : List ℕ). front v (new_size v e) ++ (spell_all (new_children v e) ++ z)) (sym (behind_is fit))
      ∙ sym (new_spelled v e (old_form o bytes sup) (length_new o bytes sup e) ∙ regroup v.id (field_of v.form (new_size v e)) (spell_all (new_wave v e).ds64) (spell_all (new_children v e) ++ (v.left ++ (new_pad (length (inner v)) (new_size v e) v.pad v.tail ++ v.tail))))
    where
      regroup : (i g d r : List ℕ) → i ++ (g ++ (codes "WAVE" ++ (d ++ r))) ≡ (i ++ (g ++ (codes "WAVE" ++ d))) ++ r
      regroup i g d r = simp append_assoc

  patched_new : has_room (wave_of o) e ≡ true → (m : List ℕ) × (patched (patches_in (wave_of o) e) o ≡ spell_wave (new_wave (wave_of o) e) ++ m)
  patched_new room =
      let v = wave_of o in
      let fit = (and_parts (units_fit (ends_file v) (pieces_of v e)) (leb (all_bytes (patches_in v e)) (2 ^ 24)) room).0 in
      let r = v.left ++ (v.pad ++ v.tail) in
      let ps = pieces_of v e in
      let y = flat_map old_bytes ps ++ r in
      let us = unit_patches (fill_of v) (children_at v) ps in
      let done = units_patched (fill_of v) (ends_file v) (children_at v) (front v (new_size v e)) ps r front_len (last_units shut (carried (steps e) (cells_of v))) (units_bring shut (carried (steps e) (cells_of v)) tt) (riff_fits (ends_file v) ps fit) (λ t. nothing_behind room t) in (
        done.0,
        patched-append (size_patch v.form (length (inner v)) (new_size v e)) us o
            ∙ ap (patched us) (ap (patched (size_patch v.form (length (inner v)) (new_size v e))) (old_front y (ap (λ (z : List ℕ). z ++ r) (sym old_is))) ∙ front_patched y)
            ∙ done.1 ∙ ap (λ (z : List ℕ). z ++ done.0) (new_front room),
      )

module _ (o : List ℕ) (bytes : IsBytes o) (sup : Supported o) (e : List RawItem) (room : has_room (wave_of o) e ≡ true) where
  fit : AllFit (fill_of (wave_of o)) (ends_file (wave_of o)) (pieces_of (wave_of o) e)
  fit = riff_fits (ends_file (wave_of o)) (pieces_of (wave_of o) e) (and_parts (units_fit (ends_file (wave_of o)) (pieces_of (wave_of o) e)) (leb (all_bytes (patches_in (wave_of o) e)) (2 ^ 24)) room).0

  brings : BringsPad (pieces_of (wave_of o) e)
  brings = units_bring shut (carried (steps e) (cells_of (wave_of o))) tt

  lasts : LastOnly (pieces_of (wave_of o) e)
  lasts = last_units shut (carried (steps e) (cells_of (wave_of o)))

  -- how long the new file and the old one are
  new_length : length (spell_wave (new_wave (wave_of o) e)) ≡ children_at (wave_of o) + (length (spell_all (new_children (wave_of o) e)) + length ((wave_of o).left ++ ((wave_of o).pad ++ (wave_of o).tail)))
  new_length =
      let v = wave_of o in
      let r = v.left ++ (v.pad ++ v.tail) in
      sym (ap length (new_front o bytes sup e room))
      ∙ omega (arith, front_len o bytes sup e, length-append (front v (new_size v e)) (spell_all (new_children v e) ++ r), length-append (spell_all (new_children v e)) r)

  old_length : length o ≡ children_at (wave_of o) + (length (flat_map old_bytes (pieces_of (wave_of o) e)) + length ((wave_of o).left ++ ((wave_of o).pad ++ (wave_of o).tail)))
  old_length =
      let v = wave_of o in
      let k = length (inner v) in
      let r = v.left ++ (v.pad ++ v.tail) in
      let ds = sized_ds64 v.form k v.ds64 in
      let same : length (spell_all ds) ≡ length (spell_all v.ds64) = ap (λ (x : List Chunk). length (spell_all x)) (same_ds64 o bytes sup) in
      ap length (old_front o bytes sup e (spell_all v.children ++ r) refl)
      ∙ omega (arith, same, ap length (old_is o bytes sup e), id_len o bytes sup e, field_len v.form k, length-append (front v k) (spell_all v.children ++ r), length-append (spell_all v.children) r, length-append v.id (field_of v.form k ++ (codes "WAVE" ++ spell_all ds)), length-append (field_of v.form k) (codes "WAVE" ++ spell_all ds), length-append (codes "WAVE") (spell_all ds))

  ds64_long : (wave_of o).form ≡ wide → 28 ≤ children_at (wave_of o)
  ds64_long i = go (is_big (take 4 o)) refl (has_ds64 o bytes sup)
    where
      go : (t : Bool) → is_big (take 4 o) ≡ t → HasDs64 t (wave_of o).ds64 → 28 ≤ children_at (wave_of o)
      go false x h = absurd (apart (is_big (take 4 o)) x (big o bytes sup e (wave_of o).form (form_fine o bytes sup) i))
      go true x h =
          let d = h.0 in
          let len : length (spell_all (wave_of o).ds64) ≡ length (spell_all (d ∷ [])) = ap (λ (ds : List Chunk). length (spell_all ds)) h.1 in
          omega (arith, len, h.2.long, length-append (header_bytes d.form d.id (length d.body) ++ (d.body ++ d.pad)) [], length-append (header_bytes d.form d.id (length d.body)) (d.body ++ d.pad), length-append d.body d.pad)

  size_first : (form : Form) → IsForm form → (form ≡ wide → 28 ≤ children_at (wave_of o)) → (k n new : ℕ) (ps : List Patch) → children_at (wave_of o) ≤ new → InOrder new (children_at (wave_of o)) ps → InOrder new 0 (size_patch form k n ++ ps)
  size_first riff g l k n new ps r h = go (eqb k n)
    where
      inside : 8 ≤ new
      inside = omega (arith, r)

      go : (t : Bool) → InOrder new 0 (cond t [] (patch 4 (to_le_bytes w32 n)) ++ ps)
      go true = order_low new 0 (children_at (wave_of o)) ps (omega arith) h
      go false = order_patch new 0 4 (to_le_bytes w32 n) ps (omega arith) inside (order_low new 8 (children_at (wave_of o)) ps (omega arith) h)
  size_first wide g l k n new ps r h = go (eqb k n)
    where
      inside : 28 ≤ new
      inside = omega (arith, r, l refl)

      go : (t : Bool) → InOrder new 0 (cond t [] (patch 20 (to_le_bytes w64 n)) ++ ps)
      go true = order_low new 0 (children_at (wave_of o)) ps (omega arith) h
      go false = order_patch new 0 20 (to_le_bytes w64 n) ps (omega arith) inside (order_low new 28 (children_at (wave_of o)) ps (l refl) h)
  size_first short g l k n new ps r h = absurd g
  size_first long g l k n new ps r h = absurd g
  size_first to_end g l k n new ps r h = absurd g

  ordered : InOrder (length (spell_wave (new_wave (wave_of o) e))) 0 (patches_in (wave_of o) e)
  ordered =
      let v = wave_of o in
      let ps = pieces_of v e in
      let us = unit_patches (fill_of v) (children_at v) ps in
      let long = length (spell_wave (new_wave v e)) in
      let inside : children_at v + length (spell_all (new_children v e)) ≤ long = omega (arith, new_length) in
      size_first v.form (old_form o bytes sup) ds64_long (length (inner v)) (new_size v e) long us (omega (arith, inside)) (units_in_order (fill_of v) (ends_file v) long (children_at v) (children_at v) ps (omega arith) inside lasts brings fit)

  covered : (q : ℕ) → length o ≤ q → q < length (spell_wave (new_wave (wave_of o) e)) → Touches q (patches_in (wave_of o) e)
  covered q low high = go (ends_file (wave_of o)) refl
    where
      go : (t : Bool) → ends_file (wave_of o) ≡ t → Touches q (patches_in (wave_of o) e)
      go true t =
          let v = wave_of o in
          let none : length (v.left ++ (v.pad ++ v.tail)) ≡ 0 = ap length (nothing_behind o bytes sup e room t) in
          touches_behind q (size_patch v.form (length (inner v)) (new_size v e)) (unit_patches (fill_of v) (children_at v) (pieces_of v e))
          (units_cover (fill_of v) (ends_file v) (children_at v) (pieces_of v e) q lasts brings fit (omega (arith, low, old_length, none)) (omega (arith, high, new_length, none)))
      go false t =
          let len = fitting_length (fill_of (wave_of o)) (ends_file (wave_of o)) t (pieces_of (wave_of o) e) brings fit in
          absurd (omega (arith, len, low, high, old_length, new_length))

-- The patches of an edit that has room, laid over the old file at the new length, make the new file.
pub room_law : (o : List ℕ) (e : List EditItem) → IsBytes o → Supported o → Room o e → new_file o e ≡ laid (length (new_file o e)) (patches o e) o
unfolding new_file
room_law o e bytes sup room =
    let r = raw_items (fields o) e in
    let n = spell_wave (new_wave (wave_of o) r) in
    let p = patched_new o bytes sup r room in
    sym (ap (take (length n)) p.1 ∙ take_at n p.0 (length n) refl)

-- These patches are in order, lie in the new file, have at most 16 MiB, and cover what it gained.
pub order_law : (o : List ℕ) (e : List EditItem) → IsBytes o → Supported o → Room o e → SoundPatches (length o) (length (new_file o e)) (patches o e)
unfolding new_file
order_law o e bytes sup room =
    let r = raw_items (fields o) e in
    record {
      in_order = ordered o bytes sup r room;
      few_bytes = leb-true (all_bytes (patches_in (wave_of o) r)) (2 ^ 24) (and_parts (units_fit (ends_file (wave_of o)) (pieces_of (wave_of o) r)) (leb (all_bytes (patches_in (wave_of o) r)) (2 ^ 24)) room).1;
      cover = covered o bytes sup r room;
    }

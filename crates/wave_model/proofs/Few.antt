-- The patches of an edit are no more than the new chunks, for a chunk is copied.
use Rattle.std.proofs.Common.{◌≡◌, ℕ, ◌+◌, ◌≤◌, Bool, true, false, cond, List, [], ◌∷◌, ◌++◌, length, take, None, refl, sym, ap, ◌∙◌, arith, inl, inr}
use Rattle.std.specs.Prelude.{◌&&◌, ◌||◌, not, codes}
use Rattle.std.specs.Str.{bytes_eq}
use Rattle.std.specs.List.{flat_map, filter_map, AllByRecursion}
use Rattle.std.proofs.lemmas.Bool.{ltb-true}
use Rattle.std.proofs.lemmas.List.{length-append}
use Rattle.part_tree.specs.declared.field.EditItem.{EditItem}
use Rattle.part_tree.specs.Names.{whole_ids}
use Rattle.field_model.specs.Update.{RawItem, raw_item, raw_items, effective}
use Rattle.container_model.specs.Chunk.{Chunk, spell_all, PadStands, Pads}
use Rattle.container_model.specs.Units.{Cell, kept, gap, edited, was, live, lacks_pad, is_empty, shut}
use Rattle.container_model.proofs.Codec.{IsBytes}
use Rattle.container_model.proofs.Reread.{CellPads}
use Rattle.container_model.proofs.Items.{same_true}
use Rattle.carrier_model.specs.Info.{own_size, one_of}
use Rattle.carrier_model.specs.Room.{unit_patches}
use Rattle.carrier_model.proofs.Few.{copies, copied_cells, pieces_few, units_copies}
use Rattle.carrier_model.proofs.RiffForm.{size_few}
use Rattle.wave_model.specs.Wave.{wave_of, inner, cells_of}
use Rattle.wave_model.specs.Fields.{has_id, body_in, bodies, fields}
use Rattle.wave_model.specs.Carry.{steps}
use Rattle.carrier_model.specs.Steps.{carried}
use Rattle.wave_model.specs.New.{fill_of, children_at, pieces_of, new_children, new_size}
use Rattle.wave_model.specs.Edited.{formats, sounds, parts_of, Supported}
use Rattle.wave_model.specs.Large.{too_large, large_by}
use Rattle.wave_model.specs.Room.{patches_in, patches}
use Rattle.carrier_model.specs.RiffForm.{size_patch}
use Rattle.carrier_model.proofs.Steps.{NowCells, now_carried, now_both, pads_carried, live_carried}
use Rattle.wave_model.proofs.Acts.{IsMade, all_made, other_id}
use Rattle.wave_model.proofs.Values.{format_bodies, sound_bodies}
use Rattle.wave_model.proofs.Form.{old_pads}
use Rattle.wave_model.proofs.Cells.{no_chunks, view_cells, pads_cells, now_cells}
use Rattle.wave_model.proofs.New.{fits_from, ignores_body, made_padded_all}
use Rattle.wave_model.proofs.Why.{parts_some}
use Rattle.wave_model.proofs.Law.{same_children}

-- ---- one of `fmt ` and `data` is copied

-- neither `fmt ` nor `data`
abbrev pub Silent : Chunk → Type 0
Silent c = (has_id (codes "fmt ") c ≡ false) × (has_id (codes "data") c ≡ false)

-- `fmt ` and `data`, counted
abbrev heard : List Chunk → ℕ
heard cs = length (formats cs) + length (sounds cs)

heard_first : (c : Chunk) (cs : List Chunk) → heard (c ∷ cs) ≡ (length (body_in (has_id (codes "fmt ")) c) + length (body_in (has_id (codes "data")) c)) + heard cs
heard_first c cs = omega (arith, length-append (body_in (has_id (codes "fmt ")) c) (formats cs), length-append (body_in (has_id (codes "data")) c) (sounds cs))

heard_one : (c : Chunk) → length (body_in (has_id (codes "fmt ")) c) + length (body_in (has_id (codes "data")) c) ≤ 1
heard_one c = go (has_id (codes "fmt ") c) (has_id (codes "data") c) refl refl
  where
    clash : c.id ≡ codes "fmt " → has_id (codes "data") c ≡ true → ⊥
    clash i d = no (sym (ap (bytes_eq (codes "data")) i) ∙ d)
      where
        no : bytes_eq (codes "data") (codes "fmt ") ≡ true → ⊥
        no x = absurd cc

    go : (t u : Bool) → has_id (codes "fmt ") c ≡ t → has_id (codes "data") c ≡ u → length (cond t (c.body ∷ []) []) + length (cond u (c.body ∷ []) []) ≤ 1
    go true true f d = absurd (clash (sym (same_true (codes "fmt ") c.id f)) d)
    go true false f d = omega arith
    go false true f d = omega arith
    go false false f d = omega arith

silent_first : (c : Chunk) → Silent c → length (body_in (has_id (codes "fmt ")) c) + length (body_in (has_id (codes "data")) c) ≡ 0
silent_first c s = rw (s.0, s.1) refl

silent_front : (now cs : List Chunk) → AllByRecursion Silent now → heard (now ++ cs) ≡ heard cs
silent_front [] cs h = refl
silent_front (c ∷ now) cs h = omega (arith, heard_first c (now ++ cs), silent_first c h.0, silent_front now cs h.1)

unheard : (xs : List Cell) → flat_map was xs ≡ [] → NowCells Silent xs → heard (flat_map live xs) ≡ 0
unheard [] n h = refl
unheard (kept c ∷ xs) n h = absurd cc
unheard (gap c ∷ xs) n h = absurd cc
unheard (edited [] now ∷ xs) n h = silent_front now (flat_map live xs) h.0 ∙ unheard xs n h.1
unheard (edited (c ∷ old) now ∷ xs) n h = absurd cc

heard_copied : (xs : List Cell) (left : List ℕ) → CellPads xs left → NowCells Silent xs → heard (flat_map live xs) ≤ copied_cells xs + 1
heard_copied [] left p h = omega arith
heard_copied (kept c ∷ xs) left p h = go (lacks_pad c) (is_empty xs) refl p.0 (heard_copied xs left p.1 h)
  where
    go : (t u : Bool) → lacks_pad c ≡ t → PadStands c.form (length c.body) c.pad (spell_all (flat_map was xs) ++ left) → heard (flat_map live xs) ≤ copied_cells xs + 1 → heard (c ∷ flat_map live xs) ≤ (cond (t && not u) 0 1 + copied_cells xs) + 1
    go true true i s again = omega (arith, again, heard_first c (flat_map live xs), heard_one c)
    go true false i (inl s) again = absurd (omega (arith, ltb-true _ _ i))
    go true false i (inr s) again = omega (arith, unheard xs (no_chunks (flat_map was xs) left s.1) h, heard_first c (flat_map live xs), heard_one c)
    go false u i s again = omega (arith, again, heard_first c (flat_map live xs), heard_one c)
heard_copied (gap c ∷ xs) left p h = heard_copied xs left p.1 h
heard_copied (edited old now ∷ xs) left p h = omega (arith, silent_front now (flat_map live xs) h.0, heard_copied xs left p.1 h.1)

-- what a step makes holds fields
pub made_silent : (c : Chunk) → IsMade c → Silent c
made_silent c m = (other (codes "fmt ") refl refl (has_id (codes "fmt ") c) refl, other (codes "data") refl refl (has_id (codes "data") c) refl)
  where
    no : (t : Bool) → ((t && false) || (t && false)) ≡ true → ⊥
    no true x = absurd cc
    no false x = absurd cc

    carries : (w : List ℕ) → bytes_eq w (codes "LIST") ≡ false → one_of (codes "bext" ∷ whole_ids) w ≡ false → c.id ≡ w → ⊥
    carries w l b i =
        no (own_size c.form)
        (sym (ap (λ (z : Bool). (own_size c.form && (z && bytes_eq (take 4 c.body) (codes "INFO"))) || (own_size c.form && one_of (codes "bext" ∷ whole_ids) c.id)) (ap (λ (x : List ℕ). bytes_eq x (codes "LIST")) i ∙ l)
        ∙ ap (λ (z : Bool). (own_size c.form && false) || (own_size c.form && z)) (ap (one_of (codes "bext" ∷ whole_ids)) i ∙ b)) ∙ m.carrier)

    other : (w : List ℕ) → bytes_eq w (codes "LIST") ≡ false → one_of (codes "bext" ∷ whole_ids) w ≡ false → (t : Bool) → has_id w c ≡ t → has_id w c ≡ false
    other w l b true i = absurd (carries w l b (sym (same_true w c.id i)))
    other w l b false i = i

-- ---- all patches

all_parts : (cs : List Chunk) → length cs ≤ length (flat_map parts_of cs)
all_parts [] = omega arith
all_parts (c ∷ cs) = omega (arith, all_parts cs, parts_some c, length-append (parts_of c) (flat_map parts_of cs))

module _ (o : List ℕ) (bytes : IsBytes o) (sup : Supported o) where
  behind : (a : List Chunk) → Pads (a ++ (wave_of o).children) (wave_of o).left → Pads (wave_of o).children (wave_of o).left
  behind [] h = h
  behind (c ∷ a) h = behind a h.1

  some_copied : (e : List RawItem) → 1 ≤ copies (pieces_of (wave_of o) e)
  some_copied e =
      let w = wave_of o in
      let xs = cells_of w in
      let ys = carried (steps e) xs in
      let pads : CellPads ys w.left = pads_carried (steps e) (made_padded_all (steps e) (all_made e)) xs w.left (pads_cells w.ds64 w.children w.left (behind w.ds64 (old_pads o bytes sup))) in
      let made_ones : NowCells IsMade ys = now_carried IsMade (steps e) (all_made e) xs (now_cells IsMade w.ds64 w.children) in
      let silent : NowCells Silent ys = now_both IsMade IsMade Silent (λ c m n. made_silent c m) ys made_ones made_ones in
      let see : (id : List ℕ) → bytes_eq id (codes "JUNK") ≡ false → bodies (has_id id) (flat_map live xs) ≡ bodies (has_id id) w.children
      = λ id x. view_cells (body_in (has_id id)) (ignores_body (has_id id) (λ c j. other_id id c x j) (λ c. refl)) w.ds64 w.children in
      let f : formats (flat_map live ys) ≡ formats w.children = ap formats (live_carried (steps e) xs) ∙ format_bodies e (flat_map live xs) ∙ see (codes "fmt ") refl in
      let d : sounds (flat_map live ys) ≡ sounds w.children = ap sounds (live_carried (steps e) xs) ∙ sound_bodies e (flat_map live xs) ∙ see (codes "data") refl in
      omega (arith, heard_copied ys w.left pads silent, units_copies shut ys, ap length f, ap length d, sup.children.one_format, sup.children.one_sound)

  few_in : (e : List RawItem) → length (new_children (wave_of o) e) ≤ 65536 → length (patches_in (wave_of o) e) ≤ 65536
  few_in e l =
      let w = wave_of o in
      let ps = pieces_of w e in
      let us = unit_patches (fill_of w) (children_at w) ps in
      omega (arith, l, some_copied e, pieces_few (fill_of w) (children_at w) ps, size_few w.form (length (inner w)) (new_size w e), length-append (size_patch w.form (length (inner w)) (new_size w e)) us)

  few_chunks : (e : List EditItem) → too_large o e ≡ None → length (new_children (wave_of o) (raw_items (fields o) e)) ≤ 65536
  few_chunks e l = go (effective (fields o) e) refl l
    where
      go : (is : List EditItem) → effective (fields o) e ≡ is → large_by is (wave_of o) (raw_items (fields o) e) ≡ None → length (new_children (wave_of o) (raw_items (fields o) e)) ≤ 65536
      go [] none l =
          let same = ap (λ (r : List RawItem). length (new_children (wave_of o) r)) (ap (filter_map raw_item) none) ∙ ap length (same_children o bytes sup) in
          omega (arith, same, sup.few_parts, all_parts (wave_of o).children)
      go (i ∷ is) some l =
          let r = raw_items (fields o) e in
          omega (arith, (fits_from (wave_of o) r l).few_parts, all_parts (new_children (wave_of o) r))

  pub few_patches : (e : List EditItem) → too_large o e ≡ None → length (patches o e) ≤ 65536
  few_patches e l = few_in (raw_items (fields o) e) (few_chunks e l)

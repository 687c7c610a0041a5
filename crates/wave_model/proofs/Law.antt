-- The law of the edited file.
use Rattle.std.proofs.Common.{◌≡◌, ℕ, suc, Bool, true, false, cond, eqb, List, [], ◌∷◌, ◌++◌, length, take, drop, None, refl, sym, ap, subst, ◌∙◌, arith, inl, inr, ◌≤◌, ◌-◌, ◌^◌}
use Rattle.std.specs.Prelude.{◌⊎◌, codes}
use Rattle.std.specs.Str.{bytes_eq}
use Rattle.std.specs.Int.{w64, to_le_bytes, from_le_bytes}
use Rattle.std.specs.List.{flat_map, filter_map}
use Rattle.std.proofs.lemmas.Bool.{cond-true, eq-eqb}
use Rattle.std.proofs.lemmas.Nat.{le_bytes_8}
use Rattle.std.proofs.lemmas.List.{take-append-drop, take-append-le, length-take}
use Rattle.part_tree.specs.declared.field.EditItem.{EditItem}
use Rattle.part_tree.specs.declared.field.FieldName.{FieldName}
use Rattle.part_tree.specs.declared.field.FieldName.TheVariants.{Bext, Info, Whole, User, Key, Stream}
use Rattle.part_tree.specs.declared.field.RuleSet.TheVariants.{Base}
use Rattle.part_tree.specs.declared.names.Kind.TheVariants.{Rf64, Bw64, Wave as WaveKind}
use Rattle.field_model.specs.Broken.{broken}
use Rattle.field_model.specs.Fields.{FieldMap}
use Rattle.field_model.specs.Update.{RawItem, effective, raw_item, raw_items, updated}
use Rattle.container_model.specs.Chunk.{wide, Chunk, Pads}
use Rattle.container_model.specs.Units.{Cell, kept, gap, edited, live, shut, units, lay}
use Rattle.container_model.proofs.Codec.{IsBytes, IsBytes-drop}
use Rattle.container_model.proofs.Fronts.{IsBytes-take}
use Rattle.carrier_model.specs.Cells.{Change, leave, changed_cell, change_at, counted, settle, settle_cells, never, Act, acted_cells}
use Rattle.carrier_model.specs.Lists.{edit_nth, all_items, home, has_carrier, lists_act, lists_act_by, Node, list, sign, other, has_list, place_nth, node_items, place_by}
use Rattle.carrier_model.specs.Info.{info, info_items}
use Rattle.container_model.specs.Ds64.{le64}
use Rattle.wave_model.specs.Wave.{is_big, is_wide, form_kind, form_size, kind_of, Wave, wave_of, inner, spell_wave, cells_of}
use Rattle.wave_model.specs.Fields.{fields, fields_of, nodes}
use Rattle.wave_model.specs.Carry.{steps, placed}
use Rattle.carrier_model.specs.Steps.{carried}
use Rattle.wave_model.specs.New.{fill_of, new_children, new_size, with_riff_size, sized_ds64, new_wave, new_file, new_size_of}
use Rattle.carrier_model.specs.RiffForm.{new_pad}
use Rattle.wave_model.specs.Edited.{kept_in, kept_of, pieces_in, Supported, first_junk, Edited}
use Rattle.wave_model.specs.Large.{FormSmall, large_by, too_large}
use Rattle.wave_model.proofs.Ds64.{IsDs64, HasDs64, at_twenty, behind_first}
use Rattle.wave_model.proofs.Form.{inner_len, behind_body, spelled_is, old_pads, has_ds64}
use Rattle.wave_model.proofs.Cells.{was_cells, pads_cells, unedited, still_all}
use Rattle.wave_model.proofs.New.{Fits, fits_from}
use Rattle.wave_model.proofs.Edited.{sized_nodes, new_again, new_fields, new_nodes, new_pieces, new_supported, new_junk}
use Rattle.wave_model.proofs.Items.{HasNeither, items_fine}

-- ---- an edit without items changes nothing

idle_settle : (h : List ℕ → ℕ) (p : Chunk → Bool) (n : ℕ) (cs : List Chunk) → settle p (edit_nth info info_items h []) n cs ≡ cs
idle_settle h p n [] = refl
idle_settle h p n (c ∷ cs) = go (p c) (λ m. idle_settle h p m cs)
  where
    go : (t : Bool) → ((m : ℕ) → settle p (edit_nth info info_items h []) m cs ≡ cs)
        → Rattle.carrier_model.specs.Cells.changed (cond t leave leave) c ++ settle p (edit_nth info info_items h []) (cond t (suc n) n) cs ≡ c ∷ cs
    go true again = ap (λ (x : List Chunk). c ∷ x) (again (suc n))
    go false again = ap (λ (x : List Chunk). c ∷ x) (again n)

idle_cells : (h : List ℕ → ℕ) (p : Chunk → Bool) (n : ℕ) (xs : List Cell) → settle_cells p (edit_nth info info_items h []) n xs ≡ xs
idle_cells h p n [] = refl
idle_cells h p n (kept c ∷ xs) = go (p c) (λ m. idle_cells h p m xs)
  where
    go : (t : Bool) → ((m : ℕ) → settle_cells p (edit_nth info info_items h []) m xs ≡ xs) → changed_cell (cond t leave leave) c ∷ settle_cells p (edit_nth info info_items h []) (cond t (suc n) n) xs ≡ kept c ∷ xs
    go true again = ap (λ (x : List Cell). kept c ∷ x) (again (suc n))
    go false again = ap (λ (x : List Cell). kept c ∷ x) (again n)
idle_cells h p n (gap c ∷ xs) = ap (λ (x : List Cell). gap c ∷ x) (idle_cells h p n xs)
idle_cells h p n (edited old now ∷ xs) =
    ap (λ (x : List Chunk). edited old x ∷ settle_cells p (edit_nth info info_items h []) (Rattle.carrier_model.specs.Cells.count_all p n now) xs) (idle_settle h p n now)
    ∙ ap (λ (x : List Cell). edited old now ∷ x) (idle_cells h p (Rattle.carrier_model.specs.Cells.count_all p n now) xs)

idle_info : (xs : List Cell) (cs : List Chunk) → acted_cells (lists_act info info_items never [] cs) xs ≡ xs
idle_info xs cs = go (has_carrier info cs)
  where
    go : (t : Bool) → acted_cells (lists_act_by info info_items never [] cs t) xs ≡ xs
    go true = idle_cells (home (all_items info info_items cs)) info.is 0 xs
    go false = refl

idle_carried : (xs : List Cell) → carried (steps []) xs ≡ xs
idle_carried xs = idle_info xs (flat_map live xs)

idle_place : (h : List ℕ → ℕ) (n : ℕ) (k : List Node) → place_nth {V = List ℕ} h [] n k ≡ k
idle_place h n [] = refl
idle_place h n (list ts rest ∷ k) = ap (λ (x : List Node). list ts rest ∷ x) (idle_place h (suc n) k)
idle_place h n (sign id ∷ k) = ap (λ (x : List Node). sign id ∷ x) (idle_place h n k)
idle_place h n (other form id body ∷ k) = ap (λ (x : List Node). other form id body ∷ x) (idle_place h n k)

pub idle_placed : (k : List Node) → placed [] k ≡ k
idle_placed k = go (has_list k)
  where
    go : (t : Bool) → place_by {V = List ℕ} never [] k t ≡ k
    go true = idle_place (home (node_items k)) 0 k
    go false = refl

pub idle_updated : (f : FieldMap) (name : FieldName) → f name ≡ updated [] f name
idle_updated f (Bext field) = refl
idle_updated f (Info id) = refl
idle_updated f (Whole id) = refl
idle_updated f (User id) = refl
idle_updated f (Key name) = refl
idle_updated f (Stream n) = refl

module _ (o : List ℕ) (bytes : IsBytes o) (sup : Supported o) where
  pub same_children : new_children (wave_of o) [] ≡ (wave_of o).children
  same_children =
      let w = wave_of o in
      ap (λ (xs : List Cell). lay (fill_of w) (units shut xs)) (idle_carried (cells_of w))
      ∙ still_all (fill_of w) (cells_of w) w.left (unedited w.ds64 w.children) (pads_cells w.ds64 w.children w.left (behind w.ds64 (old_pads o bytes sup))) ∙ was_cells w.ds64 w.children
    where
      behind : (a : List Chunk) → Pads (a ++ (wave_of o).children) (wave_of o).left → Pads (wave_of o).children (wave_of o).left
      behind [] h = h
      behind (c ∷ a) h = behind a h.1

  same_size : new_size (wave_of o) [] ≡ length (inner (wave_of o))
  same_size = ap (λ (cs : List Chunk). length (inner (record (wave_of o) { children = cs }))) same_children

  -- riffSize is the form's size
  pub same_ds64 : sized_ds64 (wave_of o).form (length (inner (wave_of o))) (wave_of o).ds64 ≡ (wave_of o).ds64
  same_ds64 = go (is_wide o) refl
    where
      set : (d : Chunk) → (wave_of o).ds64 ≡ d ∷ [] → IsDs64 d → form_size o ≡ le64 (drop 20 o) → with_riff_size (length (inner (wave_of o))) d ≡ d
      set d e i s =
          let more = behind_first o (wave_of o) (behind_body o bytes sup) d e in
          let twenty : drop 20 o ≡ d.body ++ more = at_twenty o (wave_of o) (behind_body o bytes sup) d e i.form_is (ap length i.id_is) (omega (arith, i.small)) in
          let front : take 8 (drop 20 o) ≡ take 8 d.body = ap (take 8) twenty ∙ take-append-le 8 d.body more (omega (arith, i.long)) in
          let word : to_le_bytes w64 (length (inner (wave_of o))) ≡ take 8 d.body
          = le_bytes_8 (take 8 d.body) (length (inner (wave_of o))) (omega (arith, i.long, length-take 8 d.body)) (subst IsBytes front (IsBytes-take 8 (drop 20 o) (IsBytes-drop 20 o bytes))) (inner_len o bytes sup ∙ s ∙ ap (from_le_bytes w64) front) in
          ap (λ (x : List ℕ). record d { body = x ++ drop 8 d.body }) word ∙ ap (λ (x : List ℕ). record d { body = x }) (take-append-drop 8 d.body)

      with_it : (t : Bool) → HasDs64 t (wave_of o).ds64 → form_size o ≡ le64 (drop 20 o) → sized_ds64 wide (length (inner (wave_of o))) (wave_of o).ds64 ≡ (wave_of o).ds64
      with_it false h s = ap (λ (ds : List Chunk). sized_ds64 wide (length (inner (wave_of o))) ds) h ∙ sym h
      with_it true h s = ap (λ (ds : List Chunk). sized_ds64 wide (length (inner (wave_of o))) ds) h.1 ∙ ap (λ (d : Chunk). d ∷ []) (set h.0 h.1 h.2 s) ∙ sym h.1

      go : (t : Bool) → is_wide o ≡ t → sized_ds64 (form_kind (is_wide o)) (length (inner (wave_of o))) (wave_of o).ds64 ≡ (wave_of o).ds64
      go true e =
          ap (λ (t : Bool). sized_ds64 (form_kind t) (length (inner (wave_of o))) (wave_of o).ds64) e
          ∙ with_it (is_big (take 4 o)) (has_ds64 o bytes sup) (cond-true (is_wide o) (le64 (drop 20 o)) (Rattle.container_model.specs.Ds64.le32 (drop 4 o)) e)
      go false e = ap (λ (t : Bool). sized_ds64 (form_kind t) (length (inner (wave_of o))) (wave_of o).ds64) e

  pub new_nothing : spell_wave (new_wave (wave_of o) []) ≡ o
  new_nothing =
      let w = wave_of o in
      let k = length (inner w) in
      let pad : new_pad k (new_size w []) w.pad w.tail ≡ w.pad = ap (λ (m : ℕ). new_pad k m w.pad w.tail) same_size ∙ cond-true (eqb k k) _ _ (eq-eqb k k refl) in
      ap (λ (cs : List Chunk). spell_wave (record w { ds64 = sized_ds64 w.form (new_size w []) w.ds64; children = cs; pad = new_pad k (new_size w []) w.pad w.tail })) same_children
      ∙ ap (λ (p : List ℕ). spell_wave (record w { ds64 = sized_ds64 w.form (new_size w []) w.ds64; pad = p })) pad
      ∙ ap (λ (ds : List Chunk). spell_wave (record w { ds64 = ds })) (ap (λ (m : ℕ). sized_ds64 w.form m w.ds64) same_size ∙ same_ds64) ∙ sym (spelled_is o bytes sup)

  -- no item with an effect: the same file
  pub new_idle : (e : List EditItem) → effective (fields o) e ≡ [] → new_file o e ≡ o
  unfolding new_file
  new_idle e none = ap (λ (is : List EditItem). spell_wave (new_wave (wave_of o) (filter_map raw_item is))) none ∙ new_nothing

  pub idle_law : (e : List EditItem) → effective (fields o) e ≡ [] → Edited o e (new_file o e)
  idle_law e none =
      let same : raw_items (fields o) e ≡ [] = ap (filter_map raw_item) none in
      subst (λ (n : List ℕ). Edited o e n) (sym (new_idle e none)) (record {
        supported = sup;
        reads_back = λ name k. idle_updated (fields o) name ∙ ap (λ (is : List RawItem). updated is (fields o) name) (sym same);
        kept_in_order = ap (λ (k : List Node). record (kept_of o) { nodes = k }) (sym (idle_placed (nodes (wave_of o).children)) ∙ ap (λ (is : List RawItem). placed is (nodes (wave_of o).children)) (sym same));
        same_pieces = refl;
        same_junk = λ body h. h;
        no_effect = λ x. refl;
      })

  pub kind_is : HasNeither (kind_of o)
  kind_is = go (is_big (take 4 o)) (bytes_eq (codes "BW64") (take 4 o))
    where
      go : (t u : Bool) → HasNeither (cond t (cond u Bw64 Rf64) WaveKind)
      go true true = (refl, refl)
      go true false = (refl, refl)
      go false u = (refl, refl)

  pub busy_law : (e : List EditItem) → broken (kind_of o) 0 (fields o) e Base ≡ None → Fits (wave_of o) (raw_items (fields o) e) → Edited o e (new_file o e)
  unfolding new_file
  busy_law e b fits =
      let r = raw_items (fields o) e in
      let f = items_fine (kind_of o) (fields o) e kind_is b in
      let again = new_again o bytes sup r f fits.lists fits in
      let w = wave_of o in
      record {
        supported = new_supported o bytes sup r f fits.lists fits;
        reads_back = λ name k. ap (λ (v : Wave). fields_of v.children name) again ∙ new_fields o bytes sup r f fits.lists name k;
        kept_in_order = ap kept_in again ∙ ap (λ (ds : List Node). record (kept_of o) { ds64 = ds; nodes = nodes (new_children w r) }) (sized_nodes w.form (new_size w r) w.ds64) ∙ ap (λ (k : List Node). record (kept_of o) { nodes = k }) (new_nodes o bytes sup r f fits.lists);
        same_pieces = ap (λ (v : Wave). pieces_in v.children) again ∙ new_pieces o bytes sup r f fits.lists;
        same_junk = λ body h. ap first_junk again ∙ new_junk o bytes sup r body h;
        no_effect = λ none. new_idle e none;
      }

-- The law: for every edit that breaks no basic rule and is not too large, the new file is the old one edited.
pub edited_law : (o : List ℕ) (e : List EditItem) → IsBytes o → Supported o → broken (kind_of o) 0 (fields o) e Base ≡ None → too_large o e ≡ None → Edited o e (new_file o e)
edited_law o e bytes sup b l = go (effective (fields o) e) refl l
  where
    go : (is : List EditItem) → effective (fields o) e ≡ is → large_by is (wave_of o) (raw_items (fields o) e) ≡ None → Edited o e (new_file o e)
    go [] none l = idle_law o bytes sup e none
    go (i ∷ is) some l = busy_law o bytes sup e b (fits_from (wave_of o) (raw_items (fields o) e) l)

-- What passes no limit is no longer than a file can be.
pub small_file : (o : List ℕ) (e : List EditItem) → too_large o e ≡ None → (effective (fields o) e ≡ []) ⊎ ((length (new_file o e) ≤ 2 ^ 63 - 1) × FormSmall (wave_of o).form (wave_of o).id (new_size_of o e))
unfolding new_file
small_file o e l = go (effective (fields o) e) refl l
  where
    go : (is : List EditItem) → effective (fields o) e ≡ is → large_by is (wave_of o) (raw_items (fields o) e) ≡ None
        → (effective (fields o) e ≡ []) ⊎ ((length (spell_wave (new_wave (wave_of o) (raw_items (fields o) e))) ≤ 2 ^ 63 - 1) × FormSmall (wave_of o).form (wave_of o).id (new_size_of o e))
    go [] none l = inl none
    go (i ∷ is) some l = let fits = fits_from (wave_of o) (raw_items (fields o) e) l in inr (fits.file, fits.form)

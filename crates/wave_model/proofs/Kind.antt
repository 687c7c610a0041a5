-- WAVE files, of which those that grow past 32 bits become RF64, are a kind of files.
use Rattle.std.proofs.Common.{◌≡◌, ℕ, ◌≤◌, ◌-◌, ◌^◌, Bool, true, false, List, [], ◌∷◌, ◌++◌, length, map, take, None, refl, sym, ap, subst, ◌∙◌, inl, inr}
use Rattle.std.specs.Prelude.{◌⊎◌, ◌&&◌, not, nat_lt}
use Rattle.std.proofs.lemmas.Bool.{and_parts}
use Rattle.part_tree.specs.Large.{limited, first_above}
use Rattle.part_tree.specs.Names.{is_field_name, IsFieldName}
use Rattle.part_tree.specs.declared.field.EditItem.{EditItem}
use Rattle.part_tree.specs.declared.field.FieldName.{FieldName}
use Rattle.part_tree.specs.declared.field.RuleSet.TheVariants.{Base}
use Rattle.field_model.specs.Broken.{broken}
use Rattle.field_model.specs.Kind.{NamesFields, Edited, MakeInPlace, SameEdit, IsKind}
use Rattle.field_model.specs.Update.{RawItem, effective, raw_items, update}
use Rattle.field_model.proofs.Changed.{raws_named}
use Rattle.field_model.proofs.Effective.{all_effective, raw_same}
use Rattle.container_model.proofs.Codec.{IsBytes}
use Rattle.wave_model.specs.Wave.{is_big, kind_of, Wave, wave_of, spell_wave}
use Rattle.wave_model.specs.Fields.{is_info, bodies, fields_of, fields}
use Rattle.wave_model.specs.New.{new_children, new_size, new_wave, new_file}
use Rattle.wave_model.specs.Large.{form_sizes, large_by, too_large}
use Rattle.wave_model.specs.Room.{has_room, patches_in, patches}
use Rattle.wave_model.specs.Edited.{parts, pieces_in, kept_in, kept_of, Supported}
use Rattle.wave_model.specs.Widen.{is_reserved, reserved, widened_wave, widens_by, widens, wave_by, wave_after, file_after, sizes_in, large_after_by, large_after, room_after, placed_by, WidenedJunk, JunkBy, cuts_widened}
use Rattle.container_model.specs.Splice.{splice, Ascend}
use Rattle.wave_model.specs.Kind.{wave_kind}
use Rattle.wave_model.proofs.Items.{items_fine}
use Rattle.wave_model.proofs.Why.{why_supported, supported_why}
use Rattle.wave_model.proofs.Edited.{length_new}
use Rattle.wave_model.proofs.Law.{kind_is, new_idle, small_file}
use Rattle.wave_model.proofs.Names.{no_values, no_update}
use Rattle.wave_model.proofs.Narrow.{narrow_in_place, narrow_edited, fields_lawful}
use Rattle.wave_model.proofs.WideLaw.{FitsWide, fits_wide, wide_reads, wide_supported, wide_fields, wide_kept, wide_pieces, wide_junk, lists_from}
use Rattle.wave_model.proofs.WideCuts.{widened_spliced, widened_ascend}
use Rattle.wave_model.proofs.Form.{spelled_is}

-- fields that read back at each field's name do so at every name, where each item of the edit names a field
reads_all : (o n : List ℕ) (e : List EditItem) → ((name : FieldName) → IsFieldName name → fields n name ≡ update (fields o) e name) → (name : FieldName) → IsFieldName name ⊎ NamesFields e → fields n name ≡ update (fields o) e name
reads_all o n e h name (inl k) = h name k
reads_all o n e h name (inr a) = go (is_field_name name) refl
  where
    go : (t : Bool) → is_field_name name ≡ t → fields n name ≡ update (fields o) e name
    go true k = h name k
    go false x =
        no_values (wave_of n).children name x
        ∙ sym (no_update (fields o) (raw_items (fields o) e) (raws_named IsFieldName (fields o) e a) name x (no_values (wave_of o).children name x))

module _ (o : List ℕ) (e : List EditItem) where
  -- ---- an edit that doesn't widen

  pub narrow_file : widens o e ≡ false → file_after o e ≡ new_file o e
  unfolding file_after new_file
  narrow_file t = ap (λ (u : Bool). spell_wave (wave_by u (wave_of o) (raw_items (fields o) e))) t

  pub narrow_large : IsBytes o → Supported o → widens o e ≡ false → large_after o e ≡ too_large o e
  narrow_large bytes sup t = ap (λ (u : Bool). large_after_by (effective (fields o) e) (wave_by u (wave_of o) (raw_items (fields o) e))) t ∙ go (effective (fields o) e)
    where
      go : (is : List EditItem) → large_after_by is (new_wave (wave_of o) (raw_items (fields o) e)) ≡ large_by is (wave_of o) (raw_items (fields o) e)
      go [] = refl
      go (i ∷ is) =
          let w = wave_of o in
          let r = raw_items (fields o) e in
          let lists = map (λ b. limited (2 ^ 24) (length b)) (bodies is_info (new_children w r)) in
          ap (λ (k : ℕ). first_above (lists ++ (limited 65536 (parts (new_wave w r)) ∷ (form_sizes w.form w.id k ++ limited (2 ^ 63 - 1) (length (spell_wave (new_wave w r))) ∷ [])))) (length_new o bytes sup r)

  narrow_small : IsBytes o → Supported o → widens o e ≡ false → large_after o e ≡ None → too_large o e ≡ None
  narrow_small bytes sup t l = sym (narrow_large bytes sup t) ∙ l

  narrow_after : IsBytes o → Supported o → broken (kind_of o) 0 (fields o) e Base ≡ None → widens o e ≡ false → large_after o e ≡ None → Edited wave_kind o e (file_after o e)
  narrow_after bytes sup b t l =
      let n = new_file o e in
      let h = narrow_edited o e bytes sup b (narrow_small bytes sup t l) in
      subst (λ (x : List ℕ). Edited wave_kind o e x) (sym (narrow_file t)) (record {
        supported = h.supported;
        reads_back = h.reads_back;
        kept_in_order = h.kept_in_order ∙ sym (ap (λ (u : Bool). placed_by u (wave_of o).children (raw_items (fields o) e) (kept_of o)) t);
        same_pieces = h.same_pieces;
        also = λ c j. subst (λ (u : Bool). JunkBy u c (wave_of n)) (sym t) (h.also c j);
        no_effect = h.no_effect;
      })

  -- ---- an edit that widens

  abbrev v : Wave
  v = widened_wave (reserved (wave_of o).children) (new_wave (wave_of o) (raw_items (fields o) e))

  pub wide_file : widens o e ≡ true → file_after o e ≡ spell_wave v
  unfolding file_after
  wide_file t = ap (λ (u : Bool). spell_wave (wave_by u (wave_of o) (raw_items (fields o) e))) t

  -- what it is an edit of
  pub record Widening : Type 0 where
    pub narrow : is_big (take 4 o) ≡ false
    pub some : effective (fields o) e ≡ [] → ⊥
    pub large : nat_lt (2 ^ 32 - 1) (new_size (wave_of o) (raw_items (fields o) e)) ≡ true

  pub widening : widens o e ≡ true → Widening
  widening t = go (effective (fields o) e) refl t
    where
      no : (a : Bool) → not a ≡ true → a ≡ false
      no true x = absurd cc
      no false x = refl

      go : (is : List EditItem) → effective (fields o) e ≡ is → widens_by is (wave_of o) (raw_items (fields o) e) ≡ true → Widening
      go [] i x = absurd cc
      go (j ∷ is) i x =
          let p = and_parts (not (is_big (take 4 o))) (nat_lt (2 ^ 32 - 1) (new_size (wave_of o) (raw_items (fields o) e))) x in
          record { narrow = no (is_big (take 4 o)) p.0; some = λ none. some_none j is (sym i ∙ none); large = p.1 }
        where
          some_none : (j : EditItem) (is : List EditItem) → j ∷ is ≡ [] → ⊥
          some_none j is x = absurd cc

  -- what is too large then
  pub wide_large : widens o e ≡ true → large_after o e ≡ first_above (sizes_in v)
  wide_large t = ap (λ (u : Bool). large_after_by (effective (fields o) e) (wave_by u (wave_of o) (raw_items (fields o) e))) t ∙ go (effective (fields o) e) refl
    where
      go : (is : List EditItem) → effective (fields o) e ≡ is → large_after_by is v ≡ first_above (sizes_in v)
      go [] i = absurd ((widening t).some i)
      go (j ∷ is) i = refl

  wide_fits : widens o e ≡ true → large_after o e ≡ None → FitsWide v
  wide_fits t l = go (effective (fields o) e) refl (ap (λ (u : Bool). large_after_by (effective (fields o) e) (wave_by u (wave_of o) (raw_items (fields o) e))) (sym t) ∙ l)
    where
      go : (is : List EditItem) → effective (fields o) e ≡ is → large_after_by is v ≡ None → FitsWide v
      go [] i h = absurd ((widening t).some i)
      go (j ∷ is) i h = fits_wide v h

  wide_after : IsBytes o → Supported o → broken (kind_of o) 0 (fields o) e Base ≡ None → widens o e ≡ true → large_after o e ≡ None → Edited wave_kind o e (file_after o e)
  wide_after bytes sup b t l =
      let r = raw_items (fields o) e in
      let x = widening t in
      let f = items_fine (kind_of o) (fields o) e (kind_is o bytes sup) b in
      let fits = wide_fits t l in
      let again = wide_reads o bytes sup x.narrow r f fits in
      subst (λ (n : List ℕ). Edited wave_kind o e n) (sym (wide_file t)) (record {
        supported = supported_why (spell_wave v) (wide_supported o bytes sup x.narrow r f fits);
        reads_back = reads_all o (spell_wave v) e (λ name k. ap (λ (y : Wave). fields_of y.children name) again ∙ wide_fields o bytes sup x.narrow r f fits name k);
        kept_in_order = ap kept_in again ∙ wide_kept o bytes sup x.narrow r f fits ∙ sym (ap (λ (u : Bool). placed_by u (wave_of o).children r (kept_of o)) t);
        same_pieces = ap (λ (y : Wave). pieces_in y.children) again ∙ wide_pieces o bytes sup x.narrow r f fits;
        also = λ c j. subst (λ (u : Bool). JunkBy u c (wave_of (spell_wave v))) (sym t) (subst (λ (y : Wave). WidenedJunk (is_reserved c) c y) (sym again) (wide_junk o bytes sup x.narrow r c j));
        no_effect = λ none. absurd (x.some none);
      })

  edited_after : IsBytes o → Supported o → broken (kind_of o) 0 (fields o) e Base ≡ None → large_after o e ≡ None → Edited wave_kind o e (file_after o e)
  edited_after bytes sup b l = go (widens o e) refl
    where
      go : (t : Bool) → widens o e ≡ t → Edited wave_kind o e (file_after o e)
      go false t = narrow_after bytes sup b t l
      go true t = wide_after bytes sup b t l

  -- ---- the other laws

  idle_after : IsBytes o → Supported o → effective (fields o) e ≡ [] → (file_after o e ≡ o) × (large_after o e ≡ None)
  idle_after bytes sup none =
      let t : widens o e ≡ false = ap (λ (is : List EditItem). widens_by is (wave_of o) (raw_items (fields o) e)) none in
      (narrow_file t ∙ new_idle o bytes sup e none, ap (λ (is : List EditItem). large_after_by is (wave_after o e)) none)

  in_place_after : IsBytes o → Supported o → large_after o e ≡ None → room_after o e ≡ true → MakeInPlace o (file_after o e) (patches o e)
  in_place_after bytes sup l room =
      let p = and_parts (not (widens o e)) (has_room (wave_of o) (raw_items (fields o) e)) room in
      let t = no (widens o e) p.0 in
      subst (λ (n : List ℕ). MakeInPlace o n (patches o e)) (sym (narrow_file t)) (narrow_in_place o e bytes sup (narrow_small bytes sup t l) p.1)
    where
      no : (a : Bool) → not a ≡ true → a ≡ false
      no true x = absurd cc
      no false x = refl

  no_larger_after : IsBytes o → Supported o → large_after o e ≡ None → (effective (fields o) e ≡ []) ⊎ (length (file_after o e) ≤ 2 ^ 63 - 1)
  no_larger_after bytes sup l = go (widens o e) refl
    where
      go : (t : Bool) → widens o e ≡ t → (effective (fields o) e ≡ []) ⊎ (length (file_after o e) ≤ 2 ^ 63 - 1)
      go true t = inr (subst (λ (n : List ℕ). length n ≤ 2 ^ 63 - 1) (sym (wide_file t)) (wide_fits t l).file)
      go false t = by (small_file o e (narrow_small bytes sup t l))
        where
          by : (effective (fields o) e ≡ []) ⊎ ((length (new_file o e) ≤ 2 ^ 63 - 1) × Rattle.wave_model.specs.Large.FormSmall (wave_of o).form (wave_of o).id (Rattle.wave_model.specs.New.new_size_of o e)) → (effective (fields o) e ≡ []) ⊎ (length (file_after o e) ≤ 2 ^ 63 - 1)
          by (inl none) = inl none
          by (inr h) = inr (subst (λ (n : List ℕ). length n ≤ 2 ^ 63 - 1) (sym (narrow_file t)) h.0)

same_after : (o : List ℕ) (e all : List EditItem) → e ≡ effective (fields o) all → SameEdit wave_kind o e all
unfolding file_after
same_after o e all is =
    let w = wave_of o in
    let raws : raw_items (fields o) e ≡ raw_items (fields o) all = ap (raw_items (fields o)) is ∙ raw_same (fields o) all in
    let effects : effective (fields o) e ≡ effective (fields o) all = ap (effective (fields o)) is ∙ all_effective (fields o) all in
    record {
      same_file = ap (λ (es : List EditItem). spell_wave (wave_by (widens_by es w (raw_items (fields o) e)) w (raw_items (fields o) e))) effects ∙ ap (λ (r : List RawItem). spell_wave (wave_by (widens_by (effective (fields o) all) w r) w r)) raws;
      same_size = ap (λ (es : List EditItem). large_after_by es (wave_by (widens_by es w (raw_items (fields o) e)) w (raw_items (fields o) e))) effects
          ∙ ap (λ (r : List RawItem). large_after_by (effective (fields o) all) (wave_by (widens_by (effective (fields o) all) w r) w r)) raws;
      same_room = ap (λ (es : List EditItem). not (widens_by es w (raw_items (fields o) e)) && has_room w (raw_items (fields o) e)) effects ∙ ap (λ (r : List RawItem). not (widens_by (effective (fields o) all) w r) && has_room w r) raws;
      same_patches = ap (patches_in w) raws;
    }

pub wave_law : IsKind wave_kind
wave_law = record {
  edited = λ o e bytes fine b small. edited_after o e bytes (why_supported o fine) b small;
  idle = λ o e bytes fine none. idle_after o e bytes (why_supported o fine) none;
  in_place = λ o e bytes fine small room. in_place_after o e bytes (why_supported o fine) small room;
  no_larger = λ o e bytes fine small. no_larger_after o e bytes (why_supported o fine) small;
  by_effect = same_after;
  lawful = λ o bytes fine. fields_lawful o (why_supported o fine);
}

-- Where an edit widens, the new file is the old one with its spans replaced; these ascend and lie in the old file.
pub after_spliced : (o : List ℕ) (e : List EditItem) → IsBytes o → Supported o → broken (kind_of o) 0 (fields o) e Base ≡ None → large_after o e ≡ None → widens o e ≡ true
    → (file_after o e ≡ splice o (cuts_widened o e)) × Ascend 0 (cuts_widened o e) (length o)
after_spliced o e bytes sup b l t =
    let r = raw_items (fields o) e in
    let x = widening o e t in
    let f = items_fine (kind_of o) (fields o) e (kind_is o bytes sup) b in
    let fits = wide_fits o e t l in
    let small = lists_from o bytes sup x.narrow r fits in (
      wide_file o e t ∙ sym (ap (λ (y : List ℕ). splice y (cuts_widened o e)) (spelled_is o bytes sup) ∙ widened_spliced o bytes sup x.narrow r f small),
      widened_ascend o bytes sup x.narrow r f small,
    )

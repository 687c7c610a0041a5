-- The answer of a planner: what is too large, or a plan in its form.
use Rattle.std.proofs.Common.{◌≡◌, ◌∙◌, ◌⊎◌, ℕ, ◌+◌, ◌-◌, ◌^◌, ◌≤◌, ◌<◌, Bool, true, false, cond, leb, List, [], ◌∷◌, ◌++◌, length, refl, sym, ap, arith, inl, inr}
use Rattle.std.specs.Prelude.{Some, None, ◌&&◌}
use Rattle.std.specs.List.{flat_map}
use Rattle.std.proofs.lemmas.Bool.{and_parts, cond-true, cond-false, le-leb, le-ltb, leb-true, lt-ltb}
use Rattle.part_tree.specs.declared.field.EditItem.{EditItem}
use Rattle.part_tree.specs.declared.plan.Patch.{Patch}
use Rattle.part_tree.specs.declared.plan.Plan.{Plan}
use Rattle.part_tree.specs.declared.plan.Plan.TheVariants.{InPlace, Rewrite}
use Rattle.field_model.specs.Update.{effective, raw_items}
use Rattle.container_model.proofs.Codec.{IsBytes}
use Rattle.part_tree.specs.Large.{Size, limited, is_above, first_above}
use Rattle.carrier_model.specs.Room.{units_fit}
use Rattle.part_tree.specs.Patches.{all_bytes}
use Rattle.part_tree.specs.Plans.{CanRun}
use Rattle.field_model.specs.KindReads.{IsForm}
use Rattle.wave_model.specs.Kind.{narrow_kind}
use Rattle.wave_model.specs.Wave.{is_big, is_wide, wave_of, form_kind, spell_wave}
use Rattle.wave_model.specs.Fields.{fields}
use Rattle.wave_model.specs.Edited.{Supported}
use Rattle.wave_model.specs.New.{ends_file, pieces_of, new_size, new_wave, new_file}
use Rattle.wave_model.specs.Large.{form_sizes, all_sizes, large_by, too_large}
use Rattle.wave_model.specs.Room.{Room, patches}
use Rattle.wave_model.proofs.Few.{few_patches}
use Rattle.unit_plan.specs.declared.row.UnitCuts.{UnitCuts}
use Rattle.unit_plan.specs.Cuts.{patch_of}
use Rattle.unit_plan.specs.Sized.{IsTooMuch, spliced_len}
use Rattle.unit_plan.specs.Planned as Units
use Rattle.unit_plan.proofs.Overlaid.{spliced_length}
use Rattle.wave_plan.specs.declared.frame.Frame.{Frame}
use Rattle.wave_plan.specs.Frame.{IsFrame}
use Rattle.wave_plan.specs.Framed.{framed}
use Rattle.wave_plan.specs.Planned.{ComesTo, IsListed, StandsIn, list_sizes, sizes_by}
use Rattle.wave_plan.proofs.Numbers.{framed_ascend}
use Rattle.wave_plan.proofs.Told.{fits_are, makes_new, parts_told, patches_told}

pub above_none : (a b : List Size) → first_above a ≡ None → first_above (a ++ b) ≡ first_above b
above_none [] b e = refl
above_none (s ∷ a) b e = go (is_above s) refl (above_none a b)
  where
    go : (t : Bool) → is_above s ≡ t → (first_above a ≡ None → first_above (a ++ b) ≡ first_above b) → cond (is_above s) (Some s) (first_above (a ++ b)) ≡ first_above b
    go true i again = let no : Some s ≡ None = sym (cond-true (is_above s) (Some s) (first_above a) i) ∙ e in absurd cc
    go false i again = cond-false (is_above s) (Some s) (first_above (a ++ b)) i ∙ again (sym (cond-false (is_above s) (Some s) (first_above a) i) ∙ e)

pub above_some : (a b : List Size) (x : Size) → first_above a ≡ Some x → first_above (a ++ b) ≡ Some x
above_some [] b x e = let no : None ≡ Some x = e in absurd cc
above_some (s ∷ a) b x e = go (is_above s) refl (above_some a b x)
  where
    go : (t : Bool) → is_above s ≡ t → (first_above a ≡ Some x → first_above (a ++ b) ≡ Some x) → cond (is_above s) (Some s) (first_above (a ++ b)) ≡ Some x
    go true i again = cond-true (is_above s) (Some s) (first_above (a ++ b)) i ∙ sym (cond-true (is_above s) (Some s) (first_above a) i) ∙ e
    go false i again = cond-false (is_above s) (Some s) (first_above (a ++ b)) i ∙ again (sym (cond-false (is_above s) (Some s) (first_above a) i) ∙ e)

form_sizes_by : (t : Bool) (id : List ℕ) (n : ℕ) → form_sizes (form_kind t) id n ≡ sizes_by t (is_big id) n
form_sizes_by true id n = refl
form_sizes_by false id n = refl

both_true : (s t : Bool) → s ≡ true → t ≡ true → (s && t) ≡ true
both_true true true e i = refl
both_true true false e i = absurd cc
both_true false t e i = absurd cc

module _ (b : List ℕ) (e : List EditItem) (bytes : IsBytes b) (sup : Supported b) (f : Frame) (fr : IsFrame b f) (u : UnitCuts) (comes : ComesTo b e u) (st : StandsIn f u) where
  sizes_told : (parts_now n : ℕ) → parts_now ≡ u.parts + cond f.big 1 0 → n ≡ new_size (wave_of b) (raw_items (fields b) e)
      → all_sizes (wave_of b) (raw_items (fields b) e) ≡ list_sizes b e ++ ((limited 65536 parts_now ∷ sizes_by f.wide f.big n) ++ limited (2 ^ 63 - 1) (length (new_file b e)) ∷ [])
  unfolding new_file
  sizes_told parts_now n is size =
      let v = wave_of b in
      let r = raw_items (fields b) e in
      let file = limited (2 ^ 63 - 1) (length (spell_wave (new_wave v r))) ∷ [] in
      ap (λ (k : ℕ). list_sizes b e ++ (limited 65536 k ∷ (form_sizes v.form v.id (new_size v r) ++ file))) (sym (parts_told b e bytes sup f fr u comes st parts_now is))
      ∙ ap (λ (x : List Size). list_sizes b e ++ (limited 65536 parts_now ∷ (x ++ file)))
      (form_sizes_by (is_wide b) v.id (new_size v r) ∙ ap (sizes_by (is_wide b) (is_big v.id)) (sym size) ∙ ap (λ (t : Bool). sizes_by t (is_big v.id) n) (sym fr.wide) ∙ ap (λ (t : Bool). sizes_by f.wide t n) (sym fr.big))

  narrow_effect : IsListed b e → too_large b e ≡ first_above (all_sizes (wave_of b) (raw_items (fields b) e))
  narrow_effect listed = go (effective (fields b) e) listed.effect
    where
      go : (is : List EditItem) → 0 < length is → large_by is (wave_of b) (raw_items (fields b) e) ≡ first_above (all_sizes (wave_of b) (raw_items (fields b) e))
      go [] h = absurd (omega (arith, h))
      go (i ∷ is) h = refl

  pub large_told : (parts_now n : ℕ) → IsListed b e → parts_now ≡ u.parts + cond f.big 1 0 → n ≡ new_size (wave_of b) (raw_items (fields b) e)
      → too_large b e ≡ first_above ((limited 65536 parts_now ∷ sizes_by f.wide f.big n) ++ limited (2 ^ 63 - 1) (length (new_file b e)) ∷ [])
  large_told parts_now n listed is size =
      narrow_effect listed ∙ ap first_above (sizes_told parts_now n is size) ∙ above_none (list_sizes b e) ((limited 65536 parts_now ∷ sizes_by f.wide f.big n) ++ limited (2 ^ 63 - 1) (length (new_file b e)) ∷ []) listed.lists

  -- the parts, or the form
  pub refuses : (parts_now n : ℕ) (s : Size) → IsListed b e → parts_now ≡ u.parts + cond f.big 1 0 → n ≡ new_size (wave_of b) (raw_items (fields b) e)
      → Some s ≡ first_above (limited 65536 parts_now ∷ sizes_by f.wide f.big n) → too_large b e ≡ Some s
  refuses parts_now n s listed is size some =
      large_told parts_now n listed is size ∙ above_some (limited 65536 parts_now ∷ sizes_by f.wide f.big n) (limited (2 ^ 63 - 1) (length (new_file b e)) ∷ []) s (sym some)

  -- the file
  pub file_told : (parts_now n len : ℕ) → IsListed b e → parts_now ≡ u.parts + cond f.big 1 0 → n ≡ new_size (wave_of b) (raw_items (fields b) e)
      → None ≡ first_above (limited 65536 parts_now ∷ sizes_by f.wide f.big n) → len ≡ length (new_file b e) → too_large b e ≡ first_above (limited (2 ^ 63 - 1) len ∷ [])
  file_told parts_now n len listed is size none long =
      large_told parts_now n listed is size ∙ above_none (limited 65536 parts_now ∷ sizes_by f.wide f.big n) (limited (2 ^ 63 - 1) (length (new_file b e)) ∷ []) (sym none)
      ∙ ap (λ (k : ℕ). first_above (limited (2 ^ 63 - 1) k ∷ [])) (sym long)

  pub file_large : (len : ℕ) → 2 ^ 63 - 1 < len → first_above (limited (2 ^ 63 - 1) len ∷ []) ≡ Some (limited (2 ^ 63 - 1) len)
  file_large len h = cond-true (is_above (limited (2 ^ 63 - 1) len)) (Some (limited (2 ^ 63 - 1) len)) None (lt-ltb (2 ^ 63 - 1) len h)

  pub file_fits : (len : ℕ) → len ≤ 2 ^ 63 - 1 → first_above (limited (2 ^ 63 - 1) len ∷ []) ≡ None
  file_fits len h = cond-false (is_above (limited (2 ^ 63 - 1) len)) (Some (limited (2 ^ 63 - 1) len)) None (le-ltb (2 ^ 63 - 1) len h)

  -- how long the new file is
  pub new_long : (n : ℕ) → n ≡ new_size (wave_of b) (raw_items (fields b) e) → length (new_file b e) ≡ spliced_len f.len (framed f n u.cuts.items)
  new_long n is = sym (ap length (makes_new b e bytes sup f fr u comes st n is)) ∙ spliced_length b f.len (framed f n u.cuts.items) (sym fr.len) (framed_ascend f u st n)

  -- the form of the plan
  pub form_told : (n new : ℕ) → n + f.len ≡ spliced_len f.len u.cuts.items + f.size → n ≡ new_size (wave_of b) (raw_items (fields b) e) → new ≡ length (new_file b e) → too_large b e ≡ None
      → (p : Plan) → CanRun p → Units.IsPlanOf u.fits f.len new (flat_map patch_of (framed f n u.cuts.items)) p → IsForm narrow_kind b e p
  form_told n new sum is long small (InPlace old m qs) can h =
      let ps : qs ≡ patches b e = h.3 ∙ patches_told b e bytes sup f fr u comes st n sum is h.0 in
      let bytes_few : all_bytes (patches b e) ≤ 2 ^ 24 = omega (arith, can.rules.small, ap all_bytes ps) in (
        both_true (units_fit (ends_file (wave_of b)) (pieces_of (wave_of b) (raw_items (fields b) e))) (leb (all_bytes (patches b e)) (2 ^ 24)) (sym (fits_are b e bytes sup f fr u comes st) ∙ h.0) (le-leb (all_bytes (patches b e)) (2 ^ 24) bytes_few),
        h.1 ∙ fr.len,
        h.2 ∙ long,
        ps,
      )
  form_told n new sum is long small (Rewrite m moves segments) can h = ((λ room. by room h.0), h.1 ∙ long)
    where
      by : Room b e → (u.fits ≡ false) ⊎ IsTooMuch (flat_map patch_of (framed f n u.cuts.items)) → ⊥
      by room (inl unfit) =
          let p = and_parts (units_fit (ends_file (wave_of b)) (pieces_of (wave_of b) (raw_items (fields b) e))) (leb (all_bytes (patches b e)) (2 ^ 24)) room in
          let fit : u.fits ≡ true = fits_are b e bytes sup f fr u comes st ∙ p.0 in
          absurd cc
      by room (inr (inl many)) =
          let p = and_parts (units_fit (ends_file (wave_of b)) (pieces_of (wave_of b) (raw_items (fields b) e))) (leb (all_bytes (patches b e)) (2 ^ 24)) room in
          let ps = patches_told b e bytes sup f fr u comes st n sum is (fits_are b e bytes sup f fr u comes st ∙ p.0) in
          absurd (omega (arith, many, ap (λ (x : List Patch). length x) ps, few_patches b bytes sup e small))
      by room (inr (inr much)) =
          let p = and_parts (units_fit (ends_file (wave_of b)) (pieces_of (wave_of b) (raw_items (fields b) e))) (leb (all_bytes (patches b e)) (2 ^ 24)) room in
          let ps = patches_told b e bytes sup f fr u comes st n sum is (fits_are b e bytes sup f fr u comes st ∙ p.0) in
          absurd (omega (arith, much, ap all_bytes ps, leb-true (all_bytes (patches b e)) (2 ^ 24) p.1))

-- Whether a form becomes RF64; and one that doesn't is planned as one that keeps its width.
use Rattle.std.proofs.Common.{◌≡◌, ◌∙◌, ℕ, ◌-◌, ◌^◌, ◌<◌, ◌≤◌, Bool, true, false, List, [], ◌∷◌, ◌++◌, length, map, take, refl, sym, ap, arith}
use Rattle.std.specs.Prelude.{Result, Some, ◌&&◌, not, nat_lt}
use Rattle.std.specs.declared.result.Result.TheVariants.{Ok, Err}
use Rattle.std.proofs.lemmas.Bool.{le-ltb, lt-ltb}
use Rattle.part_tree.specs.declared.field.EditItem.{EditItem}
use Rattle.part_tree.specs.declared.plan.Plan.{Plan}
use Rattle.part_tree.specs.declared.plan.Plan.TheVariants.{InPlace, Rewrite}
use Rattle.part_tree.specs.declared.plan.PlanFault.{PlanFault}
use Rattle.part_tree.specs.declared.plan.PlanFault.TheVariants.{TooLarge, Depot, Memory}
use Rattle.part_tree.specs.Large.{Size, limited, first_above}
use Rattle.field_model.specs.KindReads.{IsForm, PlansKind}
use Rattle.field_model.specs.Update.{effective, raw_items}
use Rattle.container_model.proofs.Codec.{IsBytes}
use Rattle.wave_model.specs.Wave.{is_big, Wave, inner, spell_wave, wave_of}
use Rattle.wave_model.specs.Fields.{bodies, body_in, fields, is_info}
use Rattle.wave_model.specs.Edited.{Supported, parts}
use Rattle.wave_model.specs.Kind.{narrow_kind, wave_kind}
use Rattle.wave_model.specs.New.{new_children, new_size, new_wave}
use Rattle.wave_model.specs.Large.{form_sizes}
use Rattle.wave_model.specs.Room.{has_room}
use Rattle.wave_model.specs.Widen.{large_after, large_after_by, reserved, sizes_in, wave_after, wave_by, widened_wave, widens, widens_by}
use Rattle.wave_model.proofs.Kind.{narrow_file, narrow_large, widening}
use Rattle.wave_model.proofs.New.{ignores_info}
use Rattle.wave_model.proofs.Seen.{see_info}
use Rattle.wave_model.proofs.Widened.{view_kids}
use Rattle.wave_plan.specs.declared.frame.Frame.{Frame}
use Rattle.wave_plan.specs.Frame.{IsFrame}
use Rattle.wave_plan.specs.Planned.{IsListed, list_sizes}
use Rattle.wave_plan.proofs.Answered.{above_some}

module _ (b : List ℕ) (e : List EditItem) where
  widens_told : IsListed b e → widens b e ≡ (not (is_big (take 4 b)) && nat_lt (2 ^ 32 - 1) (new_size (wave_of b) (raw_items (fields b) e)))
  widens_told listed = go (effective (fields b) e) listed.effect
    where
      go : (is : List EditItem) → 0 < length is → widens_by is (wave_of b) (raw_items (fields b) e) ≡ (not (is_big (take 4 b)) && nat_lt (2 ^ 32 - 1) (new_size (wave_of b) (raw_items (fields b) e)))
      go [] h = absurd (omega (arith, h))
      go (i ∷ is) h = refl

  module _ (f : Frame) (fr : IsFrame b f) (listed : IsListed b e) (n : ℕ) (size : n ≡ new_size (wave_of b) (raw_items (fields b) e)) where
    told : widens b e ≡ (not f.big && nat_lt (2 ^ 32 - 1) n)
    told = widens_told listed ∙ ap (λ (t : Bool). not t && nat_lt (2 ^ 32 - 1) (new_size (wave_of b) (raw_items (fields b) e))) (sym fr.big) ∙ ap (λ (k : ℕ). not f.big && nat_lt (2 ^ 32 - 1) k) (sym size)

    pub does_widen : f.big ≡ false → 2 ^ 32 - 1 < n → widens b e ≡ true
    does_widen narrow large = told ∙ ap (λ (t : Bool). not t && nat_lt (2 ^ 32 - 1) n) narrow ∙ lt-ltb (2 ^ 32 - 1) n large

    pub big_stays : f.big ≡ true → widens b e ≡ false
    big_stays big = told ∙ ap (λ (t : Bool). not t && nat_lt (2 ^ 32 - 1) n) big

    pub small_stays : n ≤ 2 ^ 32 - 1 → widens b e ≡ false
    small_stays l = told ∙ ap (λ (t : Bool). not f.big && t) (le-ltb (2 ^ 32 - 1) n l) ∙ never (not f.big)
      where
        never : (t : Bool) → (t && false) ≡ false
        never true = refl
        never false = refl

  pub as_narrow : IsBytes b → Supported b → widens b e ≡ false → (r : Result Plan PlanFault) → PlansKind narrow_kind b e r → PlansKind wave_kind b e r
  as_narrow bytes sup t (Ok p) h = record { fits = narrow_large b e bytes sup t ∙ h.fits; makes = h.makes ∙ sym (narrow_file b e t); form = form p h.form; belongs = h.belongs }
    where
      form : (p : Plan) → IsForm narrow_kind b e p → IsForm wave_kind b e p
      form (InPlace old new ps) g =
          (ap (λ (u : Bool). not u && has_room (wave_of b) (raw_items (fields b) e)) t ∙ g.0, g.1, g.2 ∙ sym (ap length (narrow_file b e t)), g.3)
      form (Rewrite new moves segments) g =
          ((λ room. g.0 (sym (ap (λ (u : Bool). not u && has_room (wave_of b) (raw_items (fields b) e)) t) ∙ room)), g.1 ∙ sym (ap length (narrow_file b e t)))
  as_narrow bytes sup t (Err (TooLarge size limit)) h = narrow_large b e bytes sup t ∙ h
  as_narrow bytes sup t (Err Depot) h = tt
  as_narrow bytes sup t (Err Memory) h = tt

  -- a list that is too long is the first size that passes its limit
  pub list_passes : IsBytes b → Supported b → 0 < length (effective (fields b) e) → (s : Size) → first_above (list_sizes b e) ≡ Some s → large_after b e ≡ Some s
  list_passes bytes sup some s h = go (effective (fields b) e) some ∙ by (widens b e) refl
    where
      go : (is : List EditItem) → 0 < length is → large_after_by is (wave_after b e) ≡ first_above (sizes_in (wave_after b e))
      go [] l = absurd (omega (arith, l))
      go (i ∷ is) l = refl

      after : Wave → List Size
      after w = limited 65536 (parts w) ∷ (form_sizes w.form w.id (length (inner w)) ++ limited (2 ^ 63 - 1) (length (spell_wave w)) ∷ [])

      by : (t : Bool) → widens b e ≡ t → first_above (sizes_in (wave_by t (wave_of b) (raw_items (fields b) e))) ≡ Some s
      by false i = above_some (list_sizes b e) (after (new_wave (wave_of b) (raw_items (fields b) e))) s h
      by true i =
          let v = widened_wave (reserved (wave_of b).children) (new_wave (wave_of b) (raw_items (fields b) e)) in
          let same : bodies is_info v.children ≡ bodies is_info (new_children (wave_of b) (raw_items (fields b) e)) = view_kids b bytes sup (widening b e i).narrow (raw_items (fields b) e) (body_in is_info) see_info ignores_info.padding in
          above_some (map (λ x. limited (2 ^ 24) (length x)) (bodies is_info v.children)) (after v) s (ap (λ (xs : List (List ℕ)). first_above (map (λ x. limited (2 ^ 24) (length x)) xs)) same ∙ h)

-- Lawful fields tell their version in two bytes.
use Rattle.std.proofs.Common.{◌≡◌, ℕ, ◌<◌, List, [], ◌∷◌, length, get_or, refl, ap, ◌∙◌, arith, inl, inr}
use Rattle.part_tree.specs.declared.field.BextField.TheVariants.{Version}
use Rattle.part_tree.specs.declared.field.FieldName.TheVariants.{Bext}
use Rattle.part_tree.specs.declared.field.Value.{Value}
use Rattle.field_model.specs.Body.{FillsRange}
use Rattle.field_model.specs.Fields.{FieldMap, first_raw}
use Rattle.field_model.specs.Lawful.{BextIsWhole}

fills_two : (raw : List ℕ) → FillsRange Version raw → length raw ≡ 2
fills_two raw (inl e) = absurd (omega (arith, e))
fills_two raw (inr e) = e

pub first_two : (f : FieldMap) (vs : List Value) (d : Value) → BextIsWhole f → vs ≡ f (Bext Version) → 0 < length vs → length (get_or vs 0 d).raw ≡ 2
first_two f vs d (inl all) same some =
    let one = all Version in
    let is : vs ≡ one.0 ∷ [] = same ∙ one.1 in
    ap (λ (ws : List Value). length (get_or ws 0 d).raw) is ∙ fills_two one.0.raw one.2
first_two f vs d (inr none) same some = absurd (omega (arith, some, ap length (same ∙ none Version)))

pub first_is : (vs : List Value) (d : Value) → 0 < length vs → first_raw vs ≡ (get_or vs 0 d).raw
first_is [] d some = absurd (omega arith)
first_is (v ∷ vs) d some = refl

-- The values of lawful fields fill their names.
use Rattle.std.proofs.Common.{◌≡◌, ℕ, ◌<◌, List, [], ◌∷◌, length, get_or, sym, ap, ◌∙◌, subst, arith, inl, inr}
use Rattle.part_tree.specs.declared.field.FieldName.{FieldName}
use Rattle.part_tree.specs.declared.field.FieldName.TheVariants.{Bext}
use Rattle.part_tree.specs.declared.field.BextField.{BextField}
use Rattle.part_tree.specs.declared.field.Value.{Value}
use Rattle.field_model.specs.Body.{FillsRange}
use Rattle.field_model.specs.Fields.{FieldMap}
use Rattle.field_model.specs.Lawful.{BextIsWhole, FillsName, IsLawful}

one_fills : (field : BextField) (v : Value) (vs : List Value) (i : ℕ) (d : Value) → vs ≡ v ∷ [] → i < length vs → FillsRange field v.raw → FillsRange field (get_or vs i d).raw
one_fills field v vs i d is inside fills =
    let first : i ≡ 0 = omega (arith, inside, ap length is) in
    subst (λ (ws : List Value). FillsRange field (get_or ws i d).raw) (sym is) (subst (λ (j : ℕ). FillsRange field (get_or (v ∷ []) j d).raw) (sym first) fills)

bext_fills : (f : FieldMap) (field : BextField) (vs : List Value) (i : ℕ) (d : Value) → BextIsWhole f → vs ≡ f (Bext field) → i < length vs → FillsRange field (get_or vs i d).raw
bext_fills f field vs i d (inl all) same inside = let one = all field in one_fills field one.0 vs i d (same ∙ one.1) inside one.2
bext_fills f field vs i d (inr none) same inside = absurd (omega (arith, inside, ap length (same ∙ none field)))

pub value_fills : (f : FieldMap) (name : FieldName) (vs : List Value) (i : ℕ) (d : Value) → IsLawful f → vs ≡ f name → i < length vs → FillsName name (get_or vs i d).raw
value_fills f (Bext field) vs i d lawful same inside = bext_fills f field vs i d lawful.bext same inside
value_fills f other vs i d lawful same inside = tt

-- The only value of a name of lawful fields fills its name.
use Rattle.std.proofs.Common.{◌≡◌, ◌≤◌, ◌<◌, List, [], ◌∷◌, length, get_or, sym, ap, ◌∙◌, subst, inl, inr, arith}
use Rattle.part_tree.specs.declared.field.FieldName.{FieldName}
use Rattle.part_tree.specs.declared.field.FieldName.TheVariants.{Bext}
use Rattle.part_tree.specs.declared.field.BextField.{BextField}
use Rattle.part_tree.specs.declared.field.Value.{Value}
use Rattle.field_model.specs.Body.{FillsRange}
use Rattle.field_model.specs.Fields.{FieldMap}
use Rattle.field_model.specs.Lawful.{BextIsWhole, FillsName, IsLawful}

bext_fills : (f : FieldMap) (field : BextField) (v : Value) → BextIsWhole f → f (Bext field) ≡ v ∷ [] → FillsRange field v.raw
bext_fills f field v (inl all) is =
    let one = all field in
    let same : one.0 ≡ v = cc in
    subst (λ (w : Value). FillsRange field w.raw) same one.2
bext_fills f field v (inr none) is = absurd (omega (arith, ap length (sym is ∙ none field)))

pub only_fills : (f : FieldMap) (name : FieldName) (v : Value) → IsLawful f → f name ≡ v ∷ [] → FillsName name v.raw
only_fills f (Bext field) v lawful is = bext_fills f field v lawful.bext is
only_fills f _ v lawful is = tt

-- a list of one value
pub only_one : (vs : List Value) (v : Value) → 1 ≤ length vs → length vs < 2 → v ≡ get_or vs 0 v → vs ≡ v ∷ []
only_one [] v some few is = absurd (omega arith)
only_one (w ∷ []) v some few is = ap (λ (x : Value). x ∷ []) (sym is)
only_one (w ∷ x ∷ vs) v some few is = absurd (omega arith)

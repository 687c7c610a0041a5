-- The items that have an effect are the same items again, in texts and in raw bytes.
use Rattle.std.proofs.Common.{◌≡◌, Bool, true, false, cond, List, [], ◌∷◌, refl, ap, ◌∙◌}
use Rattle.std.specs.Prelude.{filter}
use Rattle.std.specs.List.{filter_map}
use Rattle.part_tree.specs.declared.field.EditItem.{EditItem}
use Rattle.field_model.specs.Fields.{FieldMap}
use Rattle.field_model.specs.Update.{raw_item, raw_items, has_effect, effective}

filtered : {X : Type 0} (p : X → Bool) (xs : List X) → filter p (filter p xs) ≡ filter p xs
filtered p [] = refl
filtered {X} p (x ∷ xs) = go (p x) refl (filtered p xs)
  where
    go : (t : Bool) → p x ≡ t → filter p (filter p xs) ≡ filter p xs → filter p (cond t (x ∷ filter p xs) (filter p xs)) ≡ cond t (x ∷ filter p xs) (filter p xs)
    go true e more = ap (λ (s : Bool). cond s (x ∷ filter p (filter p xs)) (filter p (filter p xs))) e ∙ ap (λ (ys : List X). x ∷ ys) more
    go false e more = more

pub all_effective : (f : FieldMap) (e : List EditItem) → effective f (effective f e) ≡ effective f e
all_effective f e = filtered (has_effect f) e

pub raw_same : (f : FieldMap) (e : List EditItem) → raw_items f (effective f e) ≡ raw_items f e
raw_same f e = ap (filter_map raw_item) (all_effective f e)

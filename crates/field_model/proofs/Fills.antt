-- The ranges of a body of `bext` that is long enough.
use Rattle.std.proofs.Common.{◌≡◌, ℕ, ◌<◌, ◌≤◌, List, [], ◌∷◌, length, map, drop, sym, arith, inl, inr, subst}
use Rattle.std.specs.Prelude.{◌⊎◌}
use Rattle.std.specs.List.{AllByRecursion}
use Rattle.std.proofs.lemmas.Bool.{cases_lt}
use Rattle.std.proofs.lemmas.List.{length-take, length-drop}
use Rattle.part_tree.specs.declared.field.BextField.{BextField}
use Rattle.part_tree.specs.declared.field.FieldName.TheVariants.{Bext, Key}
use Rattle.part_tree.specs.Names.{bext_row}
use Rattle.field_model.specs.Bext.{range_of, range_at, range_len}
use Rattle.field_model.specs.Body.{FillsRange}
use Rattle.field_model.specs.Fields.{FieldMap, plain}
use Rattle.field_model.specs.Lawful.{BextIsWhole, HasKeyHead, IsLawful}
use Rattle.field_model.proofs.Raised.{row_small}
use Rattle.field_model.proofs.Ranges.{fixed_len, before_rest}

pub range_fills : (field : BextField) (body : List ℕ) → 602 ≤ length body → FillsRange field (range_of (bext_row field) body)
range_fills field body long = go (cases_lt (bext_row field) 14)
  where
    go : (bext_row field < 14) ⊎ (14 ≤ bext_row field) → FillsRange field (range_of (bext_row field) body)
    go (inl lt) =
        let k = bext_row field in
        let n = length body in
        let size = length-take (range_len k n) (drop (range_at k n) body) in
        let from = length-drop (range_at k n) body in
        inr (omega (arith, size, from, before_rest k n lt, fixed_len k 0 n lt))
    go (inr le) = inl (omega (arith, row_small field))

-- Fields that are the ranges of at most one body, which is long enough, have `bext` whole.
pub ranges_whole : (f : FieldMap) (bs : List (List ℕ)) → ((field : BextField) → f (Bext field) ≡ map plain (map (range_of (bext_row field)) bs)) → length bs ≤ 1 → AllByRecursion (λ b. 602 ≤ length b) bs → BextIsWhole f
ranges_whole f [] h few long = inr (λ field. h field)
ranges_whole f (b ∷ []) h few long = inl (λ field. (plain (range_of (bext_row field) b), h field, range_fills field b long.0))
ranges_whole f (b ∷ c ∷ bs) h few long = absurd (omega arith)

-- where no key has a value, they are
pub ranges_lawful : (f : FieldMap) (bs : List (List ℕ)) → ((field : BextField) → f (Bext field) ≡ map plain (map (range_of (bext_row field)) bs)) → length bs ≤ 1 → AllByRecursion (λ b. 602 ≤ length b) bs
    → ((name : List ℕ) → f (Key name) ≡ []) → IsLawful f
ranges_lawful f bs h few long none = record { bext = ranges_whole f bs h few long; keys = λ name. subst (AllByRecursion HasKeyHead) (sym (none name)) tt }

-- Fields without `bext` and without keys are lawful.
pub none_lawful : (f : FieldMap) → ((field : BextField) → f (Bext field) ≡ []) → ((key : List ℕ) → f (Key key) ≡ []) → IsLawful f
none_lawful f bext keys = record { bext = inr bext; keys = λ key. subst (AllByRecursion HasKeyHead) (sym (keys key)) tt }

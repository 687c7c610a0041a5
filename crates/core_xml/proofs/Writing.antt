-- The lines of a table that is written, name by name.
use Rattle.std.proofs.Common.{◌≡◌, ℕ, ◌+◌, ◌<◌, ◌≤◌, List, [], ◌∷◌, ◌++◌, length, get_or, drop, Bool, true, false, Some, None, refl, sym, ap, ◌∙◌, append_assoc, append-nil, filter, cond, inl, inr}
use Rattle.std.specs.Prelude.{◌⊎◌, slice_get, is_some}
use Rattle.std.proofs.lemmas.Bool.{false≢true}
use Rattle.std.proofs.lemmas.List.{at_drop_all, at_drop_more}
use Rattle.std.proofs.lemmas.Option.{get_or_from_slice_get, slice_get_cases, slice_get_within}
use Rattle.part_tree.specs.declared.field.FieldName.{FieldName}
use Rattle.field_model.specs.Fields.{FieldMap}
use Rattle.core_edit.specs.Exported.{label, shown_in, table_text}
use Rattle.core_xml.specs.Markup.{marked, marked_byte}
use Rattle.core_xml.specs.Written.{field_line, lines, lines_of_names}

-- the lines of a name and of others
lines_cons : (f : FieldMap) (name : FieldName) (some : List FieldName) → lines f (name ∷ some) ≡ lines f (name ∷ []) ++ lines f some
lines_cons f name some = go (is_some (table_text f name))
  where
    kept : List FieldName
    kept = filter (λ n. is_some (table_text f n)) some

    go : (t : Bool) → lines_of_names f (cond t (name ∷ kept) kept) ≡ lines_of_names f (cond t (name ∷ []) []) ++ lines_of_names f kept
    go true = ap (λ (xs : List ℕ). xs ++ lines_of_names f kept) (sym (append-nil (field_line (label name) (shown_in f name))))
    go false = refl

pub lines_more : (f : FieldMap) (names : List FieldName) (k : ℕ) (name : FieldName) (done new whole : List ℕ) → slice_get names k ≡ Some name
    → new ≡ done ++ lines f (name ∷ []) → done ++ lines f (drop k names) ≡ whole → new ++ lines f (drop (k + 1) names) ≡ whole
lines_more f names k name done new whole is put so_far =
    let rest = lines f (drop (k + 1) names) in
    let split : lines f (drop k names) ≡ lines f (name ∷ []) ++ rest =
    at_drop_more (lines f) names k name (slice_get_within names k name is)
    ∙ ap (λ (n : FieldName). lines f (n ∷ drop (k + 1) names)) (get_or_from_slice_get names k name name is)
    ∙ lines_cons f name (drop (k + 1) names) in
    ap (λ (xs : List ℕ). xs ++ rest) put ∙ append_assoc done (lines f (name ∷ [])) rest ∙ ap (λ (xs : List ℕ). done ++ xs) (sym split) ∙ so_far

past : {X : Type 0} (xs : List X) (k : ℕ) → slice_get xs k ≡ None → length xs ≤ k
past {X} xs k none = go (slice_get_cases xs k).1
  where
    go : ((x : X) × (k < length xs) × (slice_get xs k ≡ Some x) × (get_or xs k x ≡ x)) ⊎ ((length xs ≤ k) × (slice_get xs k ≡ None)) → length xs ≤ k
    go (inl found) = absurd (false≢true (ap is_some (sym none ∙ found.2)))
    go (inr h) = h.0

pub lines_end : (f : FieldMap) (names : List FieldName) (k : ℕ) (done whole : List ℕ) → slice_get names k ≡ None → done ++ lines f (drop k names) ≡ whole → done ≡ whole
lines_end f names k done whole none so_far =
    sym (append-nil done) ∙ ap (λ (xs : List ℕ). done ++ xs) (sym (at_drop_all (lines f) names k (past names k none))) ∙ so_far

-- a character further
pub marked_more : (text : List ℕ) (k : ℕ) (done new whole : List ℕ) → k < length text → new ≡ done ++ marked_byte (get_or text k 0)
    → done ++ marked (drop k text) ≡ whole → new ++ marked (drop (k + 1) text) ≡ whole
marked_more text k done new whole inside put so_far =
    let rest = marked (drop (k + 1) text) in
    let x = get_or text k 0 in
    ap (λ (xs : List ℕ). xs ++ rest) put ∙ append_assoc done (marked_byte x) rest ∙ ap (λ (xs : List ℕ). done ++ xs) (sym (at_drop_more marked text k 0 inside)) ∙ so_far

pub marked_end : (text : List ℕ) (k : ℕ) (done whole : List ℕ) → length text ≤ k → done ++ marked (drop k text) ≡ whole → done ≡ whole
marked_end text k done whole end so_far = sym (append-nil done) ∙ ap (λ (xs : List ℕ). done ++ xs) (sym (at_drop_all marked text k end)) ∙ so_far

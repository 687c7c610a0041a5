-- What is shown of a file is one text.
use Rattle.std.proofs.Common.{◌≡◌, ℕ, suc, ◌<◌, ◌≤◌, List, [], ◌∷◌, ◌++◌, length, Bool, true, false, ltb, refl, sym, ap, ◌∙◌, subst, arith, cond}
use Rattle.std.specs.Prelude.{codes}
use Rattle.std.specs.List.{flat_map}
use Rattle.std.proofs.Math.Path.{fun_ext}
use Rattle.std.proofs.lemmas.Bool.{cond-true, ltb-true, ltb-false}
use Rattle.part_tree.specs.declared.field.FieldName.{FieldName}
use Rattle.part_tree.specs.declared.field.Value.{Value}
use Rattle.part_tree.specs.declared.fields.Entry.{Entry}
use Rattle.part_tree.specs.Fields.{Ascends, names, values}
use Rattle.part_tree.specs.Names.{field_place, same_name}
use Rattle.part_tree.proofs.Places.{place_is_same, same_is_equal, same_refl}
use Rattle.field_model.specs.Fields.{FieldMap}
use Rattle.me_report.specs.Lines.{count_line}
use Rattle.me_report.specs.Report.{field_lines, index_line, kind_line, track_lines}
use Rattle.edit_planner.specs.Kinds.{model_in}
use Rattle.metaedit_top.specs.Asked.{fields_of, payload}
use Rattle.metaedit_top.specs.Told.{Lists, Shows}

-- names of another place are others
others : (a b : FieldName) → (field_place a ≡ field_place b → ⊥) → same_name a b ≡ false
others a b apart = go (same_name a b) refl
  where
    go : (t : Bool) → same_name a b ≡ t → same_name a b ≡ false
    go true e = absurd (apart (ap field_place (same_is_equal a b e)))
    go false e = e

-- behind an entry of another name
behind : (e : Entry) (es : List Entry) (n : FieldName) → same_name e.name n ≡ false → values (e ∷ es) n ≡ values es n
behind e es n h = ap (λ (t : Bool). cond t e.values (values es n)) h

-- at the entry's own name
at_head : (e : Entry) (es : List Entry) → values (e ∷ es) e.name ≡ e.values
at_head e es = cond-true (same_name e.name e.name) e.values (values es e.name) (same_refl e.name)

-- before the first entry
absent : (low : ℕ) (es : List Entry) (n : FieldName) → Ascends low es → field_place n < low → values es n ≡ []
absent low [] n asc less = refl
absent low (e ∷ es) n asc less =
    behind e es n (others e.name n (λ (same : field_place e.name ≡ field_place n). omega (arith, same, less, asc.0))) ∙ absent (suc (field_place e.name)) es n asc.3 (omega (arith, less, asc.0))

-- an entry whose name has no values in the other list
alone : (e : Entry) (es fs : List Entry) → 0 < length e.values → values (e ∷ es) e.name ≡ values fs e.name → values fs e.name ≡ [] → ⊥
alone e es fs some same none =
    let gone : e.values ≡ [] = sym (at_head e es) ∙ (same ∙ none) in
    omega (arith, some, ap (λ (vs : List Value). length vs) gone)

same_names : (low : ℕ) (es fs : List Entry) → Ascends low es → Ascends low fs → ((n : FieldName) → values es n ≡ values fs n) → names es ≡ names fs
unfolding others behind at_head absent alone
same_names low [] [] a b same = refl
same_names low [] (f ∷ fs) a b same = absurd (alone f fs [] b.2 (sym (same f.name)) refl)
same_names low (e ∷ es) [] a b same = absurd (alone e es [] a.2 (same e.name) refl)
same_names low (e ∷ es) (f ∷ fs) a b same = go (ltb (field_place e.name) (field_place f.name)) (ltb (field_place f.name) (field_place e.name)) refl refl (same_names (suc (field_place e.name)) es)
  where
    go : (t u : Bool) → ltb (field_place e.name) (field_place f.name) ≡ t → ltb (field_place f.name) (field_place e.name) ≡ u
        → ((xs : List Entry) → Ascends (suc (field_place e.name)) es → Ascends (suc (field_place e.name)) xs → ((n : FieldName) → values es n ≡ values xs n) → names es ≡ names xs)
        → e.name ∷ names es ≡ f.name ∷ names fs
    go true u less _ again =
        let before = ltb-true (field_place e.name) (field_place f.name) less in
        absurd (alone e es (f ∷ fs) a.2 (same e.name) (absent (field_place f.name) (f ∷ fs) e.name (omega arith, b.1, b.2, b.3) before))
    go false true _ less again =
        let before = ltb-true (field_place f.name) (field_place e.name) less in
        absurd (alone f fs (e ∷ es) b.2 (sym (same f.name)) (absent (field_place e.name) (e ∷ es) f.name (omega arith, a.1, a.2, a.3) before))
    go false false no_less no_more again =
        let x = ltb-false (field_place e.name) (field_place f.name) no_less in
        let y = ltb-false (field_place f.name) (field_place e.name) no_more in
        let place : field_place e.name ≡ field_place f.name = omega (arith, x, y) in
        let is : e.name ≡ f.name = same_is_equal e.name f.name (place_is_same e.name f.name a.1 b.1 place) in
        let tail : Ascends (suc (field_place e.name)) fs = subst (λ (k : ℕ). Ascends (suc k) fs) (sym place) b.3 in
        ap (λ (n : FieldName). n ∷ names es) is ∙ ap (λ (ns : List FieldName). f.name ∷ ns) (again fs a.3 tail (rest tail is))
      where
        rest : Ascends (suc (field_place e.name)) fs → e.name ≡ f.name → (n : FieldName) → values es n ≡ values fs n
        rest tail is n = by (same_name e.name n) refl
          where
            by : (t : Bool) → same_name e.name n ≡ t → values es n ≡ values fs n
            by true hit =
                let at : field_place n ≡ field_place e.name = ap field_place (sym (same_is_equal e.name n hit)) in
                absent (suc (field_place e.name)) es n a.3 (omega (arith, at)) ∙ sym (absent (suc (field_place e.name)) fs n tail (omega (arith, at)))
            by false miss = sym (behind e es n miss) ∙ same n ∙ behind f fs n (ap (λ (m : FieldName). same_name m n) (sym is) ∙ miss)

-- all lines of entries are those of their values and names
lines_of : (o : List ℕ) (es : List Entry) → Lists es o → flat_map (field_lines (values es)) (names es) ≡ flat_map (field_lines (fields_of o)) (names es)
lines_of o es is = ap (λ (f : FieldMap). flat_map (field_lines f) (names es)) (fun_ext is.same)

pub shown_once : (o a b : List ℕ) → Shows o a → Shows o b → a ≡ b
unfolding same_names lines_of
shown_once o a b x y =
    let same = same_names 0 x.fields y.fields x.lists.ordered y.lists.ordered (λ n. x.lists.same n ∙ sym (y.lists.same n)) in
    let lines =
    lines_of o x.fields x.lists ∙ ap (λ (ns : List FieldName). flat_map (field_lines (fields_of o)) ns) same ∙ sym (lines_of o y.fields y.lists) in
    x.is ∙ ap (λ (text : List ℕ). (kind_line ((model_in o).kind o) ++ (count_line (codes "essence ") (payload o) ++ index_line ((model_in o).entries o))) ++ (track_lines o ((model_in o).essence o) 1 ((model_in o).tracks o) ++ text)) lines ∙ sym y.is

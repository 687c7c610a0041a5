-- What the model finds is what items break, and then what the rules on fields find.
use Rattle.std.proofs.Common.{◌≡◌, ℕ, zero, suc, ◌<◌, ◌≤◌, ◌+◌, List, [], ◌∷◌, ◌++◌, map, length, get_or, drop, Bool, true, false, cond, refl, sym, ap, ◌∙◌, arith, subst, Some, None}
use Rattle.std.specs.Prelude.{filter, option_map, ◌||◌}
use Rattle.std.specs.List.{list_any}
use Rattle.std.proofs.lemmas.List.{at_drop_more, at_drop_all}
use Rattle.part_tree.specs.declared.field.Broken.{Broken}
use Rattle.part_tree.specs.declared.field.EditItem.{EditItem}
use Rattle.part_tree.specs.declared.field.FieldName.{FieldName}
use Rattle.part_tree.specs.declared.field.RuleSet.{RuleSet}
use Rattle.part_tree.specs.declared.field.RuleSet.TheVariants.{Base, Ebu, Fadgi}
use Rattle.part_tree.specs.declared.field.RuleSet.TheVariants as set
use Rattle.part_tree.specs.declared.names.Kind.{Kind}
use Rattle.part_tree.specs.Names.{same_name}
use Rattle.part_tree.proofs.Places.{same_refl}
use Rattle.field_model.specs.Broken.{broken, findings, first_found, chooses}
use Rattle.field_model.specs.Fields.{FieldMap}
use Rattle.field_model.specs.Update.{effective, update}
use Rattle.fadgi_rules.specs.declared.row.FieldRule.{FieldRule}
use Rattle.fadgi_rules.specs.declared.row.TheConstants.{FIELD_RULES}
use Rattle.fadgi_rules.specs.Findings.{row_findings, field_findings}
use Rattle.fadgi_rules.specs.Items.{item_tests, found}
use Rattle.fadgi_rules.specs.Rows.{number, set_of, fields_of, fails, first_in, LooksAt}
use Rattle.fadgi_rules.proofs.Items.{tests_find, find_rest}

all_findings : (kind : Kind) (streams : ℕ) (f : FieldMap) (e : List EditItem) (sets : RuleSet) → findings kind streams f e sets ≡ tests_find 1 (item_tests kind streams) (effective f e) (field_findings FIELD_RULES kind f e sets)
all_findings kind streams f e Base = refl
all_findings kind streams f e Ebu = refl
all_findings kind streams f e set.Info = refl
all_findings kind streams f e Fadgi = refl

joined : (kind : Kind) (streams : ℕ) (f : FieldMap) (e : List EditItem) (sets : RuleSet) → findings kind streams f e sets ≡ findings kind streams f e Base ++ field_findings FIELD_RULES kind f e sets
joined kind streams f e sets = all_findings kind streams f e sets ∙ find_rest 1 (item_tests kind streams) (effective f e) (field_findings FIELD_RULES kind f e sets)

none_found : (bs : List Broken) → first_found bs ≡ None → bs ≡ []
none_found [] h = refl
none_found (b ∷ bs) h = absurd cc

first_stays : (xs bs : List Broken) (b : Broken) → first_found xs ≡ Some b → first_found (xs ++ bs) ≡ Some b
first_stays [] bs b h = absurd cc
first_stays (a ∷ xs) bs b h = h

-- where items break a rule, the first of them is the first of all
pub items_first : (kind : Kind) (streams : ℕ) (f : FieldMap) (e : List EditItem) (sets : RuleSet) (b : Broken) → broken kind streams f e Base ≡ Some b → broken kind streams f e sets ≡ Some b
items_first kind streams f e sets b h = ap first_found (joined kind streams f e sets) ∙ first_stays (findings kind streams f e Base) (field_findings FIELD_RULES kind f e sets) b h

-- where they break none, the rules on fields find all
pub fields_find : (kind : Kind) (streams : ℕ) (f : FieldMap) (e : List EditItem) (sets : RuleSet) → broken kind streams f e Base ≡ None → findings kind streams f e sets ≡ field_findings FIELD_RULES kind f e sets
fields_find kind streams f e sets h = joined kind streams f e sets ∙ ap (λ (bs : List Broken). bs ++ field_findings FIELD_RULES kind f e sets) (none_found (findings kind streams f e Base) h)

-- an edit without items breaks none of the rules on items
pub empty_fine : (kind : Kind) (streams : ℕ) (f : FieldMap) → broken kind streams f [] Base ≡ None
empty_fine kind streams f = refl

-- ---- the rules one after the other

first_none : (xs bs : List Broken) → first_found xs ≡ None → first_found (xs ++ bs) ≡ first_found bs
first_none xs bs h = ap (λ (ys : List Broken). first_found (ys ++ bs)) (none_found xs h)

pub rules_next : (rs : List FieldRule) (k : ℕ) (d : FieldRule) (kind : Kind) (f : FieldMap) (e : List EditItem) (sets : RuleSet) → k < length rs
    → field_findings (drop k rs) kind f e sets ≡ row_findings (get_or rs k d) kind f e sets ++ field_findings (drop (k + 1) rs) kind f e sets
rules_next rs k d kind f e sets inside = at_drop_more (λ (xs : List FieldRule). field_findings xs kind f e sets) rs k d inside

pub first_here : (rs : List FieldRule) (k : ℕ) (d : FieldRule) (kind : Kind) (f : FieldMap) (e : List EditItem) (sets : RuleSet) (b : Broken) → k < length rs
    → first_found (row_findings (get_or rs k d) kind f e sets) ≡ Some b → first_found (field_findings (drop k rs) kind f e sets) ≡ Some b
first_here rs k d kind f e sets b inside h =
    ap first_found (rules_next rs k d kind f e sets inside) ∙ first_stays (row_findings (get_or rs k d) kind f e sets) (field_findings (drop (k + 1) rs) kind f e sets) b h

pub first_later : (rs : List FieldRule) (k : ℕ) (d : FieldRule) (kind : Kind) (f : FieldMap) (e : List EditItem) (sets : RuleSet) → k < length rs
    → first_found (row_findings (get_or rs k d) kind f e sets) ≡ None → first_found (field_findings (drop k rs) kind f e sets) ≡ first_found (field_findings (drop (k + 1) rs) kind f e sets)
first_later rs k d kind f e sets inside h =
    ap first_found (rules_next rs k d kind f e sets inside) ∙ first_none (row_findings (get_or rs k d) kind f e sets) (field_findings (drop (k + 1) rs) kind f e sets) h

-- ---- the names one after the other

-- a name that stands in the list is looked at
pub name_looks : (r : FieldRule) (kind : Kind) (names : List FieldName) (k : ℕ) (d name : FieldName) → names ≡ fields_of r kind → k < length names → name ≡ get_or names k d → LooksAt r name
name_looks r kind names k d name are inside is =
    let P : List FieldName → Type 0 = λ ns. list_any (same_name name) ns ≡ true in
    let Q : FieldName → Type 0 = λ n. list_any (same_name n) names ≡ true in
    (kind, subst P are (subst Q (sym is) (there names k d inside)))
  where
    there : (names : List FieldName) (k : ℕ) (d : FieldName) → k < length names → list_any (same_name (get_or names k d)) names ≡ true
    there [] k d inside = absurd (omega (arith, inside))
    there (n ∷ names) zero d inside = ap (λ (t : Bool). t || list_any (same_name n) names) (same_refl n)
    there (n ∷ names) (suc k) d inside = ap (λ (t : Bool). same_name (get_or names k d) n || t) (there names k d (omega (arith, inside))) ∙ or_true (same_name (get_or names k d) n)
      where
        or_true : (t : Bool) → (t || true) ≡ true
        or_true true = refl
        or_true false = refl

pub kept_here : (p : FieldName → Bool) (names : List FieldName) (k : ℕ) (d : FieldName) → k < length names → p (get_or names k d) ≡ true
    → filter p (drop k names) ≡ get_or names k d ∷ filter p (drop (k + 1) names)
kept_here p names k d inside h =
    at_drop_more (filter p) names k d inside ∙ ap (λ (t : Bool). cond t (get_or names k d ∷ filter p (drop (k + 1) names)) (filter p (drop (k + 1) names))) h

pub left_out : (p : FieldName → Bool) (names : List FieldName) (k : ℕ) (d : FieldName) → k < length names → p (get_or names k d) ≡ false
    → filter p (drop k names) ≡ filter p (drop (k + 1) names)
left_out p names k d inside h =
    at_drop_more (filter p) names k d inside ∙ ap (λ (t : Bool). cond t (get_or names k d ∷ filter p (drop (k + 1) names)) (filter p (drop (k + 1) names))) h

-- ---- what one rule finds

first_map : (n : ℕ) (names : List FieldName) → first_found (map (found n) names) ≡ option_map (found n) (first_in names)
first_map n [] = refl
first_map n (name ∷ names) = refl

pub row_first : (r : FieldRule) (kind : Kind) (f : FieldMap) (e : List EditItem) (sets : RuleSet) → chooses sets (set_of r) ≡ true
    → first_found (row_findings r kind f e sets) ≡ option_map (found (number r)) (first_in (filter (fails r (update f e)) (fields_of r kind)))
row_first r kind f e sets chosen =
    let names : List FieldName = filter (fails r (update f e)) (fields_of r kind) in
    ap (λ (t : Bool). first_found (cond t (map (found (number r)) names) [])) chosen ∙ first_map (number r) names

pub rules_over : (rs : List FieldRule) (k : ℕ) (kind : Kind) (f : FieldMap) (e : List EditItem) (sets : RuleSet) → length rs ≤ k → field_findings (drop k rs) kind f e sets ≡ []
rules_over rs k kind f e sets past = at_drop_all (λ (xs : List FieldRule). field_findings xs kind f e sets) rs k past

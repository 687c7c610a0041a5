-- An edit that breaks no basic rule sets fields that the kind has, and texts that aren't too long.
use Rattle.std.proofs.Common.{◌≡◌, ℕ, suc, Bool, true, false, cond, List, [], ◌∷◌, ◌++◌, map, None, refl}
use Rattle.std.specs.Prelude.{not, filter, nat_le}
use Rattle.std.specs.List.{AllByRecursion}
use Rattle.part_tree.specs.Names.{field_place}
use Rattle.part_tree.specs.declared.field.Broken.{Broken}
use Rattle.part_tree.specs.declared.field.EditItem.{EditItem}
use Rattle.part_tree.specs.declared.field.FieldName.{FieldName}
use Rattle.part_tree.specs.declared.field.RuleSet.{RuleSet}
use Rattle.part_tree.specs.declared.field.RuleSet.TheVariants.{Base}
use Rattle.part_tree.specs.declared.names.Kind.{Kind}
use Rattle.field_model.specs.Broken.{Rule, on_item, chooses, failing, findings_from, findings, first_found, first_name, first_of, broken, set_fails, rules}
use Rattle.field_model.specs.Fields.{FieldMap}
use Rattle.field_model.specs.KindFacts.{has_field}
use Rattle.field_model.specs.Rules.{too_long}
use Rattle.field_model.specs.Update.{effective}

-- ---- lists of which nothing is found

nil_parts : {A : Type 0} (a b : List A) → a ++ b ≡ [] → (a ≡ []) × (b ≡ [])
nil_parts [] b e = (refl, e)
nil_parts (x ∷ a) b e = absurd cc

nil_map : {A B : Type 0} (f : A → B) (xs : List A) → map f xs ≡ [] → xs ≡ []
nil_map f [] e = refl
nil_map f (x ∷ xs) e = absurd cc

nil_filter : {A : Type 0} (p : A → Bool) (xs : List A) → filter p xs ≡ [] → AllByRecursion (λ x. p x ≡ false) xs
nil_filter p [] e = tt
nil_filter p (x ∷ xs) e = go (p x) refl e (nil_filter p xs)
  where
    go : (t : Bool) → p x ≡ t → cond t (x ∷ filter p xs) (filter p xs) ≡ [] → (filter p xs ≡ [] → AllByRecursion (λ x. p x ≡ false) xs) → (p x ≡ false) × AllByRecursion (λ x. p x ≡ false) xs
    go true i e again = absurd cc
    go false i e again = (i, again e)

nil_first : (names : List FieldName) → first_name names ≡ [] → names ≡ []
nil_first [] e = refl
nil_first (n ∷ names) e = go (first_name names) e
  where
    two : (t : Bool) (m : FieldName) → cond t (n ∷ []) (m ∷ []) ≡ [] → n ∷ names ≡ []
    two true m e = absurd cc
    two false m e = absurd cc

    go : (ms : List FieldName) → first_of n ms ≡ [] → n ∷ names ≡ []
    go [] e = absurd cc
    go (m ∷ ms) e = two (nat_le (field_place n) (field_place m)) m e

nil_found : (bs : List Broken) → first_found bs ≡ None → bs ≡ []
nil_found [] e = refl
nil_found (b ∷ bs) e = absurd cc

-- ---- one rule after the other

module _ (kind : Kind) (streams : ℕ) (f : FieldMap) (e : List EditItem) (sets : RuleSet) where
  -- a rule that is chosen finds nothing
  abbrev FindsNone : Rule → Type 0
  FindsNone r = chooses sets r.set ≡ true → failing r.test kind streams f e ≡ []

  each_rule : (n : ℕ) (rs : List Rule) → findings_from n rs kind streams f e sets ≡ [] → AllByRecursion FindsNone rs
  each_rule n [] h = tt
  each_rule n (r ∷ rs) h =
      let p = nil_parts (cond (chooses sets r.set) (map {B = Broken} (λ name. record { rule = n; field = name }) (failing r.test kind streams f e)) []) (findings_from (suc n) rs kind streams f e sets) h in
      (λ c. chosen c p.0, each_rule (suc n) rs p.1)
    where
      chosen : chooses sets r.set ≡ true → cond (chooses sets r.set) (map {B = Broken} (λ name. record { rule = n; field = name }) (failing r.test kind streams f e)) [] ≡ [] → failing r.test kind streams f e ≡ []
      chosen c none =
          let all : map {B = Broken} (λ name. record { rule = n; field = name }) (failing r.test kind streams f e) ≡ [] = rw c at none in
          nil_map {B = Broken} (λ name. record { rule = n; field = name }) (failing r.test kind streams f e) all

-- no item with an effect fails a rule on items
no_item : (fails : Kind → ℕ → EditItem → Bool) (kind : Kind) (streams : ℕ) (f : FieldMap) (e : List EditItem) → failing (on_item fails) kind streams f e ≡ [] → AllByRecursion (λ i. fails kind streams i ≡ false) (effective f e)
no_item fails kind streams f e h =
    nil_filter (fails kind streams) (effective f e) (nil_map (λ (i : EditItem). i.name) (filter (fails kind streams) (effective f e)) (nil_first (map (λ (i : EditItem). i.name) (filter (fails kind streams) (effective f e))) h))

-- ---- what is kept

-- The field is one that the kind has, and the text isn't too long.
pub record Kept (kind : Kind) (streams : ℕ) (i : EditItem) : Type 0 where
  pub field : not (has_field kind streams i.name) ≡ false
  pub short : set_fails too_long i.name i.change ≡ false

kept_by : (kind : Kind) (streams : ℕ) (es : List EditItem) → AllByRecursion (λ i. not (has_field kind streams i.name) ≡ false) es → AllByRecursion (λ i. set_fails too_long i.name i.change ≡ false) es → AllByRecursion (Kept kind streams) es
kept_by kind streams [] h g = tt
kept_by kind streams (i ∷ es) h g = (record { field = h.0; short = g.0 }, kept_by kind streams es h.1 g.1)

-- each item that has an effect, of an edit that breaks no basic rule
pub base_kept : (kind : Kind) (streams : ℕ) (f : FieldMap) (e : List EditItem) → broken kind streams f e Base ≡ None → AllByRecursion (Kept kind streams) (effective f e)
base_kept kind streams f e none =
    let all = each_rule kind streams f e Base 1 rules (nil_found (findings kind streams f e Base) none) in
    let first = all.0 refl in
    let last = all.1.1.1.1.1.1.1.1.1.1.1.1.0 refl in
    kept_by kind streams (effective f e) (no_item (λ kind streams item. not (has_field kind streams item.name)) kind streams f e first) (no_item (λ kind streams item. set_fails too_long item.name item.change) kind streams f e last)

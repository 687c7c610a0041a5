-- The first rule that some item of an edit breaks, one item after the other.
use Rattle.std.proofs.Common.{◌≡◌, ℕ, suc, ◌≤◌, List, [], ◌∷◌, ◌++◌, map, Bool, true, false, cond, refl, sym, ap, ◌∙◌, arith, Option, Some, None, append_assoc}
use Rattle.std.specs.Prelude.{filter, ◌||◌, ◌&&◌, ◌==◌, nat_le, option_map}
use Rattle.std.proofs.lemmas.Bool.{lt-ltb, le-ltb, eq-eqb, ne_eqb}
use Rattle.part_tree.specs.declared.field.Broken.{Broken}
use Rattle.part_tree.specs.declared.field.EditItem.{EditItem}
use Rattle.part_tree.specs.declared.field.FieldName.{FieldName}
use Rattle.part_tree.specs.declared.field.RuleSet.TheVariants.{Base}
use Rattle.part_tree.specs.declared.names.Kind.{Kind}
use Rattle.part_tree.specs.Names.{field_place}
use Rattle.field_model.specs.Broken.{broken, first_found, first_name, first_of}
use Rattle.field_model.specs.Fields.{FieldMap}
use Rattle.field_model.specs.Update.{effective, has_effect}
use Rattle.fadgi_rules.specs.Items.{ItemTest, item_tests, least_from, item_rule, found, first_of_two, items_broken}

-- what some tests find among items, and then the rest
abbrev pub tests_find : ℕ → List ItemTest → List EditItem → List Broken → List Broken
tests_find n [] xs rest = rest
tests_find n (t ∷ ts) xs rest = map (found n) (first_name (map (λ i. i.name) (filter t xs))) ++ tests_find (suc n) ts xs rest

pub find_rest : (n : ℕ) (ts : List ItemTest) (xs : List EditItem) (rest : List Broken) → tests_find n ts xs rest ≡ tests_find n ts xs [] ++ rest
find_rest n [] xs rest = refl
find_rest n (t ∷ ts) xs rest =
    let here : List Broken = map (found n) (first_name (map (λ i. i.name) (filter t xs))) in
    ap (λ (bs : List Broken). here ++ bs) (find_rest (suc n) ts xs rest) ∙ sym (append_assoc here (tests_find (suc n) ts xs []) rest)

-- what is found has at least the number of the first test
abbrev AtLeast : ℕ → Option Broken → Type 0
AtLeast n None = Unit {0}
AtLeast n (Some b) = n ≤ b.rule

found_from : (n : ℕ) (ts : List ItemTest) (xs : List EditItem) (m : ℕ) → m ≤ n → AtLeast m (first_found (tests_find n ts xs []))
found_from n [] xs m le = tt
found_from n (t ∷ ts) xs m le = go (first_name (map (λ i. i.name) (filter t xs))) (found_from (suc n) ts xs m (omega (arith, le)))
  where
    go : (names : List FieldName) → AtLeast m (first_found (tests_find (suc n) ts xs [])) → AtLeast m (first_found (map (found n) names ++ tests_find (suc n) ts xs []))
    go [] rest = rest
    go (name ∷ names) rest = le

least_more : (n : ℕ) (ts : List ItemTest) (x : EditItem) (m : ℕ) → m ≤ n → AtLeast m (option_map (λ k. found k x.name) (least_from n ts x))
least_more n [] x m le = tt
least_more n (t ∷ ts) x m le = go (t x) (least_more (suc n) ts x m (omega (arith, le)))
  where
    go : (b : Bool) → AtLeast m (option_map (λ k. found k x.name) (least_from (suc n) ts x)) → AtLeast m (option_map (λ k. found k x.name) (cond b (Some n) (least_from (suc n) ts x)))
    go true rest = le
    go false rest = rest

-- a lower rule comes first
low_first : (n : ℕ) (name : FieldName) (o : Option Broken) → AtLeast (suc n) o → first_of_two (Some (found n name)) o ≡ Some (found n name)
low_first n name None h = refl
low_first n name (Some b) h = ap (λ (t : Bool). cond (t || ((n == b.rule) && nat_le (field_place name) (field_place b.field))) (Some (found n name)) (Some b)) (lt-ltb n b.rule (omega (arith, h)))

low_second : (n : ℕ) (name : FieldName) (o : Option Broken) → AtLeast (suc n) o → first_of_two o (Some (found n name)) ≡ Some (found n name)
low_second n name None h = refl
low_second n name (Some b) h =
    ap (λ (t : Bool). cond (t || ((b.rule == n) && nat_le (field_place b.field) (field_place name))) (Some b) (Some (found n name))) (le-ltb b.rule n (omega (arith, h)))
    ∙ ap (λ (t : Bool). cond (t && nat_le (field_place b.field) (field_place name)) (Some b) (Some (found n name))) (ne_eqb b.rule n (λ e. omega (arith, h, e)))

-- of one rule the field that comes first
same_rule : (n : ℕ) (x m : FieldName) → first_of_two (Some (found n x)) (Some (found n m)) ≡ cond (nat_le (field_place x) (field_place m)) (Some (found n x)) (Some (found n m))
same_rule n x m =
    ap (λ (t : Bool). cond (t || ((n == n) && nat_le (field_place x) (field_place m))) (Some (found n x)) (Some (found n m))) (le-ltb n n (omega arith))
    ∙ ap (λ (t : Bool). cond (t && nat_le (field_place x) (field_place m)) (Some (found n x)) (Some (found n m))) (eq-eqb n n refl)

-- one item more
pub one_more : (n : ℕ) (ts : List ItemTest) (x : EditItem) (xs : List EditItem)
    → first_found (tests_find n ts (x ∷ xs) []) ≡ first_of_two (option_map (λ k. found k x.name) (least_from n ts x)) (first_found (tests_find n ts xs []))
one_more n [] x xs = refl
one_more n (t ∷ ts) x xs = go (t x) (one_more (suc n) ts x xs)
  where
    names : List FieldName
    names = map (λ i. i.name) (filter t xs)

    rest : List Broken
    rest = tests_find (suc n) ts xs []

    both : List Broken
    both = tests_find (suc n) ts (x ∷ xs) []

    hit : (ns : List FieldName) → first_found (map (found n) (first_of x.name ns) ++ both) ≡ first_of_two (Some (found n x.name)) (first_found (map (found n) ns ++ rest))
    hit [] = sym (low_first n x.name (first_found rest) (found_from (suc n) ts xs (suc n) (omega arith)))
    hit (m ∷ ns) = by (nat_le (field_place x.name) (field_place m)) ∙ sym (same_rule n x.name m)
      where
        by : (b : Bool) → first_found (map (found n) (cond b (x.name ∷ []) (m ∷ [])) ++ both) ≡ cond b (Some (found n x.name)) (Some (found n m))
        by true = refl
        by false = refl

    again : Type 0
    again = first_found both ≡ first_of_two (option_map (λ k. found k x.name) (least_from (suc n) ts x)) (first_found rest)

    miss : again → (ns : List FieldName) → first_found (map (found n) ns ++ both) ≡ first_of_two (option_map (λ k. found k x.name) (least_from (suc n) ts x)) (first_found (map (found n) ns ++ rest))
    miss h [] = h
    miss h (m ∷ ns) = sym (low_second n m (option_map (λ k. found k x.name) (least_from (suc n) ts x)) (least_more (suc n) ts x (suc n) (omega arith)))

    go : (b : Bool) → again → first_found (map (found n) (first_name (map (λ i. i.name) (cond b (x ∷ filter t xs) (filter t xs)))) ++ both)
        ≡ first_of_two (option_map (λ k. found k x.name) (cond b (Some n) (least_from (suc n) ts x))) (first_found (map (found n) (first_name names) ++ rest))
    go true h = hit (first_name names)
    go false h = miss h (first_name names)

nothing : (n : ℕ) (ts : List ItemTest) → first_found (tests_find n ts [] []) ≡ None
nothing n [] = refl
nothing n (t ∷ ts) = nothing (suc n) ts

all_items : (kind : Kind) (streams : ℕ) (f : FieldMap) (e : List EditItem) → items_broken kind streams f e ≡ first_found (tests_find 1 (item_tests kind streams) (effective f e) [])
all_items kind streams f [] = sym (nothing 1 (item_tests kind streams))
all_items kind streams f (x ∷ e) = go (has_effect f x) (all_items kind streams f e)
  where
    go : (b : Bool) → items_broken kind streams f e ≡ first_found (tests_find 1 (item_tests kind streams) (effective f e) []) → first_of_two (cond b (option_map (λ k. found k x.name) (item_rule kind streams x)) None) (items_broken kind streams f e) ≡ first_found (tests_find 1 (item_tests kind streams) (cond b (x ∷ effective f e) (effective f e)) [])
    go true h = ap (first_of_two (option_map (λ k. found k x.name) (item_rule kind streams x))) h ∙ sym (one_more 1 (item_tests kind streams) x (effective f e))
    go false h = h

-- what the model finds first for the basic rules is the first that some item breaks
pub items_are_broken : (kind : Kind) (streams : ℕ) (f : FieldMap) (e : List EditItem) → items_broken kind streams f e ≡ broken kind streams f e Base
items_are_broken kind streams f e = all_items kind streams f e

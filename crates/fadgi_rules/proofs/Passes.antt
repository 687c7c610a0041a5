-- What it says of an item that it breaks none of the rules 1 to 13.
use Rattle.std.proofs.Common.{◌≡◌, ℕ, suc, List, [], ◌∷◌, Bool, true, false, cond, refl, sym, ap, ◌∙◌, Option, Some, None}
use Rattle.std.specs.Prelude.{option_map}
use Rattle.std.specs.List.{AllByRecursion}
use Rattle.part_tree.specs.declared.field.Broken.{Broken}
use Rattle.part_tree.specs.declared.field.EditItem.{EditItem}
use Rattle.part_tree.specs.declared.field.RuleSet.TheVariants.{Base}
use Rattle.part_tree.specs.declared.names.Kind.{Kind}
use Rattle.field_model.specs.Broken.{broken}
use Rattle.field_model.specs.Fields.{FieldMap}
use Rattle.field_model.specs.Update.{has_effect}
use Rattle.fadgi_rules.specs.Items.{ItemTest, item_tests, least_from, item_rule, found, item_broken, comes_first, first_of_two, items_broken}
use Rattle.fadgi_rules.proofs.Items.{items_are_broken}

-- each test passes
abbrev pub Passes : List ItemTest → EditItem → Type 0
Passes tests item = AllByRecursion (λ fails. fails item ≡ false) tests

abbrev pub EffectsPass : Kind → ℕ → FieldMap → List EditItem → Type 0
EffectsPass kind streams f e = AllByRecursion (λ item. has_effect f item ≡ true → Passes (item_tests kind streams) item) e

no_least : (n : ℕ) (tests : List ItemTest) (item : EditItem) → option_map (λ k. found k item.name) (least_from n tests item) ≡ None → Passes tests item
no_least n [] item h = tt
no_least n (t ∷ tests) item h = go (t item) refl h (no_least (suc n) tests item)
  where
    go : (b : Bool) → t item ≡ b → option_map (λ k. found k item.name) (cond b (Some n) (least_from (suc n) tests item)) ≡ None
        → (option_map (λ k. found k item.name) (least_from (suc n) tests item) ≡ None → Passes tests item) → Passes (t ∷ tests) item
    go true e h again = absurd cc
    go false e h again = (e, again h)

neither : (a b : Option Broken) → first_of_two a b ≡ None → (a ≡ None) × (b ≡ None)
neither None b h = (refl, h)
neither (Some a) None h = absurd cc
neither (Some a) (Some b) h = go (comes_first a b) h
  where
    go : (t : Bool) → cond t (Some a) (Some b) ≡ None → (Some a ≡ None) × (Some b ≡ None)
    go true h = absurd cc
    go false h = absurd cc

each_passes : (kind : Kind) (streams : ℕ) (f : FieldMap) (e : List EditItem) → items_broken kind streams f e ≡ None → EffectsPass kind streams f e
each_passes kind streams f [] h = tt
each_passes kind streams f (item ∷ e) h =
    let both = neither (item_broken kind streams f item) (items_broken kind streams f e) h in
    let found_none : Option Broken = option_map (λ k. found k item.name) (item_rule kind streams item) in
    ((λ acts. no_least 1 (item_tests kind streams) item (sym (ap (λ (t : Bool). cond t found_none None) acts) ∙ both.0)), each_passes kind streams f e both.1)

pub fine_passes : (kind : Kind) (streams : ℕ) (f : FieldMap) (e : List EditItem) → broken kind streams f e Base ≡ None → EffectsPass kind streams f e
fine_passes kind streams f e h = each_passes kind streams f e (items_are_broken kind streams f e ∙ h)

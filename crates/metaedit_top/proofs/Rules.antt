-- Rules of an edit, and of its items that have an effect.
use Rattle.std.proofs.Common.{◌≡◌, ℕ, suc, ◌≤◌, ◌+◌, List, [], ◌∷◌, ◌++◌, length, map, filter, Bool, true, false, None, Some, Option, refl, ap, ◌∙◌, arith, cond, length-append}
use Rattle.part_tree.specs.declared.field.Broken.{Broken}
use Rattle.part_tree.specs.declared.field.EditItem.{EditItem}
use Rattle.part_tree.specs.declared.field.FieldName.{FieldName}
use Rattle.part_tree.specs.declared.field.RuleSet.{RuleSet}
use Rattle.part_tree.specs.declared.field.RuleSet.TheVariants.{Base, Ebu, Fadgi}
use Rattle.part_tree.specs.declared.field.RuleSet.TheVariants as set
use Rattle.part_tree.specs.declared.names.Kind.{Kind}
use Rattle.part_tree.specs.declared.names.Kind.TheVariants.{Wave, Rf64, Bw64, Avi, Mov}
use Rattle.field_model.specs.Broken.{Test, on_item, on_fields, Rule, rules, chooses, failing, findings_from, findings, first_found, first_name, broken}
use Rattle.field_model.specs.Fields.{FieldMap}
use Rattle.field_model.proofs.Effective.{all_effective, raw_same}
use Rattle.field_model.specs.Update.{RawItem, effective, update, updated}

append_none : {X : Type 0} (xs ys : List X) → xs ++ ys ≡ [] → (xs ≡ []) × (ys ≡ [])
append_none [] ys h = (refl, h)
append_none (x ∷ xs) ys h = absurd cc

found_none : (bs : List Broken) → first_found bs ≡ None → bs ≡ []
found_none [] h = refl
found_none (b ∷ bs) h = absurd cc

-- a rule of Base is tested in each set
base_chosen : (s r : RuleSet) → chooses Base r ≡ true → chooses s r ≡ true
base_chosen Base Base h = refl
base_chosen Ebu Base h = refl
base_chosen set.Info Base h = refl
base_chosen Fadgi Base h = refl
base_chosen s Ebu h = absurd cc
base_chosen s set.Info h = absurd cc
base_chosen s Fadgi h = absurd cc

module _ (kind : Kind) (streams : ℕ) (f : FieldMap) (e : List EditItem) (sets : RuleSet) where
  -- the items with an effect fail where the edit does
  same_failing : (t : Test) → failing t kind streams f (effective f e) ≡ failing t kind streams f e
  same_failing (on_item fails) = ap (λ (is : List EditItem). first_name (map (λ (i : EditItem). i.name) (filter (fails kind streams) is))) (all_effective f e)
  same_failing (on_fields names fails) = ap (λ (rs : List RawItem). filter (fails (updated rs f)) (names kind)) (raw_same f e)

  none_found : (n : ℕ) (rs : List Rule) → findings_from n rs kind streams f e sets ≡ [] → findings_from n rs kind streams f (effective f e) Base ≡ []
  unfolding same_failing
  none_found n [] h = refl
  none_found n (r ∷ rs) h = go (chooses Base r.set) (chooses sets r.set) (base_chosen sets r.set) h (none_found (suc n) rs)
    where
      found : List Broken
      found = map (λ (name : FieldName). record { rule = n; field = name }) (failing r.test kind streams f e)

      go : (s t : Bool) → (s ≡ true → t ≡ true) → cond t found [] ++ findings_from (suc n) rs kind streams f e sets ≡ []
          → (findings_from (suc n) rs kind streams f e sets ≡ [] → findings_from (suc n) rs kind streams f (effective f e) Base ≡ [])
          → cond s (map (λ (name : FieldName). record { rule = n; field = name }) (failing r.test kind streams f (effective f e))) [] ++ findings_from (suc n) rs kind streams f (effective f e) Base ≡ []
      go true true on h more =
          let parts = append_none found (findings_from (suc n) rs kind streams f e sets) h in
          ap (λ (names : List FieldName). map (λ (name : FieldName). record { rule = n; field = name }) names ++ findings_from (suc n) rs kind streams f (effective f e) Base) (same_failing r.test)
          ∙ ap (λ (bs : List Broken). bs ++ findings_from (suc n) rs kind streams f (effective f e) Base) parts.0 ∙ more parts.1
      go true false on h more = absurd (not_true (on refl))
        where
          not_true : false ≡ true → ⊥
          not_true x = absurd cc
      go false true on h more = more (append_none found (findings_from (suc n) rs kind streams f e sets) h).1
      go false false on h more = more h

  pub effective_fine : broken kind streams f e sets ≡ None → broken kind streams f (effective f e) Base ≡ None
  unfolding none_found
  effective_fine h = ap first_found (none_found 1 rules (found_none (findings kind streams f e sets) h))

  none_base : (n : ℕ) (rs : List Rule) → findings_from n rs kind streams f e sets ≡ [] → findings_from n rs kind streams f e Base ≡ []
  none_base n [] h = refl
  none_base n (r ∷ rs) h = go (chooses Base r.set) (chooses sets r.set) (base_chosen sets r.set) h (none_base (suc n) rs)
    where
      found : List Broken
      found = map (λ (name : FieldName). record { rule = n; field = name }) (failing r.test kind streams f e)

      go : (s t : Bool) → (s ≡ true → t ≡ true) → cond t found [] ++ findings_from (suc n) rs kind streams f e sets ≡ []
          → (findings_from (suc n) rs kind streams f e sets ≡ [] → findings_from (suc n) rs kind streams f e Base ≡ []) → cond s found [] ++ findings_from (suc n) rs kind streams f e Base ≡ []
      go true true on h more =
          let parts = append_none found (findings_from (suc n) rs kind streams f e sets) h in
          ap (λ (bs : List Broken). bs ++ findings_from (suc n) rs kind streams f e Base) parts.0 ∙ more parts.1
      go true false on h more = absurd (not_true (on refl))
        where
          not_true : false ≡ true → ⊥
          not_true x = absurd cc
      go false true on h more = more (append_none found (findings_from (suc n) rs kind streams f e sets) h).1
      go false false on h more = more h

  pub base_fine : broken kind streams f e sets ≡ None → broken kind streams f e Base ≡ None
  unfolding none_base
  base_fine h = ap first_found (none_base 1 rules (found_none (findings kind streams f e sets) h))

-- ---- how much the rules can find

few : {X : Type 0} (p : X → Bool) (xs : List X) → length (filter p xs) ≤ length xs
few p [] = omega arith
few {X} p (x ∷ xs) = go (p x) (few p xs)
  where
    go : (t : Bool) → length (filter p xs) ≤ length xs → length (cond t (x ∷ filter p xs) (filter p xs)) ≤ suc (length xs)
    go true h = omega (arith, h)
    go false h = omega (arith, h)

same_count : {X Y : Type 0} (f : X → Y) (xs : List X) → length (map f xs) ≡ length xs
same_count f [] = refl
same_count f (x ∷ xs) = ap suc (same_count f xs)

-- at most each field that a rule looks at
abbrev most : Test → Kind → ℕ
most (on_item fails) kind = 0
most (on_fields names fails) kind = length (names kind)

abbrev most_of : List Rule → Kind → ℕ
most_of [] kind = 0
most_of (r ∷ rs) kind = most r.test kind + most_of rs kind

module _ (kind : Kind) (streams : ℕ) (f : FieldMap) (sets : RuleSet) where
  few_failing : (t : Test) → length (failing t kind streams f []) ≤ most t kind
  few_failing (on_item fails) = omega arith
  few_failing (on_fields names fails) = few (fails (update f [])) (names kind)

  few_from : (n : ℕ) (rs : List Rule) → length (findings_from n rs kind streams f [] sets) ≤ most_of rs kind
  unfolding few_failing
  few_from n [] = omega arith
  few_from n (r ∷ rs) = go (chooses sets r.set) (few_from (suc n) rs)
    where
      found : List Broken
      found = map (λ (name : FieldName). record { rule = n; field = name }) (failing r.test kind streams f [])

      go : (t : Bool) → length (findings_from (suc n) rs kind streams f [] sets) ≤ most_of rs kind
          → length (cond t found [] ++ findings_from (suc n) rs kind streams f [] sets) ≤ most r.test kind + most_of rs kind
      go true more =
          let all = length-append found (findings_from (suc n) rs kind streams f [] sets) in
          let same = same_count {Y = Broken} (λ (name : FieldName). record { rule = n; field = name }) (failing r.test kind streams f []) in
          let mine = few_failing r.test in
          omega (arith, all, same, mine, more)
      go false more = omega (arith, more)

few_rules : (kind : Kind) → most_of rules kind ≤ 1000
few_rules Wave = omega arith
few_rules Rf64 = omega arith
few_rules Bw64 = omega arith
few_rules Avi = omega arith
few_rules Mov = omega arith

pub few_found : (kind : Kind) (streams : ℕ) (f : FieldMap) (sets : RuleSet) → length (findings kind streams f [] sets) ≤ 1000
few_found kind streams f sets = let all = few_from kind streams f sets 1 rules in let some = few_rules kind in omega (arith, all, some)

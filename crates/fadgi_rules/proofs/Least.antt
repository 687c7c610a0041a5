-- The least rule that an item breaks which sets a text is the least that the text breaks.
use Rattle.std.proofs.Common.{◌≡◌, ℕ, suc, ◌+◌, ◌<◌, List, [], ◌∷◌, length, map, Bool, true, false, cond, refl, sym, ap, ◌∙◌, arith, Option, Some, None}
use Rattle.std.specs.Prelude.{is_none, is_some, not, nat_lt, option_map, position}
use Rattle.std.specs.List.{position_or_len}
use Rattle.std.proofs.lemmas.Bool.{cond-true, cond-false, lt-ltb, le-ltb, ltb-true, ltb-false}
use Rattle.part_tree.specs.declared.field.BextField.TheVariants.{OriginationDate, OriginationTime}
use Rattle.part_tree.specs.declared.field.Change.{Change}
use Rattle.part_tree.specs.declared.field.Change.TheVariants.{Set}
use Rattle.part_tree.specs.declared.field.EditItem.{EditItem}
use Rattle.part_tree.specs.declared.field.FieldName.{FieldName}
use Rattle.part_tree.specs.declared.field.FieldName.TheVariants.{Bext}
use Rattle.part_tree.specs.declared.names.Kind.{Kind}
use Rattle.field_model.specs.KindFacts.{has_field}
use Rattle.field_model.specs.Dates.{is_date, is_time}
use Rattle.field_model.specs.Rules.{TextRule, text_rules, text_rule}
use Rattle.fadgi_rules.specs.Items.{text_test, least_from, item_rule}

abbrev pub item : FieldName → Change → EditItem
item name change = record { name = name; change = change }

-- a place that is found behind a first that fails is one more
place_more : {X : Type 0} (p : X → Bool) (x : X) (xs : List X) (n : ℕ) → p x ≡ false
    → option_map (λ k. k + suc n) (position p xs) ≡ option_map (λ k. k + n) (position p (x ∷ xs))
place_more p x xs n h = go (nat_lt (position_or_len p xs) (length xs)) refl
  where
    at : ℕ
    at = position_or_len p xs

    all : ℕ
    all = position_or_len p (x ∷ xs)

    more : all ≡ 1 + at
    more = ap (λ (t : Bool). cond (not t) (1 + at) 0) h

    go : (t : Bool) → nat_lt at (length xs) ≡ t → option_map (λ k. k + suc n) (cond t (Some at) None) ≡ option_map (λ k. k + n) (cond (nat_lt all (length (x ∷ xs))) (Some all) None)
    go true e =
        let inside : at < length xs = ltb-true at (length xs) e in
        let here : at + suc n ≡ all + n = omega (arith, more) in
        ap Some here ∙ sym (ap (option_map (λ k. k + n)) (cond-true (nat_lt all (length (x ∷ xs))) (Some all) None (lt-ltb all (length (x ∷ xs)) (omega (arith, more, inside)))))
    go false e =
        sym (ap (option_map (λ k. k + n)) (cond-false (nat_lt all (length (x ∷ xs))) (Some all) None (le-ltb all (length (x ∷ xs)) (omega (arith, more, ltb-false at (length xs) e)))))

place_first : {X : Type 0} (p : X → Bool) (x : X) (xs : List X) (n : ℕ) → p x ≡ true → Some n ≡ option_map (λ k. k + n) (position p (x ∷ xs))
place_first p x xs n h =
    let all : ℕ = position_or_len p (x ∷ xs) in
    let none : all ≡ 0 = ap (λ (t : Bool). cond (not t) (1 + position_or_len p xs) 0) h in
    let here : n ≡ all + n = omega (arith, none) in
    ap Some here ∙ sym (ap (option_map (λ k. k + n)) (cond-true (nat_lt all (length (x ∷ xs))) (Some all) None (lt-ltb all (length (x ∷ xs)) (omega (arith, none)))))

least_text : (n : ℕ) (rs : List TextRule) (name : FieldName) (text : List ℕ) → least_from n (map text_test rs) (item name (Set text)) ≡ option_map (λ k. k + n) (position (λ r. r name text) rs)
least_text n [] name text = refl
least_text n (r ∷ rs) name text = go (r name text) refl (least_text (suc n) rs name text)
  where
    go : (t : Bool) → r name text ≡ t → least_from (suc n) (map text_test rs) (item name (Set text)) ≡ option_map (λ k. k + suc n) (position (λ s. s name text) rs)
        → cond t (Some n) (least_from (suc n) (map text_test rs) (item name (Set text))) ≡ option_map (λ k. k + n) (position (λ s. s name text) (r ∷ rs))
    go true e again = place_first (λ s. s name text) r rs n e
    go false e again = again ∙ place_more (λ s. s name text) r rs n e

-- nothing is there where it isn't so that something is
pub nothing_told : (none : Bool) (o : Option ℕ) → is_some o ≡ not none → none ≡ is_none o
nothing_told true None h = refl
nothing_told false None h = absurd cc
nothing_told true (Some n) h = absurd cc
nothing_told false (Some n) h = refl

-- a text breaks no rule as an origination date where it is a date, and as a time where it is a time
pub date_told : (text : List ℕ) → is_none (text_rule (Bext OriginationDate) text) ≡ is_date text
date_told text = ap (is_none {T = ℕ}) (sym (least_text 2 text_rules (Bext OriginationDate) text)) ∙ go (is_date text)
  where
    go : (t : Bool) → is_none {T = ℕ} (cond (not t) (Some 6) None) ≡ t
    go true = refl
    go false = refl

pub time_told : (text : List ℕ) → is_none (text_rule (Bext OriginationTime) text) ≡ is_time text
time_told text = ap (is_none {T = ℕ}) (sym (least_text 2 text_rules (Bext OriginationTime) text)) ∙ go (is_time text)
  where
    go : (t : Bool) → is_none {T = ℕ} (cond (not t) (Some 7) None) ≡ t
    go true = refl
    go false = refl

pub set_rule : (kind : Kind) (streams : ℕ) (i : EditItem) (text : List ℕ) → has_field kind streams i.name ≡ true → i.change ≡ Set text → text_rule i.name text ≡ item_rule kind streams i
set_rule kind streams i text has is =
    sym (least_text 2 text_rules i.name text)
    ∙ ap (λ (t : Bool). cond (not t) (Some 1) (least_from 2 (map text_test text_rules) (item i.name (Set text)))) (sym has)
    ∙ ap (λ (change : Change). item_rule kind streams (item i.name change)) (sym is)

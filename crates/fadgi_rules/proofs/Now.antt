-- The rules on texts that fields show as they stand, one value at a time.
use Rattle.std.proofs.Common.{◌≡◌, ℕ, List, [], ◌∷◌, length, Bool, refl, sym, ap, ◌∙◌, arith, subst, Option, Some, None, inl, inr}
use Rattle.std.specs.Prelude.{◌||◌, ◌==◌, not, is_some, ◌⊎◌}
use Rattle.std.specs.List.{list_any, cons_option}
use Rattle.std.proofs.lemmas.Bool.{ne_eqb}
use Rattle.part_tree.specs.declared.field.BextField.{BextField}
use Rattle.part_tree.specs.declared.field.BextField.TheVariants.{LoudnessRange}
use Rattle.part_tree.specs.declared.field.FieldName.{FieldName}
use Rattle.part_tree.specs.declared.field.FieldName.TheVariants.{Bext}
use Rattle.part_tree.specs.declared.field.Value.{Value}
use Rattle.part_tree.specs.Names.{bext_row}
use Rattle.field_model.specs.Bext.{width}
use Rattle.field_model.specs.Body.{FillsRange}
use Rattle.field_model.specs.Broken.{some_text}
use Rattle.field_model.specs.Fields.{FieldMap, first_raw}
use Rattle.field_model.specs.Lawful.{BextIsWhole}
use Rattle.field_model.specs.Numbers.{is_negative}
use Rattle.field_model.specs.Shown.{shown_texts}
use Rattle.fadgi_rules.specs.declared.row.FieldRule.{FieldRule}
use Rattle.fadgi_rules.specs.declared.row.FieldRule.TheVariants as row
use Rattle.fadgi_rules.specs.Present.{plain_text, option_fails, value_fails, shows_text, shows_negative, HasTwoBytes}
use Rattle.fadgi_rules.specs.Rows.{fails, text_fails, LooksAt}
use Rattle.fadgi_rules.proofs.Looks.{one, OnTexts, looks_texted}
use Rattle.fadgi_rules.proofs.Range.{range_now}
use Rattle.fadgi_rules.proofs.Views.{texts, shown_plain}

-- some text fails where some value shows one that does
any_value : (r : FieldRule) (name : FieldName) (vs : List Value) → list_any (text_fails r) (texts name vs) ≡ list_any (value_fails r name) vs
any_value r name [] = refl
any_value r name (v ∷ vs) = go (plain_text name v.raw) ∙ ap (λ (t : Bool). option_fails r (plain_text name v.raw) || t) (any_value r name vs)
  where
    go : (o : Option (List ℕ)) → list_any (text_fails r) (cons_option o (texts name vs)) ≡ (option_fails r o || list_any (text_fails r) (texts name vs))
    go None = refl
    go (Some text) = refl

-- no text is shown where no value shows one
no_value : (name : FieldName) (vs : List Value) → (length (texts name vs) == 0) ≡ not (list_any (shows_text name) vs)
no_value name [] = refl
no_value name (v ∷ vs) = go (plain_text name v.raw) (no_value name vs)
  where
    go : (o : Option (List ℕ)) → (length (texts name vs) == 0) ≡ not (list_any (shows_text name) vs) → (length (cons_option o (texts name vs)) == 0) ≡ not (is_some o || list_any (shows_text name) vs)
    go None h = h
    go (Some text) h = ne_eqb (length (text ∷ texts name vs)) 0 (λ e. omega (arith, e))

by_values : (r : FieldRule) (f : FieldMap) (name : FieldName) → OnTexts r → LooksAt r name → some_text (text_fails r) f name ≡ list_any (value_fails r name) (f name)
by_values r f name on looks = ap (list_any (text_fails r)) (shown_plain f name (looks_texted r name looks.0 on looks.1)) ∙ any_value r name (f name)

lack_values : (r : FieldRule) (f : FieldMap) (name : FieldName) → OnTexts r → LooksAt r name → ((length (shown_texts f name) == 0) || some_text (text_fails r) f name) ≡ (not (list_any (shows_text name) (f name)) || list_any (value_fails r name) (f name))
lack_values r f name on looks =
    ap (λ (ts : List (List ℕ)). (length ts == 0) || some_text (text_fails r) f name) (shown_plain f name (looks_texted r name looks.0 on looks.1))
    ∙ ap (λ (t : Bool). t || some_text (text_fails r) f name) (no_value name (f name))
    ∙ ap (λ (t : Bool). not (list_any (shows_text name) (f name)) || t) (by_values r f name on looks)

-- the rules that want a text
abbrev LackNow : FieldMap → FieldName → FieldRule → Type 0
LackNow f name r = LooksAt r name → (not (list_any (shows_text name) (f name)) || list_any (value_fails r name) (f name)) ≡ fails r f name

pub lack_now : (r : FieldRule) (f : FieldMap) (name : FieldName) → (r ≡ row.HasDescription) ⊎ ((r ≡ row.HasOriginator) ⊎ (r ≡ row.HasDate)) → LackNow f name r
lack_now r f name (inl is) = subst (LackNow f name) (sym is) (λ looks. sym (lack_values row.HasDescription f name tt looks))
lack_now r f name (inr (inl is)) = subst (LackNow f name) (sym is) (λ looks. sym (lack_values row.HasOriginator f name tt looks))
lack_now r f name (inr (inr is)) = subst (LackNow f name) (sym is) (λ looks. sym (lack_values row.HasDate f name tt looks))

-- the rules on each text that is shown
abbrev TextNow : FieldMap → FieldName → FieldRule → Type 0
TextNow f name r = LooksAt r name → list_any (value_fails r name) (f name) ≡ fails r f name

pub text_now : (r : FieldRule) (f : FieldMap) (name : FieldName) → (r ≡ row.History) ⊎ ((r ≡ row.Date) ⊎ ((r ≡ row.Time) ⊎ ((r ≡ row.Letters) ⊎ (r ≡ row.Created)))) → TextNow f name r
text_now r f name (inl is) = subst (TextNow f name) (sym is) (λ looks. sym (by_values row.History f name tt looks))
text_now r f name (inr (inl is)) = subst (TextNow f name) (sym is) (λ looks. sym (by_values row.Date f name tt looks))
text_now r f name (inr (inr (inl is))) = subst (TextNow f name) (sym is) (λ looks. sym (by_values row.Time f name tt looks))
text_now r f name (inr (inr (inr (inl is)))) = subst (TextNow f name) (sym is) (λ looks. sym (by_values row.Letters f name tt looks))
text_now r f name (inr (inr (inr (inr is)))) = subst (TextNow f name) (sym is) (λ looks. sym (by_values row.Created f name tt looks))

abbrev RangeNow : FieldMap → FieldName → FieldRule → Type 0
RangeNow f name r = LooksAt r name → shows_negative f ≡ fails r f name

pub negative_now : (r : FieldRule) (f : FieldMap) (name : FieldName) → BextIsWhole f → r ≡ row.Range → RangeNow f name r
negative_now r f name lawful is =
    subst (RangeNow f name) (sym is)
    (λ looks. sym (range_now f lawful) ∙ ap (some_text is_negative f) (sym (one name (Bext LoudnessRange) looks.1)))

-- a number of bext has two bytes, or there is none
pub two_bytes : (f : FieldMap) (field : BextField) → width field ≡ 2 → (bext_row field ≡ 14 → ⊥) → BextIsWhole f → HasTwoBytes f field
two_bytes f field wide other (inl all) = inr (go (all field).2)
  where
    go : FillsRange field (all field).0.raw → length (first_raw (f (Bext field))) ≡ 2
    go (inl e) = absurd (other e)
    go (inr e) = ap (λ (vs : List Value). length (first_raw vs)) (all field).1 ∙ e ∙ wide
two_bytes f field wide other (inr none) = inl (none field)

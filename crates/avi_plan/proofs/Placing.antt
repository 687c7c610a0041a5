-- Whether a stream's list has a name, by the names that were found in it.
use Rattle.std.proofs.Common.{◌≡◌, ◌∙◌, ℕ, suc, ◌+◌, Bool, true, false, cond, eqb, List, [], ◌∷◌, length, refl, sym, ap, arith}
use Rattle.std.specs.Prelude.{◌||◌, Option, Some, None}
use Rattle.std.specs.List.{list_any}
use Rattle.std.proofs.lemmas.Bool.{ne_eqb}
use Rattle.part_tree.specs.declared.names.Span.{Span}
use Rattle.container_model.specs.Chunk.{Chunk, spell}
use Rattle.carrier_model.specs.Names.{is_name}
use Rattle.unit_plan.specs.Shapes.{parts_in}
use Rattle.avi_names.specs.Names.{behind_heads, names_from}
use Rattle.avi_plan.specs.Strls.{one, place_of}

any_found : (at : ℕ) (cs : List Chunk) → list_any is_name cs ≡ cond (eqb (length (names_from at cs)) 0) false true
any_found at [] = refl
any_found at (c ∷ cs) = go (is_name c) (any_found (at + length (spell c)) cs)
  where
    go : (t : Bool) → list_any is_name cs ≡ cond (eqb (length (names_from (at + length (spell c)) cs)) 0) false true
        → (t || list_any is_name cs) ≡ cond (eqb (length (cond t (record { at = at + 8; len = length c.body } ∷ names_from (at + length (spell c)) cs) (names_from (at + length (spell c)) cs))) 0) false true
    go true again = sym (ap (λ (u : Bool). cond u false true) (ne_eqb (suc (length (names_from (at + length (spell c)) cs))) 0 (λ e. omega (arith, e))))
    go false again = again

named_by : (at : ℕ) (cs : List Chunk) (found : List Span) (t : Bool) → found ≡ names_from at cs → t ≡ eqb (length found) 0 → list_any is_name cs ≡ cond t false true
named_by at cs found t e is = any_found at cs ∙ ap (λ (xs : List Span). cond (eqb (length xs) 0) false true) (sym e) ∙ ap (λ (u : Bool). cond u false true) (sym is)

-- no name is set
pub none_set : (new cs : List Chunk) (at : ℕ) → parts_in one new ≡ 0 → None ≡ place_of new at cs
none_set [] cs at e = refl
none_set (n ∷ new) cs at e = absurd (omega (arith, e))

-- there is one
pub some_there : (new cs : List Chunk) (at : ℕ) (found : List Span) → found ≡ names_from at cs → false ≡ eqb (length found) 0 → None ≡ place_of new at cs
some_there [] cs at found e is = refl
some_there (n ∷ new) cs at found e is = sym (ap (λ (t : Bool). cond {A = Option ℕ} t None (Some (behind_heads at at cs))) (named_by at cs found false e is))

-- there is none
pub none_there : (new cs : List Chunk) (at place : ℕ) (found : List Span) (chunks : ℕ) → chunks ≡ parts_in one new → (chunks ≡ 0 → ⊥) → found ≡ names_from at cs → true ≡ eqb (length found) 0 → place ≡ behind_heads at at cs → Some place ≡ place_of new at cs
none_there [] cs at place found chunks count some e is here = absurd (some count)
none_there (n ∷ new) cs at place found chunks count some e is here =
    ap Some here ∙ sym (ap (λ (t : Bool). cond {A = Option ℕ} t None (Some (behind_heads at at cs))) (named_by at cs found true e is))

-- Names that are added one after the other: those of fields in field order are new ones.
use Rattle.std.proofs.Common.{◌≡◌, ℕ, suc, ◌<◌, ◌≤◌, List, [], ◌∷◌, ◌++◌, Bool, true, false, ◌||◌, Some, refl, sym, ap, ◌∙◌, arith}
use Rattle.std.specs.Prelude.{Option, None}
use Rattle.std.specs.Str.{bytes_eq}
use Rattle.part_tree.specs.declared.field.FieldName.{FieldName}
use Rattle.part_tree.specs.Names.{field_place}
use Rattle.part_tree.proofs.Places.{bytes_same}
use Rattle.field_model.specs.Texts.{field_name}
use Rattle.core_table.specs.Sets.{has}

-- a name among more names
pub has-append : (names : List (List ℕ)) (name other : List ℕ) → has (names ++ name ∷ []) other ≡ (bytes_eq other name || has names other)
has-append [] name other = refl
has-append (x ∷ names) name other = go (bytes_eq other x) (bytes_eq other name) (has-append names name other)
  where
    go : (t u : Bool) → has (names ++ name ∷ []) other ≡ (u || has names other) → (t || has (names ++ name ∷ []) other) ≡ (u || (t || has names other))
    go true true e = refl
    go true false e = refl
    go false u e = e

-- the names so far stand before this place
abbrev pub Before : ℕ → List (List ℕ) → Type 0
Before low earlier = (t : List ℕ) → has earlier t ≡ true → (g : FieldName) → field_name t ≡ Some g → field_place g < low

abbrev some_or : FieldName → Option FieldName → FieldName
some_or d None = d
some_or d (Some x) = x

same_field : (a b : FieldName) → Some a ≡ Some b → a ≡ b
same_field a b e = ap (some_or a) e

-- a name that stands there, behind them
pub more_before : (low : ℕ) (earlier : List (List ℕ)) (name : FieldName) (text : List ℕ) → low ≤ field_place name → field_name text ≡ Some name → Before low earlier
    → Before (suc (field_place name)) (earlier ++ text ∷ [])
more_before low earlier name text le is before t there g named = go (bytes_eq t text) (has earlier t) refl refl (sym (has-append earlier text t) ∙ there)
  where
    go : (u v : Bool) → bytes_eq t text ≡ u → has earlier t ≡ v → (u || v) ≡ true → field_place g < suc (field_place name)
    go true v e e2 h =
        let same : g ≡ name = same_field g name (sym named ∙ ap field_name (bytes_same t text e) ∙ is) in
        omega (arith, ap field_place same)
    go false true e e2 h = omega (arith, before t e2 g named, le)
    go false false e e2 h = absurd cc

pub new_name : (low : ℕ) (earlier : List (List ℕ)) (name : FieldName) (text : List ℕ) → low ≤ field_place name → field_name text ≡ Some name → Before low earlier → has earlier text ≡ false
new_name low earlier name text le is before = go (has earlier text) refl
  where
    go : (u : Bool) → has earlier text ≡ u → u ≡ false
    go false e = refl
    go true e = absurd (omega (arith, before text e name is, le))

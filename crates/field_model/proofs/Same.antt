-- Whether two texts have the same bytes doesn't depend on which stands first.
use Rattle.std.proofs.Common.{◌≡◌, ℕ, Bool, true, false, List, refl, ap, ◌∙◌}
use Rattle.std.specs.Str.{bytes_eq}
use Rattle.part_tree.proofs.Places.{bytes_refl, bytes_same}

pub same_either : (a b : List ℕ) → bytes_eq a b ≡ bytes_eq b a
same_either a b = go (bytes_eq a b) (bytes_eq b a) refl refl
  where
    go : (t u : Bool) → bytes_eq a b ≡ t → bytes_eq b a ≡ u → t ≡ u
    go true true x y = refl
    go false false x y = refl
    go true false x y = let z : bytes_eq b a ≡ true = ap (bytes_eq b) (bytes_same a b x) ∙ bytes_refl b in absurd cc
    go false true x y = let z : bytes_eq a b ≡ true = ap (bytes_eq a) (bytes_same b a y) ∙ bytes_refl a in absurd cc

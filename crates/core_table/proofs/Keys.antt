-- The keys of a set, and the names that they are.
use Rattle.std.proofs.Common.{◌≡◌, ℕ, List, [], ◌∷◌, Bool, true, false, ◌||◌, refl, sym, ap, ◌∙◌, map, Ordering, Less, Equal, Greater}
use Rattle.std.specs.Ordering.{is_eq, match_ordering}
use Rattle.std.specs.List.{list_any}
use Rattle.std.specs.Str.{bytes_eq}
use Rattle.std.specs.BTreeSet.{insert_key}
use Rattle.part_tree.proofs.Places.{bytes_same}
use Rattle.core_table.specs.Sets.{has}

module _ {K : Type 0} (name : K → List ℕ) (cmp : K → K → Ordering) (tells : (x y : K) → is_eq (cmp x y) ≡ bytes_eq (name x) (name y)) where
  -- a key is there exactly where its name is
  pub contained : (keys : List K) (k : K) → list_any (λ x. is_eq (cmp k x)) keys ≡ has (map name keys) (name k)
  contained [] k = refl
  contained (x ∷ keys) k = ap (λ (t : Bool). t || list_any (λ y. is_eq (cmp k y)) keys) (tells k x) ∙ ap (λ (t : Bool). bytes_eq (name k) (name x) || t) (contained keys k)

  twice : (a b : List ℕ) (rest : Bool) (t : List ℕ) → bytes_eq a b ≡ true → (bytes_eq t b || rest) ≡ (bytes_eq t a || (bytes_eq t b || rest))
  twice a b rest t same = ap (λ (s : List ℕ). bytes_eq t b || rest) same' ∙ again (bytes_eq t b) ∙ ap (λ (s : List ℕ). bytes_eq t s || (bytes_eq t b || rest)) (sym (bytes_same a b same))
    where
      same' : a ≡ b
      same' = bytes_same a b same

      again : (u : Bool) → (u || rest) ≡ (u || (u || rest))
      again true = refl
      again false = refl

  swapped : (u v rest : Bool) → (u || (v || rest)) ≡ (v || (u || rest))
  swapped true true rest = refl
  swapped true false rest = refl
  swapped false v rest = refl

  -- a key more is a name more
  pub inserted : (keys : List K) (k : K) (t : List ℕ) → has (map name (insert_key cmp keys k)) t ≡ (bytes_eq t (name k) || has (map name keys) t)
  inserted [] k t = refl
  inserted (x ∷ keys) k t = go (cmp k x) (tells k x) (inserted keys k t)
    where
      go : (o : Ordering) → is_eq o ≡ bytes_eq (name k) (name x) → has (map name (insert_key cmp keys k)) t ≡ (bytes_eq t (name k) || has (map name keys) t)
          → has (map name (match_ordering o (k ∷ x ∷ keys) (x ∷ keys) (x ∷ insert_key cmp keys k))) t ≡ (bytes_eq t (name k) || (bytes_eq t (name x) || has (map name keys) t))
      go Less is more = refl
      go Equal is more = twice (name k) (name x) (has (map name keys) t) t (sym is)
      go Greater is more = ap (λ (u : Bool). bytes_eq t (name x) || u) more ∙ swapped (bytes_eq t (name x)) (bytes_eq t (name k)) (has (map name keys) t)

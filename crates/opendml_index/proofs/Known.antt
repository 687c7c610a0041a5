-- What the kind of an index chunk says: how long its entries are, and whether it is a super index.
use Rattle.std.proofs.Common.{◌≡◌, ℕ, ◌+◌, ◌*◌, Bool, true, false, List, [], ◌∷◌, take, drop, refl, sym, ap, ◌∙◌, arith, inl, inr}
use Rattle.std.specs.Prelude.{◌⊎◌, ◌||◌}
use Rattle.std.specs.Str.{bytes_eq}
use Rattle.std.specs.Int.{w16, from_le_bytes}
use Rattle.std.proofs.lemmas.Slice.Eq.{bytes_eq-Decides}
use Rattle.container_model.specs.Written.{slice}
use Rattle.container_model.proofs.Written.{slice_slice}
use Rattle.opendml_index.specs.Index.{is_super, width}
use Rattle.opendml_index.specs.Kinds.{kind, is_super_kind, is_standard_kind, is_index_kind}

pub same_true : (a b : List ℕ) → bytes_eq a b ≡ true → a ≡ b
same_true a b e = (bytes_eq-Decides a b).0 e

longs_of : (body k : List ℕ) → kind body ≡ k → slice body 0 2 ≡ take 2 k
longs_of body k e = let z : 0 + 0 ≡ 0 = omega arith in sym (slice_slice body 0 4 0 2 (omega arith) ∙ ap (λ (q : ℕ). slice body q 2) z) ∙ ap (take 2) e

type_of : (body k : List ℕ) → kind body ≡ k → slice body 3 1 ≡ take 1 (drop 3 k)
type_of body k e = let z : 0 + 3 ≡ 3 = omega arith in sym (slice_slice body 0 4 3 1 (omega arith) ∙ ap (λ (q : ℕ). slice body q 1) z) ∙ ap (λ (x : List ℕ). take 1 (drop 3 x)) e

either : (a b : Bool) → (a || b) ≡ true → (a ≡ true) ⊎ (b ≡ true)
either true b e = inl refl
either false b e = inr e

pub super_kind : (body : List ℕ) → is_super_kind body ≡ true → (is_super body ≡ true) × (width body ≡ 16)
super_kind body h = go (either (bytes_eq (kind body) (4 ∷ 0 ∷ 0 ∷ 0 ∷ [])) (bytes_eq (kind body) (4 ∷ 0 ∷ 1 ∷ 0 ∷ [])) h)
  where
    one : (k : List ℕ) → kind body ≡ k → take 1 (drop 3 k) ≡ 0 ∷ [] → take 2 k ≡ 4 ∷ 0 ∷ [] → (is_super body ≡ true) × (width body ≡ 16)
    one k e t l = (ap (λ (x : List ℕ). bytes_eq x (0 ∷ [])) (type_of body k e ∙ t), ap (λ (x : List ℕ). 4 * from_le_bytes w16 x) (longs_of body k e ∙ l))

    go : (bytes_eq (kind body) (4 ∷ 0 ∷ 0 ∷ 0 ∷ []) ≡ true) ⊎ (bytes_eq (kind body) (4 ∷ 0 ∷ 1 ∷ 0 ∷ []) ≡ true) → (is_super body ≡ true) × (width body ≡ 16)
    go (inl e) = one (4 ∷ 0 ∷ 0 ∷ 0 ∷ []) (same_true (kind body) (4 ∷ 0 ∷ 0 ∷ 0 ∷ []) e) refl refl
    go (inr e) = one (4 ∷ 0 ∷ 1 ∷ 0 ∷ []) (same_true (kind body) (4 ∷ 0 ∷ 1 ∷ 0 ∷ []) e) refl refl

pub standard_kind : (body : List ℕ) → is_standard_kind body ≡ true → (is_super body ≡ false) × ((width body ≡ 8) ⊎ (width body ≡ 12))
standard_kind body h = go (either (bytes_eq (kind body) (2 ∷ 0 ∷ 0 ∷ 1 ∷ [])) (bytes_eq (kind body) (3 ∷ 0 ∷ 1 ∷ 1 ∷ [])) h)
  where
    not : (k : List ℕ) → kind body ≡ k → take 1 (drop 3 k) ≡ 1 ∷ [] → is_super body ≡ false
    not k e t = ap (λ (x : List ℕ). bytes_eq x (0 ∷ [])) (type_of body k e ∙ t)

    wide : (k m : List ℕ) → kind body ≡ k → take 2 k ≡ m → width body ≡ 4 * from_le_bytes w16 m
    wide k m e l = ap (λ (x : List ℕ). 4 * from_le_bytes w16 x) (longs_of body k e ∙ l)

    go : (bytes_eq (kind body) (2 ∷ 0 ∷ 0 ∷ 1 ∷ []) ≡ true) ⊎ (bytes_eq (kind body) (3 ∷ 0 ∷ 1 ∷ 1 ∷ []) ≡ true) → (is_super body ≡ false) × ((width body ≡ 8) ⊎ (width body ≡ 12))
    go (inl e) = let k = same_true (kind body) (2 ∷ 0 ∷ 0 ∷ 1 ∷ []) e in (not (2 ∷ 0 ∷ 0 ∷ 1 ∷ []) k refl, inl (wide (2 ∷ 0 ∷ 0 ∷ 1 ∷ []) (2 ∷ 0 ∷ []) k refl))
    go (inr e) = let k = same_true (kind body) (3 ∷ 0 ∷ 1 ∷ 1 ∷ []) e in (not (3 ∷ 0 ∷ 1 ∷ 1 ∷ []) k refl, inr (wide (3 ∷ 0 ∷ 1 ∷ 1 ∷ []) (3 ∷ 0 ∷ []) k refl))

-- an index chunk is a super index or a standard one
pub super_index : (body : List ℕ) → is_index_kind body ≡ true → is_super body ≡ true → is_super_kind body ≡ true
super_index body h s = go (either (is_super_kind body) (is_standard_kind body) h)
  where
    go : (is_super_kind body ≡ true) ⊎ (is_standard_kind body ≡ true) → is_super_kind body ≡ true
    go (inl e) = e
    go (inr e) = let n = (standard_kind body e).0 in absurd cc

pub standard_index : (body : List ℕ) → is_index_kind body ≡ true → is_super body ≡ false → is_standard_kind body ≡ true
standard_index body h s = go (either (is_super_kind body) (is_standard_kind body) h)
  where
    go : (is_super_kind body ≡ true) ⊎ (is_standard_kind body ≡ true) → is_standard_kind body ≡ true
    go (inl e) = let n = (super_kind body e).0 in absurd cc
    go (inr e) = e

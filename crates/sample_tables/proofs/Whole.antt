-- Each sample that is named is whole.
use Rattle.std.proofs.Common.{◌≡◌, ℕ, zero, suc, Bool, true, false, List, [], ◌∷◌, length, map, take, drop, refl, ap, ◌∙◌}
use Rattle.std.specs.Prelude.{nat_le, if◌then◌else◌}
use Rattle.std.proofs.lemmas.List.{length-take-le}
use Rattle.std.proofs.lemmas.Bool.{leb-true}
use Rattle.sample_tables.specs.Samples.{samples_in}

abbrev sizes_of : List (List ℕ) → List ℕ
sizes_of xs = map (λ (x : List ℕ). length x) xs

pub samples_whole : (n : ℕ) (sizes tail : List ℕ) → sizes_of (samples_in n sizes tail) ≡ take (length (samples_in n sizes tail)) sizes
samples_whole zero sizes tail = refl
samples_whole (suc n) [] tail = refl
samples_whole (suc n) (s ∷ sizes) tail = go (nat_le s (length tail)) refl (samples_whole n sizes (drop s tail))
  where
    go : (t : Bool) → nat_le s (length tail) ≡ t → sizes_of (samples_in n sizes (drop s tail)) ≡ take (length (samples_in n sizes (drop s tail))) sizes
        → sizes_of (if t then take s tail ∷ samples_in n sizes (drop s tail) else []) ≡ take (length (if t then take s tail ∷ samples_in n sizes (drop s tail) else [])) (s ∷ sizes)
    go false e rest = refl
    go true e rest =
        let one : length (take s tail) ≡ s = length-take-le s tail (leb-true s (length tail) e) in
        ap (λ (k : ℕ). k ∷ sizes_of (samples_in n sizes (drop s tail))) one ∙ ap (λ (l : List ℕ). s ∷ l) rest

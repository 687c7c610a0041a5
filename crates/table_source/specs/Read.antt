-- What is read of a source.
use Rattle.std.specs.Prelude.{◌≡◌, ◌⊎◌, ℕ, ◌+◌, ◌<◌, List, [], ◌++◌, length, Option, Some}
use Rattle.core_table.specs.declared.fault.TheConstants.{MOST_BYTES}

-- n bytes went from the front of what is left to the end of what is read, none only where none were left
pub record Takes (n : ℕ) (old new : Option (List ℕ)) (before after : List ℕ) : Type 0 where
  pub long : length after ≡ length before + n
  pub told : (left : List ℕ) → old ≡ Some left → (rest : List ℕ) × (new ≡ Some rest) × (before ++ left ≡ after ++ rest)
  pub ended : (left : List ℕ) → old ≡ Some left → n ≡ 0 → new ≡ Some []

-- These are all the bytes that were left, and none are left; or they are too many for a table, and so are all.
abbrev pub IsTableOf : Option (List ℕ) → Option (List ℕ) → List ℕ → Type 0
IsTableOf old new bytes =
    (all : List ℕ) → old ≡ Some all → ((bytes ≡ all) × (new ≡ Some [])) ⊎ ((MOST_BYTES < length bytes) × (MOST_BYTES < length all))

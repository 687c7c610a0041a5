-- How long a file is after its spans are replaced, and a form with its size set (this project's own).
use Rattle.std.specs.Prelude.{◌<◌, ◌⊎◌, ◌^◌, ℕ, ◌+◌, ◌-◌, List, [], ◌∷◌, ◌++◌, length, take, drop, Bool, true, false}
use Rattle.std.specs.Int.{w32, w64, to_le_bytes}
use Rattle.part_tree.specs.declared.plan.Patch.{Patch}
use Rattle.container_model.specs.Splice.{Cut}
use Rattle.part_tree.specs.Patches.{all_bytes}
use Rattle.unit_plan.specs.declared.cut.CutAt.{CutAt}

-- the bytes that stand in place of all spans
abbrev pub gained : List CutAt → ℕ
gained [] = 0
gained (k ∷ ks) = length k.bytes + k.keep + gained ks

-- the bytes of all spans
abbrev pub lost : List CutAt → ℕ
lost [] = 0
lost (k ∷ ks) = k.span.len + lost ks

-- the new length of a file of so many bytes
abbrev pub spliced_len : ℕ → List CutAt → ℕ
spliced_len len ks = (len - lost ks) + gained ks

-- patches that are too many for a journal, or have too many bytes
abbrev pub IsTooMuch : List Patch → Type 0
IsTooMuch ps = (65536 < length ps) ⊎ (2 ^ 24 < all_bytes ps)

-- ---- the size of a form: in its own field at 4, or where it is wide in a table at 20

-- the span of the size
abbrev pub size_cut : Bool → ℕ → Cut
size_cut false n = record { at = 4; len = 4; bytes = to_le_bytes w32 n }
size_cut true n = record { at = 20; len = 8; bytes = to_le_bytes w64 n }

-- the same, as a planner holds it
abbrev pub size_at : Bool → ℕ → CutAt
size_at false n = record { span = record { at = 4; len = 4 }; bytes = to_le_bytes w32 n; keep = 0 }
size_at true n = record { span = record { at = 20; len = 8 }; bytes = to_le_bytes w64 n; keep = 0 }

-- the bytes with the size set
abbrev pub sized : Bool → ℕ → List ℕ → List ℕ
sized false n b = take 4 b ++ (to_le_bytes w32 n ++ drop 8 b)
sized true n b = take 20 b ++ (to_le_bytes w64 n ++ drop 28 b)

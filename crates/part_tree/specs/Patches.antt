-- Patches: bytes for places of a file, the rules that they keep, and the file that they make (this project's own).
use Rattle.std.specs.Prelude.{◌≡◌, ◌⊎◌, ℕ, ◌+◌, ◌≤◌, ◌<◌, ◌^◌, List, [], ◌∷◌, length, take, ⊤}
use Rattle.me_bytes.specs.Bytes.{overlay}
use Rattle.part_tree.specs.declared.plan.Patch.{Patch}

-- the most patches that an edit in place may have
abbrev pub most_patches : ℕ
most_patches = 65536

-- the most bytes that its patches may have together: 16 MiB
abbrev pub most_bytes : ℕ
most_bytes = 16777216

-- where a patch ends
abbrev pub end_of : Patch → ℕ
end_of p = p.at + length p.bytes

-- one that comes after this end, inside the new length
pub record Follows (new end : ℕ) (p : Patch) : Type 0 where
  pub some : 0 < length p.bytes
  pub after : end ≤ p.at
  pub inside : p.at + length p.bytes ≤ new

-- each patch begins at or after the end of the one before it, inside the new length
abbrev pub InOrder : ℕ → ℕ → List Patch → Type 0
InOrder new end [] = ⊤
InOrder new end (p ∷ ps) = Follows new end p × InOrder new (end_of p) ps

-- the bytes of all patches together
abbrev pub all_bytes : List Patch → ℕ
all_bytes [] = 0
all_bytes (p ∷ ps) = length p.bytes + all_bytes ps

-- this place is in a patch
abbrev pub Touches : ℕ → List Patch → Type 0
Touches q [] = ⊥
Touches q (p ∷ ps) = ((p.at ≤ q) × (q < end_of p)) ⊎ Touches q ps

-- what patches that make a file of one length into one of another must meet, however many they are
pub record Rules (old new : ℕ) (ps : List Patch) : Type 0 where
  pub old_fits : old < 2 ^ 63
  pub new_fits : new < 2 ^ 63
  pub order : InOrder new 0 ps
  pub small : all_bytes ps ≤ most_bytes
  -- each place past the old end is in a patch
  pub whole : (q : ℕ) → old ≤ q → q < new → Touches q ps

-- what the patches of an edit in place must meet: the same, and they are not too many
pub record FewRules (old new : ℕ) (ps : List Patch) : Type 0 where
  pub few : length ps ≤ most_patches
  pub rules : Rules old new ps

-- ---- the file that they make

-- the patches laid over a file, one after another
abbrev pub patched : List Patch → List ℕ → List ℕ
patched [] m = m
patched (p ∷ ps) m = patched ps (overlay p.at p.bytes m)

-- the same, at this length
abbrev pub laid : ℕ → List Patch → List ℕ → List ℕ
laid new ps m = take new (patched ps m)

-- What the patches of an edit in place keep, whatever the kind of file (this project's own).
use Rattle.std.specs.Prelude.{ℕ, ◌≤◌, ◌<◌, List}
use Rattle.part_tree.specs.declared.plan.Patch.{Patch}
use Rattle.part_tree.specs.Patches.{most_bytes, InOrder, all_bytes, Touches}

-- Patches in order that lie in a file's new length, have at most 16 MiB, and cover what it gains.
pub record SoundPatches (old new : ℕ) (ps : List Patch) : Type 0 where
  pub in_order : InOrder new 0 ps
  pub few_bytes : all_bytes ps ≤ most_bytes
  pub cover : (q : ℕ) → old ≤ q → q < new → Touches q ps

use Rattle.std.proofs.Common.{◌≡◌, ◌≤◌, ◌^◌, ◌++◌, drop, length}
use Rattle.part_tree.specs.Patches.{all_bytes}
use Rattle.avi_plan.specs.Patched.{patches_from, placed_patches}
use Rattle.avi_plan.proofs.patches.patches_of.Given as goal

-- the patches so far, and those of the spans that are left
abbrev pub invariant-cuts : goal.invariant-cuts
invariant-cuts l = record {
  left : l.patched.patches.items ++ patches_from l.patched.from l.patched.to (drop l.cut-index l.cuts) ≡ placed_patches l.cuts;
  sum : all_bytes l.patched.patches.items ≡ l.patched.total;
  small : l.patched.total ≤ 2 ^ 24;
  few : length l.patched.patches.items ≤ 65536;
}

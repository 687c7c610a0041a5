use Rattle.std.proofs.Common.{◌≡◌, ◌≤◌, ◌^◌, ◌++◌, drop, length}
use Rattle.std.specs.List.{flat_map}
use Rattle.part_tree.specs.Patches.{all_bytes}
use Rattle.unit_plan.specs.Cuts.{patch_of}
use Rattle.unit_plan.proofs.patch.patches_of.Given as goal

-- the patches so far, and those of the spans that are left
abbrev pub invariant-cuts : goal.invariant-cuts
invariant-cuts l = record {
  left : l.patches.items ++ flat_map patch_of (drop l.cut-index l.cuts) ≡ flat_map patch_of l.cuts;
  sum : all_bytes l.patches.items ≡ l.total;
  small : l.total ≤ 2 ^ 24;
  few : length l.patches.items ≤ 65536;
}

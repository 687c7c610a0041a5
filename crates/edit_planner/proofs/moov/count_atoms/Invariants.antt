use Rattle.std.proofs.Common.{◌≡◌, ◌≤◌, ◌+◌, drop}
use Rattle.part_tree.specs.Parts.{count_parts}
use Rattle.edit_planner.proofs.moov.count_atoms.Given as goal

abbrev pub invariant-parts : goal.invariant-parts
invariant-parts l = record {
  count : l.count + count_parts (drop l.part-index l.parts) ≡ count_parts l.parts;
  bound : l.count ≤ l.part-index;
}

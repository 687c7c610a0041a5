use Rattle.std.proofs.Common.{◌≡◌, ◌≤◌, ◌+◌, ◌++◌, false, drop}
use Rattle.wave_file.specs.Map.{Ascend}
use Rattle.edit_planner.specs.Tops.{others, tops}
use Rattle.edit_planner.proofs.tops.tops_of.Given as goal

-- what was taken, and the parts that are left
abbrev pub invariant-parts : goal.invariant-parts
invariant-parts l = record {
  tops_left : l.found.parts.items ++ tops l.found.at (drop l.part-index l.parts) ≡ tops 12 l.parts;
  others_left : l.found.others + others l.found.listed l.found.at (drop l.part-index l.parts) ≡ others false 12 l.parts;
  ascend : Ascend 12 l.found.parts.items l.found.at;
  inside : l.found.at ≤ l.end;
}

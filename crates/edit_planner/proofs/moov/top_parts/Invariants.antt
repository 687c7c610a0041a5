use Rattle.std.proofs.Common.{◌≡◌, ◌++◌, take, drop}
use Rattle.edit_planner.specs.MoovMap.{joined_from}
use Rattle.edit_planner.proofs.moov.top_parts.Given as goal

-- the parts so far are joined, and those that are left go on
abbrev pub invariant-parts : goal.invariant-parts
invariant-parts l = record {
  count : l.count ≡ l.part-index;
  left : take l.part-index l.parts ++ joined_from l.at (drop l.part-index l.parts) ≡ joined_from 0 l.parts;
}

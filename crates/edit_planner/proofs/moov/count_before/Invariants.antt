use Rattle.std.proofs.Common.{◌≡◌, ◌+◌, drop}
use Rattle.edit_planner.specs.MoovMap.{before_at}
use Rattle.edit_planner.proofs.moov.count_before.Given as goal

abbrev pub invariant-parts : goal.invariant-parts
invariant-parts l = record {
  count : l.count ≡ l.part-index;
  left : l.count + before_at l.at (drop l.part-index l.parts) ≡ before_at l.at l.parts;
}

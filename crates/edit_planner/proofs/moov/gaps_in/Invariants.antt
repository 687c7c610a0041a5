use Rattle.std.proofs.Common.{◌≡◌, ◌+◌, drop}
use Rattle.edit_planner.specs.MoovMap.{gap_count, gap_end}
use Rattle.edit_planner.proofs.moov.gaps_in.Given as goal

abbrev pub invariant-parts : goal.invariant-parts
invariant-parts l = record {
  count : l.count ≡ l.part-index;
  gaps : l.count + gap_count (drop l.part-index l.parts) ≡ gap_count l.parts;
  ends : gap_end l.end (drop l.part-index l.parts) ≡ gap_end l.from l.parts;
}

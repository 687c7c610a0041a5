use Rattle.std.proofs.Common.{◌≡◌, ◌≤◌, ◌+◌, ◌-◌, ℕ, List, map, drop, length}
use Rattle.mov_plan.specs.Places.{BeginsBefore, Follow, IsSoFar, beyond_in, open_in, open_start, outcome_in, shape_in}
use Rattle.mov_plan.specs.Rows.{both, none, row}
use Rattle.mov_plan.proofs.row.unit_cuts.Given as goal

-- what the units so far come to, with what is left of the row, is the whole
abbrev pub invariant-loop-i : goal.invariant-loop-i
invariant-loop-i l = record {
  follow : Follow l.at (drop l.i l.places) l.end;
  before : BeginsBefore l.unit l.at;
  inside : l.i ≤ length l.places;
  so_far : IsSoFar l.from l.units (open_start l.unit l.at);
  row : (b : List ℕ) → l.end + l.behind.gap ≤ length b → both (outcome_in b l.units) (row (beyond_in b l.end l.behind) l.at (open_in b l.at l.unit) (map (shape_in b) (drop l.i l.places)))
      ≡ row (beyond_in b l.end l.behind) l.from none (map (shape_in b) l.places);
}

abbrev pub decreases-loop-i : goal.decreases-loop-i
decreases-loop-i l = length l.places - l.i

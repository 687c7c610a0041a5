use Rattle.std.proofs.Common.{length, get_or, ◌-◌, ◌≤◌, ◌<◌, ◌+◌, ℕ}
use Rattle.unit_plan.specs.declared.cut.CutAt.{CutAt}
use Rattle.avi_plan.proofs.joined.before_range.Given as goal

abbrev pub invariant-low : goal.invariant-low
invariant-low l = record {
  order : l.next ≤ l.end;
  few : l.j ≤ length l.cuts;
  low : (m : ℕ) (d : CutAt) → m < l.j → (get_or l.cuts m d).span.at + (get_or l.cuts m d).span.len ≤ l.at;
}

abbrev pub decreases-low : goal.decreases-low
decreases-low l = length l.cuts - l.j

abbrev pub invariant-high : goal.invariant-high
invariant-high l = record {
  order : l.next ≤ l.end;
  few : l.j ≤ length l.cuts;
  low : (m : ℕ) (d : CutAt) → m < l.j → (get_or l.cuts m d).span.at + (get_or l.cuts m d).span.len ≤ l.at;
  from : l.j ≤ l.i;
  high : (m : ℕ) (d : CutAt) → l.j ≤ m → m < l.i → l.next ≤ (get_or l.cuts m d).span.at;
}

abbrev pub decreases-high : goal.decreases-high
decreases-high l = length l.cuts - l.i

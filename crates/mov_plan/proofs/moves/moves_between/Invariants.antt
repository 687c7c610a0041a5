use Rattle.std.proofs.Common.{◌≡◌, ◌++◌, ℕ, List, length, map, drop}
use Rattle.std.specs.List.{AllByRecursion}
use Rattle.carrier_model.specs.Gaps.{between, moves_of}
use Rattle.unit_plan.specs.Cuts.{cut_in}
use Rattle.mov_plan.specs.Moved.{AreRanges, IsKeptIn}
use Rattle.mov_plan.proofs.moves.moves_between.Given as goal

-- the ranges so far, and those between the spans that are left
abbrev pub invariant-cuts : goal.invariant-cuts
invariant-cuts l = record {
  sound : AreRanges l.ranges;
  held : (b : List ℕ) → length b ≡ l.len → AllByRecursion (IsKeptIn l.len) l.cuts → l.ranges.held.items ++ between l.ranges.at l.ranges.to (map (cut_in b) (drop l.cut-index l.cuts)) l.len ≡ moves_of (map (cut_in b) l.cuts) l.len;
}

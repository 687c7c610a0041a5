use Rattle.std.proofs.Common.{◌≡◌, ◌++◌, ℕ, List, length, map, drop}
use Rattle.carrier_model.specs.Gaps.{between, moves_of}
use Rattle.unit_plan.specs.Cuts.{SpansAscend, cut_in}
use Rattle.avi_plan.specs.Moved.{AreRanges}
use Rattle.avi_plan.proofs.moves.moves_between.Given as goal

-- the ranges so far, and those between the spans that are left
abbrev pub invariant-cuts : goal.invariant-cuts
invariant-cuts l = record {
  sound : AreRanges l.ranges;
  ascend : SpansAscend l.ranges.at (drop l.cut-index l.cuts) l.len;
  held : (b : List ℕ) → length b ≡ l.len
      → l.ranges.held.items ++ between l.ranges.at l.ranges.to (map (cut_in b) (drop l.cut-index l.cuts)) l.len ≡ moves_of (map (cut_in b) l.cuts) l.len;
}

use Rattle.std.proofs.Common.{true, ◌≡◌, ◌≤◌, ◌++◌, ℕ, List, length, drop}
use Rattle.std.specs.List.{AllByRecursion}
use Rattle.part_tree.specs.Moves.{Move}
use Rattle.carrier_model.specs.Gaps.{between, moves_of}
use Rattle.mov_plan.specs.Moved.{AreRanges, IsKeptIn}
use Rattle.mov_plan.specs.Tables.{LiesIn, merged}
use Rattle.mov_plan.proofs.spread.moves_widened.Given as goal

-- the ranges so far, and those between the spans and tables that are left
abbrev pub invariant-cuts : goal.invariant-cuts
invariant-cuts l = record {
  inside : l.next ≤ length l.tables;
  sound : AreRanges l.ranges;
  held : (ms : List Move) (b : List ℕ) → length b ≡ l.len → AllByRecursion (IsKeptIn l.len) l.cuts → AllByRecursion (LiesIn b) l.tables
      → l.ranges.held.items ++ between l.ranges.at l.ranges.to (merged true ms b (drop l.cut-index l.cuts) (drop l.next l.tables)) l.len ≡ moves_of (merged true ms b l.cuts l.tables) l.len;
}

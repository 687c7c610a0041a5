use Rattle.std.proofs.Common.{◌≡◌, ◌≤◌, ◌++◌, ℕ, List, length, drop}
use Rattle.std.specs.List.{AllByRecursion}
use Rattle.part_tree.specs.Moves.{Move}
use Rattle.part_tree.specs.Plans.{AllNamed}
use Rattle.container_model.specs.Splice.{splice, splice_from}
use Rattle.avi_plan.specs.Changes.{IsNamed, IsSound, merged}
use Rattle.avi_plan.specs.Made.{IsMade, made_of}
use Rattle.avi_plan.proofs.segments.segments_with.Given as goal

-- the segments so far, and what is left of the file with the spans and changes left
abbrev pub invariant-cuts : goal.invariant-cuts
invariant-cuts l = record {
  inside : l.next ≤ length l.changes;
  bytes : (ms : List Move) (b : List ℕ) → made_of ms b l.made ++ splice_from l.made.at (drop l.made.at b) (merged ms b (drop l.cut-index l.cuts) (drop l.next l.changes)) ≡ splice b (merged ms b l.cuts l.changes);
  sound : (b : List ℕ) → length b ≡ l.len → AllByRecursion (IsSound (length b)) l.changes → IsMade b l.made;
  named : (ms : List Move) (b : List ℕ) → AllByRecursion (IsNamed ms b) l.changes → AllNamed ms b l.made.segments.items;
}

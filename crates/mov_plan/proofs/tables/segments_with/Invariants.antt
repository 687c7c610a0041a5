use Rattle.std.proofs.Common.{◌≡◌, ◌≤◌, ◌++◌, ℕ, List, length, drop}
use Rattle.std.specs.List.{AllByRecursion}
use Rattle.part_tree.specs.Moves.{Move}
use Rattle.part_tree.specs.Plans.{AllNamed}
use Rattle.container_model.specs.Splice.{splice, splice_from}
use Rattle.mov_plan.specs.Made.{IsMade, IsNamed, made_of}
use Rattle.mov_plan.specs.Tables.{merged}
use Rattle.mov_plan.proofs.tables.segments_with.Given as goal

-- the segments so far, and what is left of the file with the spans and tables left
abbrev pub invariant-cuts : goal.invariant-cuts
invariant-cuts l = record {
  inside : l.next ≤ length l.tables;
  bytes : (ms : List Move) (b : List ℕ) → made_of ms b l.made ++ splice_from l.made.at (drop l.made.at b) (merged l.widened ms b (drop l.cut-index l.cuts) (drop l.next l.tables)) ≡ splice b (merged l.widened ms b l.cuts l.tables);
  sound : (b : List ℕ) → l.made.at ≤ length b → IsMade b l.made;
  named : (ms : List Move) (b : List ℕ) → AllByRecursion (IsNamed l.widened ms b) l.tables → AllNamed ms b l.made.segments.items;
}

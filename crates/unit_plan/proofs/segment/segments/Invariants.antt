use Rattle.std.proofs.Common.{◌≡◌, ◌≤◌, ◌+◌, ◌-◌, ◌++◌, ℕ, List, map, drop, length}
use Rattle.std.specs.List.{flat_map}
use Rattle.part_tree.specs.Moves.{Move}
use Rattle.part_tree.specs.Plans.{AllInside, AllPlain, total_len, segment_bytes}
use Rattle.container_model.specs.Splice.{splice, splice_from}
use Rattle.unit_plan.specs.Cuts.{SpansAscend, cut_in}
use Rattle.unit_plan.specs.Sized.{spliced_len}
use Rattle.unit_plan.proofs.segment.segments.Given as goal

-- the segments so far, and what is left of the file with the spans left
abbrev pub invariant-cuts : goal.invariant-cuts
invariant-cuts l = record {
  ascend : SpansAscend l.at (drop l.cut-index l.cuts) l.len;
  bytes : (ms : List Move) (b : List ℕ) → length b ≡ l.len → flat_map (segment_bytes ms b) l.segments.items ++ splice_from l.at (drop l.at b) (map (cut_in b) (drop l.cut-index l.cuts)) ≡ splice b (map (cut_in b) l.cuts);
  total : total_len l.segments.items + spliced_len (l.len - l.at) (drop l.cut-index l.cuts) ≡ spliced_len l.len l.cuts;
  inside : (b : List ℕ) → l.len ≤ length b → AllInside b l.segments.items;
  plain : AllPlain l.segments.items;
}

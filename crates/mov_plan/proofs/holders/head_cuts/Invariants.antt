use Rattle.std.proofs.Common.{◌≡◌, map, take}
use Rattle.std.specs.List.{AllByRecursion}
use Rattle.mov_plan.specs.Holders.{TablesAscend, head_in}
use Rattle.mov_plan.specs.Made.{IsKept}
use Rattle.mov_plan.proofs.holders.head_cuts.Given as goal

abbrev pub invariant-holders : goal.invariant-holders
invariant-holders l = record {
  heads : TablesAscend l.tables → l.cuts.items ≡ map (head_in l.tables) (take l.holder-index l.holders);
  kept : AllByRecursion IsKept l.cuts.items;
}

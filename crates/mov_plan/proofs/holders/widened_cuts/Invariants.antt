use Rattle.std.proofs.Common.{◌≡◌, map, vec_len}
use Rattle.std.specs.List.{AllByRecursion}
use Rattle.mov_plan.specs.Holders.{TablesAscend, head_in, put_all}
use Rattle.mov_plan.specs.Made.{IsKept}
use Rattle.mov_plan.proofs.holders.widened_cuts.Given as goal

-- what the spans that are left make of those so far is the whole
abbrev pub invariant-units : goal.invariant-units
invariant-units l = record {
  whole : TablesAscend l.tables → put_all l.units.items l.cuts.items ≡ put_all l.fn.units.items (map (head_in l.tables) l.holders);
  left : AllByRecursion IsKept l.units.items;
  kept : AllByRecursion IsKept l.cuts.items;
}

abbrev pub decreases-units : goal.decreases-units
decreases-units l = vec_len l.units

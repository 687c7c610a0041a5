use Rattle.std.proofs.Common.{◌≡◌, ◌≤◌, take}
use Rattle.mov_plan.specs.Carry.{last_by, last_end}
use Rattle.mov_plan.proofs.carry.last.Given as goal

abbrev pub invariant-places : goal.invariant-places
invariant-places l = record {
  count : l.last ≡ last_by (take l.k l.places);
  bound : l.last ≤ l.k;
  end : l.end ≡ last_end l.from (take l.k l.places);
}

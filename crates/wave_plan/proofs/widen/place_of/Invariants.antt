use Rattle.std.proofs.Common.{◌≡◌, ◌+◌, drop}
use Rattle.wave_plan.specs.Widened.{place_in}
use Rattle.wave_plan.proofs.widen.place_of.Given as goal

-- the place is what is passed, and the place among the spans that are left
abbrev pub invariant-cuts : goal.invariant-cuts
invariant-cuts l = record {
  passed : l.place ≡ l.cut-index;
  left : place_in l.at l.cuts ≡ l.place + place_in l.at (drop l.cut-index l.cuts);
}

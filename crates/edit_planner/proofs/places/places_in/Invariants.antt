use Rattle.std.proofs.Common.{◌≡◌, ◌++◌, drop, map}
use Rattle.edit_planner.specs.Stand.{placed}
use Rattle.edit_planner.proofs.places.places_in.Given as goal

abbrev pub invariant-cells : goal.invariant-cells
invariant-cells l = l.places.items ++ map placed (drop l.cell-index l.cells) ≡ map placed l.cells

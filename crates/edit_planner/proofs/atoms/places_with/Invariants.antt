use Rattle.std.proofs.Common.{◌≡◌, ◌++◌, drop}
use Rattle.edit_planner.specs.MoovAtoms.{placed_by}
use Rattle.edit_planner.proofs.atoms.places_with.Given as goal

abbrev pub invariant-atoms : goal.invariant-atoms
invariant-atoms l = l.places.items ++ placed_by (drop l.k l.atoms) (drop l.k l.counts) ≡ placed_by l.atoms l.counts

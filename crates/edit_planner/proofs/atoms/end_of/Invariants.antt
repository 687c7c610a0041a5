use Rattle.std.proofs.Common.{◌≡◌, drop}
use Rattle.edit_planner.specs.MoovAtoms.{atoms_end}
use Rattle.edit_planner.proofs.atoms.end_of.Given as goal

abbrev pub invariant-atoms : goal.invariant-atoms
invariant-atoms l = atoms_end l.end (drop l.atom-index l.atoms) ≡ atoms_end l.from l.atoms

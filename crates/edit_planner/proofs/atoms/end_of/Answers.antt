use Rattle.std.proofs.Common.{◌≡◌, ◌∙◌, sym, arith}
use Rattle.std.proofs.lemmas.List.{at_drop_all}
use Rattle.edit_planner.specs.MoovAtoms.{atoms_end}
use Rattle.edit_planner.proofs.MoovPlaces.{ends_inside}
use Rattle.edit_planner.proofs.atoms.end_of.Goals as goal

pub returns-clause-inside : goal.returns-clause-inside
returns-clause-inside c = λ end h.
    let is : c.atoms.end ≡ atoms_end c.args.from c.args.atoms.now = sym (at_drop_all (atoms_end c.atoms.end) c.args.atoms.now c.atoms.atom-index (omega arith)) ∙ c.atoms.invariant in
    let r = ends_inside c.args.from c.args.atoms.now end h in
    omega (arith, is, r.1)

pub returns-clause-order : goal.returns-clause-order
returns-clause-order c = λ end h.
    let is : c.atoms.end ≡ atoms_end c.args.from c.args.atoms.now = sym (at_drop_all (atoms_end c.atoms.end) c.args.atoms.now c.atoms.atom-index (omega arith)) ∙ c.atoms.invariant in
    let r = ends_inside c.args.from c.args.atoms.now end h in
    omega (arith, is, r.0)

use Rattle.std.proofs.Common.{rules, ◌≡◌, false, arith, codes, sym}
use Rattle.container_model.specs.Atoms.{is}
use Rattle.qt_atoms.specs.Walk.{atom_in}
use Rattle.mov_plan.proofs.AtomBodies.{body_long, no_size, no_type}
use Rattle.mov_plan.proofs.key_carry.table_in.Goals as goal

pub returns-then-not-is-clause-table : goal.returns-then-not-is-clause-table
returns-then-not-is-clause-table g c = λ b holds.
    let k = c.args.atom.now in
    let off : is (atom_in b k) (codes "meta") ≡ false = search rules in
    sym (no_type (atom_in b k) off)

pub returns-then-atom-gt-MOST_BYTES-clause-table : goal.returns-then-atom-gt-MOST_BYTES-clause-table
returns-then-atom-gt-MOST_BYTES-clause-table g c = λ b holds.
    let k = c.args.atom.now in
    sym (no_size (atom_in b k) (omega (arith, body_long b c.args.end k c.requires.ends (c.requires.inside b holds), c.if-atom-gt-MOST_BYTES.true)))

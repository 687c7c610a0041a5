use Rattle.std.proofs.Common.{rules, arith, ◌≡◌, ◌<◌, ◌≤◌, length, sym, ◌∙◌, Some, None}
use Rattle.qt_atoms.specs.Walk.{atom_in}
use Rattle.mov_plan.specs.Carriers.{table_of}
use Rattle.me_disk.proofs.Holds.{holds_on}
use Rattle.me_disk.proofs.Runs.{ReadsOnly-trans}
use Rattle.mov_plan.proofs.AtomBodies.{end_found, here_found, next_found, one}
use Rattle.mov_plan.proofs.key_carry.first_table.Goals as goal

pub atoms-preserved : goal.atoms-preserved
atoms-preserved g c =
    let inv = c.atoms.invariant in
    let ks = c.args.atoms.now in
    let n = c.atoms.number in
    let lt : n < length ks = omega (arith, c.atoms-test.true) in
    record {
      reads = ReadsOnly-trans _ _ _ inv.reads c.table_in.ensures.reads;
      left = λ b holds.
          let held = holds_on _ _ b inv.reads holds in
          let none : None ≡ table_of (atom_in b (one b ks n lt)) = rw c.in-Ok-None.field-0-is at (c.in-Ok-None.ensures.table b held) in
          next_found b ks n lt none (inv.left b holds);
    }

pub returns-in-Ok-Some-clause-found : goal.returns-in-Ok-Some-clause-found
returns-in-Ok-Some-clause-found g c = λ b holds.
    let inv = c.atoms.invariant in
    let ks = c.args.atoms.now in
    let n = c.atoms.number in
    let lt : n < length ks = omega (arith, c.atoms-test.true) in
    let held = holds_on _ _ b inv.reads holds in
    let t = c.in-Ok-Some.table in
    let some : Some t ≡ table_of (atom_in b (one b ks n lt)) = rw c.in-Ok-Some.field-0-is at (c.in-Ok-Some.ensures.table b held) in
    here_found b ks n lt t some (inv.left b holds)

pub returns-clause-found : goal.returns-clause-found
returns-clause-found g c = λ b holds. end_found b c.args.atoms.now c.atoms.number (omega (arith, c.atoms-test.false)) (c.atoms.invariant.left b holds)

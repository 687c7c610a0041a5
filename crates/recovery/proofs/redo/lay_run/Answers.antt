use Rattle.std.proofs.Common.{◌∙◌, ◌+◌, ◌≤◌, sym, arith, take, replicate}
use Rattle.me_bytes.specs.Bytes.{overlay}
use Rattle.me_disk.specs.Disk.{bytes_of}
use Rattle.me_disk.proofs.Runs.{Leaves-trans}
use Rattle.recovery.specs.Redo.{IsTornBy}
use Rattle.recovery.proofs.Lays.{run_told, run_next, laying_now, torn_on}
use Rattle.recovery.proofs.redo.lay_run.Goals as goal

pub write_block-requires : goal.write_block-requires
write_block-requires g c κs within =
    let so = c.loop-done.invariant in
    let old = g.D.Depot.disk c.args.depot.now in
    let now = g.D.Depot.disk c.loop-done.depot in
    let p = c.args.p.now in
    let low : c.loop-done.done + c.min-n.result ≤ p.len = omega (arith, c.min-n.ensures, c.loop-done-test.true) in (
      within,
      (
        omega (arith, c.min-n.ensures),
        (
          λ tells.
              let t = c.requires.1.0 (sym so.tells ∙ tells) in
              run_told g.redo p.at p.len c.loop-done.done c.min-n.result c.saturating_add.result c.args.byte (bytes_of old.slots.main) now so.laying tells t.0 t.1 t.2 low (omega (arith, c.saturating_add.ensures)),
          laying_now g.redo (overlay p.at (take c.loop-done.done (replicate p.len c.args.byte)) (bytes_of old.slots.main)) now so.laying,
        ),
      ),
    )

pub loop-done-preserved : goal.loop-done-preserved
loop-done-preserved g c =
    let so = c.loop-done.invariant in
    let e = c.in_ok-write_block.ensures in
    let old = g.D.Depot.disk c.args.depot.now in
    let now = g.D.Depot.disk c.loop-done.depot in
    let new = g.D.Depot.disk c.write_block.new.depot in
    let p = c.args.p.now in
    let low : c.loop-done.done + c.min-n.result ≤ p.len = omega (arith, c.min-n.ensures, c.loop-done-test.true) in
    record {
      part = low;
      laying = run_next g.redo p.at p.len c.loop-done.done c.min-n.result c.saturating_add.result c.args.byte (bytes_of old.slots.main) now new c.write_block.ensures.tells so.laying
          (λ tells. let t = c.requires.1.0 (sym so.tells ∙ tells) in (t.0, t.2)) low (omega (arith, c.min-n.ensures)) (omega (arith, c.saturating_add.ensures)) e.laying;
      crash = λ torn.
          let before = so.crash torn in
          Leaves-trans (IsTornBy g.redo) old now new before (c.write_block.ensures.crash (torn_on g.redo old now (g.met.D.Depot.lawful c.args.depot.now) (g.met.D.Depot.lawful c.loop-done.depot) torn before));
      tells = c.write_block.ensures.tells ∙ so.tells;
      later = omega (arith, so.later, c.write_block.ensures.cause.later);
      written = omega (arith, so.written, e.written.exact);
    }

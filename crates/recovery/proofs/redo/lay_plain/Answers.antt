use Rattle.std.proofs.Common.{◌∙◌, ◌+◌, ◌≤◌, sym, arith, take, drop}
use Rattle.me_bytes.specs.Bytes.{overlay}
use Rattle.me_disk.specs.Disk.{bytes_of}
use Rattle.me_disk.proofs.Runs.{Leaves-trans}
use Rattle.recovery.specs.Redo.{IsTornBy}
use Rattle.recovery.proofs.Lays.{block_told, laying_next, laying_now, torn_on}
use Rattle.recovery.proofs.redo.lay_plain.Goals as goal

pub lay_block-requires : goal.lay_block-requires
lay_block-requires g c κs within =
    let so = c.loop-done.invariant in
    let old = g.D.Depot.disk c.args.depot.now in
    let now = g.D.Depot.disk c.loop-done.depot in
    let p = c.args.p.now in
    let low : c.loop-done.done + c.min-n.result ≤ p.len = omega (arith, c.min-n.ensures, c.loop-done-test.true) in (
      within,
      (
        omega (arith, c.min-n.ensures),
        (
          λ tells.
              let t = c.requires.1.0 (sym so.tells ∙ tells) in
              block_told g.redo p.at p.body p.len c.loop-done.done c.min-n.result c.saturating_add.result c.saturating_add-in-loop-done.result (bytes_of old.slots.main) now so.laying tells
              t.0 t.1 t.2 t.3 t.4 low (omega (arith, c.saturating_add.ensures)) (omega (arith, c.saturating_add-in-loop-done.ensures)),
          laying_now g.redo (overlay p.at (take c.loop-done.done (take p.len (drop p.body g.redo.journal))) (bytes_of old.slots.main)) now so.laying,
        ),
      ),
    )

pub loop-done-preserved : goal.loop-done-preserved
loop-done-preserved g c =
    let so = c.loop-done.invariant in
    let e = c.in_ok-lay_block.ensures in
    let old = g.D.Depot.disk c.args.depot.now in
    let now = g.D.Depot.disk c.loop-done.depot in
    let new = g.D.Depot.disk c.lay_block.new.depot in
    let p = c.args.p.now in
    let low : c.loop-done.done + c.min-n.result ≤ p.len = omega (arith, c.min-n.ensures, c.loop-done-test.true) in
    record {
      part = low;
      laying = laying_next g.redo p.at p.body p.len c.loop-done.done c.min-n.result c.saturating_add.result c.saturating_add-in-loop-done.result (bytes_of old.slots.main) now new c.lay_block.ensures.tells so.laying
          (λ tells. let t = c.requires.1.0 (sym so.tells ∙ tells) in (t.0, t.1, t.3, t.4)) low (omega (arith, c.saturating_add.ensures)) (omega (arith, c.saturating_add-in-loop-done.ensures)) e.laying;
      crash = λ torn.
          let before = so.crash torn in
          Leaves-trans (IsTornBy g.redo) old now new before (c.lay_block.ensures.crash (torn_on g.redo old now (g.met.D.Depot.lawful c.args.depot.now) (g.met.D.Depot.lawful c.loop-done.depot) torn before));
      tells = c.lay_block.ensures.tells ∙ so.tells;
      later = omega (arith, so.later, c.lay_block.ensures.cause.later);
      written = omega (arith, so.written, e.written.exact);
    }

use Rattle.std.proofs.Common.{◌∙◌, ◌+◌, ◌≤◌, Bool, sym, subst, length, List, ℕ, Option}
use Rattle.std.specs.Prelude.{if◌then◌else◌}
use Rattle.me_disk.specs.Disk.{bytes_of}
use Rattle.me_disk.proofs.Runs.{Leaves-reads, Leaves-trans}
use Rattle.recovery.specs.Redo.{IsTornBy}
use Rattle.recovery.proofs.Lays.{laying_now}
use Rattle.recovery.proofs.Lefts.{laying_read}
use Rattle.recovery.proofs.redo.lay_strip.Goals as goal

pub lay_run-requires : goal.lay_run-requires
lay_run-requires g c κs within =
    let d0 = g.D.Depot.disk c.args.depot.now in
    let d1 = g.D.Depot.disk c.read_byte.new.depot in
    let reads = c.read_byte.ensures.reads in (
      within,
      (
        λ tells.
            let t = c.requires.1.0 (sym reads.tells ∙ tells) in
            (subst (λ (m : Option (List ℕ)). c.args.p.now.at ≤ length (bytes_of m)) (sym reads.main) t.1, t.2, t.4),
        laying_now g.redo (bytes_of d0.slots.main) d1 (laying_read g.redo (bytes_of d0.slots.main) d0 d1 reads c.requires.1.1),
      ),
    )

pub lay_plain-requires : goal.lay_plain-requires
lay_plain-requires g c κs within =
    let p = c.args.p.now in (
      within,
      (
        λ tells.
            let t = c.requires.1.0 tells in
            (subst (λ (r : Bool). p.body + (if r then 1 else p.len) ≤ length g.redo.journal) c.if-p.false t.0, t.1, t.2, t.3, t.4),
        c.requires.1.1,
      ),
    )

pub returns-then-p-clause-crash : goal.returns-then-p-clause-crash
returns-then-p-clause-crash g c = λ torn.
    let d0 = g.D.Depot.disk c.args.depot.now in
    let d1 = g.D.Depot.disk c.read_byte.new.depot in
    let d2 = g.D.Depot.disk c.lay_run.new.depot in
    let reads = c.read_byte.ensures.reads in
    Leaves-trans (IsTornBy g.redo) d0 d1 d2 (Leaves-reads (IsTornBy g.redo) d0 d1 reads) (c.lay_run.ensures.crash (λ i h. torn i (reads.crash.images i h)))

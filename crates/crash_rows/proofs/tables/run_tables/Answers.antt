use Rattle.std.proofs.Common.{sym, subst}
use Rattle.me_disk.specs.Disk.{bytes_of}
use Rattle.file_swap.specs.Swap.{Swapping, Underway}
use Rattle.file_swap.proofs.Installs.{begins}
use Rattle.crash_rows.specs.Tables.{tables}
use Rattle.crash_rows.proofs.tables.run_tables.Goals as goal

pub run-requires : goal.run-requires
run-requires g c κs within =
    let d = g.D.Depot.disk c.args.depot.now in
    (within, subst (λ (s : Swapping). Underway s (bytes_of d.slots.main) d) (sym c.requires.swap) (begins d tables (bytes_of d.slots.main) c.requires.stands c.requires.belongs))

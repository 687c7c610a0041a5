use Rattle.std.proofs.Common.{Option, sym, subst}
use Rattle.me_disk.specs.Disk.{bytes_of}
use Rattle.part_tree.specs.Plans.{Belongs}
use Rattle.file_swap.specs.Swap.{Swapping, Underway}
use Rattle.file_swap.proofs.Installs.{begins}
use Rattle.metaedit_top.specs.Changed.{IsFresh, OnSwap}
use Rattle.metaedit_top.proofs.change.carry_out.Goals as goal

pub run-requires : goal.run-requires
run-requires g c κs within =
    let d = g.D.Depot.disk c.args.depot.now in
    let fresh : IsFresh c.in-Some.swap = subst (λ (x : Option Swapping). OnSwap x IsFresh) c.in-Some.is c.requires.fresh in (
      within,
      subst (λ (s : Swapping). Underway s (bytes_of d.slots.main) d) (sym fresh.unmade)
          (begins d c.in-Some.swap.plan (bytes_of d.slots.main) c.requires.stands
          (λ tells. subst (λ (x : Option Swapping). OnSwap x (λ s. Belongs s.plan (bytes_of d.slots.main))) c.in-Some.is (c.requires.belongs tells))),
    )

use Rattle.std.proofs.Common.{List, subst, sym}
use Rattle.me_disk.specs.Memory.{Memory}
use Rattle.edit_rows.proofs.Depots.{AllOne, one_more}
use Rattle.edit_rows.proofs.batches.depots_of.Goals as goal

pub loop-file-preserved : goal.loop-file-preserved
loop-file-preserved c =
    subst (λ (ds : List Memory). AllOne ds) (sym c.in-Ok.ensures.items)
    (one_more c.loop-file.depots.items c.in_ok-depot.depot c.loop-file.invariant c.in_ok-depot.ensures.only)

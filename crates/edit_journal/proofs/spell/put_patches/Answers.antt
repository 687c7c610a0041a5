use Rattle.std.proofs.Common.{◌<◌, ◌^◌, ◌+◌, arith, sym, subst}
use Rattle.part_tree.specs.declared.plan.Patch.{Patch}
use Rattle.part_tree.specs.Patches.{end_of}
use Rattle.edit_journal.proofs.Spelled.{bytes_more, bytes_below, low_at}
use Rattle.edit_journal.proofs.spell.put_patches.Goals as goal

pub put_patch-requires-clause-small : goal.put_patch-requires-clause-small
put_patch-requires-clause-small c =
    let i = c.loop-patch.patch-index in
    let small = c.requires.small in
    omega (arith, small, bytes_below c.args.patches.now (i + 1), bytes_more c.args.patches.now i c.patch-item.result c.loop-patch-test.true c.patch-item.is)

pub put_patch-requires-clause-low : goal.put_patch-requires-clause-low
put_patch-requires-clause-low c =
    subst (λ (p : Patch). end_of p < 2 ^ 63) (sym c.patch-item.is) (low_at c.args.patches.now c.loop-patch.patch-index c.patch-item.result c.loop-patch-test.true c.requires.low)

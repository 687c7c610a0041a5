use Rattle.std.proofs.Common.{◌∙◌, ap}
use Rattle.part_tree.specs.Tables.{moved}
use Rattle.relocator.proofs.Pages.{widen_step}
use Rattle.relocator.proofs.page.widen_chunks.Goals as goal

pub loop-k-preserved : goal.loop-k-preserved
loop-k-preserved c =
    widen_step c.args.moves.now c.loop-k.k c.moved_place-place.result c.args.page.now c.loop-k.out c.set_be64.new.row c.loop-k-test.true c.requires.whole (c.loop-k.auto.out ∙ c.requires.twice) c.loop-k.invariant
    (c.moved_place-place.ensures.moved ∙ ap (moved c.args.moves.now) (c.from.ensures ∙ c.be32_in.ensures)) c.set_be64.ensures

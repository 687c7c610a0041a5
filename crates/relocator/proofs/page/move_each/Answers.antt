use Rattle.relocator.proofs.Pages.{same_width, page_step}
use Rattle.relocator.proofs.page.move_each.Goals as goal

pub loop-k-preserved : goal.loop-k-preserved
loop-k-preserved c = record {
  page = page_step c.args.moves.now c.args.form.now c.loop-k.k c.width-width.result c.args.page.now c.loop-k.page c.move_row.new.row (same_width c.args.form.now c.requires.narrow) c.width-width.ensures c.loop-k-test.true c.requires.whole
      c.loop-k.invariant.page c.move_row.ensures.row;
}

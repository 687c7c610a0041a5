use Rattle.std.proofs.Common.{sym}
use Rattle.relocator.proofs.Pages.{same_width, page_step, named_step}
use Rattle.relocator.proofs.page.relocate_each.Goals as goal

pub loop-k-preserved : goal.loop-k-preserved
loop-k-preserved c =
    let narrow = same_width c.args.form.now c.requires.narrow in
    record {
      page = page_step c.args.moves.now c.args.form.now c.loop-k.k c.width-width.result c.args.page.now c.loop-k.page c.move_row.new.row narrow c.width-width.ensures c.loop-k-test.true c.requires.page.whole
          c.loop-k.invariant.page c.in_default.ensures.row;
      named = named_step c.args.moves.now c.args.form.now c.loop-k.k c.width-width.result c.args.page.now c.loop-k.page narrow c.width-width.ensures c.loop-k-test.true c.requires.page.whole
          c.loop-k.invariant.page c.loop-k.invariant.named (sym c.in_default.ensures.misfit);
    }

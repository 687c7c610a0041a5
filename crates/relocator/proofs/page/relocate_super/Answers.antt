use Rattle.std.proofs.Common.{refl}
use Rattle.part_tree.specs.declared.table.TableForm.TheVariants.{Super}
use Rattle.relocator.proofs.Pages.{page_step, named_step}
use Rattle.relocator.proofs.page.relocate_super.Goals as goal

pub loop-k-preserved : goal.loop-k-preserved
loop-k-preserved c = record {
  page = page_step c.args.moves.now Super c.loop-k.k 16 c.args.page.now c.loop-k.page c.move_super.new.row refl refl c.loop-k-test.true c.requires c.loop-k.invariant.page c.move_super.ensures.row;
  named = named_step c.args.moves.now Super c.loop-k.k 16 c.args.page.now c.loop-k.page refl refl c.loop-k-test.true c.requires c.loop-k.invariant.page c.loop-k.invariant.named c.move_super.ensures.misfit;
}

use Rattle.std.proofs.Common.{refl}
use Rattle.part_tree.specs.declared.table.TableForm.TheVariants.{Chunks32}
use Rattle.relocator.proofs.Pages.{page_step}
use Rattle.relocator.proofs.narrow.move_narrow.Goals as goal

pub loop-k-preserved : goal.loop-k-preserved
loop-k-preserved c = record {
  page = page_step c.args.moves.now Chunks32 c.loop-k.k 4 c.args.page.now c.loop-k.page c.move_chunk32.new.row refl refl c.loop-k-test.true c.requires c.loop-k.invariant.page c.move_chunk32.ensures.row;
}

use Rattle.std.proofs.Common.{refl, sym}
use Rattle.part_tree.specs.declared.table.TableForm.TheVariants.{Chunks32}
use Rattle.relocator.proofs.Pages.{page_step, named_step}
use Rattle.relocator.proofs.narrow.relocate_narrow.Goals as goal

pub loop-k-preserved : goal.loop-k-preserved
loop-k-preserved c = record {
  page = page_step c.args.moves.now Chunks32 c.loop-k.k 4 c.args.page.now c.loop-k.page c.move_chunk32.new.row refl refl c.loop-k-test.true c.requires.whole c.loop-k.invariant.page c.in_default.ensures.row;
  named = named_step c.args.moves.now Chunks32 c.loop-k.k 4 c.args.page.now c.loop-k.page refl refl c.loop-k-test.true c.requires.whole c.loop-k.invariant.page c.loop-k.invariant.named (sym c.in_default.ensures.misfit);
}

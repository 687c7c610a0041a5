use Rattle.std.proofs.Common.{◌∙◌, ◌+◌, ◌*◌, ℕ, drop, sym, ap, arith}
use Rattle.me_disk.proofs.Holds.{holds_on}
use Rattle.me_disk.proofs.Runs.{ReadsOnly-trans}
use Rattle.table_misfits.specs.Misfits.{misfits}
use Rattle.table_misfits.proofs.Misfits.{misfits_few, misfits_found, misfits_page, page_long}
use Rattle.table_misfits.proofs.misfit.misfit_in.Goals as goal

pub returns-in-Some-clause-misfit : goal.returns-in-Some-clause-misfit
returns-in-Some-clause-misfit g c b held =
    let here = holds_on (g.D.Depot.disk c.args.depot.now) (g.D.Depot.disk c.pages.depot) b c.pages.invariant.reads held in
    sym (misfits_found c.args.moves.now c.args.form.now c.pages.done c.min-count.result c.args.rows c.args.from c.in-Some.place b (omega (arith, c.min-count.ensures, c.pages-test.true))
    (sym (misfits_few c.args.moves.now c.args.form.now c.min-count.result _ _ b c.in_ok-place.place (c.in_ok-place.ensures.misfit b here) (page_long c.args.form.now c.width-width.result c.min-count.result c.pages.page c.width-width.ensures (omega (arith, c.min-count.ensures)) c.min-count.array_long)
    ∙ ap (λ (n : ℕ). misfits c.args.moves.now c.args.form.now c.min-count.result (drop (c.args.from + n * c.pages.done) b)) c.width-width.ensures) ∙ c.in-Some.is))
    ∙ c.pages.invariant.left b held

pub pages-preserved : goal.pages-preserved
pages-preserved g c =
    record {
      reads = ReadsOnly-trans (g.D.Depot.disk c.args.depot.now) (g.D.Depot.disk c.pages.depot) (g.D.Depot.disk c.misfit_in_page.new.depot) c.pages.invariant.reads c.in_ok-place.ensures.reads;
      few = omega (arith, c.min-count.ensures, c.pages-test.true);
      left = λ b held.
          let here = holds_on (g.D.Depot.disk c.args.depot.now) (g.D.Depot.disk c.pages.depot) b c.pages.invariant.reads held in
          sym (misfits_page c.args.moves.now c.args.form.now c.pages.done c.min-count.result c.args.rows c.args.from b (omega (arith, c.min-count.ensures, c.pages-test.true))
          (sym (misfits_few c.args.moves.now c.args.form.now c.min-count.result _ _ b c.in_ok-place.place (c.in_ok-place.ensures.misfit b here) (page_long c.args.form.now c.width-width.result c.min-count.result c.pages.page c.width-width.ensures (omega (arith, c.min-count.ensures)) c.min-count.array_long)
          ∙ ap (λ (n : ℕ). misfits c.args.moves.now c.args.form.now c.min-count.result (drop (c.args.from + n * c.pages.done) b)) c.width-width.ensures) ∙ c.in-None.is))
          ∙ c.pages.invariant.left b held;
    }

use Rattle.std.proofs.Common.{◌≡◌, ◌∙◌, length, rules}
use Rattle.field_model.specs.Body.{lay_item}
use Rattle.bext_fields.proofs.Laid.{laid_more, laid_first, laid_long, fit_now, raised_first, written_back}
use Rattle.bext_fields.proofs.edit.edited_body.Goals as goal

pub loop-change-init : goal.loop-change-init
loop-change-init c =
    let old = c.deref_mut.result.now in
    let same : length c.raise_version.new.bext ≡ length old = c.raise_version.auto.bext in
    let size : length c.raise_version.new.bext ≡ c.in_ok-bext.bext.len = search rules in
    let written = written_back c.in_ok-bext.bext.len c.raise_version.new.bext c.in_ok-bext.bext.items size in
    let copied : old ≡ c.args.body.now = c.deref_mut.ensures.value ∙ c.in_ok-bext.ensures.items in
    record {
      long = raised_first c.needed_version.result old c.raise_version.new.bext _ (rw copied c.requires.long) c.raise_version.ensures written;
      fit = c.requires.fit;
      whole = laid_first c.args.changes.now c.needed_version.result c.args.body.now old c.raise_version.new.bext _ c.needed_version.ensures.needed copied c.raise_version.ensures written;
    }

pub loop-change-preserved : goal.loop-change-preserved
loop-change-preserved c =
    let before = c.loop-change.invariant in
    let k = c.loop-change.change-index in
    let this = c.change-item.result in
    let fit = fit_now c.args.changes.now k this c.loop-change-test.true c.change-item.is before.fit in
    let step : c.lay_change.new.bext.items ≡ lay_item this.name this.value c.loop-change.bext.items = c.in_ok-lay_change.ensures.laid in
    record {
      long = laid_long this.name this.value c.loop-change.bext.items c.lay_change.new.bext.items fit.0 before.long step;
      fit = fit.1;
      whole = laid_more c.args.changes.now k this c.loop-change.bext.items c.lay_change.new.bext.items _ c.loop-change-test.true c.change-item.is step before.whole;
    }

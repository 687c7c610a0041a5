use Rattle.std.proofs.Common.{refl}
use Rattle.me_disk.proofs.Holds.{holds_on}
use Rattle.wave_file.specs.Reads.{IsForm}
use Rattle.wave_file.proofs.Fronts.{sizes_fail, form_fails, chunks_fail, form_is, map_is}
use Rattle.wave_file.proofs.form.read_form.Goals as goal

pub returns-in-Err-clause-wave : goal.returns-in-Err-clause-wave
returns-in-Err-clause-wave g c = λ b holds front. sizes_fail b c.args.front c.in-Err.fault front (c.in-Err.ensures.sizes b holds)

pub returns-in-None-clause-wave : goal.returns-in-None-clause-wave
returns-in-None-clause-wave g c = λ b holds front.
    let read = c.in-Ok.ensures.sizes b holds in
    form_fails b c.args.front c.in-Ok.ds64 c.args.len front read.0 (read.1 front.big) (c.requires.whole b holds) c.in-None.ensures

pub returns-in-Err-read_chunks-clause-wave : goal.returns-in-Err-read_chunks-clause-wave
returns-in-Err-read_chunks-clause-wave g c = λ b holds front.
    let read = c.in-Ok.ensures.sizes b holds in
    let held = holds_on (g.D.Depot.disk c.args.depot.now) (g.D.Depot.disk c.read_ds.new.depot) b c.read_ds.ensures.reads holds in
    let form : IsForm b c.in-Ok.ds64 c.in-Some.end = form_is b c.args.front c.in-Ok.ds64 c.args.len c.in-Some.end front read.0 (read.1 front.big) (c.requires.whole b holds) c.in-Some.ensures in
    chunks_fail b c.args.front c.in-Ok.ds64 c.in-Some.end c.in-Err-read_chunks.fault front form (c.in-Err-read_chunks.ensures.chunks b held form)

pub returns-clause-wave : goal.returns-clause-wave
returns-clause-wave g c = λ b holds front.
    let read = c.in-Ok.ensures.sizes b holds in
    let held = holds_on (g.D.Depot.disk c.args.depot.now) (g.D.Depot.disk c.read_ds.new.depot) b c.read_ds.ensures.reads holds in
    let form : IsForm b c.in-Ok.ds64 c.in-Some.end = form_is b c.args.front c.in-Ok.ds64 c.args.len c.in-Some.end front read.0 (read.1 front.big) (c.requires.whole b holds) c.in-Some.ensures in
    map_is b c.args.front _ c.in-Ok-read_chunks.all c.in-Ok.ds64 front form (c.in-Ok-read_chunks.ensures.chunks b held form) (c.requires.whole b holds) refl c.read_chunks.ensures.same refl refl refl refl

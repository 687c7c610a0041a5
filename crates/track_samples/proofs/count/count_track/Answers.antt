use Rattle.std.proofs.Common.{◌∙◌, map, drop, sym, ap}
use Rattle.me_disk.proofs.Holds.{holds_on}
use Rattle.container_model.specs.Rows.{numbers}
use Rattle.sample_tables.specs.Samples.{samples_from}
use Rattle.track_samples.specs.Left.{runs_of, sizes_left, width_of}
use Rattle.track_samples.specs.Tables.{tail_in, total}
use Rattle.track_samples.specs.declared.rows.Rows.{Rows}
use Rattle.track_samples.specs.declared.sizes.SizeTable.{SizeTable}
use Rattle.track_samples.proofs.OnDisk.{holds_back}
use Rattle.track_samples.proofs.Told.{chunks_counted, no_samples, samples_counted}
use Rattle.track_samples.proofs.count.count_track.Goals as goal

pub returns-then-not-ordered-clause-chunks : goal.returns-then-not-ordered-clause-chunks
returns-then-not-ordered-clause-chunks g c = λ b holds.
    let held = holds_on _ _ b c.in_ok-places.ensures.reads holds in
    let then = holds_on _ _ b c.in_ok-rows.ensures.reads held in
    sym (chunks_counted b c.args.track.now c.in_ok-places.places c.in_ok-rows.rows c.in_ok-table.table (c.in_ok-places.ensures.places b holds) (c.in_ok-rows.ensures.runs b held) (c.in_ok-table.ensures.sizes b then))

pub returns-then-not-ordered-clause-samples : goal.returns-then-not-ordered-clause-samples
returns-then-not-ordered-clause-samples g c = λ b holds.
    let held = holds_on _ _ b c.in_ok-places.ensures.reads holds in
    let then = holds_on _ _ b c.in_ok-rows.ensures.reads held in
    let after = holds_on _ _ b c.in_ok-table.ensures.reads then in
    sym (no_samples b c.args.track.now c.in_ok-places.places c.in_ok-rows.rows c.in_ok-table.table (c.in_ok-places.ensures.places b holds) (c.in_ok-rows.ensures.runs b held) (c.in_ok-table.ensures.sizes b then) c.args.mdats.now
    (sym c.if-not-ordered.true ∙ c.in_ok-ordered.ensures.order b after))

pub count_samples-requires-clause-inside : goal.count_samples-requires-clause-inside
count_samples-requires-clause-inside g c = λ b holds.
    c.requires.inside b
    (holds_back _ _ b c.in_ok-places.ensures.reads (holds_back _ _ b c.in_ok-rows.ensures.reads (holds_back _ _ b c.in_ok-table.ensures.reads (holds_back _ _ b c.in_ok-ordered.ensures.reads holds))))

pub returns-clause-chunks : goal.returns-clause-chunks
returns-clause-chunks g c = λ b holds.
    let held = holds_on _ _ b c.in_ok-places.ensures.reads holds in
    let then = holds_on _ _ b c.in_ok-rows.ensures.reads held in
    sym (chunks_counted b c.args.track.now c.in_ok-places.places c.in_ok-rows.rows c.in_ok-table.table (c.in_ok-places.ensures.places b holds) (c.in_ok-rows.ensures.runs b held) (c.in_ok-table.ensures.sizes b then))

pub returns-clause-samples : goal.returns-clause-samples
returns-clause-samples g c = λ b holds.
    let t = c.args.track.now in
    let held = holds_on _ _ b c.in_ok-places.ensures.reads holds in
    let then = holds_on _ _ b c.in_ok-rows.ensures.reads held in
    let after = holds_on _ _ b c.in_ok-table.ensures.reads then in
    let now = holds_on _ _ b c.in_ok-ordered.ensures.reads after in
    let p = c.in_ok-places.places in
    let tails = map (tail_in b c.args.mdats.now) (numbers (width_of t.wide) p.count (drop p.at b)) in
    c.in_ok-samples.ensures.samples b now
    ∙ ap (λ (r : Rows). total (samples_from (runs_of b r) 1 (sizes_left b c.new-sizes.result.table 0) tails)) c.new-runs.ensures.rows
    ∙ ap (λ (s : SizeTable). total (samples_from (runs_of b c.in_ok-rows.rows) 1 (sizes_left b s 0) tails)) c.new-sizes.ensures.table
    ∙ sym (samples_counted b t p c.in_ok-rows.rows c.in_ok-table.table (c.in_ok-places.ensures.places b holds) (c.in_ok-rows.ensures.runs b held) (c.in_ok-table.ensures.sizes b then) c.args.mdats.now
    (sym c.if-not-ordered.false ∙ c.in_ok-ordered.ensures.order b after))

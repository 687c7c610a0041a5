use Rattle.std.proofs.Common.{ℕ, subst}
use Rattle.std.specs.Prelude.{IfOk}
use Rattle.container_model.specs.Written.{slice}
use Rattle.sample_tables.specs.Counts.{rows_by}
use Rattle.track_samples.specs.Left.{AreRows}
use Rattle.track_samples.proofs.Told.{places_read}
use Rattle.track_samples.proofs.count.places_of.Goals as goal

pub returns-clause-places : goal.returns-clause-places
returns-clause-places g c = λ b holds.
    let t = c.args.track.now in
    places_read t.wide b t.chunks c.rows_in.result
    (subst (λ (len : ℕ). IfOk c.rows_in.result (λ rows. AreRows t.chunks (rows_by len (slice b t.chunks.at t.chunks.len)) rows)) c.place_len.ensures.len (c.rows_in.ensures.rows b holds))

use Rattle.std.proofs.Common.{◌≡◌, ◌∙◌, map}
use Rattle.std.specs.List.{flat_map}
use Rattle.mov_plan.specs.Planned.{AreTables}
use Rattle.mov_plan.specs.Tables.{rows_of}
use Rattle.mov_plan.specs.Tracks.{track_rows}
use Rattle.mov_plan.proofs.Tabled.{ok_map, tracks_tell}
use Rattle.std.proofs.Common.{ap}
use Rattle.mov_plan.proofs.tracks.tables_of.Goals as goal

pub returns-clause-tables : goal.returns-clause-tables
returns-clause-tables g c = λ b holds long bytes sup same.
    let ts = c.args.tracks.now in
    ok_map (λ v. map rows_of v.items ≡ flat_map (track_rows b) ts) (λ v. AreTables b v.items) c.all_tables.result
    (λ v told. told ∙ ap (flat_map (track_rows b)) same ∙ tracks_tell b bytes sup.readable) (c.all_tables.ensures.tables b holds long)

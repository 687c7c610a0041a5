use Rattle.std.proofs.Common.{◌+◌, drop}
use Rattle.me_disk.proofs.Holds.{holds_on}
use Rattle.me_disk.proofs.Runs.{ReadsOnly-trans}
use Rattle.mov_plan.specs.Tracks.{track_rows}
use Rattle.mov_plan.proofs.Tabled.{left_track, one_more}
use Rattle.mov_plan.proofs.tracks.all_tables.Goals as goal

pub tracks-preserved : goal.tracks-preserved
tracks-preserved g c =
    let inv = c.tracks.invariant in
    let ts = c.args.tracks.now in
    let i = c.tracks.track-index in
    record {
      window = c.table_of.ensures.window;
      reads = ReadsOnly-trans _ _ _ inv.reads c.table_of.ensures.reads;
      left = λ b holds long.
          let held = holds_on _ _ b inv.reads holds in
          one_more (track_rows b) _ _ _ _ (drop (i + 1) ts) (drop i ts) _ c.in-Ok-keep.ensures (c.in-Ok.ensures.table b held long) (left_track b ts i c.tracks-test.true) (inv.left b holds long);
    }

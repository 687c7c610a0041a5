use Rattle.std.proofs.Common.{arith, ◌≡◌, ◌+◌, get_or, length, ap}
use Rattle.me_disk.proofs.Holds.{holds_on}
use Rattle.me_disk.proofs.Runs.{ReadsOnly-trans}
use Rattle.me_report.proofs.Tracks.{next_track, no_track}
use Rattle.me_report.proofs.show.put_tracks.Goals as goal

pub tracks-preserved : goal.tracks-preserved
tracks-preserved g c =
    let inv = c.tracks.invariant in
    record {
      number = omega (arith, inv.number);
      reads = ReadsOnly-trans _ _ _ inv.reads c.count_track.ensures.reads;
      none = λ is. absurd (omega (arith, c.tracks-test.true, ap length is));
      still = λ is. absurd (omega (arith, c.tracks-test.true, ap length is));
      lines = λ b holds.
          let held = holds_on _ _ b inv.reads holds in
          next_track b c.args.bodies.now c.args.tracks.now c.tracks.track-index c.tracks.number c.in-Ok.counts.chunks c.in-Ok.counts.samples no_track c.tracks.out.items c.put_track.new.out.items _ c.tracks-test.true
          (c.in-Ok.ensures.chunks b held) (c.in-Ok.ensures.samples b held) c.in-Ok-put_track.ensures (inv.lines b holds);
    }

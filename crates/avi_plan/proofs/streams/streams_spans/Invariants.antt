use Rattle.std.proofs.Common.{◌≡◌, ◌+◌, ℕ, List, drop}
use Rattle.me_bytes.specs.Bytes.{IsBytes}
use Rattle.me_disk.specs.Holds.{Holds}
use Rattle.me_disk.specs.Steps.{ReadsOnly}
use Rattle.avi_model.specs.Named.{Site}
use Rattle.avi_plan.specs.Streams.{AreInside, AreSites, told}
use Rattle.avi_plan.proofs.Streamed.{SitesLeft}
use Rattle.avi_plan.proofs.streams.streams_spans.Given as goal

-- the spans so far, and the streams that are left
abbrev pub invariant-streams : goal.invariant-streams
invariant-streams g l = record {
  reads : ReadsOnly (g.D.Depot.disk l.fn.depot) (g.D.Depot.disk l.depot);
  number : l.stream ≡ l.strl-index;
  end : l.end ≡ l.fn.hdrl.at + l.fn.hdrl.len;
  inside : AreInside (l.fn.hdrl.at + 4) (l.fn.hdrl.at + l.fn.hdrl.len) l.fn.len l.found;
  left : (b : List ℕ) (ss : List Site) → Holds (g.D.Depot.disk l.fn.depot) b → IsBytes b → AreSites b (l.fn.hdrl.at + l.fn.hdrl.len) l.fn.len 0 (l.fn.hdrl.at + 4) l.fn.streams ss
      → SitesLeft b (told l.fn.names) (l.fn.hdrl.at + l.fn.hdrl.len) l.fn.len l.strl-index (drop l.strl-index l.fn.streams) ss l.found;
}

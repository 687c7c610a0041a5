use Rattle.std.proofs.Common.{◌-◌, ◌≤◌, ℕ, List, take, drop}
use Rattle.md5.specs.Md5.{Holds as HasMessage}
use Rattle.me_disk.specs.Holds.{Holds}
use Rattle.me_disk.specs.Steps.{ReadsOnly}
use Rattle.me_report.proofs.checksum.sound_md5.Given as goal

-- the hasher has what was read so far of the range
abbrev pub invariant-blocks-2 : goal.invariant-blocks-2
invariant-blocks-2 g l = record {
  inside : l.done ≤ l.sound.len;
  reads : ReadsOnly (g.D.Depot.disk l.fn.depot) (g.D.Depot.disk l.depot);
  message : (b : List ℕ) → Holds (g.D.Depot.disk l.fn.depot) b → HasMessage l.hasher (take l.done (drop l.sound.at b));
}

abbrev pub decreases-blocks-2 : goal.decreases-blocks-2
decreases-blocks-2 g l = l.sound.len - l.done

use Rattle.std.proofs.Common.{◌≡◌, ◌+◌, ◌-◌, ◌≤◌, take, drop}
use Rattle.me_bytes.specs.Bytes.{overlay}
use Rattle.me_disk.specs.Disk.{Leaves, bytes_of}
use Rattle.recovery.specs.Redo.{AreTorn, IsTornBy, IsLaying}
use Rattle.recovery.proofs.redo.lay_plain.Given as goal

abbrev pub ghost-lay_block : goal.ghost-lay_block
ghost-lay_block g a = g.redo

abbrev pub invariant-loop-done : goal.invariant-loop-done
invariant-loop-done g l = let old = g.D.Depot.disk l.fn.depot in let now = g.D.Depot.disk l.depot in record {
  part : l.done ≤ l.len;
  laying : IsLaying g.redo (overlay l.p.at (take l.done (take l.len (drop l.p.body g.redo.journal))) (bytes_of old.slots.main)) now;
  crash : AreTorn g.redo old → Leaves (IsTornBy g.redo) old now;
  tells : now.tells ≡ old.tells;
  later : old.faults ≤ now.faults;
  written : now.written ≡ old.written + l.done;
}

abbrev pub decreases-loop-done : goal.decreases-loop-done
decreases-loop-done g l = l.len - l.done

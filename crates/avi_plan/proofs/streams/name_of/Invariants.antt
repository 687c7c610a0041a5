use Rattle.std.proofs.Common.{◌≡◌, ◌≤◌, length, drop, false}
use Rattle.avi_model.specs.Named.{is_named}
use Rattle.avi_plan.specs.Streams.{told}
use Rattle.avi_plan.proofs.streams.name_of.Given as goal

-- none of those behind is of the stream
abbrev pub invariant-names : goal.invariant-names
invariant-names l = record {
  inside : l.i ≤ length l.names;
  none : is_named (told (drop l.i l.names)) l.stream ≡ false;
}

abbrev pub decreases-names : goal.decreases-names
decreases-names l = l.i

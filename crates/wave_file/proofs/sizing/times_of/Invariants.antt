use Rattle.std.proofs.Common.{◌≡◌, ◌≤◌, ◌+◌, drop}
use Rattle.wave_file.specs.Sized.{times}
use Rattle.wave_file.proofs.sizing.times_of.Given as goal

-- how often so far, and in what is left
abbrev pub invariant-ids : goal.invariant-ids
invariant-ids l = record {
  few : l.count ≤ l.other-index;
  so_far : l.count + times l.id.0 (drop l.other-index l.ids) ≡ times l.id.0 l.ids;
}

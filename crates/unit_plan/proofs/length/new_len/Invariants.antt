use Rattle.std.proofs.Common.{◌≡◌, ◌≤◌, ◌+◌, drop}
use Rattle.unit_plan.specs.Sized.{gained, lost}
use Rattle.unit_plan.proofs.length.new_len.Given as goal

-- what is kept and gained so far, and what the spans that are left lose and gain
abbrev pub invariant-cuts : goal.invariant-cuts
invariant-cuts l = record {
  within : lost (drop l.cut-index l.cuts) ≤ l.kept;
  kept : l.kept + lost l.cuts ≡ l.len + lost (drop l.cut-index l.cuts);
  gained : l.gained + gained (drop l.cut-index l.cuts) ≡ gained l.cuts;
}

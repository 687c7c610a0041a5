use Rattle.std.proofs.Common.{◌≡◌, ◌+◌, ◌-◌, ◌≤◌, min, drop}
use Rattle.std.specs.Prelude.{◌^◌}
use Rattle.edit_planner.specs.Plan.{told_len, total_len}
use Rattle.edit_planner.proofs.facts.len_of.Given as goal

-- the length so far, and that of the ranges that are left
abbrev pub invariant-spans : goal.invariant-spans
invariant-spans l = record {
  few : l.len ≤ 2 ^ 64 - 1;
  left : min (l.len + total_len (drop l.span-index l.spans)) (2 ^ 64 - 1) ≡ told_len l.spans;
}

use Rattle.std.proofs.Common.{◌≡◌, ◌+◌, ◌-◌, ◌≤◌, min, drop, map}
use Rattle.std.specs.Prelude.{◌^◌}
use Rattle.avi_model.specs.Kind.{behind_word}
use Rattle.edit_planner.specs.Plan.{told_len, total_len}
use Rattle.edit_planner.proofs.facts.len_of_movis.Given as goal

-- the length so far, and that of the ranges that are left
abbrev pub invariant-movis : goal.invariant-movis
invariant-movis l = record {
  few : l.len ≤ 2 ^ 64 - 1;
  left : min (l.len + total_len (map behind_word (drop l.movi-index l.movis))) (2 ^ 64 - 1) ≡ told_len (map behind_word l.movis);
}

use Rattle.std.proofs.Common.{◌≡◌, ◌<◌, ◌≤◌, ℕ, length, get_or}
use Rattle.turn_batch.specs.declared.member.Member.{Member}
use Rattle.metaedit_top.specs.declared.batch_end.FileEnd.{FileEnd}
use Rattle.metaedit_top.specs.Batch.{end_behind}
use Rattle.metaedit_top.proofs.batch.with_faults.Given as goal

-- the ends so far are told, and those that are left are as they were
abbrev pub invariant-loop-i : goal.invariant-loop-i
invariant-loop-i g l = record {
  count : length l.ends.items ≡ length l.fn.ends.items;
  told : (j : ℕ) (m : Member) (d : g.row.D.Denot) (x : FileEnd) → j < l.i → get_or l.ends.items j x ≡ end_behind (get_or l.batch j m).swap (g.D.Depot.disk (get_or l.depots j d)).faults (get_or l.fn.ends.items j x);
  rest : (j : ℕ) (x : FileEnd) → l.i ≤ j → get_or l.ends.items j x ≡ get_or l.fn.ends.items j x;
}

use Rattle.std.proofs.Common.{◌≡◌, ◌<◌, ℕ, Option, Some, None, length, get_or}
use Rattle.std.specs.Prelude.{if◌then◌else◌}
use Rattle.turn_batch.specs.declared.member.Member.{Member}
use Rattle.turn_batch.specs.Members.{is_open}
use Rattle.metaedit_top.specs.declared.batch_end.FileEnd.{FileEnd}
use Rattle.metaedit_top.proofs.batch.ended.Given as goal

-- the ends so far are told
abbrev pub invariant-loop-i : goal.invariant-loop-i
invariant-loop-i l = record {
  count : length l.left.items ≡ length l.fn.left.items;
  told : (j : ℕ) (m : Member) (x : FileEnd) (y : Option FileEnd) → j < l.i
      → get_or l.left.items j y ≡ (if is_open (get_or l.batch j m) then None else Some (get_or l.ends j x));
}

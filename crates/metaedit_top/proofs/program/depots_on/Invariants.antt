use Rattle.std.proofs.Common.{◌≡◌, length}
use Rattle.metaedit_top.proofs.program.depots_on.Given as goal

-- a depot for each file so far
abbrev pub invariant-loop-file : goal.invariant-loop-file
invariant-loop-file l = length l.depots.items ≡ l.file-index

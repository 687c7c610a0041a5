use Rattle.std.proofs.Common.{◌≡◌, ◌++◌, drop}
use Rattle.std.proofs.Common.{Ok}
use Rattle.metaedit_top.specs.BatchText.{Printed, texts_lines}
use Rattle.metaedit_top.proofs.Prints.{PrintedSoFar}
use Rattle.metaedit_top.proofs.batch_text.print_files.Given as goal

-- the lines so far are printed, and those that are left make the whole
abbrev pub invariant-loop-i : goal.invariant-loop-i
invariant-loop-i g l = PrintedSoFar l.texts l.ends l.i (g.K.Sink.contents l.fn.out) (g.K.Sink.contents l.out) (g.K.Sink.faults l.fn.out) (g.K.Sink.faults l.out)

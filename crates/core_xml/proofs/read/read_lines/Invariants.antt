use Rattle.std.proofs.Common.{◌≡◌, ◌+◌, ◌≤◌, length}
use Rattle.core_xml.specs.Table.{read_lines, start}
use Rattle.core_xml.proofs.Sound.{IsFine}
use Rattle.core_xml.proofs.read.read_lines.Given as goal

-- what comes of the lines that are left
abbrev pub invariant-lines : goal.invariant-lines
invariant-lines l = record {
  fine : IsFine l.n l.reading;
  few : l.n + length l.lines ≤ length l.fn.lines + 1;
  left : read_lines l.reading l.file l.n l.lines ≡ read_lines start l.file 1 l.fn.lines;
}

abbrev pub decreases-lines : goal.decreases-lines
decreases-lines l = length l.lines

use Rattle.std.proofs.Common.{◌≡◌}
use Rattle.file_swap.specs.Parts.{segments_from}
use Rattle.file_swap.proofs.rewrite.Parts.segment.Given as goal

abbrev pub invariant-loop-i : goal.invariant-loop-i
invariant-loop-i l = segments_from l.self l.i ≡ segments_from l.self l.from

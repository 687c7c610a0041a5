use Rattle.std.proofs.Common.{◌≡◌, drop}
use Rattle.escapes.specs.Escapes.{joined, unescaped, unescaped_from}
use Rattle.escapes.proofs.read.unescape.Given as goal

-- the bytes so far, and those of the letters that are left
abbrev pub invariant-loop-at : goal.invariant-loop-at
invariant-loop-at l = joined l.raw.items (unescaped_from l.more (drop l.at l.text)) ≡ unescaped l.text

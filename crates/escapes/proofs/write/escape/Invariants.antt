use Rattle.std.proofs.Common.{◌≡◌, ◌++◌, drop}
use Rattle.escapes.specs.Escapes.{escaped, escaped_from}
use Rattle.escapes.proofs.write.escape.Given as goal

-- the text so far, and that of the bytes that are left
abbrev pub invariant-loop-at : goal.invariant-loop-at
invariant-loop-at l = l.text.items ++ escaped_from l.ahead (drop l.at l.raw) ≡ escaped l.raw

use Rattle.std.proofs.Common.{◌≤◌}
use Rattle.qt_keys.proofs.Twins.{Apart}
use Rattle.qt_keys.proofs.differ.neighbours_differ.Given as goal

-- those before this place differ from their neighbours
abbrev pub invariant-loop-k : goal.invariant-loop-k
invariant-loop-k g l = record { low : 1 ≤ l.k; apart : Apart g.T.Ord.cmp l.values l.k }

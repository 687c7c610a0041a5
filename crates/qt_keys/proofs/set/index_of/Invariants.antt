use Rattle.std.proofs.Common.{◌≡◌, ◌+◌, drop}
use Rattle.qt_keys.specs.Set.{index_of}
use Rattle.qt_keys.proofs.set.index_of.Given as goal

-- none was met so far
abbrev pub invariant-loop-k : goal.invariant-loop-k
invariant-loop-k l = l.k + index_of l.name (drop l.k l.entries) ≡ index_of l.name l.entries

use Rattle.std.proofs.Common.{◌≡◌, ◌+◌, drop}
use Rattle.qt_keys.specs.Set.{index_of}
use Rattle.mov_plan.proofs.keyed.place_of_key.Given as goal

-- none was met so far
abbrev pub invariant-entries : goal.invariant-entries
invariant-entries l = l.k + index_of l.name (drop l.k l.entries) ≡ index_of l.name l.entries

use Rattle.std.proofs.Common.{◌≡◌, take}
use Rattle.part_tree.proofs.fields.Entry.copy.Given as goal

-- the values so far
abbrev pub invariant-loop-value : goal.invariant-loop-value
invariant-loop-value l = l.held.items ≡ take l.value-index l.value-items

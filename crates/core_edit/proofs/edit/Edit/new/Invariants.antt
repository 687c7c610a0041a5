use Rattle.std.proofs.Common.{◌≡◌, take, drop, suc}
use Rattle.core_edit.specs.Edits.{wrong, wrong_from}
use Rattle.core_edit.proofs.edit.Edit.new.Given as goal

-- no item so far is faulty
abbrev pub invariant-loop-i : goal.invariant-loop-i
invariant-loop-i l = wrong_from (suc l.i) (take l.i l.items.items) (drop l.i l.items.items) ≡ wrong l.items.items

use Rattle.std.proofs.Common.{◌≡◌, drop}
use Rattle.core_edit.specs.Names.{found_name}
use Rattle.core_edit.proofs.name.named_in.Given as goal

-- the rows from here on decide
abbrev pub invariant-loop-row : goal.invariant-loop-row
invariant-loop-row l = found_name l.text (drop l.row-index l.rows) ≡ found_name l.text l.rows

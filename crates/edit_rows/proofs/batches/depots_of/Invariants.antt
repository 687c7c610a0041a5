use Rattle.edit_rows.proofs.Depots.{AllOne}
use Rattle.edit_rows.proofs.batches.depots_of.Given as goal

-- each so far has one image
abbrev pub invariant-loop-file : goal.invariant-loop-file
invariant-loop-file l = AllOne l.depots.items

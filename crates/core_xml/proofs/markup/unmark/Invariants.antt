use Rattle.std.proofs.Common.{◌≡◌, drop}
use Rattle.core_xml.specs.Markup.{joined, unmarked, unmarked_from}
use Rattle.core_xml.proofs.markup.unmark.Given as goal

-- the text so far, and that of the letters that are left
abbrev pub invariant-loop-at : goal.invariant-loop-at
invariant-loop-at l = joined l.text.items (unmarked_from l.more (drop l.at l.marked)) ≡ unmarked l.marked

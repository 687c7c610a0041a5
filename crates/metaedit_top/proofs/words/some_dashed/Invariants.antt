use Rattle.std.proofs.Common.{◌≡◌, drop}
use Rattle.std.specs.List.{list_any}
use Rattle.metaedit_top.specs.Words.{is_dashed}
use Rattle.metaedit_top.proofs.words.some_dashed.Given as goal

-- the words from here on decide
abbrev pub invariant-loop-word : goal.invariant-loop-word
invariant-loop-word l = list_any is_dashed (drop l.word-index l.words) ≡ list_any is_dashed l.words

use Rattle.std.proofs.Common.{◌≡◌, drop}
use Rattle.std.specs.List.{list_all}
use Rattle.metaedit_top.specs.Words.{is_file}
use Rattle.metaedit_top.proofs.batch_words.all_files.Given as goal

-- the words from here on decide
abbrev pub invariant-loop-word : goal.invariant-loop-word
invariant-loop-word l = list_all is_file (drop l.word-index l.words) ≡ list_all is_file l.words

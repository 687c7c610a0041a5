use Rattle.std.proofs.Common.{◌≡◌, drop}
use Rattle.std.specs.List.{list_any}
use Rattle.std.specs.Str.{bytes_eq}
use Rattle.metaedit_top.proofs.batch_words.has_word.Given as goal

-- the words from here on decide
abbrev pub invariant-loop-word : goal.invariant-loop-word
invariant-loop-word l = list_any (λ word. bytes_eq word l.file) (drop l.word-index l.words) ≡ list_any (λ word. bytes_eq word l.file) l.words

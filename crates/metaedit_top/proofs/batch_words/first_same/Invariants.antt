use Rattle.std.proofs.Common.{◌≡◌, ◌+◌, [], drop, take}
use Rattle.metaedit_top.specs.BatchWords.{same_from}
use Rattle.metaedit_top.proofs.batch_words.first_same.Given as goal

-- the files from here on decide, behind those before
abbrev pub invariant-loop-k : goal.invariant-loop-k
invariant-loop-k l = same_from (l.k + 1) (take l.k l.files) (drop l.k l.files) ≡ same_from 1 [] l.files

use Rattle.std.proofs.Common.{arith, sym, take, drop}
use Rattle.std.proofs.lemmas.List.{length-take, length-drop}
use Rattle.part_tree.proofs.Words.{differs}
use Rattle.part_tree.proofs.kind.has_word.Goals as goal
use Rattle.part_tree.proofs.kind.has_word.Goals.{then-at-first-via-then-at-first, then-at-first-via-else-at-first+then-first-at-lt4}

pub returns-then-at-first : goal.returns-then-at-first
returns-then-at-first c = sym (differs (take 4 (drop c.args.at c.args.first.now)) c.args.word.now (
    elim c.then-at-first.branch [
      | then-at-first-via-then-at-first w ↦ omega (arith, length-take 4 (drop c.args.at c.args.first.now), length-drop c.args.at c.args.first.now)
      | then-at-first-via-else-at-first+then-first-at-lt4 w ↦ omega (arith, length-take 4 (drop c.args.at c.args.first.now), length-drop c.args.at c.args.first.now)
    ]))

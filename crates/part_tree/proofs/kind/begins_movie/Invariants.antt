use Rattle.std.proofs.Common.{◌≡◌, ◌<◌, ℕ, List, false, get_or, take, drop}
use Rattle.std.specs.Str.{bytes_eq}
use Rattle.part_tree.proofs.kind.begins_movie.Given as goal

-- none of the words so far stands there
abbrev pub invariant-loop-word : goal.invariant-loop-word
invariant-loop-word l = (j : ℕ) (d : List ℕ) → j < l.word-index → bytes_eq (take 4 (drop 4 l.first)) (get_or l.word-items j d) ≡ false

use Rattle.std.proofs.Common.{◌≡◌, map, take, string_bytes}
use Rattle.metaedit_top.proofs.started.words_of.Given as goal

abbrev pub invariant-words : goal.invariant-words
invariant-words l = l.words.items ≡ map string_bytes (take l.arg-index l.args)

use Rattle.std.proofs.Common.{◌≡◌, ◌++◌, replicate}
use Rattle.me_generate.proofs.put.put_zeros.Given as goal

-- so many zeros so far
abbrev pub invariant-loop : goal.invariant-loop
invariant-loop l = l.out.items ≡ l.fn.out.items ++ replicate l.counter 0

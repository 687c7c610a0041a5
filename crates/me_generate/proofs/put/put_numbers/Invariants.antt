use Rattle.std.proofs.Common.{◌≡◌, ◌++◌, drop}
use Rattle.me_generate.specs.Bytes.{numbers}
use Rattle.me_generate.proofs.put.put_numbers.Given as goal

-- what is written, and the numbers that are left
abbrev pub invariant-loop-n : goal.invariant-loop-n
invariant-loop-n l = l.out.items ++ numbers (drop l.n-index l.numbers) ≡ l.fn.out.items ++ numbers l.numbers

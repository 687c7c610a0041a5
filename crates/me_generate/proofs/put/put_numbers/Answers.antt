use Rattle.std.proofs.Common.{arith}
use Rattle.me_generate.proofs.Zeros.{number_more, numbers_end}
use Rattle.me_generate.proofs.put.put_numbers.Goals as goal

pub loop-n-preserved : goal.loop-n-preserved
loop-n-preserved c = number_more c.args.numbers.now c.loop-n.n-index _ _ _ c.loop-n-test.true c.in_ok-put_be32.ensures.ok c.loop-n.invariant

pub returns : goal.returns
returns c = numbers_end c.args.numbers.now c.loop-n.n-index _ _ (omega arith) c.loop-n.invariant

use Rattle.std.proofs.Common.{arith}
use Rattle.avi_file.proofs.Placed.{placed_if}
use Rattle.avi_file.proofs.list.put_rest.Goals as goal

pub returns-in-Ok-clause-placed : goal.returns-in-Ok-clause-placed
returns-in-Ok-clause-placed c end last h =
    rw c.in-Ok.ensures.items (placed_if c.args.at c.args.end end c.args.reading.now.parts.items _ h (omega arith) (omega arith, omega arith, omega arith) (λ e. absurd cc))

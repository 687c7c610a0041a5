use Rattle.std.proofs.Common.{arith}
use Rattle.avi_file.proofs.Placed.{placed_if}
use Rattle.avi_file.proofs.list.put_part.Goals as goal

pub returns-in-Ok-clause-placed : goal.returns-in-Ok-clause-placed
returns-in-Ok-clause-placed c end last h =
    let k = c.args.chunk.now in
    let o = c.requires.order in
    rw c.in-Ok.ensures.items (placed_if k.at k.next end c.args.reading.now.parts.items _ h (omega arith) (omega arith, omega arith, last) (λ e. (omega arith, omega arith)))

pub returns-in-Ok-clause-inside : goal.returns-in-Ok-clause-inside
returns-in-Ok-clause-inside c other end last h =
    let k = c.args.chunk.now in
    let o = c.requires.order in
    rw c.in-Ok.ensures.items (placed_if k.at k.at end c.args.reading.now.parts.items _ h (omega arith) (omega arith, omega arith, last) (λ e. absurd cc))

use Rattle.edit_planner.proofs.Stands.{odd_pad, even_pad}
use Rattle.edit_planner.proofs.load.lacks_pad.Goals as goal

pub returns-then-part-eq1 : goal.returns-then-part-eq1
returns-then-part-eq1 c = record { pad = λ b role at d e s. odd_pad b at d c.args.part.now role e s c.if-part-eq1.true }

pub returns-else-part-eq1 : goal.returns-else-part-eq1
returns-else-part-eq1 c = record { pad = λ b role at d e s. even_pad b at d c.args.part.now role e s c.if-part-eq1.false }

use Rattle.std.proofs.Common.{arith}
use Rattle.part_tree.proofs.Moved.{last_tells}
use Rattle.part_tree.proofs.moves.Moves.place.Goals as goal

pub returns-clause-place : goal.returns-clause-place
returns-clause-place c = last_tells c.args.self.now c.before-before.result c.args.at c.place_by.result (omega (arith, c.if-before-eq0.false)) c.before-before.ensures.last c.place_by.ensures.there

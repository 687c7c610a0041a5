use Rattle.std.proofs.Common.{arith}
use Rattle.avi_plan.proofs.Ranges.{all_to}
use Rattle.avi_plan.proofs.moves.Ranges.jump.Goals as goal

pub returns-clause-sound : goal.returns-clause-sound
returns-clause-sound c = λ old.
    all_to 0 c.in-Some-checked_add-3.end c.args.self.now.held.items c.push.new.self.items (record { at = c.args.self.now.at; len = c.in-Some.len }, c.args.self.now.to) c.in-Ok.ensures.items old
    (omega (arith, c.in-Some.ensures, c.if-span-gt-MOST_PLACE.false)) (omega (arith, c.in-Some-checked_add.ensures, c.if-stop-gt-MOST_PLACE.false)) (omega (arith, c.in-Some.ensures, c.in-Some-checked_add-3.ensures))

use Rattle.std.proofs.Common.{arith}
use Rattle.mov_plan.proofs.plan.rewrite.Goals as goal

pub returns-clause-belongs : goal.returns-clause-belongs
returns-clause-belongs c = λ b is named.
    record {
      can = record { total = c.in_ok-segments.ensures.total; fits = c.requires.new_small; based = c.in_ok-segments.ensures.based };
      file = (c.in_ok-segments.ensures.inside b (omega (arith, is)), omega (arith, is, c.requires.old_small), c.in_ok-segments.ensures.named c.args.moves b named);
    }

use Rattle.std.proofs.Common.{arith, refl}
use Rattle.unit_plan.proofs.Spans.{lost_low}
use Rattle.unit_plan.proofs.length.new_len.Goals as goal

pub cuts-init : goal.cuts-init
cuts-init c = record { within = omega (arith, lost_low 0 c.args.len c.args.cuts.now c.requires); kept = refl; gained = omega arith }

use Rattle.std.proofs.Common.{arith}
use Rattle.fadgi_rules.proofs.Ends.{last_is}
use Rattle.fadgi_rules.proofs.present.ends_with_zero.Goals as goal

pub returns-then-raw-gt0 : goal.returns-then-raw-gt0
returns-then-raw-gt0 c = last_is c.args.raw.now (omega (arith, c.if-raw-gt0.true))

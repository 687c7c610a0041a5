use Rattle.std.proofs.Common.{sym, subst}
use Rattle.turn_batch.specs.Members.{AllLow}
use Rattle.turn_batch.proofs.Lows.{fresh_low}
use Rattle.turn_batch.proofs.batch.Batch.new.Goals as goal

pub invariant_of-result : goal.invariant_of-result
invariant_of-result c = subst AllLow (sym c.in_ok-members_of.ensures) (fresh_low c.args.swaps.items c.requires)

use Rattle.std.proofs.Common.{◌≡◌, map}
use Rattle.turn_batch.specs.Members.{fresh_member}
use Rattle.turn_batch.proofs.batch.members_of.Given as goal

abbrev pub invariant-loop-swap : goal.invariant-loop-swap
invariant-loop-swap l = l.members.items ≡ map fresh_member l.yielded

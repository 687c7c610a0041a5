use Rattle.std.proofs.Common.{◌≡◌, drop}
use Rattle.container_model.specs.Tests.{first}
use Rattle.mov_file.proofs.refusals.first_of.Given as goal

abbrev pub invariant-loop-holds : goal.invariant-loop-holds
invariant-loop-holds l = first (drop l.holds-index l.tests) ≡ first l.tests

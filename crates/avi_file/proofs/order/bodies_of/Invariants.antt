use Rattle.std.proofs.Common.{◌≡◌, ◌++◌, drop}
use Rattle.avi_file.specs.Order.{bodies_in}
use Rattle.avi_file.proofs.order.bodies_of.Given as goal

abbrev pub invariant-chunks : goal.invariant-chunks
invariant-chunks l = l.bodies.items ++ bodies_in (drop l.chunk-index l.chunks) ≡ bodies_in l.chunks

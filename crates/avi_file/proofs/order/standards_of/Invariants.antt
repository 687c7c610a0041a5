use Rattle.std.proofs.Common.{◌≡◌, ◌++◌, drop}
use Rattle.avi_file.specs.Order.{standards_in}
use Rattle.avi_file.proofs.order.standards_of.Given as goal

abbrev pub invariant-chunks : goal.invariant-chunks
invariant-chunks l = l.bodies.items ++ standards_in (drop l.chunk-index l.chunks) ≡ standards_in l.chunks

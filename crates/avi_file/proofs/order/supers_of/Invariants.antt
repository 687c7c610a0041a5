use Rattle.std.proofs.Common.{◌≡◌, ◌++◌, drop}
use Rattle.avi_file.specs.Order.{supers_in}
use Rattle.avi_file.proofs.order.supers_of.Given as goal

abbrev pub invariant-chunks : goal.invariant-chunks
invariant-chunks l = l.bodies.items ++ supers_in (drop l.chunk-index l.chunks) ≡ supers_in l.chunks

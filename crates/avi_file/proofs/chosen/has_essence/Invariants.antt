use Rattle.std.proofs.Common.{◌≡◌, drop}
use Rattle.avi_file.specs.Walk.{essence_of}
use Rattle.avi_file.proofs.chosen.has_essence.Given as goal

abbrev pub invariant-parts : goal.invariant-parts
invariant-parts l = essence_of (drop l.part-index l.parts) ≡ essence_of l.parts

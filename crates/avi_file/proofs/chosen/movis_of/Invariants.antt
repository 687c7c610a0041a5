use Rattle.std.proofs.Common.{◌≡◌, ◌++◌, drop}
use Rattle.avi_file.specs.Walk.{essence_of}
use Rattle.avi_file.proofs.chosen.movis_of.Given as goal

-- what was taken, and the parts that are left
abbrev pub invariant-parts : goal.invariant-parts
invariant-parts l = l.movis.items ++ essence_of (drop l.part-index l.parts) ≡ essence_of l.parts

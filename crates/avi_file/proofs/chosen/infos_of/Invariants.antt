use Rattle.std.proofs.Common.{◌≡◌, ◌++◌, drop}
use Rattle.avi_file.specs.Fields.{infos_of}
use Rattle.avi_file.proofs.chosen.infos_of.Given as goal

-- what was taken, and the parts that are left
abbrev pub invariant-parts : goal.invariant-parts
invariant-parts l = l.infos.items ++ infos_of (drop l.part-index l.parts) ≡ infos_of l.parts

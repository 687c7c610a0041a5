use Rattle.std.proofs.Common.{◌≡◌, drop, map}
use Rattle.container_model.specs.Atoms.{is_listed}
use Rattle.mov_file.proofs.reading.was_met.Given as goal

-- the name is among those that are left exactly where it is among all
abbrev pub invariant-loop-met : goal.invariant-loop-met
invariant-loop-met l = is_listed l.name.0 (map (λ n. n.0) (drop l.met-index l.names)) ≡ is_listed l.name.0 (map (λ n. n.0) l.names)

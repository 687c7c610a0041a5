use Rattle.std.proofs.Common.{ℕ, List, drop}
use Rattle.me_disk.specs.Steps.{ReadsOnly}
use Rattle.me_disk.specs.Holds.{Holds}
use Rattle.container_model.specs.Chunk.{Chunk}
use Rattle.mov_plan.specs.Atoms.{AreRow}
use Rattle.mov_plan.specs.Nested.{StandIn}
use Rattle.mov_plan.proofs.Nesting.{KidsLeft}
use Rattle.mov_plan.proofs.nested.nested_of.Given as goal

-- what is told of the atoms so far, and the atoms that are left
abbrev pub invariant-atoms : goal.invariant-atoms
invariant-atoms g l = record {
  stand : StandIn (g.D.Depot.disk l.fn.depot) (drop l.atom-index l.atoms);
  reads : ReadsOnly (g.D.Depot.disk l.fn.depot) (g.D.Depot.disk l.depot);
  left : (b : List ℕ) (at : ℕ) (all : List Chunk) → Holds (g.D.Depot.disk l.fn.depot) b → AreRow b at l.atoms all
      → KidsLeft b at all (drop l.atom-index l.atoms) l.has_user l.counts.items l.holders.items;
}

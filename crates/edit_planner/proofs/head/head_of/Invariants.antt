use Rattle.std.proofs.Common.{◌≡◌, ◌≤◌, List, ℕ, drop, length}
use Rattle.std.specs.List.{AllByRecursion}
use Rattle.me_disk.specs.Holds.{Holds}
use Rattle.me_disk.specs.Steps.{ReadsOnly}
use Rattle.part_tree.specs.declared.part.Role.{Role}
use Rattle.container_model.specs.Chunk.{Chunk}
use Rattle.edit_planner.specs.Stand.{StandFrom, parts_from}
use Rattle.edit_planner.specs.Tops.{IsRiff}
use Rattle.edit_planner.proofs.AviLoops.{AscendLeft, HeadLeft}
use Rattle.edit_planner.proofs.head.head_of.Given as goal

-- the chunks that are left, of which none so far is the list
abbrev pub invariant-parts : goal.invariant-parts
invariant-parts g l = record {
  count : l.number ≡ l.part-index;
  ascend : AscendLeft l.from l.end (drop l.part-index l.parts);
  left : (b : List ℕ) → Holds (g.D.Depot.disk l.fn.depot) b → (role : ℕ → Chunk → Role) (cs : List Chunk) → l.parts ≡ parts_from role l.from cs → StandFrom b l.from cs → AllByRecursion IsRiff cs → HeadLeft role b l.from cs l.part-index (drop l.part-index l.parts);
  reads : ReadsOnly (g.D.Depot.disk l.fn.depot) (g.D.Depot.disk l.depot);
}

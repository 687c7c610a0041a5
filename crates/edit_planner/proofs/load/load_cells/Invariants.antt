use Rattle.std.proofs.Common.{◌≡◌, ◌≤◌, List, ℕ, drop}
use Rattle.me_disk.specs.Steps.{ReadsOnly}
use Rattle.me_disk.specs.Holds.{Holds}
use Rattle.container_model.specs.Chunk.{Chunk}
use Rattle.part_tree.specs.declared.part.Role.{Role}
use Rattle.wave_file.specs.Map.{Ascend}
use Rattle.edit_planner.specs.Cells.{AreReadable, Follow}
use Rattle.edit_planner.specs.Stand.{StandFrom, parts_from}
use Rattle.edit_planner.proofs.Loads.{LoadLeft}
use Rattle.edit_planner.proofs.load.load_cells.Given as goal

-- the cells so far, and the parts that are left
abbrev pub invariant-parts : goal.invariant-parts
invariant-parts g l = record {
  ascend : Ascend l.at (drop l.part-index l.parts) l.form_end;
  follow : Follow l.from l.cells.items l.at;
  begins : l.from ≤ l.at;
  readable : AreReadable l.cells.items;
  cells : (b : List ℕ) → Holds (g.D.Depot.disk l.fn.depot) b → (role : ℕ → Chunk → Role) (cs : List Chunk) → l.parts ≡ parts_from role l.from cs → StandFrom b l.from cs → LoadLeft role b l.from cs l.at l.part-index l.parts l.cells.items;
  reads : ReadsOnly (g.D.Depot.disk l.fn.depot) (g.D.Depot.disk l.depot);
}

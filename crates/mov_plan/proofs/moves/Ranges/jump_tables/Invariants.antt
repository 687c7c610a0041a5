use Rattle.std.proofs.Common.{true, ◌≡◌, ◌≤◌, ◌+◌, ◌-◌, ◌++◌, ℕ, List, length, map, drop}
use Rattle.std.specs.List.{AllByRecursion}
use Rattle.part_tree.specs.Moves.{Move}
use Rattle.carrier_model.specs.Gaps.{between}
use Rattle.container_model.specs.Splice.{Cut}
use Rattle.mov_plan.specs.Moved.{AreRanges}
use Rattle.mov_plan.specs.Tables.{LiesIn, table_in, tables_up_to}
use Rattle.mov_plan.proofs.moves.Ranges.jump_tables.Given as goal

-- the ranges before the tables so far, and those that are left up to the place
abbrev pub invariant-tables : goal.invariant-tables
invariant-tables l = record {
  inside : l.next ≤ length l.tables;
  next : l.next + length (tables_up_to l.place (drop l.next l.tables)) ≡ l.from + length (tables_up_to l.place (drop l.from l.tables));
  held : (ms : List Move) (b : List ℕ) (rest : List Cut) (end : ℕ) → AllByRecursion (LiesIn b) l.tables
      → l.self.held.items ++ between l.self.at l.self.to (map (table_in true ms b) (tables_up_to l.place (drop l.next l.tables)) ++ rest) end
      ≡ l.fn.self.held.items ++ between l.fn.self.at l.fn.self.to (map (table_in true ms b) (tables_up_to l.place (drop l.from l.tables)) ++ rest) end;
  sound : AreRanges l.fn.self → AreRanges l.self;
}

abbrev pub decreases-tables : goal.decreases-tables
decreases-tables l = length l.tables - l.next

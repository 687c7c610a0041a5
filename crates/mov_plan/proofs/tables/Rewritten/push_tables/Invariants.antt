use Rattle.std.proofs.Common.{◌≡◌, ◌≤◌, ◌+◌, ◌-◌, ◌++◌, ℕ, List, length, map, drop}
use Rattle.std.specs.List.{AllByRecursion}
use Rattle.part_tree.specs.Moves.{Move}
use Rattle.part_tree.specs.Plans.{AllNamed}
use Rattle.container_model.specs.Splice.{Cut, splice_from}
use Rattle.mov_plan.specs.Made.{IsMade, IsNamed, made_of}
use Rattle.mov_plan.specs.Tables.{table_in, tables_up_to}
use Rattle.mov_plan.proofs.tables.Rewritten.push_tables.Given as goal

-- the tables so far, and those that are left up to the place
abbrev pub invariant-tables : goal.invariant-tables
invariant-tables l = record {
  inside : l.next ≤ length l.tables;
  order : l.fn.self.at ≤ l.self.at;
  next : l.next + length (tables_up_to l.place (drop l.next l.tables)) ≡ l.from + length (tables_up_to l.place (drop l.from l.tables));
  bytes : (ms : List Move) (b : List ℕ) (rest : List Cut) → made_of ms b l.self ++ splice_from l.self.at (drop l.self.at b) (map (table_in l.widened ms b) (tables_up_to l.place (drop l.next l.tables)) ++ rest)
      ≡ made_of ms b l.fn.self ++ splice_from l.fn.self.at (drop l.fn.self.at b) (map (table_in l.widened ms b) (tables_up_to l.place (drop l.from l.tables)) ++ rest);
  sound : (b : List ℕ) → l.self.at ≤ length b → IsMade b l.fn.self → IsMade b l.self;
  named : (ms : List Move) (b : List ℕ) → AllByRecursion (IsNamed l.widened ms b) l.tables → AllNamed ms b l.fn.self.segments.items → AllNamed ms b l.self.segments.items;
}

abbrev pub decreases-tables : goal.decreases-tables
decreases-tables l = length l.tables - l.next

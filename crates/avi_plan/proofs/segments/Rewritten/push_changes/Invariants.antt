use Rattle.std.proofs.Common.{◌≡◌, ◌≤◌, ◌+◌, ◌-◌, ◌++◌, ℕ, List, length, map, drop}
use Rattle.std.specs.List.{AllByRecursion}
use Rattle.part_tree.specs.Moves.{Move}
use Rattle.part_tree.specs.Plans.{AllNamed}
use Rattle.container_model.specs.Splice.{Cut, splice_from}
use Rattle.avi_plan.specs.Changes.{IsNamed, IsSound, change_cut, changes_up_to}
use Rattle.avi_plan.specs.Made.{IsMade, made_of}
use Rattle.avi_plan.proofs.segments.Rewritten.push_changes.Given as goal

-- the changes so far, and those that are left up to the place
abbrev pub invariant-changes : goal.invariant-changes
invariant-changes l = record {
  inside : l.next ≤ length l.changes;
  order : l.fn.self.at ≤ l.self.at;
  next : l.next + length (changes_up_to l.place (drop l.next l.changes)) ≡ l.from + length (changes_up_to l.place (drop l.from l.changes));
  bytes : (ms : List Move) (b : List ℕ) (rest : List Cut) → made_of ms b l.self ++ splice_from l.self.at (drop l.self.at b) (map (change_cut ms b) (changes_up_to l.place (drop l.next l.changes)) ++ rest)
      ≡ made_of ms b l.fn.self ++ splice_from l.fn.self.at (drop l.fn.self.at b) (map (change_cut ms b) (changes_up_to l.place (drop l.from l.changes)) ++ rest);
  sound : (b : List ℕ) → AllByRecursion (IsSound (length b)) l.changes → IsMade b l.fn.self → IsMade b l.self;
  named : (ms : List Move) (b : List ℕ) → AllByRecursion (IsNamed ms b) l.changes → AllNamed ms b l.fn.self.segments.items → AllNamed ms b l.self.segments.items;
}

abbrev pub decreases-changes : goal.decreases-changes
decreases-changes l = length l.changes - l.next

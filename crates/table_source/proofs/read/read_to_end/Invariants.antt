use Rattle.std.proofs.Common.{◌≡◌, ◌+◌, ◌-◌, ◌≤◌, ◌++◌, ℕ, List, length, Some}
use Rattle.core_table.specs.declared.fault.TheConstants.{MOST_BYTES}
use Rattle.table_source.proofs.read.read_to_end.Given as goal

-- what is read and what is left are what was left
abbrev pub invariant-reads : goal.invariant-reads
invariant-reads g l = record {
  counts : g.S.Source.faults l.fn.source ≤ g.S.Source.faults l.source;
  told : (all : List ℕ) → g.S.Source.left l.fn.source ≡ Some all → (rest : List ℕ) × (g.S.Source.left l.source ≡ Some rest) × (l.bytes.items ++ rest ≡ all);
}

abbrev pub decreases-reads : goal.decreases-reads
decreases-reads g l = (MOST_BYTES + 1) - length l.bytes.items

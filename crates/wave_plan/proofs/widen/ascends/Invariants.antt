use Rattle.std.proofs.Common.{drop}
use Rattle.unit_plan.specs.Cuts.{SpansAscend}
use Rattle.wave_plan.proofs.widen.ascends.Given as goal

-- all ascend exactly where those that are left do
abbrev pub invariant-cuts : goal.invariant-cuts
invariant-cuts l = record {
  all : SpansAscend l.at (drop l.cut-index l.cuts) l.len → SpansAscend 0 l.cuts l.len;
  left : SpansAscend 0 l.cuts l.len → SpansAscend l.at (drop l.cut-index l.cuts) l.len;
}

use Rattle.std.proofs.Common.{◌≡◌, ◌++◌, ℕ, List, drop}
use Rattle.std.specs.List.{AllByRecursion}
use Rattle.me_disk.specs.Holds.{Holds}
use Rattle.me_disk.specs.Steps.{ReadsOnly}
use Rattle.wave_parts.specs.Opened.{PartEnds, end_after, opened_parts}
use Rattle.wave_parts.proofs.parts.put_parts.Given as goal

-- the parts so far, and those that are left
abbrev pub invariant-parts : goal.invariant-parts
invariant-parts g l = record {
  reads : ReadsOnly (g.D.Depot.disk l.fn.depot) (g.D.Depot.disk l.depot);
  place : end_after l.at (drop l.part-index l.more) ≡ end_after 12 l.more;
  told : (b : List ℕ) → Holds (g.D.Depot.disk l.fn.depot) b → AllByRecursion (PartEnds b) l.more
      → l.parts.items ++ opened_parts b (drop l.part-index l.more) ≡ l.fn.parts.items ++ opened_parts b l.more;
}

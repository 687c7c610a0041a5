use Rattle.std.proofs.Common.{◌+◌, ◌<◌, Option, Some, None, arith}
use Rattle.std.specs.Prelude.{◌^◌, IfSome}
use Rattle.std.proofs.lemmas.Bool.{false≢true}
use Rattle.me_disk.specs.Sparse.{sparse_disk}
use Rattle.me_disk.specs.declared.sparse.SparseDepot.{SparseDepot}
use Rattle.part_tree.specs.declared.names.Span.{Span}
use Rattle.track_samples.specs.Places.{Lies}
use Rattle.track_samples.proofs.tests.counts_of.Goals as goal

-- a depot that tells nothing of its file holds any range
lies : (d : SparseDepot) (s : Span) → s.at + s.len < 2 ^ 63 → Lies (sparse_disk d) s
lies d s small = record { inside = λ b h. absurd (false≢true h.tells); small = small }

may_lie : (d : SparseDepot) (o : Option Span) → IfSome o (λ s. s.at + s.len < 2 ^ 63) → IfSome o (Lies (sparse_disk d))
may_lie d None h = tt
may_lie d (Some s) h = lies d s h

pub count_track-requires-clause-tables : goal.count_track-requires-clause-tables
count_track-requires-clause-tables c =
    let d = c.in_ok-depot.depot in
    record {
      chunks = lies d (record { at = 72; len = 20 }) (omega arith);
      runs = may_lie d c.table.result c.table.ensures;
      sizes = may_lie d c.table-2.result c.table-2.ensures;
    }

use Rattle.std.proofs.Common.{refl}
use Rattle.std.specs.Prelude.{not, ◌==◌}
use Rattle.avi_index.proofs.Judged.{at_row, counts_movi}
use Rattle.avi_index.proofs.check.counts_from_movi.Goals as goal

pub returns : goal.returns
returns c row is =
    counts_movi c.args.movi c.args.indexes.now row c.from.result c.from-len.result (not (c.from-len.result == 0)) c.lies_in-inside.result c.names-named.result (at_row row c.args.entry.now c.from.result c.from-len.result is c.from.ensures c.from-len.ensures)
    refl c.lies_in-inside.ensures c.names-named.ensures

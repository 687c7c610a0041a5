use Rattle.std.proofs.Common.{◌≡◌, ◌<◌, ◌^◌, List, drop, map}
use Rattle.container_model.specs.Tables.{Table}
use Rattle.avi_file.specs.Indexes.{kept_of}
use Rattle.avi_file.proofs.Placing.{ApartLeft, AscendLeft}
use Rattle.avi_file.proofs.order.check_apart.Given as goal

-- the chunks that are left, and the place where those before them end
abbrev pub invariant-chunks : goal.invariant-chunks
invariant-chunks l = record {
  small : l.from < 2 ^ 63;
  apart : (ts : List Table) → l.chunks ≡ map kept_of ts → ApartLeft l.from (drop l.chunk-index l.chunks) ts;
  ascend : AscendLeft l.from (drop l.chunk-index l.chunks) l.chunks;
}

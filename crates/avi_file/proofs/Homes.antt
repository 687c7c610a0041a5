-- A table is told by its range.
use Rattle.std.proofs.Common.{◌≡◌, ℕ, ◌+◌, List, sym, ap}
use Rattle.container_model.specs.Stood.{Stood}
use Rattle.container_model.specs.Tables.{Table, table_of}
use Rattle.avi_model.specs.Avi.{body_span}
use Rattle.avi_model.proofs.Homes.{AtHome}
use Rattle.avi_file.specs.Indexes.{table_at}

pub table_here : (b : List ℕ) (x : Stood) → AtHome b x → table_at b (body_span x) ≡ table_of x
table_here b x h = ap (λ (y : List ℕ). let t : Table = record { at = x.at + 8; body = y } in t) (sym h.body)

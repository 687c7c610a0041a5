use Rattle.std.proofs.Common.{◌≡◌, ◌<◌, ℕ, get_or, take, vec_len}
use Rattle.std.specs.Prelude.{sum_by}
use Rattle.mov_plan.specs.Holders.{grown_by}
use Rattle.mov_plan.proofs.holders.growths.Given as goal

-- what the first so many tables grow by, up to the next one
abbrev pub invariant-tables : goal.invariant-tables
invariant-tables l = record {
  sum : l.sum ≡ sum_by grown_by (take l.table-index l.tables);
  len : vec_len l.sums ≡ l.table-index;
  sums : (k : ℕ) → k < l.table-index → get_or l.sums.items k 0 ≡ sum_by grown_by (take k l.tables);
}

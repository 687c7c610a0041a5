use Rattle.std.proofs.Common.{◌≡◌, ◌++◌}
use Rattle.me_generate.specs.Rows.{rows}
use Rattle.me_generate.proofs.rows.put_rows.Given as goal

-- the rows so far
abbrev pub invariant-loop-k : goal.invariant-loop-k
invariant-loop-k l = rows l.row l.first ++ l.out.items ≡ rows l.row l.k

use Rattle.std.proofs.Common.{arith, ◌∙◌}
use Rattle.mov_file.proofs.Heads.{rows_known}
use Rattle.mov_file.proofs.tables.lacks_rows.Goals as goal

pub returns-clause-short : goal.returns-clause-short
returns-clause-short g c = λ b holds.
    rows_known b c.args.body.at c.args.body.len c.args.len c.from-count.result (c.requires.inside b holds) (omega arith) (c.from-count.ensures ∙ c.in_ok-read_number.ensures.number b holds)

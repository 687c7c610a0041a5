use Rattle.std.proofs.Common.{arith, ◌∙◌}
use Rattle.me_disk.proofs.Holds.{holds_on}
use Rattle.mov_file.proofs.Heads.{common_known, sizes_known}
use Rattle.mov_file.proofs.tables.lacks_sizes.Goals as goal

pub returns-then-common-ne0-clause-short : goal.returns-then-common-ne0-clause-short
returns-then-common-ne0-clause-short g c = λ b holds.
    common_known b c.args.body.at c.args.body.len c.in_ok-common.common (c.requires.inside b holds) (omega arith) (c.in_ok-common.ensures.number b holds) c.if-common-ne0.true

pub returns-clause-short : goal.returns-clause-short
returns-clause-short g c = λ b holds.
    let held = holds_on _ _ b c.read_number.ensures.reads holds in
    sizes_known b c.args.body.at c.args.body.len c.in_ok-common.common c.from-count.result (c.requires.inside b holds) (omega arith) (c.in_ok-common.ensures.number b holds) c.if-common-ne0.false
    (c.from-count.ensures ∙ c.in_ok-read_number.ensures.number b held)

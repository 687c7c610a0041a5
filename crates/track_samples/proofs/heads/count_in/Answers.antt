use Rattle.std.proofs.Common.{◌*◌, ap, arith, ℕ}
use Rattle.track_samples.proofs.HeadsRead.{long_enough, too_short}
use Rattle.track_samples.proofs.heads.count_in.Goals as goal

pub returns-then-body-len-clause-count : goal.returns-then-body-len-clause-count
returns-then-body-len-clause-count g c = λ b holds.
    let same = ap (λ (k : ℕ). c.args.len * k) c.from.ensures in
    too_short b c.args.body.at c.args.body.len c.args.len c.in_ok-count.count (c.requires.lies.inside b holds) (omega arith) (c.in_ok-count.ensures.number b holds) (omega arith)

pub returns-clause-count : goal.returns-clause-count
returns-clause-count g c = λ b holds.
    let same = ap (λ (k : ℕ). c.args.len * k) c.from.ensures in
    long_enough b c.args.body.at c.args.body.len c.args.len c.in_ok-count.count (c.requires.lies.inside b holds) (omega arith) (c.in_ok-count.ensures.number b holds) (omega arith)

use Rattle.std.proofs.Common.{◌≡◌, ◌+◌, ◌*◌, ◌≤◌, arith, refl}
use Rattle.me_disk.proofs.Holds.{holds_on}
use Rattle.track_samples.proofs.HeadsRead.{sizes_cut, sizes_there}
use Rattle.track_samples.proofs.sizes.sizes_in.Goals as goal
use Rattle.track_samples.proofs.sizes.sizes_in.Goals.{else-common-eq0-via-then-common-eq0+else-body-from, else-common-eq0-via-else-common-eq0}

pub returns-then-body-from-clause-sizes : goal.returns-then-body-from-clause-sizes
returns-then-body-from-clause-sizes g c = λ b holds.
    let held = holds_on _ _ b c.in_ok-common.ensures.reads holds in
    sizes_cut b c.args.body c.in_ok-common.common c.in_ok-count.count (c.requires.lies.inside b holds) (omega arith) (c.in_ok-common.ensures.number b holds) (c.in_ok-count.ensures.number b held)
    c.no_sizes-then-body-from.result (omega arith) (omega arith) c.no_sizes-then-body-from.ensures.common c.no_sizes-then-body-from.ensures.count

pub returns-clause-sizes : goal.returns-clause-sizes
returns-clause-sizes g c = λ b holds.
    let held = holds_on _ _ b c.in_ok-common.ensures.reads holds in
    let common = c.in_ok-common.common in
    let count = c.in_ok-count.count in
    let end = c.args.body.at + c.args.body.len in
    let fits : common ≡ 0 → 12 + 4 * count ≤ c.args.body.len = elim c.else-common-eq0.branch [
      | else-common-eq0-via-then-common-eq0+else-body-from w ↦ (λ none. omega (arith, w.from.ensures))
      | else-common-eq0-via-else-common-eq0 w ↦ (λ none. omega arith)
    ] in
    sizes_there b c.args.body common count (c.requires.lies.inside b holds) (omega arith) (c.in_ok-common.ensures.number b holds) (c.in_ok-count.ensures.number b held)
    (record { common = common; rows = record { at = c.args.body.at + 12; count = count; end = end } }) fits refl refl refl

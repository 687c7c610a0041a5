use Rattle.std.proofs.Common.{◌≡◌, ◌∙◌, ◌+◌, ◌-◌, ◌*◌, ℕ, drop, sym, ap, arith, subst}
use Rattle.std.specs.Prelude.{IfOk}
use Rattle.container_model.specs.Rows.{be32, numbers}
use Rattle.track_samples.specs.Left.{fitting}
use Rattle.track_samples.proofs.SizesLeft.{fits_each, fits_shared}
use Rattle.track_samples.proofs.sizes.Sizes.fit.Goals as goal

pub returns-then-self-gt0-clause-fit : goal.returns-then-self-gt0-clause-fit
returns-then-self-gt0-clause-fit g c = λ b holds.
    let s = c.args.self.now in
    let t = s.table in
    c.fit_common.ensures.fit ∙ sym (fits_shared t.common c.args.count (t.rows.count - s.next) c.args.room (drop (t.rows.at + 4 * s.next) b) (omega arith) (omega arith))

pub returns-clause-fit : goal.returns-clause-fit
returns-clause-fit g c = λ b holds.
    let s = c.args.self.now in
    let t = s.table in
    let at = ap (λ (i : ℕ). fitting c.args.count (numbers be32 c.args.count (drop (t.rows.at + 4 * i) b)) c.args.room) c.from.ensures in
    subst (λ (m : ℕ). IfOk c.fit_each.result (λ n. n ≡ m))
    (at ∙ sym (fits_each t.common c.args.count (t.rows.count - s.next) c.args.room (drop (t.rows.at + 4 * s.next) b) (omega arith) (omega arith)))
    (c.fit_each.ensures.fit b holds)

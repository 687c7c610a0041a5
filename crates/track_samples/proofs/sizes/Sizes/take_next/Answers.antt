use Rattle.std.proofs.Common.{◌∙◌, ◌+◌, ℕ, ap}
use Rattle.track_samples.specs.Left.{fitting, sizes_left}
use Rattle.track_samples.specs.declared.sizes.SizeTable.{SizeTable}
use Rattle.track_samples.proofs.SizesLeft.{fits_there, left_behind}
use Rattle.track_samples.proofs.sizes.Sizes.take_next.Goals as goal

pub returns-clause-fit : goal.returns-clause-fit
returns-clause-fit g c = λ b holds.
    let s = c.args.self.now in
    c.in_ok-fits.ensures.fit b holds
    ∙ ap (λ (k : ℕ). fitting k (sizes_left b s.table s.next) c.args.room) c.min-count.ensures
    ∙ fits_there b s.table s.next c.args.samples c.args.room

pub returns-clause-left : goal.returns-clause-left
returns-clause-left g c = λ b.
    let s = c.args.self.now in
    let n = c.fit.new.self in
    ap (λ (t : SizeTable). sizes_left b t (n.next + c.min-count.result)) c.in_ok-fits.ensures.table
    ∙ ap (λ (i : ℕ). sizes_left b s.table (i + c.min-count.result)) c.in_ok-fits.ensures.next
    ∙ ap (λ (k : ℕ). sizes_left b s.table (s.next + k)) c.min-count.ensures
    ∙ left_behind b s.table s.next c.args.samples

use Rattle.std.proofs.Common.{arith, ◌≡◌, ◌+◌, ◌∷◌, drop, subst}
use Rattle.unit_plan.specs.Cuts.{SpansAscend}
use Rattle.unit_plan.proofs.Spans.{next_item}
use Rattle.wave_plan.proofs.Placed.{ascend_inside}
use Rattle.wave_plan.proofs.widen.ascends.Goals as goal

pub returns-in_default : goal.returns-in_default
returns-in_default c = (
  (λ h. absurd cc),
  λ h.
      let cuts = c.args.cuts.now in
      let i = c.cuts.cut-index in
      let k = c.cut-item.result in
      let more : drop i cuts ≡ k ∷ drop (i + 1) cuts = next_item cuts i k c.cuts-test.true c.cut-item.is in
      let left : SpansAscend c.cuts.at (k ∷ drop (i + 1) cuts) c.args.len = subst (λ (ks : _). SpansAscend c.cuts.at ks c.args.len) more (c.cuts.invariant.left h) in
      absurd (omega (arith, c.in_default.ensures, ascend_inside (k.span.at + k.span.len) c.args.len (drop (i + 1) cuts) left.2, c.ranges.len.fits)),
)

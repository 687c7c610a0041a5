use Rattle.std.proofs.Common.{◌-◌, ◌∙◌, arith, sym}
use Rattle.std.specs.Ordering.{eq_by_cmp}
use Rattle.qt_keys.proofs.Twins.{apart_more, sorted_differ, tested, twins}
use Rattle.qt_keys.proofs.differ.neighbours_differ.Goals as goal

pub loop-k-init : goal.loop-k-init
loop-k-init g c = record { low = omega arith; apart = λ k d lt. absurd (omega arith) }

pub loop-k-preserved : goal.loop-k-preserved
loop-k-preserved g c =
    record {
      low = omega arith;
      apart = apart_more g.T.Ord.cmp c.args.values.now c.loop-k.k c.loop-k.invariant.low c.loop-k.invariant.apart
          (λ d. tested g.T.Ord.cmp c.args.values.now (c.loop-k.k - 1) c.loop-k.k d c.index-values-k.result c.index-values-k-in-loop-k.result c.cmp.result c.is_eq.result (omega arith) (omega arith) c.index-values-k.is c.index-values-k-in-loop-k.is c.cmp.ensures c.is_eq.ensures ∙ c.if-is_eq.false);
    }

pub returns-then-is_eq : goal.returns-then-is_eq
returns-then-is_eq g c =
    sym (
    twins (eq_by_cmp g.T.Ord.cmp) c.args.values.now (c.loop-k.k - 1) c.loop-k.k c.index-values-k.result (omega (arith, c.loop-k.invariant.low)) (omega arith)
    (tested g.T.Ord.cmp c.args.values.now (c.loop-k.k - 1) c.loop-k.k c.index-values-k.result c.index-values-k.result c.index-values-k-in-loop-k.result c.cmp.result c.is_eq.result (omega arith) (omega arith) c.index-values-k.is c.index-values-k-in-loop-k.is c.cmp.ensures c.is_eq.ensures ∙ c.if-is_eq.true)
    )

pub returns : goal.returns
returns g c =
    sym (sorted_differ g.T.Ord.cmp g.met.T.Ord.total c.args.values.now c.requires (λ k d lt. c.loop-k.invariant.apart k d (omega arith)))

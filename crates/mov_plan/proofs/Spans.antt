-- The spans of units, by their numbers alone.
use Rattle.std.proofs.Common.{◌≡◌, ◌∙◌, ℕ, ◌≤◌, List, sym, ap, subst}
use Rattle.std.specs.List.{AllByRecursion}
use Rattle.unit_plan.specs.declared.cut.CutAt.{CutAt}
use Rattle.unit_plan.specs.Cuts.{SpansAscend, IsExact}
use Rattle.unit_plan.proofs.Spans.{ascend_high}
use Rattle.mov_plan.specs.declared.row.Units.{Units}
use Rattle.mov_plan.specs.Places.{IsSoFar}

-- the same units, further on
pub same_so_far : (from low at : ℕ) (old new : Units) → new.cuts ≡ old.cuts → new.fits ≡ old.fits → low ≤ at → IsSoFar from old low → IsSoFar from new at
same_so_far from low at old new cuts fits le h =
    let items : new.cuts.items ≡ old.cuts.items = ap (λ v. v.items) cuts in
    record {
      ascend = subst (λ (ks : List CutAt). SpansAscend from ks at) (sym items) (ascend_high from low at old.cuts.items le h.ascend);
      exact = λ f. subst (AllByRecursion IsExact) (sym items) (h.exact (sym fits ∙ f));
    }

use Rattle.std.proofs.Common.{◌∙◌, List, ap, subst, sym}
use Rattle.std.specs.List.{AllByRecursion}
use Rattle.unit_plan.specs.declared.cut.CutAt.{CutAt}
use Rattle.mov_plan.specs.Holders.{put_all}
use Rattle.mov_plan.specs.Made.{IsKept}
use Rattle.mov_plan.proofs.Held.{but_last, put_last, put_one}
use Rattle.mov_plan.proofs.holders.widened_cuts.Goals as goal

pub units-preserved : goal.units-preserved
units-preserved c =
    let inv = c.units.invariant in
    let left = c.pop.new.self.items in
    let parts = but_last IsKept left c.units.units.items c.in-Some.unit c.in-Some.ensures.items inv.left in
    record {
      whole = λ up.
          ap (put_all left) c.in_ok-put_cut.ensures ∙ sym (put_last left c.in-Some.unit c.units.cuts.items) ∙ ap (λ (us : List CutAt). put_all us c.units.cuts.items) (sym c.in-Some.ensures.items)
          ∙ inv.whole up;
      left = parts.0;
      kept = subst (AllByRecursion IsKept) (sym c.in_ok-put_cut.ensures) (put_one IsKept c.in-Some.unit c.units.cuts.items parts.1 inv.kept);
    }

use Rattle.std.proofs.Common.{◌∙◌, ℕ, Option, sym, subst}
use Rattle.me_disk.proofs.Holds.{holds_on}
use Rattle.avi_plan.specs.Changes.{IsNamed, Tells, refused}
use Rattle.avi_plan.specs.Tables.{standard_changes}
use Rattle.avi_plan.proofs.Renumbered.{all_both, ok_both}
use Rattle.avi_plan.proofs.renumber.renumber_standard.Goals as goal

pub returns-in-Ok-Some-clause-named : goal.returns-in-Ok-Some-clause-named
returns-in-Ok-Some-clause-named g c b held =
    let here = holds_on (g.D.Depot.disk c.args.depot.now) (g.D.Depot.disk c.first_counted.new.depot) b c.in-Ok-Some.ensures.reads held in
    ok_both c.push_standard.result _ _ _ (λ e n all. all_both (IsNamed c.args.moves.now b) c.args.changes.now.items _ c.push_standard.new.changes.items e all n) c.push_standard.ensures.changes (c.push_standard.ensures.named b here)

pub returns-in-Ok-Some-clause-large : goal.returns-in-Ok-Some-clause-large
returns-in-Ok-Some-clause-large g c b held =
    let here = holds_on (g.D.Depot.disk c.args.depot.now) (g.D.Depot.disk c.first_counted.new.depot) b c.in-Ok-Some.ensures.reads held in
    subst (λ (o : Option ℕ). Tells (refused c.args.moves.now b (standard_changes c.args.moves.now c.args.head.now c.args.at o)) c.push_standard.result) (sym c.in-Ok-Some.field-0-is ∙ c.in-Ok-Some.ensures.first b held) (c.push_standard.ensures.large b here)

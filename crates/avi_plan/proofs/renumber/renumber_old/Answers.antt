use Rattle.avi_plan.specs.Changes.{IsNamed}
use Rattle.avi_plan.proofs.Renumbered.{all_both, ok_both}
use Rattle.avi_plan.proofs.renumber.renumber_old.Goals as goal

pub returns-in-FileStart-clause-named : goal.returns-in-FileStart-clause-named
returns-in-FileStart-clause-named g c b held =
    ok_both c.push_rows.result _ _ _ (λ e n all. all_both (IsNamed c.args.moves.now b) c.args.changes.now.items _ c.push_rows.new.changes.items e all (n, tt)) c.push_rows.ensures.changes (c.push_rows.ensures.named b held)

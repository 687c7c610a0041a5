use Rattle.std.proofs.Common.{◌≡◌, ◌++◌, List, subst}
use Rattle.std.specs.Prelude.{OnOk}
use Rattle.me_disk.proofs.Holds.{holds_on}
use Rattle.avi_plan.specs.Changes.{IsNamed, Tells, refused}
use Rattle.avi_plan.specs.declared.table.Change.{Change}
use Rattle.avi_plan.proofs.Indexed.{not_false, not_true, standard_is, super_is, told_head}
use Rattle.avi_plan.proofs.Renumbered.{all_both, ok_both}
use Rattle.avi_plan.proofs.renumber.renumber_index.Goals as goal

pub returns-then-standard-clause-changes : goal.returns-then-standard-clause-changes
returns-then-standard-clause-changes g c b t held tabled e std =
    let here = holds_on (g.D.Depot.disk c.args.depot.now) (g.D.Depot.disk c.read_head.new.depot) b c.in-Ok-Some.ensures.reads held in
    let head = told_head b t c.args.body c.in-Ok-Some.field-0 c.in-Ok-Some.head tabled e (c.in-Ok-Some.ensures.head b held) c.in-Ok-Some.field-0-is in
    let same = standard_is c.args.moves.now b t c.args.body c.in-Ok-Some.head tabled e head (not_true c.args.standard _ std c.if-standard.true) in
    subst (λ (cs : List Change). OnOk c.renumber_standard.result (c.renumber_standard.new.changes.items ≡ c.args.changes.now.items ++ cs)) same (c.renumber_standard.ensures.changes b here)

pub returns-then-standard-clause-named : goal.returns-then-standard-clause-named
returns-then-standard-clause-named g c b held =
    c.renumber_standard.ensures.named b (holds_on (g.D.Depot.disk c.args.depot.now) (g.D.Depot.disk c.read_head.new.depot) b c.in-Ok-Some.ensures.reads held)

pub returns-then-standard-clause-large : goal.returns-then-standard-clause-large
returns-then-standard-clause-large g c b t held tabled e std =
    let here = holds_on (g.D.Depot.disk c.args.depot.now) (g.D.Depot.disk c.read_head.new.depot) b c.in-Ok-Some.ensures.reads held in
    let head = told_head b t c.args.body c.in-Ok-Some.field-0 c.in-Ok-Some.head tabled e (c.in-Ok-Some.ensures.head b held) c.in-Ok-Some.field-0-is in
    let same = standard_is c.args.moves.now b t c.args.body c.in-Ok-Some.head tabled e head (not_true c.args.standard _ std c.if-standard.true) in
    subst (λ (cs : List Change). Tells (refused c.args.moves.now b cs) c.renumber_standard.result) same (c.renumber_standard.ensures.large b here)

pub returns-clause-named : goal.returns-clause-named
returns-clause-named g c b held =
    let here = holds_on (g.D.Depot.disk c.args.depot.now) (g.D.Depot.disk c.read_head.new.depot) b c.in-Ok-Some.ensures.reads held in
    ok_both c.push_rows.result _ _ _ (λ e n all. all_both (IsNamed c.args.moves.now b) c.args.changes.now.items _ c.push_rows.new.changes.items e all (n, tt)) c.push_rows.ensures.changes (c.push_rows.ensures.named b here)

pub returns-clause-large : goal.returns-clause-large
returns-clause-large g c b t held tabled e std =
    let here = holds_on (g.D.Depot.disk c.args.depot.now) (g.D.Depot.disk c.read_head.new.depot) b c.in-Ok-Some.ensures.reads held in
    let head = told_head b t c.args.body c.in-Ok-Some.field-0 c.in-Ok-Some.head tabled e (c.in-Ok-Some.ensures.head b held) c.in-Ok-Some.field-0-is in
    let same = super_is c.args.moves.now t c.args.body c.in-Ok-Some.head c.from.result e head c.from.ensures (not_false c.args.standard _ std c.if-standard.false) in
    subst (λ (cs : List Change). Tells (refused c.args.moves.now b cs) c.push_rows.result) same (c.push_rows.ensures.large b here)

use Rattle.std.proofs.Common.{◌∙◌, sym, subst}
use Rattle.me_disk.proofs.Holds.{holds_on}
use Rattle.mov_plan.specs.Planned.{AreHolders, AreTables}
use Rattle.edit_planner.proofs.MovieEdit.{shapes_are}
use Rattle.edit_planner.proofs.movie.plan_laid.Goals as goal

pub returns-clause-plans : goal.returns-clause-plans
returns-clause-plans g c = λ b e holds bytes laid us ks told.
    let known = c.requires.mapped b holds in
    let now = holds_on (g.D.Depot.disk c.args.depot.now) (g.D.Depot.disk c.tables_of.new.depot) b c.in-Ok-tables_of.ensures.reads holds in
    let tables = subst (AreTables b) (sym c.deref-2.ensures.value)
    (c.in-Ok-tables_of.ensures.tables b holds (sym known.len) bytes laid.moov.supported (c.deref.ensures.value ∙ known.tracks)) in
    let holders = subst (AreHolders b) (sym c.deref-3.ensures.value) laid.holders in
    c.plan_movie.ensures.plans b e now bytes laid.moov tables holders
    (shapes_are b e c.args.laid.moov.from c.args.laid.places.items c.in-Ok.places.items c.deref-4.result.now c.args.carries.user c.args.carries.keys laid.tell us ks c.in-Ok.ensures.places c.deref-4.ensures.value)
    told

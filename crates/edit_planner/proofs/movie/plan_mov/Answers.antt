use Rattle.std.proofs.Common.{◌≡◌, ◌∙◌, ◌<◌, ◌^◌, ℕ, List, length, arith, sym, subst}
use Rattle.std.specs.List.{AllByRecursion}
use Rattle.std.specs.declared.result.Result.TheVariants.{Err, Ok}
use Rattle.me_disk.proofs.Holds.{holds_on}
use Rattle.part_tree.specs.Fields.{values}
use Rattle.mov_model.specs.Carried.{Changes}
use Rattle.mov_plan.specs.Carriers.{EndsBy}
use Rattle.mov_plan.specs.Carry.{IsKeyStep, IsUserStep, cells_of}
use Rattle.mov_model.specs.Movie.{movie_of}
use Rattle.qt_atoms.specs.declared.walker.AtomAt.{AtomAt}
use Rattle.edit_planner.specs.Movie.{CarriesEdit}
use Rattle.edit_planner.proofs.MovieEdit.{changes_are, declined, is_carried, keys_fit, users_fit}
use Rattle.edit_planner.proofs.MovieLaid.{AreAtoms, bodies_end}
use Rattle.edit_planner.proofs.Ready.{holds_back}
use Rattle.edit_planner.proofs.movie.plan_mov.Goals as goal

pub carried-requires-clause-ends : goal.carried-requires-clause-ends
carried-requires-clause-ends g c =
    let map = c.args.map.now in
    subst (AllByRecursion (EndsBy map.moov.next)) (sym c.deref.ensures.value) (bodies_end map.moov.body.at map.moov.next c.in-Ok-atoms_at.atoms.items c.in-Ok-atoms_at.ensures.follow)

pub carried-requires-clause-users : goal.carried-requires-clause-users
carried-requires-clause-users g c =
    let f = values c.args.map.now.fields in
    users_fit f c.args.edit.now c.in-Ok.changes.items c.deref-2.result.now c.requires.ready (c.in-Ok.ensures.effective f c.requires.ready.changes_all) c.deref-2.ensures.value

pub carried-requires-clause-keys : goal.carried-requires-clause-keys
carried-requires-clause-keys g c =
    let f = values c.args.map.now.fields in
    keys_fit f c.args.edit.now c.in-Ok.changes.items c.deref-2.result.now c.requires.ready (c.in-Ok.ensures.effective f c.requires.ready.changes_all) c.deref-2.ensures.value

pub returns-in-Err-clause-plans : goal.returns-in-Err-clause-plans
returns-in-Err-clause-plans g c = λ b holds bytes.
    let m = c.args.map.now in
    let e = c.args.edit.now in
    let known = c.requires.mapped b holds in
    let f = values m.fields in
    let is = changes_are b m e c.in-Ok.changes.items c.deref-2.result.now known (c.in-Ok.ensures.effective f c.requires.ready.changes_all) c.deref-2.ensures.value in
    let now = holds_on (g.D.Depot.disk c.args.depot.now) (g.D.Depot.disk c.atoms_at.new.depot) b c.in-Ok-atoms_at.ensures.reads holds in
    let are = subst (AreAtoms b) (sym c.deref.ensures.value) (c.in-Ok-atoms_at.ensures.row b holds) in
    let low : length b < 2 ^ 63 = omega (arith, known.len, c.requires.sound.small) in
    declined b m e c.in-Err.fault bytes low known c.requires.ready
    (subst (λ (x : Changes). CarriesEdit b x (Err c.in-Err.fault)) is (c.in-Err.ensures.carries b now bytes (Rattle.mov_model.proofs.Why.none_supported b known.supported) are))

pub laid_out-requires-clause-mapped : goal.laid_out-requires-clause-mapped
laid_out-requires-clause-mapped g c = λ b h.
    let one = holds_back (g.D.Depot.disk c.atoms_at.new.depot) (g.D.Depot.disk c.carried.new.depot) b c.in-Ok-carried.ensures.reads h in
    c.requires.mapped b (holds_back (g.D.Depot.disk c.args.depot.now) (g.D.Depot.disk c.atoms_at.new.depot) b c.in-Ok-atoms_at.ensures.reads one)

pub plan_laid-requires-clause-mapped : goal.plan_laid-requires-clause-mapped
plan_laid-requires-clause-mapped g c = λ b h.
    let two = holds_back (g.D.Depot.disk c.carried.new.depot) (g.D.Depot.disk c.laid_out.new.depot) b c.in-Ok-laid_out.ensures.reads h in
    let one = holds_back (g.D.Depot.disk c.atoms_at.new.depot) (g.D.Depot.disk c.carried.new.depot) b c.in-Ok-carried.ensures.reads two in
    c.requires.mapped b (holds_back (g.D.Depot.disk c.args.depot.now) (g.D.Depot.disk c.atoms_at.new.depot) b c.in-Ok-atoms_at.ensures.reads one)

pub returns-clause-plans : goal.returns-clause-plans
returns-clause-plans g c = λ b holds bytes.
    let m = c.args.map.now in
    let e = c.args.edit.now in
    let known = c.requires.mapped b holds in
    let f = values m.fields in
    let is = changes_are b m e c.in-Ok.changes.items c.deref-2.result.now known (c.in-Ok.ensures.effective f c.requires.ready.changes_all) c.deref-2.ensures.value in
    let one = holds_on (g.D.Depot.disk c.args.depot.now) (g.D.Depot.disk c.atoms_at.new.depot) b c.in-Ok-atoms_at.ensures.reads holds in
    let two = holds_on (g.D.Depot.disk c.atoms_at.new.depot) (g.D.Depot.disk c.carried.new.depot) b c.in-Ok-carried.ensures.reads one in
    let three = holds_on (g.D.Depot.disk c.carried.new.depot) (g.D.Depot.disk c.laid_out.new.depot) b c.in-Ok-laid_out.ensures.reads two in
    let atoms = c.in-Ok-atoms_at.ensures.row b holds in
    let are = subst (AreAtoms b) (sym c.deref.ensures.value) atoms in
    let again = subst (AreAtoms b) (sym c.deref-3.ensures.value) atoms in
    let carries = subst (λ (x : Changes). CarriesEdit b x (Ok c.in-Ok-carried.carries)) is (c.in-Ok-carried.ensures.carries b one bytes (Rattle.mov_model.proofs.Why.none_supported b known.supported) are) in
    c.plan_laid.ensures.plans b e three bytes (c.in-Ok-laid_out.ensures.laid b two bytes again) carries.0 carries.1 (is_carried b m e known c.requires.ready carries.2)

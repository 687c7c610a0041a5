use Rattle.std.proofs.Common.{◌≡◌, ◌≢◌, ◌<◌, ◌≤◌, [], List, length, sym, subst, rules, arith, refl}
use Rattle.mov_model.specs.Movie.{movie_of}
use Rattle.mov_model.specs.Reading.{inside_at}
use Rattle.part_tree.specs.declared.field.Value.{Value}
use Rattle.container_model.specs.Items.{Item}
use Rattle.std.specs.declared.result.Result.TheVariants.{Ok}
use Rattle.mov_plan.specs.Carriers.{CarriesUser, becomes, comes}
use Rattle.mov_plan.specs.Users.{change_of, changes_of}
use Rattle.mov_plan.specs.declared.carry.Carry.TheVariants.{Stays}
use Rattle.mov_plan.specs.declared.user.UserChange.{UserChange}
use Rattle.mov_plan.proofs.AtomBodies.{no_atom}
use Rattle.mov_plan.proofs.Carried.{empty_is, no_user, some_is, some_map, user_by, user_new}
use Rattle.std.proofs.Common.{get_or}
use Rattle.mov_plan.proofs.user_carry.user_carry.Goals as goal

pub returns-then-is_empty-clause-carry : goal.returns-then-is_empty-clause-carry
returns-then-is_empty-clause-carry g c = λ b holds bytes sup row.
    let none : c.args.changes.now ≡ [] = empty_is c.args.changes.now c.if-is_empty.ensures in
    subst (λ (xs : List UserChange). CarriesUser b (changes_of xs) (Ok Stays)) (sym none) (no_user b bytes sup)

pub returns-then-k-atoms-clause-carry : goal.returns-then-k-atoms-clause-carry
returns-then-k-atoms-clause-carry g c = λ b holds bytes sup row.
    let some : c.args.changes.now ≢ [] = some_is c.args.changes.now c.if-is_empty.ensures in
    let k = c.place_of_user-k in
    subst (CarriesUser b (changes_of c.args.changes.now)) (sym c.comes.ensures)
    (user_new b bytes sup (inside_at (movie_of b)) c.args.atoms.now row (changes_of c.args.changes.now) k.result c.new_user.result (some_map change_of c.args.changes.now some) k.ensures.place k.ensures.low (omega (arith, c.if-k-atoms.true)) c.new_user.ensures.made)

pub returns-clause-carry : goal.returns-clause-carry
returns-clause-carry g c = λ b holds bytes sup row.
    let some : c.args.changes.now ≢ [] = some_is c.args.changes.now c.if-is_empty.ensures in
    let k = c.place_of_user-k in
    subst (CarriesUser b (changes_of c.args.changes.now)) (sym c.becomes.ensures)
    (user_by b bytes sup (inside_at (movie_of b)) c.args.atoms.now row (changes_of c.args.changes.now) k.result (get_or c.args.atoms.now k.result no_atom) c.edited_user.result (some_map change_of c.args.changes.now some) k.ensures.place (omega (arith, c.if-k-atoms.false)) refl
    (c.edited_user.ensures.made b holds))

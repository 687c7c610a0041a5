use Rattle.std.proofs.Common.{◌≡◌, ◌≢◌, [], List, None, Some, sym, subst, rules}
use Rattle.mov_model.specs.Movie.{movie_of}
use Rattle.mov_model.specs.Reading.{inside_at}
use Rattle.std.specs.declared.result.Result.TheVariants.{Ok}
use Rattle.mov_plan.specs.Carriers.{CarriesKeys, found_from}
use Rattle.mov_plan.specs.Keyed.{change_of, changes_of}
use Rattle.mov_plan.specs.declared.carry.Carry.TheVariants.{Stays}
use Rattle.mov_plan.specs.declared.keys.KeyChange.{KeyChange}
use Rattle.mov_plan.proofs.Carried.{keys_by, keys_new, empty_is, no_keys, some_is, some_map}
use Rattle.mov_plan.proofs.key_carry.key_carry.Goals as goal

pub returns-then-is_empty-clause-carry : goal.returns-then-is_empty-clause-carry
returns-then-is_empty-clause-carry g c = λ b holds bytes sup row.
    let none : c.args.changes.now ≡ [] = empty_is c.args.changes.now c.if-is_empty.ensures in
    subst (λ (xs : List KeyChange). CarriesKeys b (changes_of xs) (Ok Stays)) (sym none) (no_keys b bytes sup)

pub returns-in-Ok-None-clause-carry : goal.returns-in-Ok-None-clause-carry
returns-in-Ok-None-clause-carry g c = λ b holds bytes sup row.
    let some : c.args.changes.now ≢ [] = some_is c.args.changes.now c.if-is_empty.ensures in
    let none : None ≡ found_from b 0 c.args.atoms.now = rw c.in-Ok-None.field-0-is at (c.in-Ok-None.ensures.found b holds) in
    subst (CarriesKeys b (changes_of c.args.changes.now)) (sym c.comes.ensures)
    (keys_new b bytes sup (inside_at (movie_of b)) c.args.atoms.now row (changes_of c.args.changes.now) c.new_meta.result (some_map change_of c.args.changes.now some) none c.new_meta.ensures.made)

pub returns-in-Ok-Some-clause-carry : goal.returns-in-Ok-Some-clause-carry
returns-in-Ok-Some-clause-carry g c = λ b holds bytes sup row.
    let some : c.args.changes.now ≢ [] = some_is c.args.changes.now c.if-is_empty.ensures in
    let f = c.in-Ok-Some.found in
    let found : Some f ≡ found_from b 0 c.args.atoms.now = rw c.in-Ok-Some.field-0-is at (c.in-Ok-Some.ensures.found b holds) in
    subst (CarriesKeys b (changes_of c.args.changes.now)) (sym c.becomes.ensures)
    (keys_by b bytes sup (inside_at (movie_of b)) c.args.atoms.now row (changes_of c.args.changes.now) f c.edited_table.result (some_map change_of c.args.changes.now some) found c.edited_table.ensures.made)

use Rattle.std.proofs.Common.{sym, subst, ◌+◌, Option}
use Rattle.me_disk.proofs.Holds.{holds_on}
use Rattle.mov_model.specs.Keys.{is_meta}
use Rattle.qt_atoms.specs.declared.walker.AtomAt.{AtomAt}
use Rattle.qt_text.specs.User.{udta}
use Rattle.mov_file.specs.Carriers.{kids_in}
use Rattle.mov_file.specs.Map.{IsKid, first_that}
use Rattle.mov_file.proofs.Carried.{all_fields, table_kid, user_stop}
use Rattle.mov_file.proofs.movie.read_carriers.Goals as goal

pub returns-in-Err-take_texts-clause-why : goal.returns-in-Err-take_texts-clause-why
returns-in-Err-take_texts-clause-why g c = λ b holds stop end_too.
    let held = holds_on _ _ b c.find_user.ensures.reads holds in
    let kids = kids_in b c.args.moov.at (c.args.moov.at + c.args.moov.len) in
    c.in-Err-take_texts.ensures.why b held (user_stop b (first_that udta.is kids) c.in-Ok.user (c.in-Ok.ensures.user b holds) end_too)

pub returns-clause-carried : goal.returns-clause-carried
returns-clause-carried g c = λ b holds.
    let held = holds_on _ _ b c.find_user.ensures.reads holds in
    let then = holds_on _ _ b c.take_texts.ensures.reads held in
    let at = c.args.moov.at in
    let end = c.args.moov.at + c.args.moov.len in
    let kids = kids_in b at end in
    let found = c.in-Ok-find_meta.found in
    let table = c.in-Ok-find_meta.ensures.meta b then in
    let user = c.in-Ok.ensures.user b holds in
    record {
      field_values = all_fields b at end c.take_texts.new.fields c.take_meta.new.fields c.in-Ok.user found user table (rw c.new-fields.ensures at (c.in-Ok-take_texts.ensures.texts b held)) c.in-Ok-take_meta.ensures.held;
      user = user;
      meta = subst (λ (o : Option AtomAt). IsKid b (first_that is_meta kids) o) (sym c.in-Ok-take_meta.ensures.atom) (table_kid b (first_that is_meta kids) found table);
    }

use Rattle.std.proofs.Common.{sym, subst, Option}
use Rattle.std.specs.Prelude.{OnOk}
use Rattle.qt_atoms.specs.declared.walker.AtomAt.{AtomAt}
use Rattle.mov_file.specs.Fields.{Grows}
use Rattle.mov_file.specs.Whole.{user_held}
use Rattle.mov_file.proofs.movie.take_texts.Goals as goal

pub returns-in-Some-clause-texts : goal.returns-in-Some-clause-texts
returns-in-Some-clause-texts g c = λ b holds.
    subst (λ (o : Option AtomAt). OnOk c.take_user.result (Grows c.args.fields.now c.take_user.new.fields (user_held b o))) (sym c.in-Some.is) (c.take_user.ensures.texts b holds)

use Rattle.std.proofs.Common.{subst, sym}
use Rattle.metaedit_top.proofs.Makes.{no_front}
use Rattle.metaedit_top.proofs.run.act.Goals as goal

pub returns-in-Set : goal.returns-in-Set
returns-in-Set g c = c.set.ensures c.args.redone

pub returns-in-Show : goal.returns-in-Show
returns-in-Show g c = c.show.ensures c.args.redone

pub returns-in-Validate : goal.returns-in-Validate
returns-in-Validate g c = c.validate.ensures c.args.redone

pub returns-in-Md5 : goal.returns-in-Md5
returns-in-Md5 g c = c.md5.ensures c.args.redone

pub returns-in-Export : goal.returns-in-Export
returns-in-Export g c = c.export.ensures c.args.redone

pub set-requires-clause-front : goal.set-requires-clause-front
set-requires-clause-front g c = λ o held. no_front c.args.request.now c.requires.there o

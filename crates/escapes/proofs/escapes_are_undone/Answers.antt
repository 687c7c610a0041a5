use Rattle.escapes.proofs.Undone.{undone_from}
use Rattle.escapes.proofs.escapes_are_undone.Goals as goal

pub returns : goal.returns
returns c = λ raw small. undone_from 0 raw small tt

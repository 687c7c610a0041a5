use Rattle.std.proofs.Common.{sym, subst}
use Rattle.std.proofs.lemmas.Bool.{false≢true}
use Rattle.std.specs.List.{AllByRecursion}
use Rattle.mov_plan.specs.Carriers.{EndsBy}
use Rattle.mov_plan.proofs.AtomBodies.{follow_ends}
use Rattle.mov_plan.proofs.moov_carriers.tests.carried.Goals as goal

-- a depot that tells nothing of its file holds any bytes
pub atoms_of-requires-clause-inside : goal.atoms_of-requires-clause-inside
atoms_of-requires-clause-inside c = λ b h. absurd (false≢true h.tells)

pub carriers-requires-clause-inside : goal.carriers-requires-clause-inside
carriers-requires-clause-inside c = λ b h. absurd (false≢true h.tells)

pub carriers-requires-clause-ends : goal.carriers-requires-clause-ends
carriers-requires-clause-ends c = subst (AllByRecursion (EndsBy 60)) (sym c.deref.ensures.value) (follow_ends 28 60 c.in-Ok.atoms.items c.in-Ok.ensures.follow)

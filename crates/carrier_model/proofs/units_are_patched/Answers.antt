use Rattle.carrier_model.proofs.Room.{cells_covered, cells_ordered, cells_patched}
use Rattle.carrier_model.proofs.units_are_patched.Goals as goal

pub returns-clause-made : goal.returns-clause-made
returns-clause-made c = λ ends xs x r fit none. cells_patched ends xs fit x r none

pub returns-clause-order : goal.returns-clause-order
returns-clause-order c = λ ends xs at fit. cells_ordered ends xs fit at

pub returns-clause-covers : goal.returns-clause-covers
returns-clause-covers c = λ ends xs at q fit low high. cells_covered ends xs fit at q low high

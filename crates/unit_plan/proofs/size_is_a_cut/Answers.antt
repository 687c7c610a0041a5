use Rattle.std.specs.Int.{w32, w64, to_le_bytes}
use Rattle.unit_plan.proofs.Spliced.{first_cut}
use Rattle.unit_plan.proofs.size_is_a_cut.Goals as goal

pub returns-clause-own : goal.returns-clause-own
returns-clause-own c = λ n b cs h. first_cut 4 (to_le_bytes w32 n) b cs h

pub returns-clause-wide : goal.returns-clause-wide
returns-clause-wide c = λ n b cs h. first_cut 20 (to_le_bytes w64 n) b cs h

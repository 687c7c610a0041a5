use Rattle.std.proofs.Common.{◌≡◌, ◌+◌, ◌-◌, length, arith}
use Rattle.container_model.specs.Splice.{shift}
use Rattle.container_model.proofs.Splice.{splice_byte}
use Rattle.container_model.proofs.bytes_move.Goals as goal

pub returns : goal.returns
returns c = λ b cs p h o. let z : 0 + length b ≡ length b = omega arith in let s = splice_byte 0 b cs p (rw z h) o (omega arith) in let e1 : shift cs p - 0 ≡ shift cs p = omega arith in let e2 : p - 0 ≡ p = omega arith in rw (e1, e2) at s

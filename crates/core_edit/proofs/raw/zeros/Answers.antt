use Rattle.std.proofs.Common.{◌≡◌, ℕ, List, IfOk, arith, subst}
use Rattle.core_edit.proofs.Texts.{take_zeros}
use Rattle.core_edit.proofs.raw.zeros.Goals as goal

pub returns : goal.returns
returns c = subst (λ (xs : List ℕ). IfOk c.new.result (λ bytes. bytes ≡ xs)) (take_zeros c.args.len 512 (omega (arith, c.requires))) c.new.ensures

use Rattle.std.proofs.Common.{◌∙◌, arith, ap, Some, ◌==◌, get_or}
use Rattle.std.proofs.lemmas.Bool.{eq-eqb}
use Rattle.bext_fields.proofs.Found.{found, not_found}
use Rattle.metaedit_top.proofs.words.find_equals.Goals as goal

pub returns-then-byte-eq61-clause-place : goal.returns-then-byte-eq61-clause-place
returns-then-byte-eq61-clause-place c =
    ap Some c.loop-byte.invariant.count
    ∙ found (λ b. b == 61) c.args.word.now c.loop-byte.byte-index 0 c.loop-byte-test.true c.loop-byte.invariant.before (eq-eqb (get_or c.args.word.now c.loop-byte.byte-index 0) 61 c.if-byte-eq61.true)

pub returns-clause-place : goal.returns-clause-place
returns-clause-place c = not_found (λ b. b == 61) c.args.word.now c.loop-byte.byte-index 0 (omega arith) c.loop-byte.invariant.before

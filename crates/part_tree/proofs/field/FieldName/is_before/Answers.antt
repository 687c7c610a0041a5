use Rattle.std.proofs.Common.{sym, ◌∙◌, arith}
use Rattle.std.proofs.lemmas.Bool.{lt-ltb, le-ltb, ne_eqb}
use Rattle.part_tree.proofs.Stands.{less_bytes, lower_number, same_number}
use Rattle.part_tree.proofs.field.FieldName.is_before.Goals as goal

pub returns-then-a-b : goal.returns-then-a-b
returns-then-a-b c =
    lt-ltb _ _ c.if-a-b.true
    ∙ sym (lt-ltb _ _ (lower_number c.args.self.now c.args.other.now _ _ _ _ c.stand-a.ensures c.stand-b.ensures c.if-a-b.true))

pub returns-then-a-b-2 : goal.returns-then-a-b-2
returns-then-a-b-2 c = c.lt.ensures ∙ less_bytes c.stand-a.result.key.now c.stand-b.result.key.now ∙ same_number c.args.self.now c.args.other.now _ _ _ _ c.stand-a.ensures c.stand-b.ensures c.if-a-b-2.true

pub returns-else-a-b-2 : goal.returns-else-a-b-2
returns-else-a-b-2 c =
    let more = lower_number c.args.other.now c.args.self.now _ _ _ _ c.stand-b.ensures c.stand-a.ensures (omega (arith, c.if-a-b.false, c.if-a-b-2.false)) in
    ne_eqb _ _ c.if-a-b-2.false ∙ sym (le-ltb _ _ (omega (arith, more)))

use Rattle.std.proofs.Common.{sym, ◌∙◌, ap, arith, Some}
use Rattle.part_tree.specs.declared.field.Form.TheVariants.{Text}
use Rattle.std.proofs.lemmas.Bool.{eq-eqb}
use Rattle.bext_fields.specs.Table.{is_of}
use Rattle.bext_fields.proofs.Found.{found, not_found}
use Rattle.bext_fields.proofs.first_row.Goals as goal

pub returns-then-row : goal.returns-then-row
returns-then-row c =
    let so_far = c.loop-row.invariant in
    ap Some so_far.count ∙ found (is_of c.args.field) c.args.rows.now c.loop-row.row-index _ c.loop-row-test.true so_far.before
    (eq-eqb _ _ (sym c.row.ensures.row ∙ (c.if-row.true ∙ c.row-in-loop-row.ensures.row)))

pub returns : goal.returns
returns c =
    let so_far = c.loop-row.invariant in
    not_found (is_of c.args.field) c.args.rows.now c.loop-row.row-index (record { field = c.args.field; at = 0; len = 0; form = Text }) (omega arith) so_far.before

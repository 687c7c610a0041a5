use Rattle.std.proofs.Common.{◌≡◌, ◌<◌, Bool, true, false, Some, List, length, get_or, sym, ap, ◌∙◌, arith}
use Rattle.std.specs.Prelude.{filter}
use Rattle.part_tree.specs.Fields.{values}
use Rattle.part_tree.specs.declared.field.FieldName.{FieldName}
use Rattle.field_model.specs.Update.{update}
use Rattle.fadgi_rules.specs.Looked.{names_of}
use Rattle.fadgi_rules.specs.Rows.{fails, first_in}
use Rattle.fadgi_rules.proofs.Findings.{name_looks, kept_here, left_out}
use Rattle.fadgi_rules.proofs.row.first_failing.Goals as goal

pub fails_after-requires-clause-looks : goal.fails_after-requires-clause-looks
fails_after-requires-clause-looks c =
    name_looks c.args.rule c.args.kind (names_of c.fields_of-names.result) c.loop-k.k c.at-name.result c.at-name.result c.fields_of-names.ensures (omega (arith, c.loop-k-test.true, c.len-k-end.ensures)) c.at-name.ensures

pub returns-then-fails_after : goal.returns-then-fails_after
returns-then-fails_after c =
    let names : List FieldName = names_of c.fields_of-names.result in
    let test : FieldName → Bool = fails c.args.rule (update (values c.args.fields.now) c.args.items.now) in
    let inside : c.loop-k.k < length names = omega (arith, c.loop-k-test.true, c.len-k-end.ensures) in
    let here : test (get_or names c.loop-k.k c.at-name.result) ≡ true = ap test (sym c.at-name.ensures) ∙ (sym c.fails_after.ensures ∙ c.if-fails_after.true) in
    ap Some c.at-name.ensures ∙ ap first_in (sym (kept_here test names c.loop-k.k c.at-name.result inside here)) ∙ c.loop-k.invariant
    ∙ ap (λ (ns : List FieldName). first_in (filter test ns)) c.fields_of-names.ensures

pub loop-k-preserved : goal.loop-k-preserved
loop-k-preserved c =
    let names : List FieldName = names_of c.fields_of-names.result in
    let test : FieldName → Bool = fails c.args.rule (update (values c.args.fields.now) c.args.items.now) in
    let inside : c.loop-k.k < length names = omega (arith, c.loop-k-test.true, c.len-k-end.ensures) in
    let here : test (get_or names c.loop-k.k c.at-name.result) ≡ false = ap test (sym c.at-name.ensures) ∙ (sym c.fails_after.ensures ∙ c.if-fails_after.false) in
    ap first_in (sym (left_out test names c.loop-k.k c.at-name.result inside here)) ∙ c.loop-k.invariant

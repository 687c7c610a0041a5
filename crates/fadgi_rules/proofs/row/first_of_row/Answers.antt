use Rattle.std.proofs.Common.{◌≡◌, ◌∙◌, sym, ap, ℕ, true, Some, rules}
use Rattle.std.specs.Prelude.{filter, option_map}
use Rattle.part_tree.specs.Fields.{values}
use Rattle.field_model.specs.Broken.{chooses}
use Rattle.field_model.specs.Update.{update}
use Rattle.fadgi_rules.specs.Items.{found}
use Rattle.fadgi_rules.specs.Rows.{number, set_of, fields_of, fails, first_in}
use Rattle.fadgi_rules.proofs.Findings.{row_first}
use Rattle.fadgi_rules.proofs.row.first_of_row.Goals as goal

pub returns-in-Some : goal.returns-in-Some
returns-in-Some c =
    let f = values c.args.fields.now in
    let e = c.args.items.now in
    let chosen : chooses c.args.rules (set_of c.args.rule) ≡ true = ap (chooses c.args.rules) (sym c.row_of-row.ensures.set) ∙ sym c.chooses.ensures ∙ c.if-not-chooses.false in
    let is : first_in (filter (fails c.args.rule (update f e)) (fields_of c.args.rule c.args.kind)) ≡ Some c.in-Some.field = search rules in
    ap (λ (n : ℕ). Some (found n c.in-Some.field)) c.row_of-row.ensures.id
    ∙ sym (row_first c.args.rule c.args.kind f e c.args.rules chosen ∙ ap (option_map (found (number c.args.rule))) is)

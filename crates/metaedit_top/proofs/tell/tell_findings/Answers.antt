use Rattle.std.proofs.Common.{rules, ◌≡◌, ◌≤◌, List, [], length, sym, subst, ap, ◌∙◌, arith}
use Rattle.part_tree.specs.declared.field.Broken.{Broken}
use Rattle.part_tree.specs.declared.fields.Entry.{Entry}
use Rattle.part_tree.specs.Fields.{values}
use Rattle.field_model.specs.Broken.{findings}
use Rattle.field_model.specs.Lawful.{IsLawful}
use Rattle.me_report.specs.Findings.{findings_text}
use Rattle.edit_planner.specs.Plan.{fields_in, kind_in, streams_in, told_in}
use Rattle.metaedit_top.specs.Told.{look_summary}
use Rattle.metaedit_top.proofs.Looks.{findings_as}
use Rattle.metaedit_top.proofs.Rules.{few_found}
use Rattle.metaedit_top.proofs.tell.tell_findings.Goals as goal

pub all_broken-requires : goal.all_broken-requires
all_broken-requires c = subst (λ (es : List Entry). IsLawful (values es)) (sym c.fields.ensures) c.requires

pub overflow_cast-len : goal.overflow_cast-len
overflow_cast-len c =
    let m = c.args.map.now in
    let count : c.len.result ≡ length c.in_ok-broken.broken.items = search rules in
    let few : length c.in_ok-broken.broken.items ≤ 1000 =
    subst (λ (bs : List Broken). length bs ≤ 1000) (sym (c.in_ok-broken.ensures 0)) (few_found c.kind.result 0 (values c.fields.result.now) c.args.rules) in
    omega (arith, count, few)

pub returns-clause-summary : goal.returns-clause-summary
returns-clause-summary c =
    let m = c.args.map.now in
    let bs = c.in_ok-broken.broken.items in
    let count : c.len.result ≡ length bs = search rules in
    let found : bs ≡ findings (kind_in m) (streams_in m) (fields_in m) [] c.args.rules = findings_as m c.kind.result c.fields.result.now c.args.rules bs c.kind.ensures c.fields.ensures c.in_ok-broken.ensures in
    c.look_summary-summary.ensures ∙ ap (λ n. look_summary n c.len.result) c.payload.ensures ∙ ap (look_summary (told_in m).payload) (count ∙ ap (λ (xs : List Broken). length xs) found)

pub returns-clause-text : goal.returns-clause-text
returns-clause-text c =
    let m = c.args.map.now in
    let bs = c.in_ok-broken.broken.items in
    let found : bs ≡ findings (kind_in m) (streams_in m) (fields_in m) [] c.args.rules = findings_as m c.kind.result c.fields.result.now c.args.rules bs c.kind.ensures c.fields.ensures c.in_ok-broken.ensures in
    search (rules, found)

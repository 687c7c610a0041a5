use Rattle.std.proofs.Common.{◌≡◌, ◌<◌, ◌+◌, Bool, true, false, List, [], ◌∷◌, ◌++◌, map, drop, length, get_or, sym, ap, ◌∙◌, arith, rules, append_assoc}
use Rattle.std.specs.Prelude.{filter}
use Rattle.part_tree.specs.Fields.{values}
use Rattle.part_tree.specs.declared.field.Broken.{Broken}
use Rattle.part_tree.specs.declared.field.FieldName.{FieldName}
use Rattle.field_model.specs.Update.{update}
use Rattle.fadgi_rules.specs.Items.{found}
use Rattle.fadgi_rules.specs.Looked.{names_of}
use Rattle.fadgi_rules.specs.Rows.{number, fails}
use Rattle.fadgi_rules.proofs.Findings.{name_looks, kept_here, left_out}
use Rattle.fadgi_rules.proofs.row.push_row.Goals.{then-fails_after+in-Ok, else-fails_after}
use Rattle.fadgi_rules.proofs.row.push_row.Goals as goal

pub fails_after-requires-clause-looks : goal.fails_after-requires-clause-looks
fails_after-requires-clause-looks c =
    name_looks c.args.rule c.args.kind (names_of c.fields_of-names.result) c.loop-k.k c.at-name.result c.at-name.result c.fields_of-names.ensures (omega (arith, c.loop-k-test.true, c.len-k-end.ensures)) c.at-name.ensures

pub loop-k-preserved : goal.loop-k-preserved
loop-k-preserved c =
    let names : List FieldName = names_of c.fields_of-names.result in
    let name : FieldName = c.at-name.result in
    let test : FieldName → Bool = fails c.args.rule (update (values c.args.fields.now) []) in
    let told : List FieldName → List Broken = map (found (number c.args.rule)) in
    let inside : c.loop-k.k < length names = omega (arith, c.loop-k-test.true, c.len-k-end.ensures) in
    let is : name ≡ get_or names c.loop-k.k name = c.at-name.ensures in
    let tested : c.fails_after.result ≡ test name = c.fails_after.ensures in
    elim c.if-fails_after.branch [
      | then-fails_after+in-Ok w ↦
          let here : test (get_or names c.loop-k.k name) ≡ true = ap test (sym is) ∙ (sym tested ∙ w.if-fails_after.true) in
          let pushed : c.if-fails_after.found.items ≡ c.loop-k.found.items ++ found (number c.args.rule) name ∷ [] = search rules in
          ap (λ (bs : List Broken). bs ++ told (filter test (drop (c.loop-k.k + 1) names))) pushed
          ∙ append_assoc c.loop-k.found.items (found (number c.args.rule) name ∷ []) (told (filter test (drop (c.loop-k.k + 1) names)))
          ∙ ap (λ (n : FieldName). c.loop-k.found.items ++ found (number c.args.rule) n ∷ told (filter test (drop (c.loop-k.k + 1) names))) is
          ∙ ap (λ (ns : List FieldName). c.loop-k.found.items ++ told ns) (sym (kept_here test names c.loop-k.k name inside here)) ∙ c.loop-k.invariant
      | else-fails_after w ↦
          let here : test (get_or names c.loop-k.k name) ≡ false = ap test (sym is) ∙ (sym tested ∙ w.if-fails_after.false) in
          let same : c.if-fails_after.found.items ≡ c.loop-k.found.items = search rules in
          ap (λ (bs : List Broken). bs ++ told (filter test (drop (c.loop-k.k + 1) names))) same
          ∙ ap (λ (ns : List FieldName). c.loop-k.found.items ++ told ns) (sym (left_out test names c.loop-k.k name inside here)) ∙ c.loop-k.invariant
    ]

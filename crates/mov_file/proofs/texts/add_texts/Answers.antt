use Rattle.std.proofs.Common.{arith, rules, subst, ◌<◌, ◌≤◌, length}
use Rattle.part_tree.specs.Fields.{Adds}
use Rattle.part_tree.specs.declared.field.FieldName.TheVariants.{User}
use Rattle.part_tree.specs.declared.field.Value.{Value}
use Rattle.mov_file.proofs.Grown.{text_next, texts_end}
use Rattle.mov_file.proofs.texts.add_texts.Goals as goal

pub texts-preserved : goal.texts-preserved
texts-preserved c =
    let k = c.texts.text-index in
    let vs = c.args.texts.now in
    let lt : k < length vs = search rules in
    text_next c.args.fields.now c.texts.fields c.add.new.self (User c.args.kind) vs vs k c.text-item.result lt c.text-item.is
    (subst (λ (v : Value). Adds c.texts.fields c.add.new.self (User c.args.kind) v) c.in_ok-copy.ensures c.in_ok-add.ensures.ok) c.texts.invariant

pub returns : goal.returns
returns c =
    let k = c.texts.text-index in
    let vs = c.args.texts.now in
    let le : length vs ≤ k = search rules in
    texts_end c.args.fields.now c.texts.fields (User c.args.kind) vs vs k le c.texts.invariant

use Rattle.std.proofs.Common.{arith, ap, sym, refl, ◌∷◌, ◌++◌, [], List, take, drop, not, length-append, length-drop}
use Rattle.container_model.specs.Items.{is_nil}
use Rattle.part_tree.specs.declared.field.Value.{Value}
use Rattle.qt_text.specs.User.{text_language}
use Rattle.qt_text.proofs.Texts.{texts_none, texts_step}
use Rattle.mov_plan.proofs.Texts.{cut_none, whole_some}
use Rattle.mov_plan.proofs.user.has_texts.Goals as goal

pub returns-then-body-at : goal.returns-then-body-at
returns-then-body-at c =
    let body = c.args.body.now in
    let at = c.texts.at in
    let left = c.texts.invariant.left in
    let cut = cut_none (drop at body) c.size_at-len.result c.size_at-len.ensures.size (omega (arith, length-drop at body, c.if-body-at.true, c.if-body-at-lt4.false)) in
    sym (ap (λ (ts : List Value). not (is_nil ts)) (texts_none body at left.0 (omega arith) cut left.1))

pub texts-preserved : goal.texts-preserved
texts-preserved c =
    let body = c.args.body.now in
    let at = c.texts.at in
    let len = c.size_at-len.result in
    let left = c.texts.invariant.left in
    let t : Value = record { lang = text_language (drop at body); raw = take len (drop 4 (drop at body)) } in
    let there = whole_some (drop at body) len c.size_at-len.ensures.size (omega (arith, length-drop at body, c.if-body-at.false, c.if-body-at-lt4.false)) in
    record {
      inside = omega (arith, c.if-body-at.false, c.if-body-at-lt4.false);
      left = (left.0 ++ t ∷ [], texts_step body at len left.0 (left.0 ++ t ∷ []) t (omega arith) there refl refl left.1, λ some. omega (arith, length-append left.0 (t ∷ [])), λ none. absurd (omega arith));
    }

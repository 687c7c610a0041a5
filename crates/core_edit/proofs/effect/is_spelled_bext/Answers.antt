use Rattle.std.proofs.Common.{◌≡◌, ◌∙◌, sym, subst, Some}
use Rattle.part_tree.specs.declared.field.Form.{Form}
use Rattle.field_model.specs.Raw.{raw_form}
use Rattle.field_model.specs.Update.{same_text}
use Rattle.core_edit.specs.Shown.{spelled_form, text_of}
use Rattle.core_edit.proofs.effect.is_spelled_bext.Goals as goal

pub returns-in-Text : goal.returns-in-Text
returns-in-Text c =
    let Shows : Form → Type 0 = λ form. c.is_spelled_text.result ≡ same_text (Some (text_of c.args.found.now)) (spelled_form form c.args.version (raw_form form c.args.field c.args.text.now)) in
    subst Shows (sym c.in-Text.is ∙ c.form.ensures) (c.is_spelled_text.ensures c.args.version)

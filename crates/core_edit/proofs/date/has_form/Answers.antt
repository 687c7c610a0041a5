use Rattle.std.proofs.Common.{sym}
use Rattle.core_edit.proofs.Texts.{form_other}
use Rattle.core_edit.proofs.date.has_form.Goals as goal

pub returns-then-form-text-clause-form : goal.returns-then-form-text-clause-form
returns-then-form-text-clause-form c = sym (form_other c.args.form.now c.args.text.now c.if-form-text.true)

use Rattle.std.proofs.Common.{sym, ◌∙◌, arith, refl, codes}
use Rattle.core_edit.proofs.Texts.{number_two, number_four}
use Rattle.core_edit.proofs.date.is_date.Goals as goal

pub date_exists-requires-clause-year : goal.date_exists-requires-clause-year
date_exists-requires-clause-year c = omega (arith, c.number.ensures, number_four (codes "ddddsddsdd") c.args.text.now (sym c.has_form.ensures.form ∙ c.if-has_form.true) (omega arith) refl refl refl refl)

pub date_exists-requires-clause-month : goal.date_exists-requires-clause-month
date_exists-requires-clause-month c = omega (arith, c.number-then-has_form.ensures, number_two (codes "ddddsddsdd") c.args.text.now 5 (sym c.has_form.ensures.form ∙ c.if-has_form.true) (omega arith) refl refl)

pub date_exists-requires-clause-day : goal.date_exists-requires-clause-day
date_exists-requires-clause-day c = omega (arith, c.number-then-has_form-2.ensures, number_two (codes "ddddsddsdd") c.args.text.now 8 (sym c.has_form.ensures.form ∙ c.if-has_form.true) (omega arith) refl refl)

use Rattle.std.proofs.Common.{◌∙◌, sym, drop}
use Rattle.table_misfits.proofs.Misfits.{none_named}
use Rattle.avi_plan.proofs.renumber.push_rows.Goals as goal

pub returns-in-Ok-clause-named : goal.returns-in-Ok-clause-named
returns-in-Ok-clause-named g c b held =
    none_named c.args.moves.now c.args.form c.args.rows (drop c.args.from b) (sym (c.in-Ok-None.ensures.misfit b held) ∙ c.in-Ok-None.field-0-is)

use Rattle.std.proofs.Common.{refl, sym, subst}
use Rattle.std.specs.declared.result.Result.TheVariants.{Ok}
use Rattle.part_tree.specs.declared.table.Base.{Base}
use Rattle.avi_index.specs.Checks.{JudgesRow, model_base}
use Rattle.avi_index.proofs.check.judge.Goals as goal

pub returns-in-Movi-clause-row : goal.returns-in-Movi-clause-row
returns-in-Movi-clause-row c row is =
    subst (λ (x : Base). JudgesRow (model_base x) c.args.movi c.args.indexes.now c.args.k row (Ok c.counts_from_movi-counts.result)) (sym c.in-Movi.is) (refl, c.counts_from_movi-counts.ensures row is)

pub returns-in-FileStart-clause-row : goal.returns-in-FileStart-clause-row
returns-in-FileStart-clause-row c row is =
    subst (λ (x : Base). JudgesRow (model_base x) c.args.movi c.args.indexes.now c.args.k row c.judge_from_start.result) (sym c.in-FileStart.is) (c.judge_from_start.ensures.row row is)

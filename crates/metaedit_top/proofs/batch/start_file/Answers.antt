use Rattle.std.proofs.Common.{ℕ, ap, ◌∙◌}
use Rattle.metaedit_top.specs.Batch.{end_in, file_request}
use Rattle.metaedit_top.proofs.Starts.{begun_by}
use Rattle.metaedit_top.proofs.batch.start_file.Goals as goal

pub returns-clause-begun : goal.returns-clause-begun
returns-clause-begun g c =
    let a = g.D.Depot.disk c.args.depot.now in
    let b = g.D.Depot.disk c.ready_file-answer.new.depot in
    begun_by (file_request c.args.edit.now c.args.file.now) a b c.ready_file-answer.result (c.ready_file-answer.ensures c.args.file.now) c.end_and_swap-end.result.0 c.end_and_swap-end.result.1
    (c.end_and_swap-end.ensures.end ∙ ap (λ (n : ℕ). end_in c.ready_file-answer.result n) c.faults.ensures) c.end_and_swap-end.ensures.swap c.file_start.result c.file_start.ensures.end c.file_start.ensures.swap

pub returns-clause-stays : goal.returns-clause-stays
returns-clause-stays g c = (c.ready_file-answer.ensures c.args.file.now).stays

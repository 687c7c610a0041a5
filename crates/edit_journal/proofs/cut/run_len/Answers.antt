use Rattle.std.proofs.Common.{drop, get_or, sym}
use Rattle.edit_journal.proofs.Runs.{Differs, differs_end, differs_at, run_ends}
use Rattle.edit_journal.proofs.cut.run_len.Goals as goal
use Rattle.edit_journal.proofs.cut.run_len.Goals.{then-loop-end-test+else-bytes-end, else-loop-end-test}

pub returns-clause-runs : goal.returns-clause-runs
returns-clause-runs c =
    let b = c.args.bytes.now in
    let from = c.args.from in
    let end = c.loop-end.end in
    let other : Differs (get_or b from 0) (drop end b) =
    elim c.loop-end-test.branch [
      | then-loop-end-test+else-bytes-end w ↦ differs_at (get_or b from 0) end b w.loop-end-test.true (λ e. w.if-bytes-end.false (sym e))
      | else-loop-end-test w ↦ differs_end (get_or b from 0) end b w.loop-end-test.false
    ] in
    run_ends b from end c.loop-end.invariant.run other

use Rattle.std.proofs.Common.{◌∙◌, []}
use Rattle.bench_tables.proofs.Silent.{silent_begins}
use Rattle.bench_tables.proofs.anew.make_anew.Goals as goal

pub run-requires : goal.run-requires
run-requires g c κs within =
    let has = c.has.ensures.reads in
    let len = c.len.ensures.reads in
    (within, silent_begins c.in_ok-plan.plan c.in_ok-swap.swap [] (g.D.Depot.disk c.len.new.self) c.in_ok-swap.ensures (len.tells ∙ has.tells ∙ c.requires.silent) (len.work_state ∙ has.work_state ∙ c.requires.closed))

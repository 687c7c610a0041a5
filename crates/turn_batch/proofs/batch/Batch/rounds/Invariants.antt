use Rattle.turn_batch.proofs.batch.Batch.rounds.Given as goal

abbrev pub ghost-some_rounds : goal.ghost-some_rounds
ghost-some_rounds g a = g.files

abbrev pub ghost-all_rounds : goal.ghost-all_rounds
ghost-all_rounds g a = g.files

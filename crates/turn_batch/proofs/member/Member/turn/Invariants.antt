use Rattle.turn_batch.proofs.member.Member.turn.Given as goal

abbrev pub ghost-turn : goal.ghost-turn
ghost-turn g a = g.old

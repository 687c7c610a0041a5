use Rattle.file_swap.proofs.swapping.Swap.turn.Given as goal

abbrev pub ghost-turn : goal.ghost-turn
ghost-turn g a = g.old

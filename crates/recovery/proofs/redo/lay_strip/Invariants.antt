use Rattle.recovery.proofs.redo.lay_strip.Given as goal

abbrev pub ghost-lay_run : goal.ghost-lay_run
ghost-lay_run g a = g.redo

abbrev pub ghost-lay_plain : goal.ghost-lay_plain
ghost-lay_plain g a = g.redo

use Rattle.turn_rows.specs.Two.{the_file}
use Rattle.turn_rows.proofs.runs.run_turns.Given as goal

abbrev pub ghost-run : goal.ghost-run
ghost-run g a = the_file

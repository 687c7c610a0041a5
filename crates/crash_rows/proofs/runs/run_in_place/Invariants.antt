use Rattle.crash_rows.specs.Worked.{file}
use Rattle.crash_rows.proofs.runs.run_in_place.Given as goal

abbrev pub ghost-run : goal.ghost-run
ghost-run g a = file

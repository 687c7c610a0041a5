use Rattle.std.proofs.Common.{[]}
use Rattle.bench_tables.proofs.anew.make_anew.Given as goal

abbrev pub ghost-run : goal.ghost-run
ghost-run g a = []

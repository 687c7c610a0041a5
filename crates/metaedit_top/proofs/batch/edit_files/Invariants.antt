use Rattle.metaedit_top.proofs.Rounded.{files_of}
use Rattle.metaedit_top.proofs.batch.edit_files.Given as goal

-- the files that stand there behind the reading
abbrev pub ghost-rounds : goal.ghost-rounds
ghost-rounds g a = files_of g.D.Depot.disk a.depots.now

use Rattle.metaedit_top.specs.Batch.{file_request}
use Rattle.metaedit_top.proofs.Starts.{begun_at}
use Rattle.metaedit_top.proofs.batch.start_at.Goals as goal

pub returns-clause-begun : goal.returns-clause-begun
returns-clause-begun g c =
    begun_at g.D.Depot.disk (file_request c.args.edit.now c.args.file.now) c.args.depots.now c.args.i c.index-depots-i.result c.start_file.new.depot
    c.requires c.start_file.result c.start_file.ensures.begun

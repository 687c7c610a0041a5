use Rattle.std.proofs.Common.{sym, ap, ◌∙◌}
use Rattle.metaedit_top.specs.BatchWords.{batch_in}
use Rattle.metaedit_top.specs.Words.{edit_of}
use Rattle.metaedit_top.proofs.BatchEnds.{files_counted}
use Rattle.metaedit_top.proofs.Starts.{all_stay, starts_by}
use Rattle.metaedit_top.proofs.batch.start.Goals as goal

pub start_files-requires : goal.start_files-requires
start_files-requires g c =
    c.requires.2 ∙ sym (files_counted c.args.words.now (batch_in c.in-Some.field-0) c.requires.0 c.requires.1 c.in-Some.ensures)

pub returns-clause-starts : goal.returns-clause-starts
returns-clause-starts g c =
    starts_by g.D.Depot.disk c.args.words.now (batch_in c.in-Some.field-0) c.in-Some.ensures c.in-Ok.edit (ap edit_of (sym c.from_ref.ensures.value) ∙ c.in-Ok.ensures)
    c.args.depots.now c.start_files.new.depots c.start_files.result c.start_files.ensures.begun c.start_files.ensures.texts c.start_files.ensures.left

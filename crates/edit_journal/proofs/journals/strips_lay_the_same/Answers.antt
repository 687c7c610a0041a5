use Rattle.edit_journal.proofs.Laws.{journal_spelled, most_strips_of, length-spelled}
use Rattle.edit_journal.proofs.journals.strips_lay_the_same.Goals as goal

pub returns : goal.returns
returns c = record { journal = journal_spelled; few = most_strips_of; len = length-spelled }

use Rattle.info_list.proofs.Changed.{edited_list, fresh_list, read_tokens}
use Rattle.info_list.proofs.lists_are_edited.Goals as goal

pub returns-clause-edited : goal.returns-clause-edited
returns-clause-edited c = edited_list

pub returns-clause-fresh : goal.returns-clause-fresh
returns-clause-fresh c = fresh_list

pub returns-clause-marks : goal.returns-clause-marks
returns-clause-marks c = read_tokens

use Rattle.core_table.proofs.Names.{named_text, text_named}
use Rattle.core_table.proofs.names_are_read_back.Goals as goal

pub returns-clause-named : goal.returns-clause-named
returns-clause-named c = named_text

pub returns-clause-told : goal.returns-clause-told
returns-clause-told c = text_named

use Rattle.field_model.proofs.Names.{named_text, text_named}
use Rattle.field_model.proofs.texts_are_names.Goals as goal

pub returns-clause-read : goal.returns-clause-read
returns-clause-read c = named_text

pub returns-clause-written : goal.returns-clause-written
returns-clause-written c = text_named

use Rattle.std.proofs.Common.{take, sym, ◌∙◌}
use Rattle.metaedit_top.proofs.ItemWords.{is_named}
use Rattle.metaedit_top.proofs.words.read_item.Goals as goal

pub returns-in-Ok-clause-named : goal.returns-in-Ok-clause-named
returns-in-Ok-clause-named c = is_named (take c.in-Some.k c.args.word.now) c.in-Some-field_name.name (sym c.field_name.ensures ∙ c.in-Some-field_name.is)

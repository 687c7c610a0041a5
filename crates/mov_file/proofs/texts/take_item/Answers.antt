use Rattle.mov_file.proofs.Grown.{user_lawful}
use Rattle.mov_file.proofs.texts.take_item.Goals as goal

pub returns-clause-lawful : goal.returns-clause-lawful
returns-clause-lawful g c = user_lawful c.args.fields.now c.add_texts.new.fields c.args.atom.now.kind c.as_slice-2.result.now c.in-Ok-add_texts.ensures

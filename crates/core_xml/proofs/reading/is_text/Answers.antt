use Rattle.core_edit.proofs.Letters.{told_utf8}
use Rattle.core_xml.proofs.reading.is_text.Goals as goal

pub returns : goal.returns
returns c = told_utf8 c.is_utf8.result c.args.line.now c.is_utf8.ensures

use Rattle.std.proofs.Common.{sym, true, false}
use Rattle.core_edit.proofs.Hex.{length-hex_text}
use Rattle.core_edit.proofs.value_text.hex_len.Goals as goal

pub returns-clause-upper : goal.returns-clause-upper
returns-clause-upper c = sym (length-hex_text true c.args.raw.now)

pub returns-clause-lower : goal.returns-clause-lower
returns-clause-lower c = sym (length-hex_text false c.args.raw.now)

use Rattle.std.proofs.Common.{sym, ◌∙◌, arith, ◌*◌, ◌<◌, length}
use Rattle.core_edit.proofs.Hex.{length-hex_text, hex_text_at}
use Rattle.core_edit.proofs.value_text.hex_byte.Goals as goal

pub bounds-raw-at : goal.bounds-raw-at
bounds-raw-at c = omega (arith, c.requires, length-hex_text c.args.upper c.args.raw.now)

pub returns : goal.returns
returns c =
    let inside : c.args.at < length c.args.raw.now * 2 = omega (arith, c.requires, length-hex_text c.args.upper c.args.raw.now) in
    c.hex_digit.ensures ∙ sym (hex_text_at c.args.upper c.args.raw.now c.args.at inside)

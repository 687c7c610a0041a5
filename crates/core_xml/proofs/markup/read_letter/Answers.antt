use Rattle.std.proofs.Common.{◌∙◌, sym, arith}
use Rattle.core_xml.proofs.Marks.{read_one}
use Rattle.core_xml.proofs.markup.read_letter.Goals as goal

pub returns-in-Ok : goal.returns-in-Ok
returns-in-Ok c =
    read_one c.args.text.now.items c.push.new.self.items c.args.marked.now c.in-Some.byte c.more_letters.result c.args.more c.requires (omega (arith, c.if-more-gt0.false))
    c.in-Ok.ensures.items (sym c.in-Some.is ∙ c.first_byte.ensures) c.more_letters.ensures

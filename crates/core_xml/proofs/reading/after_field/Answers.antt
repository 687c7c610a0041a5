use Rattle.std.proofs.Common.{rules, ◌≡◌, Err}
use Rattle.core_table.specs.declared.fault.TableFault.TheVariants.{Memory}
use Rattle.core_xml.specs.Lines.{field_line}
use Rattle.core_xml.specs.Table.{after_field}
use Rattle.core_xml.proofs.Steps.{out_of_memory}
use Rattle.core_xml.proofs.reading.after_field.Goals as goal

pub returns-in_err-said : goal.returns-in_err-said
returns-in_err-said c =
    let none : c.from_residual.result ≡ Err Memory = search rules in
    out_of_memory (after_field c.args.reading c.args.n (field_line c.args.line.now)) _ none

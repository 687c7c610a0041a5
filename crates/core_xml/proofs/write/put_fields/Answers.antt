use Rattle.std.proofs.Common.{◌≡◌, sym, arith, Some}
use Rattle.std.specs.Prelude.{slice_get}
use Rattle.std.proofs.lemmas.Option.{slice_get_within}
use Rattle.part_tree.specs.Fields.{names, values}
use Rattle.core_xml.proofs.Writing.{lines_end, lines_more}
use Rattle.core_xml.proofs.write.put_fields.Goals as goal

pub names-preserved : goal.names-preserved
names-preserved c =
    let ns = names c.args.fields.now in
    let at : slice_get ns c.names.k ≡ Some c.in-Some.name.now = sym c.in-Some.ensures.name in
    record {
      inside = omega (arith, slice_get_within ns c.names.k c.in-Some.name.now at);
      text = lines_more (values c.args.fields.now) ns c.names.k c.in-Some.name.now _ _ _ at c.in_ok-put_field.ensures c.names.invariant.text;
    }

pub returns : goal.returns
returns c =
    lines_end (values c.args.fields.now) (names c.args.fields.now) c.names.k _ _ (sym c.in_default.ensures.name) c.names.invariant.text

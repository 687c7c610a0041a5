use Rattle.std.proofs.Common.{◌≡◌, rules, sym, arith, Some, None}
use Rattle.std.specs.Prelude.{slice_get}
use Rattle.std.proofs.lemmas.Option.{slice_get_within}
use Rattle.part_tree.specs.Fields.{names, values}
use Rattle.me_report.specs.Report.{field_lines}
use Rattle.me_report.proofs.Rest.{next_lines, last_lines}
use Rattle.me_report.proofs.show.put_fields.Goals as goal

pub overflow_add-k : goal.overflow_add-k
overflow_add-k c =
    let at : slice_get (names c.args.fields.now) c.names.k ≡ Some c.in-Some.name.now = sym c.in-Some.ensures.name in
    let inside = slice_get_within (names c.args.fields.now) c.names.k c.in-Some.name.now at in
    omega (arith, c.name_at.ensures.few, inside)

pub names-smaller : goal.names-smaller
names-smaller c =
    let at : slice_get (names c.args.fields.now) c.names.k ≡ Some c.in-Some.name.now = sym c.in-Some.ensures.name in
    let inside = slice_get_within (names c.args.fields.now) c.names.k c.in-Some.name.now at in
    omega (arith, inside)

pub names-preserved : goal.names-preserved
names-preserved c =
    let at : slice_get (names c.args.fields.now) c.names.k ≡ Some c.in-Some.name.now = sym c.in-Some.ensures.name in
    record {
      inside = omega (arith, slice_get_within (names c.args.fields.now) c.names.k c.in-Some.name.now at);
      lines = next_lines (field_lines (values c.args.fields.now)) (names c.args.fields.now) c.names.k c.in-Some.name.now c.names.out.items c.put_field.new.out.items _ at (search rules) c.names.invariant.lines;
    }

pub returns : goal.returns
returns c =
    let none : slice_get (names c.args.fields.now) c.names.k ≡ None = sym c.in_default.ensures.name in
    last_lines (field_lines (values c.args.fields.now)) (names c.args.fields.now) c.names.k c.names.out.items _ none c.names.invariant.lines

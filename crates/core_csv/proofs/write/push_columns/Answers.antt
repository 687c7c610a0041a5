use Rattle.std.proofs.Common.{◌≡◌, rules, sym, arith, Some}
use Rattle.std.specs.Prelude.{slice_get, is_some}
use Rattle.std.proofs.lemmas.Option.{slice_get_within}
use Rattle.part_tree.specs.Fields.{names, values}
use Rattle.escapes.specs.Escapes.{escaped}
use Rattle.core_edit.specs.Exported.{label, shown_in, table_text}
use Rattle.core_csv.proofs.Written.{kept_end, kept_more}
use Rattle.core_csv.proofs.write.push_columns.Goals as goal

pub overflow_add-k : goal.overflow_add-k
overflow_add-k c =
    let at : slice_get (names c.args.fields.now) c.names.k ≡ Some c.in-Some.name.now = sym c.in-Some.ensures.name in
    let inside = slice_get_within (names c.args.fields.now) c.names.k c.in-Some.name.now at in
    search (rules, c.in-Some.ensures.few, inside)

pub names-smaller : goal.names-smaller
names-smaller c =
    let at : slice_get (names c.args.fields.now) c.names.k ≡ Some c.in-Some.name.now = sym c.in-Some.ensures.name in
    omega (arith, slice_get_within (names c.args.fields.now) c.names.k c.in-Some.name.now at)

pub names-preserved : goal.names-preserved
names-preserved c =
    let f = values c.args.fields.now in
    let ns = names c.args.fields.now in
    let at : slice_get ns c.names.k ≡ Some c.in-Some.name.now = sym c.in-Some.ensures.name in
    let did = c.in_ok-push_column.ensures in
    record {
      inside = omega (arith, slice_get_within ns c.names.k c.in-Some.name.now at);
      heads = kept_more (λ name. is_some (table_text f name)) label ns c.names.k c.in-Some.name.now _ _ _ at did.names c.names.invariant.heads;
      cells = kept_more (λ name. is_some (table_text f name)) (λ name. escaped (shown_in f name)) ns c.names.k c.in-Some.name.now _ _ _ at did.texts c.names.invariant.cells;
      whole_header = did.whole_header;
      whole_row = did.whole_row;
    }

pub returns-clause-names : goal.returns-clause-names
returns-clause-names c =
    let f = values c.args.fields.now in
    kept_end (λ name. is_some (table_text f name)) label (names c.args.fields.now) c.names.k _ _ (sym c.in_default.ensures.name) c.names.invariant.heads

pub returns-clause-texts : goal.returns-clause-texts
returns-clause-texts c =
    let f = values c.args.fields.now in
    kept_end (λ name. is_some (table_text f name)) (λ name. escaped (shown_in f name)) (names c.args.fields.now) c.names.k _ _ (sym c.in_default.ensures.name) c.names.invariant.cells

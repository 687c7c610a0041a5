use Rattle.std.proofs.Common.{◌≡◌, ◌≤◌, ◌+◌, ◌-◌, ◌^◌, ◌∙◌, ℕ, List, length, map, ap, subst, sym, arith}
use Rattle.std.specs.Prelude.{OnOk}
use Rattle.std.specs.List.{AllByRecursion}
use Rattle.me_disk.proofs.Holds.{holds_on}
use Rattle.part_tree.specs.declared.names.Span.{Span}
use Rattle.opendml_index.specs.Checks.{EndInside}
use Rattle.avi_model.specs.Map.{bytes_in}
use Rattle.avi_names.specs.Names.{names_of}
use Rattle.info_list.specs.Fields.{Grows}
use Rattle.avi_file.specs.Names.{stream_held}
use Rattle.avi_file.proofs.Named.{each_by}
use Rattle.avi_file.proofs.Streamed.{holds_before}
use Rattle.avi_file.proofs.names.read_stream.Goals as goal

pub read_names-requires-clause-inside : goal.read_names-requires-clause-inside
read_names-requires-clause-inside g c b held =
    let holds = holds_before (g.D.Depot.disk c.args.depot.now) (g.D.Depot.disk c.strl_names.new.depot) b c.strl_names.ensures.reads held in
    let end : c.args.strl.at + c.args.strl.len ≤ length b = omega (arith, c.requires.inside b holds) in
    subst (AllByRecursion (EndInside (length b))) (sym c.deref.ensures.value) (each_by (c.args.strl.at + c.args.strl.len) (length b) c.in-Ok.names.items end c.in-Ok.ensures.inside)

pub read_names-requires-clause-small : goal.read_names-requires-clause-small
read_names-requires-clause-small g c =
    let end : c.args.strl.at + c.args.strl.len ≤ 2 ^ 63 - 1 = omega (arith, c.requires.small) in
    subst (AllByRecursion (EndInside (2 ^ 63 - 1))) (sym c.deref.ensures.value) (each_by (c.args.strl.at + c.args.strl.len) (2 ^ 63 - 1) c.in-Ok.names.items end c.in-Ok.ensures.inside)

pub returns-clause-names : goal.returns-clause-names
returns-clause-names g c b holds inside =
    let held = holds_on (g.D.Depot.disk c.args.depot.now) (g.D.Depot.disk c.strl_names.new.depot) b c.strl_names.ensures.reads holds in
    let are : c.deref.result.now ≡ names_of b c.args.strl = c.deref.ensures.value ∙ c.in-Ok.ensures.names b holds in
    subst (λ (ss : List Span). OnOk c.read_names.result (Grows c.args.fields.now c.read_names.new.fields (stream_held c.args.stream (map (bytes_in b) ss)))) are (c.read_names.ensures.names b held)

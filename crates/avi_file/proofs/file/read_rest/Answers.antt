use Rattle.std.proofs.Common.{◌∙◌, sym, subst, ap, arith}
use Rattle.std.specs.List.{AllByRecursion}
use Rattle.me_disk.proofs.Holds.{holds_on}
use Rattle.part_tree.specs.Ranges.{Ascends}
use Rattle.opendml_index.specs.Checks.{EndInside}
use Rattle.avi_file.specs.Walk.{essence_of, is_essence}
use Rattle.avi_file.proofs.Staged.{all_none, ascends, each_end, rest_fails, spans_fit, tables_refuse}
use Rattle.avi_file.proofs.Streamed.{holds_before}
use Rattle.avi_file.proofs.file.read_rest.Goals as goal

pub read_tables-requires-clause-front : goal.read_tables-requires-clause-front
read_tables-requires-clause-front g c b holds =
    let forms = c.requires.forms b holds in
    record { tests = forms.tests; parts = c.deref.ensures.value ∙ forms.parts }

pub returns-in-Err-clause-avi : goal.returns-in-Err-clause-avi
returns-in-Err-clause-avi g c b holds = tables_refuse b c.in-Err.fault (c.requires.forms b holds).tests (c.in-Err.ensures.tables b holds)

pub read_fields-requires-clause-parts : goal.read_fields-requires-clause-parts
read_fields-requires-clause-parts g c b held =
    let holds = holds_before (g.D.Depot.disk c.args.depot.now) (g.D.Depot.disk c.read_tables.new.depot) b c.read_tables.ensures.reads held in
    c.deref-2.ensures.value ∙ (c.requires.forms b holds).parts

pub read_fields-requires-clause-supported : goal.read_fields-requires-clause-supported
read_fields-requires-clause-supported g c b held =
    let holds = holds_before (g.D.Depot.disk c.args.depot.now) (g.D.Depot.disk c.read_tables.new.depot) b c.read_tables.ensures.reads held in
    all_none b (c.requires.forms b holds).tests (c.in-Ok.ensures.tables b holds).tests

pub read_fields-requires-clause-streams : goal.read_fields-requires-clause-streams
read_fields-requires-clause-streams g c b held =
    let holds = holds_before (g.D.Depot.disk c.args.depot.now) (g.D.Depot.disk c.read_tables.new.depot) b c.read_tables.ensures.reads held in
    c.deref-3.ensures.value ∙ (c.requires.forms b holds).streams

pub read_fields-requires-clause-whole : goal.read_fields-requires-clause-whole
read_fields-requires-clause-whole g c b held = c.requires.whole b (holds_before (g.D.Depot.disk c.args.depot.now) (g.D.Depot.disk c.read_tables.new.depot) b c.read_tables.ensures.reads held)

pub returns-in-Err-read_fields-clause-avi : goal.returns-in-Err-read_fields-clause-avi
returns-in-Err-read_fields-clause-avi g c b holds =
    let held = holds_on (g.D.Depot.disk c.args.depot.now) (g.D.Depot.disk c.read_tables.new.depot) b c.read_tables.ensures.reads holds in
    rest_fails b c.in-Err-read_fields.fault (c.in-Err-read_fields.ensures.fields b held)

pub returns-in-Ok-read_fields-clause-avi : goal.returns-in-Ok-read_fields-clause-avi
returns-in-Ok-read_fields-clause-avi g c b holds =
    let held = holds_on (g.D.Depot.disk c.args.depot.now) (g.D.Depot.disk c.read_tables.new.depot) b c.read_tables.ensures.reads holds in
    let forms = c.requires.forms b holds in
    let tables = c.in-Ok.ensures.tables b holds in
    record {
      supported = all_none b forms.tests tables.tests;
      len = c.requires.whole b holds;
      forms = forms.spans;
      parts = forms.parts;
      field_values = c.in-Ok-read_fields.ensures.fields b held;
      movis = tables.movis;
      idx1 = tables.idx1;
      supers_are = tables.supers_are;
      standards_are = tables.standards_are;
      entries = tables.entries;
      streams = forms.streams;
    }

pub returns-in-Ok-read_fields-clause-sound : goal.returns-in-Ok-read_fields-clause-sound
returns-in-Ok-read_fields-clause-sound g c =
    let parts = c.args.forms.top.reading.parts.items in
    let same = c.in-Ok.ensures.movis ∙ ap essence_of c.deref.ensures.value in
    let ends = each_end c.args.len c.args.len (essence_of parts) (omega arith) (spans_fit (λ p. is_essence p.role) c.args.len parts (c.requires.placed).fit) in
    record {
      small = c.requires.small;
      parts_placed = c.requires.placed;
      movis_ascend = subst (Ascends 0) (sym same) (ascends 0 c.args.len (essence_of parts) (c.requires.placed).essence);
      movis_inside = subst (AllByRecursion (EndInside c.args.len)) (sym same) ends;
      idx1_inside = c.in-Ok.ensures.inside;
      supers_stand = c.in-Ok.ensures.supers;
      standards_stand = c.in-Ok.ensures.standards;
      lawful = c.in-Ok-read_fields.ensures.lawful;
    }

use Rattle.std.proofs.Common.{◌≡◌, ◌∙◌, ◌-◌, ◌^◌, ℕ, length, sym, subst, arith}
use Rattle.std.specs.List.{AllByRecursion}
use Rattle.me_disk.proofs.Holds.{holds_on}
use Rattle.opendml_index.specs.Checks.{EndInside}
use Rattle.avi_file.specs.Fields.{OnlyTexts, infos_of}
use Rattle.avi_file.specs.Walk.{is_items}
use Rattle.avi_file.proofs.Fielded.{fields_fail}
use Rattle.avi_file.proofs.Grown.{none_only, only_lawful}
use Rattle.avi_file.proofs.Named.{all_read, names_fail, strls_end, strls_few, strls_inside}
use Rattle.avi_file.proofs.Streamed.{holds_before}
use Rattle.avi_file.proofs.Staged.{each_end, spans_fit}
use Rattle.avi_file.proofs.file.read_fields.Goals as goal

pub read_lists-requires-clause-inside : goal.read_lists-requires-clause-inside
read_lists-requires-clause-inside g c b holds =
    let is : c.deref.result.now ≡ infos_of c.args.parts.now = c.deref.ensures.value ∙ c.in-Ok.ensures in
    subst (AllByRecursion (EndInside (length b))) (sym is)
    (each_end c.args.len (length b) (infos_of c.args.parts.now) (omega (arith, c.requires.whole b holds)) (spans_fit (λ p. is_items p.role) c.args.len c.args.parts.now (c.requires.placed).fit))

pub read_lists-requires-clause-small : goal.read_lists-requires-clause-small
read_lists-requires-clause-small g c =
    let is : c.deref.result.now ≡ infos_of c.args.parts.now = c.deref.ensures.value ∙ c.in-Ok.ensures in
    subst (AllByRecursion (EndInside (2 ^ 63 - 1))) (sym is)
    (each_end c.args.len (2 ^ 63 - 1) (infos_of c.args.parts.now) (omega (arith, c.requires.small)) (spans_fit (λ p. is_items p.role) c.args.len c.args.parts.now (c.requires.placed).fit))

pub returns-in-Err-read_lists-clause-fields : goal.returns-in-Err-read_lists-clause-fields
returns-in-Err-read_lists-clause-fields g c b holds =
    let is : c.deref.result.now ≡ infos_of c.args.parts.now = c.deref.ensures.value ∙ c.in-Ok.ensures in
    fields_fail b c.args.parts.now c.deref.result.now c.new-fields.result c.read_lists.new.fields c.in-Err-read_lists.fault (c.requires.parts b holds) is (c.requires.supported b holds) (c.in-Err-read_lists.ensures.lists b holds)

pub read_streams-requires-clause-inside : goal.read_streams-requires-clause-inside
read_streams-requires-clause-inside g c b held =
    let holds = holds_before (g.D.Depot.disk c.args.depot.now) (g.D.Depot.disk c.read_lists.new.depot) b c.read_lists.ensures.reads held in
    omega (arith, c.requires.whole b holds)

pub read_streams-requires-clause-lists : goal.read_streams-requires-clause-lists
read_streams-requires-clause-lists g c b held =
    let holds = holds_before (g.D.Depot.disk c.args.depot.now) (g.D.Depot.disk c.read_lists.new.depot) b c.read_lists.ensures.reads held in
    subst (λ (n : ℕ). AllByRecursion (EndInside n) c.args.streams.now) (sym (c.requires.whole b holds)) (strls_inside b c.args.streams.now (c.requires.streams b holds))

pub read_streams-requires-clause-whole : goal.read_streams-requires-clause-whole
read_streams-requires-clause-whole g c b held =
    let holds = holds_before (g.D.Depot.disk c.args.depot.now) (g.D.Depot.disk c.read_lists.new.depot) b c.read_lists.ensures.reads held in
    strls_end b c.args.streams.now (c.requires.streams b holds) (c.requires.supported b holds)

pub read_streams-requires-clause-few : goal.read_streams-requires-clause-few
read_streams-requires-clause-few g c b held =
    let holds = holds_before (g.D.Depot.disk c.args.depot.now) (g.D.Depot.disk c.read_lists.new.depot) b c.read_lists.ensures.reads held in
    strls_few b c.args.streams.now (c.requires.streams b holds) (c.requires.supported b holds)

pub returns-in-Err-read_streams-clause-fields : goal.returns-in-Err-read_streams-clause-fields
returns-in-Err-read_streams-clause-fields g c b holds = names_fail b c.in-Err-read_streams.fault c.in-Err-read_streams.ensures.why

pub returns-clause-fields : goal.returns-clause-fields
returns-clause-fields g c b holds =
    let held = holds_on (g.D.Depot.disk c.args.depot.now) (g.D.Depot.disk c.read_lists.new.depot) b c.read_lists.ensures.reads holds in
    let is : c.deref.result.now ≡ infos_of c.args.parts.now = c.deref.ensures.value ∙ c.in-Ok.ensures in
    all_read b c.args.parts.now c.deref.result.now c.args.streams.now c.new-fields.result c.read_lists.new.fields c.read_streams.new.fields (c.requires.parts b holds) is (c.requires.streams b holds) c.new-fields.ensures (c.in-Ok-read_lists.ensures.lists b holds)
    (c.in-Ok-read_streams.ensures.names b held)

pub returns-clause-lawful : goal.returns-clause-lawful
returns-clause-lawful g c = only_lawful c.read_streams.new.fields (c.in-Ok-read_streams.ensures.only (c.in-Ok-read_lists.ensures.only (subst OnlyTexts (sym c.new-fields.ensures) none_only)))

use Rattle.std.proofs.Common.{◌≡◌, ◌∙◌, ◌+◌, ◌-◌, ◌<◌, ◌≤◌, ◌^◌, length, drop, sym, ap, subst, arith}
use Rattle.std.specs.Prelude.{codes}
use Rattle.std.specs.List.{AllByRecursion}
use Rattle.part_tree.specs.declared.names.Span.{Span}
use Rattle.opendml_index.specs.Checks.{EndInside}
use Rattle.std.specs.declared.result.Result.TheVariants.{Ok, Err}
use Rattle.avi_file.specs.Chosen.{tables_with}
use Rattle.avi_file.specs.Entries.{ReadsEntries}
use Rattle.avi_file.specs.Indexes.{table_at}
use Rattle.avi_file.specs.Walk.{is_essence, essence_of}
use Rattle.avi_file.proofs.Parted.{essence_parts, old_parts}
use Rattle.avi_file.proofs.Staged.{each_end, each_least, first_end, head_none, head_some, spans_fit}
use Rattle.avi_file.proofs.Tabled.{finds_fault, finds_none, finds_one}
use Rattle.avi_file.proofs.tables.find_old.Goals as goal

-- the tables with this identifier
pub returns-in-None-clause-old : goal.returns-in-None-clause-old
returns-in-None-clause-old g c b holds =
    let front = c.requires.front b holds in
    let is : c.deref.result.now ≡ tables_with (codes "idx1") c.args.parts.now = c.deref.ensures.value ∙ c.in-Ok.ensures in
    let none = head_none c.deref.result.now (sym c.head_range.ensures ∙ c.in-None.is) in
    finds_none b (sym (ap (tables_with (codes "idx1")) front.parts ∙ old_parts b) ∙ sym is ∙ none)

pub check_old-requires-clause-inside : goal.check_old-requires-clause-inside
check_old-requires-clause-inside g c b holds =
    let is : c.deref.result.now ≡ tables_with (codes "idx1") c.args.parts.now = c.deref.ensures.value ∙ c.in-Ok.ensures in
    let split = head_some c.deref.result.now c.in-Some.idx (sym c.head_range.ensures ∙ c.in-Some.is) in
    let all = each_end c.args.len (length b) (tables_with (codes "idx1") c.args.parts.now) (omega (arith, c.requires.whole b holds)) (spans_fit _ c.args.len c.args.parts.now (c.requires.placed).fit) in
    (subst (AllByRecursion (EndInside (length b))) (sym is ∙ split) all).0

pub check_old-requires-clause-small : goal.check_old-requires-clause-small
check_old-requires-clause-small g c =
    let is : c.deref.result.now ≡ tables_with (codes "idx1") c.args.parts.now = c.deref.ensures.value ∙ c.in-Ok.ensures in
    let split = head_some c.deref.result.now c.in-Some.idx (sym c.head_range.ensures ∙ c.in-Some.is) in
    let all = each_end c.args.len c.args.len (tables_with (codes "idx1") c.args.parts.now) (omega arith) (spans_fit _ c.args.len c.args.parts.now (c.requires.placed).fit) in
    let inside = (subst (AllByRecursion (EndInside c.args.len)) (sym is ∙ split) all).0 in
    omega (arith, inside, c.requires.small)

pub check_old-requires-clause-least : goal.check_old-requires-clause-least
check_old-requires-clause-least g c =
    let is : c.deref.result.now ≡ tables_with (codes "idx1") c.args.parts.now = c.deref.ensures.value ∙ c.in-Ok.ensures in
    let split = head_some c.deref.result.now c.in-Some.idx (sym c.head_range.ensures ∙ c.in-Some.is) in
    let all = each_least c.args.len (tables_with (codes "idx1") c.args.parts.now) (spans_fit _ c.args.len c.args.parts.now (c.requires.placed).fit) in
    (subst (AllByRecursion (λ s. 8 ≤ s.at)) (sym is ∙ split) all).0

pub check_old-requires-clause-movi : goal.check_old-requires-clause-movi
check_old-requires-clause-movi g c b holds =
    let all = each_end c.args.len (length b) (essence_of c.args.parts.now) (omega (arith, c.requires.whole b holds)) (spans_fit (λ p. is_essence p.role) c.args.len c.args.parts.now (c.requires.placed).fit) in
    subst (λ (s : Span). s.at + s.len ≤ length b) (sym c.first_range.ensures) (first_end (length b) c.args.movis.now (subst (AllByRecursion (EndInside (length b))) (sym c.requires.movis) all))

pub check_old-requires-clause-movi_small : goal.check_old-requires-clause-movi_small
check_old-requires-clause-movi_small g c =
    let all = each_end c.args.len (2 ^ 63 - 1) (essence_of c.args.parts.now) (omega (arith, c.requires.small)) (spans_fit (λ p. is_essence p.role) c.args.len c.args.parts.now (c.requires.placed).fit) in
    let end = first_end (2 ^ 63 - 1) c.args.movis.now (subst (AllByRecursion (EndInside (2 ^ 63 - 1))) (sym c.requires.movis) all) in
    subst (λ (s : Span). s.at + s.len < 2 ^ 63) (sym c.first_range.ensures) (omega (arith, end))

pub returns-in-Err-check_old-clause-old : goal.returns-in-Err-check_old-clause-old
returns-in-Err-check_old-clause-old g c b holds =
    let front = c.requires.front b holds in
    let is : c.deref.result.now ≡ tables_with (codes "idx1") c.args.parts.now = c.deref.ensures.value ∙ c.in-Ok.ensures in
    let split = head_some c.deref.result.now c.in-Some.idx (sym c.head_range.ensures ∙ c.in-Some.is) in
    let here = sym (ap (tables_with (codes "idx1")) front.parts ∙ old_parts b) ∙ sym is ∙ split in
    let same = c.requires.movis ∙ ap essence_of front.parts ∙ essence_parts b front.tests in
    finds_fault b c.in-Some.idx (drop 1 c.deref.result.now) here c.args.movis.now c.args.bodies.now c.in-Err-check_old.fault same (c.requires.bodies b holds)
    (subst (λ (s : Span). ReadsEntries b c.args.bodies.now s (table_at b c.in-Some.idx) (Err c.in-Err-check_old.fault)) c.first_range.ensures (c.in-Err-check_old.ensures.entries b holds))

pub returns-clause-old : goal.returns-clause-old
returns-clause-old g c b holds =
    let front = c.requires.front b holds in
    let is : c.deref.result.now ≡ tables_with (codes "idx1") c.args.parts.now = c.deref.ensures.value ∙ c.in-Ok.ensures in
    let split = head_some c.deref.result.now c.in-Some.idx (sym c.head_range.ensures ∙ c.in-Some.is) in
    let here = sym (ap (tables_with (codes "idx1")) front.parts ∙ old_parts b) ∙ sym is ∙ split in
    let same = c.requires.movis ∙ ap essence_of front.parts ∙ essence_parts b front.tests in
    finds_one b c.in-Some.idx (drop 1 c.deref.result.now) here c.args.movis.now c.args.bodies.now c.in-Ok-check_old.old same (c.requires.bodies b holds) c.in-Ok-check_old.ensures.body
    (subst (λ (s : Span). ReadsEntries b c.args.bodies.now s (table_at b c.in-Some.idx) (Ok c.in-Ok-check_old.old)) c.first_range.ensures (c.in-Ok-check_old.ensures.entries b holds))

pub returns-clause-inside : goal.returns-clause-inside
returns-clause-inside g c =
    let is : c.deref.result.now ≡ tables_with (codes "idx1") c.args.parts.now = c.deref.ensures.value ∙ c.in-Ok.ensures in
    let split = head_some c.deref.result.now c.in-Some.idx (sym c.head_range.ensures ∙ c.in-Some.is) in
    let all = each_end c.args.len c.args.len (tables_with (codes "idx1") c.args.parts.now) (omega arith) (spans_fit _ c.args.len c.args.parts.now (c.requires.placed).fit) in
    subst (EndInside c.args.len) (sym c.in-Ok-check_old.ensures.body) (subst (AllByRecursion (EndInside c.args.len)) (sym is ∙ split) all).0

pub returns-clause-few : goal.returns-clause-few
returns-clause-few g c =
    let is : c.deref.result.now ≡ tables_with (codes "idx1") c.args.parts.now = c.deref.ensures.value ∙ c.in-Ok.ensures in
    let split = head_some c.deref.result.now c.in-Some.idx (sym c.head_range.ensures ∙ c.in-Some.is) in
    let all = each_end c.args.len c.args.len (tables_with (codes "idx1") c.args.parts.now) (omega arith) (spans_fit _ c.args.len c.args.parts.now (c.requires.placed).fit) in
    let inside = (subst (AllByRecursion (EndInside c.args.len)) (sym is ∙ split) all).0 in
    omega (arith, inside, c.requires.small, c.in-Ok-check_old.ensures.few)

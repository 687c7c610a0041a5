use Rattle.std.proofs.Common.{◌≡◌, ◌∙◌, ◌-◌, ◌≤◌, ◌^◌, length, sym, ap, subst, arith}
use Rattle.std.specs.Prelude.{codes}
use Rattle.std.specs.List.{AllByRecursion}
use Rattle.part_tree.specs.Ranges.{Ascends}
use Rattle.opendml_index.specs.Checks.{EndInside}
use Rattle.avi_file.specs.Chosen.{tables_with}
use Rattle.avi_file.specs.Walk.{is_essence, essence_of}
use Rattle.avi_file.proofs.Parted.{essence_parts, index_parts}
use Rattle.avi_file.proofs.Staged.{ascends, each_end, each_least, spans_fit}
use Rattle.avi_file.proofs.Tabled.{found}
use Rattle.avi_file.proofs.tables.find_indexes.Goals as goal

pub read_indexes-requires-clause-ascend : goal.read_indexes-requires-clause-ascend
read_indexes-requires-clause-ascend g c = subst (Ascends 0) (sym c.requires.movis) (ascends 0 c.args.len (essence_of c.args.parts.now) (c.requires.placed).essence)

pub read_indexes-requires-clause-small : goal.read_indexes-requires-clause-small
read_indexes-requires-clause-small g c =
    subst (AllByRecursion (EndInside (2 ^ 63 - 1))) (sym c.requires.movis)
    (each_end c.args.len (2 ^ 63 - 1) (essence_of c.args.parts.now) (omega (arith, c.requires.small)) (spans_fit (λ p. is_essence p.role) c.args.len c.args.parts.now (c.requires.placed).fit))

pub read_indexes-requires-clause-inside : goal.read_indexes-requires-clause-inside
read_indexes-requires-clause-inside g c b holds =
    subst (AllByRecursion (EndInside (length b))) (sym c.requires.movis)
    (each_end c.args.len (length b) (essence_of c.args.parts.now) (omega (arith, c.requires.whole b holds)) (spans_fit (λ p. is_essence p.role) c.args.len c.args.parts.now (c.requires.placed).fit))

pub read_indexes-requires-clause-bodies : goal.read_indexes-requires-clause-bodies
read_indexes-requires-clause-bodies g c b holds =
    let is : c.deref.result.now ≡ tables_with (codes "indx") c.args.parts.now = c.deref.ensures.value ∙ c.in-Ok.ensures in
    subst (AllByRecursion (EndInside (length b))) (sym is)
    (each_end c.args.len (length b) (tables_with (codes "indx") c.args.parts.now) (omega (arith, c.requires.whole b holds)) (spans_fit _ c.args.len c.args.parts.now (c.requires.placed).fit))

pub read_indexes-requires-clause-bodies_small : goal.read_indexes-requires-clause-bodies_small
read_indexes-requires-clause-bodies_small g c =
    let is : c.deref.result.now ≡ tables_with (codes "indx") c.args.parts.now = c.deref.ensures.value ∙ c.in-Ok.ensures in
    subst (AllByRecursion (EndInside (2 ^ 63 - 1))) (sym is)
    (each_end c.args.len (2 ^ 63 - 1) (tables_with (codes "indx") c.args.parts.now) (omega (arith, c.requires.small)) (spans_fit _ c.args.len c.args.parts.now (c.requires.placed).fit))

pub read_indexes-requires-clause-least : goal.read_indexes-requires-clause-least
read_indexes-requires-clause-least g c =
    let is : c.deref.result.now ≡ tables_with (codes "indx") c.args.parts.now = c.deref.ensures.value ∙ c.in-Ok.ensures in
    subst (AllByRecursion (λ s. 8 ≤ s.at)) (sym is) (each_least c.args.len (tables_with (codes "indx") c.args.parts.now) (spans_fit _ c.args.len c.args.parts.now (c.requires.placed).fit))

pub returns-clause-indexes : goal.returns-clause-indexes
returns-clause-indexes g c b holds =
    let front = c.requires.front b holds in
    let is : c.deref.result.now ≡ tables_with (codes "indx") c.args.parts.now = c.deref.ensures.value ∙ c.in-Ok.ensures in
    found b c.args.movis.now c.deref.result.now c.read_indexes.result (c.requires.movis ∙ ap essence_of front.parts ∙ essence_parts b front.tests) (is ∙ ap (tables_with (codes "indx")) front.parts ∙ index_parts b) (c.read_indexes.ensures.indexes b holds)

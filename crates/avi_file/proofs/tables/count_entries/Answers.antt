use Rattle.std.proofs.Common.{◌∙◌, ◌+◌, ℕ, length, sym, ap, subst, arith}
use Rattle.std.specs.List.{AllByRecursion}
use Rattle.std.specs.declared.result.Result.TheVariants.{Ok, Err}
use Rattle.me_disk.proofs.Holds.{holds_on}
use Rattle.part_tree.specs.Ranges.{Ascends}
use Rattle.opendml_index.specs.Checks.{EndInside}
use Rattle.avi_file.specs.Entries.{AreWhole}
use Rattle.avi_file.specs.Walk.{is_essence, essence_of}
use Rattle.avi_file.proofs.Parted.{essence_parts}
use Rattle.avi_file.proofs.Staged.{all_counted, as_chunks, ascends, each_end, indexes_tested, old_fails, spans_fit, standards_fail}
use Rattle.avi_file.proofs.Tabled.{placed_whole}
use Rattle.avi_file.proofs.tables.count_entries.Goals as goal

pub check_standards-requires-clause-ascend : goal.check_standards-requires-clause-ascend
check_standards-requires-clause-ascend g c = subst (Ascends 0) (sym c.requires.movis) (ascends 0 c.args.len (essence_of c.args.parts.now) (c.requires.parts_placed).essence)

pub check_standards-requires-clause-movis : goal.check_standards-requires-clause-movis
check_standards-requires-clause-movis g c b holds =
    subst (AllByRecursion (EndInside (length b))) (sym c.requires.movis)
    (each_end c.args.len (length b) (essence_of c.args.parts.now) (omega (arith, c.requires.whole b holds)) (spans_fit (λ p. is_essence p.role) c.args.len c.args.parts.now (c.requires.parts_placed).fit))

pub check_standards-requires-clause-whole : goal.check_standards-requires-clause-whole
check_standards-requires-clause-whole g c b holds =
    let front = c.requires.front b holds in
    let is = c.requires.indexes b holds in
    let same = c.requires.movis ∙ ap essence_of front.parts ∙ essence_parts b front.tests in
    let ends = each_end c.args.len (length b) (essence_of c.args.parts.now) (omega (arith, c.requires.whole b holds)) (spans_fit (λ p. is_essence p.role) c.args.len c.args.parts.now (c.requires.parts_placed).fit) in
    let inside = subst (AllByRecursion (EndInside (length b))) (sym c.requires.movis) ends in
    subst (AreWhole b) (sym (c.deref.ensures.value ∙ is.sorted_are)) (placed_whole b c.args.movis.now same inside (indexes_tested b c.args.placed.now is))

pub returns-in-Err-clause-entries : goal.returns-in-Err-clause-entries
returns-in-Err-clause-entries g c b holds =
    let front = c.requires.front b holds in
    let same = c.requires.movis ∙ ap essence_of front.parts ∙ essence_parts b front.tests in
    standards_fail b c.args.placed.now c.args.movis.now (c.requires.indexes b holds) same c.in-Err.fault
    (as_chunks b c.args.movis.now c.deref.result.now c.args.placed.now.sorted.items c.deref-2.result.now c.args.placed.now.bodies.items (Err c.in-Err.fault) c.deref.ensures.value c.deref-2.ensures.value (c.in-Err.ensures.entries b holds))

pub returns-in-Err-find_old-clause-entries : goal.returns-in-Err-find_old-clause-entries
returns-in-Err-find_old-clause-entries g c b holds =
    let front = c.requires.front b holds in
    let same = c.requires.movis ∙ ap essence_of front.parts ∙ essence_parts b front.tests in
    let held = holds_on (g.D.Depot.disk c.args.depot.now) (g.D.Depot.disk c.check_standards.new.depot) b c.check_standards.ensures.reads holds in
    old_fails b c.args.placed.now c.args.movis.now (c.requires.indexes b holds) same c.in-Ok.standards c.in-Err-find_old.fault
    (as_chunks b c.args.movis.now c.deref.result.now c.args.placed.now.sorted.items c.deref-2.result.now c.args.placed.now.bodies.items (Ok c.in-Ok.standards) c.deref.ensures.value c.deref-2.ensures.value (c.in-Ok.ensures.entries b holds))
    (c.in-Err-find_old.ensures.old b held)

pub returns-in-Ok-find_old-clause-entries : goal.returns-in-Ok-find_old-clause-entries
returns-in-Ok-find_old-clause-entries g c b holds =
    let front = c.requires.front b holds in
    let same = c.requires.movis ∙ ap essence_of front.parts ∙ essence_parts b front.tests in
    let held = holds_on (g.D.Depot.disk c.args.depot.now) (g.D.Depot.disk c.check_standards.new.depot) b c.check_standards.ensures.reads holds in
    all_counted b c.args.placed.now c.args.movis.now (c.requires.indexes b holds) same c.in-Ok.standards _ c.in-Ok-find_old.idx1
    (as_chunks b c.args.movis.now c.deref.result.now c.args.placed.now.sorted.items c.deref-2.result.now c.args.placed.now.bodies.items (Ok c.in-Ok.standards) c.deref.ensures.value c.deref-2.ensures.value (c.in-Ok.ensures.entries b holds))
    (c.in-Ok-find_old.ensures.old b held) (ap (λ (n : ℕ). c.in-Ok.standards + n) c.counted_in.ensures)

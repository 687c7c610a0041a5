use Rattle.std.proofs.Common.{◌∙◌, sym, subst, ap}
use Rattle.std.specs.Prelude.{not}
use Rattle.std.specs.List.{AllByRecursion}
use Rattle.me_disk.proofs.Holds.{holds_on}
use Rattle.avi_file.specs.Map.{IsBody}
use Rattle.avi_model.specs.Index.{indexes}
use Rattle.avi_file.specs.Order.{standards_in, supers_in}
use Rattle.avi_file.specs.Walk.{essence_of}
use Rattle.avi_file.proofs.Parted.{essence_parts}
use Rattle.avi_file.proofs.Staged.{count_fails, none_left, place_fails, sound_filter}
use Rattle.avi_file.proofs.Tabled.{same_standards, same_supers}
use Rattle.avi_file.proofs.tables.read_tables.Goals as goal

pub returns-in-Err-place_indexes-clause-tables : goal.returns-in-Err-place_indexes-clause-tables
returns-in-Err-place_indexes-clause-tables g c b holds = place_fails b c.in-Err-place_indexes.fault (c.in-Err-place_indexes.ensures.indexes b holds)

pub returns-in-Err-count_entries-clause-tables : goal.returns-in-Err-count_entries-clause-tables
returns-in-Err-count_entries-clause-tables g c b holds =
    let held = holds_on (g.D.Depot.disk c.args.depot.now) (g.D.Depot.disk c.place_indexes.new.depot) b c.place_indexes.ensures.reads holds in
    count_fails b c.in-Err-count_entries.fault (c.in-Ok-place_indexes.ensures.indexes b holds).tests (c.in-Err-count_entries.ensures.entries b held)

pub returns-in-Ok-standards_of-clause-tables : goal.returns-in-Ok-standards_of-clause-tables
returns-in-Ok-standards_of-clause-tables g c b holds =
    let held = holds_on (g.D.Depot.disk c.args.depot.now) (g.D.Depot.disk c.place_indexes.new.depot) b c.place_indexes.ensures.reads holds in
    let front = c.requires.front b holds in
    let placed = c.in-Ok-place_indexes.ensures.indexes b holds in
    let counted = c.in-Ok-count_entries.ensures.entries b held in
    record {
      tests = none_left b placed.tests counted.tests;
      movis = c.in-Ok.ensures ∙ ap essence_of front.parts ∙ essence_parts b front.tests;
      idx1 = counted.idx1;
      supers_are = c.in-Ok-supers_of.ensures ∙ ap supers_in (c.deref-3.ensures.value ∙ placed.chunks) ∙ same_supers (indexes b);
      standards_are = c.in-Ok-standards_of.ensures ∙ ap standards_in (c.deref-4.ensures.value ∙ placed.chunks) ∙ same_standards (indexes b);
      entries = counted.entries;
    }

pub returns-in-Ok-standards_of-clause-supers : goal.returns-in-Ok-standards_of-clause-supers
returns-in-Ok-standards_of-clause-supers g c =
    subst (AllByRecursion IsBody) (sym (c.in-Ok-supers_of.ensures ∙ ap supers_in c.deref-3.ensures.value)) (sound_filter (λ x. not x.standard) c.in-Ok-place_indexes.placed.chunks.items (c.in-Ok-place_indexes.ensures.sound).0)

pub returns-in-Ok-standards_of-clause-standards : goal.returns-in-Ok-standards_of-clause-standards
returns-in-Ok-standards_of-clause-standards g c =
    subst (AllByRecursion IsBody) (sym (c.in-Ok-standards_of.ensures ∙ ap standards_in c.deref-4.ensures.value)) (sound_filter (λ x. x.standard) c.in-Ok-place_indexes.placed.chunks.items (c.in-Ok-place_indexes.ensures.sound).0)

use Rattle.std.proofs.Common.{◌≡◌, ◌∙◌, ◌++◌, ℕ, List, Option, None, map, sym, ap, subst, arith}
use Rattle.std.specs.List.{AllByRecursion, flat_map}
use Rattle.part_tree.specs.Large.{Size}
use Rattle.part_tree.specs.Moves.{Move}
use Rattle.container_model.specs.Tests.{or_else}
use Rattle.carrier_model.specs.Gaps.{moves_of}
use Rattle.unit_plan.specs.Cuts.{SpansAscend, cut_in}
use Rattle.unit_plan.specs.Planned.{IsPlanOf}
use Rattle.avi_plan.specs.Patched.{FitsOn, placed_patches}
use Rattle.unit_plan.specs.Sized.{spliced_len}
use Rattle.unit_plan.specs.declared.cut.CutAt.{CutAt}
use Rattle.avi_plan.specs.Changes.{IsNamed, TellsFault, merged, refused}
use Rattle.avi_plan.specs.Form.{sizes}
use Rattle.avi_plan.specs.Planned.{Makes, too_long}
use Rattle.avi_plan.specs.Tables.{changes_of}
use Rattle.avi_plan.specs.declared.table.Change.{Change}
use Rattle.avi_plan.proofs.Spans.{fault_or, not_too_long, sizes_ascend, spans_low, too_long_is}
use Rattle.avi_plan.proofs.plan.plan_spans.Goals as goal

pub moves_between-requires : goal.moves_between-requires
moves_between-requires g c =
    subst (λ (ks : List CutAt). SpansAscend 0 ks c.args.form.now.len) (sym c.deref.ensures.value) (spans_low 0 8 c.args.form.now.len c.args.edits.items (omega arith) c.requires.ascend)

pub returns-in-Err-renumber_all-clause-large : goal.returns-in-Err-renumber_all-clause-large
returns-in-Err-renumber_all-clause-large g c = λ b movi base xs held long tabled told.
    subst (λ (ms : List Move). TellsFault (or_else (refused ms b (flat_map (changes_of ms base) xs)) (too_long (spliced_len c.args.form.now.len (sizes c.args.form.now c.args.size ++ c.args.edits.items)))) c.in-Err-renumber_all.fault) (c.in-Ok.ensures b long ∙ ap (λ (ks : List CutAt). moves_of (map (cut_in b) ks) c.args.form.now.len) c.deref.ensures.value)
    (fault_or (refused c.in-Ok.moves b (flat_map (changes_of c.in-Ok.moves base) xs)) (too_long (spliced_len c.args.form.now.len (sizes c.args.form.now c.args.size ++ c.args.edits.items))) c.in-Err-renumber_all.fault (c.in-Err-renumber_all.ensures.large b movi base xs held tabled told))

pub new_len-requires : goal.new_len-requires
new_len-requires g c =
    subst (λ (ks : List CutAt). SpansAscend 0 ks c.args.form.now.len) (sym (c.deref-2.ensures.value ∙ c.in-Ok-with_size.ensures)) (sizes_ascend c.args.form.now c.args.size c.args.form.now.len c.args.edits.items c.requires.ascend)

pub returns-then-len-gt-MOST_LEN-clause-large : goal.returns-then-len-gt-MOST_LEN-clause-large
returns-then-len-gt-MOST_LEN-clause-large g c = λ b movi base xs held long tabled told.
    let n = (spliced_len c.args.form.now.len (sizes c.args.form.now c.args.size ++ c.args.edits.items)) in
    let none = (subst (λ (ms : List Move). refused ms b (flat_map (changes_of ms base) xs) ≡ None) (c.in-Ok.ensures b long ∙ ap (λ (ks : List CutAt). moves_of (map (cut_in b) ks) c.args.form.now.len) c.deref.ensures.value) (c.in-Ok-renumber_all.ensures.large b movi base xs held tabled told)) in
    ap (λ (o : Option Size). or_else o (too_long n)) none ∙ too_long_is n c.in-Some.len (c.in-Some.ensures ∙ ap (spliced_len c.args.form.now.len) (c.deref-2.ensures.value ∙ c.in-Ok-with_size.ensures)) c.if-len-gt-MOST_LEN.true

pub plan_cuts-requires-clause-ascend : goal.plan_cuts-requires-clause-ascend
plan_cuts-requires-clause-ascend g c =
    subst (λ (ks : List CutAt). SpansAscend 0 ks c.args.form.now.len) (sym (c.deref-3.ensures.value ∙ c.in-Ok-with_size.ensures)) (sizes_ascend c.args.form.now c.args.size c.args.form.now.len c.args.edits.items c.requires.ascend)

pub plan_cuts-requires-clause-fits : goal.plan_cuts-requires-clause-fits
plan_cuts-requires-clause-fits g c = λ fits.
    subst (λ (ks : List CutAt). FitsOn c.args.form.now.len ks) (sym (c.deref-3.ensures.value ∙ c.in-Ok-with_size.ensures)) (c.requires.fits fits)

pub returns-clause-makes : goal.returns-clause-makes
returns-clause-makes g c = λ b movi base xs held long tabled told.
    let p = c.in-Ok-plan_cuts.plan in
    subst (λ (ms : List Move). Makes p b (merged ms b (sizes c.args.form.now c.args.size ++ c.args.edits.items) (flat_map (changes_of ms base) xs))) (c.in-Ok.ensures b long ∙ ap (λ (ks : List CutAt). moves_of (map (cut_in b) ks) c.args.form.now.len) c.deref.ensures.value)
    (subst (λ (cs : List Change). Makes p b (merged c.in-Ok.moves b (sizes c.args.form.now c.args.size ++ c.args.edits.items) cs)) (c.deref-4.ensures.value ∙ c.in-Ok-renumber_all.ensures.changes b movi base xs held tabled told)
    (subst (λ (ks : List CutAt). Makes p b (merged c.in-Ok.moves b ks c.deref-4.result.now)) (c.deref-3.ensures.value ∙ c.in-Ok-with_size.ensures) (c.in-Ok-plan_cuts.ensures.makes b long)))

pub returns-clause-large : goal.returns-clause-large
returns-clause-large g c = λ b movi base xs held long tabled told.
    let n = (spliced_len c.args.form.now.len (sizes c.args.form.now c.args.size ++ c.args.edits.items)) in
    let none = (subst (λ (ms : List Move). refused ms b (flat_map (changes_of ms base) xs) ≡ None) (c.in-Ok.ensures b long ∙ ap (λ (ks : List CutAt). moves_of (map (cut_in b) ks) c.args.form.now.len) c.deref.ensures.value) (c.in-Ok-renumber_all.ensures.large b movi base xs held tabled told)) in
    ap (λ (o : Option Size). or_else o (too_long n)) none ∙ not_too_long n c.in-Some.len (c.in-Some.ensures ∙ ap (spliced_len c.args.form.now.len) (c.deref-2.ensures.value ∙ c.in-Ok-with_size.ensures)) c.if-len-gt-MOST_LEN.false

pub returns-clause-form : goal.returns-clause-form
returns-clause-form g c =
    subst (λ (n : ℕ). IsPlanOf c.args.fits c.args.form.now.len n (placed_patches (sizes c.args.form.now c.args.size ++ c.args.edits.items)) c.in-Ok-plan_cuts.plan) (c.in-Some.ensures ∙ ap (spliced_len c.args.form.now.len) (c.deref-2.ensures.value ∙ c.in-Ok-with_size.ensures))
    (subst (λ (ks : List CutAt). IsPlanOf c.args.fits c.args.form.now.len c.in-Some.len (placed_patches ks) c.in-Ok-plan_cuts.plan) (c.deref-3.ensures.value ∙ c.in-Ok-with_size.ensures) c.in-Ok-plan_cuts.ensures.form)

pub returns-clause-belongs : goal.returns-clause-belongs
returns-clause-belongs g c = λ b held long.
    c.in-Ok-plan_cuts.ensures.belongs b long (subst (λ (cs : List Change). AllByRecursion (IsNamed c.in-Ok.moves b) cs) (sym c.deref-4.ensures.value) (c.in-Ok-renumber_all.ensures.named b held))

pub returns-clause-named : goal.returns-clause-named
returns-clause-named g c = λ b movi base xs held long tabled told.
    subst (λ (ms : List Move). AllByRecursion (IsNamed ms b) (flat_map (changes_of ms base) xs)) (c.in-Ok.ensures b long ∙ ap (λ (ks : List CutAt). moves_of (map (cut_in b) ks) c.args.form.now.len) c.deref.ensures.value)
    (subst (λ (cs : List Change). AllByRecursion (IsNamed c.in-Ok.moves b) cs) (c.in-Ok-renumber_all.ensures.changes b movi base xs held tabled told) (c.in-Ok-renumber_all.ensures.named b held))

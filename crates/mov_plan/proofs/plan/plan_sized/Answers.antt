use Rattle.std.proofs.Common.{arith, ap, sym, subst, ◌≡◌, ◌∙◌, ◌+◌, ◌++◌, ℕ, List, length, map, false}
use Rattle.std.specs.List.{flat_map}
use Rattle.part_tree.specs.Plans.{Belongs, CanRun, applied}
use Rattle.carrier_model.specs.Gaps.{moves_of}
use Rattle.container_model.specs.Splice.{Cut, splice}
use Rattle.field_model.specs.KindReads.{IsPlanOf}
use Rattle.mov_model.specs.After.{file_after, large_after}
use Rattle.mov_model.specs.Edited.{changes}
use Rattle.mov_model.specs.Kind.{mov_kind}
use Rattle.mov_model.specs.Movie.{movie_of}
use Rattle.mov_model.specs.New.{edit_cuts}
use Rattle.unit_plan.specs.declared.cut.CutAt.{CutAt}
use Rattle.unit_plan.specs.Cuts.{SpansAscend, cut_in, patch_of}
use Rattle.unit_plan.specs.Planned as Units
use Rattle.unit_plan.specs.Sized.{spliced_len}
use Rattle.mov_plan.specs.Frame.{size_cuts}
use Rattle.mov_plan.specs.Tables.{merged}
use Rattle.mov_plan.proofs.Narrow.{file_long, goes, large_told, makes, plan_is}
use Rattle.mov_plan.proofs.Oks.{ok_four}
use Rattle.mov_plan.proofs.Sized.{framed_ascend, framed_len}
use Rattle.mov_plan.proofs.plan.plan_sized.Goals as goal

pub plan_cuts-requires-clause-ascend : goal.plan_cuts-requires-clause-ascend
plan_cuts-requires-clause-ascend c =
    let m = c.args.moov.now in
    subst (λ (ks : List CutAt). SpansAscend 0 ks m.len) (sym (c.deref.ensures.value ∙ c.in_ok-cuts.ensures)) (framed_ascend m c.requires.sound c.args.sizes.now.body c.args.units.cuts.items c.requires.stands.ascend)

pub plan_cuts-requires-clause-new : goal.plan_cuts-requires-clause-new
plan_cuts-requires-clause-new c =
    let m = c.args.moov.now in
    let us = c.args.units.cuts.items in
    let base : c.args.sizes.now.len ≡ spliced_len m.len us = omega (arith, c.requires.sized.len) in
    base ∙ sym (framed_len m c.requires.sound c.args.sizes.now.body us c.requires.stands.ascend) ∙ ap (spliced_len m.len) (sym (c.deref.ensures.value ∙ c.in_ok-cuts.ensures))

pub returns-clause-plans : goal.returns-clause-plans
returns-clause-plans c = λ b e known narrow named.
    let m = c.args.moov.now in
    let ts = c.args.tables.now in
    let u = c.args.units in
    let us = c.args.units.cuts.items in
    let s = c.args.sizes.now in
    let ms = c.args.moves in
    let sound = c.requires.sound in
    let stands = c.requires.stands in
    let whole : length b ≡ m.len = sym known.moov.len in
    let n_is : s.body ≡ u.inner + m.left = omega (arith, c.requires.sized.body) in
    let cuts_are : c.deref.result.now ≡ size_cuts m (u.inner + m.left) ++ us = c.deref.ensures.value ∙ c.in_ok-cuts.ensures ∙ ap (λ (k : ℕ). size_cuts m k ++ us) n_is in
    let moves : ms ≡ moves_of (edit_cuts (movie_of b) (changes b e)) m.len = goes b e m ts u known sound stands ms c.requires.moves in
    let base : s.len ≡ spliced_len m.len us = omega (arith, c.requires.sized.len) in
    let long : s.len ≡ length (file_after b e) = base ∙ file_long b e m ts u known sound stands narrow in
    let small : large_after b e ≡ Rattle.std.proofs.Common.None = large_told b e m ts u known sound stands narrow s c.requires.sized ∙ c.requires.fit in
    ok_four CanRun (λ p. Belongs p b) (λ p. Units.IsRewrite s.len p → applied p b ≡ splice b (merged false ms b c.deref.result.now ts))
    (λ p. Units.IsPlanOf u.fits m.len s.len (flat_map patch_of c.deref.result.now) p) (λ p. IsPlanOf mov_kind b e p) c.plan_cuts.result
    (λ p can belongs applied form.
    plan_is b e m ts u known sound stands narrow s.len long p can belongs (subst (λ (ks : List CutAt). Units.IsPlanOf u.fits m.len s.len (flat_map patch_of ks) p) cuts_are form)
    (λ r. applied r ∙ ap (λ (ks : List CutAt). splice b (merged false ms b ks ts)) cuts_are ∙ makes b e m ts u known sound stands narrow ms moves named) small)
    c.plan_cuts.ensures.can (c.plan_cuts.ensures.belongs b whole named) (c.plan_cuts.ensures.applied b whole) c.plan_cuts.ensures.form

use Rattle.std.proofs.Common.{rules, arith, ap, sym, subst, ◌≡◌, ◌∙◌, ◌+◌, ◌++◌, ℕ, List, [], length, map, true, None}
use Rattle.std.specs.Prelude.{sum_by}
use Rattle.std.specs.List.{AllByRecursion}
use Rattle.part_tree.specs.Plans.{Belongs, CanRun, applied}
use Rattle.carrier_model.specs.Gaps.{moves_of}
use Rattle.container_model.specs.Splice.{splice}
use Rattle.container_model.proofs.Walk.{all_join}
use Rattle.field_model.specs.KindReads.{IsPlanOf}
use Rattle.mov_model.specs.After.{file_after, large_after}
use Rattle.mov_model.specs.Edited.{changes}
use Rattle.mov_model.specs.Kind.{mov_kind}
use Rattle.mov_model.specs.WideCuts.{wide_place}
use Rattle.mov_model.specs.Movie.{movie_of}
use Rattle.unit_plan.specs.declared.cut.CutAt.{CutAt}
use Rattle.unit_plan.specs.Planned.{IsRewrite}
use Rattle.mov_plan.specs.Frame.{size_cuts}
use Rattle.mov_plan.specs.Holders.{grown_by, head_in}
use Rattle.mov_plan.specs.Made.{IsKept, IsNamed}
use Rattle.mov_plan.specs.Moved.{IsKeptIn}
use Rattle.mov_plan.specs.Tables.{merged}
use Rattle.mov_plan.proofs.Heads.{tables_ascend, wide_mixed}
use Rattle.mov_plan.proofs.Held.{put_each}
use Rattle.mov_plan.proofs.Sized.{kept_all, kept_in_all, size_kept}
use Rattle.mov_plan.proofs.Wide.{file_long, heads_lie, large_told, makes, plan_is, spans}
use Rattle.mov_plan.proofs.Widens.{tables_lie}
use Rattle.mov_plan.proofs.plan.plan_grown.Goals as goal

pub widened_cuts-requires : goal.widened_cuts-requires
widened_cuts-requires g c =
    let m = c.args.moov.now in
    kept_all m.from (m.end + m.behind.gap) c.args.units.cuts.items c.requires.stands.ascend

pub rewrite-requires-clause-kept : goal.rewrite-requires-clause-kept
rewrite-requires-clause-kept g c =
    subst (AllByRecursion IsKept) (sym (c.deref-2.ensures.value ∙ c.in-Ok-framed.ensures))
    (all_join IsKept (size_cuts c.args.moov.now c.args.sizes.now.body) c.in-Ok.cuts.items (size_kept c.args.moov.now c.args.sizes.now.body) c.in-Ok.ensures.kept)

pub returns-clause-plans : goal.returns-clause-plans
returns-clause-plans g c = λ b e holds known hold wide.
    let m = c.args.moov.now in
    let ts = c.args.tables.now in
    let hs = c.args.holders.now in
    let u = c.args.units in
    let s = c.args.sizes.now in
    let sound = c.requires.sound in
    let stands = c.requires.stands in
    let sup = known.moov.supported.readable in
    let whole : length b ≡ m.len = sym known.moov.len in
    let all = spans b e m ts u known sound stands hs in
    let mix = wide_mixed b ts known.bytes sup (changes b e) known.tables hs hold (wide_place (movie_of b) (changes b e)) in
    let lie = tables_lie b e known.bytes sup ts known.tables in
    let cuts_are : c.in-Ok.cuts.items ≡ all = c.in-Ok.ensures.cuts (tables_ascend b ts known.bytes sup (changes b e) known.tables) in
    let heads : AllByRecursion (IsKeptIn m.len) (map (head_in ts) hs) = heads_lie b e m ts u known sound stands hs hold in
    let kept : AllByRecursion (IsKeptIn m.len) c.deref.result.now
    = subst (AllByRecursion (IsKeptIn m.len)) (sym (c.deref.ensures.value ∙ cuts_are)) (put_each (IsKeptIn m.len) u.cuts.items (map (head_in ts) hs) (kept_in_all m.from (m.end + m.behind.gap) m.len u.cuts.items (omega (arith, sound.inside)) stands.ascend) heads) in
    let moves : c.in-Ok-moves_widened.moves ≡ moves_of (merged true [] b all ts) m.len
    = c.in-Ok-moves_widened.ensures [] b whole kept lie ∙ ap (λ (ks : List CutAt). moves_of (merged true [] b ks ts) m.len) (c.deref.ensures.value ∙ cuts_are) in
    let n_is : s.body ≡ (u.inner + m.left) + sum_by grown_by ts = c.requires.sized.body in
    let all_are : c.deref-2.result.now ≡ size_cuts m ((u.inner + m.left) + sum_by grown_by ts) ++ all
    = c.deref-2.ensures.value ∙ c.in-Ok-framed.ensures ∙ ap (λ (k : ℕ). size_cuts m k ++ c.in-Ok.cuts.items) n_is
    ∙ ap (λ (ks : List CutAt). size_cuts m ((u.inner + m.left) + sum_by grown_by ts) ++ ks) cuts_are in
    let long : s.len ≡ length (file_after b e) = file_long b e m ts u known sound stands hs wide s c.requires.sized in
    let small : large_after b e ≡ None = large_told b e m ts u known sound stands hs wide s c.requires.sized ∙ c.requires.fit in
    let ms = c.in-Ok-moves_widened.moves in
    let yes : c.in-Ok-all_named.named ≡ true = search rules in
    let named = c.in-Ok-all_named.ensures.named b holds yes in
    let done = c.in-Ok-rewrite.ensures in
    plan_is b e wide s.len long c.in-Ok-rewrite.plan done.form (done.belongs b whole named)
    (done.applied b whole ∙ ap (λ (ks : List CutAt). splice b (merged true ms b ks ts)) all_are ∙ makes b e m ts u known sound stands hs mix wide ms moves named) small

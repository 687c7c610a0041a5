use Rattle.std.proofs.Common.{◌≡◌, ◌∙◌, ◌⊎◌, ◌+◌, ◌-◌, ℕ, length, ap, subst, arith}
use Rattle.std.specs.Prelude.{◌&&◌}
use Rattle.std.specs.List.{AllByRecursion}
use Rattle.container_model.specs.Chunk.{Run}
use Rattle.carrier_model.specs.Info.{list_run}
use Rattle.unit_plan.specs.Cuts.{FitsIn, IsExact, SpansAscend}
use Rattle.avi_plan.specs.Lists.{keeps_pad, list_cuts, size_then}
use Rattle.avi_plan.proofs.Streamed.{put_inside, told_more}
use Rattle.avi_plan.proofs.Strled.{comes_told, one_told}
use Rattle.avi_plan.proofs.streams.StreamSpans.put.Goals as goal

pub returns-in-Ok-add-clause-inside : goal.returns-in-Ok-add-clause-inside
returns-in-Ok-add-clause-inside g c from end are low =
    let l = c.args.list.now in
    let u = c.in-Ok.found.units in
    let here : (l.at + 12) + (l.size - 4) ≡ l.at + 8 + l.size = omega (arith, c.requires.sound.typed) in
    put_inside from end c.args.len c.args.self.now c.add.new.self l u c.requires.sound c.requires.order c.requires.within low are
    (subst (SpansAscend (l.at + 12) u.cuts.items) here c.in-Ok.ensures.ascend)
    (λ f. subst (λ (k : ℕ). AllByRecursion IsExact u.cuts.items ⊎ ((k ≡ c.args.len) × FitsIn c.args.len u.cuts.items)) here (c.in-Ok.ensures.fits f))
    c.in-Ok-add.ensures.cuts c.in-Ok-add.ensures.fits c.in-Ok-add.ensures.at

pub returns-in-Ok-add-clause-told : goal.returns-in-Ok-add-clause-told
returns-in-Ok-add-clause-told g c b e end s ss held bytes site next names told =
    let l = c.args.list.now in
    let u = c.in-Ok.found.units in
    let here : (l.at + 12) + (l.size - 4) ≡ l.at + 8 + l.size = omega (arith, c.requires.sound.typed) in
    let comes = comes_told b e end c.args.len s l c.args.body.now u site names (c.in-Ok.ensures.outcome b held bytes) in
    let was : c.in-Ok.found.was ≡ length (list_run s.chunk).chunks = c.in-Ok.ensures.was b held ∙ ap (λ (r : Run). length r.chunks) site.reads in
    let one = one_told b e end c.args.len s l c.requires.sound site next u (c.requires.inside b held) c.requires.within (subst (SpansAscend (l.at + 12) u.cuts.items) here c.in-Ok.ensures.ascend) comes c.in-Ok.found.was was in
    told_more b e ss s c.args.self.now c.add.new.self (list_cuts l u.cuts.items) (u.fits && keeps_pad l (size_then l u.cuts.items)) c.in-Ok.found.was u.parts told one
    c.in-Ok-add.ensures.cuts c.in-Ok-add.ensures.fits c.in-Ok-add.ensures.was c.in-Ok-add.ensures.now

use Rattle.std.proofs.Common.{◌≡◌, ◌∙◌, ℕ, ap}
use Rattle.std.specs.List.{insert}
use Rattle.mov_plan.specs.Holders.{cuts_before}
use Rattle.mov_plan.proofs.Held.{put_is}
use Rattle.mov_plan.proofs.holders.put_cut.Goals as goal
use Rattle.mov_plan.proofs.holders.put_cut.Goals.{in-Err, in-Ok}

pub returns : goal.returns
returns c =
    let old = c.args.cuts.now.items in
    let place : c.before-place.result ≡ cuts_before c.args.cut.span.at old = c.before-place.ensures.count ∙ ap (cuts_before c.args.cut.span.at) c.as_slice.ensures.value in
    elim c.match-insert.branch [
      | in-Err w ↦ rw w.result-is tt
      | in-Ok w ↦ rw w.result-is (w.in-Ok.ensures.items ∙ ap (λ (n : ℕ). insert old n c.args.cut) place ∙ put_is c.args.cut old)
    ]

use Rattle.std.proofs.Common.{◌∙◌, ◌≡◌, ℕ, ap}
use Rattle.std.specs.List.{insert}
use Rattle.mov_plan.specs.Carry.{last_by, last_end, new_place}
use Rattle.mov_plan.proofs.Carrying.{added_is}
use Rattle.mov_plan.proofs.carry.add.Goals as goal
use Rattle.mov_plan.proofs.carry.add.Goals.{in-Err, in-Ok}

pub returns : goal.returns
returns c =
    let ps = c.args.places.now.items in
    let count : c.last-k.result.0 ≡ last_by ps = c.last-k.ensures.count ∙ ap last_by c.deref.ensures.value in
    let end : c.last-k.result.1 ≡ last_end c.args.from ps = c.last-k.ensures.end ∙ ap (last_end c.args.from) c.deref.ensures.value in
    elim c.match-insert.branch [
      | in-Err w ↦ rw w.result-is tt
      | in-Ok w ↦
          rw w.result-is
          (w.in-Ok.ensures.items
          ∙ ap (λ (k : ℕ). insert ps k (new_place c.last-k.result.1 c.args.now)) count
          ∙ ap (λ (at : ℕ). insert ps (last_by ps) (new_place at c.args.now)) end
          ∙ added_is c.args.now c.args.from ps)
    ]

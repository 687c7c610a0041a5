use Rattle.std.proofs.Common.{rules, arith, sym, ◌≡◌, ◌∙◌, ◌<◌, true, false, length, get_or}
use Rattle.mov_plan.specs.Carry.{is_pad}
use Rattle.mov_plan.proofs.Carrying.{past_other, past_pad}
use Rattle.mov_plan.proofs.carry.last.Goals as goal
use Rattle.mov_plan.proofs.carry.last.Goals.{then-not-pads, else-not-pads}

pub places-preserved : goal.places-preserved
places-preserved c =
    let inv = c.places.invariant in
    let ps = c.args.places.now in
    let k = c.places.k in
    let p = c.index-places-k.result in
    let lt : k < length ps = omega (arith, c.places-test.true) in
    let at : p ≡ get_or ps k p = c.index-places-k.is in
    elim c.if-not-pads.branch [
      | then-not-pads w ↦
          let off : is_pad p.what ≡ false = search rules in
          let q = past_other c.args.from ps k p lt at off in
          record { count = w.last-is ∙ sym q.0; bound = omega (arith, w.last-is); end = w.end-is ∙ sym q.1 }
      | else-not-pads w ↦
          let on : is_pad p.what ≡ true = search rules in
          let q = past_pad c.args.from ps k p lt at on in
          record { count = w.last-is ∙ inv.count ∙ sym q.0; bound = omega (arith, w.last-is, inv.bound); end = w.end-is ∙ inv.end ∙ sym q.1 }
    ]

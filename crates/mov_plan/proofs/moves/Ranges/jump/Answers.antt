use Rattle.std.proofs.Common.{rules, arith, sym, subst, ◌≡◌, ◌≤◌, ◌+◌, ◌-◌, ◌∷◌, ◌++◌, [], List}
use Rattle.part_tree.specs.Moves.{Move}
use Rattle.mov_plan.specs.Moved.{AscendTo}
use Rattle.mov_plan.proofs.Moved.{to_more}
use Rattle.mov_plan.proofs.moves.Ranges.jump.Goals as goal

pub returns-clause-sound : goal.returns-clause-sound
returns-clause-sound c = λ h.
    let from = c.args.self.now in
    let span = c.args.span in
    let m : Move = (record { at = from.at; len = span.at - from.at }, from.to) in
    let end = c.in-Some-Some-Some.end in
    let items : c.push.new.self.items ≡ from.held.items ++ m ∷ [] = search rules in
    let order : from.at ≤ span.at = search rules in
    let stop : c.in-Some-Some-Some.stop ≡ from.to + (span.at - from.at) = search rules in
    let ends : end ≡ span.at + span.len = search rules in
    subst (λ (ms : List Move). AscendTo 0 ms end) (sym items)
    (to_more 0 end from.held.items m h (omega (arith, order, c.if-span-gt-MOST_PLACE.false)) (omega (arith, stop, c.if-stop-gt-MOST_PLACE.false)) (omega (arith, order, ends)))

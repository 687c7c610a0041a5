use Rattle.std.proofs.Common.{arith, ap, subst, ◌∙◌, ◌-◌, ◌≤◌, ◌∷◌, refl}
use Rattle.std.specs.Prelude.{Option}
use Rattle.container_model.specs.Windows.{window}
use Rattle.unit_plan.specs.declared.place.What.{What}
use Rattle.mov_plan.specs.declared.unit.OpenUnit.{OpenUnit}
use Rattle.mov_plan.specs.Shapes.{pads}
use Rattle.mov_plan.specs.Places.{IsSoFar, open_in, open_start, outcome_in, shape_by}
use Rattle.mov_plan.specs.Rows.{both, row}
use Rattle.mov_plan.proofs.Spans.{same_so_far}
use Rattle.mov_plan.proofs.Stepped.{step_stays, step_pads, step_more, step_change}
use Rattle.mov_plan.proofs.row.Units.step.Goals as goal

pub returns-in_ok-count-in-Stays-clause-row : goal.returns-in_ok-count-in-Stays-clause-row
returns-in_ok-count-in-Stays-clause-row c = λ b x xs inside.
    let at = c.args.place.now.at in
    let next = c.args.place.now.next in
    let parts = c.args.place.now.parts in
    let old = outcome_in b c.args.self.now in
    ap (λ (w : What). both old (row x at (open_in b at c.args.unit) (shape_by (window b at next) (next - at) parts w ∷ xs))) c.in-Stays.is
    ∙ step_stays x at next parts (open_in b at c.args.unit) xs old (outcome_in b c.close.new.self) (outcome_in b c.count.new.self) c.requires.forth
    (c.in_ok-close-in-Stays.ensures.outcome b (omega (arith, inside, c.requires.forth))) (c.in_ok-count-in-Stays.ensures.outcome b)

pub returns-in_ok-count-in-Stays-clause-so_far : goal.returns-in_ok-count-in-Stays-clause-so_far
returns-in_ok-count-in-Stays-clause-so_far c = λ from so_far.
    same_so_far from c.args.place.now.at c.args.place.now.next c.close.new.self c.count.new.self c.in_ok-count-in-Stays.ensures.cuts c.in_ok-count-in-Stays.ensures.fits
    c.requires.forth (c.in_ok-close-in-Stays.ensures.so_far from so_far refl)

pub returns-in_ok-count-in-None-clause-row : goal.returns-in_ok-count-in-None-clause-row
returns-in_ok-count-in-None-clause-row c = λ b x xs inside.
    let at = c.args.place.now.at in
    let next = c.args.place.now.next in
    let parts = c.args.place.now.parts in
    let old = outcome_in b c.args.self.now in
    ap (λ (w : What). both old (row x at (open_in b at c.args.unit) (shape_by (window b at next) (next - at) parts w ∷ xs))) c.in-Pads.is
    ∙ ap (λ (o : Option OpenUnit). both old (row x at (open_in b at o) (pads (window b at next) parts ∷ xs))) c.in-None.is
    ∙ step_pads x b at next parts xs old (outcome_in b c.count-in-None.new.self) c.requires.forth inside (c.in_ok-count-in-None.ensures.outcome b)

pub returns-in_ok-count-in-None-clause-so_far : goal.returns-in_ok-count-in-None-clause-so_far
returns-in_ok-count-in-None-clause-so_far c = λ from so_far.
    let at = c.args.place.now.at in
    let so_far_at : IsSoFar from c.args.self.now at = subst (λ (o : Option OpenUnit). IsSoFar from c.args.self.now (open_start o at)) c.in-None.is so_far in
    same_so_far from at c.args.place.now.next c.args.self.now c.count-in-None.new.self c.in_ok-count-in-None.ensures.cuts c.in_ok-count-in-None.ensures.fits c.requires.forth so_far_at

pub returns-in-Some-clause-row : goal.returns-in-Some-clause-row
returns-in-Some-clause-row c = λ b x xs inside.
    let at = c.args.place.now.at in
    let next = c.args.place.now.next in
    let parts = c.args.place.now.parts in
    let old = outcome_in b c.args.self.now in
    let unit = c.in-Some.unit in
    let before : unit.start ≤ at = rw c.in-Some.is at c.requires.order in
    ap (λ (w : What). both old (row x at (open_in b at c.args.unit) (shape_by (window b at next) (next - at) parts w ∷ xs))) c.in-Pads.is
    ∙ ap (λ (o : Option OpenUnit). both old (row x at (open_in b at o) (pads (window b at next) parts ∷ xs))) c.in-Some.is
    ∙ step_more x b unit.start at next parts unit.spelled.items xs old before c.requires.forth inside

pub returns-in_ok-unit-in-Changes-clause-row : goal.returns-in_ok-unit-in-Changes-clause-row
returns-in_ok-unit-in-Changes-clause-row c = λ b x xs inside.
    let at = c.args.place.now.at in
    let next = c.args.place.now.next in
    let parts = c.args.place.now.parts in
    let old = outcome_in b c.args.self.now in
    ap (λ (w : What). both old (row x at (open_in b at c.args.unit) (shape_by (window b at next) (next - at) parts w ∷ xs))) c.in-Changes.is
    ∙ step_change x b at next parts (open_in b at c.args.unit) _ c.in-Changes.now xs old (outcome_in b c.count-in-Changes.new.self) c.requires.forth inside
    (c.in_ok-count-in-Changes.ensures.outcome b) (c.in_ok-unit-in-Changes.ensures.unit b next c.requires.forth inside)

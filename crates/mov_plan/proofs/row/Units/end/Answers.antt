use Rattle.std.proofs.Common.{arith, ap, subst, sym, refl, ◌∙◌, ◌≤◌, ◌+◌, List, ℕ, Bool, true, false}
use Rattle.std.specs.Prelude.{Option}
use Rattle.container_model.specs.Windows.{window}
use Rattle.mov_plan.specs.declared.unit.OpenUnit.{OpenUnit}
use Rattle.mov_plan.specs.Places.{IsSoFar, beyond_in, open_in, open_start, outcome_in}
use Rattle.mov_plan.specs.Rows.{Outcome, both, closed, counts, ended, unit_at}
use Rattle.mov_plan.proofs.Outcomes.{both_assoc}
use Rattle.mov_plan.proofs.Spans.{same_so_far}
use Rattle.unit_plan.proofs.Slots.{slot_more}
use Rattle.unit_plan.proofs.Spans.{exact_fit}
use Rattle.mov_plan.proofs.row.Units.end.Goals as goal

pub returns-then-behind-clause-outcome : goal.returns-then-behind-clause-outcome
returns-then-behind-clause-outcome c = λ b inside.
    let u = c.in-Some.unit in
    let end = c.args.end in
    let stop = c.args.end + c.args.behind.gap in
    let x = beyond_in b end c.args.behind in
    let old = outcome_in b c.args.self.now in
    let before : u.start ≤ end = rw c.in-Some.is at c.requires.order in
    c.in_ok-close-in-Some.ensures.outcome b inside
    ∙ ap (λ (y : List ℕ). both old (closed c.args.behind.last true (unit_at u.start y u.spelled.items))) (slot_more b u.start end stop before (omega arith))
    ∙ ap (λ (t : Bool). both old (ended x (unit_at u.start (window b u.start end) u.spelled.items) t)) (sym c.if-behind.true)
    ∙ ap (λ (o : Option OpenUnit). both old (ended x (open_in b end o) c.args.behind.goes_on)) (sym c.in-Some.is)

pub returns-then-behind-clause-fits : goal.returns-then-behind-clause-fits
returns-then-behind-clause-fits c = λ from len so_far last fits.
    let so_far_at : IsSoFar from c.args.self.now c.in-Some.unit.start = subst (λ (o : Option OpenUnit). IsSoFar from c.args.self.now (open_start o c.args.end)) c.in-Some.is so_far in
    c.in_ok-close-in-Some.ensures.fits from len so_far_at (last c.if-behind.true) fits

pub returns-in_ok-count-in-None-clause-ascend : goal.returns-in_ok-count-in-None-clause-ascend
returns-in_ok-count-in-None-clause-ascend c = λ from so_far.
    let so_far_at : IsSoFar from c.args.self.now c.args.end = subst (λ (o : Option OpenUnit). IsSoFar from c.args.self.now (open_start o c.args.end)) c.in-None.is so_far in
    (same_so_far from c.args.end (c.args.end + c.args.behind.gap) c.args.self.now c.count.new.self c.in_ok-count-in-None.ensures.cuts c.in_ok-count-in-None.ensures.fits (omega arith) so_far_at).ascend

pub returns-in_ok-count-in-None-clause-fits : goal.returns-in_ok-count-in-None-clause-fits
returns-in_ok-count-in-None-clause-fits c = λ from len so_far last fits.
    let so_far_at : IsSoFar from c.args.self.now c.args.end = subst (λ (o : Option OpenUnit). IsSoFar from c.args.self.now (open_start o c.args.end)) c.in-None.is so_far in
    exact_fit len c.count.new.self.cuts.items ((same_so_far from c.args.end c.args.end c.args.self.now c.count.new.self c.in_ok-count-in-None.ensures.cuts c.in_ok-count-in-None.ensures.fits (omega arith) so_far_at).exact fits)

pub returns-in_ok-count-in-Some-clause-outcome : goal.returns-in_ok-count-in-Some-clause-outcome
returns-in_ok-count-in-Some-clause-outcome c = λ b inside.
    let u = c.in-Some.unit in
    let end = c.args.end in
    let x = beyond_in b end c.args.behind in
    let old = outcome_in b c.args.self.now in
    let gaps = counts c.args.behind.gaps 0 in
    let unit = closed false false (unit_at u.start (window b u.start end) u.spelled.items) in
    c.in_ok-count-in-Some.ensures.outcome b
    ∙ ap (λ (y : Outcome). both y gaps) (c.in_ok-close-in-Some-2.ensures.outcome b (omega (arith, inside)))
    ∙ both_assoc old unit gaps
    ∙ ap (λ (t : Bool). both old (ended x (unit_at u.start (window b u.start end) u.spelled.items) t)) (sym c.if-behind.false)
    ∙ ap (λ (o : Option OpenUnit). both old (ended x (open_in b end o) c.args.behind.goes_on)) (sym c.in-Some.is)

pub returns-in_ok-count-in-Some-clause-ascend : goal.returns-in_ok-count-in-Some-clause-ascend
returns-in_ok-count-in-Some-clause-ascend c = λ from so_far.
    let so_far_at : IsSoFar from c.args.self.now c.in-Some.unit.start = subst (λ (o : Option OpenUnit). IsSoFar from c.args.self.now (open_start o c.args.end)) c.in-Some.is so_far in
    (same_so_far from c.args.end (c.args.end + c.args.behind.gap) c.close-in-Some.new.self c.count-in-Some.new.self c.in_ok-count-in-Some.ensures.cuts c.in_ok-count-in-Some.ensures.fits (omega arith) (c.in_ok-close-in-Some-2.ensures.so_far from so_far_at refl)).ascend

pub returns-in_ok-count-in-Some-clause-fits : goal.returns-in_ok-count-in-Some-clause-fits
returns-in_ok-count-in-Some-clause-fits c = λ from len so_far last fits.
    let so_far_at : IsSoFar from c.args.self.now c.in-Some.unit.start = subst (λ (o : Option OpenUnit). IsSoFar from c.args.self.now (open_start o c.args.end)) c.in-Some.is so_far in
    exact_fit len c.count-in-Some.new.self.cuts.items ((same_so_far from c.args.end c.args.end c.close-in-Some.new.self c.count-in-Some.new.self c.in_ok-count-in-Some.ensures.cuts c.in_ok-count-in-Some.ensures.fits (omega arith) (c.in_ok-close-in-Some-2.ensures.so_far from so_far_at refl)).exact fits)

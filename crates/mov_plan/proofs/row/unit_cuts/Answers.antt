use Rattle.std.proofs.Common.{arith, ap, sym, subst, ◌∙◌, ◌≡◌, ◌+◌, ◌∷◌, [], ℕ, List, map, drop}
use Rattle.std.proofs.lemmas.List.{drop_all}
use Rattle.mov_plan.specs.declared.place.Place.{Place}
use Rattle.mov_plan.specs.Rows.{both, ended, row}
use Rattle.mov_plan.specs.Places.{BeginsBefore, IsSoFar, beyond_in, open_in, open_start, outcome_in, shape_in}
use Rattle.unit_plan.specs.Cuts.{SpansAscend}
use Rattle.unit_plan.proofs.Spans.{next_item}
use Rattle.mov_plan.proofs.Stepped.{follow_last, end_row, left_places}
use Rattle.mov_plan.proofs.row.unit_cuts.Goals as goal

pub step-requires-clause-order : goal.step-requires-clause-order
step-requires-clause-order c =
    let p = c.index-places-i.result in
    let left = left_places c.loop-i.at c.args.end c.args.places.now c.loop-i.i p c.loop-i-test.true c.index-places-i.is c.loop-i.invariant.follow in
    subst (λ (k : ℕ). BeginsBefore c.loop-i.unit k) (sym left.0) c.loop-i.invariant.before

pub step-requires-clause-forth : goal.step-requires-clause-forth
step-requires-clause-forth c = (left_places c.loop-i.at c.args.end c.args.places.now c.loop-i.i c.index-places-i.result c.loop-i-test.true c.index-places-i.is c.loop-i.invariant.follow).1

pub step-requires-clause-small : goal.step-requires-clause-small
step-requires-clause-small c =
    let left = left_places c.loop-i.at c.args.end c.args.places.now c.loop-i.i c.index-places-i.result c.loop-i-test.true c.index-places-i.is c.loop-i.invariant.follow in
    omega (arith, left.2, c.requires.small)

pub loop-i-preserved : goal.loop-i-preserved
loop-i-preserved c =
    let places = c.args.places.now in
    let i = c.loop-i.i in
    let at = c.loop-i.at in
    let p = c.index-places-i.result in
    let left = left_places at c.args.end places i p c.loop-i-test.true c.index-places-i.is c.loop-i.invariant.follow in
    record {
      follow = left.3;
      before = c.in_ok-unit.ensures.before;
      inside = omega arith;
      so_far = c.in_ok-unit.ensures.so_far c.args.from (subst (λ (k : ℕ). IsSoFar c.args.from c.loop-i.units (open_start c.loop-i.unit k)) (sym left.0) c.loop-i.invariant.so_far);
      row = λ b h.
          let xs = map (shape_in b) (drop (i + 1) places) in
          let old = outcome_in b c.loop-i.units in
          let x = beyond_in b c.args.end c.args.behind in
          sym (c.in_ok-unit.ensures.row b x xs (omega (arith, h, left.2)))
          ∙ ap (λ (k : ℕ). both old (row x k (open_in b k c.loop-i.unit) (shape_in b p ∷ xs))) left.0
          ∙ ap (λ (ps : List Place). both old (row x at (open_in b at c.loop-i.unit) (map (shape_in b) ps))) (sym (next_item places i p c.loop-i-test.true c.index-places-i.is))
          ∙ c.loop-i.invariant.row b h;
    }

pub end-requires-clause-small : goal.end-requires-clause-small
end-requires-clause-small c =
    let whole : c.loop-i.at ≡ c.args.end = follow_last c.loop-i.at c.args.end c.args.places.now c.loop-i.i c.loop-i-test.false c.loop-i.invariant.follow in
    omega (arith, whole, c.requires.small)

pub returns : goal.returns
returns c =
    let places = c.args.places.now in
    let i = c.loop-i.i in
    let at = c.loop-i.at in
    let gap = c.args.behind.gap in
    let whole : at ≡ c.args.end = follow_last at c.args.end places i c.loop-i-test.false c.loop-i.invariant.follow in
    let none_left : drop i places ≡ [] = drop_all i places c.loop-i-test.false in
    record {
      outcome = λ b h.
          let old = outcome_in b c.loop-i.units in
          let x = beyond_in b c.args.end c.args.behind in
          c.in_ok-end.ensures.outcome b (omega (arith, whole, h))
          ∙ ap (λ (k : ℕ). both old (ended (beyond_in b k c.args.behind) (open_in b at c.loop-i.unit) c.args.behind.goes_on)) whole
          ∙ sym (end_row x at (open_in b at c.loop-i.unit) old)
          ∙ ap (λ (ps : List Place). both old (row x at (open_in b at c.loop-i.unit) (map (shape_in b) ps))) (sym none_left)
          ∙ c.loop-i.invariant.row b h;
      ascend = subst (λ (k : ℕ). SpansAscend c.args.from c.end.new.self.cuts.items (k + gap)) whole (c.in_ok-end.ensures.ascend c.args.from c.loop-i.invariant.so_far);
      fits = λ len e fits. c.in_ok-end.ensures.fits c.args.from len c.loop-i.invariant.so_far (λ s t. ap (λ (k : ℕ). k + gap) whole ∙ e s t) fits;
    }

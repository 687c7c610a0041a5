-- One place more.
use Rattle.std.proofs.Common.{◌≡◌, ◌∙◌, ℕ, ◌<◌, ◌+◌, ◌-◌, ◌≤◌, false, List, [], ◌∷◌, ◌++◌, length, drop, get_or, refl, sym, subst, ap, arith}
use Rattle.std.proofs.lemmas.List.{drop_all}
use Rattle.container_model.specs.Windows.{window}
use Rattle.mov_plan.specs.declared.place.Place.{Place}
use Rattle.mov_plan.specs.Shapes.{Shape, stays, pads, changes}
use Rattle.mov_plan.specs.Places.{Follow, open_changed}
use Rattle.mov_plan.specs.Rows.{Beyond, Outcome, both, counts, Open, none, unit_at, closed, ended, row}
use Rattle.mov_plan.proofs.Outcomes.{both_assoc}
use Rattle.unit_plan.proofs.Spans.{next_item}
use Rattle.unit_plan.proofs.Slots.{slot_more, window_long}

pub step_stays : (x : Beyond) (at next k : ℕ) (open_now : Open) (xs : List Shape) (old shut new : Outcome) → at ≤ next
    → shut ≡ both old (closed false false open_now) → new ≡ both shut (counts k (next - at))
    → both old (row x at open_now (stays (next - at) k ∷ xs)) ≡ both new (row x next none xs)
unfolding row
step_stays x at next k open_now xs old shut new le is counted =
    let place : at + (next - at) ≡ next = omega arith in
    let rest = row x next none xs in
    ap (λ (j : ℕ). both old (both (closed false false open_now) (both (counts k (next - at)) (row x j none xs)))) place
    ∙ sym (both_assoc old (closed false false open_now) (both (counts k (next - at)) rest))
    ∙ ap (λ (y : Outcome). both y (both (counts k (next - at)) rest)) (sym is)
    ∙ sym (both_assoc shut (counts k (next - at)) rest)
    ∙ ap (λ (y : Outcome). both y rest) (sym counted)

slot_end : (b : List ℕ) (at next : ℕ) → at ≤ next → next ≤ length b → at + length (window b at next) ≡ next
slot_end b at next le inside = omega (arith, window_long b at next le inside)

pub step_pads : (x : Beyond) (b : List ℕ) (at next k : ℕ) (xs : List Shape) (old new : Outcome) → at ≤ next → next ≤ length b
    → new ≡ both old (counts k (next - at))
    → both old (row x at none (pads (window b at next) k ∷ xs)) ≡ both new (row x next none xs)
unfolding row
step_pads x b at next k xs old new le inside counted =
    let rest = row x next none xs in
    ap (λ (j : ℕ). both old (both (counts k (length (window b at next))) (row x j none xs))) (slot_end b at next le inside)
    ∙ ap (λ (j : ℕ). both old (both (counts k j) rest)) (window_long b at next le inside)
    ∙ sym (both_assoc old (counts k (next - at)) rest)
    ∙ ap (λ (y : Outcome). both y rest) (sym counted)

pub step_more : (x : Beyond) (b : List ℕ) (start at next k : ℕ) (now : List ℕ) (xs : List Shape) (old : Outcome) → start ≤ at → at ≤ next → next ≤ length b
    → both old (row x at (unit_at start (window b start at) now) (pads (window b at next) k ∷ xs)) ≡ both old (row x next (unit_at start (window b start next) now) xs)
unfolding row
step_more x b start at next k now xs old before le inside =
    ap (λ (j : ℕ). both old (row x j (unit_at start (window b start at ++ window b at next) now) xs)) (slot_end b at next le inside)
    ∙ ap (λ (y : List ℕ). both old (row x next (unit_at start y now) xs)) (sym (slot_more b start at next before le))

changed_step : (x : Beyond) (at k : ℕ) (open_now : Open) (slot now : List ℕ) (xs : List Shape)
    → row x at open_now (changes slot now k ∷ xs) ≡ both (counts k 0) (row x (at + length slot) (open_changed at open_now slot now) xs)
unfolding row
changed_step x at k none slot now xs = refl
changed_step x at k (unit_at start s n) slot now xs = refl

pub step_change : (x : Beyond) (b : List ℕ) (at next k : ℕ) (open_now after : Open) (now : List ℕ) (xs : List Shape) (old new : Outcome) → at ≤ next → next ≤ length b
    → new ≡ both old (counts k 0) → after ≡ open_changed at open_now (window b at next) now
    → both old (row x at open_now (changes (window b at next) now k ∷ xs)) ≡ both new (row x next after xs)
step_change x b at next k open_now after now xs old new le inside counted e =
    let slot = window b at next in
    let rest = row x next (open_changed at open_now slot now) xs in
    ap (both old) (changed_step x at k open_now slot now xs)
    ∙ ap (λ (j : ℕ). both old (both (counts k 0) (row x j (open_changed at open_now slot now) xs))) (slot_end b at next le inside)
    ∙ sym (both_assoc old (counts k 0) rest)
    ∙ ap (λ (y : Outcome). both y rest) (sym counted)
    ∙ ap (λ (o : Open). both new (row x next o xs)) (sym e)

-- ---- a row of places

pub follow_last : (at end : ℕ) (ps : List Place) (n : ℕ) → length ps ≤ n → Follow at (drop n ps) end → at ≡ end
follow_last at end ps n past h = let none_left : drop n ps ≡ [] = drop_all n ps past in rw none_left at h

pub end_row : (x : Beyond) (at : ℕ) (o : Open) (old : Outcome) → both old (row x at o []) ≡ both old (ended x o x.goes_on)
unfolding row
end_row x at o old = refl

-- the next place, and those behind it
pub left_places : (at end : ℕ) (ps : List Place) (i : ℕ) (p : Place) → i < length ps → p ≡ get_or ps i p → Follow at (drop i ps) end → (p.at ≡ at) × (p.at ≤ p.next) × (p.next ≤ end) × Follow p.next (drop (i + 1) ps) end
left_places at end ps i p lt e h = subst (λ (qs : List Place). Follow at qs end) (next_item ps i p lt e) h

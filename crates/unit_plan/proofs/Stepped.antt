-- One place more.
use Rattle.std.proofs.Common.{◌≡◌, ◌∙◌, ℕ, zero, suc, ltb, ◌<◌, ◌+◌, ◌-◌, ◌≤◌, Bool, true, false, List, [], ◌∷◌, ◌++◌, length, map, drop, get_or, refl, sym, subst, ap, arith}
use Rattle.std.specs.Prelude.{◌&&◌, not}
use Rattle.std.proofs.lemmas.Bool.{ltb-true, ltb-false}
use Rattle.std.proofs.lemmas.List.{drop_all}
use Rattle.container_model.specs.Windows.{window}
use Rattle.unit_plan.specs.declared.place.Place.{Place}
use Rattle.unit_plan.specs.Shapes.{Shape, stays, pads, changes}
use Rattle.unit_plan.specs.Places.{Follow}
use Rattle.unit_plan.specs.Rows.{Outcome, both, counts, Open, none, unit_at, closed, no_more, open_next, row}
use Rattle.unit_plan.specs.Cuts.{open_changed}
use Rattle.unit_plan.proofs.Outcomes.{both_assoc}
use Rattle.unit_plan.proofs.Spans.{next_item}
use Rattle.unit_plan.proofs.Slots.{slot_more, window_long}

pub step_stays : (ends : Bool) (at next k : ℕ) (lacks more : Bool) (open_now after : Open) (xs : List Shape) (old shut new : Outcome) → at ≤ next → not (no_more xs) ≡ more
    → shut ≡ both old (closed ends false open_now) → new ≡ both shut (counts k) → after ≡ open_next (lacks && more) next
    → both old (row ends at open_now (stays (next - at) lacks k ∷ xs)) ≡ both new (row ends next after xs)
unfolding row
step_stays ends at next k lacks more open_now after xs old shut new le m is counted begun =
    let place : at + (next - at) ≡ next = omega arith in
    let rest = row ends next (open_next (lacks && not (no_more xs)) next) xs in
    ap (λ (j : ℕ). both old (both (closed ends false open_now) (both (counts k) (row ends j (open_next (lacks && not (no_more xs)) j) xs)))) place
    ∙ sym (both_assoc old (closed ends false open_now) (both (counts k) rest))
    ∙ ap (λ (x : Outcome). both x (both (counts k) rest)) (sym is)
    ∙ sym (both_assoc shut (counts k) rest)
    ∙ ap (λ (x : Outcome). both x rest) (sym counted)
    ∙ ap (λ (t : Bool). both new (row ends next (open_next (lacks && t) next) xs)) m
    ∙ ap (λ (o : Open). both new (row ends next o xs)) (sym begun)

slot_end : (b : List ℕ) (at next : ℕ) → at ≤ next → next ≤ length b → at + length (window b at next) ≡ next
slot_end b at next le inside = omega (arith, window_long b at next le inside)

pub step_pads : (ends : Bool) (b : List ℕ) (at next k : ℕ) (lacks more : Bool) (after : Open) (xs : List Shape) (old new : Outcome) → at ≤ next → next ≤ length b → not (no_more xs) ≡ more
    → new ≡ both old (counts k) → after ≡ open_next (lacks && more) next
    → both old (row ends at none (pads (window b at next) lacks k ∷ xs)) ≡ both new (row ends next after xs)
unfolding row
step_pads ends b at next k lacks more after xs old new le inside m counted begun =
    let rest = row ends next (open_next (lacks && not (no_more xs)) next) xs in
    ap (λ (j : ℕ). both old (both (counts k) (row ends j (open_next (lacks && not (no_more xs)) j) xs))) (slot_end b at next le inside)
    ∙ sym (both_assoc old (counts k) rest)
    ∙ ap (λ (x : Outcome). both x rest) (sym counted)
    ∙ ap (λ (t : Bool). both new (row ends next (open_next (lacks && t) next) xs)) m
    ∙ ap (λ (o : Open). both new (row ends next o xs)) (sym begun)

pub step_more : (ends : Bool) (b : List ℕ) (start at next k : ℕ) (lacks : Bool) (now : List ℕ) (xs : List Shape) (old : Outcome) → start ≤ at → at ≤ next → next ≤ length b
    → both old (row ends at (unit_at start (window b start at) now) (pads (window b at next) lacks k ∷ xs)) ≡ both old (row ends next (unit_at start (window b start next) now) xs)
unfolding row
step_more ends b start at next k lacks now xs old before le inside =
    ap (λ (j : ℕ). both old (row ends j (unit_at start (window b start at ++ window b at next) now) xs)) (slot_end b at next le inside)
    ∙ ap (λ (x : List ℕ). both old (row ends next (unit_at start x now) xs)) (sym (slot_more b start at next before le))

changed_step : (ends : Bool) (at k : ℕ) (open_now : Open) (slot now : List ℕ) (xs : List Shape)
    → row ends at open_now (changes slot now k ∷ xs) ≡ both (counts k) (row ends (at + length slot) (open_changed at open_now slot now) xs)
unfolding row
changed_step ends at k none slot now xs = refl
changed_step ends at k (unit_at start s n) slot now xs = refl

pub step_change : (ends : Bool) (b : List ℕ) (at next k : ℕ) (open_now after : Open) (now : List ℕ) (xs : List Shape) (old new : Outcome) → at ≤ next → next ≤ length b
    → new ≡ both old (counts k) → after ≡ open_changed at open_now (window b at next) now
    → both old (row ends at open_now (changes (window b at next) now k ∷ xs)) ≡ both new (row ends next after xs)
step_change ends b at next k open_now after now xs old new le inside counted e =
    let slot = window b at next in
    let rest = row ends next (open_changed at open_now slot now) xs in
    ap (both old) (changed_step ends at k open_now slot now xs)
    ∙ ap (λ (j : ℕ). both old (both (counts k) (row ends j (open_changed at open_now slot now) xs))) (slot_end b at next le inside)
    ∙ sym (both_assoc old (counts k) rest)
    ∙ ap (λ (x : Outcome). both x rest) (sym counted)
    ∙ ap (λ (o : Open). both new (row ends next o xs)) (sym e)

-- ---- a row of places

pub follow_end : (at end : ℕ) (ps : List Place) → Follow at ps end → at ≤ end
follow_end at end [] h = omega (arith, h)
follow_end at end (p ∷ ps) h = omega (arith, h.0, h.1, h.2)

pub follow_last : (at end : ℕ) (ps : List Place) (n : ℕ) → length ps ≤ n → Follow at (drop n ps) end → at ≡ end
follow_last at end ps n past h = let none_left : drop n ps ≡ [] = drop_all n ps past in rw none_left at h

nonempty : (f : Place → Shape) (ps : List Place) (n : ℕ) → n < length ps → no_more (map f (drop n ps)) ≡ false
nonempty f [] n lt = absurd (omega arith)
nonempty f (p ∷ ps) zero lt = refl
nonempty f (p ∷ ps) (suc n) lt = nonempty f ps n (omega arith)

pub more_is : (f : Place → Shape) (ps : List Place) (n : ℕ) → not (no_more (map f (drop n ps))) ≡ ltb n (length ps)
more_is f ps n = go (ltb n (length ps)) refl
  where
    go : (t : Bool) → ltb n (length ps) ≡ t → not (no_more (map f (drop n ps))) ≡ t
    go true e = ap not (nonempty f ps n (ltb-true n (length ps) e))
    go false e = ap (λ (xs : List Place). not (no_more (map f xs))) (drop_all n ps (ltb-false n (length ps) e))

pub end_row : (ends : Bool) (at : ℕ) (o : Open) (old : Outcome) → both old (row ends at o []) ≡ both old (closed ends true o)
unfolding row
end_row ends at o old = refl

-- the next place, and those behind it
pub left_places : (at end : ℕ) (ps : List Place) (i : ℕ) (p : Place) → i < length ps → p ≡ get_or ps i p → Follow at (drop i ps) end → (p.at ≡ at) × (p.at ≤ p.next) × (p.next ≤ end) × Follow p.next (drop (i + 1) ps) end
left_places at end ps i p lt e h = subst (λ (qs : List Place). Follow at qs end) (next_item ps i p lt e) h

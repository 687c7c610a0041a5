-- A place in no span is where the ranges between them put it, and that is where the spans shift it.
use Rattle.std.proofs.Common.{◌≡◌, ℕ, ◌+◌, ◌-◌, ◌<◌, ◌≤◌, Bool, cond, ltb, List, [], ◌∷◌, length, ap, ◌∙◌, arith, inl, inr}
use Rattle.std.specs.Prelude.{◌⊎◌, ◌&&◌, Some}
use Rattle.std.proofs.lemmas.Bool.{le-leb, lt-ltb, le-ltb}
use Rattle.part_tree.specs.Moves.{Move, place}
use Rattle.container_model.specs.Splice.{Cut, end_of, Ascend, shift, Outside}
use Rattle.container_model.proofs.Splice.{before_lost, behind_lost, lost_low}
use Rattle.carrier_model.specs.Gaps.{between, moves_of}

held : (at len to : ℕ) (ms : List Move) (p : ℕ) → at ≤ p → p < at + len → place ((record { at = at; len = len }, to) ∷ ms) p ≡ Some (to + (p - at))
held at len to ms p le lt = ap (λ (t : Bool). cond t (Some (to + (p - at))) (place ms p)) (ap (λ (t : Bool). t && ltb p (at + len)) (le-leb at p le) ∙ lt-ltb p (at + len) lt)

passed : (at len to : ℕ) (ms : List Move) (p : ℕ) → at ≤ p → at + len ≤ p → place ((record { at = at; len = len }, to) ∷ ms) p ≡ place ms p
passed at len to ms p le far = ap (λ (t : Bool). cond t (Some (to + (p - at))) (place ms p)) (ap (λ (t : Bool). t && ltb p (at + len)) (le-leb at p le) ∙ le-ltb p (at + len) far)

put_from : (at to : ℕ) (cs : List Cut) (end p : ℕ) → Ascend at cs end → Outside cs p → at ≤ p → p < end → place (between at to cs end) p ≡ Some ((shift cs p + to) - at)
put_from at to [] end p a out le lt =
    let q : to + (p - at) ≡ (((p + 0) - 0) + to) - at = omega arith in
    held at (end - at) to [] p le (omega arith) ∙ ap Some q
put_from at to (c ∷ cs) end p a out le lt = go out.0 (λ far. put_from (end_of c) (to + (c.at - at) + length c.bytes) cs end p a.1 out.1 far lt)
  where
    go : (p < c.at) ⊎ (end_of c ≤ p) → (end_of c ≤ p → place (between (end_of c) (to + (c.at - at) + length c.bytes) cs end) p ≡ Some ((shift cs p + (to + (c.at - at) + length c.bytes)) - end_of c))
        → place (between at to (c ∷ cs) end) p ≡ Some ((shift (c ∷ cs) p + to) - at)
    go (inl near) again =
        let z = behind_lost c cs p near in
        let q : to + (p - at) ≡ (shift (c ∷ cs) p + to) - at = omega (arith, z.0, z.1) in
        held at (c.at - at) to (between (end_of c) (to + (c.at - at) + length c.bytes) cs end) p le (omega arith) ∙ ap Some q
    go (inr far) again =
        let z = before_lost c cs p far in
        let l = lost_low (end_of c) end cs p a.1 out.1 far in
        let q : (shift cs p + (to + (c.at - at) + length c.bytes)) - end_of c ≡ (shift (c ∷ cs) p + to) - at = omega (arith, z.0, z.1, l, a.0) in
        passed at (c.at - at) to (between (end_of c) (to + (c.at - at) + length c.bytes) cs end) p le (omega (arith, far)) ∙ again far ∙ ap Some q

pub places_put : (cs : List Cut) (end p : ℕ) → Ascend 0 cs end → Outside cs p → p < end → place (moves_of cs end) p ≡ Some (shift cs p)
places_put cs end p a out lt = let q : (shift cs p + 0) - 0 ≡ shift cs p = omega arith in put_from 0 0 cs end p a out (omega arith) lt ∙ ap Some q

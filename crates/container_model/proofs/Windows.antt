-- Bytes of a file from a place up to an end.
use Rattle.std.proofs.Common.{◌≡◌, inl, inr, ℕ, ◌+◌, ◌-◌, ◌<◌, ◌≤◌, min, List, length, take, drop, sym, ap, ◌∙◌, arith, length-drop}
use Rattle.std.proofs.lemmas.List.{drop_all, drop-drop, drop-take, length-take, take-take, take_all}
use Rattle.std.proofs.lemmas.Bool.{cases_lt}
use Rattle.container_model.specs.Written.{slice}
use Rattle.container_model.specs.Windows.{window}

pub length-window : (b : List ℕ) (at end : ℕ) → end ≤ length b → length (window b at end) ≡ end - at
length-window b at end inside = omega (arith, length-take (end - at) (drop at b), length-drop at b)

pub window-drop : (b : List ℕ) (at end n : ℕ) → end ≤ length b → drop n (window b at end) ≡ window b (min end (at + n)) end
window-drop b at end n inside = elim (cases_lt end (at + n)) [
  | inl lt ↦ more lt
  | inr le ↦ less le
]
  where
    less : at + n ≤ end → drop n (window b at end) ≡ window b (min end (at + n)) end
    less le =
        let is : min end (at + n) ≡ at + n = omega arith in
        let room : end - at ≡ n + (end - (at + n)) = omega arith in
        ap (λ (k : ℕ). drop n (take k (drop at b))) room
        ∙ drop-take n (end - (at + n)) (drop at b)
        ∙ ap (take (end - (at + n))) (drop-drop n at b)
        ∙ ap (λ (k : ℕ). window b k end) (sym is)

    more : end < at + n → drop n (window b at end) ≡ window b (min end (at + n)) end
    more gt =
        let is : min end (at + n) ≡ end = omega arith in
        let none : end - end ≡ 0 = omega arith in
        drop_all n (window b at end) (omega (arith, length-window b at end inside))
        ∙ sym (ap (λ (k : ℕ). window b k end) is ∙ ap (λ (k : ℕ). take k (drop end b)) none)

-- the front of a window
pub window-take : (b : List ℕ) (at end n : ℕ) → n ≤ end - at → take n (window b at end) ≡ slice b at n
window-take b at end n le = take-take n (end - at) (drop at b) le

pub take_least : (p q : ℕ) (x : List ℕ) → take p (take q x) ≡ take (min p q) x
take_least p q x = elim (cases_lt q p) [
  | inl lt ↦ take_all p (take q x) (omega (arith, length-take q x)) ∙ ap (λ (k : ℕ). take k x) (omega arith)
  | inr le ↦ take-take p q x le ∙ ap (λ (k : ℕ). take k x) (omega arith)
]

pub length_slice : (b : List ℕ) (at n : ℕ) → at + n ≤ length b → length (slice b at n) ≡ n
length_slice b at n inside = omega (arith, length-take n (drop at b), length-drop at b)

-- Each byte in no span stands where the spans before it move it, and places keep their order.
use Rattle.std.proofs.Common.{◌≡◌, ℕ, ◌+◌, ◌-◌, ◌<◌, ◌≤◌, false, leb, List, [], ◌∷◌, ◌++◌, length, get_or, take, drop, refl, sym, ap, ◌∙◌, arith, inl, inr}
use Rattle.std.specs.Prelude.{◌⊎◌}
use Rattle.std.proofs.lemmas.Bool.{le-leb, lt-leb}
use Rattle.std.proofs.lemmas.List.{length-take, length-drop, get_or_append_left, get_or-append-add, get_or-take, get_or-drop}
use Rattle.container_model.specs.Splice.{Cut, end_of, splice_from, Ascend, gained, lost, shift, Outside}

ascend_low : (from end : ℕ) (cs : List Cut) → Ascend from cs end → from ≤ end
ascend_low from end [] h = h
ascend_low from end (c ∷ cs) h = omega (arith, ascend_low (end_of c) end cs h.1)

-- the spans before a place
pub before_lost : (c : Cut) (cs : List Cut) (p : ℕ) → end_of c ≤ p → (gained (c ∷ cs) p ≡ length c.bytes + gained cs p) × (lost (c ∷ cs) p ≡ c.len + lost cs p)
before_lost c cs p h = (rw (le-leb (end_of c) p h, gained) refl, rw (le-leb (end_of c) p h, lost) refl)

pub behind_lost : (c : Cut) (cs : List Cut) (p : ℕ) → p < c.at → (gained (c ∷ cs) p ≡ 0) × (lost (c ∷ cs) p ≡ 0)
behind_lost c cs p h = let no : leb (end_of c) p ≡ false = lt-leb (end_of c) p (omega arith) in (rw (no, gained) refl, rw (no, lost) refl)

pub lost_low : (from end : ℕ) (cs : List Cut) (p : ℕ) → Ascend from cs end → Outside cs p → from ≤ p → lost cs p + from ≤ p
lost_low from end [] p h o le = omega arith
lost_low from end (c ∷ cs) p h o le = go o.0 (lost_low (end_of c) end cs p h.1 o.1)
  where
    go : (p < c.at) ⊎ (end_of c ≤ p) → (end_of c ≤ p → lost cs p + end_of c ≤ p) → lost (c ∷ cs) p + from ≤ p
    go (inl lt) again = omega (arith, (behind_lost c cs p lt).1)
    go (inr ge) again = omega (arith, (before_lost c cs p ge).1, again ge, h.0)

-- a byte before the first span
head_byte : (at : ℕ) (c : Cut) (b more : List ℕ) (p : ℕ) → at ≤ p → p < c.at → c.at ≤ at + length b → get_or (take (c.at - at) b ++ more) (p - at) 0 ≡ get_or b (p - at) 0
head_byte at c b more p le lt short =
    let i : p - at < length (take (c.at - at) b) = omega (arith, length-take (c.at - at) b) in
    get_or_append_left (take (c.at - at) b) more 0 (p - at) i ∙ get_or-take (c.at - at) b (p - at) 0 (omega arith)

-- a byte behind the first span
tail_byte : (at : ℕ) (c : Cut) (b more : List ℕ) (k : ℕ) → at ≤ c.at → c.at ≤ at + length b → get_or (take (c.at - at) b ++ (c.bytes ++ more)) ((c.at - at) + (length c.bytes + k)) 0 ≡ get_or more k 0
tail_byte at c b more k le short =
    let n : length (take (c.at - at) b) ≡ c.at - at = omega (arith, length-take (c.at - at) b) in
    ap (λ (j : ℕ). get_or (take (c.at - at) b ++ (c.bytes ++ more)) (j + (length c.bytes + k)) 0) (sym n)
    ∙ get_or-append-add (take (c.at - at) b) (c.bytes ++ more) (length c.bytes + k) 0 ∙ get_or-append-add c.bytes more k 0

pub splice_byte : (at : ℕ) (b : List ℕ) (cs : List Cut) (p : ℕ) → Ascend at cs (at + length b) → Outside cs p → at ≤ p → get_or (splice_from at b cs) (shift cs p - at) 0 ≡ get_or b (p - at) 0
splice_byte at b [] p h o le = let e : ((p + 0) - 0) - at ≡ p - at = omega arith in rw e refl
splice_byte at b (c ∷ cs) p h o le = go o.0 (λ ge. splice_byte (end_of c) (drop (end_of c - at) b) cs p (below h.1) o.1 ge)
  where
    ends_low : end_of c ≤ at + length b
    ends_low = ascend_low (end_of c) (at + length b) cs h.1

    below : Ascend (end_of c) cs (at + length b) → Ascend (end_of c) cs (end_of c + length (drop (end_of c - at) b))
    below a = let e : end_of c + length (drop (end_of c - at) b) ≡ at + length b = omega (arith, length-drop (end_of c - at) b, ends_low, h.0) in rw e a

    go : (p < c.at) ⊎ (end_of c ≤ p)
        → (end_of c ≤ p → get_or (splice_from (end_of c) (drop (end_of c - at) b) cs) (shift cs p - end_of c) 0 ≡ get_or (drop (end_of c - at) b) (p - end_of c) 0)
        → get_or (splice_from at b (c ∷ cs)) (shift (c ∷ cs) p - at) 0 ≡ get_or b (p - at) 0
    go (inl lt) again =
        let z = behind_lost c cs p lt in
        let e : shift (c ∷ cs) p - at ≡ p - at = omega (arith, z.0, z.1) in
        rw e (head_byte at c b (c.bytes ++ splice_from (end_of c) (drop (end_of c - at) b) cs) p le lt (omega (arith, ends_low)))
    go (inr ge) again =
        let z = before_lost c cs p ge in
        let low = lost_low (end_of c) (at + length b) cs p h.1 o.1 ge in
        let e : shift (c ∷ cs) p - at ≡ (c.at - at) + (length c.bytes + (shift cs p - end_of c)) = omega (arith, z.0, z.1, low, h.0) in
        let back : (end_of c - at) + (p - end_of c) ≡ p - at = omega (arith, h.0) in
        rw e (tail_byte at c b (splice_from (end_of c) (drop (end_of c - at) b) cs) (shift cs p - end_of c) h.0 (omega (arith, ends_low)) ∙ again ge ∙ get_or-drop (end_of c - at) b (p - end_of c) 0 ∙ ap (λ (j : ℕ). get_or b j 0) back)

-- places in no span keep their order
pub shift_order : (from end : ℕ) (cs : List Cut) (p q : ℕ) → Ascend from cs end → Outside cs p → Outside cs q → from ≤ p → p < q → shift cs p < shift cs q
shift_order from end [] p q h o r le lt = omega arith
shift_order from end (c ∷ cs) p q h o r le lt = go o.0 r.0 (λ ge. shift_order (end_of c) end cs p q h.1 o.1 r.1 ge lt)
  where
    low : (x : ℕ) → Outside cs x → end_of c ≤ x → lost cs x + end_of c ≤ x
    low x out ge = lost_low (end_of c) end cs x h.1 out ge

    go : (p < c.at) ⊎ (end_of c ≤ p) → (q < c.at) ⊎ (end_of c ≤ q) → (end_of c ≤ p → shift cs p < shift cs q) → shift (c ∷ cs) p < shift (c ∷ cs) q
    go (inl x) (inl y) again = let a = behind_lost c cs p x in let b = behind_lost c cs q y in omega (arith, a.0, a.1, b.0, b.1)
    go (inl x) (inr y) again = let a = behind_lost c cs p x in let b = before_lost c cs q y in omega (arith, a.0, a.1, b.0, b.1, low q r.1 y)
    go (inr x) (inl y) again = absurd (omega arith)
    go (inr x) (inr y) again = let a = before_lost c cs p x in let b = before_lost c cs q y in omega (arith, a.0, a.1, b.0, b.1, low p o.1 x, low q r.1 y, again x)

-- Writes into bytes of which spans are then replaced are the same writes, moved, into the new bytes.
use Rattle.std.proofs.Common.{◌≡◌, ℕ, suc, ◌+◌, ◌-◌, ◌<◌, ◌≤◌, Bool, true, false, cond, List, [], ◌∷◌, ◌++◌, length, map, take, drop, get_or, refl, sym, ap, subst, ◌∙◌, arith, inl, inr}
use Rattle.std.specs.Prelude.{◌⊎◌}
use Rattle.std.specs.List.{AllByRecursion}
use Rattle.std.proofs.lemmas.Bool.{cases_lt}
use Rattle.std.proofs.lemmas.List.{length-take, length-drop}
use Rattle.container_model.specs.Splice.{Cut, end_of, splice_from, Ascend, shift, Outside}
use Rattle.container_model.specs.Written.{Write, covers, written_byte, written}
use Rattle.container_model.proofs.Written.{write_end, covers_not, covers_it, written-append, written-drop, written-take}
use Rattle.container_model.proofs.Splice.{before_lost, behind_lost, lost_low}

-- a write at another place
abbrev pub moved_write : (ℕ → ℕ) → Write → Write
moved_write f w = record { at = f w.at; bytes = w.bytes }

-- ---- one write

abbrev to_of : ℕ → ℕ → Cut → ℕ
to_of at to c = to + (c.at - at) + length c.bytes

-- each place of a write is passed, or goes where the spans take it
abbrev Goes : ℕ → ℕ → List Cut → (ℕ → ℕ) → Write → Type 0
Goes at to cs f w = (i : ℕ) → i < length w.bytes → ((w.at + i < at) × (f w.at + i < to)) ⊎ ((at ≤ w.at + i) × Outside cs (w.at + i) × (f w.at + i + at ≡ shift cs (w.at + i) + to))

goes_next : (at to end : ℕ) (c : Cut) (cs : List Cut) (f : ℕ → ℕ) (w : Write) → Ascend at (c ∷ cs) end → Goes at to (c ∷ cs) f w → Goes (end_of c) (to_of at to c) cs f w
goes_next at to end c cs f w asc g i lt = go (g i lt)
  where
    two : (at ≤ w.at + i) → Outside cs (w.at + i) → (f w.at + i + at ≡ shift (c ∷ cs) (w.at + i) + to) → (w.at + i < c.at) ⊎ (end_of c ≤ w.at + i)
        → ((w.at + i < end_of c) × (f w.at + i < to_of at to c)) ⊎ ((end_of c ≤ w.at + i) × Outside cs (w.at + i) × (f w.at + i + end_of c ≡ shift cs (w.at + i) + to_of at to c))
    two low out e (inl b) = let z = behind_lost c cs (w.at + i) b in inl (omega arith, omega (arith, e, z.0, z.1, asc.0))
    two low out e (inr b) =
        let z = before_lost c cs (w.at + i) b in
        let l = lost_low (end_of c) end cs (w.at + i) asc.1 out b in
        inr (b, out, omega (arith, e, z.0, z.1, l, asc.0))

    go : ((w.at + i < at) × (f w.at + i < to)) ⊎ ((at ≤ w.at + i) × Outside (c ∷ cs) (w.at + i) × (f w.at + i + at ≡ shift (c ∷ cs) (w.at + i) + to))
        → ((w.at + i < end_of c) × (f w.at + i < to_of at to c)) ⊎ ((end_of c ≤ w.at + i) × Outside cs (w.at + i) × (f w.at + i + end_of c ≡ shift cs (w.at + i) + to_of at to c))
    go (inl h) = inl (omega (arith, h.0, asc.0), omega (arith, h.1))
    go (inr h) = two h.0 h.1.1 h.2 h.1.0

-- covering a place of the same number behind both starts
same_cover : (at to j : ℕ) (f : ℕ → ℕ) (w : Write) → ((i : ℕ) → i < length w.bytes → (w.at + i ≡ at + j) → f w.at + i ≡ to + j) → ((i : ℕ) → i < length w.bytes → (f w.at + i ≡ to + j) → w.at + i ≡ at + j)
    → (x y : ℕ) → x ≡ y → cond (covers (moved_write f w) (to + j)) (get_or w.bytes ((to + j) - f w.at) 0) x ≡ cond (covers w (at + j)) (get_or w.bytes ((at + j) - w.at) 0) y
same_cover at to j f w there back x y e = go (cases_lt (at + j) w.at) (cases_lt (at + j) (write_end w))
  where
    none : ((write_end w ≤ at + j) ⊎ (at + j < w.at)) → (f w.at ≤ to + j → to + j < f w.at + length w.bytes → ⊥) → cond (covers (moved_write f w) (to + j)) (get_or w.bytes ((to + j) - f w.at) 0) x ≡ cond (covers w (at + j)) (get_or w.bytes ((at + j) - w.at) 0) y
    none h out = ap (λ (b : Bool). cond b (get_or w.bytes ((to + j) - f w.at) 0) x) (covers_not (moved_write f w) (to + j) (other (cases_lt (to + j) (f w.at)) (cases_lt (to + j) (f w.at + length w.bytes)))) ∙ e ∙ ap (λ (b : Bool). cond b (get_or w.bytes ((at + j) - w.at) 0) y) (sym (covers_not w (at + j) h))
      where
        other : (to + j < f w.at) ⊎ (f w.at ≤ to + j) → (to + j < f w.at + length w.bytes) ⊎ (f w.at + length w.bytes ≤ to + j) → (f w.at + length w.bytes ≤ to + j) ⊎ (to + j < f w.at)
        other (inl a) b = inr a
        other (inr a) (inl b) = absurd (out a b)
        other (inr a) (inr b) = inl b

    outside : ((at + j < w.at) ⊎ (write_end w ≤ at + j)) → f w.at ≤ to + j → to + j < f w.at + length w.bytes → ⊥
    outside h a b =
        let i = (to + j) - f w.at in
        let k = back i (omega arith) (omega arith) in
        side h k
      where
        side : ((at + j < w.at) ⊎ (write_end w ≤ at + j)) → w.at + ((to + j) - f w.at) ≡ at + j → ⊥
        side (inl h) k = omega arith
        side (inr h) k = omega arith

    go : (at + j < w.at) ⊎ (w.at ≤ at + j) → (at + j < write_end w) ⊎ (write_end w ≤ at + j) → cond (covers (moved_write f w) (to + j)) (get_or w.bytes ((to + j) - f w.at) 0) x ≡ cond (covers w (at + j)) (get_or w.bytes ((at + j) - w.at) 0) y
    go (inl a) b = none (inr a) (outside (inl a))
    go (inr a) (inr b) = none (inl b) (outside (inr b))
    go (inr a) (inl b) =
        let i = (at + j) - w.at in
        let k = there i (omega arith) (omega arith) in
        let same : (to + j) - f w.at ≡ (at + j) - w.at = omega (arith, k) in
        ap (λ (b : Bool). cond b (get_or w.bytes ((to + j) - f w.at) 0) x) (covers_it (moved_write f w) (to + j) (omega (arith, k)) (omega (arith, k, b))) ∙ ap (λ (q : ℕ). get_or w.bytes q 0) same
        ∙ ap (λ (b : Bool). cond b (get_or w.bytes ((at + j) - w.at) 0) y) (sym (covers_it w (at + j) a b))

-- ---- bytes between spans

-- what comes behind is a span, or nothing
abbrev Clear : ℕ → ℕ → ℕ → (ℕ → ℕ) → Write → Type 0
Clear at to n f w = (j : ℕ) → j < n → ((i : ℕ) → i < length w.bytes → (w.at + i ≡ at + j) → f w.at + i ≡ to + j) × ((i : ℕ) → i < length w.bytes → (f w.at + i ≡ to + j) → w.at + i ≡ at + j)

byte_same : (at to j x : ℕ) (f : ℕ → ℕ) (ws : List Write) (n : ℕ) → j < n → AllByRecursion (Clear at to n f) ws → written_byte (map (moved_write f) ws) (to + j) x ≡ written_byte ws (at + j) x
byte_same at to j x f [] n lt h = refl
byte_same at to j x f (w ∷ ws) n lt h = let k = h.0 j lt in same_cover at to j f w k.0 k.1 (written_byte (map (moved_write f) ws) (to + j) x) (written_byte ws (at + j) x) (byte_same at to j x f ws n lt h.1)

bytes_same : (at to : ℕ) (f : ℕ → ℕ) (ws : List Write) (n k : ℕ) (b : List ℕ) → k + length b ≤ n → AllByRecursion (Clear at to n f) ws → written (map (moved_write f) ws) (to + k) b ≡ written ws (at + k) b
bytes_same at to f ws n k [] le h = refl
bytes_same at to f ws n k (x ∷ b) le h =
    let e : suc (to + k) ≡ to + suc k = omega arith in
    let g : suc (at + k) ≡ at + suc k = omega arith in
    rw (byte_same at to k x f ws n (omega arith) h, e, g, bytes_same at to f ws n (suc k) b (omega arith) h) refl

-- places before a span go on as they are
clear_before : (at to end : ℕ) (c : Cut) (cs : List Cut) (f : ℕ → ℕ) (w : Write) → Ascend at (c ∷ cs) end → Goes at to (c ∷ cs) f w → Clear at to (c.at - at) f w
clear_before at to end c cs f w asc g j lt = ((λ i l e. there i l e (g i l)), (λ i l e. back i l e (g i l)))
  where
    there : (i : ℕ) → i < length w.bytes → w.at + i ≡ at + j → ((w.at + i < at) × (f w.at + i < to)) ⊎ ((at ≤ w.at + i) × Outside (c ∷ cs) (w.at + i) × (f w.at + i + at ≡ shift (c ∷ cs) (w.at + i) + to)) → f w.at + i ≡ to + j
    there i l e (inl h) = absurd (omega (arith, h.0))
    there i l e (inr h) = let z = behind_lost c cs (w.at + i) (omega arith) in omega (arith, h.2, z.0, z.1)

    back : (i : ℕ) → i < length w.bytes → f w.at + i ≡ to + j → ((w.at + i < at) × (f w.at + i < to)) ⊎ ((at ≤ w.at + i) × Outside (c ∷ cs) (w.at + i) × (f w.at + i + at ≡ shift (c ∷ cs) (w.at + i) + to)) → w.at + i ≡ at + j
    back i l e (inl h) = absurd (omega (arith, h.1))
    back i l e (inr h) = go h.1.0
      where
        go : (w.at + i < c.at) ⊎ (end_of c ≤ w.at + i) → w.at + i ≡ at + j
        go (inl q) = let z = behind_lost c cs (w.at + i) q in omega (arith, h.2, z.0, z.1)
        go (inr q) = let z = before_lost c cs (w.at + i) q in let low = lost_low (end_of c) end cs (w.at + i) asc.1 h.1.1 q in absurd (omega (arith, h.2, z.0, z.1, low, asc.0, lt))

-- the new bytes of a span are left alone
clear_span : (at to end : ℕ) (c : Cut) (cs : List Cut) (f : ℕ → ℕ) (w : Write) → Ascend at (c ∷ cs) end → Goes at to (c ∷ cs) f w → (j : ℕ) → j < length c.bytes → covers (moved_write f w) (to + (c.at - at) + j) ≡ false
clear_span at to end c cs f w asc g j lt = covers_not (moved_write f w) p (go (cases_lt p (f w.at)) (cases_lt p (f w.at + length w.bytes)))
  where
    p : ℕ
    p = to + (c.at - at) + j

    hit : (i : ℕ) → i < length w.bytes → f w.at + i ≡ to + (c.at - at) + j → ((w.at + i < at) × (f w.at + i < to)) ⊎ ((at ≤ w.at + i) × Outside (c ∷ cs) (w.at + i) × (f w.at + i + at ≡ shift (c ∷ cs) (w.at + i) + to)) → ⊥
    hit i l e (inl h) = omega (arith, h.1)
    hit i l e (inr h) = side h.1.0
      where
        side : (w.at + i < c.at) ⊎ (end_of c ≤ w.at + i) → ⊥
        side (inl q) = let z = behind_lost c cs (w.at + i) q in omega (arith, h.2, z.0, z.1, asc.0)
        side (inr q) = let z = before_lost c cs (w.at + i) q in let low = lost_low (end_of c) end cs (w.at + i) asc.1 h.1.1 q in omega (arith, h.2, z.0, z.1, low, asc.0, lt)

    go : (to + (c.at - at) + j < f w.at) ⊎ (f w.at ≤ to + (c.at - at) + j) → (to + (c.at - at) + j < f w.at + length w.bytes) ⊎ (f w.at + length w.bytes ≤ to + (c.at - at) + j) → (f w.at + length w.bytes ≤ to + (c.at - at) + j) ⊎ (to + (c.at - at) + j < f w.at)
    go (inl a) b = inr a
    go (inr a) (inr b) = inl b
    go (inr a) (inl b) = let i = (to + (c.at - at) + j) - f w.at in absurd (hit i (omega arith) (omega arith) (g i (omega arith)))

byte_clear : (ws : List Write) (p x : ℕ) → AllByRecursion (λ w. covers w p ≡ false) ws → written_byte ws p x ≡ x
byte_clear [] p x h = refl
byte_clear (w ∷ ws) p x h = ap (λ (b : Bool). cond b (get_or w.bytes (p - w.at) 0) (written_byte ws p x)) h.0 ∙ byte_clear ws p x h.1

span_clear : (ws : List Write) (to n k : ℕ) (b : List ℕ) → k + length b ≤ n → ((j : ℕ) → j < n → AllByRecursion (λ w. covers w (to + j) ≡ false) ws) → written ws (to + k) b ≡ b
span_clear ws to n k [] le h = refl
span_clear ws to n k (x ∷ b) le h =
    let e : suc (to + k) ≡ to + suc k = omega arith in
    rw (byte_clear ws (to + k) x (h k (omega arith)), e, span_clear ws to n (suc k) b (omega arith) h) refl

all_map : (P Q : Write → Type 0) (g : Write → Write) → ((w : Write) → P w → Q (g w)) → (ws : List Write) → AllByRecursion P ws → AllByRecursion Q (map g ws)
all_map P Q g h [] a = tt
all_map P Q g h (w ∷ ws) a = (h w a.0, all_map P Q g h ws a.1)

all_steps : (P Q : Write → Type 0) → ((w : Write) → P w → Q w) → (ws : List Write) → AllByRecursion P ws → AllByRecursion Q ws
all_steps P Q h [] a = tt
all_steps P Q h (w ∷ ws) a = (h w a.0, all_steps P Q h ws a.1)

splice_written : (at to : ℕ) (b : List ℕ) (cs : List Cut) (f : ℕ → ℕ) (ws : List Write) → Ascend at cs (at + length b) → AllByRecursion (Goes at to cs f) ws → written (map (moved_write f) ws) to (splice_from at b cs) ≡ splice_from at (written ws at b) cs
splice_written at to b [] f ws asc g =
    let z : to + 0 ≡ to = omega arith in
    let y : at + 0 ≡ at = omega arith in
    ap (λ (q : ℕ). written (map (moved_write f) ws) q b) (sym z) ∙ bytes_same at to f ws (length b) 0 b (omega arith) (all_steps (Goes at to [] f) (Clear at to (length b) f) (λ w h. plain w h) ws g) ∙ ap (λ (q : ℕ). written ws q b) y
  where
    plain : (w : Write) → Goes at to [] f w → Clear at to (length b) f w
    plain w h j lt = ((λ i l e. there i e (h i l)), (λ i l e. back i e (h i l)))
      where
        there : (i : ℕ) → w.at + i ≡ at + j → ((w.at + i < at) × (f w.at + i < to)) ⊎ ((at ≤ w.at + i) × Unit {0} × (f w.at + i + at ≡ shift [] (w.at + i) + to)) → f w.at + i ≡ to + j
        there i e (inl h) = absurd (omega (arith, h.0))
        there i e (inr h) = omega (arith, h.2)

        back : (i : ℕ) → f w.at + i ≡ to + j → ((w.at + i < at) × (f w.at + i < to)) ⊎ ((at ≤ w.at + i) × Unit {0} × (f w.at + i + at ≡ shift [] (w.at + i) + to)) → w.at + i ≡ at + j
        back i e (inl h) = absurd (omega (arith, h.1))
        back i e (inr h) = omega (arith, h.2)
splice_written at to b (c ∷ cs) f ws asc g =
    let W = map (moved_write f) ws in
    let k = c.at - at in
    let m = end_of c - at in
    let ends_low = ascend_low (end_of c) (at + length b) cs asc.1 in
    let front_len : length (take k b) ≡ k = omega (arith, length-take k b, ends_low, asc.0) in
    let rest = splice_from (end_of c) (drop m b) cs in
    let z : to + 0 ≡ to = omega arith in
    let y : at + 0 ≡ at = omega arith in
    let one : written W to (take k b) ≡ written ws at (take k b)
    = ap (λ (q : ℕ). written W q (take k b)) (sym z) ∙ bytes_same at to f ws k 0 (take k b) (omega (arith, front_len)) (all_steps (Goes at to (c ∷ cs) f) (Clear at to k f) (λ w h. clear_before at to (at + length b) c cs f w asc h) ws g) ∙ ap (λ (q : ℕ). written ws q (take k b)) y in
    let place : to + length (take k b) ≡ (to + k) + 0 = omega (arith, front_len) in
    let two : written W (to + length (take k b)) c.bytes ≡ c.bytes
    = ap (λ (q : ℕ). written W q c.bytes) place ∙ span_clear W (to + k) (length c.bytes) 0 c.bytes (omega arith) (λ j lt. all_map (Goes at to (c ∷ cs) f) (λ w. covers w ((to + k) + j) ≡ false) (moved_write f) (λ w h. clear_span at to (at + length b) c cs f w asc h j lt) ws g) in
    let next : (to + length (take k b)) + length c.bytes ≡ to_of at to c = omega (arith, front_len) in
    let long : end_of c + length (drop m b) ≡ at + length b = omega (arith, length-drop m b, ends_low, asc.0) in
    let three : written W ((to + length (take k b)) + length c.bytes) rest ≡ splice_from (end_of c) (written ws (end_of c) (drop m b)) cs
    = ap (λ (q : ℕ). written W q rest) next ∙ splice_written (end_of c) (to_of at to c) (drop m b) cs f ws (rw long asc.1) (all_steps (Goes at to (c ∷ cs) f) (Goes (end_of c) (to_of at to c) cs f) (λ w h. goes_next at to (at + length b) c cs f w asc h) ws g) in
    let reach : at + m ≡ end_of c = omega (arith, asc.0) in
    let front : take k (written ws at b) ≡ written ws at (take k b) = written-take ws at k b in
    let back : drop m (written ws at b) ≡ written ws (end_of c) (drop m b) = written-drop ws at m b ∙ ap (λ (q : ℕ). written ws q (drop m b)) reach in
    written-append W to (take k b) (c.bytes ++ rest) ∙ ap (λ (x : List ℕ). written W to (take k b) ++ x) (written-append W (to + length (take k b)) c.bytes rest)
    ∙ join one two three ∙ ap (λ (x : List ℕ). x ++ (c.bytes ++ splice_from (end_of c) (written ws (end_of c) (drop m b)) cs)) (sym front)
    ∙ ap (λ (x : List ℕ). take k (written ws at b) ++ (c.bytes ++ splice_from (end_of c) x cs)) (sym back)
  where
    ascend_low : (from end : ℕ) (cs : List Cut) → Ascend from cs end → from ≤ end
    ascend_low from end [] h = h
    ascend_low from end (c ∷ cs) h = omega (arith, ascend_low (end_of c) end cs h.1)

    join : {x y z p q r : List ℕ} → x ≡ p → y ≡ q → z ≡ r → x ++ (y ++ z) ≡ p ++ (q ++ r)
    join {x} {y} {z} {p} {q} {r} d e f = ap (λ (k : List ℕ). k ++ (y ++ z)) d ∙ ap (λ (k : List ℕ). p ++ (k ++ z)) e ∙ ap (λ (k : List ℕ). p ++ (q ++ k)) f

-- Writes that move as one go with the spans.
pub moved_over : (b : List ℕ) (cs : List Cut) (f : ℕ → ℕ) (ws : List Write) → Ascend 0 cs (length b) → AllByRecursion (λ w. (i : ℕ) → i < length w.bytes → Outside cs (w.at + i) × (shift cs (w.at + i) ≡ f w.at + i)) ws
    → written (map (moved_write f) ws) 0 (splice_from 0 b cs) ≡ splice_from 0 (written ws 0 b) cs
moved_over b cs f ws asc h =
    splice_written 0 0 b cs f ws (subst (λ (n : ℕ). Ascend 0 cs n) (omega arith) asc)
    (all_steps (λ w. (i : ℕ) → i < length w.bytes → Outside cs (w.at + i) × (shift cs (w.at + i) ≡ f w.at + i)) (Goes 0 0 cs f) (λ w g i lt. let k = g i lt in inr (omega arith, k.0, omega (arith, k.1))) ws h)

-- ---- ranges that are written twice

pub record Pair : Type 0 where
  pub first : Write
  pub second : Write

abbrev pub firsts : List Pair → List Write
firsts ps = map (λ (x : Pair). x.first) ps

abbrev pub seconds : List Pair → List Write
seconds ps = map (λ (x : Pair). x.second) ps

-- both write the same range
abbrev pub SameRange : Pair → Type 0
SameRange x = (x.first.at ≡ x.second.at) × (length x.first.bytes ≡ length x.second.bytes)

last_counts : (ps : List Pair) (p x : ℕ) → AllByRecursion SameRange ps → (written_byte (firsts ps) p x ≡ x) ⊎ ((y z : ℕ) → written_byte (seconds ps) p y ≡ written_byte (seconds ps) p z)
last_counts [] p x h = inl refl
last_counts (w ∷ ps) p x h = go (covers w.second p) refl (last_counts ps p x h.1)
  where
    same : covers w.first p ≡ covers w.second p
    same = rw (h.0.0, h.0.1) refl

    go : (t : Bool) → covers w.second p ≡ t → (written_byte (firsts ps) p x ≡ x) ⊎ ((y z : ℕ) → written_byte (seconds ps) p y ≡ written_byte (seconds ps) p z)
        → (written_byte (firsts (w ∷ ps)) p x ≡ x) ⊎ ((y z : ℕ) → written_byte (seconds (w ∷ ps)) p y ≡ written_byte (seconds (w ∷ ps)) p z)
    go true t again = inr (λ y z. ap (λ (b : Bool). cond b (get_or w.second.bytes (p - w.second.at) 0) (written_byte (seconds ps) p y)) t ∙ sym (ap (λ (b : Bool). cond b (get_or w.second.bytes (p - w.second.at) 0) (written_byte (seconds ps) p z)) t))
    go false t (inl e) = inl (ap (λ (b : Bool). cond b (get_or w.first.bytes (p - w.first.at) 0) (written_byte (firsts ps) p x)) (same ∙ t) ∙ e)
    go false t (inr e) = inr (λ y z. ap (λ (b : Bool). cond b (get_or w.second.bytes (p - w.second.at) 0) (written_byte (seconds ps) p y)) t ∙ e y z ∙ sym (ap (λ (b : Bool). cond b (get_or w.second.bytes (p - w.second.at) 0) (written_byte (seconds ps) p z)) t))

-- The last of two writes of a range counts.
pub written_both : (ps : List Pair) (at : ℕ) (b : List ℕ) → AllByRecursion SameRange ps → written (seconds ps) at (written (firsts ps) at b) ≡ written (seconds ps) at b
written_both ps at [] h = refl
written_both ps at (x ∷ b) h = rw (one (last_counts ps at x h), written_both ps (suc at) b h) refl
  where
    one : (written_byte (firsts ps) at x ≡ x) ⊎ ((y z : ℕ) → written_byte (seconds ps) at y ≡ written_byte (seconds ps) at z) → written_byte (seconds ps) at (written_byte (firsts ps) at x) ≡ written_byte (seconds ps) at x
    one (inl e) = ap (written_byte (seconds ps) at) e
    one (inr e) = e (written_byte (firsts ps) at x) x

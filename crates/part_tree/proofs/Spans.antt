-- Ranges that ascend: the last one that begins at a place or before it, and the one behind it, tell of all.
use Rattle.std.proofs.Common.{◌≡◌, ◌∙◌, ℕ, zero, suc, ◌+◌, ◌<◌, ◌≤◌, Bool, true, false, cond, eqb, leb, ltb, List, [], ◌∷◌, length, get_or, refl, sym, ap, arith}
use Rattle.std.specs.Prelude.{◌&&◌, ◌||◌, nat_le, nat_lt, ◌==◌}
use Rattle.std.specs.List.Sorted.{IsPartitionedBy, IsPartitionPoint}
use Rattle.std.proofs.lemmas.Bool.{and_parts, leb-true, leb-false, le-leb, lt-leb, eqb-true, eq-eqb, ne_eqb, ltb-true, ltb-false}
use Rattle.part_tree.specs.declared.names.Span.{Span}
use Rattle.part_tree.specs.Ranges.{within, in_one, begins_one, passes_by, clear_of, Ascends, begins_by, IsCut, no_span, last_by, next_by}

-- each range begins at or behind the place from which they ascend
later : (low : ℕ) (ss : List Span) (i : ℕ) (d : Span) → Ascends low ss → i < length ss → low ≤ (get_or ss i d).at
later low [] i d h lt = absurd (omega arith)
later low (s ∷ ss) zero d h lt = h.0
later low (s ∷ ss) (suc i) d h lt = let rest = later (s.at + s.len) ss i d h.1 (omega arith) in let first = h.0 in omega arith

-- ranges that ascend are partitioned by whether they begin at a place or before it
pub partitioned : (low : ℕ) (ss : List Span) (p : ℕ) → Ascends low ss → IsPartitionedBy (begins_by p) ss
partitioned low [] p h i j d le lt here = absurd (omega arith)
partitioned low (s ∷ ss) p h zero zero d le lt here = here
partitioned low (s ∷ ss) p h zero (suc j) d le lt here =
    let more = later (s.at + s.len) ss j d h.1 (omega arith) in
    let far = leb-true (get_or ss j d).at p here in
    le-leb s.at p (omega arith)
partitioned low (s ∷ ss) p h (suc i) zero d le lt here = absurd (omega arith)
partitioned low (s ∷ ss) p h (suc i) (suc j) d le lt here = partitioned (s.at + s.len) ss p h.1 i j d (omega arith) (omega arith) here

less_suc : (k n : ℕ) → ltb k n ≡ ltb (suc k) (suc n)
less_suc k n = go (ltb k n) (ltb (suc k) (suc n)) refl refl
  where
    go : (a b : Bool) → ltb k n ≡ a → ltb (suc k) (suc n) ≡ b → a ≡ b
    go true true e f = refl
    go false false e f = refl
    go true false e f = absurd (omega (arith, ltb-true k n e, ltb-false (suc k) (suc n) f))
    go false true e f = absurd (omega (arith, ltb-false k n e, ltb-true (suc k) (suc n) f))

-- ---- the cut of a tail

cut_none : (p : ℕ) (s : Span) (ss : List Span) → IsCut p (s ∷ ss) 0 → IsCut p ss 0
cut_none p s ss c = ((λ i d low less. absurd (omega arith)), (λ i d low less. c.1 (suc i) d (omega arith) (omega arith)))

cut_more : (p : ℕ) (s : Span) (ss : List Span) (k : ℕ) → IsCut p (s ∷ ss) (suc k) → IsCut p ss k
cut_more p s ss k c = ((λ i d low less. c.0 (suc i) d (omega arith) (omega arith)), (λ i d low less. c.1 (suc i) d (omega arith) (omega arith)))

first_far : (p : ℕ) (s : Span) (ss : List Span) → IsCut p (s ∷ ss) 0 → leb s.at p ≡ false
first_far p s ss c = c.1 0 s (omega arith) (omega arith)

and_no : (a b : Bool) → a ≡ false → (a && b) ≡ false
and_no true b e = absurd cc
and_no false b e = refl

or_no : (a b : Bool) → a ≡ false → (a || b) ≡ b
or_no true b e = absurd cc
or_no false b e = refl

or_none : (a : Bool) → (a || false) ≡ a
or_none true = refl
or_none false = refl

-- ---- the one that holds a range

none_one : (ss : List Span) (p n : ℕ) → IsCut p ss 0 → in_one ss p n ≡ false
none_one [] p n c = refl
none_one (s ∷ ss) p n c = or_no (within s p n) (in_one ss p n) (and_no (leb s.at p) (leb (p + n) (s.at + s.len)) (first_far p s ss c)) ∙ none_one ss p n (cut_none p s ss c)

pub one_last : (low : ℕ) (ss : List Span) (p n k : ℕ) → Ascends low ss → k ≤ length ss → IsCut p ss k → in_one ss p n ≡ last_by (λ s. within s p n) false ss k
one_last low ss p n zero h le c = none_one ss p n c
one_last low [] p n (suc k) h le c = absurd (omega arith)
one_last low (s ∷ ss) p n (suc zero) h le c = ap (λ (x : Bool). within s p n || x) (none_one ss p n (cut_more p s ss 0 c)) ∙ or_none (within s p n)
one_last low (s ∷ ss) p n (suc (suc j)) h le c = go (within s p n) refl (one_last (s.at + s.len) ss p n (suc j) h.1 (omega arith) (cut_more p s ss (suc j) c))
  where
    t : Span
    t = get_or ss j no_span

    near : t.at ≤ p
    near = leb-true (get_or ss j no_span).at p (c.0 (suc j) no_span (omega arith) (omega arith))

    far : s.at + s.len ≤ t.at
    far = later (s.at + s.len) ss j no_span h.1 (omega arith)

    go : (b : Bool) → within s p n ≡ b → in_one ss p n ≡ within t p n → (b || in_one ss p n) ≡ within t p n
    go false e again = again
    go true e again =
        let inside = leb-true (p + n) (s.at + s.len) (and_parts (leb s.at p) (leb (p + n) (s.at + s.len)) e).1 in
        sym (ap (λ (x : Bool). x && leb (p + n) (t.at + t.len)) (le-leb t.at p near) ∙ le-leb (p + n) (t.at + t.len) (omega (arith, inside, far, near)))

-- ---- the one whose header stands at a place

none_begins : (ss : List Span) (p : ℕ) → IsCut (p + 8) ss 0 → begins_one ss p ≡ false
none_begins [] p c = refl
none_begins (s ∷ ss) p c =
    let far = leb-false s.at (p + 8) (first_far (p + 8) s ss c) in
    or_no (eqb s.at (p + 8)) (begins_one ss p) (ne_eqb s.at (p + 8) (λ e. omega (arith, far, e))) ∙ none_begins ss p (cut_none (p + 8) s ss c)

pub head_last : (low : ℕ) (ss : List Span) (p k : ℕ) → Ascends low ss → k ≤ length ss → IsCut (p + 8) ss k → begins_one ss p ≡ last_by (λ s. s.at == p + 8) false ss k
head_last low ss p zero h le c = none_begins ss p c
head_last low [] p (suc k) h le c = absurd (omega arith)
head_last low (s ∷ ss) p (suc zero) h le c = ap (λ (x : Bool). eqb s.at (p + 8) || x) (none_begins ss p (cut_more (p + 8) s ss 0 c)) ∙ or_none (eqb s.at (p + 8))
head_last low (s ∷ ss) p (suc (suc j)) h le c = go (eqb s.at (p + 8)) refl (head_last (s.at + s.len) ss p (suc j) h.1 (omega arith) (cut_more (p + 8) s ss (suc j) c))
  where
    t : Span
    t = get_or ss j no_span

    near : t.at ≤ p + 8
    near = leb-true (get_or ss j no_span).at (p + 8) (c.0 (suc j) no_span (omega arith) (omega arith))

    far : s.at + s.len ≤ t.at
    far = later (s.at + s.len) ss j no_span h.1 (omega arith)

    go : (b : Bool) → eqb s.at (p + 8) ≡ b → begins_one ss p ≡ eqb t.at (p + 8) → (b || begins_one ss p) ≡ eqb t.at (p + 8)
    go false e again = again
    go true e again = sym (eq-eqb t.at (p + 8) (omega (arith, eqb-true s.at (p + 8) e, far, near)))

-- ---- the two that a range may touch

far_clear : (low : ℕ) (ss : List Span) (p n : ℕ) → Ascends low ss → p + n + 8 ≤ low → clear_of ss p n ≡ true
far_clear low [] p n h le = refl
far_clear low (s ∷ ss) p n h le =
    ap (λ (x : Bool). (leb (s.at + s.len) p || x) && clear_of ss p n) (le-leb (p + n + 8) s.at (omega (arith, h.0)))
    ∙ ap (λ (x : Bool). x && clear_of ss p n) (or_true (leb (s.at + s.len) p))
    ∙ far_clear (s.at + s.len) ss p n h.1 (omega (arith, h.0))
  where
    or_true : (a : Bool) → (a || true) ≡ true
    or_true true = refl
    or_true false = refl

clear_first : (low : ℕ) (s : Span) (ss : List Span) (p n : ℕ) → Ascends low (s ∷ ss) → IsCut p (s ∷ ss) 0 → clear_of (s ∷ ss) p n ≡ passes_by s p n
clear_first low s ss p n h c = go (leb (s.at + s.len) p) (leb (p + n + 8) s.at) refl refl
  where
    away : p < s.at
    away = leb-false s.at p (first_far p s ss c)

    go : (a b : Bool) → leb (s.at + s.len) p ≡ a → leb (p + n + 8) s.at ≡ b → ((a || b) && clear_of ss p n) ≡ (a || b)
    go true b e f = absurd (omega (arith, leb-true (s.at + s.len) p e, away))
    go false true e f = far_clear (s.at + s.len) ss p n h.1 (omega (arith, leb-true (p + n + 8) s.at f))
    go false false e f = refl

clear_none : (low : ℕ) (ss : List Span) (p n : ℕ) → Ascends low ss → IsCut p ss 0 → clear_of ss p n ≡ next_by (λ s. passes_by s p n) ss 0
clear_none low [] p n h c = refl
clear_none low (s ∷ ss) p n h c = clear_first low s ss p n h c ∙ sym (ap (λ (t : Bool). cond t (passes_by s p n) true) (Rattle.std.proofs.lemmas.Bool.lt-ltb 0 (length (s ∷ ss)) (omega arith)))

pub clear_cut : (low : ℕ) (ss : List Span) (p n k : ℕ) → Ascends low ss → k ≤ length ss → IsCut p ss k → clear_of ss p n ≡ (last_by (λ s. passes_by s p n) true ss k && next_by (λ s. passes_by s p n) ss k)
clear_cut low ss p n zero h le c = clear_none low ss p n h c
clear_cut low [] p n (suc k) h le c = absurd (omega arith)
clear_cut low (s ∷ ss) p n (suc zero) h le c = ap (λ (x : Bool). passes_by s p n && x) (clear_none (s.at + s.len) ss p n h.1 (cut_more p s ss 0 c)) ∙ ap (λ (t : Bool). passes_by s p n && cond t (passes_by (get_or ss 0 no_span) p n) true) (less_suc 0 (length ss))
clear_cut low (s ∷ ss) p n (suc (suc j)) h le c =
    let t = get_or ss j no_span in
    let near = leb-true (get_or ss j no_span).at p (c.0 (suc j) no_span (omega arith) (omega arith)) in
    let far = later (s.at + s.len) ss j no_span h.1 (omega arith) in
    let again = clear_cut (s.at + s.len) ss p n (suc j) h.1 (omega arith) (cut_more p s ss (suc j) c) in
    ap (λ (x : Bool). (x || leb (p + n + 8) s.at) && clear_of ss p n) (le-leb (s.at + s.len) p (omega (arith, far, near)))
    ∙ again ∙ ap (λ (u : Bool). passes_by t p n && cond u (passes_by (get_or ss (suc j) no_span) p n) true) (less_suc (suc j) (length ss))

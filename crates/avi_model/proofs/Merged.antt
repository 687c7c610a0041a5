-- Spans put among others, of which each keeps its length: together they are replaced as one after the other.
use Rattle.std.proofs.Common.{◌≡◌, ℕ, ◌+◌, ◌-◌, ◌<◌, ◌≤◌, Bool, true, false, cond, leb, List, [], ◌∷◌, ◌++◌, length, take, drop, refl, sym, ap, subst, ◌∙◌, arith, inl, inr}
use Rattle.std.specs.Prelude.{◌⊎◌}
use Rattle.std.specs.List.{AllByRecursion}
use Rattle.std.proofs.lemmas.Bool.{cases_lt, leb-true, leb-false, le-leb}
use Rattle.std.proofs.lemmas.List.{drop-drop, drop-take, drop-append-le, take-append-le, length-append, length-drop, length-take, take-take}
use Rattle.container_model.specs.Splice.{Cut, end_of, splice, splice_from, Ascend, gained, lost, shift, Outside}
use Rattle.container_model.proofs.Splice.{before_lost, behind_lost, lost_low}
use Rattle.carrier_model.proofs.Fitted.{cut_open}
use Rattle.container_model.proofs.Units.{splice_past}
use Rattle.avi_model.specs.NewFile.{put_cut, put_cuts}
use Rattle.avi_model.proofs.Tabled.{ascend_end, put_ascends, put_all}

-- one span before another, or behind it
abbrev pub ApartFrom : Cut → Cut → Type 0
ApartFrom c d = (end_of c ≤ d.at) ⊎ (end_of d ≤ c.at)

-- a span that keeps its length
abbrev pub Level : Cut → Type 0
Level c = length c.bytes ≡ c.len

-- ---- one span

-- bytes from a place on with one span replaced
abbrev laid_one : ℕ → Cut → List ℕ → List ℕ
laid_one at c b = take (c.at - at) b ++ (c.bytes ++ drop (end_of c - at) b)

drop_laid : (at : ℕ) (c : Cut) (b : List ℕ) (k : ℕ) → k ≤ c.at - at → c.at - at ≤ length b → drop k (laid_one at c b) ≡ laid_one (at + k) c (drop k b)
drop_laid at c b k le short =
    let n = c.at - at in
    let split : n ≡ k + (n - k) = omega arith in
    let place : n - k ≡ c.at - (at + k) = omega arith in
    let end : k + (end_of c - (at + k)) ≡ end_of c - at = omega arith in
    let more = c.bytes ++ drop (end_of c - at) b in
    let front : drop k (take n b) ≡ take (c.at - (at + k)) (drop k b) = ap (λ (m : ℕ). drop k (take m b)) split ∙ drop-take k (n - k) b ∙ ap (λ (m : ℕ). take m (drop k b)) place in
    drop-append-le k (take n b) more (omega (arith, length-take n b))
    ∙ ap (λ (x : List ℕ). x ++ more) front
    ∙ ap (λ (x : List ℕ). take (c.at - (at + k)) (drop k b) ++ (c.bytes ++ x)) (ap (λ (m : ℕ). drop m b) (sym end) ∙ sym (drop-drop (end_of c - (at + k)) k b))

take_laid : (at : ℕ) (c : Cut) (b : List ℕ) (k : ℕ) → k ≤ c.at - at → c.at - at ≤ length b → take k (laid_one at c b) ≡ take k b
take_laid at c b k le short = take-append-le k (take (c.at - at) b) (c.bytes ++ drop (end_of c - at) b) (omega (arith, length-take (c.at - at) b)) ∙ take-take k (c.at - at) b le

laid_length : (c : Cut) (b : List ℕ) → Level c → end_of c ≤ length b → length (laid_one 0 c b) ≡ length b
laid_length c b l high =
    omega (
      arith,
      l,
      length-append (take (c.at - 0) b) (c.bytes ++ drop (end_of c - 0) b),
      length-append c.bytes (drop (end_of c - 0) b),
      length-take (c.at - 0) b,
      length-drop (end_of c - 0) b,
    )

splice_put : (c : Cut) → Level c → (at : ℕ) (b : List ℕ) (ds : List Cut) → at ≤ c.at → end_of c ≤ at + length b → Ascend at ds (at + length b) → AllByRecursion (ApartFrom c) ds → splice_from at b (put_cut c ds) ≡ splice_from at (laid_one at c b) ds
splice_put c l at b [] low high a h = refl
splice_put c l at b (d ∷ ds) low high a h =
    go (leb (end_of c) d.at) refl h.0
    (λ le.
    let k = end_of d - at in
    let end : end_of d + length (drop k b) ≡ at + length b = omega (arith, length-drop k b, a.0, ascend_end (end_of d) (at + length b) ds a.1) in
    splice_put c l (end_of d) (drop k b) ds le (omega (arith, end, high)) (subst (Ascend (end_of d) ds) (sym end) a.1) h.1)
  where
    go : (t : Bool) → leb (end_of c) d.at ≡ t → (end_of c ≤ d.at) ⊎ (end_of d ≤ c.at)
        → (end_of d ≤ c.at → splice_from (end_of d) (drop (end_of d - at) b) (put_cut c ds) ≡ splice_from (end_of d) (laid_one (end_of d) c (drop (end_of d - at) b)) ds)
        → splice_from at b (cond t (c ∷ (d ∷ ds)) (d ∷ put_cut c ds)) ≡ splice_from at (laid_one at c b) (d ∷ ds)
    go true e s again =
        let n = c.at - at in
        let rest = drop (end_of c - at) b in
        let first = at + length (take n b) in
        let here : first ≡ c.at = omega (arith, length-take n b, low, high) in
        let next : first + length c.bytes ≡ end_of c = omega (arith, here, l) in
        let before : first + length c.bytes ≤ d.at = omega (arith, next, leb-true (end_of c) d.at e) in
        sym (
        splice_past at (take n b) (c.bytes ++ rest) (d ∷ ds) (omega (arith, before))
        ∙ ap (λ (x : List ℕ). take n b ++ x) (splice_past first c.bytes rest (d ∷ ds) before ∙ ap (λ (q : ℕ). c.bytes ++ splice_from q rest (d ∷ ds)) next)
        )
    go false e (inl s) again = absurd (omega (arith, s, leb-false (end_of c) d.at e))
    go false e (inr s) again =
        let k = end_of d - at in
        let up = ascend_end (end_of d) (at + length b) ds a.1 in
        let place : at + k ≡ end_of d = omega (arith, a.0) in
        let short : c.at - at ≤ length b = omega (arith, high) in
        ap (λ (x : List ℕ). take (d.at - at) b ++ (d.bytes ++ x)) (again s ∙ ap (λ (q : ℕ). splice_from (end_of d) (laid_one q c (drop k b)) ds) (sym place) ∙ ap (λ (x : List ℕ). splice_from (end_of d) x ds) (sym (drop_laid at c b k (omega (arith, s)) short)))
        ∙ ap (λ (x : List ℕ). x ++ (d.bytes ++ splice_from (end_of d) (drop k (laid_one at c b)) ds)) (sym (take_laid at c b (d.at - at) (omega (arith, s)) short))

-- ---- some spans

lower : (from end : ℕ) (cs : List Cut) → Ascend from cs end → Ascend 0 cs end
lower from end [] a = omega arith
lower from end (c ∷ cs) a = (omega arith, a.1)

pub all_low : (from end : ℕ) (cs : List Cut) → Ascend from cs end → AllByRecursion (λ d. from ≤ d.at) cs
all_low from end [] a = tt
all_low from end (c ∷ cs) a = (a.0, weaken (end_of c) cs (all_low (end_of c) end cs a.1))
  where
    weaken : (k : ℕ) (ds : List Cut) → AllByRecursion (λ d. end_of c ≤ d.at) ds → AllByRecursion (λ d. from ≤ d.at) ds
    weaken k [] h = tt
    weaken k (d ∷ ds) h = (omega (arith, h.0, a.0), weaken k ds h.1)

all_apart : (c : Cut) (ds : List Cut) → AllByRecursion (λ d. end_of c ≤ d.at) ds → AllByRecursion (ApartFrom c) ds
all_apart c [] h = tt
all_apart c (d ∷ ds) h = (inl h.0, all_apart c ds h.1)

pub put_both : (P : Cut → Type 0) (cs ds : List Cut) → AllByRecursion P cs → AllByRecursion P ds → AllByRecursion P (put_cuts cs ds)
put_both P [] ds h g = g
put_both P (c ∷ cs) ds h g = put_all P c (put_cuts cs ds) h.0 (put_both P cs ds h.1 g)

abbrev pub AllApart : List Cut → List Cut → Type 0
AllApart cs ds = AllByRecursion (λ c. AllByRecursion (ApartFrom c) ds) cs

-- They ascend together.
pub merged_ascends : (end : ℕ) (cs ds : List Cut) → Ascend 0 cs end → Ascend 0 ds end → AllApart cs ds → Ascend 0 (put_cuts cs ds) end
merged_ascends end [] ds a o h = o
merged_ascends end (c ∷ cs) ds a o h =
    put_ascends c 0 end (put_cuts cs ds) (merged_ascends end cs ds (lower (end_of c) end cs a.1) o h.1) (omega arith) (ascend_end (end_of c) end cs a.1)
    (put_both (ApartFrom c) cs ds (all_apart c cs (all_low (end_of c) end cs a.1)) h.0)

put_first : (c : Cut) (cs : List Cut) → AllByRecursion (λ d. end_of c ≤ d.at) cs → put_cut c cs ≡ c ∷ cs
put_first c [] h = refl
put_first c (d ∷ ds) h = ap (λ (t : Bool). cond t (c ∷ (d ∷ ds)) (d ∷ put_cut c ds)) (le-leb (end_of c) d.at h.0)

-- Replaced together, or one after the other.
pub merged : (cs : List Cut) (b : List ℕ) (ds : List Cut) → AllByRecursion Level cs → Ascend 0 cs (length b) → Ascend 0 ds (length b) → AllApart cs ds → splice b (put_cuts cs ds) ≡ splice (splice b cs) ds
merged [] b ds l a o h = refl
merged (c ∷ cs) b ds l a o h =
    let one = laid_one 0 c b in
    let up = ascend_end (end_of c) (length b) cs a.1 in
    let after = all_low (end_of c) (length b) cs a.1 in
    let first = all_apart c cs after in
    let rest = lower (end_of c) (length b) cs a.1 in
    let both = merged_ascends (length b) cs ds rest o h.1 in
    let long : length one ≡ length b = laid_length c b l.0 up in
    let zero : 0 + length b ≡ length b = omega arith in
    let put : splice b (put_cut c (put_cuts cs ds)) ≡ splice one (put_cuts cs ds)
    = splice_put c l.0 0 b (put_cuts cs ds) (omega arith) (omega (arith, up)) (subst (Ascend 0 (put_cuts cs ds)) (sym zero) both) (put_both (ApartFrom c) cs ds first h.0) in
    let again = merged cs one ds l.1 (subst (Ascend 0 cs) (sym long) rest) (subst (Ascend 0 ds) (sym long) o) h.1 in
    let back : splice one cs ≡ splice b (c ∷ cs)
    = sym (splice_put c l.0 0 b cs (omega arith) (omega (arith, up)) (subst (Ascend 0 cs) (sym zero) rest) first) ∙ ap (splice b) (put_first c cs after) in
    put ∙ again ∙ ap (λ (x : List ℕ). splice x ds) back

-- ---- a range that goes as one is apart from the spans

-- a span that replaces or brings bytes
abbrev pub Real : Cut → Type 0
Real d = 0 < d.len + length d.bytes

-- the places of a range lie in no span, and go as one
abbrev pub GoesAsOne : List Cut → ℕ → ℕ → ℕ → Type 0
GoesAsOne ds p n t = (i : ℕ) → i < n → Outside ds (p + i) × (shift ds (p + i) ≡ t + i)

behind_one : (d : Cut) (ds : List Cut) (end p n t : ℕ) → 0 < n → Ascend (end_of d) ds end → GoesAsOne (d ∷ ds) p n t → end_of d ≤ p → GoesAsOne ds p n ((t + d.len) - length d.bytes)
behind_one d ds end p n t some a g le i lt =
    let x = g i lt in
    let y = g 0 some in
    let bx = before_lost d ds (p + i) (omega arith) in
    let by = before_lost d ds (p + 0) (omega arith) in
    let lx = lost_low (end_of d) end ds (p + i) a x.0.1 (omega arith) in
    let ly = lost_low (end_of d) end ds (p + 0) a y.0.1 (omega arith) in
    (x.0.1, omega (arith, x.1, y.1, bx.0, bx.1, by.0, by.1, lx, ly))

inside_none : (d : Cut) (ds : List Cut) (end p n t : ℕ) → 0 < n → Real d → Ascend (end_of d) ds end → GoesAsOne (d ∷ ds) p n t → d.at < p + n → p < end_of d → (p < d.at) ⊎ (d.at ≤ p) → ⊥
inside_none d ds end p n t some r a g high low (inr le) = go (g 0 some).0.0
  where
    go : (p + 0 < d.at) ⊎ (end_of d ≤ p + 0) → ⊥
    go (inl x) = omega (arith, x)
    go (inr x) = omega (arith, x)
inside_none d ds end p n t some r a g high low (inl lt) =
    let i = d.at - p in
    let x = g i (omega arith) in
    let y = g (i - 1) (omega arith) in
    let z = behind_lost d ds (p + (i - 1)) (omega arith) in
    go x.0.0 x.0.1 x.1 y.1 z.0 z.1
  where
    go : (p + (d.at - p) < d.at) ⊎ (end_of d ≤ p + (d.at - p)) → Outside ds (p + (d.at - p)) → shift (d ∷ ds) (p + (d.at - p)) ≡ t + (d.at - p) → shift (d ∷ ds) (p + ((d.at - p) - 1)) ≡ t + ((d.at - p) - 1)
        → gained (d ∷ ds) (p + ((d.at - p) - 1)) ≡ 0 → lost (d ∷ ds) (p + ((d.at - p) - 1)) ≡ 0 → ⊥
    go (inl h) out e1 e2 zg zl = omega (arith, h, lt)
    go (inr h) out e1 e2 zg zl =
        let b = before_lost d ds (p + (d.at - p)) h in
        let l = lost_low (end_of d) end ds (p + (d.at - p)) a out h in
        omega (arith, e1, e2, zg, zl, b.0, b.1, l, h, r, lt)

pub rigid_apart : (from end p n t : ℕ) (ds : List Cut) → Ascend from ds end → 0 < n → AllByRecursion Real ds → GoesAsOne ds p n t → AllByRecursion (λ d. (p + n ≤ d.at) ⊎ (end_of d ≤ p)) ds
rigid_apart from end p n t [] a some r g = tt
rigid_apart from end p n t (d ∷ ds) a some r g = go (cases_lt d.at (p + n)) (cases_lt p (end_of d)) (λ le. rigid_apart (end_of d) end p n ((t + d.len) - length d.bytes) ds a.1 some r.1 (behind_one d ds end p n t some a.1 g le))
  where
    go : (d.at < p + n) ⊎ (p + n ≤ d.at) → (p < end_of d) ⊎ (end_of d ≤ p) → (end_of d ≤ p → AllByRecursion (λ d. (p + n ≤ d.at) ⊎ (end_of d ≤ p)) ds) → AllByRecursion (λ d. (p + n ≤ d.at) ⊎ (end_of d ≤ p)) (d ∷ ds)
    go (inr le) q again = (inl le, wide ds (all_low (end_of d) end ds a.1))
      where
        wide : (cs : List Cut) → AllByRecursion (λ c. end_of d ≤ c.at) cs → AllByRecursion (λ c. (p + n ≤ c.at) ⊎ (end_of c ≤ p)) cs
        wide [] k = tt
        wide (c ∷ cs) k = (inl (omega (arith, k.0, le)), wide cs k.1)
    go (inl lt) (inr le) again = (inr le, again le)
    go (inl lt) (inl low) again = absurd (inside_none d ds end p n t some r.0 a.1 g lt low (cases_lt p d.at))

-- ---- spans that keep their length shift nothing

-- what some spans gain and lose, and what others do, comes to the same
abbrev Balanced : List Cut → List Cut → ℕ → Type 0
Balanced cs ds p = gained cs p + lost ds p ≡ gained ds p + lost cs p

same_more : (d : Cut) (cs ds : List Cut) (p : ℕ) → Balanced cs ds p → Balanced (d ∷ cs) (d ∷ ds) p
same_more d cs ds p h = go (cases_lt p (end_of d))
  where
    go : (p < end_of d) ⊎ (end_of d ≤ p) → Balanced (d ∷ cs) (d ∷ ds) p
    go (inl lt) = let x = cut_open d cs p lt in let y = cut_open d ds p lt in omega (arith, x.0, x.1, y.0, y.1)
    go (inr le) = let x = before_lost d cs p le in let y = before_lost d ds p le in omega (arith, h, x.0, x.1, y.0, y.1)

level_first : (c : Cut) (ds : List Cut) (p : ℕ) → Level c → AllByRecursion (λ d. end_of c ≤ end_of d) ds → Balanced (c ∷ ds) ds p
level_first c ds p l h = go (cases_lt p (end_of c))
  where
    go : (p < end_of c) ⊎ (end_of c ≤ p) → Balanced (c ∷ ds) ds p
    go (inr le) = let z = before_lost c ds p le in omega (arith, z.0, z.1, l)
    go (inl lt) = let z = cut_open c ds p lt in first ds h z
      where
        first : (ds : List Cut) → AllByRecursion (λ d. end_of c ≤ end_of d) ds → (gained (c ∷ ds) p ≡ 0) × (lost (c ∷ ds) p ≡ 0) → Balanced (c ∷ ds) ds p
        first [] h z = omega (arith, z.0, z.1)
        first (d ∷ ds) h z = let y = cut_open d ds p (omega (arith, h.0, lt)) in omega (arith, z.0, z.1, y.0, y.1)

put_balanced : (c : Cut) (from end : ℕ) (ds : List Cut) (p : ℕ) → Level c → Ascend from ds end → Balanced (put_cut c ds) ds p
put_balanced c from end [] p l a = level_first c [] p l tt
put_balanced c from end (d ∷ ds) p l a = go (leb (end_of c) d.at) refl (put_balanced c (end_of d) end ds p l a.1)
  where
    go : (t : Bool) → leb (end_of c) d.at ≡ t → Balanced (put_cut c ds) ds p → Balanced (cond t (c ∷ (d ∷ ds)) (d ∷ put_cut c ds)) (d ∷ ds) p
    go true e again = level_first c (d ∷ ds) p l (omega (arith, leb-true (end_of c) d.at e), far ds (all_low (end_of d) end ds a.1))
      where
        far : (cs : List Cut) → AllByRecursion (λ x. end_of d ≤ x.at) cs → AllByRecursion (λ x. end_of c ≤ end_of x) cs
        far [] h = tt
        far (x ∷ cs) h = (omega (arith, h.0, leb-true (end_of c) d.at e), far cs h.1)
    go false e again = same_more d (put_cut c ds) ds p again

balanced : (end : ℕ) (cs ds : List Cut) (p : ℕ) → AllByRecursion Level cs → Ascend 0 cs end → Ascend 0 ds end → AllApart cs ds → Balanced (put_cuts cs ds) ds p
balanced end [] ds p l a o h = refl
balanced end (c ∷ cs) ds p l a o h =
    let rest = lower (end_of c) end cs a.1 in
    let first = put_balanced c 0 end (put_cuts cs ds) p l.0 (merged_ascends end cs ds rest o h.1) in
    let again = balanced end cs ds p l.1 rest o h.1 in
    omega (arith, first, again)

-- Together they shift each place as the others alone.
pub merged_shifts : (end : ℕ) (cs ds : List Cut) (p : ℕ) → AllByRecursion Level cs → Ascend 0 cs end → Ascend 0 ds end → AllApart cs ds → shift (put_cuts cs ds) p ≡ shift ds p
merged_shifts end cs ds p l a o h = let b = balanced end cs ds p l a o h in omega (arith, b)

pub first_shifts : (c : Cut) (end : ℕ) (ds : List Cut) (p : ℕ) → Level c → Ascend (end_of c) ds end → shift (c ∷ ds) p ≡ shift ds p
first_shifts c end ds p l a = let b = level_first c ds p l (far ds (all_low (end_of c) end ds a)) in omega (arith, b)
  where
    far : (cs : List Cut) → AllByRecursion (λ x. end_of c ≤ x.at) cs → AllByRecursion (λ x. end_of c ≤ end_of x) cs
    far [] h = tt
    far (x ∷ cs) h = (omega (arith, h.0), far cs h.1)

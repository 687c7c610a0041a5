-- Laying bytes in one range of `bext` leaves every other range.
use Rattle.std.proofs.Common.{◌≡◌, ℕ, zero, suc, ◌+◌, ◌-◌, ◌<◌, ◌≤◌, List, [], ◌∷◌, ◌++◌, length, take, drop, refl, sym, ap, ◌∙◌, arith, inl, inr, append_assoc, subst}
use Rattle.std.specs.Prelude.{◌⊎◌}
use Rattle.std.proofs.lemmas.List.{length-append, length-take, length-drop, take_at, drop_at, take-append-le, drop-append-le, take-take, drop-take, drop_all}
use Rattle.std.proofs.lemmas.Slice.{drop-append-drop}
use Rattle.std.proofs.lemmas.Bool.{cases_lt}
use Rattle.field_model.specs.Bext.{Range, ranges, range_from, range_at, range_len, range_of, lay_range}

-- ---- bytes laid over a front of a list

-- the bytes that were laid
pub laid : (a : ℕ) (b raw rest : List ℕ) → a ≤ length b → take (length raw) (drop a (take a b ++ (raw ++ rest))) ≡ raw
laid a b raw rest h =
    let n : length (take a b) ≡ a = omega (arith, length-take a b) in
    ap (λ (xs : List ℕ). take (length raw) xs) (drop_at (take a b) (raw ++ rest) a n) ∙ take_at raw rest (length raw) refl

-- what stands before them
pub before_laid : (x y a : ℕ) (b rest : List ℕ) → x + y ≤ a → a ≤ length b → take y (drop x (take a b ++ rest)) ≡ take y (drop x b)
before_laid x y a b rest le h =
    let n : length (take a b) ≡ a = omega (arith, length-take a b) in
    let split : x + (a - x) ≡ a = omega arith in
    let inner : drop x (take a b) ≡ take (a - x) (drop x b) = ap (λ (k : ℕ). drop x (take k b)) (sym split) ∙ drop-take x (a - x) b in
    ap (λ (xs : List ℕ). take y xs) (drop-append-le x (take a b) rest (omega (arith, n)))
    ∙ take-append-le y (drop x (take a b)) rest (omega (arith, n, length-drop x (take a b)))
    ∙ ap (λ (xs : List ℕ). take y xs) inner ∙ take-take y (a - x) (drop x b) (omega arith)

-- what stands behind them
pub behind_laid : (x a l : ℕ) (b raw : List ℕ) → a + l ≤ x → a + l ≤ length b → length raw ≡ l → drop x (take a b ++ (raw ++ drop (a + l) b)) ≡ drop x b
behind_laid x a l b raw le h n =
    let m : length (take a b ++ raw) ≡ a + l = omega (arith, length-append (take a b) raw, length-take a b, n) in
    ap (λ (xs : List ℕ). drop x xs) (sym (append_assoc (take a b) raw (drop (a + l) b))) ∙ drop-append-drop (a + l) b (take a b ++ raw) x le m

-- ---- the ranges ascend, and fill what stands before the rest

abbrev Ascends : ℕ → List Range → Type 0
Ascends from [] = from ≡ 602
Ascends from (r ∷ rs) = (r.at ≡ from) × Ascends (r.at + r.len) rs

all_ascend : Ascends 0 ranges
all_ascend = (refl, (refl, (refl, (refl, (refl, (refl, (refl, (refl, (refl, (refl, (refl, (refl, (refl, (refl, refl))))))))))))))

low : (from : ℕ) (rs : List Range) (k n : ℕ) → Ascends from rs → from ≤ (range_from rs k n).at
low from [] k n h = omega (arith, h)
low from (r ∷ rs) zero n h = omega (arith, h.0)
low from (r ∷ rs) (suc k) n h = omega (arith, h.0, low (r.at + r.len) rs k n h.1)

high : (from : ℕ) (rs : List Range) → Ascends from rs → from ≤ 602
high from [] h = omega (arith, h)
high from (r ∷ rs) h = omega (arith, h.0, high (r.at + r.len) rs h.1)

ordered : (from : ℕ) (rs : List Range) (k j n : ℕ) → Ascends from rs → k < j → k < length rs → (range_from rs k n).at + (range_from rs k n).len ≤ (range_from rs j n).at
ordered from [] k j n h lt inside = absurd (omega arith)
ordered from (r ∷ rs) zero zero n h lt inside = absurd (omega arith)
ordered from (r ∷ rs) zero (suc j) n h lt inside = low (r.at + r.len) rs j n h.1
ordered from (r ∷ rs) (suc k) zero n h lt inside = absurd (omega arith)
ordered from (r ∷ rs) (suc k) (suc j) n h lt inside = ordered (r.at + r.len) rs k j n h.1 (omega arith) (omega arith)

inner : (from : ℕ) (rs : List Range) (k n : ℕ) → Ascends from rs → k < length rs → (range_from rs k n).at + (range_from rs k n).len ≤ 602
inner from [] k n h inside = absurd (omega arith)
inner from (r ∷ rs) zero n h inside = high (r.at + r.len) rs h.1
inner from (r ∷ rs) (suc k) n h inside = inner (r.at + r.len) rs k n h.1 (omega arith)

fixed : (rs : List Range) (k n m : ℕ) → k < length rs → range_from rs k n ≡ range_from rs k m
fixed [] k n m inside = absurd (omega arith)
fixed (r ∷ rs) zero n m inside = refl
fixed (r ∷ rs) (suc k) n m inside = fixed rs k n m (omega arith)

-- a range of fixed length lies before the rest, and its place and length don't depend on the body
pub fixed_at : (k n m : ℕ) → k < 14 → range_at k n ≡ range_at k m
fixed_at k n m h = ap (λ (r : Range). r.at) (fixed ranges k n m h)

pub fixed_len : (k n m : ℕ) → k < 14 → range_len k n ≡ range_len k m
fixed_len k n m h = ap (λ (r : Range). r.len) (fixed ranges k n m h)

pub before_rest : (k n : ℕ) → k < 14 → range_at k n + range_len k n ≤ 602
before_rest k n h = inner 0 ranges k n all_ascend h

pub in_order : (k j n : ℕ) → k < j → k < 14 → range_at k n + range_len k n ≤ range_at j n
in_order k j n lt h = ordered 0 ranges k j n all_ascend lt h

-- ---- laying bytes

abbrev pub Fills : ℕ → List ℕ → Type 0
Fills j raw = (j ≡ 14) ⊎ (length raw ≡ range_len j 0)

-- the length of the new body
pub length_lay_fixed : (j : ℕ) (raw body : List ℕ) → j < 14 → 602 ≤ length body → length raw ≡ range_len j 0 → length (lay_range j raw body) ≡ length body
length_lay_fixed j raw body h long n =
    let same = fixed_len j 0 (length body) h in
    let end = before_rest j (length body) h in
    omega (arith, same, end, n, length-append (take (range_at j (length body)) body) (raw ++ drop (range_at j (length body) + range_len j (length body)) body), length-append raw (drop (range_at j (length body) + range_len j (length body)) body), length-take (range_at j (length body)) body, length-drop (range_at j (length body) + range_len j (length body)) body)

lay_rest : (raw body : List ℕ) → 602 ≤ length body → lay_range 14 raw body ≡ take 602 body ++ (raw ++ [])
lay_rest raw body long = ap (λ (xs : List ℕ). take 602 body ++ (raw ++ xs)) (drop_all (602 + (length body - 602)) body (omega arith))

length_lay_rest : (raw body : List ℕ) → 602 ≤ length body → length (lay_range 14 raw body) ≡ 602 + length raw
length_lay_rest raw body long =
    let nil : length (raw ++ []) ≡ length raw = omega (arith, length-append raw []) in
    ap length (lay_rest raw body long) ∙ omega (arith, length-append (take 602 body) (raw ++ []), length-take 602 body, nil)

pub lay_long : (j : ℕ) (raw body : List ℕ) → j ≤ 14 → 602 ≤ length body → Fills j raw → 602 ≤ length (lay_range j raw body)
lay_long j raw body h long f = go j h f (cases_lt j 14)
  where
    go : (j : ℕ) → j ≤ 14 → Fills j raw → (j < 14) ⊎ (14 ≤ j) → 602 ≤ length (lay_range j raw body)
    go j h (inl e) both = let P : ℕ → Type 0 = λ k. 602 ≤ length (lay_range k raw body) in subst P (sym e) (omega (arith, length_lay_rest raw body long))
    go j h (inr n) (inl lt) = omega (arith, length_lay_fixed j raw body lt long n)
    go j h (inr n) (inr le) = let e : 14 ≡ j = omega arith in let P : ℕ → Type 0 = λ k. 602 ≤ length (lay_range k raw body) in subst P e (omega (arith, length_lay_rest raw body long))

-- the range that was laid has its bytes
pub range_lay_same : (j : ℕ) (raw body : List ℕ) → j ≤ 14 → 602 ≤ length body → Fills j raw → range_of j (lay_range j raw body) ≡ raw
range_lay_same j raw body h long f = go j h f (cases_lt j 14)
  where
    rest : range_of 14 (lay_range 14 raw body) ≡ raw
    rest =
        let n : range_len 14 (length (lay_range 14 raw body)) ≡ length raw = omega (arith, length_lay_rest raw body long) in
        ap (λ (k : ℕ). take k (drop 602 (lay_range 14 raw body))) n ∙ laid 602 body raw (drop (602 + (length body - 602)) body) long

    go : (j : ℕ) → j ≤ 14 → Fills j raw → (j < 14) ⊎ (14 ≤ j) → range_of j (lay_range j raw body) ≡ raw
    go j h (inl e) both = let P : ℕ → Type 0 = λ k. range_of k (lay_range k raw body) ≡ raw in subst P (sym e) rest
    go j h (inr n) (inl lt) =
        let at = fixed_at j (length (lay_range j raw body)) (length body) lt in
        let len : range_len j (length (lay_range j raw body)) ≡ length raw = fixed_len j (length (lay_range j raw body)) 0 lt ∙ sym n in
        let end = before_rest j (length body) lt in
        ap (λ (k : ℕ). take k (drop (range_at j (length (lay_range j raw body))) (lay_range j raw body))) len
        ∙ ap (λ (k : ℕ). take (length raw) (drop k (lay_range j raw body))) at
        ∙ laid (range_at j (length body)) body raw (drop (range_at j (length body) + range_len j (length body)) body) (omega (arith, end))
    go j h (inr n) (inr le) = let e : 14 ≡ j = omega arith in let P : ℕ → Type 0 = λ k. range_of k (lay_range k raw body) ≡ raw in subst P e rest

-- every other range has the bytes that it had
pub range_lay_other : (j k : ℕ) (raw body : List ℕ) → j ≤ 14 → k ≤ 14 → 602 ≤ length body → Fills j raw → (k ≡ j → ⊥) → range_of k (lay_range j raw body) ≡ range_of k body
range_lay_other j k raw body h hk long f other = go (cases_lt k j) f
  where
    before : k < j → range_of k (lay_range j raw body) ≡ range_of k body
    before lt =
        let at = fixed_at k (length (lay_range j raw body)) (length body) (omega arith) in
        let len = fixed_len k (length (lay_range j raw body)) (length body) (omega arith) in
        let order = in_order k j (length body) lt (omega arith) in
        let inside : range_at j (length body) ≤ length body = end_j in
        ap (λ (i : ℕ). take i (drop (range_at k (length (lay_range j raw body))) (lay_range j raw body))) len
        ∙ ap (λ (i : ℕ). take (range_len k (length body)) (drop i (lay_range j raw body))) at
        ∙ before_laid (range_at k (length body)) (range_len k (length body)) (range_at j (length body)) body _ order inside
      where
        end_j : range_at j (length body) ≤ length body
        end_j = by_case (cases_lt j 14)
          where
            by_case : (j < 14) ⊎ (14 ≤ j) → range_at j (length body) ≤ length body
            by_case (inl lt) = omega (arith, before_rest j (length body) lt)
            by_case (inr le) = let e : 14 ≡ j = omega arith in let P : ℕ → Type 0 = λ i. range_at i (length body) ≤ length body in subst P e long

    behind : j < k → length raw ≡ range_len j 0 → range_of k (lay_range j raw body) ≡ range_of k body
    behind lt size =
        let small : j < 14 = omega arith in
        let same = length_lay_fixed j raw body small long size in
        let end = before_rest j (length body) small in
        let order = in_order j k (length body) lt small in
        let fill : length raw ≡ range_len j (length body) = size ∙ fixed_len j 0 (length body) small in
        ap (λ (i : ℕ). take (range_len k i) (drop (range_at k i) (lay_range j raw body))) same
        ∙ ap (λ (xs : List ℕ). take (range_len k (length body)) xs) (behind_laid (range_at k (length body)) (range_at j (length body)) (range_len j (length body)) body raw order (omega (arith, end)) fill)

    go : (k < j) ⊎ (j ≤ k) → Fills j raw → range_of k (lay_range j raw body) ≡ range_of k body
    go (inl lt) f = before lt
    go (inr le) (inl e) = absurd (other (omega (arith, e)))
    go (inr le) (inr size) = two (cases_lt j k)
      where
        two : (j < k) ⊎ (k ≤ j) → range_of k (lay_range j raw body) ≡ range_of k body
        two (inl lt) = behind lt size
        two (inr ge) = absurd (other (omega arith))

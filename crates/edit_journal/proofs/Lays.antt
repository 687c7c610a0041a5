-- What patches lay, place by place.
use Rattle.std.proofs.Common.{◌≡◌, inl, inr, ⊎_elim, ℕ, zero, suc, ◌+◌, ◌-◌, ◌≤◌, ◌<◌, min, Bool, true, false, List, [], ◌∷◌, ◌++◌, length, get_or, Option, Some, None, refl, sym, ◌∙◌, ap, arith, length-append}
use Rattle.std.specs.Prelude.{◌&&◌, nat_le, nat_lt, if◌then◌else◌, is_some}
use Rattle.std.proofs.lemmas.Bool.{cases_lt, le-leb, lt-leb, lt-ltb, le-ltb, and_left, and_right}
use Rattle.std.proofs.lemmas.List.{get_or_append_left, get_or-append_right}
use Rattle.part_tree.specs.declared.plan.Patch.{Patch}
use Rattle.part_tree.specs.Patches.{end_of, InOrder, all_bytes, Touches}
use Rattle.edit_journal.specs.Strips.{byte_at}
use Rattle.edit_journal.proofs.Rules.{touches_late}

-- ---- one patch

-- the test of a place
abbrev is_here : ℕ → Patch → Bool
is_here q p = nat_le p.at q && nat_lt q (end_of p)

here_true : (q : ℕ) (p : Patch) → p.at ≤ q → q < end_of p → is_here q p ≡ true
here_true q p low high = ap (λ (t : Bool). t && nat_lt q (end_of p)) (le-leb p.at q low) ∙ lt-ltb q (end_of p) high

here_before : (q : ℕ) (p : Patch) → q < p.at → is_here q p ≡ false
here_before q p low = and_left (nat_le p.at q) (nat_lt q (end_of p)) (lt-leb p.at q low)

here_behind : (q : ℕ) (p : Patch) → end_of p ≤ q → is_here q p ≡ false
here_behind q p high = and_right (nat_le p.at q) (nat_lt q (end_of p)) (le-ltb q (end_of p) high)

abbrev either : ℕ → Patch → List Patch → Bool → Option ℕ
either q p ps t = if t then Some (get_or p.bytes (q - p.at) 0) else byte_at q ps

pub byte_here : (q : ℕ) (p : Patch) (ps : List Patch) → p.at ≤ q → q < end_of p → byte_at q (p ∷ ps) ≡ Some (get_or p.bytes (q - p.at) 0)
byte_here q p ps low high = ap (either q p ps) (here_true q p low high)

pub byte_before : (q : ℕ) (p : Patch) (ps : List Patch) → q < p.at → byte_at q (p ∷ ps) ≡ byte_at q ps
byte_before q p ps low = ap (either q p ps) (here_before q p low)

pub byte_behind : (q : ℕ) (p : Patch) (ps : List Patch) → end_of p ≤ q → byte_at q (p ∷ ps) ≡ byte_at q ps
byte_behind q p ps high = ap (either q p ps) (here_behind q p high)

-- what lays the same behind a patch lays the same with it
pub byte_same : (q : ℕ) (p : Patch) (ps qs : List Patch) → byte_at q ps ≡ byte_at q qs → byte_at q (p ∷ ps) ≡ byte_at q (p ∷ qs)
byte_same q p ps qs same = ap (λ (o : Option ℕ). if is_here q p then Some (get_or p.bytes (q - p.at) 0) else o) same

-- a patch without bytes lays nothing
pub byte_empty : (q at : ℕ) (ps : List Patch) → byte_at q (record { at = at; bytes = [] } ∷ ps) ≡ byte_at q ps
byte_empty q at ps =
    ⊎_elim (λ (low : q < at). byte_before q (record { at = at; bytes = [] }) ps low) (λ (high : at ≤ q). byte_behind q (record { at = at; bytes = [] }) ps (omega arith)) (cases_lt q at)

-- a patch in two parts lays the same
pub byte_split : (q at : ℕ) (a b : List ℕ) (ps : List Patch) → byte_at q (record { at = at; bytes = a ++ b } ∷ ps) ≡ byte_at q (record { at = at; bytes = a } ∷ record { at = at + length a; bytes = b } ∷ ps)
byte_split q at a b ps =
    let p : Patch = record { at = at; bytes = a ++ b } in
    let one : Patch = record { at = at; bytes = a } in
    let two : Patch = record { at = at + length a; bytes = b } in
    let size = length-append a b in
    ⊎_elim
    (λ (before : q < at). byte_before q p ps before ∙ sym (byte_before q one (two ∷ ps) before ∙ byte_before q two ps (omega arith)))
    (λ (from : at ≤ q). ⊎_elim
    (λ (in_one : q < at + length a).
    byte_here q p ps from (omega arith) ∙ ap (λ (x : ℕ). Some x) (get_or_append_left a b 0 (q - at) (omega arith)) ∙ sym (byte_here q one (two ∷ ps) from in_one))
    (λ (past : at + length a ≤ q). ⊎_elim
    (λ (in_two : q < at + length a + length b).
    byte_here q p ps from (omega arith) ∙ ap (λ (x : ℕ). Some x) (get_or-append_right a b (length a) (q - at) 0 refl (omega arith) ∙ ap (λ (n : ℕ). get_or b n 0) (omega arith))
    ∙ sym (byte_behind q one (two ∷ ps) past ∙ byte_here q two ps past in_two))
    (λ (high : at + length a + length b ≤ q). byte_behind q p ps (omega arith) ∙ sym (byte_behind q one (two ∷ ps) past ∙ byte_behind q two ps high))
    (cases_lt q (at + length a + length b)))
    (cases_lt q (at + length a)))
    (cases_lt q at)

-- ---- the places that are touched

pub touched_some : (q : ℕ) (ps : List Patch) → Touches q ps → is_some (byte_at q ps) ≡ true
touched_some q [] t = absurd t
touched_some q (p ∷ ps) t =
    ⊎_elim
    (λ (before : q < p.at). ap (λ (o : Option ℕ). is_some o) (byte_before q p ps before)
    ∙ ⊎_elim (λ (here : (p.at ≤ q) × (q < end_of p)). absurd (omega (arith, here.0))) (λ (there : Touches q ps). touched_some q ps there) t)
    (λ (from : p.at ≤ q). ⊎_elim (λ (within : q < end_of p). ap (λ (o : Option ℕ). is_some o) (byte_here q p ps from within))
    (λ (behind : end_of p ≤ q). ap (λ (o : Option ℕ). is_some o) (byte_behind q p ps behind)
    ∙ ⊎_elim (λ (here : (p.at ≤ q) × (q < end_of p)). absurd (omega (arith, here.1))) (λ (there : Touches q ps). touched_some q ps there) t)
    (cases_lt q (end_of p)))
    (cases_lt q p.at)

pub some_touched : (q : ℕ) (ps : List Patch) → is_some (byte_at q ps) ≡ true → Touches q ps
some_touched q [] some = absurd cc
some_touched q (p ∷ ps) some =
    ⊎_elim
    (λ (before : q < p.at). inr (some_touched q ps (sym (ap (λ (o : Option ℕ). is_some o) (byte_before q p ps before)) ∙ some)))
    (λ (from : p.at ≤ q). ⊎_elim (λ (within : q < end_of p). inl (from, within))
    (λ (behind : end_of p ≤ q). inr (some_touched q ps (sym (ap (λ (o : Option ℕ). is_some o) (byte_behind q p ps behind)) ∙ some)))
    (cases_lt q (end_of p)))
    (cases_lt q p.at)

-- where patches lay the same bytes they touch the same places
pub touches_same : (q : ℕ) (ps qs : List Patch) → byte_at q ps ≡ byte_at q qs → Touches q ps → Touches q qs
touches_same q ps qs same t = some_touched q qs (ap (λ (o : Option ℕ). is_some o) (sym same) ∙ touched_some q ps t)

-- patches that come after an end lay nothing before it
pub byte_late : (new end q : ℕ) (ps : List Patch) → InOrder new end ps → q < end → byte_at q ps ≡ None
byte_late new end q ps order low = go (byte_at q ps) refl
  where
    go : (o : Option ℕ) → byte_at q ps ≡ o → byte_at q ps ≡ None
    go None is = is
    go (Some x) is = let late = touches_late new end q ps order (some_touched q ps (ap (λ (o : Option ℕ). is_some o) is)) in absurd (omega arith)

-- ---- how many bytes they have

-- how many of the places below n they lay
count : ℕ → List Patch → ℕ
count zero ps = 0
count (suc n) ps = count n ps + (if is_some (byte_at n ps) then 1 else 0)

abbrev one_if : Bool → ℕ
one_if t = if t then 1 else 0

count_cons : (n new end : ℕ) (p : Patch) (ps : List Patch) → InOrder new (end_of p) ps → count n (p ∷ ps) ≡ (min n (end_of p) - min n p.at) + count n ps
unfolding count
count_cons zero new end p ps order = omega arith
count_cons (suc n) new end p ps order =
    let before = count_cons n new end p ps order in
    ⊎_elim
    (λ (low : n < p.at). let same = ap (λ (o : Option ℕ). one_if (is_some o)) (byte_before n p ps low) in omega arith)
    (λ (from : p.at ≤ n). ⊎_elim
    (λ (within : n < end_of p).
    let one = ap (λ (o : Option ℕ). one_if (is_some o)) (byte_here n p ps from within) in
    let none = ap (λ (o : Option ℕ). one_if (is_some o)) (byte_late new (end_of p) n ps order within) in omega arith)
    (λ (past : end_of p ≤ n). let same = ap (λ (o : Option ℕ). one_if (is_some o)) (byte_behind n p ps past) in omega arith)
    (cases_lt n (end_of p)))
    (cases_lt n p.at)

count_none : (n : ℕ) → count n [] ≡ 0
unfolding count
count_none zero = refl
count_none (suc n) = let h = count_none n in omega arith

count_all : (new end : ℕ) (ps : List Patch) → InOrder new end ps → count new ps ≡ all_bytes ps
count_all new end [] order = count_none new
count_all new end (p ∷ ps) order =
    let inside = order.0.inside in
    let rest = count_all new (end_of p) ps order.1 in
    omega (arith, count_cons new new end p ps order.1)

count_same : (n : ℕ) (ps qs : List Patch) → ((q : ℕ) → byte_at q ps ≡ byte_at q qs) → count n ps ≡ count n qs
unfolding count
count_same zero ps qs same = refl
count_same (suc n) ps qs same = let h = count_same n ps qs same in let e = ap (λ (o : Option ℕ). one_if (is_some o)) (same n) in omega arith

-- Patches in order that lay the same have as many bytes together.
pub same_bytes : (new end end' : ℕ) (ps qs : List Patch) → InOrder new end ps → InOrder new end' qs → ((q : ℕ) → byte_at q ps ≡ byte_at q qs) → all_bytes ps ≡ all_bytes qs
same_bytes new end end' ps qs p q same = sym (count_all new end ps p) ∙ count_same new ps qs same ∙ count_all new end' qs q

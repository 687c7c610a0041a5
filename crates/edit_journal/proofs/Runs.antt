-- Where a maximal run ends, and what is cut off before it.
use Rattle.std.proofs.Common.{◌≡◌, ℕ, zero, suc, ◌+◌, ◌-◌, ◌≤◌, ◌<◌, Bool, true, false, List, [], ◌∷◌, ◌++◌, length, replicate, take, drop, get_or, refl, sym, ◌∙◌, ap, subst, arith, add-one, append_assoc, append-nil, length-drop}
use Rattle.std.specs.Prelude.{◌==◌, if◌then◌else◌, ⊤}
use Rattle.std.proofs.Math.Seq.{drop-cons}
use Rattle.std.proofs.lemmas.Bool.{ne_eqb, eq-eqb, lt-ltb, le-ltb}
use Rattle.std.proofs.lemmas.List.{drop-drop, take_at, length-replicate, get_or-replicate, nil_from_length}
use Rattle.edit_journal.specs.Strips.{Piece, Stretch, longer, maximal_runs, least_run, joined, pieces, cut, piece_of}
use Rattle.edit_journal.specs.Strips.Piece.{Plain, Run}
use Rattle.edit_journal.proofs.Laid.{take_piece}

-- ---- a maximal run

-- they don't begin with this byte
abbrev pub Differs : ℕ → List ℕ → Type 0
Differs x [] = ⊤
Differs x (y ∷ ys) = x ≡ y → ⊥

one_more : (x y times : ℕ) (rs : List Stretch) → (x ≡ y → ⊥) → longer x (record { byte = y; times = times } ∷ rs) ≡ record { byte = x; times = 1 } ∷ record { byte = y; times = times } ∷ rs
one_more x y times rs other =
    ap (λ (t : Bool). if t then record { byte = x; times = times + 1 } ∷ rs else record { byte = x; times = 1 } ∷ record { byte = y; times = times } ∷ rs) (ne_eqb x y other)

longer_other : (x y : ℕ) (rs : List Stretch) → (x ≡ y → ⊥) → longer x (longer y rs) ≡ record { byte = x; times = 1 } ∷ longer y rs
longer_other x y [] other = one_more x y 1 [] other
longer_other x y (r ∷ rs) other = go (y == r.byte)
  where
    go : (t : Bool) → longer x (if t then record { byte = y; times = r.times + 1 } ∷ rs else record { byte = y; times = 1 } ∷ r ∷ rs) ≡ record { byte = x; times = 1 } ∷ (if t then record { byte = y; times = r.times + 1 } ∷ rs else record { byte = y; times = 1 } ∷ r ∷ rs)
    go true = one_more x y (r.times + 1) rs other
    go false = one_more x y 1 (r ∷ rs) other

run_first : (x : ℕ) (rest : List ℕ) → Differs x rest → maximal_runs (x ∷ rest) ≡ record { byte = x; times = 1 } ∷ maximal_runs rest
run_first x [] other = refl
run_first x (y ∷ rest) other = longer_other x y (maximal_runs rest) other

run_all : (n x : ℕ) (rest : List ℕ) → Differs x rest → maximal_runs (replicate (suc n) x ++ rest) ≡ record { byte = x; times = suc n } ∷ maximal_runs rest
run_all zero x rest other = run_first x rest other
run_all (suc n) x rest other =
    ap (longer x) (run_all n x rest other)
    ∙ ap (λ (t : Bool). if t then record { byte = x; times = suc n + 1 } ∷ maximal_runs rest else record { byte = x; times = 1 } ∷ record { byte = x; times = suc n } ∷ maximal_runs rest) (eq-eqb x x refl)
    ∙ ap (λ (k : ℕ). record { byte = x; times = k } ∷ maximal_runs rest) (add-one (suc n))

run_some : (n x : ℕ) (rest : List ℕ) → 0 < n → Differs x rest → maximal_runs (replicate n x ++ rest) ≡ record { byte = x; times = n } ∷ maximal_runs rest
run_some zero x rest some other = absurd (omega arith)
run_some (suc n) x rest some other = run_all n x rest other

pub differs_end : (x end : ℕ) (b : List ℕ) → length b ≤ end → Differs x (drop end b)
differs_end x end b past = subst (Differs x) (sym (nil_from_length (drop end b) (omega (arith, length-drop end b)))) tt

pub differs_at : (x end : ℕ) (b : List ℕ) → end < length b → (x ≡ get_or b end 0 → ⊥) → Differs x (drop end b)
differs_at x end b low other = subst (Differs x) (sym (drop-cons b end 0 low)) other

-- what the bytes between two places are
pub record IsRunTo (b : List ℕ) (from end : ℕ) : Type 0 where
  pub some : from < end
  pub inside : end ≤ length b
  pub is : drop from b ≡ replicate (end - from) (get_or b from 0) ++ drop end b

pub run_begins : (b : List ℕ) (from : ℕ) → from < length b → IsRunTo b from (from + 1)
run_begins b from low = record {
  some = omega arith;
  inside = omega arith;
  is = drop-cons b from 0 low ∙ (λ i. replicate (one i) (get_or b from 0) ++ drop (sym (add-one from) i) b);
}
  where
    one : 1 ≡ from + 1 - from
    one = omega arith

shift : (n x : ℕ) (rest : List ℕ) → replicate n x ++ (x ∷ rest) ≡ replicate (suc n) x ++ rest
shift zero x rest = refl
shift (suc n) x rest = ap (λ (l : List ℕ). x ∷ l) (shift n x rest)

pub run_goes_on : (b : List ℕ) (from end : ℕ) → IsRunTo b from end → end < length b → get_or b end 0 ≡ get_or b from 0 → IsRunTo b from (end + 1)
run_goes_on b from end run low same =
    let some = run.some in
    let x = get_or b from 0 in
    let size : suc (end - from) ≡ end + 1 - from = omega arith in
    record {
      some = omega arith;
      inside = omega arith;
      is = run.is ∙ ap (λ (l : List ℕ). replicate (end - from) x ++ l) (drop-cons b end 0 low ∙ ap (λ (y : ℕ). y ∷ drop (suc end) b) same)
          ∙ shift (end - from) x (drop (suc end) b) ∙ (λ i. replicate (size i) x ++ drop (sym (add-one end) i) b);
    }

pub run_ends : (b : List ℕ) (from end : ℕ) → IsRunTo b from end → Differs (get_or b from 0) (drop end b)
    → maximal_runs (drop from b) ≡ record { byte = get_or b from 0; times = end - from } ∷ maximal_runs (drop (from + (end - from)) b)
run_ends b from end run other =
    let some = run.some in
    let e : end ≡ from + (end - from) = omega arith in
    ap maximal_runs run.is ∙ run_some (end - from) (get_or b from 0) (drop end b) (omega arith) other
    ∙ ap (λ (n : ℕ). record { byte = get_or b from 0; times = end - from } ∷ maximal_runs (drop n b)) e

pub run_bytes : (b : List ℕ) (from end : ℕ) → IsRunTo b from end → take (end - from) (drop from b) ≡ replicate (end - from) (get_or b from 0)
run_bytes b from end run =
    ap (λ (l : List ℕ). take (end - from) l) run.is ∙ take_at (replicate (end - from) (get_or b from 0)) (drop end b) (end - from) (length-replicate (end - from) (get_or b from 0))

-- ---- what is cut off

-- a maximal run stands in front
pub record RunsOn (b : List ℕ) (from n : ℕ) : Type 0 where
  pub runs : maximal_runs (drop from b) ≡ record { byte = get_or b from 0; times = n } ∷ maximal_runs (drop (from + n) b)
  pub same : take n (drop from b) ≡ replicate n (get_or b from 0)
  pub some : (0 < n) × (from + n ≤ length b)

module _ (b : List ℕ) (from n : ℕ) (runs : RunsOn b from n) where
  abbrev byte : ℕ
  byte = get_or b from 0

  pub cut_short : n < least_run → cut (drop from b) ≡ joined (replicate n byte) (cut (drop (from + n) b))
  unfolding cut
  cut_short low =
      ap pieces runs.runs
      ∙ ap (λ (t : Bool). if t then joined (replicate n byte) (pieces (maximal_runs (drop (from + n) b))) else Run byte n ∷ pieces (maximal_runs (drop (from + n) b))) (lt-ltb n least_run low)

  pub cut_long : least_run ≤ n → cut (drop from b) ≡ Run byte n ∷ cut (drop (from + n) b)
  unfolding cut
  cut_long high =
      ap pieces runs.runs
      ∙ ap (λ (t : Bool). if t then joined (replicate n byte) (pieces (maximal_runs (drop (from + n) b))) else Run byte n ∷ pieces (maximal_runs (drop (from + n) b))) (le-ltb n least_run high)

  -- a long run as a piece
  pub long_piece : least_run ≤ n → cut (drop from b) ≡ piece_of true (take n (drop from b)) ∷ cut (drop (from + n) b)
  long_piece high =
      let some = runs.some.0 in
      cut_long high
      ∙ (λ i. Run (sym (get_or-replicate n 0 byte 0 some) i) (sym (length-replicate n byte) i) ∷ cut (drop (from + n) b))
      ∙ ap (λ (l : List ℕ). Run (get_or l 0 0) (length l) ∷ cut (drop (from + n) b)) (sym runs.same)

joined_twice : (a c : List ℕ) (ps : List Piece) → joined a (joined c ps) ≡ joined (a ++ c) ps
joined_twice a c [] = refl
joined_twice a c (Plain d ∷ ps) = ap (λ (l : List ℕ). Plain l ∷ ps) (sym (append_assoc a c d))
joined_twice a c (Run x n ∷ ps) = refl

-- from a place on these bytes stand before the next long run
pub JoinsTo : List ℕ → ℕ → ℕ → Type 0
JoinsTo bytes from end = (b : List ℕ) → joined b (cut (drop from bytes)) ≡ joined (b ++ take (end - from) (drop from bytes)) (cut (drop end bytes))

pub joins_more : (bytes : List ℕ) (from end n : ℕ) → from ≤ end → JoinsTo bytes from end → RunsOn bytes end n → n < least_run → JoinsTo bytes from (end + n)
unfolding JoinsTo
joins_more bytes from end n low joins runs short b =
    let e : end - from + n ≡ end + n - from = omega arith in
    let place : from + (end - from) ≡ end = omega arith in
    joins b ∙ ap (joined (b ++ take (end - from) (drop from bytes))) (cut_short bytes end n runs short ∙ ap (λ (l : List ℕ). joined l (cut (drop (end + n) bytes))) (sym runs.same))
    ∙ joined_twice (b ++ take (end - from) (drop from bytes)) (take n (drop end bytes)) (cut (drop (end + n) bytes))
    ∙ ap (λ (l : List ℕ). joined l (cut (drop (end + n) bytes)))
    (append_assoc b (take (end - from) (drop from bytes)) (take n (drop end bytes))
    ∙ ap (λ (l : List ℕ). b ++ l)
    (ap (λ (l : List ℕ). take (end - from) (drop from bytes) ++ take n l) (sym (drop-drop (end - from) from bytes ∙ ap (λ (k : ℕ). drop k bytes) place))
    ∙ sym (take_piece (end - from) n (drop from bytes)) ∙ ap (λ (k : ℕ). take k (drop from bytes)) e))

none : (n : ℕ) → 0 ≡ n - n
none n = omega arith

pub joins_first : (bytes : List ℕ) (from : ℕ) → JoinsTo bytes from from
unfolding JoinsTo
joins_first bytes from b = ap (λ (l : List ℕ). joined l (cut (drop from bytes))) (sym (append-nil b) ∙ ap (λ (n : ℕ). b ++ take n (drop from bytes)) (none from))

-- the long run itself stays
pub joins_long : (bytes : List ℕ) (from end n : ℕ) → JoinsTo bytes from end → RunsOn bytes end n → least_run ≤ n → (b : List ℕ)
    → joined b (cut (drop from bytes)) ≡ Plain (b ++ take (end - from) (drop from bytes)) ∷ cut (drop end bytes)
unfolding JoinsTo
joins_long bytes from end n joins runs long b =
    let plain = b ++ take (end - from) (drop from bytes) in
    let cuts = cut_long bytes end n runs long in
    joins b ∙ ap (joined plain) cuts ∙ ap (λ (ps : List Piece). Plain plain ∷ ps) (sym cuts)

pub cut_none : (bytes : List ℕ) (end : ℕ) → length bytes ≤ end → cut (drop end bytes) ≡ []
unfolding cut
cut_none bytes end past = ap (λ (l : List ℕ). pieces (maximal_runs l)) (nil_from_length (drop end bytes) (omega (arith, length-drop end bytes)))

pub joins_end : (bytes : List ℕ) (from end : ℕ) → JoinsTo bytes from end → length bytes ≤ end → (b : List ℕ)
    → joined b (cut (drop from bytes)) ≡ Plain (b ++ take (end - from) (drop from bytes)) ∷ cut (drop end bytes)
unfolding JoinsTo
joins_end bytes from end joins past b =
    let plain = b ++ take (end - from) (drop from bytes) in
    let none = cut_none bytes end past in
    joins b ∙ ap (joined plain) none ∙ ap (λ (ps : List Piece). Plain plain ∷ ps) (sym none)

-- a short run, and what stands between it and the next long one
pub plain_piece : (bytes : List ℕ) (from n end : ℕ) → RunsOn bytes from n → n < least_run → from + n ≤ end
    → ((b : List ℕ) → joined b (cut (drop (from + n) bytes)) ≡ Plain (b ++ take (end - (from + n)) (drop (from + n) bytes)) ∷ cut (drop end bytes))
    → cut (drop from bytes) ≡ Plain (take (end - from) (drop from bytes)) ∷ cut (drop (from + (end - from)) bytes)
plain_piece bytes from n end runs short low joins =
    let e : end ≡ from + (end - from) = omega arith in
    let m = end - (from + n) in
    let size : n + m ≡ end - from = omega arith in
    let front : replicate n (get_or bytes from 0) ++ take m (drop (from + n) bytes) ≡ take (end - from) (drop from bytes) =
    (λ i. sym runs.same i ++ take m (sym (drop-drop n from bytes) i)) ∙ sym (take_piece n m (drop from bytes)) ∙ ap (λ (k : ℕ). take k (drop from bytes)) size in
    cut_short bytes from n runs short ∙ joins (replicate n (get_or bytes from 0)) ∙ (λ i. Plain (front i) ∷ cut (drop (e i) bytes))

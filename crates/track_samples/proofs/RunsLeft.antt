-- Runs of chunks, read one after the other.
use Rattle.std.proofs.Common.{◌≡◌, ◌∙◌, ℕ, suc, ◌+◌, ◌-◌, ◌*◌, ◌<◌, ◌≤◌, Bool, false, cond, leb, ltb, List, [], ◌∷◌, take, drop, sym, ap, arith}
use Rattle.std.specs.Prelude.{◌&&◌, ◌==◌, ◌≢◌}
use Rattle.std.specs.Int.{w32, from_be_bytes}
use Rattle.std.proofs.lemmas.List.{drop-drop}
use Rattle.std.proofs.lemmas.Bool.{eq-eqb, ne_eqb, le-leb, lt-leb, lt-ltb, le-ltb}
use Rattle.sample_tables.specs.Samples.{ChunkRun, ascend, runs_from, samples_of, start_at_one}
use Rattle.track_samples.specs.Left.{runs_left, runs_of}
use Rattle.track_samples.specs.declared.rows.Rows.{Rows}
use Rattle.track_samples.proofs.Slices.{run_of}

-- the number at a place
abbrev number : List ℕ → ℕ → ℕ
number b at = from_be_bytes w32 (take 4 (drop at b))

-- one run further
next_run : (b : List ℕ) (a n : ℕ) → runs_from (suc n) (drop a b) ≡ run_of (number b a) (number b (a + 4)) ∷ runs_from n (drop (a + 12) b)
next_run b a n =
    ap (λ (x : List ℕ). run_of (number b a) (from_be_bytes w32 (take 4 x)) ∷ runs_from n (drop 12 (drop a b))) (drop-drop 4 a b)
    ∙ ap (λ (x : List ℕ). run_of (number b a) (number b (a + 4)) ∷ runs_from n x) (drop-drop 12 a b)

pub run_next : (b : List ℕ) (r : Rows) (k : ℕ) → k < r.count → runs_left b r k ≡ run_of (number b (r.at + 12 * k)) (number b (r.at + 12 * k + 4)) ∷ runs_left b r (k + 1)
run_next b r k lt =
    let more : r.count - k ≡ suc (r.count - (k + 1)) = omega arith in
    let place : r.at + 12 * k + 12 ≡ r.at + 12 * (k + 1) = omega arith in
    ap (λ (n : ℕ). runs_from n (drop (r.at + 12 * k) b)) more
    ∙ next_run b (r.at + 12 * k) (r.count - (k + 1))
    ∙ ap (λ (i : ℕ). run_of (number b (r.at + 12 * k)) (number b (r.at + 12 * k + 4)) ∷ runs_from (r.count - (k + 1)) (drop i b)) place

pub all_left : (b : List ℕ) (r : Rows) → runs_of b r ≡ runs_left b r 0
all_left b r =
    let n : r.count ≡ r.count - 0 = omega arith in
    let at : r.at ≡ r.at + 12 * 0 = omega arith in
    ap (λ (i : ℕ). runs_from i (drop r.at b)) n ∙ ap (λ (i : ℕ). runs_from (r.count - 0) (drop i b)) at

pub none_left : (b : List ℕ) (r : Rows) (k : ℕ) → r.count ≤ k → runs_left b r k ≡ []
none_left b r k le =
    let none : r.count - k ≡ 0 = omega arith in
    ap (λ (n : ℕ). runs_from n (drop (r.at + 12 * k) b)) none

-- ---- whether they are in order

abbrev rest_after : ChunkRun → List ChunkRun → Bool → Bool
rest_after r rs t = t && ascend r.first rs

pub no_runs : (b : List ℕ) (r : Rows) → r.count ≡ 0 → false ≡ start_at_one (runs_of b r)
no_runs b r none = sym (ap (λ (n : ℕ). start_at_one (runs_from n (drop r.at b))) none)

begun : (b : List ℕ) (r : Rows) (first : ℕ) → 0 < r.count → first ≡ number b r.at → start_at_one (runs_of b r) ≡ ((first == 1) && ascend 1 (runs_left b r 1))
begun b r first some e =
    let at : r.at + 12 * 0 ≡ r.at = omega arith in
    ap start_at_one (all_left b r ∙ run_next b r 0 (omega arith))
    ∙ ap (λ (i : ℕ). (number b i == 1) && ascend 1 (runs_left b r 1)) at
    ∙ ap (λ (i : ℕ). (i == 1) && ascend 1 (runs_left b r 1)) (sym e)

pub begins_late : (b : List ℕ) (r : Rows) (first : ℕ) → 0 < r.count → first ≡ number b r.at → first ≢ 1 → false ≡ start_at_one (runs_of b r)
begins_late b r first some e late =
    sym (begun b r first some e ∙ ap (λ (t : Bool). t && ascend 1 (runs_left b r 1)) (ne_eqb first 1 late))

pub begins_well : (b : List ℕ) (r : Rows) (first : ℕ) → 0 < r.count → first ≡ number b r.at → first ≡ 1 → start_at_one (runs_of b r) ≡ ascend first (runs_left b r 1)
begins_well b r first some e one =
    begun b r first some e ∙ ap (λ (t : Bool). t && ascend 1 (runs_left b r 1)) (eq-eqb first 1 one) ∙ ap (λ (i : ℕ). ascend i (runs_left b r 1)) (sym one)

pub ascends_not : (b : List ℕ) (r : Rows) (low k first : ℕ) → k < r.count → first ≡ number b (r.at + 12 * k) → first ≤ low → ascend low (runs_left b r k) ≡ false
ascends_not b r low k first lt e le =
    ap (ascend low) (run_next b r k lt)
    ∙ ap (λ (i : ℕ). ltb low i && ascend i (runs_left b r (k + 1))) (sym e)
    ∙ ap (λ (t : Bool). t && ascend first (runs_left b r (k + 1))) (le-ltb low first le)

pub ascends_on : (b : List ℕ) (r : Rows) (low k first : ℕ) → k < r.count → first ≡ number b (r.at + 12 * k) → low < first → ascend low (runs_left b r k) ≡ ascend first (runs_left b r (k + 1))
ascends_on b r low k first lt e less =
    ap (ascend low) (run_next b r k lt)
    ∙ ap (λ (i : ℕ). ltb low i && ascend i (runs_left b r (k + 1))) (sym e)
    ∙ ap (λ (t : Bool). t && ascend first (runs_left b r (k + 1))) (lt-ltb low first less)

-- ---- how many samples a chunk has

pub passes_run : (b : List ℕ) (r : Rows) (now n k first samples : ℕ) → k < r.count → first ≡ number b (r.at + 12 * k) → samples ≡ number b (r.at + 12 * k + 4) → first ≤ n
    → samples_of now n (runs_left b r k) ≡ samples_of samples n (runs_left b r (k + 1))
passes_run b r now n k first samples lt e f le =
    ap (samples_of now n) (run_next b r k lt)
    ∙ ap (λ (i : ℕ). cond (leb i n) (samples_of (number b (r.at + 12 * k + 4)) n (runs_left b r (k + 1))) now) (sym e)
    ∙ ap (λ (t : Bool). cond t (samples_of (number b (r.at + 12 * k + 4)) n (runs_left b r (k + 1))) now) (le-leb first n le)
    ∙ ap (λ (i : ℕ). samples_of i n (runs_left b r (k + 1))) (sym f)

pub stays_before : (b : List ℕ) (r : Rows) (now n k first : ℕ) → k < r.count → first ≡ number b (r.at + 12 * k) → n < first → samples_of now n (runs_left b r k) ≡ now
stays_before b r now n k first lt e less =
    ap (samples_of now n) (run_next b r k lt)
    ∙ ap (λ (i : ℕ). cond (leb i n) (samples_of (number b (r.at + 12 * k + 4)) n (runs_left b r (k + 1))) now) (sym e)
    ∙ ap (λ (t : Bool). cond t (samples_of (number b (r.at + 12 * k + 4)) n (runs_left b r (k + 1))) now) (lt-leb first n less)

pub stays_at_end : (b : List ℕ) (r : Rows) (now n k : ℕ) → r.count ≤ k → samples_of now n (runs_left b r k) ≡ now
stays_at_end b r now n k le = ap (samples_of now n) (none_left b r k le)

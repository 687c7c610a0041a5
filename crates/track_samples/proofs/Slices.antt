-- Rows of tables in a range of the file.
use Rattle.std.proofs.Common.{◌≡◌, ◌∙◌, ℕ, zero, suc, ◌+◌, ◌-◌, ◌*◌, ◌≤◌, Bool, true, false, List, ◌∷◌, length, take, drop, refl, sym, ap, arith}
use Rattle.std.specs.Int.{w32, from_be_bytes}
use Rattle.std.proofs.lemmas.List.{drop-drop, drop-take, take-take, length-take}
use Rattle.container_model.specs.Rows.{Width, numbers}
use Rattle.container_model.specs.Written.{slice}
use Rattle.sample_tables.specs.Samples.{ChunkRun, runs_from}
use Rattle.track_samples.specs.Left.{width_of}

-- some bytes of a range
pub in_slice : (b : List ℕ) (at n j k : ℕ) → j + k ≤ n → take k (drop j (slice b at n)) ≡ take k (drop (at + j) b)
in_slice b at n j k room =
    let split : n ≡ j + (n - j) = omega arith in
    ap (λ (m : ℕ). take k (drop j (take m (drop at b)))) split
    ∙ ap (take k) (drop-take j (n - j) (drop at b)) ∙ take-take k (n - j) (drop j (drop at b)) (omega arith) ∙ ap (take k) (drop-drop j at b)

pub number_told : (b : List ℕ) (at n j m : ℕ) → j + 4 ≤ n → m ≡ from_be_bytes w32 (take 4 (drop (at + j) b)) → m ≡ from_be_bytes w32 (take 4 (drop j (slice b at n)))
number_told b at n j m room e = e ∙ ap (from_be_bytes w32) (sym (in_slice b at n j 4 room))

pub short_slice : (b : List ℕ) (at n : ℕ) → length (slice b at n) ≤ n
short_slice b at n = omega (arith, length-take n (drop at b))

-- what is behind the head of a table
pub behind_head : (b : List ℕ) (at n j : ℕ) → j ≤ n → drop j (slice b at n) ≡ take (n - j) (drop (at + j) b)
behind_head b at n j le =
    let split : n ≡ j + (n - j) = omega arith in
    ap (λ (i : ℕ). drop j (take i (drop at b))) split ∙ drop-take j (n - j) (drop at b) ∙ ap (take (n - j)) (drop-drop j at b)

-- ---- numbers

step_in : (w : Width) (k m : ℕ) (x : List ℕ) → w.bytes ≤ m → numbers w k (take (m - w.bytes) (drop w.bytes x)) ≡ numbers w k (drop w.bytes x) → numbers w (suc k) (take m x) ≡ numbers w (suc k) x
step_in w k m x le again =
    let split : m ≡ w.bytes + (m - w.bytes) = omega arith in
    let tail : drop w.bytes (take m x) ≡ take (m - w.bytes) (drop w.bytes x) = ap (λ (i : ℕ). drop w.bytes (take i x)) split ∙ drop-take w.bytes (m - w.bytes) x in
    ap (λ (h : List ℕ). w.get h ∷ numbers w k (drop w.bytes (take m x))) (take-take w.bytes m x le)
    ∙ ap (λ (t : List ℕ). w.get (take w.bytes x) ∷ t) (ap (numbers w k) tail ∙ again)

rows_in : (wide : Bool) (k m : ℕ) (x : List ℕ) → (width_of wide).bytes * k ≤ m → numbers (width_of wide) k (take m x) ≡ numbers (width_of wide) k x
rows_in wide zero m x le = refl
rows_in true (suc k) m x le = step_in (width_of true) k m x (omega arith) (rows_in true k (m - 8) (drop 8 x) (omega arith))
rows_in false (suc k) m x le = step_in (width_of false) k m x (omega arith) (rows_in false k (m - 4) (drop 4 x) (omega arith))

pub numbers_behind : (wide : Bool) (b : List ℕ) (at n j k : ℕ) → j ≤ n → (width_of wide).bytes * k ≤ n - j → numbers (width_of wide) k (drop j (slice b at n)) ≡ numbers (width_of wide) k (drop (at + j) b)
numbers_behind wide b at n j k le fits = ap (numbers (width_of wide) k) (behind_head b at n j le) ∙ rows_in wide k (n - j) (drop (at + j) b) fits

-- ---- runs

abbrev pub run_of : ℕ → ℕ → ChunkRun
run_of first samples = record { first = first; samples = samples }

runs_in : (k m : ℕ) (x : List ℕ) → 12 * k ≤ m → runs_from k (take m x) ≡ runs_from k x
runs_in zero m x le = refl
runs_in (suc k) m x le =
    let split : m ≡ 12 + (m - 12) = omega arith in
    let fours : m ≡ 4 + (m - 4) = omega arith in
    let number = λ (y : List ℕ). from_be_bytes w32 (take 4 y) in
    let rest : drop 12 (take m x) ≡ take (m - 12) (drop 12 x) = ap (λ (i : ℕ). drop 12 (take i x)) split ∙ drop-take 12 (m - 12) x in
    let second : take 4 (drop 4 (take m x)) ≡ take 4 (drop 4 x) =
    ap (λ (i : ℕ). take 4 (drop 4 (take i x))) fours ∙ ap (take 4) (drop-take 4 (m - 4) x) ∙ take-take 4 (m - 4) (drop 4 x) (omega arith) in
    ap (λ (h : List ℕ). run_of (from_be_bytes w32 h) (from_be_bytes w32 (take 4 (drop 4 (take m x)))) ∷ runs_from k (drop 12 (take m x))) (take-take 4 m x (omega arith))
    ∙ ap (λ (h : List ℕ). run_of (from_be_bytes w32 (take 4 x)) (from_be_bytes w32 h) ∷ runs_from k (drop 12 (take m x))) second
    ∙ ap (λ (t : List ChunkRun). run_of (from_be_bytes w32 (take 4 x)) (from_be_bytes w32 (take 4 (drop 4 x))) ∷ t) (ap (runs_from k) rest ∙ runs_in k (m - 12) (drop 12 x) (omega arith))

pub runs_behind : (b : List ℕ) (at n j k : ℕ) → j ≤ n → 12 * k ≤ n - j → runs_from k (drop j (slice b at n)) ≡ runs_from k (drop (at + j) b)
runs_behind b at n j k le fits = ap (runs_from k) (behind_head b at n j le) ∙ runs_in k (n - j) (drop (at + j) b) fits

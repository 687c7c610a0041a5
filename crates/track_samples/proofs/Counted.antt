-- The samples of chunks, counted one chunk after the other.
use Rattle.std.proofs.Common.{◌≡◌, ◌∙◌, ℕ, suc, ◌+◌, ◌-◌, ◌<◌, ◌≤◌, Bool, List, length, map, take, drop, sym, ap, arith}
use Rattle.std.specs.List.{AllByRecursion}
use Rattle.std.proofs.lemmas.List.{drop-drop}
use Rattle.std.proofs.lemmas.List.Sums.{sum_by-cons}
use Rattle.part_tree.specs.declared.names.Span.{Span}
use Rattle.container_model.specs.Rows.{numbers}
use Rattle.sample_tables.specs.Samples.{ChunkRun, samples_from, samples_in, samples_of}
use Rattle.track_samples.specs.Left.{fitting, room_in, width_of}
use Rattle.track_samples.specs.Tables.{tail_in, total}
use Rattle.track_samples.proofs.Ranged.{tail_length}
use Rattle.track_samples.proofs.SizesLeft.{samples_fit}

-- what follows the places of these chunks
abbrev pub tails_at : List ℕ → List Span → Bool → ℕ → ℕ → List (List ℕ)
tails_at b ms wide k a = map (tail_in b ms) (numbers (width_of wide) k (drop a b))

pub count_chunk : (b : List ℕ) (ms : List Span) (wide : Bool) (rs : List ChunkRun) (n a k fit place now : ℕ) (sizes rest : List ℕ)
    → AllByRecursion (λ (s : Span). s.at + s.len ≤ length b) ms
    → place ≡ (width_of wide).get (take (width_of wide).bytes (drop a b))
    → samples_of 0 n rs ≡ now
    → fit ≡ fitting now sizes (room_in ms place)
    → rest ≡ drop now sizes
    → total (samples_from rs n sizes (tails_at b ms wide (suc k) a))
    ≡ fit + total (samples_from rs (suc n) rest (tails_at b ms wide k (a + (width_of wide).bytes)))
count_chunk b ms wide rs n a k fit place now sizes rest inside is_place is_now is_fit is_rest =
    let w = width_of wide in
    let p = w.get (take w.bytes (drop a b)) in
    let t = tail_in b ms p in
    let ts = map (tail_in b ms) (numbers w k (drop w.bytes (drop a b))) in
    let m = samples_of 0 n rs in
    let many : length (samples_in now sizes t) ≡ fit =
    samples_fit now sizes t ∙ ap (fitting now sizes) (tail_length b ms p inside ∙ ap (room_in ms) (sym is_place)) ∙ sym is_fit in
    sum_by-cons (λ (x : List (List ℕ)). length x) (samples_in m sizes t) (samples_from rs (suc n) (drop m sizes) ts)
    ∙ ap (λ (i : ℕ). length (samples_in i sizes t) + total (samples_from rs (suc n) (drop i sizes) ts)) is_now
    ∙ ap (λ (i : ℕ). i + total (samples_from rs (suc n) (drop now sizes) ts)) many
    ∙ ap (λ (x : List ℕ). fit + total (samples_from rs (suc n) x ts)) (sym is_rest)
    ∙ ap (λ (x : List ℕ). fit + total (samples_from rs (suc n) rest (map (tail_in b ms) (numbers w k x)))) (drop-drop w.bytes a b)

-- the same, as far as was counted
pub count_step : (b : List ℕ) (ms : List Span) (wide : Bool) (rs : List ChunkRun) (c count a next fit place now counted whole : ℕ) (sizes rest : List ℕ)
    → AllByRecursion (λ (s : Span). s.at + s.len ≤ length b) ms → c < count
    → place ≡ (width_of wide).get (take (width_of wide).bytes (drop a b))
    → samples_of 0 (c + 1) rs ≡ now
    → fit ≡ fitting now sizes (room_in ms place)
    → rest ≡ drop now sizes
    → next ≡ a + (width_of wide).bytes
    → counted + total (samples_from rs (c + 1) sizes (tails_at b ms wide (count - c) a)) ≡ whole
    → counted + fit + total (samples_from rs (c + 1 + 1) rest (tails_at b ms wide (count - (c + 1)) next)) ≡ whole
count_step b ms wide rs c count a next fit place now counted whole sizes rest inside lt is_place is_now is_fit is_rest behind so_far =
    let k = count - (c + 1) in
    let more : count - c ≡ suc k = omega arith in
    let number : suc (c + 1) ≡ c + 1 + 1 = omega arith in
    let step : total (samples_from rs (c + 1) sizes (tails_at b ms wide (count - c) a)) ≡ fit + total (samples_from rs (c + 1 + 1) rest (tails_at b ms wide k next)) =
    ap (λ (i : ℕ). total (samples_from rs (c + 1) sizes (tails_at b ms wide i a))) more
    ∙ count_chunk b ms wide rs (c + 1) a k fit place now sizes rest inside is_place is_now is_fit is_rest
    ∙ ap (λ (i : ℕ). fit + total (samples_from rs i rest (tails_at b ms wide k (a + (width_of wide).bytes)))) number
    ∙ ap (λ (i : ℕ). fit + total (samples_from rs (c + 1 + 1) rest (tails_at b ms wide k i))) (sym behind) in
    omega (arith, so_far, step)

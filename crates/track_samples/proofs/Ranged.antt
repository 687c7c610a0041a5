-- The room behind a place: the last range that begins at the place or before it tells it.
use Rattle.std.proofs.Common.{◌≡◌, ◌∙◌, ℕ, zero, suc, ◌+◌, ◌-◌, ◌<◌, ◌≤◌, Bool, true, false, cond, leb, List, [], ◌∷◌, length, get_or, refl, ap, arith}
use Rattle.std.specs.Prelude.{◌&&◌}
use Rattle.std.specs.List.{AllByRecursion}
use Rattle.std.proofs.lemmas.Bool.{and_parts, leb-true}
use Rattle.part_tree.specs.declared.names.Span.{Span}
use Rattle.part_tree.specs.Ranges.{Ascends, IsCut, no_span, within}
use Rattle.container_model.specs.Written.{slice}
use Rattle.container_model.proofs.Windows.{length_slice}
use Rattle.track_samples.specs.Left.{room_by, room_in}
use Rattle.track_samples.specs.Tables.{tail_in}

later : (low : ℕ) (ss : List Span) (i : ℕ) (d : Span) → Ascends low ss → i < length ss → low ≤ (get_or ss i d).at
later low [] i d h lt = absurd (omega arith)
later low (s ∷ ss) zero d h lt = h.0
later low (s ∷ ss) (suc i) d h lt = let rest = later (s.at + s.len) ss i d h.1 (omega arith) in let first = h.0 in omega arith

cut_none : (p : ℕ) (s : Span) (ss : List Span) → IsCut p (s ∷ ss) 0 → IsCut p ss 0
cut_none p s ss c = ((λ i d low less. absurd (omega arith)), (λ i d low less. c.1 (suc i) d (omega arith) (omega arith)))

cut_more : (p : ℕ) (s : Span) (ss : List Span) (k : ℕ) → IsCut p (s ∷ ss) (suc k) → IsCut p ss k
cut_more p s ss k c = ((λ i d low less. c.0 (suc i) d (omega arith) (omega arith)), (λ i d low less. c.1 (suc i) d (omega arith) (omega arith)))

-- a range that begins behind a place doesn't hold it
far_off : (s : Span) (p : ℕ) → leb s.at p ≡ false → within s p 1 ≡ false
far_off s p e = ap (λ (t : Bool). t && leb (p + 1) (s.at + s.len)) e

skip : (s : Span) (p n : ℕ) → within s p 1 ≡ false → cond (within s p 1) (s.at + s.len - p) n ≡ n
skip s p n e = ap (λ (t : Bool). cond t (s.at + s.len - p) n) e

none_begun : (ss : List Span) (p : ℕ) → IsCut p ss 0 → room_in ss p ≡ 0
none_begun [] p c = refl
none_begun (s ∷ ss) p c = skip s p (room_in ss p) (far_off s p (c.1 0 s (omega arith) (omega arith))) ∙ none_begun ss p (cut_none p s ss c)

pub room_last : (low : ℕ) (ss : List Span) (p k : ℕ) → Ascends low ss → k ≤ length ss → IsCut p ss k → room_in ss p ≡ room_by ss p k
room_last low ss p zero h le c = none_begun ss p c
room_last low [] p (suc k) h le c = absurd (omega arith)
room_last low (s ∷ ss) p (suc zero) h le c = ap (λ (n : ℕ). cond (within s p 1) (s.at + s.len - p) n) (none_begun ss p (cut_more p s ss 0 c))
room_last low (s ∷ ss) p (suc (suc j)) h le c = skip s p (room_in ss p) (go (within s p 1) refl) ∙ room_last (s.at + s.len) ss p (suc j) h.1 (omega arith) (cut_more p s ss (suc j) c)
  where
    near : (get_or ss j no_span).at ≤ p
    near = leb-true (get_or ss j no_span).at p (c.0 (suc j) no_span (omega arith) (omega arith))

    far : s.at + s.len ≤ (get_or ss j no_span).at
    far = later (s.at + s.len) ss j no_span h.1 (omega arith)

    go : (t : Bool) → within s p 1 ≡ t → within s p 1 ≡ false
    go false e = e
    go true e = absurd (omega (arith, leb-true (p + 1) (s.at + s.len) (and_parts (leb s.at p) (leb (p + 1) (s.at + s.len)) e).1, near, far))

-- what follows a place is as long as the room behind it
pub tail_length : (b : List ℕ) (ss : List Span) (p : ℕ) → AllByRecursion (λ (s : Span). s.at + s.len ≤ length b) ss → length (tail_in b ss p) ≡ room_in ss p
tail_length b [] p inside = refl
tail_length b (s ∷ ss) p inside = go (within s p 1) refl (tail_length b ss p inside.1)
  where
    go : (t : Bool) → within s p 1 ≡ t → length (tail_in b ss p) ≡ room_in ss p → length (cond t (slice b p (s.at + s.len - p)) (tail_in b ss p)) ≡ cond t (s.at + s.len - p) (room_in ss p)
    go false e again = again
    go true e again =
        let held = leb-true (p + 1) (s.at + s.len) (and_parts (leb s.at p) (leb (p + 1) (s.at + s.len)) e).1 in
        let fits = inside.0 in
        length_slice b p (s.at + s.len - p) (omega arith)

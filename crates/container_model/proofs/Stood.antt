-- Chunks that stand somewhere: their bytes, and the same chunks elsewhere, or with other bodies.
use Rattle.std.proofs.Common.{◌≡◌, ℕ, ◌+◌, ◌≤◌, Bool, true, false, cond, List, [], ◌∷◌, ◌++◌, length, map, take, refl, sym, ap, ◌∙◌, append_assoc, arith}
use Rattle.std.specs.List.{AllByRecursion}
use Rattle.std.proofs.lemmas.List.{length-append, take_at, drop_at, append-nil}
use Rattle.container_model.specs.Chunk.{Chunk, spell, spell_all}
use Rattle.container_model.specs.Stood.{Stood, bare, stood, only, first_of}
use Rattle.container_model.specs.Written.{slice, Write}
use Rattle.container_model.proofs.Stay.{Rigid, rigid_part}
use Rattle.container_model.proofs.Written.{renew, renewed, renew_alike}
use Rattle.container_model.proofs.Deep.{alike_len}
use Rattle.container_model.proofs.Copied.{moved_to, Moves_as_one, spell_some, bare_short}

-- ---- their bytes

pub record Spelled (b : List ℕ) (s : Stood) : Type 0 where
  pub lies : s.at + length (spell s.chunk) ≤ length b
  pub bytes_are : slice b s.at (length (spell s.chunk)) ≡ spell s.chunk

slice_of : (pre x post : List ℕ) → slice (pre ++ (x ++ post)) (length pre) (length x) ≡ x
slice_of pre x post = ap (take (length x)) (drop_at pre (x ++ post) (length pre) refl) ∙ take_at x post (length x) refl

pub stood_spelled : (pre : List ℕ) (cs : List Chunk) (post : List ℕ) → AllByRecursion (Spelled (pre ++ (spell_all cs ++ post))) (stood (length pre) cs)
stood_spelled pre [] post = tt
stood_spelled pre (c ∷ cs) post =
    let again = stood_spelled (pre ++ spell c) cs post in
    let len : length (pre ++ spell c) ≡ length pre + length (spell c) = length-append pre (spell c) in
    let whole : (pre ++ spell c) ++ (spell_all cs ++ post) ≡ pre ++ ((spell c ++ spell_all cs) ++ post) = simp append_assoc in
    let one : pre ++ ((spell c ++ spell_all cs) ++ post) ≡ pre ++ (spell (bare c) ++ (c.pad ++ (spell_all cs ++ post))) = rw (append-nil c.body) (simp append_assoc) in (
      record {
        lies = omega (arith, bare_short c, length-append pre ((spell c ++ spell_all cs) ++ post), length-append (spell c ++ spell_all cs) post, length-append (spell c) (spell_all cs));
        bytes_are = ap (λ (x : List ℕ). slice x (length pre) (length (spell (bare c)))) one ∙ slice_of pre (spell (bare c)) (c.pad ++ (spell_all cs ++ post));
      },
      rw (len, whole) at again,
    )

-- ---- lists of them

pub only_all : (P : Stood → Type 0) (p : Chunk → Bool) (xs : List Stood) → AllByRecursion P xs → AllByRecursion P (only p xs)
only_all P p [] h = tt
only_all P p (x ∷ xs) h = go (p x.chunk) (only_all P p xs h.1)
  where
    go : (t : Bool) → AllByRecursion P (only p xs) → AllByRecursion P (cond t (x ∷ only p xs) (only p xs))
    go true g = (h.0, g)
    go false g = g

pub first_all : (P : Stood → Type 0) (xs : List Stood) → AllByRecursion P xs → AllByRecursion P (first_of xs)
first_all P [] h = tt
first_all P (x ∷ xs) h = (h.0, tt)

pub first_map : (g : Stood → Stood) (xs : List Stood) → first_of (map g xs) ≡ map g (first_of xs)
first_map g [] = refl
first_map g (x ∷ xs) = refl

-- a change that a test doesn't see
pub only_map : (p : Chunk → Bool) (g : Stood → Stood) (xs : List Stood) → AllByRecursion (λ x. p ((g x).chunk) ≡ p (x.chunk)) xs → only p (map g xs) ≡ map g (only p xs)
only_map p g [] h = refl
only_map p g (x ∷ xs) h = rw h.0 (go (p x.chunk) (only_map p g xs h.1))
  where
    go : (t : Bool) → only p (map g xs) ≡ map g (only p xs) → cond t (g x ∷ only p (map g xs)) (only p (map g xs)) ≡ map g (cond t (x ∷ only p xs) (only p xs))
    go true e = ap (λ (k : List Stood). g x ∷ k) e
    go false e = e

-- ---- moved, with other bodies

abbrev pub renew_at : List Write → Stood → Stood
renew_at ws s = record { at = s.at; chunk = renew ws s.at s.chunk }

-- a chunk where its place moves, with what is written into its body
abbrev pub carried_to : (ℕ → ℕ) → List Write → Stood → Stood
carried_to f ws s = record { at = f s.at; chunk = renew ws s.at s.chunk }

renew_length : (ws : List Write) (at : ℕ) (c : Chunk) → length (spell (renew ws at c)) ≡ length (spell c)
renew_length ws at c = alike_len c (renew ws at c) (renew_alike ws at c)

pub renewed_stood : (ws : List Write) (at : ℕ) (cs : List Chunk) → stood at (renewed ws at cs) ≡ map (renew_at ws) (stood at cs)
renewed_stood ws at [] = refl
renewed_stood ws at (c ∷ cs) =
    let next = at + length (spell c) in
    ap (λ (k : List Stood). record { at = at; chunk = renew ws at (bare c) } ∷ k) (ap (λ (k : ℕ). stood (at + k) (renewed ws next cs)) (renew_length ws at c) ∙ renewed_stood ws next cs)

map_map : (g h : Stood → Stood) (xs : List Stood) → map g (map h xs) ≡ map (λ x. g (h x)) xs
map_map g h [] = refl
map_map g h (x ∷ xs) = ap (λ (k : List Stood). g (h x) ∷ k) (map_map g h xs)

pub moved_renewed : (f : ℕ → ℕ) (ws : List Write) (xs : List Stood) → map (moved_to f) (map (renew_at ws) xs) ≡ map (carried_to f ws) xs
moved_renewed f ws xs = map_map (moved_to f) (renew_at ws) xs

-- chunks inside a range that moves as one
pub stood_carried : (f : ℕ → ℕ) (Ok : ℕ → Type 0) (ws : List Write) (q len : ℕ) → Rigid f Ok q len → (d : ℕ) (cs : List Chunk) → d + length (spell_all cs) ≤ len
    → (stood (f q + d) (renewed ws (q + d) cs) ≡ map (carried_to f ws) (stood (q + d) cs)) × AllByRecursion (Moves_as_one f Ok) (stood (q + d) cs)
stood_carried f Ok ws q len r d [] h = (refl, tt)
stood_carried f Ok ws q len r d (c ∷ cs) h =
    let k = length (spell c) in
    let some = spell_some c in
    let long = length-append (spell c) (spell_all cs) in
    let again = stood_carried f Ok ws q len r (d + k) cs (omega (arith, long)) in
    let e : q + (d + k) ≡ (q + d) + k = omega arith in
    let g : f q + (d + k) ≡ (f q + d) + k = omega arith in
    let here : f (q + d) ≡ f q + d = (r d (omega (arith, long, some))).1 in
    let tail : stood ((f q + d) + k) (renewed ws ((q + d) + k) cs) ≡ map (carried_to f ws) (stood ((q + d) + k) cs) = rw (e, g) at again.0 in (
      ap (λ (x : ℕ). record { at = f q + d; chunk = renew ws (q + d) (bare c) } ∷ stood ((f q + d) + x) (renewed ws ((q + d) + k) cs)) (renew_length ws (q + d) c)
          ∙ ap (λ (x : List Stood). record { at = f q + d; chunk = renew ws (q + d) (bare c) } ∷ x) tail
          ∙ ap (λ (x : ℕ). record { at = x; chunk = renew ws (q + d) (bare c) } ∷ map (carried_to f ws) (stood ((q + d) + k) cs)) (sym here),
      (rigid_part f Ok q len d (length (spell (bare c))) (omega (arith, long, bare_short c)) (omega (arith, long, some)) r, rw e at again.1),
    )

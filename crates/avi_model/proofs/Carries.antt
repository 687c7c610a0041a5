-- Chunks that go in two steps, and the chunks of a list that goes as one.
use Rattle.std.proofs.Common.{◌≡◌, ℕ, ◌+◌, ◌≤◌, Bool, List, [], ◌∷◌, ◌++◌, length, map, refl, sym, ap, subst, ◌∙◌, arith}
use Rattle.std.specs.List.{flat_map, AllByRecursion}
use Rattle.std.proofs.lemmas.List.{length-append}
use Rattle.container_model.specs.Chunk.{Chunk, spell, spell_all}
use Rattle.container_model.specs.Stood.{Stood, bare, stood, only}
use Rattle.container_model.specs.Written.{Write}
use Rattle.container_model.proofs.Copied.{Moves_as_one, bare_short, map_append, moved_to, spell_some}
use Rattle.container_model.proofs.Deep.{alike_len}
use Rattle.container_model.proofs.Stay.{Rigid, rigid_part}
use Rattle.container_model.proofs.Stood.{carried_to, only_map}
use Rattle.container_model.proofs.Written.{renew, renew_alike}
use Rattle.carrier_model.specs.Info.{list_run}
use Rattle.avi_model.specs.Avi.{kids}
use Rattle.avi_model.proofs.Laid.{Carried}

-- a range that goes as one in each of two steps
pub both_go : (f h : ℕ → ℕ) (O Q : ℕ → Type 0) (p len : ℕ) → Rigid f O p len → Rigid h Q (f p) len → Rigid (λ q. h (f q)) (λ q. O q × Q (f q)) p len
both_go f h O Q p len r t i lt = let x = r i lt in let y = t i lt in ((x.0, subst Q (sym x.1) y.0), ap h x.1 ∙ y.1)

pub go_twice : (f h : ℕ → ℕ) (O Q : ℕ → Type 0) (ws : List Write) (xs ys zs : List Stood) → Carried f O ws xs ys → zs ≡ map (moved_to h) ys → AllByRecursion (Moves_as_one h Q) ys
    → Carried (λ q. h (f q)) (λ q. O q × Q (f q)) ws xs zs
go_twice f h O Q ws xs ys zs c z m = (z ∙ ap (map (moved_to h)) c.0 ∙ twice xs, all xs (subst (AllByRecursion (Moves_as_one h Q)) c.0 m) c.1)
  where
    twice : (xs : List Stood) → map (moved_to h) (map (carried_to f ws) xs) ≡ map (carried_to (λ q. h (f q)) ws) xs
    twice [] = refl
    twice (x ∷ xs) = ap (λ (k : List Stood). record { at = h (f x.at); chunk = renew ws x.at x.chunk } ∷ k) (twice xs)

    all : (xs : List Stood) → AllByRecursion (Moves_as_one h Q) (map (carried_to f ws) xs) → AllByRecursion (Moves_as_one f O) xs → AllByRecursion (Moves_as_one (λ q. h (f q)) (λ q. O q × Q (f q))) xs
    all [] m r = tt
    all (x ∷ xs) m r = (
      both_go f h O Q x.at (length (spell x.chunk)) r.0 (λ i lt. m.0 i (omega (arith, lt, alike_len x.chunk (renew ws x.at x.chunk) (renew_alike ws x.at x.chunk)))),
      all xs m.1 r.1,
    )

-- ---- a list that goes as one

pub stood_moved : (f : ℕ → ℕ) (Ok : ℕ → Type 0) (q len : ℕ) → Rigid f Ok q len → (d : ℕ) (cs : List Chunk) → d + length (spell_all cs) ≤ len
    → (stood (f q + d) cs ≡ map (moved_to f) (stood (q + d) cs)) × AllByRecursion (Moves_as_one f Ok) (stood (q + d) cs)
stood_moved f Ok q len r d [] h = (refl, tt)
stood_moved f Ok q len r d (c ∷ cs) h =
    let k = length (spell c) in
    let some = spell_some c in
    let long = length-append (spell c) (spell_all cs) in
    let again = stood_moved f Ok q len r (d + k) cs (omega (arith, long)) in
    let e : q + (d + k) ≡ (q + d) + k = omega arith in
    let g : f q + (d + k) ≡ (f q + d) + k = omega arith in
    let here : f (q + d) ≡ f q + d = (r d (omega (arith, long, some, h))).1 in
    let tail : stood ((f q + d) + k) cs ≡ map (moved_to f) (stood ((q + d) + k) cs)
    = ap (λ (x : ℕ). stood x cs) (sym g) ∙ again.0 ∙ ap (λ (x : ℕ). map (moved_to f) (stood x cs)) e in
    let move : Moves_as_one f Ok (record { at = q + d; chunk = bare c }) = rigid_part f Ok q len d (length (spell (bare c))) (omega (arith, long, bare_short c, h)) (omega (arith, long, some, h)) r in (
      ap (λ (x : ℕ). record { at = x; chunk = bare c } ∷ stood ((f q + d) + k) cs) (sym here) ∙ ap (λ (x : List Stood). record { at = f (q + d); chunk = bare c } ∷ x) tail,
      (move, subst (λ (x : ℕ). AllByRecursion (Moves_as_one f Ok) (stood x cs)) e again.1),
    )

-- the chunks of a list fit in it
abbrev pub KidsFit : Stood → Type 0
KidsFit x = 12 + length (spell_all (list_run x.chunk).chunks) ≤ length (spell x.chunk)

pub kids_moved : (f : ℕ → ℕ) (Ok : ℕ → Type 0) (xs : List Stood) → AllByRecursion KidsFit xs → AllByRecursion (Moves_as_one f Ok) xs
    → (flat_map kids (map (moved_to f) xs) ≡ map (moved_to f) (flat_map kids xs)) × AllByRecursion (Moves_as_one f Ok) (flat_map kids xs)
kids_moved f Ok [] h r = (refl, tt)
kids_moved f Ok (x ∷ xs) h r =
    let one = stood_moved f Ok x.at (length (spell x.chunk)) r.0 12 (list_run x.chunk).chunks h.0 in
    let more = kids_moved f Ok xs h.1 r.1 in (
      ap (λ (k : List Stood). k ++ flat_map kids (map (moved_to f) xs)) one.0 ∙ ap (λ (k : List Stood). map (moved_to f) (kids x) ++ k) more.0 ∙ sym (map_append (moved_to f) (kids x) (flat_map kids xs)),
      both (kids x) (flat_map kids xs) one.1 more.1,
    )
  where
    both : (a b : List Stood) → AllByRecursion (Moves_as_one f Ok) a → AllByRecursion (Moves_as_one f Ok) b → AllByRecursion (Moves_as_one f Ok) (a ++ b)
    both [] b h g = g
    both (y ∷ a) b h g = (h.0, both a b h.1 g)

-- what is found among chunks is found where they go
pub found_moved : (p : Chunk → Bool) (f : ℕ → ℕ) (xs : List Stood) → only p (map (moved_to f) xs) ≡ map (moved_to f) (only p xs)
found_moved p f xs = only_map p (moved_to f) xs (all xs)
  where
    all : (xs : List Stood) → AllByRecursion (λ x. p ((moved_to f x).chunk) ≡ p (x.chunk)) xs
    all [] = tt
    all (x ∷ xs) = (refl, all xs)

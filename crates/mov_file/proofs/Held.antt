-- A chunk stands in an `mdat` exactly where its place lies in one of the ranges of the essence.
use Rattle.std.proofs.Common.{◌≡◌, ◌∙◌, ℕ, zero, suc, ◌+◌, ◌-◌, ◌<◌, ◌≤◌, Bool, true, false, cond, ltb, leb, List, [], ◌∷◌, ◌++◌, length, drop, get_or, refl, sym, ap, subst, arith, length-append, Option, Some, None, inl, inr}
use Rattle.std.specs.Prelude.{IfOk, IsNone, Result, not, ◌&&◌, ◌||◌}
use Rattle.std.specs.declared.result.Result.TheVariants.{Ok, Err}
use Rattle.std.specs.List.{AllByRecursion, flat_map}
use Rattle.std.proofs.lemmas.Bool.{and_left, and_right, le-leb, leb-false, leb-true, lt-leb, ltb-false, ltb-true, or_from}
use Rattle.std.proofs.lemmas.List.{at_drop_all, at_drop_more}
use Rattle.part_tree.specs.Ranges.{in_one, within}
use Rattle.part_tree.specs.declared.names.Span.{Span}
use Rattle.part_tree.specs.declared.shows.Track.{Track}
use Rattle.part_tree.specs.declared.why.Why.{Why}
use Rattle.part_tree.specs.declared.why.Why.TheVariants.{ChunkAstray}
use Rattle.container_model.specs.Chunk.{Chunk, header_bytes, spell}
use Rattle.container_model.specs.Tests.{first}
use Rattle.container_model.specs.Walk.{Step, along, chunk_at}
use Rattle.mov_model.specs.Atoms.{Place, file}
use Rattle.mov_model.specs.Map.{essence_at}
use Rattle.mov_model.specs.Pieces.{head_length, held, held_here, is_mdat, next_number}
use Rattle.mov_model.specs.Reading.{row as steps}
use Rattle.mov_model.specs.Tables.{tables}
use Rattle.mov_model.specs.Why.{Test, chunk_tests, is_none, place_tests}
use Rattle.sample_tables.specs.Tables.{places}
use Rattle.mov_file.specs.Carriers.{kid_at}
use Rattle.container_model.specs.Written.{slice}
use Rattle.mov_file.specs.Chunks.{HasRows, first_astray, places_of}
use Rattle.mov_file.specs.Map.{TrackEndsBy}
use Rattle.mov_file.specs.Whole.{HasPlaces, astray_as, chunks_of, first_chunk}
use Rattle.mov_file.proofs.Lies.{KidSits}

or_assoc : (a b c : Bool) → ((a || b) || c) ≡ (a || (b || c))
or_assoc true b c = refl
or_assoc false b c = refl

in_both : (xs ys : List Span) (p n : ℕ) → in_one (xs ++ ys) p n ≡ (in_one xs p n || in_one ys p n)
in_both [] ys p n = refl
in_both (s ∷ xs) ys p n = ap (λ (t : Bool). within s p n || t) (in_both xs ys p n) ∙ sym (or_assoc (within s p n) (in_one xs p n) (in_one ys p n))

-- the ranges of the essence from a place on
abbrev ranges : ℕ → List Chunk → List Span
ranges at cs = flat_map essence_at (steps file at cs)

none_before : (at : ℕ) (cs : List Chunk) (p : ℕ) → p < at → in_one (ranges at cs) p 1 ≡ false
none_before at [] p lt = refl
none_before at (c ∷ cs) p lt =
    in_both (essence_at (chunk_at file at c)) (ranges (at + length (spell c)) cs) p 1
    ∙ or_from (in_one (essence_at (chunk_at file at c)) p 1) (in_one (ranges (at + length (spell c)) cs) p 1) (one (is_mdat c)) (none_before (at + length (spell c)) cs p (omega arith))
  where
    one : (t : Bool) → in_one (cond t (record { at = at + head_length c; len = length c.body } ∷ []) []) p 1 ≡ false
    one true = or_from _ false (and_left (leb (at + head_length c) p) _ (lt-leb (at + head_length c) p (omega arith))) refl
    one false = refl

pub spelled : (c : Chunk) → c.pad ≡ [] → length (spell c) ≡ head_length c + length c.body
spelled c e = omega (arith, length-append (header_bytes c.form c.id (length c.body)) (c.body ++ c.pad), length-append c.body c.pad, ap length e)

-- counted from a place, an atom holds what its range holds
pub held_same : (at : ℕ) (cs : List Chunk) (k p : ℕ) → AllByRecursion (λ c. c.pad ≡ []) cs → is_none (held k p cs) ≡ not (in_one (ranges at cs) (at + p) 1)
held_same at [] k p pads = refl
held_same at (c ∷ cs) k p pads = go (ltb p (length (spell c))) refl (held_same (at + length (spell c)) cs (next_number c k) (p - length (spell c)) pads.1)
  where
    next : ℕ
    next = at + length (spell c)

    one : Span
    one = record { at = at + head_length c; len = length c.body }

    size : length (spell c) ≡ head_length c + length c.body
    size = spelled c pads.0

    both : in_one (ranges at (c ∷ cs)) (at + p) 1 ≡ (in_one (essence_at (chunk_at file at c)) (at + p) 1 || in_one (ranges next cs) (at + p) 1)
    both = in_both (essence_at (chunk_at file at c)) (ranges next cs) (at + p) 1

    or_none : (t : Bool) → (t || false) ≡ t
    or_none true = refl
    or_none false = refl

    not_both : (t : Bool) (o : Option (ℕ × List ℕ)) → o ≡ cond t (Some (k, drop (p - head_length c) c.body)) None → is_none o ≡ not t
    not_both true o e = ap is_none e
    not_both false o e = ap is_none e

    same_place : leb (at + head_length c) (at + p) ≡ leb (head_length c) p
    same_place = by (leb (head_length c) p) refl
      where
        by : (t : Bool) → leb (head_length c) p ≡ t → leb (at + head_length c) (at + p) ≡ t
        by true e = le-leb _ _ (omega (arith, leb-true _ _ e))
        by false e = lt-leb _ _ (omega (arith, leb-false _ _ e))

    here : p < length (spell c) → (t : Bool) → in_one (cond t (one ∷ []) []) (at + p) 1 ≡ (t && leb (head_length c) p)
    here lt true =
        let fits : leb (at + p + 1) (one.at + one.len) ≡ true = le-leb _ _ (omega (arith, lt, size)) in
        or_none (within one (at + p) 1) ∙ ap (λ (t : Bool). leb one.at (at + p) && t) fits ∙ and_yes (leb one.at (at + p)) ∙ same_place
      where
        and_yes : (t : Bool) → (t && true) ≡ t
        and_yes true = refl
        and_yes false = refl
    here lt false = refl

    behind : length (spell c) ≤ p → (t : Bool) → in_one (cond t (one ∷ []) []) (at + p) 1 ≡ false
    behind le true = or_from _ false (and_right (leb one.at (at + p)) _ (lt-leb (at + p + 1) (one.at + one.len) (omega (arith, le, size)))) refl
    behind le false = refl

    go : (t : Bool) → ltb p (length (spell c)) ≡ t → is_none (held (next_number c k) (p - length (spell c)) cs) ≡ not (in_one (ranges next cs) (next + (p - length (spell c))) 1)
        → is_none (cond t (held_here k p c) (held (next_number c k) (p - length (spell c)) cs)) ≡ not (in_one (ranges at (c ∷ cs)) (at + p) 1)
    go true e again =
        let lt = ltb-true p (length (spell c)) e in
        let rest = none_before next cs (at + p) (omega (arith, lt)) in
        let all : in_one (ranges at (c ∷ cs)) (at + p) 1 ≡ (is_mdat c && leb (head_length c) p) =
        both ∙ ap (λ (t : Bool). in_one (essence_at (chunk_at file at c)) (at + p) 1 || t) rest ∙ or_none _ ∙ here lt (is_mdat c)
        in
        not_both (is_mdat c && leb (head_length c) p) (held_here k p c) refl ∙ ap not (sym all)
    go false e again =
        let le = ltb-false p (length (spell c)) e in
        let moved : next + (p - length (spell c)) ≡ at + p = omega (arith, le) in
        let all : in_one (ranges at (c ∷ cs)) (at + p) 1 ≡ in_one (ranges next cs) (at + p) 1 = both ∙ ap (λ (t : Bool). t || in_one (ranges next cs) (at + p) 1) (behind le (is_mdat c)) in
        again ∙ ap (λ (i : ℕ). not (in_one (ranges next cs) i 1)) moved ∙ ap not (sym all)

-- ---- the tests of chunks

-- each track is told by the places of its chunks
abbrev pub Tell : List ℕ → List Chunk → List Track → Type 0
Tell b [] [] = Unit {0}
Tell b (t ∷ ts) (u ∷ us) = (places (tables t) ≡ chunks_of b u) × Tell b ts us
Tell b [] (u ∷ us) = ⊥
Tell b (t ∷ ts) [] = ⊥

module _ (atoms : List Chunk) (mdats : List Span) (same : (p : ℕ) → is_none (held 0 p atoms) ≡ not (in_one mdats p 1)) where
  first_place : (n k : ℕ) (ps : List ℕ) (more : List Test) → first (place_tests atoms n k ps ++ more) ≡ astray_as n (first_astray mdats k ps) (first more)
  first_place n k [] more = refl
  first_place n k (p ∷ ps) more = ap (λ (t : Bool). cond t (Some (ChunkAstray n k)) (first (place_tests atoms n (suc k) ps ++ more))) (same p) ∙ go (in_one mdats p 1) (first_place n (suc k) ps more)
    where
      go : (t : Bool) → first (place_tests atoms n (suc k) ps ++ more) ≡ astray_as n (first_astray mdats (suc k) ps) (first more)
          → cond (not t) (Some (ChunkAstray n k)) (first (place_tests atoms n (suc k) ps ++ more)) ≡ astray_as n (cond t (first_astray mdats (suc k) ps) (Some k)) (first more)
      go true again = again
      go false again = refl

  pub chunks_same : (b : List ℕ) (n : ℕ) (ts : List Chunk) (us : List Track) → Tell b ts us → first (chunk_tests atoms n ts) ≡ first_chunk b mdats n us
  chunks_same b n [] [] h = refl
  chunks_same b n (t ∷ ts) (u ∷ us) h =
      first_place n 1 (places (tables t)) (chunk_tests atoms (suc n) ts)
      ∙ ap (λ (o : Option Why). astray_as n (first_astray mdats 1 (places (tables t))) o) (chunks_same b (suc n) ts us h.1)
      ∙ ap (λ (ps : List ℕ). astray_as n (first_astray mdats 1 ps) (first_chunk b mdats (suc n) us)) h.0
  chunks_same b n [] (u ∷ us) h = absurd h
  chunks_same b n (t ∷ ts) [] h = absurd h

-- ---- the tracks, one after the other

module _ (b : List ℕ) (mdats : List Span) where
  no_rows : (t : Track) → t.chunks.len ≡ 0 → first_astray mdats 1 (chunks_of b t) ≡ None
  no_rows t e = ap (λ (n : ℕ). first_astray mdats 1 (places_of t.wide (slice b t.chunks.at n))) e

  -- what is found in a table that has all its rows, or in none
  pub found_is : (t : Track) (found : Option ℕ) → HasPlaces b t → (HasRows t.wide (slice b t.chunks.at t.chunks.len) → found ≡ first_astray mdats 1 (chunks_of b t)) → (t.chunks.len < 8 → IsNone found)
      → found ≡ first_astray mdats 1 (chunks_of b t)
  found_is t found (inr rows) told none = told rows
  found_is t found (inl e) told none = is_none_at found (none (omega arith)) ∙ sym (no_rows t e)
    where
      is_none_at : (o : Option ℕ) → IsNone o → o ≡ None
      is_none_at None h = refl
      is_none_at (Some x) h = absurd cc

  pub chunk_next : (n k : ℕ) (ts : List Track) (t : Track) → k < length ts → t ≡ get_or ts k t → None ≡ first_astray mdats 1 (chunks_of b t) → first_chunk b mdats n (drop k ts) ≡ first_chunk b mdats (suc n) (drop (k + 1) ts)
  chunk_next n k ts t lt is none =
      at_drop_more (λ (us : List Track). first_chunk b mdats n us) ts k t lt ∙ ap (λ (u : Track). first_chunk b mdats n (u ∷ drop (k + 1) ts)) (sym is)
      ∙ ap (λ (o : Option ℕ). astray_as n o (first_chunk b mdats (suc n) (drop (k + 1) ts))) (sym none)

  pub chunk_here : (n k chunk : ℕ) (ts : List Track) (t : Track) → k < length ts → t ≡ get_or ts k t → Some chunk ≡ first_astray mdats 1 (chunks_of b t) → first_chunk b mdats n (drop k ts) ≡ Some (ChunkAstray n chunk)
  chunk_here n k chunk ts t lt is some =
      at_drop_more (λ (us : List Track). first_chunk b mdats n us) ts k t lt ∙ ap (λ (u : Track). first_chunk b mdats n (u ∷ drop (k + 1) ts)) (sym is)
      ∙ ap (λ (o : Option ℕ). astray_as n o (first_chunk b mdats (suc n) (drop (k + 1) ts))) (sym some)

  pub chunks_end : (n k : ℕ) (ts : List Track) → length ts ≤ k → first_chunk b mdats n (drop k ts) ≡ None
  chunks_end n k ts le = at_drop_all (λ (us : List Track). first_chunk b mdats n us) ts k le

pub places_at_index : (b : List ℕ) (ts : List Track) (k : ℕ) (t : Track) → k < length ts → t ≡ get_or ts k t → AllByRecursion (HasPlaces b) ts → HasPlaces b t
places_at_index b [] k t lt is h = absurd (omega arith)
places_at_index b (u ∷ ts) zero t lt is h = subst (HasPlaces b) (sym is) h.0
places_at_index b (u ∷ ts) (suc k) t lt is h = places_at_index b ts k t (omega arith) is h.1

pub none_found : (b : List ℕ) (mdats : List Span) (t : Track) (found : Option ℕ) → t.chunks.len ≡ 0 → IsNone found → found ≡ first_astray mdats 1 (chunks_of b t)
none_found b mdats t found e none = found_is b mdats t found (inl e) (λ rows. absurd (no_room rows)) (λ lt. none)
  where
    no_room : HasRows t.wide (slice b t.chunks.at t.chunks.len) → ⊥
    no_room rows = let short : HasRows t.wide (slice b t.chunks.at 0) = subst (λ (n : ℕ). HasRows t.wide (slice b t.chunks.at n)) e rows in omega (arith, short)

pub track_ends : (end : ℕ) (ts : List Track) (k : ℕ) (t : Track) → k < length ts → t ≡ get_or ts k t → AllByRecursion (TrackEndsBy end) ts → TrackEndsBy end t
track_ends end [] k t lt is h = absurd (omega arith)
track_ends end (u ∷ ts) zero t lt is h = subst (TrackEndsBy end) (sym is) h.0
track_ends end (u ∷ ts) (suc k) t lt is h = track_ends end ts k t (omega arith) is h.1

pub if_ok : {A E : Type 0} {P Q : A → Type 0} (r : Result A E) → ((a : A) → P a → Q a) → IfOk r P → IfOk r Q
if_ok (Ok a) f p = f a p
if_ok (Err e) f p = tt

-- what a place behind the last track would hold
abbrev pub no_track : Track
no_track = record { chunks = record { at = 0; len = 0 }; wide = false; stsc = None; stsz = None }

pub same_at : (ts : List Track) (k : ℕ) (d e : Track) → k < length ts → get_or ts k d ≡ get_or ts k e
same_at [] k d e lt = absurd (omega arith)
same_at (t ∷ ts) zero d e lt = refl
same_at (t ∷ ts) (suc k) d e lt = same_at ts k d e (omega arith)

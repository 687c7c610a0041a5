-- The new file is supported: its tables are sound where the old ones are.
use Rattle.std.proofs.Common.{◌≡◌, ℕ, ◌+◌, ◌-◌, ◌*◌, ◌%◌, ◌^◌, ◌<◌, ◌≤◌, Bool, true, false, cond, eqb, ltb, leb, List, [], ◌∷◌, length, map, Option, Some, None, refl, sym, ap, subst, ◌∙◌, arith, inl, inr}
use Rattle.std.specs.Prelude.{◌⊎◌, ◌&&◌, ◌||◌, not}
use Rattle.std.specs.Str.{bytes_eq}
use Rattle.std.specs.Int.{w32, from_le_bytes}
use Rattle.std.specs.List.{flat_map, AllByRecursion}
use Rattle.std.proofs.lemmas.Bool.{and_parts, ltb-false, leb-true, le-leb, le-ltb, lt-ltb, eqb-false}
use Rattle.std.proofs.lemmas.List.{length-map}
use Rattle.container_model.specs.Stood.{Stood}
use Rattle.container_model.specs.Written.{slice, Write, written}
use Rattle.container_model.proofs.Codec.{IsBytes}
use Rattle.container_model.proofs.Written.{length-written, slice_clear, misses_in}
use Rattle.container_model.proofs.Stay.{Orders, Rigid, stays_part, rigid_part, lt_moves, end_moves}
use Rattle.container_model.proofs.Stood.{carried_to}
use Rattle.part_tree.specs.declared.names.Span.{Span}
use Rattle.avi_model.specs.Avi.{Avi, avi_of, spell_avi, body_span, essence}
use Rattle.container_model.specs.Tables.{Table, named, put32, size_at}
use Rattle.opendml_index.specs.Index.{How, move, is_super, width, used, entries, super_places, super_body, index_base, entry_offset, entry_length, entry_second, has_second, entry_row, entry_by, second_by, first_counted, standard_with, standard_by, index_by, index_body}
use Rattle.avi_model.specs.Index.{writes, streams, indexes, misses}
use Rattle.part_tree.specs.Ranges.{within, in_one}
use Rattle.opendml_index.specs.Kinds.{kind, is_index_kind, is_standard_kind, SoundIndex, second_lies}
use Rattle.avi_model.specs.Support.{movi_spans, SoundPlace, put_by_place, by_place, Apart, SoundEntry, SoundEntries, Supported}
use Rattle.avi_model.proofs.Read.{avi_again}
use Rattle.avi_model.proofs.Numbers.{Whole, slice_put32, le32_put, super_front, super_entries, standard_front, standard_entries, standard_base, index_length, index_is}
use Rattle.avi_model.proofs.Pieces.{moved_index, TablesMove, Rests, body_ok, misses_moves, SuperFits, CountedFits, EntryFits, StandardFits, IndexFits_by}
use Rattle.avi_model.proofs.Follow.{NamedFine, NamesFine_by, named_moves, places_move}
use Rattle.avi_model.proofs.Among.{Among, all_among, among_all, map_among}
use Rattle.avi_model.proofs.Sound.{holder_of, index_sound, named_sound}
use Rattle.avi_model.proofs.Fit.{FitsBy}
use Rattle.avi_model.proofs.Moves.{ord, place_moves, index_fits}
use Rattle.avi_model.proofs.Laid.{IsLaid}
use Rattle.avi_model.proofs.Blanked.{tables}
use Rattle.avi_model.proofs.LaidForms.{essence_moves}

-- ---- one index chunk

kind_moves : (how : How) (body : List ℕ) → Whole body → kind (index_body how body) ≡ kind body
kind_moves how body w = go (is_super body)
  where
    one : (x : Option ℕ) → kind (standard_by how body x) ≡ kind body
    one None = refl
    one (Some x) = standard_front (how.base (index_base body) (index_base body + x)) (λ y. how.offset (how.base (index_base body) (index_base body + x)) (index_base body + y)) body w 0 4 (omega arith) (inr (omega arith))

    go : (t : Bool) → kind (index_by how body t) ≡ kind body
    go true = super_front how body w.header_there 0 4 (omega arith)
    go false = one (first_counted (entries body))

numbers_move : (how : How) (body : List ℕ) → Whole body → (width (index_body how body) ≡ width body) × (used (index_body how body) ≡ used body)
numbers_move how body w = (wide (front (is_super body) 0 2 (omega arith) (inr (omega arith))), ap (from_le_bytes w32) (front (is_super body) 4 4 (omega arith) (inr (omega arith))))
  where
    wide : slice (index_body how body) 0 2 ≡ slice body 0 2 → width (index_body how body) ≡ width body
    wide e = ap (λ (x : List ℕ). 4 * from_le_bytes Rattle.std.specs.Int.w16 x) e

    one : (x : Option ℕ) (j n : ℕ) → j + n ≤ 24 → (20 ≤ j) ⊎ (j + n ≤ 12) → slice (standard_by how body x) j n ≡ slice body j n
    one None j n l m = refl
    one (Some x) j n l m = standard_front (how.base (index_base body) (index_base body + x)) (λ y. how.offset (how.base (index_base body) (index_base body + x)) (index_base body + y)) body w j n l m

    front : (t : Bool) (j n : ℕ) → j + n ≤ 24 → (20 ≤ j) ⊎ (j + n ≤ 12) → slice (index_by how body t) j n ≡ slice body j n
    front true j n l m = super_front how body w.header_there j n l
    front false j n l m = one (first_counted (entries body)) j n l m

-- an index chunk with other numbers is as sound as it was
sound_moves : (how : How) (body : List ℕ) → Whole body → (k : List ℕ → Bool) → ((x y : List ℕ) → kind x ≡ kind y → k x ≡ k y) → SoundIndex k body → SoundIndex k (index_body how body)
sound_moves how body w k same s =
    let len = index_length how body w in
    let num = numbers_move how body w in
    record {
      header_is_there = ap (λ (q : ℕ). leb 24 q) len ∙ s.header_is_there;
      kind_is = same (index_body how body) body (kind_moves how body w) ∙ s.kind_is;
      entries_are_there = ap (λ (q : ℕ). leb (24 + q * used (index_body how body)) (length (index_body how body))) num.0 ∙ ap (λ (q : ℕ). leb (24 + width body * q) (length (index_body how body))) num.1 ∙ ap (λ (q : ℕ). leb (24 + width body * used body) q) len ∙ s.entries_are_there;
    }

index_kinds : (x y : List ℕ) → kind x ≡ kind y → is_index_kind x ≡ is_index_kind y
index_kinds x y e = ap (λ (k : List ℕ). (bytes_eq k (4 ∷ 0 ∷ 0 ∷ 0 ∷ []) || bytes_eq k (4 ∷ 0 ∷ 1 ∷ 0 ∷ [])) || (bytes_eq k (2 ∷ 0 ∷ 0 ∷ 1 ∷ []) || bytes_eq k (3 ∷ 0 ∷ 1 ∷ 1 ∷ []))) e

standard_kinds : (x y : List ℕ) → kind x ≡ kind y → is_standard_kind x ≡ is_standard_kind y
standard_kinds x y e = ap (λ (k : List ℕ). bytes_eq k (2 ∷ 0 ∷ 0 ∷ 1 ∷ []) || bytes_eq k (3 ∷ 0 ∷ 1 ∷ 1 ∷ [])) e

pub all_mapped : {X Y : Type 0} (P : Y → Type 0) (g : X → Y) (xs : List X) → ((x : X) → Among x xs → P (g x)) → AllByRecursion P (map g xs)
all_mapped P g [] h = tt
all_mapped P g (x ∷ xs) h = (h x (inl refl), all_mapped P g xs (λ y i. h y (inr i)))

module _ (o : List ℕ) (bytes : IsBytes o) (s : Supported o) (f : ℕ → ℕ) (Free : ℕ → Type 0) (after : Avi) (facts : IsLaid o f Free after) (fit : FitsBy after f o (spell_avi after)) where
  abbrev a : Avi
  a = avi_of o

  abbrev ws : List Write
  ws = writes (move f) o

  abbrev n : List ℕ
  n = spell_avi after

  abbrev order : Orders f Free
  order = ord o bytes s f Free after facts

  abbrev moved : Table → Table
  moved t = moved_index o (spell_avi after) f Free (ord o bytes s f Free after facts) t

  moves : TablesMove o (spell_avi after) f Free (ord o bytes s f Free after facts)
  moves = tables o bytes s f Free after facts fit

  reads : avi_of (spell_avi after) ≡ after
  reads = avi_again after facts.readable

  rests : AllByRecursion (Rests o n f Free order) (indexes o)
  rests = moves.indexes_rest

  -- ---- the streams' indexes

  streams_move : streams n ≡ map moved (streams o)
  streams_move = Rattle.avi_model.proofs.Law.streams_are o f Free after facts (Rattle.avi_model.proofs.Moves.table_facts o bytes s f Free after facts fit)

  stream_in : (t : Table) → Among t (streams o) → Among t (indexes o)
  stream_in t i = Rattle.avi_model.proofs.Among.among_front (streams o) (flat_map (Rattle.avi_model.specs.Index.named_by o) (streams o)) t i

  pub new_streams_sound : AllByRecursion (λ t. SoundIndex is_index_kind t.body) (streams n)
  new_streams_sound =
      subst (AllByRecursion (λ t. SoundIndex is_index_kind t.body)) (sym streams_move)
      (all_mapped (λ t. SoundIndex is_index_kind t.body) moved (streams o) (λ t i. sound_moves (move f) t.body (index_sound o bytes s t (stream_in t i)).whole is_index_kind index_kinds (among_all (λ t. SoundIndex is_index_kind t.body) (streams o) s.streams_sound t i)))

  -- ---- ranges in the essence

  spans_move : movi_spans (avi_of n) ≡ map (λ (x : Span). record { at = f (x.at - 8) + 8; len = x.len }) (movi_spans a)
  spans_move = ap (λ (x : Avi). map body_span (essence x)) reads ∙ ap (map body_span) (essence_moves o bytes s f Free after facts) ∙ go (essence a)
    where
      one : (x : Stood) → body_span (carried_to f ws x) ≡ record { at = f ((x.at + 8) - 8) + 8; len = length x.chunk.body }
      one x =
          let back : x.at ≡ (x.at + 8) - 8 = omega arith in
          ap (λ (k : ℕ). record { at = f x.at + 8; len = k }) (length-written ws (x.at + Rattle.container_model.proofs.Written.head_length x.chunk) x.chunk.body) ∙ ap (λ (k : ℕ). record { at = f k + 8; len = length x.chunk.body }) back

      go : (xs : List Stood) → map body_span (map (carried_to f ws) xs) ≡ map (λ (x : Span). record { at = f (x.at - 8) + 8; len = x.len }) (map body_span xs)
      go [] = refl
      go (x ∷ xs) = rw (one x, go xs) refl

  one_of : (ss : List Span) (p len : ℕ) (x : Span) → Among x ss → within x p len ≡ true → in_one ss p len ≡ true
  one_of [] p len x i w = absurd i
  one_of (y ∷ ss) p len x (inl q) w = let k : within y p len ≡ true = subst (λ (z : Span). within z p len ≡ true) (sym q) w in rw k refl
  one_of (y ∷ ss) p len x (inr i) w = go (within y p len) (one_of ss p len x i w)
    where
      go : (t : Bool) → in_one ss p len ≡ true → (t || in_one ss p len) ≡ true
      go true h = refl
      go false h = h

  -- a range in a movi list is in that list where it moves
  pub in_moves : (p len : ℕ) → in_one (movi_spans a) p len ≡ true → 0 < len → in_one (movi_spans (avi_of n)) (f p) len ≡ true
  in_moves p len h some =
      let m = holder_of a p len h in
      let low = m.low in
      let high = m.high in
      let whole = Rattle.avi_model.proofs.Essence.essence_stays o bytes s f Free after facts m.movi m.movi_among in
      let back : m.movi.at + (p - m.movi.at) ≡ p = omega arith in
      let here : f p ≡ f m.movi.at + (p - m.movi.at) = ap f (sym back) ∙ (whole.rigid (p - m.movi.at) (omega arith)).1 in
      let first : (m.movi.at + 8) - 8 ≡ m.movi.at = omega arith in
      let to : f ((m.movi.at + 8) - 8) + 8 ≡ f m.movi.at + 8 = ap (λ (q : ℕ). f q + 8) first in
      let one : leb (f ((m.movi.at + 8) - 8) + 8) (f p) ≡ true = le-leb (f ((m.movi.at + 8) - 8) + 8) (f p) (omega (arith, here, to)) in
      let two : leb (f p + len) (f ((m.movi.at + 8) - 8) + 8 + length m.movi.chunk.body) ≡ true = le-leb (f p + len) (f ((m.movi.at + 8) - 8) + 8 + length m.movi.chunk.body) (omega (arith, here, to)) in
      subst (λ (ss : List Span). in_one ss (f p) len ≡ true) (sym spans_move)
      (one_of (map (λ (x : Span). record { at = f (x.at - 8) + 8; len = x.len }) (movi_spans a)) (f p) len (record { at = f ((m.movi.at + 8) - 8) + 8; len = length m.movi.chunk.body })
      (map_among (λ (x : Span). record { at = f (x.at - 8) + 8; len = x.len }) (movi_spans a) (body_span m.movi) (map_among body_span (essence a) m.movi m.movi_among)) (rw (one, two) refl))

  -- ---- named chunks

  place_sound : (t : Table) → Among t (streams o) → is_super t.body ≡ true → (p : ℕ) → Among p (super_places t.body) → SoundPlace n (f p)
  place_sound t i super p j =
      let q = named_sound o bytes s t i super p j in
      let m = place_moves o bytes s f Free after facts p q in
      let fine = named_fine (Rattle.avi_model.proofs.Moves.names_fine o bytes s f Free after facts fit t i).1 in
      let is : named n (f p) ≡ moved (named o p) = named_moves o n f Free order ws p fine in
      let four = stays_part (written ws 0 o) n f Free p (8 + size_at o p) 4 4 (omega arith) (omega arith) m.stays in
      let at4 : f (p + 4) ≡ f p + 4 = (m.stays.rigid 4 (omega arith)).1 in
      let size : size_at n (f p) ≡ size_at o p = ap (from_le_bytes w32) (ap (λ (q : ℕ). slice n q 4) (sym at4) ∙ four.same ∙ slice_clear ws o (p + 4) 4 (misses_in p 8 (p + 4) 4 ws (omega arith) (omega arith) fine.clear)) in
      record {
        lies = ap (λ (k : ℕ). in_one (movi_spans (avi_of n)) (f p) (8 + k)) size ∙ in_moves p (8 + size_at o p) q.lies (omega arith);
        sound = subst (λ (u : Table). SoundIndex is_standard_kind u.body) (sym is) (sound_moves (move f) (named o p).body m.whole is_standard_kind standard_kinds q.sound);
      }
    where
      named_fine : NamesFine_by o n f Free order ws t (is_super t.body) → NamedFine o n f Free order ws p
      named_fine h = let k : NamesFine_by o n f Free order ws t true = subst (λ (b : Bool). NamesFine_by o n f Free order ws t b) super h in among_all (NamedFine o n f Free order ws) (super_places t.body) k.1 p j

  pub new_places_sound : AllByRecursion (λ t. is_super t.body ≡ true → AllByRecursion (SoundPlace n) (super_places t.body)) (streams n)
  new_places_sound = subst (AllByRecursion (λ t. is_super t.body ≡ true → AllByRecursion (SoundPlace n) (super_places t.body))) (sym streams_move) (all_mapped (λ t. is_super t.body ≡ true → AllByRecursion (SoundPlace n) (super_places t.body)) moved (streams o) one)
    where
      one : (t : Table) → Among t (streams o) → is_super (index_body (move f) t.body) ≡ true → AllByRecursion (SoundPlace n) (super_places (index_body (move f) t.body))
      one t i super =
          let w = (index_sound o bytes s t (stream_in t i)).whole in
          let old : is_super t.body ≡ true = sym (index_is (move f) t.body w) ∙ super in
          let fits : AllByRecursion (SuperFits o n f Free order) (entries t.body) = Rattle.avi_model.proofs.Moves.super_fits o bytes s f Free after facts fit t i old in
          let bodies : index_body (move f) t.body ≡ super_body (move f) t.body = ap (index_by (move f) t.body) old in
          let places : super_places (index_body (move f) t.body) ≡ map f (super_places t.body) = ap super_places bodies ∙ ap (λ (rs : List (List ℕ)). flat_map Rattle.opendml_index.specs.Index.used_place rs) (super_entries (move f) t.body w) ∙ places_move o n f Free order ws (entries t.body) fits in
          subst (AllByRecursion (SoundPlace n)) (sym places) (all_mapped (SoundPlace n) f (super_places t.body) (λ p j. place_sound t i old p j))

  -- ---- index chunks stand apart

  pub new_few_indexes : length (indexes n) ≤ Rattle.avi_model.specs.Support.part_limit
  new_few_indexes = omega (arith, s.few_indexes, ap length moves.indexes_move, length-map (indexes o) moved)

  put_moves : (t : Table) (ts : List Table) → Free t.at → ((u : Table) → Among u ts → Free u.at) → put_by_place (moved t) (map moved ts) ≡ map moved (put_by_place t ts)
  put_moves t [] h g = refl
  put_moves t (u ∷ ts) h g = ap (λ (b : Bool). cond b (moved t ∷ (moved u ∷ map moved ts)) (moved u ∷ put_by_place (moved t) (map moved ts))) (lt_moves f Free order t.at u.at h (g u (inl refl))) ∙ go (ltb t.at u.at) (put_moves t ts h (λ v i. g v (inr i)))
    where
      go : (b : Bool) → put_by_place (moved t) (map moved ts) ≡ map moved (put_by_place t ts) → cond b (moved t ∷ (moved u ∷ map moved ts)) (moved u ∷ put_by_place (moved t) (map moved ts)) ≡ map moved (cond b (t ∷ (u ∷ ts)) (u ∷ put_by_place t ts))
      go true k = refl
      go false k = ap (λ (x : List Table). moved u ∷ x) k

  from_sorted : (t : Table) (ts : List Table) → Among t (by_place ts) → Among t ts
  from_sorted t [] i = i
  from_sorted t (u ∷ ts) i = side (from_put u (by_place ts) i) (λ j. from_sorted t ts j)
    where
      from_put : (v : Table) (vs : List Table) → Among t (put_by_place v vs) → (v ≡ t) ⊎ Among t vs
      from_put v [] (inl q) = inl q
      from_put v [] (inr i) = absurd i
      from_put v (w ∷ vs) i = go (ltb v.at w.at) i (λ j. from_put v vs j)
        where
          go : (b : Bool) → Among t (cond b (v ∷ (w ∷ vs)) (w ∷ put_by_place v vs)) → (Among t (put_by_place v vs) → (v ≡ t) ⊎ Among t vs) → (v ≡ t) ⊎ Among t (w ∷ vs)
          go true (inl q) again = inl q
          go true (inr i) again = inr i
          go false (inl q) again = inr (inl q)
          go false (inr i) again = more (again i)
            where
              more : (v ≡ t) ⊎ Among t vs → (v ≡ t) ⊎ Among t (w ∷ vs)
              more (inl q) = inl q
              more (inr i) = inr (inr i)

      side : (u ≡ t) ⊎ Among t (by_place ts) → (Among t (by_place ts) → Among t ts) → Among t (u ∷ ts)
      side (inl q) again = inl q
      side (inr i) again = inr (again i)

  sorted_moves : (ts : List Table) → ((u : Table) → Among u ts → Free u.at) → by_place (map moved ts) ≡ map moved (by_place ts)
  sorted_moves [] g = refl
  sorted_moves (t ∷ ts) g = ap (put_by_place (moved t)) (sorted_moves ts (λ v i. g v (inr i))) ∙ put_moves t (by_place ts) (g t (inl refl)) (λ v i. g v (inr (from_sorted v ts i)))

  pub rest_of : (t : Table) → Among t (indexes o) → Rests o n f Free order t
  rest_of t i = among_all (Rests o n f Free order) (indexes o) rests t i

  place_free : (t : Table) → Among t (indexes o) → Free t.at
  place_free t i = (body_ok o n f Free order t (rest_of t i)).0

  -- an index chunk behind another stays behind it
  behind_moves : (t u : Table) → Among t (indexes o) → Among u (indexes o) → t.at + length t.body + 8 ≤ u.at → f t.at + length t.body + 8 ≤ f u.at
  behind_moves t u i j h =
      let r = rest_of t i in
      let q = rest_of u j in
      let some = r.whole.header_there in
      let long = q.whole.header_there in
      let own : Rigid f Free t.at (length t.body) = rw r.at_is (rigid_part f Free r.head (8 + length t.body) 8 (length t.body) (omega arith) (omega (arith, some)) r.rigid) in
      let z : q.head + 0 ≡ q.head = omega arith in
      let head_ok : Free q.head = rw z at (q.rigid 0 (omega arith)).0 in
      let at_u : f u.at ≡ f q.head + 8 = ap f q.at_is ∙ (q.rigid 8 (omega (arith, long))).1 in
      let same = end_moves f Free order t.at (length t.body) q.head (omega (arith, some)) own head_ok in
      let before : leb (t.at + length t.body) q.head ≡ true = le-leb (t.at + length t.body) q.head (omega (arith, h, q.at_is)) in
      omega (arith, leb-true (f t.at + length t.body) (f q.head) (same ∙ before), at_u)

  apart_from : (t : Table) → Among t (indexes o) → (ts : List Table) → ((u : Table) → Among u ts → Among u (indexes o)) → Apart (t.at + length t.body) ts → Apart (f t.at + length t.body) (map moved ts)
  apart_from t i [] g h = tt
  apart_from t i (u ∷ ts) g h =
      let b = behind_moves t u i (g u (inl refl)) (ltb-false u.at (t.at + length t.body + 8) h.0) in
      let len = index_length (move f) u.body (rest_of u (g u (inl refl))).whole in
      (le-ltb (f u.at) (f t.at + length t.body + 8) b, subst (λ (k : ℕ). Apart (f u.at + k) (map moved ts)) (sym len) (apart_from u (g u (inl refl)) ts (λ v j. g v (inr j)) h.1))

  apart_all : (ts : List Table) → ((u : Table) → Among u ts → Among u (indexes o)) → Apart 0 ts → Apart 0 (map moved ts)
  apart_all [] g h = tt
  apart_all (t ∷ ts) g h =
      let i = g t (inl refl) in
      let r = rest_of t i in
      let long = r.whole.header_there in
      let at : f t.at ≡ f r.head + 8 = ap f r.at_is ∙ (r.rigid 8 (omega (arith, long))).1 in
      let len = index_length (move f) t.body r.whole in
      (le-ltb (f t.at) (0 + 8) (omega (arith, at)), subst (λ (k : ℕ). Apart (f t.at + k) (map moved ts)) (sym len) (apart_from t i ts (λ v j. g v (inr j)) h.1))

  pub new_indexes_apart : Apart 0 (by_place (indexes n))
  new_indexes_apart =
      subst (λ (ts : List Table). Apart 0 (by_place ts)) (sym moves.indexes_move) (subst (Apart 0) (sym (sorted_moves (indexes o) place_free)) (apart_all (by_place (indexes o)) (λ u i. from_sorted u (indexes o) i) s.indexes_apart))

  -- ---- standard entries

  none_counted : (es : List (List ℕ)) → first_counted es ≡ None → (r : List ℕ) → Among r es → eqb (entry_length r) 0 ≡ true
  none_counted [] e r i = absurd i
  none_counted (q ∷ es) e r i = go (eqb (entry_length q) 0) refl e i (λ d j. none_counted es d r j)
    where
      go : (t : Bool) → eqb (entry_length q) 0 ≡ t → cond t (first_counted es) (Some (entry_offset q)) ≡ None → Among r (q ∷ es) → (first_counted es ≡ None → Among r es → eqb (entry_length r) 0 ≡ true) → eqb (entry_length r) 0 ≡ true
      go true d e (inl k) again = subst (λ (x : List ℕ). eqb (entry_length x) 0 ≡ true) k d
      go true d e (inr j) again = again e j
      go false d e i again = absurd cc

  module _ (old nb : ℕ) (r : List ℕ) (c : eqb (entry_length r) 0 ≡ false) (h : CountedFits o n f Free order old nb r) where
    abbrev v : ℕ → ℕ
    v y = f (old + y) - nb

    abbrev row : Bool → List ℕ
    row u = put32 0 (v (entry_offset r)) (second_by v r u)

    row_is : entry_row v r ≡ row (has_second r)
    row_is = ap (entry_by v r) c

    size_is : (u : Bool) → slice (row u) 4 4 ≡ slice r 4 4
    size_is true = slice_put32 0 (v (entry_offset r)) (put32 8 (v (entry_second r)) r) 4 4 (inl (omega arith)) ∙ slice_put32 8 (v (entry_second r)) r 4 4 (inr (omega arith))
    size_is false = slice_put32 0 (v (entry_offset r)) r 4 4 (inl (omega arith))

    second_length : (u : Bool) → length (second_by v r u) ≡ length r
    second_length true = Rattle.avi_model.proofs.Numbers.length-put32 8 (v (entry_second r)) r
    second_length false = refl

    pub new_length : entry_length (entry_row v r) ≡ entry_length r
    new_length = ap entry_length row_is ∙ ap (λ (y : List ℕ). from_le_bytes w32 y % 2 ^ 31) (size_is (has_second r))

    pub new_offset : entry_offset (entry_row v r) ≡ v (entry_offset r)
    new_offset = ap entry_offset row_is ∙ le32_put 0 (v (entry_offset r)) (second_by v r (has_second r)) (omega (arith, second_length (has_second r), h.long)) h.small

    pub new_place : nb + entry_offset (entry_row v r) ≡ f (old + entry_offset r)
    new_place = omega (arith, new_offset, h.low)

    second_lies_on : (u : Bool) → has_second r ≡ u → second_lies (entry_row v r) ≡ true
    second_lies_on false e =
        let len : length (row false) ≡ length r = Rattle.avi_model.proofs.Numbers.length-put32 0 (v (entry_offset r)) r in
        let sec : slice (row false) 8 4 ≡ slice r 8 4 = slice_put32 0 (v (entry_offset r)) r 8 4 (inl (omega arith)) in
        let none : has_second (row false) ≡ false = rw (len, sec) e in
        ap second_lies row_is ∙ ap (λ (u : Bool). second_lies (row u)) e ∙ ap (λ (b : Bool). not b || (leb (entry_offset (row false)) (entry_second (row false)) && ltb (entry_second (row false)) (entry_offset (row false) + entry_length (row false)))) none
    second_lies_on true e =
        let x = h.second e in
        let s2 = put32 8 (v (entry_second r)) r in
        let is : entry_row v r ≡ row true = row_is ∙ ap row e in
        let sec : entry_second (row true) ≡ v (entry_second r) = ap (from_le_bytes w32) (slice_put32 0 (v (entry_offset r)) s2 8 4 (inl (omega arith))) ∙ le32_put 8 (v (entry_second r)) r x.long x.small in
        let i = entry_second r - entry_offset r in
        let place : (old + entry_offset r) + i ≡ old + entry_second r = omega (arith, x.from) in
        let to : f (old + entry_second r) ≡ f (old + entry_offset r) + i = ap f (sym place) ∙ (h.stays.rigid i (omega (arith, x.from, x.to))).1 in
        let off : entry_offset (row true) ≡ v (entry_offset r) = ap entry_offset (sym is) ∙ new_offset in
        let len : entry_length (row true) ≡ entry_length r = ap entry_length (sym is) ∙ new_length in
        let one : leb (entry_offset (row true)) (entry_second (row true)) ≡ true = le-leb (entry_offset (row true)) (entry_second (row true)) (omega (arith, sec, off, to, h.low, x.low)) in
        let two : ltb (entry_second (row true)) (entry_offset (row true) + entry_length (row true)) ≡ true = lt-ltb (entry_second (row true)) (entry_offset (row true) + entry_length (row true)) (omega (arith, sec, off, len, to, h.low, x.low, x.from, x.to)) in
        ap second_lies is ∙ ap (λ (b : Bool). not (has_second (row true)) || (b && ltb (entry_second (row true)) (entry_offset (row true) + entry_length (row true)))) one ∙ ap (λ (b : Bool). not (has_second (row true)) || b) two ∙ or_true (not (has_second (row true)))
      where
        or_true : (b : Bool) → (b || true) ≡ true
        or_true true = refl
        or_true false = refl

    pub new_second : second_lies (entry_row v r) ≡ true
    new_second = second_lies_on (has_second r) refl

    pub new_entry : SoundEntry o old r → SoundEntry n nb (entry_row v r)
    new_entry q =
        let some : 0 < entry_length r = omega (arith, eqb-false (entry_length r) 0 c) in
        let l = and_parts (in_one (movi_spans a) (old + entry_offset r) (entry_length r)) (second_lies r) q.lies in
        let inside : in_one (movi_spans (avi_of n)) (nb + entry_offset (entry_row v r)) (entry_length (entry_row v r)) ≡ true
        = ap (λ (p : ℕ). in_one (movi_spans (avi_of n)) p (entry_length (entry_row v r))) new_place ∙ ap (in_one (movi_spans (avi_of n)) (f (old + entry_offset r))) new_length ∙ in_moves (old + entry_offset r) (entry_length r) l.0 some in
        let miss : misses (indexes n) (nb + entry_offset (entry_row v r)) (entry_length (entry_row v r)) ≡ true
        = ap (λ (p : ℕ). misses (indexes n) p (entry_length (entry_row v r))) new_place ∙ ap (misses (indexes n) (f (old + entry_offset r))) new_length ∙ ap (λ (ts : List Table). misses ts (f (old + entry_offset r)) (entry_length r)) moves.indexes_move
        ∙ misses_moves o n f Free order (indexes o) (old + entry_offset r) (entry_length r) rests some h.stays.rigid ∙ q.clear in
        record { lies = rw (inside, new_second) refl; clear = miss }

  pub new_entries_sound : AllByRecursion (λ t. is_super t.body ≡ false → SoundEntries n t) (indexes n)
  new_entries_sound = subst (AllByRecursion (λ t. is_super t.body ≡ false → SoundEntries n t)) (sym moves.indexes_move) (all_mapped (λ t. is_super t.body ≡ false → SoundEntries n t) moved (indexes o) one)
    where
      one : (t : Table) → Among t (indexes o) → is_super (index_body (move f) t.body) ≡ false → SoundEntries n (moved t)
      one t i super = go (first_counted (entries t.body)) refl (subst (IndexFits_by o n f Free order t.body) old (index_fits o bytes s f Free after facts fit t i))
        where
          w : Whole t.body
          w = (index_sound o bytes s t i).whole

          old : is_super t.body ≡ false
          old = sym (index_is (move f) t.body w) ∙ super

          sound : SoundEntries o t
          sound = among_all (λ t. is_super t.body ≡ false → SoundEntries o t) (indexes o) s.entries_sound t i old

          bodies : (x : Option ℕ) → first_counted (entries t.body) ≡ x → index_body (move f) t.body ≡ standard_by (move f) t.body x
          bodies x d = ap (index_by (move f) t.body) old ∙ ap (standard_by (move f) t.body) d

          counted_old : (u v : ℕ → ℕ) (r : List ℕ) → eqb (entry_length (entry_row v r)) 0 ≡ false → eqb (entry_length r) 0 ≡ false
          counted_old u v r k = side (eqb (entry_length r) 0) refl
            where
              side : (b : Bool) → eqb (entry_length r) 0 ≡ b → b ≡ false
              side true d = let same : entry_row v r ≡ r = ap (entry_by v r) d in let z : eqb (entry_length r) 0 ≡ false = subst (λ (y : List ℕ). eqb (entry_length y) 0 ≡ false) same k in absurd cc
              side false d = refl

          go : (x : Option ℕ) → first_counted (entries t.body) ≡ x → StandardFits o n f Free order t.body (first_counted (entries t.body)) → SoundEntries n (moved t)
          go None d h =
              subst (λ (body : List ℕ). AllByRecursion (λ r. eqb (entry_length r) 0 ≡ false → SoundEntry n (index_base body) r) (entries body)) (sym (bodies None d))
              (all_among (λ r. eqb (entry_length r) 0 ≡ false → SoundEntry n (index_base t.body) r) (entries t.body) (λ r j c. let none = none_counted (entries t.body) d r j in absurd cc))
          go (Some x) d h =
              let base_old = index_base t.body in
              let nb = (base_old + f (base_old + x)) - (base_old + x) in
              let v : ℕ → ℕ = λ y. f (base_old + y) - nb in
              let fits : StandardFits o n f Free order t.body (Some x) = subst (StandardFits o n f Free order t.body) d h in
              let all : AllByRecursion (λ r. eqb (entry_length r) 0 ≡ false → SoundEntry n nb r) (map (entry_row v) (entries t.body))
              = all_mapped (λ r. eqb (entry_length r) 0 ≡ false → SoundEntry n nb r) (entry_row v) (entries t.body)
              (λ r j c2.
              let c = counted_old v v r c2 in
              new_entry base_old nb r c (among_all (EntryFits o n f Free order base_old nb) (entries t.body) fits.1 r j c) (among_all (λ r. eqb (entry_length r) 0 ≡ false → SoundEntry o base_old r) (entries t.body) sound r j c)) in
              let same_base = standard_base nb v t.body w fits.0 in
              let same_entries = standard_entries nb v t.body w in
              subst (λ (body : List ℕ). AllByRecursion (λ r. eqb (entry_length r) 0 ≡ false → SoundEntry n (index_base body) r) (entries body)) (sym (bodies (Some x) d))
              (subst (λ (rs : List (List ℕ)). AllByRecursion (λ r. eqb (entry_length r) 0 ≡ false → SoundEntry n (index_base (standard_with nb v t.body)) r) rs) (sym same_entries)
              (subst (λ (q : ℕ). AllByRecursion (λ r. eqb (entry_length r) 0 ≡ false → SoundEntry n q r) (map (entry_row v) (entries t.body))) (sym same_base) all))

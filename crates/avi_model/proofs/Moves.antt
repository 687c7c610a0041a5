-- The tables of a supported file move with the essence: what the pieces law rests on.
use Rattle.std.proofs.Common.{◌≡◌, ℕ, ◌+◌, ◌-◌, ◌^◌, ◌<◌, ◌≤◌, Bool, true, false, cond, eqb, ltb, leb, List, [], ◌∷◌, ◌++◌, length, drop, Option, Some, None, refl, sym, ap, subst, ◌∙◌, arith, inl, inr}
use Rattle.std.specs.Prelude.{◌⊎◌, ◌&&◌, ◌||◌, not, codes}
use Rattle.std.specs.List.{flat_map, AllByRecursion}
use Rattle.std.proofs.lemmas.Bool.{and_parts, ltb-false, ltb-true, leb-true, leb-false, eqb-false}
use Rattle.std.proofs.lemmas.List.{length-append, length-take, length-drop}
use Rattle.container_model.specs.Chunk.{spell}
use Rattle.container_model.specs.Stood.{Stood, only}
use Rattle.container_model.specs.Written.{slice, Write, written}
use Rattle.container_model.proofs.Codec.{IsBytes}
use Rattle.container_model.proofs.Written.{length-written, slice_clear, length-slice}
use Rattle.container_model.proofs.Stay.{Orders, Stays, stays_part, rigid_part}
use Rattle.part_tree.specs.declared.names.Span.{Span}
use Rattle.avi_model.specs.Avi.{Avi, avi_of, inner, spell_avi, has_id, kids, top, others_at, strls, stream_indexes, old_indexes, is_movi, essence, body_span, first_span, first_movi}
use Rattle.container_model.specs.Tables.{Table, table_of, named, size_at}
use Rattle.opendml_index.specs.Index.{move, is_super, width, entries, super_place, super_places, index_base, entry_offset, entry_length, entry_second, has_second, first_counted}
use Rattle.avi_model.specs.Index.{writes, named_by, named_in, streams, indexes, base, olds, misses}
use Rattle.avi_index.specs.Rows.{Base, from_start, from_movi, old_rows, row_offset, row_length}
use Rattle.part_tree.specs.Ranges.{within, in_one}
use Rattle.opendml_index.specs.Kinds.{SoundIndex, is_index_kind, is_standard_kind, second_lies}
use Rattle.avi_model.specs.Support.{movis, movi_spans, SoundPlace, SoundEntry, SoundEntries, SoundRow, SoundRows, Supported}
use Rattle.avi_model.specs.Large.{Check, offset_checks, second_checks, entry_checks, standard_checks, index_checks, row_checks, old_checks, limit32}
use Rattle.avi_model.proofs.Numbers.{Whole}
use Rattle.avi_model.proofs.Walk.{IsRiffHead}
use Rattle.avi_model.proofs.Laid.{IsLaid}
use Rattle.avi_model.proofs.Law.{TableFacts, OldFine}
use Rattle.avi_model.proofs.Pieces.{Rests, SuperFits, SecondFits, EntryFits, StandardFits, IndexFits, RowFits, BytesStay, RowStays, ClearStays}
use Rattle.avi_model.proofs.Follow.{StreamFine, NamedFine, NamesFine, NamesFine_by}
use Rattle.avi_model.proofs.Among.{Among, all_among, among_all, among_only, among_first, among_append, among_front, among_back, among_flat, flat_among, among_map, map_among}
use Rattle.avi_model.proofs.Lies.{kids_heads, body_end, list_long}
use Rattle.avi_model.proofs.Levels.{Ended, top_heads, top_range}
use Rattle.avi_model.proofs.Sound.{ended, holder_of, stream_whole, named_sound, place_whole, named_from, named_place, index_sound, clear_of, clear_head, owns_index, owns_old}
use Rattle.avi_model.proofs.Essence.{essence_stays}
use Rattle.avi_model.proofs.Fit.{Passes, FitsBy}
use Rattle.opendml_index.proofs.Known.{super_kind, standard_kind, super_index, standard_index}
use Rattle.avi_model.proofs.Entries.{entry_long, place_named, first_is, row_length_is}

-- a range that stays ends inside the new file
pub stays_end : (o n : List ℕ) (f : ℕ → ℕ) (Ok : ℕ → Type 0) (p len : ℕ) → Stays o n f Ok p len → 0 < len → f p + len ≤ length n
stays_end o n f Ok p len s some =
    let whole : length (slice n (f p) len) ≡ len = ap length s.same ∙ length-slice o p len s.lies in
    omega (arith, whole, length-take len (drop (f p) n), length-drop (f p) n)

module _ (o : List ℕ) (bytes : IsBytes o) (s : Supported o) (f : ℕ → ℕ) (Free : ℕ → Type 0) (after : Avi) (facts : IsLaid o f Free after) where
  abbrev a : Avi
  a = avi_of o

  abbrev ws : List Write
  ws = writes (move f) o

  abbrev n : List ℕ
  n = spell_avi after

  g : Ended (avi_of o)
  g = ended o bytes s

  abbrev pub ord : Orders f Free
  ord = facts.order

  -- ---- a range in the essence

  abbrev pub MovesIn : ℕ → ℕ → Type 0
  MovesIn p len = Stays (written (writes (move f) o) 0 o) (spell_avi after) f Free p len

  pub moves_in : (m : Stood) → Among m (essence (avi_of o)) → (p len : ℕ) → m.at + 8 ≤ p → p + len ≤ m.at + 8 + length m.chunk.body → 0 < len → MovesIn p len
  moves_in m i p len low high some =
      let whole = essence_stays o bytes s f Free after facts m i in
      let back : m.at + (p - m.at) ≡ p = omega arith in
      subst (λ (q : ℕ). MovesIn q len) back (stays_part (written ws 0 o) n f Free m.at (8 + length m.chunk.body) (p - m.at) len (omega arith) (omega arith) whole)

  -- places in the essence aren't 0
  pub past_zero : (m : Stood) → Among m (essence (avi_of o)) → (p : ℕ) → m.at + 8 ≤ p → p < m.at + 8 + length m.chunk.body → 0 < f p
  past_zero m i p low high = go (among_append (only is_movi (top a)) (flat_map (λ x. only is_movi (kids x)) (others_at a)) m i)
    where
      go : Among m (only is_movi (top a)) ⊎ Among m (flat_map (λ x. only is_movi (kids x)) (others_at a)) → 0 < f p
      go (inl j) =
          let z = among_only is_movi (top a) m j in
          let r = top_range a g m z.0 in
          omega (arith, facts.grows m j p low high, r.0)
      go (inr j) =
          let y = among_flat (λ x. only is_movi (kids x)) (others_at a) m j in
          let z = among_only is_movi (kids y.from) m y.in_it in
          let w = Rattle.avi_model.proofs.Levels.further_whole a g y.from y.from_among in
          let k = Rattle.avi_model.proofs.Lies.kids_inside y.from w.bytes w.long m z.0 in
          let r = Rattle.avi_model.proofs.Levels.others_range a g y.from y.from_among in
          let q = facts.past p (omega (arith, k.0, r.0)) in
          omega (arith, q.1, k.0, r.0, length-append (inner after.children after.left) after.pad)

  -- ---- a place that is named

  pub record PlaceMoves (p : ℕ) : Type 0 where
    pub stays : MovesIn p (8 + size_at o p)
    pub some : 0 < f p
    pub long : size_at o p ≡ length (named o p).body
    pub whole : Whole (named o p).body

  pub place_moves : (p : ℕ) → SoundPlace o p → PlaceMoves p
  place_moves p q =
      let h = holder_of a p (8 + size_at o p) q.lies in
      let st = moves_in h.movi h.movi_among p (8 + size_at o p) h.low h.high (omega arith) in
      record {
        stays = st;
        some = past_zero h.movi h.movi_among p h.low (omega (arith, h.high));
        long = sym (length-slice o (p + 8) (size_at o p) (omega (arith, st.lies, length-written ws 0 o)));
        whole = place_whole o bytes s p q;
      }

  module _ (fit : FitsBy after f o (spell_avi after)) where
    file_length : length n < 2 ^ 63
    file_length = omega (arith, fit.file_short)

    -- ---- super indexes

    pub super_fits : (t : Table) → Among t (streams o) → is_super t.body ≡ true → AllByRecursion (SuperFits o n f Free ord) (entries t.body)
    super_fits t i e = all_among (SuperFits o n f Free ord) (entries t.body) one
      where
        sound : SoundIndex is_index_kind t.body
        sound = among_all (λ t. SoundIndex is_index_kind t.body) (streams o) s.streams_sound t i

        one : (r : List ℕ) → Among r (entries t.body) → SuperFits o n f Free ord r
        one r j used =
            let wide = (super_kind t.body (super_index t.body sound.kind_is e)).1 in
            let len = entry_long t.body (stream_whole o bytes s t i) r j in
            let p = super_place r in
            let q = place_moves p (named_sound o bytes s t i e p (place_named t.body r j used)) in
            let eight = q.stays.rigid 8 (omega (arith, q.long, q.whole.header_there)) in
            let end = stays_end (written ws 0 o) n f Free p (8 + size_at o p) q.stays (omega arith) in
            (omega (arith, wide, len), q.some, omega (arith, end, file_length), eight.0, eight.1)

    named_in_indexes : (t : Table) → Among t (streams o) → is_super t.body ≡ true → (p : ℕ) → Among p (super_places t.body) → Among (named o p) (indexes o)
    named_in_indexes t i e p j =
        among_back (streams o) (flat_map (named_by o) (streams o)) (named o p)
        (flat_among (named_by o) (streams o) t (named o p) i (subst (λ (b : Bool). Among (named o p) (named_in o t.body b)) (sym e) (map_among (named o) (super_places t.body) p j)))

    pub names_fine : (t : Table) → Among t (streams o) → NamesFine o n f Free ord ws t
    names_fine t i = (stream_whole o bytes s t i, go (is_super t.body) refl)
      where
        one : is_super t.body ≡ true → (p : ℕ) → Among p (super_places t.body) → NamedFine o n f Free ord ws p
        one e p j =
            let q = named_sound o bytes s t i e p j in
            let m = place_moves p q in
            let h = holder_of a p (8 + size_at o p) q.lies in
            let k = named_in_indexes t i e p j in
            record {
              whole = m.whole;
              stays = m.stays;
              clear = clear_head o bytes s (move f) h.movi h.movi_among (named o p) k p refl h.low (omega (arith, h.high));
              owns = owns_index o bytes s (move f) (named o p) k;
            }

        go : (b : Bool) → is_super t.body ≡ b → NamesFine_by o n f Free ord ws t b
        go true e = (super_fits t i e, all_among (NamedFine o n f Free ord ws) (super_places t.body) (one e))
        go false e = tt

    -- ---- streams and idx1

    stream_fine : (x : Stood) → Among x (stream_indexes a) → StreamFine o n f Free ord ws x
    stream_fine x i =
        let j = among_only (has_id (codes "indx")) (flat_map kids (strls a)) x i in
        let m = among_flat kids (strls a) x j.0 in
        let k = map_among table_of (stream_indexes a) x i in
        record {
          head = among_all IsRiffHead (kids m.from) (kids_heads m.from) x m.in_it;
          whole = stream_whole o bytes s (table_of x) k;
          owns = owns_index o bytes s (move f) (table_of x) (among_front (streams o) (flat_map (named_by o) (streams o)) (table_of x) k);
        }

    pub old_fine : (x : Stood) → Among x (old_indexes a) → OldFine o f Free after facts x
    old_fine x i =
        let j = among_only (has_id (codes "idx1")) (top a) x (among_first (only (has_id (codes "idx1")) (top a)) x i) in
        record { head = among_all IsRiffHead (top a) (top_heads a g) x j.0; owns = owns_old o bytes s (move f) x i }

    -- ---- the chunk of each index moves as one

    streams_move : AllByRecursion (Rattle.container_model.proofs.Copied.Moves_as_one f Free) (stream_indexes a)
    streams_move = facts.streams.1

    pub index_rests : (t : Table) → Among t (indexes o) → Rests o n f Free ord t
    index_rests t i = go (among_append (streams o) (flat_map (named_by o) (streams o)) t i)
      where
        go : Among t (streams o) ⊎ Among t (flat_map (named_by o) (streams o)) → Rests o n f Free ord t
        go (inl j) =
            let x = among_map table_of (stream_indexes a) t j in
            let c = x.from.chunk in
            let fine = stream_fine x.from x.from_among in
            let moves = among_all (Rattle.container_model.proofs.Copied.Moves_as_one f Free) (stream_indexes a) streams_move x.from x.from_among in
            let len = body_end x.from fine.head in
            let z : x.from.at + 0 ≡ x.from.at = omega arith in
            subst (Rests o n f Free ord) x.same (record {
              head = x.from.at;
              at_is = refl;
              rigid = rw z at (rigid_part f Free x.from.at (length (spell c)) 0 (8 + length c.body) (omega (arith, len)) (Rattle.container_model.proofs.Copied.spell_some c) moves);
              whole = fine.whole;
            })
        go (inr j) =
            let k = named_from o bytes s t j in
            let q = place_moves k.place (named_place o bytes s t k) in
            subst (Rests o n f Free ord) k.is_named (record { head = k.place; at_is = refl; rigid = rw q.long at q.stays.rigid; whole = q.whole })

    -- ---- standard entries

    -- a standard index
    pub index_kind : (t : Table) → Among t (indexes o) → is_super t.body ≡ false → is_standard_kind t.body ≡ true
    index_kind t i e = go (among_append (streams o) (flat_map (named_by o) (streams o)) t i)
      where
        go : Among t (streams o) ⊎ Among t (flat_map (named_by o) (streams o)) → is_standard_kind t.body ≡ true
        go (inl j) = standard_index t.body (among_all (λ t. SoundIndex is_index_kind t.body) (streams o) s.streams_sound t j).kind_is e
        go (inr j) = let k = named_from o bytes s t j in subst (λ (u : Table). is_standard_kind u.body ≡ true) k.is_named (named_place o bytes s t k).sound.kind_is

    wide_entry : (t : Table) → Among t (indexes o) → is_super t.body ≡ false → (r : List ℕ) → Among r (entries t.body) → (length r ≡ 8) ⊎ (length r ≡ 12)
    wide_entry t i e r j = go (standard_kind t.body (index_kind t i e)).1
      where
        len : length r ≡ width t.body
        len = entry_long t.body (index_sound o bytes s t i).whole r j

        go : (width t.body ≡ 8) ⊎ (width t.body ≡ 12) → (length r ≡ 8) ⊎ (length r ≡ 12)
        go (inl w) = inl (len ∙ w)
        go (inr w) = inr (len ∙ w)

    entry_sound : (t : Table) → Among t (indexes o) → is_super t.body ≡ false → (r : List ℕ) → Among r (entries t.body) → eqb (entry_length r) 0 ≡ false → SoundEntry o (index_base t.body) r
    entry_sound t i e r j c =
        among_all (λ r. eqb (entry_length r) 0 ≡ false → SoundEntry o (index_base t.body) r) (entries t.body) (among_all (λ t. is_super t.body ≡ false → SoundEntries o t) (indexes o) s.entries_sound t i e) r j c

    -- what a counted entry names is copied
    pub record EntryMoves (old : ℕ) (r : List ℕ) : Type 0 where
      pub stays : Stays o n f Free (old + entry_offset r) (entry_length r)
      pub some : 0 < entry_length r
      pub end : f (old + entry_offset r) + entry_length r ≤ length n
      pub second : second_lies r ≡ true

    pub entry_moves : (old : ℕ) (r : List ℕ) → eqb (entry_length r) 0 ≡ false → SoundEntry o old r → EntryMoves old r
    entry_moves old r c q =
        let some : 0 < entry_length r = omega (arith, eqb-false (entry_length r) 0 c) in
        let l = and_parts (in_one (movi_spans a) (old + entry_offset r) (entry_length r)) (second_lies r) q.lies in
        let h = holder_of a (old + entry_offset r) (entry_length r) l.0 in
        let m = moves_in h.movi h.movi_among (old + entry_offset r) (entry_length r) h.low h.high some in
        let clear = clear_of o bytes s (move f) h.movi h.movi_among (old + entry_offset r) (entry_length r) h.low h.high q.clear in
        record {
          stays = record { lies = omega (arith, m.lies, length-written ws 0 o); same = m.same ∙ slice_clear ws o (old + entry_offset r) (entry_length r) clear; rigid = m.rigid };
          some = some;
          end = stays_end (written ws 0 o) n f Free (old + entry_offset r) (entry_length r) m some;
          second = l.1;
        }

    -- the checks of an entry
    pub offset_fits : (base place : ℕ) → Passes (offset_checks base place) → (base ≤ place) × (place - base < 2 ^ 32)
    offset_fits base place h = let k = ltb-false limit32 (place - base) h.1.0 in (ltb-false place base h.0, omega (arith, k))

    pub second_fits : (base place : ℕ) → Passes (second_checks base place) → (base < place) × (place - base < 2 ^ 32)
    second_fits base place h = let k = ltb-false limit32 (place - base) h.1.0 in (leb-false place base h.0, omega (arith, k))

    passes_left : (x y : List Check) → Passes (x ++ y) → Passes x
    passes_left [] y h = tt
    passes_left (c ∷ x) y h = (h.0, passes_left x y h.1)

    passes_right : (x y : List Check) → Passes (x ++ y) → Passes y
    passes_right [] y h = h
    passes_right (c ∷ x) y h = passes_right x y h.1

    pub passes_flat : {X : Type 0} (h : X → List Check) (xs : List X) → Passes (flat_map h xs) → (x : X) → Among x xs → Passes (h x)
    passes_flat h [] p x i = absurd i
    passes_flat h (y ∷ xs) p x (inl e) = subst (λ (z : _). Passes (h z)) e (passes_left (h y) (flat_map h xs) p)
    passes_flat h (y ∷ xs) p x (inr i) = passes_flat h xs (passes_right (h y) (flat_map h xs) p) x i

    second_parts : (r : List ℕ) → second_lies r ≡ true → has_second r ≡ true → (entry_offset r ≤ entry_second r) × (entry_second r < entry_offset r + entry_length r)
    second_parts r e h =
        let p : (leb (entry_offset r) (entry_second r) && ltb (entry_second r) (entry_offset r + entry_length r)) ≡ true = subst (λ (b : Bool). (not b || (leb (entry_offset r) (entry_second r) && ltb (entry_second r) (entry_offset r + entry_length r))) ≡ true) h e in
        let q = and_parts (leb (entry_offset r) (entry_second r)) (ltb (entry_second r) (entry_offset r + entry_length r)) p in
        (leb-true (entry_offset r) (entry_second r) q.0, ltb-true (entry_second r) (entry_offset r + entry_length r) q.1)

    counted_fits : (t : Table) → Among t (indexes o) → is_super t.body ≡ false → (nb : ℕ) → (r : List ℕ) → Among r (entries t.body) → Passes (entry_checks f (index_base t.body) nb r) → EntryFits o n f Free ord (index_base t.body) nb r
    counted_fits t i e nb r j checks c =
        let old = index_base t.body in
        let m = entry_moves old r c (entry_sound t i e r j c) in
        let all : Passes (offset_checks nb (f (old + entry_offset r)) ++ cond (has_second r) (second_checks nb (f (old + entry_second r))) []) = subst (λ (b : Bool). Passes (cond b [] (offset_checks nb (f (old + entry_offset r)) ++ cond (has_second r) (second_checks nb (f (old + entry_second r))) []))) c checks in
        let one = offset_fits nb (f (old + entry_offset r)) (passes_left (offset_checks nb (f (old + entry_offset r))) (cond (has_second r) (second_checks nb (f (old + entry_second r))) []) all) in
        let more = passes_right (offset_checks nb (f (old + entry_offset r))) (cond (has_second r) (second_checks nb (f (old + entry_second r))) []) all in
        record { long = long (wide_entry t i e r j); low = one.0; small = one.1; stays = m.stays; second = λ h. two m.second h (subst (λ (b : Bool). Passes (cond b (second_checks nb (f (old + entry_second r))) [])) h more) }
      where
        long : (length r ≡ 8) ⊎ (length r ≡ 12) → 8 ≤ length r
        long (inl w) = omega arith
        long (inr w) = omega arith

        twelve : (length r ≡ 8) ⊎ (length r ≡ 12) → has_second r ≡ true → 12 ≤ length r
        twelve (inl w) h = let k = ltb-true 8 (length r) (and_parts (ltb 8 (length r)) (not (eqb (entry_second r) 0)) h).0 in absurd (omega arith)
        twelve (inr w) h = omega arith

        two : second_lies r ≡ true → has_second r ≡ true → Passes (second_checks nb (f (index_base t.body + entry_second r))) → SecondFits o n f Free ord (index_base t.body) nb r
        two l h p =
            let k = second_fits nb (f (index_base t.body + entry_second r)) p in
            let q = second_parts r l h in
            record { long = twelve (wide_entry t i e r j) h; from = q.0; to = q.1; low = k.0; small = k.1 }

    pub index_fits : (t : Table) → Among t (indexes o) → IndexFits o n f Free ord t
    index_fits t i = go (is_super t.body) refl (among_all (λ t. Passes (index_checks f t)) (indexes o) fit.entries_fit t i)
      where
        some : is_super t.body ≡ false → (x : Option ℕ) → first_counted (entries t.body) ≡ x → Passes (standard_checks f t.body x) → StandardFits o n f Free ord t.body x
        some e None d p = tt
        some e (Some x) d p =
            let k = first_is (entries t.body) x d in
            let m = entry_moves (index_base t.body) k.row k.is_counted (entry_sound t i e k.row k.row_among k.is_counted) in
            let end : f (index_base t.body + x) ≤ length n = omega (arith, m.end, ap (λ (y : ℕ). f (index_base t.body + y)) k.offset_is) in
            let nb = (index_base t.body + f (index_base t.body + x)) - (index_base t.body + x) in (
              omega (arith, end, file_length),
              all_among (EntryFits o n f Free ord (index_base t.body) nb) (entries t.body)
                  (λ r j. counted_fits t i e nb r j (passes_flat (entry_checks f (index_base t.body) nb) (entries t.body) p r j)),
            )

        supers : Among t (streams o) ⊎ Among t (flat_map (named_by o) (streams o)) → is_super t.body ≡ true → AllByRecursion (SuperFits o n f Free ord) (entries t.body)
        supers (inl j) e = super_fits t j e
        supers (inr j) e =
            let k = named_from o bytes s t j in
            let no : is_super t.body ≡ false = subst (λ (u : Table). is_super u.body ≡ false) k.is_named (standard_kind (named o k.place).body (named_place o bytes s t k).sound.kind_is).0 in
            absurd cc

        go : (b : Bool) → is_super t.body ≡ b → Passes (cond b [] (standard_checks f t.body (first_counted (entries t.body)))) → Rattle.avi_model.proofs.Pieces.IndexFits_by o n f Free ord t.body b
        go true e p = supers (among_append (streams o) (flat_map (named_by o) (streams o)) t i) e
        go false e p = some e (first_counted (entries t.body)) refl p

    -- ---- the first movi and idx1

    first_here : (xs ys : List Stood) → 0 < length xs → (m : Stood) × (more : List Stood) × (xs ≡ m ∷ more)
    first_here [] ys h = absurd (omega arith)
    first_here (x ∷ xs) ys h = (x, xs, refl)

    first_movi_is : (m : Stood) × (more : List Stood) × (only is_movi (top a) ≡ m ∷ more)
    first_movi_is = first_here (movis a) [] s.some_movi

    pub movi_holder : Stood
    movi_holder = first_movi_is.0

    pub first_span_is : first_movi (avi_of o) ≡ body_span movi_holder
    unfolding movi_holder
    first_span_is = ap (λ (k : List Stood). first_span (k ++ flat_map (λ x. only is_movi (kids x)) (others_at a))) first_movi_is.2

    movi_in : Among movi_holder (only is_movi (top a))
    unfolding movi_holder
    movi_in = subst (λ (k : List Stood). Among first_movi_is.0 k) (sym first_movi_is.2) (inl refl)

    pub movi_among : Among movi_holder (essence (avi_of o))
    movi_among = among_front (only is_movi (top a)) (flat_map (λ x. only is_movi (kids x)) (others_at a)) movi_holder movi_in

    movi_top : Among movi_holder (top a) × (is_movi movi_holder.chunk ≡ true)
    movi_top = among_only is_movi (top a) movi_holder movi_in

    movi_long : 4 ≤ length movi_holder.chunk.body
    movi_long = list_long (codes "movi") movi_holder refl movi_top.1

    movi_grows : (first_movi a).at ≤ f (first_movi a).at
    movi_grows = subst (λ (x : Span). x.at ≤ f x.at) (sym first_span_is) (facts.grows movi_holder movi_in (movi_holder.at + 8) (omega arith) (omega (arith, movi_long)))

    slice_none : (x : List ℕ) (q : ℕ) → slice x q 0 ≡ []
    slice_none x q = refl

    clear_stays : ClearStays o n f Free ord (indexes o) (first_movi a)
    clear_stays = subst (ClearStays o n f Free ord (indexes o)) (sym first_span_is) (λ q len low high miss. go (Rattle.std.proofs.lemmas.Bool.cases_lt 0 len) q low high miss)
      where
        go : {len : ℕ} → (0 < len) ⊎ (len ≤ 0) → (q : ℕ) → movi_holder.at + 8 ≤ q → q + len ≤ movi_holder.at + 8 + length movi_holder.chunk.body → misses (indexes o) q len ≡ true → slice n (f q) len ≡ slice o q len
        go {len} (inl some) q low high miss =
            (moves_in movi_holder movi_among q len low high some).same ∙ slice_clear ws o q len (clear_of o bytes s (move f) movi_holder movi_among q len low high miss)
        go {len} (inr none) q low high miss = let z : len ≡ 0 = omega arith in rw z refl

    -- ---- rows of idx1

    row_sound : Base → (t : Table) → Among t (olds o) → (b : Base) → base o ≡ b → SoundRows b (first_movi a) (indexes o) t
    row_sound d t i b e = subst (λ (b : Base). SoundRows b (first_movi a) (indexes o) t) e (among_all (SoundRows (base o) (first_movi a) (indexes o)) (olds o) s.rows_sound t i)

    -- an entry from the file's start
    pub record RowMoves (r : List ℕ) : Type 0 where
      pub whole : MovesIn (row_offset r) (8 + row_length r)
      pub bytes_stay : BytesStay o n f Free ord (indexes o) (row_offset r) (row_length r)

    pub row_moves : (r : List ℕ) → eqb (row_length r) 0 ≡ false → SoundRow (first_movi (avi_of o)) (indexes o) r → RowMoves r
    row_moves r c q =
        let some : 0 < row_length r = omega (arith, eqb-false (row_length r) 0 c) in
        let w : within (body_span movi_holder) (row_offset r) (8 + row_length r) ≡ true = subst (λ (x : Span). within x (row_offset r) (8 + row_length r) ≡ true) first_span_is q.lies in
        let p = and_parts (leb (movi_holder.at + 8) (row_offset r)) (leb (row_offset r + (8 + row_length r)) (movi_holder.at + 8 + length movi_holder.chunk.body)) w in
        let low = leb-true (movi_holder.at + 8) (row_offset r) p.0 in
        let high = leb-true (row_offset r + (8 + row_length r)) (movi_holder.at + 8 + length movi_holder.chunk.body) p.1 in
        record {
          whole = moves_in movi_holder movi_among (row_offset r) (8 + row_length r) low high (omega arith);
          bytes_stay = λ no.
              let miss : misses (indexes o) (row_offset r + 8) (row_length r) ≡ true = subst (λ (b : Bool). (b || misses (indexes o) (row_offset r + 8) (row_length r)) ≡ true) no q.clear in
              (moves_in movi_holder movi_among (row_offset r + 8) (row_length r) (omega (arith, low)) (omega (arith, high)) some).same
              ∙ slice_clear ws o (row_offset r + 8) (row_length r) (clear_of o bytes s (move f) movi_holder movi_among (row_offset r + 8) (row_length r) (omega (arith, low)) (omega (arith, high)) miss);
        }

    row_long : (t : Table) (r : List ℕ) → Among r (old_rows t.body) → length r ≡ 16
    row_long t r i = row_length_is 16 (Rattle.avi_index.specs.Rows.count16 t.body) t.body (Rattle.avi_model.proofs.Pieces.holds_sixteen (Rattle.avi_index.specs.Rows.count16 t.body) t.body (Rattle.std.proofs.Math.Nat.div-mul-le_self (length t.body) 16)) r i

    rows_fit : (t : Table) → Among t (olds o) → AllByRecursion (RowFits o n f Free ord (base o)) (old_rows t.body)
    rows_fit t i = go (base o) (among_all (SoundRows (base o) (first_movi a) (indexes o)) (olds o) s.rows_sound t i) (among_all (λ t. Passes (old_checks f (base o) t)) (olds o) fit.rows_fit t i)
      where
        go : (b : Base) → SoundRows b (first_movi a) (indexes o) t → Passes (old_checks f b t) → AllByRecursion (RowFits o n f Free ord b) (old_rows t.body)
        go from_movi h p = all_among (RowFits o n f Free ord from_movi) (old_rows t.body) (λ r j. tt)
        go from_start h p =
            all_among (RowFits o n f Free ord from_start) (old_rows t.body)
            (λ r j c.
            let q = row_moves r c (among_all (λ r. eqb (row_length r) 0 ≡ false → SoundRow (first_movi a) (indexes o) r) (old_rows t.body) h r j c) in
            let k = passes_flat (row_checks f from_start) (old_rows t.body) p r j in
            let one : Passes (Rattle.avi_model.specs.Large.at_most limit32 (f (row_offset r)) ∷ []) = subst (λ (b : Bool). Passes (cond b [] (Rattle.avi_model.specs.Large.at_most limit32 (f (row_offset r)) ∷ []))) c k in
            (omega (arith, row_long t r j), omega (arith, ltb-false limit32 (f (row_offset r)) one.0), q.whole.rigid))

    rows_stay : (t : Table) → Among t (olds o) → AllByRecursion (RowStays o n f Free ord (base o) (indexes o)) (old_rows t.body)
    rows_stay t i = go (base o) (among_all (SoundRows (base o) (first_movi a) (indexes o)) (olds o) s.rows_sound t i)
      where
        go : (b : Base) → SoundRows b (first_movi a) (indexes o) t → AllByRecursion (RowStays o n f Free ord b (indexes o)) (old_rows t.body)
        go from_movi h = all_among (RowStays o n f Free ord from_movi (indexes o)) (old_rows t.body) (λ r j. tt)
        go from_start h =
            all_among (RowStays o n f Free ord from_start (indexes o)) (old_rows t.body)
            (λ r j c. (row_moves r c (among_all (λ r. eqb (row_length r) 0 ≡ false → SoundRow (first_movi a) (indexes o) r) (old_rows t.body) h r j c)).bytes_stay)

    pub table_facts : TableFacts o f Free after facts
    unfolding movi_holder
    table_facts = record {
      streams_fine = all_among (StreamFine o n f Free ord ws) (stream_indexes a) stream_fine;
      names_fine = all_among (NamesFine o n f Free ord ws) (streams o) names_fine;
      olds_fine = all_among (OldFine o f Free after facts) (old_indexes a) old_fine;
      movi_first = first_movi_is.0;
      movi_more = first_movi_is.1;
      movi_is = first_movi_is.2;
      movi_head = among_all IsRiffHead (top a) (top_heads a g) movi_holder movi_top.0;
      movi_some = omega (arith, movi_long);
      movi_grows = movi_grows;
      clear_stays = clear_stays;
      indexes_rest = all_among (Rests o n f Free ord) (indexes o) index_rests;
      indexes_fit = all_among (IndexFits o n f Free ord) (indexes o) index_fits;
      rows_fit = all_among (λ t. AllByRecursion (RowFits o n f Free ord (base o)) (old_rows t.body)) (olds o) rows_fit;
      rows_stay = all_among (λ t. AllByRecursion (RowStays o n f Free ord (base o) (indexes o)) (old_rows t.body)) (olds o) rows_stay;
    }

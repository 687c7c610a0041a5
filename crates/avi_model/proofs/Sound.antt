-- The tables of a supported file: they are whole, they lie in the lists that are opened or in the essence, and none touches another.
use Rattle.std.proofs.Common.{◌≡◌, ℕ, zero, suc, ◌+◌, ◌*◌, ◌≤◌, Bool, true, false, cond, leb, ltb, List, [], ◌∷◌, ◌++◌, length, map, drop, refl, sym, ap, subst, ◌∙◌, arith, inl, inr}
use Rattle.std.specs.Prelude.{◌⊎◌, ◌||◌, codes}
use Rattle.std.specs.List.{flat_map, AllByRecursion}
use Rattle.std.proofs.Math.Nat.{suc-mul}
use Rattle.std.proofs.lemmas.Bool.{and_parts, leb-true, ltb-false}
use Rattle.std.proofs.lemmas.List.{length-take, length-drop}
use Rattle.container_model.specs.Chunk.{Chunk, spell, ends}
use Rattle.container_model.specs.Stood.{Stood, stood, only}
use Rattle.container_model.specs.Written.{Write}
use Rattle.container_model.proofs.Codec.{IsBytes}
use Rattle.container_model.proofs.Written.{Misses, In, Alone, Holds}
use Rattle.carrier_model.specs.Info.{is_type, list_run}
use Rattle.part_tree.specs.declared.names.Span.{Span}
use Rattle.avi_model.specs.Avi.{forms, Avi, avi_of, has_id, kids, top, others_at, hdrls, strls, stream_indexes, old_indexes, is_movi, essence, body_span, first_movi}
use Rattle.container_model.specs.Tables.{Table, table_of, named, size_at}
use Rattle.opendml_index.specs.Index.{How, is_super, width, used, super_places, index_body}
use Rattle.avi_model.specs.Index.{named_in, named_by, streams, indexes, olds, base, write_index, write_old, writes, misses}
use Rattle.avi_index.specs.Rows.{Base, old_body, count16}
use Rattle.part_tree.specs.Ranges.{within, in_one}
use Rattle.avi_model.specs.Support.{ListEnds, infos, movi_spans, SoundPlace, put_by_place, by_place, Apart, Supported}
use Rattle.opendml_index.specs.Kinds.{SoundIndex, is_index_kind, is_standard_kind}
use Rattle.avi_model.proofs.Read.{others_place}
use Rattle.avi_model.proofs.Forms.{file_read}
use Rattle.avi_model.proofs.Numbers.{Whole, index_length, old_keeps}
use Rattle.avi_model.proofs.Among.{Among, all_among, among_all, among_only, among_first, first_same, among_append, among_front, among_back, among_flat, AmongMany, among_map, AmongMap, map_among}
use Rattle.avi_model.proofs.Walk.{IsRiffHead}
use Rattle.avi_model.proofs.Lies.{InStream, InMovi, InFurther, InOld, Lies, in_stream, in_movi, in_further, in_old, body_end}
use Rattle.avi_model.proofs.Follow.{Owns}
use Rattle.avi_model.proofs.Levels.{Ended, top_heads, old_stream, top_movi, further_past}

-- ---- lists

pub all_left : {X : Type 0} (P : X → Type 0) (a b : List X) → AllByRecursion P (a ++ b) → AllByRecursion P a
all_left P a b h = all_among P a (λ x i. among_all P (a ++ b) h x (among_front a b x i))

pub all_right : {X : Type 0} (P : X → Type 0) (a b : List X) → AllByRecursion P (a ++ b) → AllByRecursion P b
all_right P a b h = all_among P b (λ x i. among_all P (a ++ b) h x (among_back a b x i))

-- a supported file's lists end
pub ended : (o : List ℕ) → IsBytes o → Supported o → Ended (avi_of o)
ended o bytes s =
    let f = file_read o bytes s in
    let a = avi_of o in
    let more = all_right ListEnds (hdrls a) (strls a ++ infos a) s.lists_end in
    record {
      readable = f.readable;
      bytes = rw f.spelled at bytes;
      hdrls_end = all_left ListEnds (hdrls a) (strls a ++ infos a) s.lists_end;
      strls_end = all_left ListEnds (strls a) (infos a) more;
      others_end = others (forms o).chunks (others_place a) s.forms_read;
    }
  where
    stand : (cs : List Chunk) (at : ℕ) → AllByRecursion (λ c. (list_run c).stop ≡ ends) cs → AllByRecursion ListEnds (stood at cs)
    stand [] at h = tt
    stand (c ∷ cs) at h = (h.0, stand cs (at + length (spell c)) h.1)

    others : (cs : List Chunk) (at : ℕ) → AllByRecursion (λ c. (list_run c).stop ≡ ends) cs → AllByRecursion ListEnds (stood at (Rattle.avi_model.specs.Avi.but_first cs))
    others [] at h = tt
    others (c ∷ cs) at h = stand cs at h.1

-- ---- whole index chunks

holds_all : (k n : ℕ) (b : List ℕ) → n * k ≤ length b → Holds k n b
holds_all k zero b h = tt
holds_all k (suc n) b h = (omega (arith, suc-mul n k, h), holds_all k n (drop k b) (omega (arith, suc-mul n k, h, length-drop k b)))

pub sound_whole : (kind : List ℕ → Bool) (body : List ℕ) → SoundIndex kind body → Whole body
sound_whole kind body s =
    let header = leb-true 24 (length body) s.header_is_there in
    let there = leb-true (24 + width body * used body) (length body) s.entries_are_there in
    let turn : width body * used body ≡ used body * width body = Rattle.std.proofs.Math.Nat.mul_comm (width body) (used body) in
    record { header_there = header; rows_there = holds_all (width body) (used body) (drop 24 body) (omega (arith, there, turn, length-drop 24 body)) }

-- ---- where they lie

pub record OneSpan (ss : List Span) (p n : ℕ) : Type 0 where
  pub span : Span
  pub span_among : Among span ss
  pub in_span : within span p n ≡ true

pub one_span : (ss : List Span) (p n : ℕ) → in_one ss p n ≡ true → OneSpan ss p n
one_span [] p n e = absurd cc
one_span (s ∷ ss) p n e = go (within s p n) refl e (one_span ss p n)
  where
    go : (t : Bool) → within s p n ≡ t → (t || in_one ss p n) ≡ true → (in_one ss p n ≡ true → OneSpan ss p n) → OneSpan (s ∷ ss) p n
    go true w e again = record { span = s; span_among = inl refl; in_span = w }
    go false w e again = let z = again e in record { span = z.span; span_among = inr z.span_among; in_span = z.in_span }

-- the movi list that holds a range
pub record Holder (a : Avi) (p n : ℕ) : Type 0 where
  pub movi : Stood
  pub movi_among : Among movi (essence a)
  pub low : movi.at + 8 ≤ p
  pub high : p + n ≤ movi.at + 8 + length movi.chunk.body

pub holder_of : (a : Avi) (p n : ℕ) → in_one (movi_spans a) p n ≡ true → Holder a p n
holder_of a p n e =
    let z = one_span (movi_spans a) p n e in
    let m = among_map body_span (essence a) z.span z.span_among in
    let w : within (body_span m.from) p n ≡ true = subst (λ (q : Span). within q p n ≡ true) (sym m.same) z.in_span in
    let i = and_parts (leb (m.from.at + 8) p) (leb (p + n) (m.from.at + 8 + length m.from.chunk.body)) w in
    record { movi = m.from; movi_among = m.from_among; low = leb-true (m.from.at + 8) p i.0; high = leb-true (p + n) (m.from.at + 8 + length m.from.chunk.body) i.1 }

-- a table of a stream, or in the essence
pub data IndexLies (a : Avi) (p n : ℕ) : Type 0 where
  stream : InStream a p n → IndexLies a p n
  movi : InMovi a p n → IndexLies a p n
  further : InFurther a p n → IndexLies a p n

pub as_lies : (a : Avi) (p n : ℕ) → IndexLies a p n → Lies a p n
as_lies a p n (stream s) = in_stream s
as_lies a p n (movi s) = in_movi s
as_lies a p n (further s) = in_further s

pub essence_lies : (a : Avi) (m : Stood) → Among m (essence a) → (p n : ℕ) → m.at + 12 ≤ p → p + n ≤ m.at + 8 + length m.chunk.body → IndexLies a p n
essence_lies a m i p n low high = go (among_append (only is_movi (top a)) (flat_map (λ x. only is_movi (kids x)) (others_at a)) m i)
  where
    go : Among m (only is_movi (top a)) ⊎ Among m (flat_map (λ x. only is_movi (kids x)) (others_at a)) → IndexLies a p n
    go (inl j) = let z = among_only is_movi (top a) m j in movi (record { movi = m; movi_among = z.0; movi_is = z.1; low = low; high = high })
    go (inr j) =
        let f = among_flat (λ x. only is_movi (kids x)) (others_at a) m j in
        let z = among_only is_movi (kids f.from) m f.in_it in
        further (record { form = f.from; movi = m; form_among = f.from_among; movi_among = z.0; movi_is = z.1; low = low; high = high })

module _ (o : List ℕ) (bytes : IsBytes o) (s : Supported o) where
  abbrev a : Avi
  a = avi_of o

  -- ---- streams

  pub stream_lies : (x : Stood) → Among x (stream_indexes a) → IndexLies a (x.at + 8) (length x.chunk.body)
  stream_lies x i =
      let j = among_only (has_id (codes "indx")) (flat_map kids (strls a)) x i in
      let m = among_flat kids (strls a) x j.0 in
      let k = among_only (is_type (codes "strl")) (flat_map kids (hdrls a)) m.from m.from_among in
      let h = among_flat kids (hdrls a) m.from k.0 in
      stream (record { hdrl = h.from; strl = m.from; chunk = x; hdrl_among = h.from_among; strl_among = h.in_it; strl_is = k.1; chunk_among = m.in_it; chunk_is = j.1; low = omega arith; high = omega arith })

  pub stream_whole : (t : Table) → Among t (streams o) → Whole t.body
  stream_whole t i = sound_whole is_index_kind t.body (among_all (λ t. SoundIndex is_index_kind t.body) (streams o) s.streams_sound t i)

  -- ---- named chunks

  pub named_sound : (t : Table) → Among t (streams o) → is_super t.body ≡ true → (p : ℕ) → Among p (super_places t.body) → SoundPlace o p
  named_sound t i super p j =
      among_all (SoundPlace o) (super_places t.body) (among_all (λ t. is_super t.body ≡ true → AllByRecursion (SoundPlace o) (super_places t.body)) (streams o) s.places_sound t i super) p j

  pub place_lies : (p : ℕ) → SoundPlace o p → IndexLies a (p + 8) (length (named o p).body)
  place_lies p q =
      let h = holder_of a p (8 + size_at o p) q.lies in
      let len = length-take (size_at o p) (drop (p + 8) o) in
      essence_lies a h.movi h.movi_among (p + 8) (length (named o p).body) (omega (arith, h.low)) (omega (arith, h.high, len))

  pub place_whole : (p : ℕ) → SoundPlace o p → Whole (named o p).body
  place_whole p q = sound_whole is_standard_kind (named o p).body q.sound

  -- a place that some stream's super index names
  pub record Named (t : Table) : Type 0 where
    pub by : Table
    pub by_among : Among by (streams o)
    pub by_super : is_super by.body ≡ true
    pub place : ℕ
    pub place_among : Among place (super_places by.body)
    pub is_named : named o place ≡ t

  pub named_from : (t : Table) → Among t (flat_map (named_by o) (streams o)) → Named t
  named_from t i =
      let m = among_flat (named_by o) (streams o) t i in
      go m.from m.from_among (is_super m.from.body) refl m.in_it
    where
      go : (u : Table) → Among u (streams o) → (b : Bool) → is_super u.body ≡ b → Among t (named_in o u.body b) → Named t
      go u j true e k = let z = among_map (named o) (super_places u.body) t k in record { by = u; by_among = j; by_super = e; place = z.from; place_among = z.from_among; is_named = z.same }
      go u j false e k = absurd k

  pub named_place : (t : Table) (n : Named t) → SoundPlace o n.place
  named_place t n = named_sound n.by n.by_among n.by_super n.place n.place_among

  -- ---- all index chunks

  pub record SoundTable (t : Table) : Type 0 where
    pub lies : IndexLies a t.at (length t.body)
    pub whole : Whole t.body

  pub index_sound : (t : Table) → Among t (indexes o) → SoundTable t
  index_sound t i = go (among_append (streams o) (flat_map (named_by o) (streams o)) t i)
    where
      go : Among t (streams o) ⊎ Among t (flat_map (named_by o) (streams o)) → SoundTable t
      go (inl j) = let m = among_map table_of (stream_indexes a) t j in record { lies = subst (λ (u : Table). IndexLies a u.at (length u.body)) m.same (stream_lies m.from m.from_among); whole = stream_whole t j }
      go (inr j) =
          let n = named_from t j in
          let q = named_place t n in
          record { lies = subst (λ (u : Table). IndexLies a u.at (length u.body)) n.is_named (place_lies n.place q); whole = subst (λ (u : Table). Whole u.body) n.is_named (place_whole n.place q) }

  pub old_lies : (x : Stood) → Among x (old_indexes a) → InOld a (x.at + 8) (length x.chunk.body)
  old_lies x i = let j = among_only (has_id (codes "idx1")) (top a) x (among_first (only (has_id (codes "idx1")) (top a)) x i) in record { chunk = x; chunk_among = j.0; chunk_is = j.1; low = omega arith; high = omega arith }

  -- ---- index chunks stand apart

  pub among_put : (t u : Table) (us : List Table) → (u ≡ t) ⊎ Among t us → Among t (put_by_place u us)
  among_put t u [] (inl e) = inl e
  among_put t u [] (inr i) = absurd i
  among_put t u (v ∷ us) h = go (ltb u.at v.at) h (λ g. among_put t u us g)
    where
      go : (b : Bool) → (u ≡ t) ⊎ Among t (v ∷ us) → ((u ≡ t) ⊎ Among t us → Among t (put_by_place u us)) → Among t (cond b (u ∷ (v ∷ us)) (v ∷ put_by_place u us))
      go true h again = h
      go false (inl e) again = inr (again (inl e))
      go false (inr (inl e)) again = inl e
      go false (inr (inr i)) again = inr (again (inr i))

  pub among_sorted : (t : Table) (ts : List Table) → Among t ts → Among t (by_place ts)
  among_sorted t [] i = i
  among_sorted t (u ∷ us) (inl e) = among_put t u (by_place us) (inl e)
  among_sorted t (u ∷ us) (inr i) = among_put t u (by_place us) (inr (among_sorted t us i))

  apart_low : (from : ℕ) (ts : List Table) → Apart from ts → (t : Table) → Among t ts → from + 8 ≤ t.at
  apart_low from [] h t i = absurd i
  apart_low from (u ∷ ts) h t (inl e) = let at_is : u.at ≡ t.at = ap (λ (z : Table). z.at) e in omega (arith, ltb-false u.at (from + 8) h.0, at_is)
  apart_low from (u ∷ ts) h t (inr i) = omega (arith, ltb-false u.at (from + 8) h.0, apart_low (u.at + length u.body) ts h.1 t i)

  abbrev pub AreApart : Table → Table → Type 0
  AreApart t u = (t ≡ u) ⊎ ((t.at + length t.body + 8 ≤ u.at) ⊎ (u.at + length u.body + 8 ≤ t.at))

  apart_pairs : (from : ℕ) (ts : List Table) → Apart from ts → (t u : Table) → Among t ts → Among u ts → AreApart t u
  apart_pairs from [] h t u i j = absurd i
  apart_pairs from (v ∷ ts) h t u (inl e) (inl f) = inl (sym e ∙ f)
  apart_pairs from (v ∷ ts) h t u (inl e) (inr j) = inr (inl (subst (λ (z : Table). z.at + length z.body + 8 ≤ u.at) e (apart_low (v.at + length v.body) ts h.1 u j)))
  apart_pairs from (v ∷ ts) h t u (inr i) (inl f) = inr (inr (subst (λ (z : Table). z.at + length z.body + 8 ≤ t.at) f (apart_low (v.at + length v.body) ts h.1 t i)))
  apart_pairs from (v ∷ ts) h t u (inr i) (inr j) = apart_pairs (v.at + length v.body) ts h.1 t u i j

  pub tables_apart : (t u : Table) → Among t (indexes o) → Among u (indexes o) → AreApart t u
  tables_apart t u i j = apart_pairs 0 (by_place (indexes o)) s.indexes_apart t u (among_sorted t (indexes o) i) (among_sorted u (indexes o) j)

  -- ---- idx1 stands apart

  g : Ended (avi_of o)
  g = ended o bytes s

  old_in : (x : Stood) → Among x (old_indexes a) → Among x (top a) × (has_id (codes "idx1") x.chunk ≡ true)
  old_in x i = among_only (has_id (codes "idx1")) (top a) x (among_first (only (has_id (codes "idx1")) (top a)) x i)

  -- a range in a movi list
  pub essence_apart : (m x : Stood) → Among m (essence a) → Among x (old_indexes a) → (p n : ℕ) → m.at + 8 ≤ p → p + n ≤ m.at + 8 + length m.chunk.body → (p + n ≤ x.at) ⊎ (x.at + 8 + length x.chunk.body ≤ p)
  essence_apart m x i j p n low high = go (among_append (only is_movi (top a)) (flat_map (λ x. only is_movi (kids x)) (others_at a)) m i)
    where
      k : Among x (top a) × (has_id (codes "idx1") x.chunk ≡ true)
      k = old_in x j

      go : Among m (only is_movi (top a)) ⊎ Among m (flat_map (λ x. only is_movi (kids x)) (others_at a)) → (p + n ≤ x.at) ⊎ (x.at + 8 + length x.chunk.body ≤ p)
      go (inl q) =
          let z = among_only is_movi (top a) m q in
          let me = body_end m (among_all IsRiffHead (top a) (top_heads a g) m z.0) in
          let xe = body_end x (among_all IsRiffHead (top a) (top_heads a g) x k.0) in
          side (top_movi a g x m k.0 z.0 k.1 z.1) me xe
        where
          side : Rattle.avi_model.proofs.Among.Disjoint m x → m.at + 8 + length m.chunk.body ≤ Rattle.avi_model.proofs.Among.stood_end m → x.at + 8 + length x.chunk.body ≤ Rattle.avi_model.proofs.Among.stood_end x → (p + n ≤ x.at) ⊎ (x.at + 8 + length x.chunk.body ≤ p)
          side (inl d) me xe = inl (omega arith)
          side (inr d) me xe = inr (omega arith)
      go (inr q) =
          let f = among_flat (λ x. only is_movi (kids x)) (others_at a) m q in
          let z = among_only is_movi (kids f.from) m f.in_it in
          inr (omega (arith, further_past a g x f.from m k.0 f.from_among z.0))

  -- an index chunk's range
  pub index_apart : (x : Stood) → Among x (old_indexes a) → (p n : ℕ) → IndexLies a p n → (p + n ≤ x.at) ⊎ (x.at + 8 + length x.chunk.body ≤ p)
  index_apart x j p n l = go l
    where
      k : Among x (top a) × (has_id (codes "idx1") x.chunk ≡ true)
      k = old_in x j

      less : (p + n ≤ x.at) ⊎ (x.at + 8 + length x.chunk.body + 8 ≤ p) → (p + n ≤ x.at) ⊎ (x.at + 8 + length x.chunk.body ≤ p)
      less (inl h) = inl h
      less (inr h) = inr (omega (arith, h))

      go : IndexLies a p n → (p + n ≤ x.at) ⊎ (x.at + 8 + length x.chunk.body ≤ p)
      go (stream q) = less (old_stream a g x k.0 k.1 p n q)
      go (movi q) = essence_apart q.movi x (among_front (only is_movi (top a)) (flat_map (λ x. only is_movi (kids x)) (others_at a)) q.movi (Rattle.avi_model.proofs.Among.only_among is_movi (top a) q.movi q.movi_among q.movi_is)) j p n (omega (arith, q.low)) q.high
      go (further q) = inr (omega (arith, further_past a g x q.form q.movi k.0 q.form_among q.movi_among, q.low))

  -- a range that misses the index chunks
  pub misses_one : (ts : List Table) (q n : ℕ) → misses ts q n ≡ true → (t : Table) → Among t ts → (t.at + length t.body ≤ q) ⊎ (q + n + 8 ≤ t.at)
  misses_one [] q n e t i = absurd i
  misses_one (u ∷ ts) q n e t i =
      let z = and_parts (leb (u.at + length u.body) q || leb (q + n + 8) u.at) (misses ts q n) e in
      go i z.0 (λ j. misses_one ts q n z.1 t j)
    where
      one : (b : Bool) → leb (u.at + length u.body) q ≡ b → (b || leb (q + n + 8) u.at) ≡ true → (u.at + length u.body ≤ q) ⊎ (q + n + 8 ≤ u.at)
      one true h e = inl (leb-true (u.at + length u.body) q h)
      one false h e = inr (leb-true (q + n + 8) u.at e)

      go : Among t (u ∷ ts) → (leb (u.at + length u.body) q || leb (q + n + 8) u.at) ≡ true → (Among t ts → (t.at + length t.body ≤ q) ⊎ (q + n + 8 ≤ t.at)) → (t.at + length t.body ≤ q) ⊎ (q + n + 8 ≤ t.at)
      go (inl e) h again = subst (λ (z : Table). (z.at + length z.body ≤ q) ⊎ (q + n + 8 ≤ z.at)) e (one (leb (u.at + length u.body) q) refl h)
      go (inr j) h again = again j

  -- ---- what is written

  module _ (how : How) where
    abbrev ws : List Write
    ws = writes how o

    pub index_bytes : (t : Table) → Among t (indexes o) → length (index_body how t.body) ≡ length t.body
    index_bytes t i = index_length how t.body (index_sound t i).whole

    pub old_bytes : (t : Table) → length (old_body how.place (base o) t.body) ≡ length t.body
    old_bytes t = Rattle.container_model.proofs.Written.length-map_rows 16 (Rattle.avi_index.specs.Rows.old_row how.place (base o)) (count16 t.body) t.body (old_keeps how (base o))

    -- a write is of an index chunk, or of idx1
    pub data Writes (w : Write) : Type 0 where
      of_index : (t : Table) → Among t (indexes o) → write_index how t ≡ w → Writes w
      of_old : (x : Stood) → Among x (old_indexes a) → write_old how (base o) (table_of x) ≡ w → Writes w

    pub writes_of : (w : Write) → Among w ws → Writes w
    writes_of w i = go (among_append (map (write_index how) (indexes o)) (map (write_old how (base o)) (olds o)) w i)
      where
        go : Among w (map (write_index how) (indexes o)) ⊎ Among w (map (write_old how (base o)) (olds o)) → Writes w
        go (inl j) = let m = among_map (write_index how) (indexes o) w j in of_index m.from m.from_among m.same
        go (inr j) =
            let m = among_map (write_old how (base o)) (olds o) w j in
            let x = among_map table_of (old_indexes a) m.from m.from_among in
            of_old x.from x.from_among (ap (write_old how (base o)) x.same ∙ m.same)

    pub writes_lie : AllByRecursion (λ w. Lies a w.at (length w.bytes)) ws
    writes_lie = all_among (λ w. Lies a w.at (length w.bytes)) ws (λ w i. go w (writes_of w i))
      where
        go : (w : Write) → Writes w → Lies a w.at (length w.bytes)
        go w (of_index t i e) =
            subst (λ (v : Write). Lies a v.at (length v.bytes)) e (subst (λ (n : ℕ). Lies a t.at n) (sym (index_bytes t i)) (as_lies a t.at (length t.body) (index_sound t i).lies))
        go w (of_old x i e) =
            subst (λ (v : Write). Lies a v.at (length v.bytes)) e (subst (λ (n : ℕ). Lies a (x.at + 8) n) (sym (old_bytes (table_of x))) (in_old (old_lies x i)))

    -- ---- no write touches the table of another

    pub in_among : (w : Write) (vs : List Write) → Among w vs → In w vs
    in_among w [] i = i
    in_among w (v ∷ vs) (inl e) = inl e
    in_among w (v ∷ vs) (inr i) = inr (in_among w vs i)

    of_table : (t : Table) → Among t (indexes o) → (P : ℕ → ℕ → Type 0) → P t.at (length t.body) → P (write_index how t).at (length (write_index how t).bytes)
    of_table t i P h = subst (λ (n : ℕ). P t.at n) (sym (index_bytes t i)) h

    -- what holds of the place and length of each table
    pub each_write : (P : ℕ → ℕ → Type 0) → ((t : Table) → Among t (indexes o) → P t.at (length t.body)) → ((x : Stood) → Among x (old_indexes a) → P (x.at + 8) (length x.chunk.body)) → AllByRecursion (λ w. P w.at (length w.bytes)) ws
    each_write P h k = all_among (λ w. P w.at (length w.bytes)) ws (λ w i. go w (writes_of w i))
      where
        go : (w : Write) → Writes w → P w.at (length w.bytes)
        go w (of_index t i e) = subst (λ (v : Write). P v.at (length v.bytes)) e (of_table t i P (h t i))
        go w (of_old x i e) = subst (λ (v : Write). P v.at (length v.bytes)) e (subst (λ (n : ℕ). P (x.at + 8) n) (sym (old_bytes (table_of x))) (k x i))

    -- a range in a movi list that misses the index chunks is left as it is
    pub clear_of : (m : Stood) → Among m (essence a) → (q n : ℕ) → m.at + 8 ≤ q → q + n ≤ m.at + 8 + length m.chunk.body → misses (indexes o) q n ≡ true → AllByRecursion (Misses q n) ws
    clear_of m i q n low high e =
        each_write (λ at len. (at + len ≤ q) ⊎ (q + n ≤ at)) (λ t j. one t (misses_one (indexes o) q n e t j)) (λ x j. two x (essence_apart m x i j q n low high))
      where
        one : (t : Table) → (t.at + length t.body ≤ q) ⊎ (q + n + 8 ≤ t.at) → (t.at + length t.body ≤ q) ⊎ (q + n ≤ t.at)
        one t (inl h) = inl h
        one t (inr h) = inr (omega arith)

        two : (x : Stood) → (q + n ≤ x.at) ⊎ (x.at + 8 + length x.chunk.body ≤ q) → (x.at + 8 + length x.chunk.body ≤ q) ⊎ (q + n ≤ x.at + 8)
        two x (inl h) = inr (omega arith)
        two x (inr h) = inl h

    -- the header of an index chunk in a movi list is left as it is
    pub clear_head : (m : Stood) → Among m (essence a) → (t : Table) → Among t (indexes o) → (p : ℕ) → t.at ≡ p + 8 → m.at + 8 ≤ p → p + 8 ≤ m.at + 8 + length m.chunk.body → AllByRecursion (Misses p 8) ws
    clear_head m i t j p at low high = each_write (λ at len. (at + len ≤ p) ⊎ (p + 8 ≤ at)) (λ u k. one u (tables_apart t u j k)) (λ x k. two x (essence_apart m x i k p 8 low high))
      where
        one : (u : Table) → AreApart t u → (u.at + length u.body ≤ p) ⊎ (p + 8 ≤ u.at)
        one u (inl e) = let same : t.at ≡ u.at = ap (λ (z : Table). z.at) e in inr (omega (arith, at, same))
        one u (inr (inl h)) = inr (omega (arith, at, h))
        one u (inr (inr h)) = inl (omega (arith, at, h))

        two : (x : Stood) → (p + 8 ≤ x.at) ⊎ (x.at + 8 + length x.chunk.body ≤ p) → (x.at + 8 + length x.chunk.body ≤ p) ⊎ (p + 8 ≤ x.at + 8)
        two x (inl h) = inr (omega arith)
        two x (inr h) = inl h

    -- so is the front of a header of which as much lies in the list
    pub clear_front : (m : Stood) → Among m (essence a) → (t : Table) → Among t (indexes o) → (p k : ℕ) → t.at ≡ p + 8 → k ≤ 8 → m.at + 8 ≤ p → p + k ≤ m.at + 8 + length m.chunk.body → AllByRecursion (Misses p k) ws
    clear_front m i t j p k at few low high = each_write (λ at len. (at + len ≤ p) ⊎ (p + k ≤ at)) (λ u v. one u (tables_apart t u j v)) (λ x v. two x (essence_apart m x i v p k low high))
      where
        one : (u : Table) → AreApart t u → (u.at + length u.body ≤ p) ⊎ (p + k ≤ u.at)
        one u (inl e) = let same : t.at ≡ u.at = ap (λ (z : Table). z.at) e in inr (omega (arith, at, same))
        one u (inr (inl h)) = inr (omega (arith, at, h))
        one u (inr (inr h)) = inl (omega (arith, at, h))

        two : (x : Stood) → (p + k ≤ x.at) ⊎ (x.at + 8 + length x.chunk.body ≤ p) → (x.at + 8 + length x.chunk.body ≤ p) ⊎ (p + k ≤ x.at + 8)
        two x (inl h) = inr (omega arith)
        two x (inr h) = inl h

    pub owns_index : (t : Table) → Among t (indexes o) → Owns ws (write_index how t)
    owns_index t i = record {
      is_there = in_among (write_index how t) ws (among_front (map (write_index how) (indexes o)) (map (write_old how (base o)) (olds o)) (write_index how t) (map_among (write_index how) (indexes o) t i));
      alone = all_among (Alone (write_index how t)) ws (λ w j. go w (writes_of w j));
    }
      where
        len : length (write_index how t).bytes ≡ length t.body
        len = index_bytes t i

        apart : (u : Table) → Among u (indexes o) → AreApart t u → Alone (write_index how t) (write_index how u)
        apart u j (inl e) = inl (ap (write_index how) (sym e))
        apart u j (inr (inl h)) = inr (inr (omega (arith, h, len)))
        apart u j (inr (inr h)) = inr (inl (omega (arith, h, index_bytes u j)))

        old : (x : Stood) → (t.at + length t.body ≤ x.at) ⊎ (x.at + 8 + length x.chunk.body ≤ t.at) → Alone (write_index how t) (write_old how (base o) (table_of x))
        old x (inl h) = inr (inr (omega (arith, h, len)))
        old x (inr h) = inr (inl (omega (arith, h, old_bytes (table_of x))))

        go : (w : Write) → Writes w → Alone (write_index how t) w
        go w (of_index u j e) = subst (Alone (write_index how t)) e (apart u j (tables_apart t u i j))
        go w (of_old x j e) = subst (Alone (write_index how t)) e (old x (index_apart x j t.at (length t.body) (index_sound t i).lies))

    pub owns_old : (x : Stood) → Among x (old_indexes a) → Owns ws (write_old how (base o) (table_of x))
    owns_old x i = record {
      is_there = in_among (write_old how (base o) (table_of x)) ws (among_back (map (write_index how) (indexes o)) (map (write_old how (base o)) (olds o)) (write_old how (base o) (table_of x)) (map_among (write_old how (base o)) (olds o) (table_of x) (map_among table_of (old_indexes a) x i)));
      alone = all_among (Alone (write_old how (base o) (table_of x))) ws (λ w j. go w (writes_of w j));
    }
      where
        len : length (write_old how (base o) (table_of x)).bytes ≡ length x.chunk.body
        len = old_bytes (table_of x)

        apart : (u : Table) → Among u (indexes o) → (u.at + length u.body ≤ x.at) ⊎ (x.at + 8 + length x.chunk.body ≤ u.at) → Alone (write_old how (base o) (table_of x)) (write_index how u)
        apart u j (inl h) = inr (inl (omega (arith, h, index_bytes u j)))
        apart u j (inr h) = inr (inr (omega (arith, h, len)))

        go : (w : Write) → Writes w → Alone (write_old how (base o) (table_of x)) w
        go w (of_index u j e) = subst (Alone (write_old how (base o) (table_of x))) e (apart u j (index_apart x i u.at (length u.body) (index_sound u j).lies))
        go w (of_old y j e) = inl (sym e ∙ ap (λ (z : Stood). write_old how (base o) (table_of z)) (first_same (only (has_id (codes "idx1")) (top a)) y x j i))

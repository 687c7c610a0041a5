-- A range that lies in a table lies at each level in one body.
use Rattle.std.proofs.Common.{◌≡◌, ℕ, ◌+◌, ◌≤◌, true, false, List, [], ◌∷◌, ◌++◌, length, refl, sym, ap, subst, ◌∙◌, arith, inl, inr}
use Rattle.std.specs.Prelude.{◌⊎◌, codes}
use Rattle.std.specs.Str.{bytes_eq}
use Rattle.std.specs.List.{flat_map, AllByRecursion}
use Rattle.std.proofs.lemmas.List.{length-append}
use Rattle.container_model.specs.Chunk.{Chunk, spell, spell_all}
use Rattle.container_model.specs.Stood.{Stood, stood, only}
use Rattle.container_model.proofs.Codec.{IsBytes, IsBytes-behind}
use Rattle.carrier_model.specs.Info.{is_type, list_run}
use Rattle.avi_model.specs.Avi.{Avi, inner, form_of, behind, spell_avi, has_id, kids, top, others_at, hdrls, strls, is_movi}
use Rattle.avi_model.specs.Support.{ListEnds}
use Rattle.avi_model.proofs.Forms.{body_bytes}
use Rattle.avi_model.proofs.Read.{Others, Readable, others_place}
use Rattle.avi_model.proofs.Types.{same_true, type_is}
use Rattle.avi_model.proofs.Walk.{IsRiffHead}
use Rattle.avi_model.proofs.Among.{Among, all_among, among_all, among_only, among_first, first_same, among_flat, AmongMany, stood_end, stood_inside, stood_apart, Disjoint}
use Rattle.avi_model.proofs.Lies.{Level, Whole, stood_heads, kids_heads, stood_bytes, kids_bytes, kids_end, list_long, body_end, kids_inside, InStream, InMovi, InFurther, InOld, Lies, in_stream, in_movi, in_further, in_old}

-- a list is of one type, and idx1 is no list
pub type_one : (w v : List ℕ) (x : Stood) → bytes_eq w v ≡ false → is_type w x.chunk ≡ true → is_type v x.chunk ≡ true → ⊥
type_one w v x differ a b =
    let same : w ≡ v = sym (type_is w x.chunk a).type_is ∙ (type_is v x.chunk b).type_is in
    let yes : bytes_eq w v ≡ true = ap (bytes_eq w) (sym same) ∙ (Rattle.std.proofs.lemmas.Slice.Eq.bytes_eq-Decides w w).1 refl in
    absurd cc

old_no_list : (x : Stood) → has_id (codes "idx1") x.chunk ≡ true → bytes_eq x.chunk.id (codes "LIST") ≡ true → ⊥
old_no_list x a b = let e = same_true x.chunk.id (codes "idx1") a in let no : bytes_eq x.chunk.id (codes "LIST") ≡ false = rw e refl in absurd cc

index_no_list : (x : Stood) → has_id (codes "indx") x.chunk ≡ true → bytes_eq x.chunk.id (codes "LIST") ≡ true → ⊥
index_no_list x a b = let e = same_true x.chunk.id (codes "indx") a in let no : bytes_eq x.chunk.id (codes "LIST") ≡ false = rw e refl in absurd cc

is_list : (w : List ℕ) (x : Stood) → is_type w x.chunk ≡ true → bytes_eq x.chunk.id (codes "LIST") ≡ true
is_list w x h = (type_is w x.chunk h).list

-- what is known of a file whose lists end
pub record Ended (a : Avi) : Type 0 where
  pub readable : Readable a
  pub bytes : IsBytes (spell_avi a)
  pub hdrls_end : AllByRecursion ListEnds (hdrls a)
  pub strls_end : AllByRecursion ListEnds (strls a)
  pub others_end : AllByRecursion ListEnds (others_at a)

module _ (a : Avi) (g : Ended a) where
  r : Readable a
  r = g.readable

  inner_bytes : IsBytes (spell_all a.children ++ a.left)
  inner_bytes = IsBytes-behind (codes "AVI ") (spell_all a.children ++ a.left) (body_bytes (form_of a) (behind a) g.bytes)

  pub top_bytes : AllByRecursion (λ x. IsBytes x.chunk.body) (top a)
  top_bytes = stood_bytes 12 a.children a.left inner_bytes

  pub top_heads : AllByRecursion IsRiffHead (top a)
  top_heads = stood_heads 12 a.children g.readable.plain_chunks

  pub others_bytes : AllByRecursion (λ x. IsBytes x.chunk.body) (others_at a)
  others_bytes = stood_bytes (others_place a) a.others a.tail (IsBytes-behind (spell (form_of a)) (behind a) g.bytes)

  pub others_heads : AllByRecursion (λ x. IsRiffHead x × (4 ≤ length x.chunk.body) × (bytes_eq x.chunk.id (codes "LIST") ≡ false)) (others_at a)
  others_heads = go (others_place a) a.others g.readable.others_are
    where
      go : (at : ℕ) (cs : List Chunk) → Others cs → AllByRecursion (λ x. IsRiffHead x × (4 ≤ length x.chunk.body) × (bytes_eq x.chunk.id (codes "LIST") ≡ false)) (stood at cs)
      go at [] h = tt
      go at (c ∷ cs) h = ((rw (h.0.form_is, h.0.id_is) refl, h.0.long, rw h.0.id_is refl), go (at + length (spell c)) cs h.1)

  -- the lists that are opened
  pub hdrl_whole : (x : Stood) → Among x (hdrls a) → Among x (top a) × (is_type (codes "hdrl") x.chunk ≡ true) × Whole x
  hdrl_whole x i =
      let j = among_only (is_type (codes "hdrl")) (top a) x (among_first (only (is_type (codes "hdrl")) (top a)) x i) in
      (j.0, j.1, record { head = among_all IsRiffHead (top a) top_heads x j.0; bytes = among_all (λ y. IsBytes y.chunk.body) (top a) top_bytes x j.0; long = list_long (codes "hdrl") x refl j.1; all_read = among_all ListEnds (hdrls a) g.hdrls_end x i })

  pub strl_whole : (x : Stood) → Among x (strls a) → AmongMany Stood Stood kids x (hdrls a) × (is_type (codes "strl") x.chunk ≡ true) × Whole x
  strl_whole x i =
      let j = among_only (is_type (codes "strl")) (flat_map kids (hdrls a)) x i in
      let m = among_flat kids (hdrls a) x j.0 in
      let h = hdrl_whole m.from m.from_among in
      (m, j.1, record { head = among_all IsRiffHead (kids m.from) (kids_heads m.from) x m.in_it; bytes = among_all (λ y. IsBytes y.chunk.body) (kids m.from) (kids_bytes m.from h.2.bytes) x m.in_it; long = list_long (codes "strl") x refl j.1; all_read = among_all ListEnds (strls a) g.strls_end x i })

  pub further_whole : (x : Stood) → Among x (others_at a) → Whole x
  further_whole x i =
      let h = among_all (λ x. IsRiffHead x × (4 ≤ length x.chunk.body) × (bytes_eq x.chunk.id (codes "LIST") ≡ false)) (others_at a) others_heads x i in
      record { head = h.0; bytes = among_all (λ y. IsBytes y.chunk.body) (others_at a) others_bytes x i; long = h.1; all_read = among_all ListEnds (others_at a) g.others_end x i }

  -- ---- where the levels end

  pub top_end : 12 + length (spell_all a.children ++ a.left) ≡ 8 + length (inner a.children a.left)
  top_end = omega arith

  pub others_begin : others_place a ≡ 8 + length (inner a.children a.left) + length a.pad
  others_begin = omega (arith, length-append (inner a.children a.left) a.pad)

  pub top_range : (x : Stood) → Among x (top a) → (12 ≤ x.at) × (stood_end x ≤ 12 + length (spell_all a.children ++ a.left))
  top_range x i = let z = stood_inside 12 a.children x i in (z.0, omega (arith, z.1, length-append (spell_all a.children) a.left))

  pub others_range : (x : Stood) → Among x (others_at a) → (others_place a ≤ x.at) × (stood_end x ≤ others_place a + length (spell_all a.others ++ a.tail))
  others_range x i = let z = stood_inside (others_place a) a.others x i in (z.0, omega (arith, z.1, length-append (spell_all a.others) a.tail))

  -- the parts of a stream
  abbrev pub StreamParts : {p n : ℕ} → InStream a p n → Type 0
  StreamParts {p} {n} s = Whole s.hdrl × Whole s.strl × (s.strl.at + 12 ≤ s.chunk.at) × (stood_end s.chunk ≤ s.strl.at + 8 + length s.strl.chunk.body) × (s.hdrl.at + 12 ≤ s.strl.at) × (stood_end s.strl ≤ s.hdrl.at + 8 + length s.hdrl.chunk.body)

  strl_in : (h x : Stood) → Among h (hdrls a) → Among x (kids h) → is_type (codes "strl") x.chunk ≡ true → Among x (strls a)
  strl_in h x i j e = Rattle.avi_model.proofs.Among.only_among (is_type (codes "strl")) (flat_map kids (hdrls a)) x (Rattle.avi_model.proofs.Among.flat_among kids (hdrls a) h x i j) e

  pub stream_parts : (p n : ℕ) (s : InStream a p n) → Whole s.hdrl × Whole s.strl × (s.strl.at + 12 ≤ s.chunk.at) × (stood_end s.chunk ≤ s.strl.at + 8 + length s.strl.chunk.body) × (s.hdrl.at + 12 ≤ s.strl.at) × (stood_end s.strl ≤ s.hdrl.at + 8 + length s.hdrl.chunk.body) × IsRiffHead s.chunk
  stream_parts p n s =
      let h = hdrl_whole s.hdrl s.hdrl_among in
      let t = strl_whole s.strl (strl_in s.hdrl s.strl s.hdrl_among s.strl_among s.strl_is) in
      let one = kids_inside s.strl t.2.bytes t.2.long s.chunk s.chunk_among in
      let two = kids_inside s.hdrl h.2.bytes h.2.long s.strl s.strl_among in
      (h.2, t.2, one.0, one.1, two.0, two.1, among_all IsRiffHead (kids s.strl) (kids_heads s.strl) s.chunk s.chunk_among)

  -- ---- at each level

  further_parts : (p n : ℕ) (s : InFurther a p n) → Whole s.form × (s.form.at + 12 ≤ s.movi.at) × (stood_end s.movi ≤ s.form.at + 8 + length s.form.chunk.body) × IsRiffHead s.movi
  further_parts p n s =
      let f = further_whole s.form s.form_among in
      let one = kids_inside s.form f.bytes f.long s.movi s.movi_among in
      (f, one.0, one.1, among_all IsRiffHead (kids s.form) (kids_heads s.form) s.movi s.movi_among)

  further_low : (p n : ℕ) → InFurther a p n → others_place a + 8 ≤ p
  further_low p n s =
      let x = further_parts p n s in
      let y = others_range s.form s.form_among in
      omega (arith, x.1, y.0, s.low)

  -- a chunk of the first form that holds the range
  pub record InTop (p n : ℕ) : Type 0 where
    pub chunk : Stood
    pub chunk_among : Among chunk (top a)
    pub low : chunk.at + 8 ≤ p
    pub behind_type : bytes_eq chunk.chunk.id (codes "LIST") ≡ true → chunk.at + 12 ≤ p
    pub high : p + n ≤ chunk.at + 8 + length chunk.chunk.body

  stream_top : (p n : ℕ) → InStream a p n → InTop p n
  stream_top p n s =
      let x = stream_parts p n s in
      let h = hdrl_whole s.hdrl s.hdrl_among in
      let low = s.low in
      let high = s.high in
      let e = body_end s.strl x.1.head in
      let c = body_end s.chunk x.6 in
      record { chunk = s.hdrl; chunk_among = h.0; low = omega (arith, x.2, x.4); behind_type = λ t. omega (arith, x.2, x.4); high = omega (arith, x.3, x.5, e, c) }

  movi_top : (p n : ℕ) → InMovi a p n → InTop p n
  movi_top p n s = record { chunk = s.movi; chunk_among = s.movi_among; low = omega (arith, s.low); behind_type = λ t. s.low; high = s.high }

  old_top : (p n : ℕ) → InOld a p n → InTop p n
  old_top p n s = record { chunk = s.chunk; chunk_among = s.chunk_among; low = s.low; behind_type = λ t. absurd (old_no_list s.chunk s.chunk_is t); high = s.high }

  pub top_end_of : (p n : ℕ) → InTop p n → (12 ≤ p) × (p + n ≤ 12 + length (spell_all a.children ++ a.left))
  top_end_of p n s =
      let x = top_range s.chunk s.chunk_among in
      let e = body_end s.chunk (among_all IsRiffHead (top a) top_heads s.chunk s.chunk_among) in
      (omega (arith, x.0, s.low), omega (arith, x.1, e, s.high))

  level_of_top : (p n : ℕ) → InTop p n → Level 12 a.children a.left p n
  level_of_top p n s = inl (record { holder = s.chunk; holder_among = s.chunk_among; low = s.low; behind_type = s.behind_type; high = s.high })

  -- in the first form, or behind it
  pub in_top : (p n : ℕ) → Lies a p n → InTop p n ⊎ (others_place a + 8 ≤ p)
  in_top p n (in_stream s) = inl (stream_top p n s)
  in_top p n (in_movi s) = inl (movi_top p n s)
  in_top p n (in_further s) = inr (further_low p n s)
  in_top p n (in_old s) = inl (old_top p n s)

  pub level_top : (p n : ℕ) → Lies a p n → Level 12 a.children a.left p n
  level_top p n l = go (in_top p n l)
    where
      go : InTop p n ⊎ (others_place a + 8 ≤ p) → Level 12 a.children a.left p n
      go (inl s) = level_of_top p n s
      go (inr h) = inr (inr (omega (arith, h, others_begin, top_end)))

  pub level_others : (p n : ℕ) → Lies a p n → Level (others_place a) a.others a.tail p n
  level_others p n (in_further s) =
      let x = further_parts p n s in
      let b = body_end s.movi x.3 in
      inl (record { holder = s.form; holder_among = s.form_among; low = omega (arith, x.1, s.low); behind_type = λ t. omega (arith, x.1, s.low); high = omega (arith, x.2, b, s.high) })
  level_others p n (in_stream s) = inr (inl (let e = top_end_of p n (stream_top p n s) in omega (arith, e.1, others_begin, top_end)))
  level_others p n (in_movi s) = inr (inl (let e = top_end_of p n (movi_top p n s) in omega (arith, e.1, others_begin, top_end)))
  level_others p n (in_old s) = inr (inl (let e = top_end_of p n (old_top p n s) in omega (arith, e.1, others_begin, top_end)))

  -- a range in another chunk of the first form
  pub beside : (x : Stood) → Among x (top a) → (p n : ℕ) (s : InTop p n) → (s.chunk ≡ x → ⊥) → (p + n ≤ x.at) ⊎ (x.at + 8 + length x.chunk.body + 8 ≤ p)
  beside x i p n s other = go (stood_apart 12 a.children s.chunk x s.chunk_among i)
    where
      go : (s.chunk ≡ x) ⊎ Disjoint s.chunk x → (p + n ≤ x.at) ⊎ (x.at + 8 + length x.chunk.body + 8 ≤ p)
      go (inl e) = absurd (other e)
      go (inr (inl d)) = inl (omega (arith, d, s.high, body_end s.chunk (among_all IsRiffHead (top a) top_heads s.chunk s.chunk_among)))
      go (inr (inr d)) = inr (omega (arith, d, s.low, body_end x (among_all IsRiffHead (top a) top_heads x i)))

  pub not_type : (w : List ℕ) (x y : Stood) → is_type w x.chunk ≡ true → (is_type w y.chunk ≡ true → ⊥) → y ≡ x → ⊥
  not_type w x y h other e = other (subst (λ (z : Stood). is_type w z.chunk ≡ true) (sym e) h)

  -- a range of the first form that isn't in a list of streams
  pub past_hdrl : (x : Stood) → Among x (hdrls a) → (p n : ℕ) → Lies a p n → (InStream a p n ⊎ ((p + n ≤ x.at) ⊎ (x.at + 8 + length x.chunk.body + 8 ≤ p)))
  unfolding movi_top old_top
  past_hdrl x i p n (in_stream s) = inl s
  past_hdrl x i p n (in_movi s) = let h = hdrl_whole x i in inr (beside x h.0 p n (movi_top p n s) (not_type (codes "hdrl") x s.movi h.1 (λ t. type_one (codes "movi") (codes "hdrl") s.movi refl s.movi_is t)))
  past_hdrl x i p n (in_old s) = let h = hdrl_whole x i in inr (beside x h.0 p n (old_top p n s) (not_type (codes "hdrl") x s.chunk h.1 (λ t. old_no_list s.chunk s.chunk_is (is_list (codes "hdrl") s.chunk t))))
  past_hdrl x i p n (in_further s) = let h = hdrl_whole x i in let z = top_range x h.0 in inr (inr (omega (arith, z.1, body_end x h.2.head, further_low p n s, others_begin, top_end)))

  pub level_hdrl : (x : Stood) → Among x (hdrls a) → (p n : ℕ) → Lies a p n → Level (x.at + 12) (list_run x.chunk).chunks (list_run x.chunk).left p n
  level_hdrl x i p n l = go (past_hdrl x i p n l)
    where
      w : Whole x
      w = (hdrl_whole x i).2

      go : (InStream a p n ⊎ ((p + n ≤ x.at) ⊎ (x.at + 8 + length x.chunk.body + 8 ≤ p))) → Level (x.at + 12) (list_run x.chunk).chunks (list_run x.chunk).left p n
      go (inl s) =
          let q = stream_parts p n s in
          let e = first_same (only (is_type (codes "hdrl")) (top a)) s.hdrl x s.hdrl_among i in
          let c = body_end s.chunk q.6 in
          inl (record { holder = s.strl; holder_among = subst (λ (y : Stood). Among s.strl (kids y)) e s.strl_among; low = omega (arith, q.2, s.low); behind_type = λ t. omega (arith, q.2, s.low); high = omega (arith, q.3, c, s.high) })
      go (inr (inl h)) = inr (inl (omega (arith, h)))
      go (inr (inr h)) = inr (inr (omega (arith, h, kids_end x w.bytes w.long)))

  pub level_strl : (x : Stood) → Among x (strls a) → (p n : ℕ) → Lies a p n → Level (x.at + 12) (list_run x.chunk).chunks (list_run x.chunk).left p n
  level_strl x i p n l = go (past_hdrl m.from m.from_among p n l)
    where
      m : AmongMany Stood Stood kids x (hdrls a)
      m = (strl_whole x i).0

      w : Whole x
      w = (strl_whole x i).2

      h : Whole m.from
      h = (hdrl_whole m.from m.from_among).2

      inside : (m.from.at + 12 ≤ x.at) × (stood_end x ≤ m.from.at + 8 + length m.from.chunk.body)
      inside = kids_inside m.from h.bytes h.long x m.in_it

      same : (s : InStream a p n) → (s.strl ≡ x) ⊎ Disjoint s.strl x → Level (x.at + 12) (list_run x.chunk).chunks (list_run x.chunk).left p n
      same s (inl e) =
          inl (record { holder = s.chunk; holder_among = subst (λ (y : Stood). Among s.chunk (kids y)) e s.chunk_among; low = s.low; behind_type = λ t. absurd (index_no_list s.chunk s.chunk_is t); high = s.high })
      same s (inr (inl d)) = let q = stream_parts p n s in inr (inl (omega (arith, d, q.3, s.high, body_end s.chunk q.6, body_end s.strl q.1.head)))
      same s (inr (inr d)) = let q = stream_parts p n s in inr (inr (omega (arith, d, q.2, s.low, kids_end x w.bytes w.long, body_end x w.head)))

      go : (InStream a p n ⊎ ((p + n ≤ m.from.at) ⊎ (m.from.at + 8 + length m.from.chunk.body + 8 ≤ p))) → Level (x.at + 12) (list_run x.chunk).chunks (list_run x.chunk).left p n
      go (inl s) =
          let e = first_same (only (is_type (codes "hdrl")) (top a)) s.hdrl m.from s.hdrl_among m.from_among in
          same s (stood_apart (m.from.at + 12) (list_run m.from.chunk).chunks s.strl x (subst (λ (y : Stood). Among s.strl (kids y)) e s.strl_among) m.in_it)
      go (inr (inl q)) = inr (inl (omega (arith, q, inside.0)))
      go (inr (inr q)) = inr (inr (omega (arith, q, inside.1, body_end x w.head, kids_end x w.bytes w.long)))

  pub level_further : (x : Stood) → Among x (others_at a) → (p n : ℕ) → Lies a p n → Level (x.at + 12) (list_run x.chunk).chunks (list_run x.chunk).left p n
  level_further x i p n l = go l
    where
      w : Whole x
      w = further_whole x i

      before : (12 ≤ p) × (p + n ≤ 12 + length (spell_all a.children ++ a.left)) → Level (x.at + 12) (list_run x.chunk).chunks (list_run x.chunk).left p n
      before e = inr (inl (omega (arith, e.1, (others_range x i).0, others_begin, top_end)))

      same : (s : InFurther a p n) → (s.form ≡ x) ⊎ Disjoint s.form x → Level (x.at + 12) (list_run x.chunk).chunks (list_run x.chunk).left p n
      same s (inl e) = inl (record { holder = s.movi; holder_among = subst (λ (y : Stood). Among s.movi (kids y)) e s.movi_among; low = omega (arith, s.low); behind_type = λ t. s.low; high = s.high })
      same s (inr (inl d)) = let q = further_parts p n s in inr (inl (omega (arith, d, q.2, s.high, body_end s.movi q.3, body_end s.form q.0.head)))
      same s (inr (inr d)) = let q = further_parts p n s in inr (inr (omega (arith, d, q.1, s.low, kids_end x w.bytes w.long, body_end x w.head)))

      go : Lies a p n → Level (x.at + 12) (list_run x.chunk).chunks (list_run x.chunk).left p n
      go (in_stream s) = before (top_end_of p n (stream_top p n s))
      go (in_movi s) = before (top_end_of p n (movi_top p n s))
      go (in_old s) = before (top_end_of p n (old_top p n s))
      go (in_further s) = same s (stood_apart (others_place a) a.others s.form x s.form_among i)

  -- what lies in a further form lies behind the type of a list in it
  pub further_deep : (p n : ℕ) → Lies a p n → (y : Stood) → Among y (others_at a) → y.at + 8 ≤ p → p + n ≤ y.at + 8 + length y.chunk.body → y.at + 12 ≤ p
  further_deep p n l y j low high = go l
    where
      begins_at : others_place a ≤ y.at
      begins_at = (others_range y j).0

      before : (12 ≤ p) × (p + n ≤ 12 + length (spell_all a.children ++ a.left)) → y.at + 12 ≤ p
      before e = absurd (omega (arith, begins_at, low, e.1, others_begin, top_end))

      same : (s : InFurther a p n) → (s.form ≡ y) ⊎ Disjoint s.form y → y.at + 12 ≤ p
      same s (inl e) = let q = further_parts p n s in let at_is : s.form.at ≡ y.at = ap (λ (z : Stood). z.at) e in omega (arith, q.1, s.low, at_is)
      same s (inr (inl d)) = let q = further_parts p n s in absurd (omega (arith, d, q.2, s.high, body_end s.movi q.3, body_end s.form q.0.head))
      same s (inr (inr d)) = let q = further_parts p n s in omega (arith, d, q.1, s.low, body_end y (further_whole y j).head)

      go : Lies a p n → y.at + 12 ≤ p
      go (in_stream s) = before (top_end_of p n (stream_top p n s))
      go (in_movi s) = before (top_end_of p n (movi_top p n s))
      go (in_old s) = before (top_end_of p n (old_top p n s))
      go (in_further s) = same s (stood_apart (others_place a) a.others s.form y s.form_among j)

  -- ---- idx1 stands apart from the other tables

  old_not : (w : List ℕ) (x y : Stood) → has_id (codes "idx1") x.chunk ≡ true → is_type w y.chunk ≡ true → y ≡ x → ⊥
  old_not w x y h t e = old_no_list x h (is_list w x (subst (λ (z : Stood). is_type w z.chunk ≡ true) e t))

  pub old_stream : (x : Stood) → Among x (top a) → has_id (codes "idx1") x.chunk ≡ true → (p n : ℕ) → InStream a p n → (p + n ≤ x.at) ⊎ (x.at + 8 + length x.chunk.body + 8 ≤ p)
  unfolding stream_top
  old_stream x i h p n s = beside x i p n (stream_top p n s) (old_not (codes "hdrl") x s.hdrl h (hdrl_whole s.hdrl s.hdrl_among).1)

  pub top_movi : (x m : Stood) → Among x (top a) → Among m (top a) → has_id (codes "idx1") x.chunk ≡ true → is_movi m.chunk ≡ true → Disjoint m x
  top_movi x m i j h t = go (stood_apart 12 a.children m x j i)
    where
      go : (m ≡ x) ⊎ Disjoint m x → Disjoint m x
      go (inl e) = absurd (old_not (codes "movi") x m h t e)
      go (inr d) = d

  pub further_past : (x y m : Stood) → Among x (top a) → Among y (others_at a) → Among m (kids y) → x.at + 8 + length x.chunk.body + 8 ≤ m.at
  further_past x y m i j k =
      let w = further_whole y j in
      omega (arith, (kids_inside y w.bytes w.long m k).0, (others_range y j).0, (top_range x i).1, body_end x (among_all IsRiffHead (top a) top_heads x i), others_begin, top_end)

  -- a chunk of the first form that is neither hdrl, movi nor idx1 holds no table
  pub beside_others : (x : Stood) → Among x (top a) → is_type (codes "hdrl") x.chunk ≡ false → is_movi x.chunk ≡ false → has_id (codes "idx1") x.chunk ≡ false → (p n : ℕ) → Lies a p n → (p + n ≤ x.at) ⊎ (x.at + 8 + length x.chunk.body + 8 ≤ p)
  unfolding stream_top movi_top old_top
  beside_others x i h m d p n (in_stream s) = beside x i p n (stream_top p n s) (λ e. let t = subst (λ (z : Stood). is_type (codes "hdrl") z.chunk ≡ true) e (hdrl_whole s.hdrl s.hdrl_among).1 in absurd cc)
  beside_others x i h m d p n (in_movi s) = beside x i p n (movi_top p n s) (λ e. let t = subst (λ (z : Stood). is_movi z.chunk ≡ true) e s.movi_is in absurd cc)
  beside_others x i h m d p n (in_old s) = beside x i p n (old_top p n s) (λ e. let t = subst (λ (z : Stood). has_id (codes "idx1") z.chunk ≡ true) e s.chunk_is in absurd cc)
  beside_others x i h m d p n (in_further s) = inr (omega (arith, further_low p n s, others_begin, top_end, (top_range x i).1, body_end x (among_all IsRiffHead (top a) top_heads x i)))

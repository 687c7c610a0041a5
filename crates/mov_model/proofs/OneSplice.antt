-- The new file as one splice: the ranges between all spans put a place where the slots alone shift it.
use Rattle.std.proofs.Common.{◌≡◌, ℕ, ◌+◌, ◌<◌, ◌≤◌, Bool, true, false, cond, List, [], ◌∷◌, ◌++◌, length, map, Some, refl, ap, subst, ◌∙◌, arith, inl, inr}
use Rattle.std.specs.Prelude.{◌⊎◌, codes}
use Rattle.std.specs.List.{AllByRecursion, flat_map}
use Rattle.std.proofs.lemmas.Bool.{cases_lt, le-leb, lt-leb}
use Rattle.std.proofs.lemmas.List.{append-nil}
use Rattle.me_bytes.specs.Bytes.{IsBytes}
use Rattle.part_tree.specs.declared.field.EditItem.{EditItem}
use Rattle.carrier_model.proofs.Gaps.{places_put}
use Rattle.container_model.proofs.Rows.{be32_spells, be64_spells, spelled_len}
use Rattle.container_model.proofs.Walk.{all_join}
use Rattle.container_model.specs.Atoms.{is}
use Rattle.container_model.specs.Chunk.{Chunk, spell, spell_all}
use Rattle.container_model.specs.Cuts.{cuts_with}
use Rattle.container_model.specs.Rows.{be32, be64}
use Rattle.container_model.specs.Splice.{Ascend, Cut, Outside, end_of, gained, lost, shift}
use Rattle.container_model.specs.Units.{Fill, Piece, copied, cut_of, cuts, replaced}
use Rattle.container_model.specs.Walk.{Step, chunk_at, end_at, walk}
use Rattle.mov_model.specs.Atoms.{Place, dinf, file, format, mdia, minf, moov, stbl, trak, user_data}
use Rattle.mov_model.specs.Carried.{Changes}
use Rattle.mov_model.specs.Cuts.{all_cuts, header_cut, kid_cuts, step_cuts, table_cut, table_of}
use Rattle.mov_model.specs.Edited.{changes, new_file}
use Rattle.mov_model.specs.Movie.{Movie, movie_of}
use Rattle.mov_model.specs.New.{edit_cuts, ends_file, fill, kids_at, new_movie, whole_pieces}
use Rattle.mov_model.specs.Splices.{IsOneSplice}
use Rattle.mov_model.specs.Support.{Readable}
use Rattle.mov_model.proofs.Clauses.{header_len}
use Rattle.container_model.proofs.Cuts.{AllMake}
use Rattle.mov_model.specs.Tables.{relocated}
use Rattle.mov_model.proofs.Again.{kids, kids_bytes, kids_joined, kids_read, moov_padless, whole_kids}
use Rattle.mov_model.proofs.Kids.{kids_ok}
use Rattle.mov_model.proofs.Relocated.{kids_all}
use Rattle.mov_model.proofs.Spliced.{ascend_law, new_law, whole_makes}
use Rattle.mov_model.proofs.Why.{kids_supported}
use Rattle.sample_tables.specs.Tables.{count}

-- ---- spans of the same length

abbrev SameLength : Cut → Type 0
SameLength x = length x.bytes ≡ x.len

step_same : (f : ℕ → ℕ) (s : Step Place) → AllByRecursion SameLength (step_cuts f s)
step_same f (chunk_at stbl at c) = go (is c (codes "stco")) (is c (codes "co64"))
  where
    go : (t u : Bool) → AllByRecursion SameLength (map (table_cut f c) (cond t (table_of be32 at c ∷ []) (cond u (table_of be64 at c ∷ []) [])))
    go true u = (spelled_len be32 _ be32_spells f (count c) _, tt)
    go false true = (spelled_len be64 _ be64_spells f (count c) _, tt)
    go false false = tt
step_same f (chunk_at file at c) = tt
step_same f (chunk_at user_data at c) = tt
step_same f (chunk_at moov at c) = tt
step_same f (chunk_at trak at c) = tt
step_same f (chunk_at mdia at c) = tt
step_same f (chunk_at minf at c) = tt
step_same f (chunk_at dinf at c) = tt
step_same f (end_at p at stop) = tt

steps_same : (f : ℕ → ℕ) (ss : List (Step Place)) → AllByRecursion SameLength (flat_map (step_cuts f) ss)
steps_same f [] = tt
steps_same f (s ∷ ss) = all_join SameLength (step_cuts f s) (flat_map (step_cuts f) ss) (step_same f s) (steps_same f ss)

-- ---- what two lists of spans gain and lose at a place

-- they shift a place alike
abbrev Balanced : ℕ → List Cut → List Cut → Type 0
Balanced p cs ds = gained cs p + lost ds p ≡ lost cs p + gained ds p

-- a span behind a place counts nothing
past_none : (p : ℕ) (c : Cut) (cs : List Cut) → p < end_of c → (gained (c ∷ cs) p ≡ 0) × (lost (c ∷ cs) p ≡ 0)
past_none p c cs lt = let e = lt-leb (end_of c) p lt in (ap (λ (t : Bool). elim t [ true ↦ length c.bytes + gained cs p | false ↦ 0 ]) e, ap (λ (t : Bool). elim t [ true ↦ c.len + lost cs p | false ↦ 0 ]) e)

before_some : (p : ℕ) (c : Cut) (cs : List Cut) → end_of c ≤ p → (gained (c ∷ cs) p ≡ length c.bytes + gained cs p) × (lost (c ∷ cs) p ≡ c.len + lost cs p)
before_some p c cs le = let e = le-leb (end_of c) p le in (ap (λ (t : Bool). elim t [ true ↦ length c.bytes + gained cs p | false ↦ 0 ]) e, ap (λ (t : Bool). elim t [ true ↦ c.len + lost cs p | false ↦ 0 ]) e)

slots_none : (f : Fill) (at p : ℕ) (ps : List Piece) → p < at → (gained (cuts f at ps) p ≡ 0) × (lost (cuts f at ps) p ≡ 0)
slots_none f at p [] lt = (refl, refl)
slots_none f at p (copied c ∷ ps) lt = slots_none f (at + length (spell c)) p ps (omega arith)
slots_none f at p (replaced lead slot now last ∷ ps) lt = past_none p (cut_of f at lead slot now last) (cuts f (at + length (spell_all lead ++ slot)) ps) (omega arith)

first_below : (from end : ℕ) (c : Cut) (cs : List Cut) → Ascend from (c ∷ cs) end → end_of c ≤ end
first_below from end c [] h = h.1
first_below from end c (d ∷ cs) h = let r = first_below (end_of c) end d cs h.1 in omega (arith, h.1.0, r)

-- spans of the same length before others, of which the slots begin behind
same_first : (f : Fill) (at p : ℕ) (ps : List Piece) (from : ℕ) (xs rest : List Cut) → AllByRecursion SameLength xs → Ascend from xs at → Outside (xs ++ rest) p → (Outside rest p → Balanced p rest (cuts f at ps)) → Balanced p (xs ++ rest) (cuts f at ps)
same_first f at p ps from [] rest s a o again = again o
same_first f at p ps from (x ∷ xs) rest s a o again = go (cases_lt p (end_of x)) (same_first f at p ps (end_of x) xs rest s.1 a.1 o.1 again)
  where
    inside : (p < x.at) ⊎ (end_of x ≤ p) → p < end_of x → p < x.at
    inside (inl lt) h = lt
    inside (inr le) h = absurd (omega arith)

    go : (p < end_of x) ⊎ (end_of x ≤ p) → Balanced p (xs ++ rest) (cuts f at ps) → Balanced p (x ∷ (xs ++ rest)) (cuts f at ps)
    go (inl lt) later =
        let n = past_none p x (xs ++ rest) lt in
        let z = slots_none f at p ps (omega (arith, inside o.0 lt, first_below from at x xs a)) in
        omega (arith, n.0, n.1, z.0, z.1)
    go (inr le) later = let b = before_some p x (xs ++ rest) le in omega (arith, b.0, b.1, s.0, later)

both_same : (p : ℕ) (c : Cut) (cs ds : List Cut) → (end_of c ≤ p → Balanced p cs ds) → Balanced p (c ∷ cs) (c ∷ ds)
both_same p c cs ds again = go (cases_lt p (end_of c))
  where
    go : (p < end_of c) ⊎ (end_of c ≤ p) → Balanced p (c ∷ cs) (c ∷ ds)
    go (inl lt) = let a = past_none p c cs lt in let b = past_none p c ds lt in omega (arith, a.0, a.1, b.0, b.1)
    go (inr le) = let a = before_some p c cs le in let b = before_some p c ds le in omega (arith, a.0, a.1, b.0, b.1, again le)

-- the spans of copied atoms lie in them
abbrev Inside : (ℕ → Chunk → List Cut) → ℕ → List Piece → Type 0
Inside t at [] = Unit {0}
Inside t at (copied c ∷ ps) = AllByRecursion SameLength (t at c) × Ascend at (t at c) (at + length (spell c)) × Inside t (at + length (spell c)) ps
Inside t at (replaced lead slot now last ∷ ps) = Inside t (at + length (spell_all lead ++ slot)) ps

slots_alike : (t : ℕ → Chunk → List Cut) (f : Fill) (p at : ℕ) (ps : List Piece) → Inside t at ps → Outside (cuts_with t f at ps) p → Balanced p (cuts_with t f at ps) (cuts f at ps)
slots_alike t f p at [] i o = refl
slots_alike t f p at (copied c ∷ ps) i o =
    same_first f (at + length (spell c)) p ps at (t at c) (cuts_with t f (at + length (spell c)) ps) i.0 i.1 o (slots_alike t f p (at + length (spell c)) ps i.2)
slots_alike t f p at (replaced lead slot now last ∷ ps) i o =
    both_same p (cut_of f at lead slot now last) _ _ (λ le. slots_alike t f p (at + length (spell_all lead ++ slot)) ps i o.1)

balanced_shift : (p : ℕ) (cs ds : List Cut) → Balanced p cs ds → shift cs p ≡ shift ds p
balanced_shift p cs ds b = omega (arith, b)

-- ---- the spans of an edit

inside_of : (f : ℕ → ℕ) (at : ℕ) (ps : List Piece) → AllMake (kid_cuts f) (relocated f) ps → Inside (kid_cuts f) at ps
inside_of f at [] h = tt
inside_of f at (copied c ∷ ps) h =
    let end = at + length (spell c) in
    (steps_same f (walk format 5 moov at c), subst (λ (xs : List Cut). Ascend at xs end) (append-nil (kid_cuts f at c)) ((h.0 at).ascend [] end (omega arith)), inside_of f end ps h.1)
inside_of f at (replaced lead slot now last ∷ ps) h = inside_of f (at + length (spell_all lead ++ slot)) ps h

module _ (o : List ℕ) (bytes : IsBytes o) (sup : Readable o) (e : List EditItem) where
  abbrev m : Movie
  m = movie_of o

  abbrev c : Changes
  c = changes o e

  abbrev f : ℕ → ℕ
  f = shift (edit_cuts m c)

  makes : AllMake (kid_cuts f) (relocated f) (whole_pieces m c)
  makes =
      whole_makes m c (kids_joined o bytes sup) (moov_padless o bytes sup)
      (kids_all f (kids o bytes sup) (kids_read o bytes sup).0 (whole_kids (kids o bytes sup) sup.movie.tracks_end) (kids_bytes o bytes sup)) (kids_ok (kids o bytes sup) (kids_supported o sup)) (kids_bytes o bytes sup)

  balanced : (p : ℕ) → Outside (all_cuts m c) p → Balanced p (all_cuts m c) (edit_cuts m c)
  balanced p out = go (cases_lt p (end_of h))
    where
      h : Cut
      h = header_cut m (length (new_movie m c).movie.body)

      inside : (p < h.at) ⊎ (end_of h ≤ p) → p < end_of h → p < h.at
      inside (inl lt) g = lt
      inside (inr le) g = absurd (omega arith)

      slots : List Cut
      slots = cuts_with (kid_cuts (shift (edit_cuts m c))) (fill (ends_file m c)) (kids_at m c) (whole_pieces m c)

      go : (p < end_of h) ⊎ (end_of h ≤ p) → Balanced p (all_cuts m c) (edit_cuts m c)
      go (inl lt) =
          let n = past_none p h slots lt in
          let z = slots_none (fill (ends_file m c)) (kids_at m c) p (whole_pieces m c) (omega (arith, inside out.0 lt)) in
          omega (arith, n.0, n.1, z.0, z.1)
      go (inr le) =
          let b = before_some p h slots le in
          let same = header_len m.movie.form m.movie.id (length (new_movie m c).movie.body) (length m.movie.body) in
          omega (arith, b.0, b.1, same, slots_alike (kid_cuts (shift (edit_cuts m c))) (fill (ends_file m c)) p (kids_at m c) (whole_pieces m c) (inside_of (shift (edit_cuts m c)) (kids_at m c) (whole_pieces m c) makes) out.1)

  -- The new file is one splice, and the ranges between its spans put each place where the tables' places are moved.
  pub one_splice : IsOneSplice o c (new_file o e)
  one_splice =
      let up = ascend_law o e bytes sup in
      record {
        spliced = new_law o e bytes sup;
        ascend = up;
        put = λ p out lt. places_put (all_cuts m c) (length o) p up out lt ∙ ap Some (balanced_shift p (all_cuts m c) (edit_cuts m c) (balanced p out));
      }

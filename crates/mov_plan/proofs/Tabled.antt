-- The tables of chunk places that tracks tell are those of the definitions.
use Rattle.std.proofs.Common.{◌≡◌, ◌∙◌, ℕ, ◌+◌, ◌-◌, ◌≤◌, ◌<◌, Bool, true, false, cond, List, [], ◌∷◌, ◌++◌, length, map, take, drop, get_or, Option, Some, None, refl, sym, ap, arith, append-nil, append_assoc}
use Rattle.std.specs.Prelude.{IfOk, Result, codes, nat_le, not, ◌&&◌, ◌||◌}
use Rattle.std.specs.declared.result.Result.TheVariants.{Ok, Err}
use Rattle.std.specs.Int.{w32, from_be_bytes}
use Rattle.std.specs.List.{AllByRecursion, flat_map}
use Rattle.std.specs.Str.{bytes_eq}
use Rattle.std.proofs.lemmas.Bool.{le-leb, le-ltb, or_left, or_right}
use Rattle.std.proofs.lemmas.List.{drop-drop, drop-take, get_or_default, length-drop, length-take, map-append, take-take}
use Rattle.std.proofs.lemmas.List.Concat.{flat_map-append}
use Rattle.me_bytes.specs.Bytes.{IsBytes}
use Rattle.part_tree.specs.declared.names.Span.{Span}
use Rattle.part_tree.specs.declared.shows.Track.{Track}
use Rattle.container_model.specs.Atoms.{is, is_listed}
use Rattle.container_model.specs.Chunk.{Chunk, spell, spell_all}
use Rattle.container_model.specs.Deep.{Leaf}
use Rattle.container_model.specs.Items.{is_nil, listed}
use Rattle.container_model.specs.Rows.{be32, be64}
use Rattle.container_model.specs.Walk.{Step, along, body_at, chunk_at, end_at, walk}
use Rattle.container_model.proofs.Items.{same_true}
use Rattle.container_model.proofs.Walk.{sound_to, walk_nested}
use Rattle.mov_model.specs.Atoms.{Place, dinf, file, format, mdia, minf, moov, stbl, trak, user_data}
use Rattle.mov_model.specs.Cuts.{RowTable, row_tables, step_tables, table_of}
use Rattle.mov_model.specs.Map.{Kid, body_span, span_or, table_at, tables_among, track_by, track_met, tracks_of}
use Rattle.mov_model.specs.Movie.{movie_of}
use Rattle.mov_model.specs.Reading.{inside_at, inside_steps, names_of, no_twice, once}
use Rattle.mov_model.specs.Support.{Readable}
use Rattle.mov_model.specs.Why.{is_twice}
use Rattle.mov_model.proofs.Again.{kids, kids_bytes}
use Rattle.mov_model.proofs.Kids.{KidOk, kids_ok}
use Rattle.mov_model.proofs.Steps.{AtomFine, StepFine, low_prefix, step_names}
use Rattle.mov_model.proofs.Why.{kids_supported}
use Rattle.sample_tables.proofs.Moved.{long_rows}
use Rattle.mov_plan.specs.Tables.{rows_of, width_of}
use Rattle.mov_plan.specs.declared.tables.TableAt.{TableAt}
use Rattle.mov_plan.proofs.Laying.{kids_lie}
use Rattle.mov_plan.proofs.Lying.{Lies, Met, lie_first, lie_then, met_walk, no_rows, rows_inside}
use Rattle.mov_plan.proofs.Mixed.{kid_rows}
use Rattle.unit_plan.proofs.Spans.{next_item}
use Rattle.mov_plan.specs.Tracks.{track_rows}

-- ---- no table behind one that was met

-- no table of places
abbrev NoPlaces : Step Place → Type 0
NoPlaces (chunk_at stbl at c) = (is c (codes "stco") ≡ false) × (is c (codes "co64") ≡ false)
NoPlaces (chunk_at p at c) = Unit {0}
NoPlaces (end_at p at stop) = Unit {0}

once_less : (o : Option (List ℕ)) (seen rest : List (List ℕ)) → no_twice seen (listed o ++ rest) ≡ true → (is_twice o seen ≡ false) × (no_twice (listed o ++ seen) rest ≡ true)
once_less None seen rest h = (refl, h)
once_less (Some x) seen rest h = go (is_listed x seen) h
  where
    go : (t : Bool) → (not t && no_twice (x ∷ seen) rest) ≡ true → (t ≡ false) × (no_twice (x ∷ seen) rest ≡ true)
    go true h = absurd cc
    go false h = (refl, h)

-- both tables of places have this name
place_name : (c : Chunk) (t u : Bool) → is c (codes "stco") ≡ t → is c (codes "co64") ≡ u → (t || u) ≡ true → once stbl c.id ≡ Some (codes "stco")
place_name c t true e f y = rw f refl
place_name c true false e f y = ap (once stbl) (same_true c.id (codes "stco") e)
place_name c false false e f y = absurd cc

still_seen : (o : Option (List ℕ)) (seen : List (List ℕ)) → is_listed (codes "stco") seen ≡ true → is_listed (codes "stco") (listed o ++ seen) ≡ true
still_seen None seen h = h
still_seen (Some x) seen h = or_right (bytes_eq x (codes "stco")) (is_listed (codes "stco") seen) h

none_more : (ss : List (Step Place)) (seen : List (List ℕ)) → is_listed (codes "stco") seen ≡ true → no_twice seen (step_names ss) ≡ true → AllByRecursion NoPlaces ss
none_more [] seen h n = tt
none_more (end_at p at stop ∷ ss) seen h n = (tt, none_more ss seen h n)
none_more (chunk_at p at c ∷ ss) seen h n =
    let l = once_less (once p c.id) seen (step_names ss) n in
    (here p l.0, none_more ss (listed (once p c.id) ++ seen) (still_seen (once p c.id) seen h) l.1)
  where
    other : (t u : Bool) → is c (codes "stco") ≡ t → is c (codes "co64") ≡ u → is_twice (once stbl c.id) seen ≡ false → (t ≡ false) × (u ≡ false)
    other false false e f g = (refl, refl)
    other true u e f g = let named : once stbl c.id ≡ Some (codes "stco") = place_name c true u e f refl in let no : is_listed (codes "stco") seen ≡ false = sym (ap (λ (o : Option (List ℕ)). is_twice o seen) named) ∙ g in absurd cc
    other false true e f g = let named : once stbl c.id ≡ Some (codes "stco") = place_name c false true e f refl in let no : is_listed (codes "stco") seen ≡ false = sym (ap (λ (o : Option (List ℕ)). is_twice o seen) named) ∙ g in absurd cc

    here : (p : Place) → is_twice (once p c.id) seen ≡ false → NoPlaces (chunk_at p at c)
    here file g = tt
    here user_data g = tt
    here moov g = tt
    here trak g = tt
    here mdia g = tt
    here minf g = tt
    here stbl g = other (is c (codes "stco")) (is c (codes "co64")) refl refl g
    here dinf g = tt

abbrev narrow_in : List (Step Place) → List Span
narrow_in ss = flat_map (table_at (codes "stco")) ss

abbrev wide_in : List (Step Place) → List Span
wide_in ss = flat_map (table_at (codes "co64")) ss

record NoneMet (ss : List (Step Place)) : Type 0 where
  narrow : narrow_in ss ≡ []
  wide : wide_in ss ≡ []
  tables : flat_map step_tables ss ≡ []

none_met : (ss : List (Step Place)) → AllByRecursion NoPlaces ss → NoneMet ss
none_met [] h = record { narrow = refl; wide = refl; tables = refl }
none_met (end_at p at stop ∷ ss) h = let r = none_met ss h.1 in record { narrow = r.narrow; wide = r.wide; tables = r.tables }
none_met (chunk_at p at c ∷ ss) h = go p h.0 (none_met ss h.1)
  where
    go : (p : Place) → NoPlaces (chunk_at p at c) → NoneMet ss → NoneMet (chunk_at p at c ∷ ss)
    go file n r = record { narrow = r.narrow; wide = r.wide; tables = r.tables }
    go user_data n r = record { narrow = r.narrow; wide = r.wide; tables = r.tables }
    go moov n r = record { narrow = r.narrow; wide = r.wide; tables = r.tables }
    go trak n r = record { narrow = r.narrow; wide = r.wide; tables = r.tables }
    go mdia n r = record { narrow = r.narrow; wide = r.wide; tables = r.tables }
    go minf n r = record { narrow = r.narrow; wide = r.wide; tables = r.tables }
    go dinf n r = record { narrow = r.narrow; wide = r.wide; tables = r.tables }
    go stbl n r = record {
      narrow = rw n.0 r.narrow;
      wide = rw n.1 r.wide;
      tables = rw (n.0, n.1) r.tables;
    }

module _ (b : List ℕ) where
  -- ---- one table

  abbrev by : Span → Bool → List RowTable
  by s w = track_rows b (record { chunks = s; wide = w; stsc = None; stsz = None })

  abbrev Told : List Span → List Span → List RowTable → Type 0
  Told n w rs = by (span_or (n ++ w)) (is_nil n && not (is_nil w)) ≡ rs

  table_told : (w : Bool) (at : ℕ) (c : Chunk) → 8 ≤ length c.body → take (length c.body) (drop (body_at at c) b) ≡ c.body → by (body_span at c) w ≡ table_of (width_of w) at c ∷ []
  table_told w at c long met =
      let from = body_at at c in
      let n = length c.body in
      let split : 4 + (n - 4) ≡ n = omega (arith, long) in
      let tail : drop 4 c.body ≡ take (n - 4) (drop (from + 4) b)
      = ap (drop 4) (sym met) ∙ ap (λ (j : ℕ). drop 4 (take j (drop from b))) (sym split) ∙ drop-take 4 (n - 4) (drop from b) ∙ ap (take (n - 4)) (drop-drop 4 from b) in
      let head : take 4 (drop (from + 4) b) ≡ take 4 (drop 4 c.body) = sym (ap (take 4) tail ∙ take-take 4 (n - 4) (drop (from + 4) b) (omega (arith, long))) in
      let room : from + 8 ≤ length b = omega (arith, long, ap length met, length-take n (drop from b), length-drop from b) in
      ap (λ (t : Bool). cond t [] (cond (nat_le (from + 8) (length b)) (record { at = from + 8; width = width_of w; rows = from_be_bytes w32 (take 4 (drop (from + 4) b)) } ∷ []) [])) (le-ltb n 8 long)
      ∙ ap (λ (t : Bool). cond t (record { at = from + 8; width = width_of w; rows = from_be_bytes w32 (take 4 (drop (from + 4) b)) } ∷ []) []) (le-leb (from + 8) (length b) room)
      ∙ ap (λ (x : List ℕ). record { at = from + 8; width = width_of w; rows = from_be_bytes w32 x } ∷ []) head

  -- ---- the table of a track

  all_told : (ss : List (Step Place)) (seen : List (List ℕ)) → no_twice seen (step_names ss) ≡ true → AllByRecursion StepFine ss → AllByRecursion (Met b) ss → Told (narrow_in ss) (wide_in ss) (flat_map step_tables ss)
  all_told [] seen n fine met = refl
  all_told (end_at p at stop ∷ ss) seen n fine met = all_told ss seen n fine.1 met.1
  all_told (chunk_at p at c ∷ ss) seen n fine met =
      let o = once_less (once p c.id) seen (step_names ss) n in
      go p o.1 fine.0 (all_told ss (listed (once p c.id) ++ seen) o.1 fine.1 met.1)
    where
      one : (names : List (List ℕ)) → is_listed (codes "stco") (listed (Some (codes "stco")) ++ names) ≡ true
      one names = or_left (bytes_eq (codes "stco") (codes "stco")) (is_listed (codes "stco") names) refl

      table : (t u : Bool) → is c (codes "stco") ≡ t → is c (codes "co64") ≡ u → no_twice (listed (once stbl c.id) ++ seen) (step_names ss) ≡ true → StepFine (chunk_at stbl at c)
          → Told (narrow_in ss) (wide_in ss) (flat_map step_tables ss)
          → Told (cond t (body_span at c ∷ []) [] ++ narrow_in ss) (cond u (body_span at c ∷ []) [] ++ wide_in ss) (cond t (table_of be32 at c ∷ []) (cond u (table_of be64 at c ∷ []) []) ++ flat_map step_tables ss)
      table true u e f m fine again =
          let named = place_name c true u e f refl in
          let r = none_met ss (none_more ss (listed (once stbl c.id) ++ seen) (rw named (one seen)) m) in
          table_told false at c (omega (arith, (long_rows c fine.1.0).0 e)) met.0 ∙ ap (λ (rs : List RowTable). table_of be32 at c ∷ rs) (sym r.tables)
      table false true e f m fine again =
          let named = place_name c false true e f refl in
          let r = none_met ss (none_more ss (listed (once stbl c.id) ++ seen) (rw named (one seen)) m) in
          rw r.narrow (table_told true at c (omega (arith, (long_rows c fine.1.0).1 f)) met.0 ∙ ap (λ (rs : List RowTable). table_of be64 at c ∷ rs) (sym r.tables))
      table false false e f m fine again = again

      go : (p : Place) → no_twice (listed (once p c.id) ++ seen) (step_names ss) ≡ true → StepFine (chunk_at p at c) → Told (narrow_in ss) (wide_in ss) (flat_map step_tables ss)
          → Told (narrow_in (chunk_at p at c ∷ ss)) (wide_in (chunk_at p at c ∷ ss)) (flat_map step_tables (chunk_at p at c ∷ ss))
      go file m fine again = again
      go user_data m fine again = again
      go moov m fine again = again
      go trak m fine again = again
      go mdia m fine again = again
      go minf m fine again = again
      go dinf m fine again = again
      go stbl m fine again = table (is c (codes "stco")) (is c (codes "co64")) refl refl m fine again

  -- ---- all atoms of moov

  abbrev kid_at : ℕ → Chunk → List Kid
  kid_at at c = record { at = at; atom = c } ∷ []

  kid_told : (at : ℕ) (c : Chunk) → KidOk c → IsBytes c.body → Lies b at (spell c) → flat_map (track_rows b) (map track_by (track_met (record { at = at; atom = c }))) ≡ kid_rows at c
  kid_told at c k bytes lies = go (is c (codes "trak")) refl
    where
      go : (t : Bool) → is c (codes "trak") ≡ t → flat_map (track_rows b) (map track_by (cond t (tables_among (walk format 5 moov at c) ∷ []) [])) ≡ kid_rows at c
      go true e =
          let ss = walk format 5 moov at c in
          let names_once : no_twice [] (step_names ss) ≡ true = ap (λ (ls : List (Leaf Place)). no_twice [] (flat_map names_of ls)) (walk_nested format 5 moov at c) ∙ k.1.1 in
          append-nil (track_rows b (track_by (tables_among ss)))
          ∙ all_told ss [] names_once (sound_to format AtomFine low_prefix 5 moov at c k.1.0) (met_walk b 5 moov at c bytes lies)
      go false e = sym (no_rows at c e)

  kids_told : (at : ℕ) (cs : List Chunk) → AllByRecursion KidOk cs → AllByRecursion (λ c. IsBytes c.body) cs → Lies b at (spell_all cs)
      → flat_map (track_rows b) (map track_by (flat_map track_met (along kid_at at cs))) ≡ along kid_rows at cs
  kids_told at [] k bytes lies = refl
  kids_told at (c ∷ cs) k bytes lies =
      let next = at + length (spell c) in
      let here = track_met (record { at = at; atom = c }) in
      let more = flat_map track_met (along kid_at next cs) in
      ap (flat_map (track_rows b)) (map-append track_by here more)
      ∙ flat_map-append (track_rows b) (map track_by here) (map track_by more)
      ∙ ap (λ (x : List RowTable). x ++ flat_map (track_rows b) (map track_by more)) (kid_told at c k.0 bytes.0 (lie_first b at (spell c) (spell_all cs) lies))
      ∙ ap (λ (x : List RowTable). kid_rows at c ++ x) (kids_told next cs k.1 bytes.1 (lie_then b at (spell c) (spell_all cs) lies))

-- The tables that the tracks of a supported file tell are all its tables.
pub tracks_tell : (b : List ℕ) → IsBytes b → Readable b → flat_map (track_rows b) (tracks_of b) ≡ row_tables b
tracks_tell b bytes sup =
    let m = movie_of b in
    let ks = kids b bytes sup in
    kids_told b (inside_at m) ks (kids_ok ks (kids_supported b sup)) (kids_bytes b bytes sup) (kids_lie b bytes sup (record { users = []; keys = [] }))
    ∙ sym (flat_map-append step_tables (inside_steps false (inside_at m) ks) _
    ∙ append-nil (flat_map step_tables (inside_steps false (inside_at m) ks))
    ∙ rows_inside false (inside_at m) ks)

pub one_more : (F : Track → List RowTable) (xs one now : List TableAt) (row : List RowTable) (rest left : List Track) (all : List RowTable) → now ≡ xs ++ one → map rows_of one ≡ row → flat_map F left ≡ row ++ flat_map F rest
    → map rows_of xs ++ flat_map F left ≡ all → map rows_of now ++ flat_map F rest ≡ all
one_more F xs one now row rest left all is told first so_far =
    ap (λ (ys : List TableAt). map rows_of ys ++ flat_map F rest) is
    ∙ ap (λ (ys : List RowTable). ys ++ flat_map F rest) (map-append rows_of xs one)
    ∙ append_assoc (map rows_of xs) (map rows_of one) (flat_map F rest)
    ∙ ap (λ (ys : List RowTable). map rows_of xs ++ (ys ++ flat_map F rest)) told
    ∙ ap (λ (ys : List RowTable). map rows_of xs ++ ys) (sym first)
    ∙ so_far

pub ok_map : {T E : Type 0} (A Q : T → Type 0) (r : Result T E) → ((x : T) → A x → Q x) → IfOk r A → IfOk r Q
ok_map A Q (Ok x) h a = h x a
ok_map A Q (Err e) h a = tt

-- ---- the track of a number

-- what is read past the end
abbrev no_track : Track
no_track = record { chunks = record { at = 0; len = 0 }; wide = false; stsc = None; stsz = None }

pub left_track : (b : List ℕ) (ts : List Track) (i : ℕ) → i < length ts → flat_map (track_rows b) (drop i ts) ≡ track_rows b (get_or ts i no_track) ++ flat_map (track_rows b) (drop (i + 1) ts)
left_track b ts i lt = ap (flat_map (track_rows b)) (next_item ts i (get_or ts i no_track) lt (get_or_default ts i no_track (get_or ts i no_track) lt))

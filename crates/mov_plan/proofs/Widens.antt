-- Whether a movie widens is told by the rows of its tables in the file.
use Rattle.std.proofs.Common.{◌≡◌, ◌∙◌, ℕ, ◌+◌, ◌*◌, ◌<◌, Bool, true, false, cond, ltb, List, [], ◌∷◌, ◌++◌, length, map, drop, refl, sym, ap, subst, arith}
use Rattle.std.specs.Prelude.{◌==◌, ◌&&◌, ◌||◌, not, codes}
use Rattle.std.specs.List.{AllByRecursion, flat_map, list_any}
use Rattle.me_bytes.specs.Bytes.{IsBytes}
use Rattle.part_tree.specs.declared.field.EditItem.{EditItem}
use Rattle.field_model.specs.Update.{effective}
use Rattle.container_model.specs.Atoms.{is}
use Rattle.container_model.specs.Chunk.{Chunk, spell, spell_all}
use Rattle.container_model.specs.Deep.{Leaf}
use Rattle.container_model.specs.Rows.{be32, be64, numbers}
use Rattle.container_model.specs.Sizes.{inside}
use Rattle.container_model.specs.Splice.{Cut, shift}
use Rattle.container_model.specs.Units.{solids}
use Rattle.container_model.specs.Walk.{Step, along, chunk_at, chunk_met, end_at, walk}
use Rattle.container_model.proofs.Items.{same_true}
use Rattle.container_model.proofs.Read.{Atom}
use Rattle.container_model.proofs.Walk.{sound_to}
use Rattle.mov_model.specs.After.{passes_four, widens, widens_by}
use Rattle.mov_model.specs.Atoms.{Place, dinf, file, format, is_padding, mdia, minf, moov, stbl, trak, user_data}
use Rattle.mov_model.specs.Cuts.{RowTable, step_tables, table_of}
use Rattle.mov_model.specs.Edited.{changes, fields}
use Rattle.mov_model.specs.Movie.{Movie, movie_of}
use Rattle.mov_model.specs.New.{edit_cuts, kids_at}
use Rattle.mov_model.specs.Parts.{track_of, tracks}
use Rattle.mov_model.specs.Support.{Readable}
use Rattle.mov_model.specs.Tables.{in_stbl, tables}
use Rattle.mov_model.proofs.Again.{kids, kids_bytes, kids_read}
use Rattle.mov_model.proofs.Kids.{KidOk, kids_ok}
use Rattle.mov_model.proofs.Steps.{AtomFine, StepFine, low_prefix}
use Rattle.mov_model.proofs.Why.{kids_supported}
use Rattle.sample_tables.proofs.Moved.{long_rows}
use Rattle.sample_tables.specs.Tables.{rows}
use Rattle.mov_plan.specs.Planned.{AreTables}
use Rattle.mov_plan.specs.Tables.{LiesIn, passes, rows_of, widens_in, width_of}
use Rattle.mov_plan.specs.declared.tables.TableAt.{TableAt}
use Rattle.mov_plan.proofs.Laying.{Held, kids_lie, rows_are, rows_fine}
use Rattle.mov_plan.proofs.Lying.{Lies, Met, RowFine, lie_first, lie_then, met_walk, no_rows, rows_same, tables_met}
use Rattle.mov_plan.proofs.Mixed.{kid_rows}
use Rattle.mov_plan.proofs.Narrow.{width_bytes}

or_assoc : (a b c : Bool) → ((a || b) || c) ≡ (a || (b || c))
or_assoc true b c = refl
or_assoc false b c = refl

any_both : {X : Type 0} (p : X → Bool) (xs ys : List X) → list_any p (xs ++ ys) ≡ (list_any p xs || list_any p ys)
any_both p [] ys = refl
any_both p (x ∷ xs) ys = ap (λ (t : Bool). p x || t) (any_both p xs ys) ∙ sym (or_assoc (p x) (list_any p xs) (list_any p ys))

module _ (b : List ℕ) (f : ℕ → ℕ) where
  -- a place in a table of four bytes goes past these
  abbrev far : List ℕ → Bool
  far ps = list_any (λ p. ltb 4294967295 (f p)) ps

  abbrev row_passes : RowTable → Bool
  row_passes r = (r.width.bytes == 4) && far (numbers r.width r.rows (drop r.at b))

  -- ---- a table that is met

  step_passes : (at : ℕ) (c : Chunk) → AtomFine stbl c → Met b (chunk_at stbl at c) → list_any row_passes (step_tables (chunk_at stbl at c)) ≡ list_any (passes_four f) (c ∷ [])
  step_passes at c fine met = go (is c (codes "stco")) (is c (codes "co64")) refl refl
    where
      go : (t u : Bool) → is c (codes "stco") ≡ t → is c (codes "co64") ≡ u
          → list_any row_passes (cond t (table_of be32 at c ∷ []) (cond u (table_of be64 at c ∷ []) [])) ≡ list_any (passes_four f) (c ∷ [])
      go true u e i =
          let same = rows_same b be32 at c ((long_rows c fine.1.0).0 e) met in
          ap (λ (ps : List ℕ). far ps || false) (sym same) ∙ ap (λ (t : Bool). (t && far (rows be32 c)) || false) (sym e)
      go false true e i = ap (λ (t : Bool). (t && far (rows be32 c)) || false) (sym e)
      go false false e i = ap (λ (t : Bool). (t && far (rows be32 c)) || false) (sym e)

  abbrev met_tables : List (Step Place) → List Chunk
  met_tables ss = flat_map (λ (l : Leaf Place). in_stbl l.place l.chunk) (flat_map chunk_met ss)

  -- those of one step before others
  step_more : (p : Place) (at : ℕ) (c : Chunk) (ss : List (Step Place)) → list_any row_passes (step_tables (chunk_at p at c)) ≡ list_any (passes_four f) (in_stbl p c) → list_any row_passes (flat_map step_tables ss) ≡ list_any (passes_four f) (met_tables ss)
      → list_any row_passes (step_tables (chunk_at p at c) ++ flat_map step_tables ss) ≡ list_any (passes_four f) (in_stbl p c ++ met_tables ss)
  step_more p at c ss one more =
      any_both row_passes (step_tables (chunk_at p at c)) (flat_map step_tables ss)
      ∙ ap (λ (t : Bool). t || list_any row_passes (flat_map step_tables ss)) one
      ∙ ap (λ (t : Bool). list_any (passes_four f) (in_stbl p c) || t) more
      ∙ sym (any_both (passes_four f) (in_stbl p c) (met_tables ss))

  steps_pass : (ss : List (Step Place)) → AllByRecursion StepFine ss → AllByRecursion (Met b) ss → list_any row_passes (flat_map step_tables ss) ≡ list_any (passes_four f) (met_tables ss)
  steps_pass [] fine met = refl
  steps_pass (chunk_at stbl at c ∷ ss) fine met = step_more stbl at c ss (step_passes at c fine.0 met.0) (steps_pass ss fine.1 met.1)
  steps_pass (chunk_at file at c ∷ ss) fine met = step_more file at c ss refl (steps_pass ss fine.1 met.1)
  steps_pass (chunk_at user_data at c ∷ ss) fine met = step_more user_data at c ss refl (steps_pass ss fine.1 met.1)
  steps_pass (chunk_at moov at c ∷ ss) fine met = step_more moov at c ss refl (steps_pass ss fine.1 met.1)
  steps_pass (chunk_at trak at c ∷ ss) fine met = step_more trak at c ss refl (steps_pass ss fine.1 met.1)
  steps_pass (chunk_at mdia at c ∷ ss) fine met = step_more mdia at c ss refl (steps_pass ss fine.1 met.1)
  steps_pass (chunk_at minf at c ∷ ss) fine met = step_more minf at c ss refl (steps_pass ss fine.1 met.1)
  steps_pass (chunk_at dinf at c ∷ ss) fine met = step_more dinf at c ss refl (steps_pass ss fine.1 met.1)
  steps_pass (end_at p at stop ∷ ss) fine met = steps_pass ss fine.1 met.1

  -- ---- the atoms of moov

  abbrev track_passes : Chunk → Bool
  track_passes c = list_any (passes_four f) (tables c)

  abbrev kid_passes : Chunk → Bool
  kid_passes c = is c (codes "trak") && track_passes c

  kid_pass : (at : ℕ) (c : Chunk) → KidOk c → IsBytes c.body → Lies b at (spell c) → list_any row_passes (kid_rows at c) ≡ kid_passes c
  kid_pass at c k bytes lies = go (is c (codes "trak")) refl
    where
      go : (t : Bool) → is c (codes "trak") ≡ t → list_any row_passes (kid_rows at c) ≡ kid_passes c
      go true e =
          steps_pass (walk format 5 moov at c) (sound_to format AtomFine low_prefix 5 moov at c k.1.0) (met_walk b 5 moov at c bytes lies)
          ∙ ap (list_any (passes_four f)) (tables_met at c) ∙ ap (λ (t : Bool). t && track_passes c) (sym e)
      go false e = ap (list_any row_passes) (no_rows at c e) ∙ ap (λ (t : Bool). t && track_passes c) (sym e)

  kids_pass : (at : ℕ) (cs : List Chunk) → AllByRecursion KidOk cs → AllByRecursion (λ c. IsBytes c.body) cs → Lies b at (spell_all cs) → list_any row_passes (along kid_rows at cs) ≡ list_any kid_passes cs
  kids_pass at [] k bytes lies = refl
  kids_pass at (c ∷ cs) k bytes lies =
      let next = at + length (spell c) in
      any_both row_passes (kid_rows at c) (along kid_rows next cs)
      ∙ ap (λ (t : Bool). t || list_any row_passes (along kid_rows next cs)) (kid_pass at c k.0 bytes.0 (lie_first b at (spell c) (spell_all cs) lies))
      ∙ ap (λ (t : Bool). kid_passes c || t) (kids_pass next cs k.1 bytes.1 (lie_then b at (spell c) (spell_all cs) lies))

  tracks_pass : (cs : List Chunk) → AllByRecursion (Atom inside) cs → list_any track_passes (flat_map track_of (solids is_padding cs)) ≡ list_any kid_passes cs
  tracks_pass [] a = refl
  tracks_pass (c ∷ cs) a = go (is_padding c.id) (is c (codes "trak")) refl refl (tracks_pass cs a.1)
    where
      go : (t u : Bool) → is_padding c.id ≡ t → is c (codes "trak") ≡ u → list_any track_passes (flat_map track_of (solids is_padding cs)) ≡ list_any kid_passes cs
          → list_any track_passes (flat_map track_of (cond t [] (record c { pad = [] } ∷ []) ++ solids is_padding cs)) ≡ (kid_passes c || list_any kid_passes cs)
      go true true e i again = let no_pad : is_padding c.id ≡ false = rw (same_true c.id (codes "trak") i) refl in absurd cc
      go true false e i again = again ∙ ap (λ (t : Bool). (t && track_passes c) || list_any kid_passes cs) (sym i)
      go false true e i again =
          let same : record c { pad = [] } ≡ c = ap (λ (x : List ℕ). record c { pad = x }) (sym a.0.no_pad) in
          ap (λ (t : Bool). list_any track_passes (cond t (record c { pad = [] } ∷ []) [] ++ flat_map track_of (solids is_padding cs))) i
          ∙ ap (λ (d : Chunk). track_passes d || list_any track_passes (flat_map track_of (solids is_padding cs))) same
          ∙ ap (λ (t : Bool). track_passes c || t) again
          ∙ ap (λ (t : Bool). (t && track_passes c) || list_any kid_passes cs) (sym i)
      go false false e i again =
          ap (λ (t : Bool). list_any track_passes (cond t (record c { pad = [] } ∷ []) [] ++ flat_map track_of (solids is_padding cs))) i
          ∙ again ∙ ap (λ (t : Bool). (t && track_passes c) || list_any kid_passes cs) (sym i)

-- ---- the tables of a plan

by_width : (b : List ℕ) (cs : List Cut) (wide : Bool) (at rows : ℕ)
    → (not wide && list_any (λ p. ltb 4294967295 (shift cs p)) (numbers be32 rows (drop at b))) ≡ row_passes b (shift cs) (record { at = at; width = width_of wide; rows = rows })
by_width b cs true at rows = refl
by_width b cs false at rows = refl

tables_pass : (b : List ℕ) (cs : List Cut) (ts : List TableAt) → list_any (passes cs b) ts ≡ list_any (row_passes b (shift cs)) (map rows_of ts)
tables_pass b cs [] = refl
tables_pass b cs (t ∷ ts) =
    ap (λ (x : Bool). x || list_any (passes cs b) ts) (by_width b cs t.wide t.at t.rows) ∙ ap (λ (x : Bool). row_passes b (shift cs) (rows_of t) || x) (tables_pass b cs ts)

-- ---- of a supported movie

module _ (b : List ℕ) (e : List EditItem) (bytes : IsBytes b) (sup : Readable b) (ts : List TableAt) (known : AreTables b ts) where
  abbrev v : Movie
  v = movie_of b

  abbrev slots : List Cut
  slots = edit_cuts v (changes b e)

  abbrev ks : List Chunk
  ks = kids b bytes sup

  -- the tables lie in the file
  pub tables_lie : AllByRecursion (LiesIn b) ts
  tables_lie = each ts (subst (AllByRecursion (RowFine b (Held b bytes sup (changes b e)))) (sym known) (rows_fine b bytes sup (changes b e)))
    where
      each : (ts : List TableAt) → AllByRecursion (RowFine b (Held b bytes sup (changes b e))) (map rows_of ts) → AllByRecursion (LiesIn b) ts
      each [] h = tt
      each (t ∷ ts) h = (omega (arith, h.0.0, ap (λ (k : ℕ). k * t.rows) (width_bytes t.wide)), each ts h.1)

  -- An edit of which an item has an effect widens the movie where a place in a table of four bytes goes past these.
  pub widens_told : 0 < length (effective (fields b) e) → widens b e ≡ widens_in slots b ts
  widens_told some =
      with_effect (effective (fields b) e) some
      ∙ tracks_pass b (shift slots) ks (kids_read b bytes sup).0
      ∙ sym (kids_pass b (shift slots) (kids_at v (changes b e)) ks (kids_ok ks (kids_supported b sup)) (kids_bytes b bytes sup) (kids_lie b bytes sup (changes b e)))
      ∙ ap (list_any (row_passes b (shift slots))) (sym (rows_are b bytes sup (changes b e)) ∙ sym known)
      ∙ sym (tables_pass b slots ts)
    where
      with_effect : (is : List EditItem) → 0 < length is → widens_by (movie_of b) (changes b e) is ≡ list_any (λ (t : Chunk). list_any (passes_four (shift (edit_cuts (movie_of b) (changes b e)))) (tables t)) (tracks (movie_of b))
      with_effect [] h = absurd (omega (arith, h))
      with_effect (i ∷ is) h = refl

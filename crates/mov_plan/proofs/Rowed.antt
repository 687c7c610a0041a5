-- The rows of a table whose places are moved are spelled with the new places.
use Rattle.std.proofs.Common.{◌≡◌, ◌∙◌, ℕ, zero, suc, ◌+◌, ◌-◌, ◌*◌, ◌≤◌, Bool, true, false, cond, List, [], ◌∷◌, ◌++◌, length, map, take, drop, None, Some, Option, refl, ap, arith, append-nil}
use Rattle.std.specs.Prelude.{unwrap_or}
use Rattle.std.specs.Int.{w32, w64, to_be_bytes, from_be_bytes}
use Rattle.std.specs.List.{AllByRecursion}
use Rattle.std.proofs.lemmas.List.{length-drop, length-take, drop_all}
use Rattle.me_bytes.specs.Bytes.{be, be_bytes}
use Rattle.part_tree.specs.Moves.{Move, place}
use Rattle.part_tree.specs.Plans.{Named, segment_bytes}
use Rattle.part_tree.specs.Tables.{RowsNamed, misfit, moved, moved_row, relocated, unless}
use Rattle.part_tree.specs.declared.plan.Segment.TheVariants.{Table}
use Rattle.part_tree.specs.declared.table.TableForm.TheVariants.{Chunks32, Chunks64, Widen}
use Rattle.container_model.specs.Rows.{be32, be64, numbers, spelled}
use Rattle.container_model.specs.Splice.{Cut}
use Rattle.mov_model.specs.Cuts.{RowTable}
use Rattle.mov_plan.specs.Tables.{form_of, rows_of, table_in, table_len, table_segment, width_of}
use Rattle.mov_plan.specs.declared.tables.TableAt.{TableAt}

-- the rows of a table of a file as a span, each with its new place
abbrev pub row_cut : (ℕ → ℕ) → List ℕ → RowTable → Cut
row_cut f b r = record { at = r.at; len = r.width.bytes * r.rows; bytes = spelled r.width (map f (numbers r.width r.rows (drop r.at b))) }

-- the same, with each new place in eight bytes
abbrev pub wide_row : (ℕ → ℕ) → List ℕ → RowTable → Cut
wide_row f b r = record { at = r.at; len = r.width.bytes * r.rows; bytes = spelled be64 (map f (numbers r.width r.rows (drop r.at b))) }

-- ---- the number that a row spells

pub be_four : (b : List ℕ) → length b ≡ 4 → be b ≡ from_be_bytes w32 b
be_four [] e = absurd (omega (arith, e))
be_four (x ∷ []) e = absurd (omega (arith, e))
be_four (x ∷ (y ∷ [])) e = absurd (omega (arith, e))
be_four (x ∷ (y ∷ (z ∷ []))) e = absurd (omega (arith, e))
be_four (x ∷ (y ∷ (z ∷ (w ∷ [])))) e = omega arith
be_four (x ∷ (y ∷ (z ∷ (w ∷ (v ∷ b))))) e = absurd (omega (arith, e))

pub be_eight : (b : List ℕ) → length b ≡ 8 → be b ≡ from_be_bytes w64 b
be_eight [] e = absurd (omega (arith, e))
be_eight (a ∷ []) e = absurd (omega (arith, e))
be_eight (a ∷ (b ∷ [])) e = absurd (omega (arith, e))
be_eight (a ∷ (b ∷ (c ∷ []))) e = absurd (omega (arith, e))
be_eight (a ∷ (b ∷ (c ∷ (d ∷ [])))) e = absurd (omega (arith, e))
be_eight (a ∷ (b ∷ (c ∷ (d ∷ (g ∷ []))))) e = absurd (omega (arith, e))
be_eight (a ∷ (b ∷ (c ∷ (d ∷ (g ∷ (h ∷ [])))))) e = absurd (omega (arith, e))
be_eight (a ∷ (b ∷ (c ∷ (d ∷ (g ∷ (h ∷ (i ∷ []))))))) e = absurd (omega (arith, e))
be_eight (a ∷ (b ∷ (c ∷ (d ∷ (g ∷ (h ∷ (i ∷ (j ∷ [])))))))) e = omega arith
be_eight (a ∷ (b ∷ (c ∷ (d ∷ (g ∷ (h ∷ (i ∷ (j ∷ (k ∷ x))))))))) e = absurd (omega (arith, e))

-- ---- one row

pub take_self : (n : ℕ) (b : List ℕ) → length b ≡ n → take n b ≡ b
take_self n b e = Rattle.std.proofs.lemmas.List.take_all n b (omega (arith, e))

unless_none : (o : Option ℕ) (row new : List ℕ) → o ≡ None → unless o row new ≡ new
unless_none o row new e = ap (λ (x : Option ℕ). unless x row new) e

module _ (ms : List Move) (f : ℕ → ℕ) where
  four_row : (row : List ℕ) → length row ≡ 4 → misfit ms Chunks32 row ≡ None → moved ms (from_be_bytes w32 row) ≡ f (from_be_bytes w32 row) → moved_row ms Chunks32 row ≡ to_be_bytes w32 (f (from_be_bytes w32 row))
  four_row row long named put =
      let whole : take 4 row ≡ row = take_self 4 row long in
      let number : 0 + be (take 4 row) ≡ from_be_bytes w32 row = omega (arith, ap be whole, be_four row long) in
      let to : moved ms (0 + be (take 4 row)) - 0 ≡ f (from_be_bytes w32 row) = omega (arith, ap (moved ms) number, put) in
      unless_none (misfit ms Chunks32 row) row (be_bytes 4 (moved ms (0 + be (take 4 row)) - 0) ++ drop 4 row) named
      ∙ ap (λ (n : ℕ). be_bytes 4 n ++ drop 4 row) to
      ∙ ap (λ (x : List ℕ). be_bytes 4 (f (from_be_bytes w32 row)) ++ x) (drop_all 4 row (omega (arith, long)))
      ∙ append-nil (be_bytes 4 (f (from_be_bytes w32 row)))

  eight_row : (row : List ℕ) → length row ≡ 8 → misfit ms Chunks64 row ≡ None → moved ms (from_be_bytes w64 row) ≡ f (from_be_bytes w64 row) → moved_row ms Chunks64 row ≡ to_be_bytes w64 (f (from_be_bytes w64 row))
  eight_row row long named put =
      let whole : take 8 row ≡ row = take_self 8 row long in
      let number : 0 + be (take 8 row) ≡ from_be_bytes w64 row = omega (arith, ap be whole, be_eight row long) in
      let to : moved ms (0 + be (take 8 row)) - 0 ≡ f (from_be_bytes w64 row) = omega (arith, ap (moved ms) number, put) in
      unless_none (misfit ms Chunks64 row) row (be_bytes 8 (moved ms (0 + be (take 8 row)) - 0) ++ drop 8 row) named
      ∙ ap (λ (n : ℕ). be_bytes 8 n ++ drop 8 row) to
      ∙ ap (λ (x : List ℕ). be_bytes 8 (f (from_be_bytes w64 row)) ++ x) (drop_all 8 row (omega (arith, long)))
      ∙ append-nil (be_bytes 8 (f (from_be_bytes w64 row)))

  -- ---- all rows

  abbrev pub PutTo : List ℕ → Type 0
  PutTo ps = AllByRecursion (λ p. moved ms p ≡ f p) ps

  four_rows : (n : ℕ) (b : List ℕ) → 4 * n ≤ length b → RowsNamed ms Chunks32 n b → PutTo (numbers be32 n b) → relocated ms Chunks32 n b ≡ spelled be32 (map f (numbers be32 n b))
  four_rows zero b long named put = refl
  four_rows (suc n) b long named put =
      let step : 4 * suc n ≡ 4 + 4 * n = omega arith in
      let one = four_row (take 4 b) (omega (arith, length-take 4 b, long, step)) named.0 put.0 in
      ap (λ (x : List ℕ). x ++ relocated ms Chunks32 n (drop 4 b)) one
      ∙ ap (λ (x : List ℕ). to_be_bytes w32 (f (from_be_bytes w32 (take 4 b))) ++ x) (four_rows n (drop 4 b) (omega (arith, length-drop 4 b, long, step)) named.1 put.1)

  eight_rows : (n : ℕ) (b : List ℕ) → 8 * n ≤ length b → RowsNamed ms Chunks64 n b → PutTo (numbers be64 n b) → relocated ms Chunks64 n b ≡ spelled be64 (map f (numbers be64 n b))
  eight_rows zero b long named put = refl
  eight_rows (suc n) b long named put =
      let step : 8 * suc n ≡ 8 + 8 * n = omega arith in
      let one = eight_row (take 8 b) (omega (arith, length-take 8 b, long, step)) named.0 put.0 in
      ap (λ (x : List ℕ). x ++ relocated ms Chunks64 n (drop 8 b)) one
      ∙ ap (λ (x : List ℕ). to_be_bytes w64 (f (from_be_bytes w64 (take 8 b))) ++ x) (eight_rows n (drop 8 b) (omega (arith, length-drop 8 b, long, step)) named.1 put.1)

  widen_rows : (n : ℕ) (b : List ℕ) → 4 * n ≤ length b → PutTo (numbers be32 n b) → relocated ms Widen n b ≡ spelled be64 (map f (numbers be32 n b))
  widen_rows zero b long put = refl
  widen_rows (suc n) b long put =
      let step : 4 * suc n ≡ 4 + 4 * n = omega arith in
      let to : moved ms (be (take 4 b)) ≡ f (from_be_bytes w32 (take 4 b)) = ap (moved ms) (be_four (take 4 b) (omega (arith, length-take 4 b, long, step))) ∙ put.0 in
      ap (λ (k : ℕ). be_bytes 8 k ++ relocated ms Widen n (drop 4 b)) to
      ∙ ap (λ (x : List ℕ). to_be_bytes w64 (f (from_be_bytes w32 (take 4 b))) ++ x) (widen_rows n (drop 4 b) (omega (arith, length-drop 4 b, long, step)) put.1)

  -- ---- a table

  told_by : (b : List ℕ) (wide : Bool) (at rows : ℕ) → at + cond wide 8 4 * rows ≤ length b → Named ms b (Table (form_of wide false) at rows) → PutTo (numbers (width_of wide) rows (drop at b))
      → record { at = at; len = cond wide 8 4 * rows; bytes = segment_bytes ms b (Table (form_of wide false) at rows) } ≡ row_cut f b (record { at = at; width = width_of wide; rows = rows })
  told_by b true at rows inside named put =
      let x : relocated ms Chunks64 rows (drop at b) ≡ spelled be64 (map f (numbers be64 rows (drop at b))) = eight_rows rows (drop at b) (omega (arith, inside, length-drop at b)) named put in
      ap (λ (y : List ℕ). record { at = at; len = 8 * rows; bytes = y }) x
  told_by b false at rows inside named put =
      let x : relocated ms Chunks32 rows (drop at b) ≡ spelled be32 (map f (numbers be32 rows (drop at b))) = four_rows rows (drop at b) (omega (arith, inside, length-drop at b)) named put in
      ap (λ (y : List ℕ). record { at = at; len = 4 * rows; bytes = y }) x

  wide_by : (b : List ℕ) (wide : Bool) (at rows : ℕ) → at + cond wide 8 4 * rows ≤ length b → Named ms b (Table (form_of wide true) at rows) → PutTo (numbers (width_of wide) rows (drop at b))
      → record { at = at; len = cond wide 8 4 * rows; bytes = segment_bytes ms b (Table (form_of wide true) at rows) } ≡ wide_row f b (record { at = at; width = width_of wide; rows = rows })
  wide_by b true at rows inside named put =
      let x : relocated ms Chunks64 rows (drop at b) ≡ spelled be64 (map f (numbers be64 rows (drop at b))) = eight_rows rows (drop at b) (omega (arith, inside, length-drop at b)) named put in
      ap (λ (y : List ℕ). record { at = at; len = 8 * rows; bytes = y }) x
  wide_by b false at rows inside named put =
      let x : relocated ms Widen rows (drop at b) ≡ spelled be64 (map f (numbers be32 rows (drop at b))) = widen_rows rows (drop at b) (omega (arith, inside, length-drop at b)) put in
      ap (λ (y : List ℕ). record { at = at; len = 4 * rows; bytes = y }) x

  pub wide_told : (b : List ℕ) (t : TableAt) → t.at + table_len t ≤ length b → Named ms b (table_segment true t) → PutTo (numbers (width_of t.wide) t.rows (drop t.at b)) → table_in true ms b t ≡ wide_row f b (rows_of t)
  wide_told b t inside named put = wide_by b t.wide t.at t.rows inside named put

  -- The rows of a table in a plan are those of the definitions.
  pub table_told : (b : List ℕ) (t : TableAt) → t.at + table_len t ≤ length b → Named ms b (table_segment false t) → PutTo (numbers (width_of t.wide) t.rows (drop t.at b)) → table_in false ms b t ≡ row_cut f b (rows_of t)
  table_told b t inside named put = told_by b t.wide t.at t.rows inside named put

-- a place that a range holds
pub put_place : (ms : List Move) (p q : ℕ) → place ms p ≡ Some q → moved ms p ≡ q
put_place ms p q e = ap (λ (o : Option ℕ). unwrap_or o p) e

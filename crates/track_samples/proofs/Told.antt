-- What the rows of a track's tables tell.
use Rattle.std.proofs.Common.{◌≡◌, ◌∙◌, ℕ, zero, suc, ◌+◌, ◌-◌, ◌*◌, ◌≤◌, Bool, true, false, cond, ltb, List, [], ◌∷◌, ◌++◌, length, map, take, drop, refl, sym, ap, arith, subst, Option, Some, None, Result, Ok, Err}
use Rattle.std.specs.Prelude.{codes, IfOk}
use Rattle.me_disk.specs.declared.depot.DepotFault.{DepotFault}
use Rattle.std.specs.List.{flat_map}
use Rattle.std.specs.Int.{w32, from_be_bytes}
use Rattle.std.proofs.lemmas.Bool.{ltb-false}
use Rattle.std.proofs.lemmas.Grind.{flat_map-append}
use Rattle.std.proofs.lemmas.List.{append-nil}
use Rattle.part_tree.specs.declared.names.Span.{Span}
use Rattle.part_tree.specs.declared.shows.Track.{Track}
use Rattle.container_model.specs.Atoms.{atom}
use Rattle.container_model.specs.Chunk.{Chunk}
use Rattle.container_model.specs.Rows.{numbers}
use Rattle.container_model.specs.Written.{slice}
use Rattle.sample_tables.specs.Counts.{place_type, rows_by, size_count, size_rows_by}
use Rattle.sample_tables.specs.Samples.{ChunkRun, runs_from, runs_in, samples_from, sizes_by, sizes_in, start_at_one}
use Rattle.sample_tables.specs.Tables.{is_short_table, places_in, size_rows}
use Rattle.sample_tables.proofs.Rows.{length_numbers}
use Rattle.track_samples.specs.Left.{AreRows, runs_of, sizes_left, width_of}
use Rattle.track_samples.specs.Places.{AreSizes}
use Rattle.track_samples.specs.Tables.{chunk_count, sample_count, table_at, table_in, tables, tail_in, total}
use Rattle.track_samples.specs.Told.{ArePlaces, AreRuns, HaveSizes}
use Rattle.track_samples.specs.declared.rows.Rows.{Rows}
use Rattle.track_samples.specs.declared.sizes.SizeTable.{SizeTable}
use Rattle.track_samples.proofs.Slices.{numbers_behind, runs_behind, short_slice}

-- the number behind version and flags
abbrev counted : List ℕ → ℕ
counted body = from_be_bytes w32 (take 4 (drop 4 body))

-- a table that is whole, or none
abbrev when : {X : Type 0} → Bool → X → List X
when t x = cond t [] (x ∷ [])

-- ---- the places of chunks

short_places : (wide : Bool) (body : List ℕ) → is_short_table (atom (place_type wide) body) ≡ ltb (length body) (8 + (width_of wide).bytes * counted body)
short_places true body = refl
short_places false body = refl

in_places : (wide : Bool) (body : List ℕ) → places_in (atom (place_type wide) body) ≡ numbers (width_of wide) (counted body) (drop 8 body)
in_places true body = refl
in_places false body = refl

pub places_told : (wide : Bool) (b : List ℕ) (s : Span) (r : Rows) → AreRows s (rows_by (width_of wide).bytes (slice b s.at s.len)) r → ArePlaces b wide s r
places_told wide b s r h =
    ap (λ (t : Bool). flat_map places_in (when t (atom (place_type wide) (slice b s.at s.len)))) (short_places wide (slice b s.at s.len))
    ∙ go (ltb (length (slice b s.at s.len)) (8 + (width_of wide).bytes * counted (slice b s.at s.len))) refl h
  where
    body : List ℕ
    body = slice b s.at s.len

    go : (t : Bool) → ltb (length (slice b s.at s.len)) (8 + (width_of wide).bytes * counted (slice b s.at s.len)) ≡ t → AreRows s (cond t None (Some (counted (slice b s.at s.len)))) r
        → flat_map places_in (when t (atom (place_type wide) (slice b s.at s.len))) ≡ numbers (width_of wide) r.count (drop r.at b)
    go true e none = sym (ap (λ (k : ℕ). numbers (width_of wide) k (drop r.at b)) none)
    go false e are =
        let n = counted (slice b s.at s.len) in
        let w = width_of wide in
        let fits : 8 + w.bytes * n ≤ length (slice b s.at s.len) = ltb-false (length (slice b s.at s.len)) (8 + w.bytes * n) e in
        let short = short_slice b s.at s.len in
        append-nil (places_in (atom (place_type wide) (slice b s.at s.len)))
        ∙ in_places wide (slice b s.at s.len)
        ∙ numbers_behind wide b s.at s.len 8 n (omega (arith, fits, short)) (omega (arith, fits, short))
        ∙ ap (λ (i : ℕ). numbers w n (drop i b)) (sym are.1)
        ∙ ap (λ (k : ℕ). numbers w k (drop r.at b)) (sym are.0)

-- ---- the samples in chunks

pub no_runs_told : (b : List ℕ) (r : Rows) → r.count ≡ 0 → AreRuns b None r
no_runs_told b r none = sym (ap (λ (k : ℕ). runs_from k (drop r.at b)) none)

pub runs_told : (b : List ℕ) (s : Span) (r : Rows) → AreRows s (rows_by 12 (slice b s.at s.len)) r → AreRuns b (Some s) r
runs_told b s r h = go (ltb (length (slice b s.at s.len)) (8 + 12 * counted (slice b s.at s.len))) refl h
  where
    go : (t : Bool) → ltb (length (slice b s.at s.len)) (8 + 12 * counted (slice b s.at s.len)) ≡ t → AreRows s (cond t None (Some (counted (slice b s.at s.len)))) r
        → flat_map runs_in (when t (atom (codes "stsc") (slice b s.at s.len))) ≡ runs_from r.count (drop r.at b)
    go true e none = sym (ap (λ (k : ℕ). runs_from k (drop r.at b)) none)
    go false e are =
        let n = counted (slice b s.at s.len) in
        let fits : 8 + 12 * n ≤ length (slice b s.at s.len) = ltb-false (length (slice b s.at s.len)) (8 + 12 * n) e in
        let short = short_slice b s.at s.len in
        append-nil (runs_in (atom (codes "stsc") (slice b s.at s.len)))
        ∙ runs_behind b s.at s.len 8 n (omega (arith, fits, short)) (omega (arith, fits, short))
        ∙ ap (λ (i : ℕ). runs_from n (drop i b)) (sym are.1)
        ∙ ap (λ (k : ℕ). runs_from k (drop r.at b)) (sym are.0)

-- ---- the sizes of samples

no_sizes_left : (b : List ℕ) (t : SizeTable) → t.common ≡ 0 → t.rows.count ≡ 0 → [] ≡ sizes_left b t 0
no_sizes_left b t shared none =
    let left : t.rows.count - 0 ≡ 0 = omega arith in
    sym (ap (λ (c : ℕ). sizes_by c (t.rows.count - 0) (drop (t.rows.at + 4 * 0) b)) shared ∙ ap (λ (k : ℕ). sizes_by 0 k (drop (t.rows.at + 4 * 0) b)) left)

pub no_sizes_told : (b : List ℕ) (t : SizeTable) → t.common ≡ 0 → t.rows.count ≡ 0 → HaveSizes b None t
no_sizes_told b t shared none = no_sizes_left b t shared none

sizes_behind : (b : List ℕ) (at n common k : ℕ) → 12 + size_rows common k ≤ n → sizes_by common k (drop 12 (slice b at n)) ≡ sizes_by common k (drop (at + 12) b)
sizes_behind b at n zero k fits = numbers_behind false b at n 12 k (omega arith) (omega arith)
sizes_behind b at n (suc c) k fits = refl

pub sizes_told : (b : List ℕ) (s : Span) (t : SizeTable) → AreSizes (slice b s.at s.len) s (size_rows_by (slice b s.at s.len)) t → HaveSizes b (Some s) t
sizes_told b s t h = go (ltb (length (slice b s.at s.len)) (12 + size_rows (counted (slice b s.at s.len)) (size_count (slice b s.at s.len)))) refl h
  where
    go : (u : Bool) → ltb (length (slice b s.at s.len)) (12 + size_rows (counted (slice b s.at s.len)) (size_count (slice b s.at s.len))) ≡ u
        → AreSizes (slice b s.at s.len) s (cond u None (Some (size_count (slice b s.at s.len)))) t
        → flat_map sizes_in (when u (atom (codes "stsz") (slice b s.at s.len))) ≡ sizes_left b t 0
    go true e none = no_sizes_left b t none.0 none.1
    go false e are =
        let body = slice b s.at s.len in
        let n = size_count body in
        let common = counted body in
        let fits : 12 + size_rows common n ≤ length (slice b s.at s.len) = ltb-false (length (slice b s.at s.len)) (12 + size_rows common n) e in
        let short = short_slice b s.at s.len in
        let place : t.rows.at + 4 * 0 ≡ s.at + 12 = omega (arith, are.2) in
        let left : t.rows.count - 0 ≡ n = omega (arith, are.1) in
        append-nil (sizes_in (atom (codes "stsz") (slice b s.at s.len)))
        ∙ sizes_behind b s.at s.len common n (omega (arith, fits, short))
        ∙ ap (λ (i : ℕ). sizes_by common n (drop i b)) (sym place)
        ∙ ap (λ (k : ℕ). sizes_by common k (drop (t.rows.at + 4 * 0) b)) (sym left)
        ∙ ap (λ (c : ℕ). sizes_by c (t.rows.count - 0) (drop (t.rows.at + 4 * 0) b)) (sym are.0)

-- ---- what was read of a table

pub places_read : (wide : Bool) (b : List ℕ) (s : Span) (r : Result Rows DepotFault) → IfOk r (λ rows. AreRows s (rows_by (width_of wide).bytes (slice b s.at s.len)) rows) → IfOk r (ArePlaces b wide s)
places_read wide b s (Ok rows) h = places_told wide b s rows h
places_read wide b s (Err f) h = h

pub runs_read : (b : List ℕ) (s : Span) (o : Option Span) (r : Result Rows DepotFault) → o ≡ Some s → IfOk r (λ rows. AreRows s (rows_by 12 (slice b s.at s.len)) rows) → IfOk r (AreRuns b o)
runs_read b s o (Ok rows) is h = subst (λ (x : Option Span). AreRuns b x rows) (sym is) (runs_told b s rows h)
runs_read b s o (Err f) is h = h

pub sizes_read : (b : List ℕ) (s : Span) (o : Option Span) (r : Result SizeTable DepotFault) → o ≡ Some s
    → IfOk r (λ t. AreSizes (slice b s.at s.len) s (size_rows_by (slice b s.at s.len)) t) → IfOk r (HaveSizes b o)
sizes_read b s o (Ok t) is h = subst (λ (x : Option Span). HaveSizes b x t) (sym is) (sizes_told b s t h)
sizes_read b s o (Err f) is h = h

-- ---- all tables of a track

none_at : {X : Type 0} (f : Chunk → List X) (b id : List ℕ) (s : Span) → ((body : List ℕ) → f (atom id body) ≡ []) → flat_map f (table_at b id s) ≡ []
none_at f b id s h = go (is_short_table (atom id (slice b s.at s.len)))
  where
    go : (t : Bool) → flat_map f (when t (atom id (slice b s.at s.len))) ≡ []
    go true = refl
    go false = append-nil (f (atom id (slice b s.at s.len))) ∙ h (slice b s.at s.len)

none_in : {X : Type 0} (f : Chunk → List X) (b id : List ℕ) (s : Option Span) → ((body : List ℕ) → f (atom id body) ≡ []) → flat_map f (table_in b id s) ≡ []
none_in f b id None h = refl
none_in f b id (Some s) h = none_at f b id s h

no_runs_here : (wide : Bool) (body : List ℕ) → runs_in (atom (place_type wide) body) ≡ []
no_runs_here true body = refl
no_runs_here false body = refl

no_sizes_here : (wide : Bool) (body : List ℕ) → sizes_in (atom (place_type wide) body) ≡ []
no_sizes_here true body = refl
no_sizes_here false body = refl

module _ (b : List ℕ) (t : Track) where
  first : List Chunk
  first = table_at b (place_type t.wide) t.chunks

  second : List Chunk
  second = table_in b (codes "stsc") t.stsc

  third : List Chunk
  third = table_in b (codes "stsz") t.stsz

  three : {X : Type 0} (f : Chunk → List X) → flat_map f (tables b t) ≡ flat_map f first ++ (flat_map f second ++ flat_map f third)
  unfolding first second third
  three f = flat_map-append f first (second ++ third) ∙ ap (λ x. flat_map f first ++ x) (flat_map-append f second third)

  all_places : flat_map places_in (tables b t) ≡ flat_map places_in (table_at b (place_type t.wide) t.chunks)
  unfolding first second third
  all_places =
      three places_in
      ∙ ap (λ (x : List ℕ). flat_map places_in first ++ (x ++ flat_map places_in third)) (none_in places_in b (codes "stsc") t.stsc (λ body. refl))
      ∙ ap (λ (x : List ℕ). flat_map places_in first ++ x) (none_in places_in b (codes "stsz") t.stsz (λ body. refl))
      ∙ append-nil (flat_map places_in first)

  all_runs : flat_map runs_in (tables b t) ≡ flat_map runs_in (table_in b (codes "stsc") t.stsc)
  unfolding first second third
  all_runs =
      three runs_in
      ∙ ap (λ (x : List ChunkRun). x ++ (flat_map runs_in second ++ flat_map runs_in third)) (none_at runs_in b (place_type t.wide) t.chunks (no_runs_here t.wide))
      ∙ ap (λ (x : List ChunkRun). flat_map runs_in second ++ x) (none_in runs_in b (codes "stsz") t.stsz (λ body. refl))
      ∙ append-nil (flat_map runs_in second)

  all_sizes : flat_map sizes_in (tables b t) ≡ flat_map sizes_in (table_in b (codes "stsz") t.stsz)
  unfolding first second third
  all_sizes =
      three sizes_in
      ∙ ap (λ (x : List ℕ). x ++ (flat_map sizes_in second ++ flat_map sizes_in third)) (none_at sizes_in b (place_type t.wide) t.chunks (no_sizes_here t.wide))
      ∙ ap (λ (x : List ℕ). x ++ flat_map sizes_in third) (none_in sizes_in b (codes "stsc") t.stsc (λ body. refl))

  module _ (places rows : Rows) (sizes : SizeTable) (are_places : ArePlaces b t.wide t.chunks places) (are_runs : AreRuns b t.stsc rows) (have_sizes : HaveSizes b t.stsz sizes) where
    abbrev ps : List ℕ
    ps = numbers (width_of t.wide) places.count (drop places.at b)

    pub chunks_counted : chunk_count b t ≡ places.count
    chunks_counted = ap (λ (x : List ℕ). length x) (all_places ∙ are_places) ∙ length_numbers (width_of t.wide) places.count (drop places.at b)

    -- the samples by the rows that were read
    by_rows : (ms : List Span) → sample_count b ms t ≡ total (cond (start_at_one (runs_of b rows)) (samples_from (runs_of b rows) 1 (sizes_left b sizes 0) (map (tail_in b ms) ps)) [])
    by_rows ms =
        ap (λ (rs : List ChunkRun). total (cond (start_at_one rs) (samples_from rs 1 (flat_map sizes_in (tables b t)) (map (tail_in b ms) (flat_map places_in (tables b t)))) [])) (all_runs ∙ are_runs)
        ∙ ap (λ (zs : List ℕ). total (cond (start_at_one (runs_of b rows)) (samples_from (runs_of b rows) 1 zs (map (tail_in b ms) (flat_map places_in (tables b t)))) [])) (all_sizes ∙ have_sizes)
        ∙ ap (λ (xs : List ℕ). total (cond (start_at_one (runs_of b rows)) (samples_from (runs_of b rows) 1 (sizes_left b sizes 0) (map (tail_in b ms) xs)) [])) (all_places ∙ are_places)

    pub samples_counted : (ms : List Span) → true ≡ start_at_one (runs_of b rows) → sample_count b ms t ≡ total (samples_from (runs_of b rows) 1 (sizes_left b sizes 0) (map (tail_in b ms) ps))
    samples_counted ms e = by_rows ms ∙ ap (λ (u : Bool). total (cond u (samples_from (runs_of b rows) 1 (sizes_left b sizes 0) (map (tail_in b ms) ps)) [])) (sym e)

    pub no_samples : (ms : List Span) → false ≡ start_at_one (runs_of b rows) → sample_count b ms t ≡ 0
    no_samples ms e = by_rows ms ∙ ap (λ (u : Bool). total (cond u (samples_from (runs_of b rows) 1 (sizes_left b sizes 0) (map (tail_in b ms) ps)) [])) (sym e)

-- Sizes that stand in a table: the first row of an identifier that is left is the row of its number.
use Rattle.std.proofs.Common.{◌≡◌, ◌∙◌, ℕ, suc, ◌+◌, ◌-◌, ◌<◌, ◌≤◌, Bool, true, false, eqb, List, [], ◌∷◌, ◌++◌, length, drop, get_or, refl, sym, ap, arith}
use Rattle.std.specs.Prelude.{Option, Some, None, if◌then◌else◌, codes, ◌==◌, option_map}
use Rattle.std.specs.Str.{bytes_eq}
use Rattle.std.proofs.lemmas.Bool.{eqb-true}
use Rattle.std.proofs.lemmas.List.{at_drop_more, at_drop_all}
use Rattle.part_tree.specs.declared.names.FourCc.{FourCc}
use Rattle.part_tree.proofs.Places.{bytes_same}
use Rattle.container_model.specs.Chunk.{Form, wide, Header, full_header, no_header}
use Rattle.container_model.specs.Sizes.{Row, Sizes, plain, table, first_row, sized}
use Rattle.rf64_ds64.specs.Ds64.{nth_size}
use Rattle.wave_file.specs.Sized.{row_taken, taken, all_taken, times}

-- ---- one row taken

abbrev nth_by : Bool → Bool → ℕ → Option ℕ → Option ℕ → Option ℕ
nth_by hit last size next other = if hit then (if last then Some size else next) else other

abbrev first_by : Row → List Row → Bool → Option (ℕ × List Row) → Option (ℕ × List Row)
first_by r rs t f =
    elim t as (λ _. Option (ℕ × List Row)) [
      | true ↦ Some (r.size, rs)
      | false ↦ elim f as (λ _. Option (ℕ × List Row)) [ None ↦ None | Some found ↦ Some (found.0, r ∷ found.1) ]
    ]

abbrev rest_by : List Row → Option (ℕ × List Row) → List Row
rest_by rows f = elim f as (λ _. List Row) [ None ↦ rows | Some found ↦ found.1 ]

hit_taken : (id : List ℕ) (r : Row) (rs : List Row) → bytes_eq id r.id ≡ true → row_taken id (r ∷ rs) ≡ rs
hit_taken id r rs e = ap (λ (t : Bool). rest_by (r ∷ rs) (first_by r rs t (first_row id rs))) e

miss_taken : (id : List ℕ) (r : Row) (rs : List Row) → bytes_eq id r.id ≡ false → row_taken id (r ∷ rs) ≡ r ∷ row_taken id rs
miss_taken id r rs e = ap (λ (t : Bool). rest_by (r ∷ rs) (first_by r rs t (first_row id rs))) e ∙ go (first_row id rs)
  where
    go : (f : Option (ℕ × List Row)) → rest_by (r ∷ rs) (first_by r rs false f) ≡ r ∷ rest_by rs f
    go None = refl
    go (Some found) = refl

next_not_zero : (n : ℕ) → eqb (n + 1) 0 ≡ false
next_not_zero n = go (eqb (n + 1) 0) refl
  where
    go : (t : Bool) → eqb (n + 1) 0 ≡ t → t ≡ false
    go true e = absurd (omega (arith, eqb-true (n + 1) 0 e))
    go false e = refl

-- of another identifier
pub nth_other : (id other : List ℕ) (n : ℕ) (rows : List Row) → bytes_eq id other ≡ false → nth_size id n (row_taken other rows) ≡ nth_size id n rows
nth_other id other n [] e = refl
nth_other id other n (r ∷ rs) e = go (bytes_eq other r.id) refl (nth_other id other (n - 1) rs e) (nth_other id other n rs e)
  where
    go : (t : Bool) → bytes_eq other r.id ≡ t → nth_size id (n - 1) (row_taken other rs) ≡ nth_size id (n - 1) rs → nth_size id n (row_taken other rs) ≡ nth_size id n rs
        → nth_size id n (row_taken other (r ∷ rs)) ≡ nth_size id n (r ∷ rs)
    go true hit less same =
        let miss : bytes_eq id r.id ≡ false = ap (bytes_eq id) (sym (bytes_same other r.id hit)) ∙ e in
        ap (nth_size id n) (hit_taken other r rs hit) ∙ sym (ap (λ (t : Bool). nth_by t (n == 0) r.size (nth_size id (n - 1) rs) (nth_size id n rs)) miss)
    go false miss less same =
        ap (nth_size id n) (miss_taken other r rs miss)
        ∙ ap (λ (x : Option ℕ). nth_by (bytes_eq id r.id) (n == 0) r.size x (nth_size id n (row_taken other rs))) less
        ∙ ap (λ (x : Option ℕ). nth_by (bytes_eq id r.id) (n == 0) r.size (nth_size id (n - 1) rs) x) same

-- of the same one
pub nth_same : (id : List ℕ) (n : ℕ) (rows : List Row) → nth_size id n (row_taken id rows) ≡ nth_size id (n + 1) rows
nth_same id n [] = refl
nth_same id n (r ∷ rs) = go (bytes_eq id r.id) refl (nth_same id n rs)
  where
    less : n + 1 - 1 ≡ n
    less = omega arith

    go : (t : Bool) → bytes_eq id r.id ≡ t → nth_size id n (row_taken id rs) ≡ nth_size id (n + 1) rs → nth_size id n (row_taken id (r ∷ rs)) ≡ nth_size id (n + 1) (r ∷ rs)
    go true hit again =
        ap (nth_size id n) (hit_taken id r rs hit)
        ∙ sym (
        ap (λ (t : Bool). nth_by t (n + 1 == 0) r.size (nth_size id (n + 1 - 1) rs) (nth_size id (n + 1) rs)) hit
        ∙ ap (λ (t : Bool). nth_by true t r.size (nth_size id (n + 1 - 1) rs) (nth_size id (n + 1) rs)) (next_not_zero n)
        ∙ ap (λ (k : ℕ). nth_size id k rs) less
        )
    go false miss again =
        ap (nth_size id n) (miss_taken id r rs miss)
        ∙ ap (λ (t : Bool). nth_by t (n == 0) r.size (nth_size id (n - 1) (row_taken id rs)) (nth_size id n (row_taken id rs))) miss
        ∙ again
        ∙ sym (ap (λ (t : Bool). nth_by t (n + 1 == 0) r.size (nth_size id (n + 1 - 1) rs) (nth_size id (n + 1) rs)) miss)

-- ---- all rows that were taken

-- the rows that are left
abbrev pub rows_after : List FourCc → List Row → List Row
rows_after [] rows = rows
rows_after (id ∷ ids) rows = rows_after ids (if bytes_eq id.0 (codes "data") then rows else row_taken id.0 rows)

pub table_after : (ids : List FourCc) (main : ℕ) (rows : List Row) → all_taken ids (table main rows) ≡ table main (rows_after ids rows)
table_after [] main rows = refl
table_after (id ∷ ids) main rows = go (bytes_eq id.0 (codes "data")) (λ r. table_after ids main r)
  where
    go : (t : Bool) → ((r : List Row) → all_taken ids (table main r) ≡ table main (rows_after ids r))
        → all_taken ids (if t then table main rows else table main (row_taken id.0 rows)) ≡ table main (rows_after ids (if t then rows else row_taken id.0 rows))
    go true again = again rows
    go false again = again (row_taken id.0 rows)

pub plain_after : (ids : List FourCc) → all_taken ids plain ≡ plain
plain_after [] = refl
plain_after (id ∷ ids) = plain_after ids

pub nth_after : (ids : List FourCc) (id : List ℕ) (n : ℕ) (rows : List Row) → bytes_eq id (codes "data") ≡ false → nth_size id n (rows_after ids rows) ≡ nth_size id (n + times id ids) rows
nth_after [] id n rows other = ap (λ (k : ℕ). nth_size id k rows) (omega arith)
nth_after (next ∷ ids) id n rows other =
    nth_after ids id n (if bytes_eq next.0 (codes "data") then rows else row_taken next.0 rows) other
    ∙ go (bytes_eq next.0 (codes "data")) (bytes_eq id next.0) refl refl
  where
    m : ℕ
    m = n + times id ids

    go : (t u : Bool) → bytes_eq next.0 (codes "data") ≡ t → bytes_eq id next.0 ≡ u
        → nth_size id (n + times id ids) (if t then rows else row_taken next.0 rows) ≡ nth_size id (n + (if u then times id ids + 1 else times id ids)) rows
    go true true d e =
        let same : bytes_eq id (codes "data") ≡ true = ap (λ (x : List ℕ). bytes_eq x (codes "data")) (bytes_same id next.0 e) ∙ d in
        absurd cc
    go true false d e = refl
    go false true d e =
        ap (λ (x : List ℕ). nth_size id (n + times id ids) (row_taken x rows)) (sym (bytes_same id next.0 e))
        ∙ nth_same id (n + times id ids) rows ∙ ap (λ (k : ℕ). nth_size id k rows) (omega arith)
    go false false d e = nth_other id next.0 (n + times id ids) rows e

-- the first row that is left
pub first_left : (id : List ℕ) (rows : List Row) → option_map (λ (f : ℕ × List Row). f.0) (first_row id rows) ≡ nth_size id 0 rows
first_left id [] = refl
first_left id (r ∷ rs) = go (bytes_eq id r.id) (first_row id rs) (first_left id rs)
  where
    go : (t : Bool) (f : Option (ℕ × List Row)) → option_map (λ (f : ℕ × List Row). f.0) f ≡ nth_size id 0 rs
        → option_map (λ (f : ℕ × List Row). f.0) (elim t as (λ _. Option (ℕ × List Row)) [ true ↦ Some (r.size, rs) | false ↦ elim f as (λ _. Option (ℕ × List Row)) [ None ↦ None | Some found ↦ Some (found.0, r ∷ found.1) ] ])
        ≡ nth_by t true r.size (nth_size id (0 - 1) rs) (nth_size id 0 rs)
    go true f e = refl
    go false None e = e
    go false (Some found) e = e

-- ---- the sizes that headers tell

pub all_more : (ids : List FourCc) (id : FourCc) (s : Sizes) → all_taken (ids ++ id ∷ []) s ≡ taken id.0 (all_taken ids s)
all_more [] id s = refl
all_more (next ∷ ids) id s = all_more ids id (taken next.0 s)

pub sized_own : (s : Sizes) (id : List ℕ) (n : ℕ) (after : List ℕ) → (n ≡ 4294967295 → s ≡ plain) → sized s id n after ≡ full_header Form.riff id n after s
sized_own plain id n after h = refl
sized_own (table main rows) id n after h = go (eqb n 4294967295) refl
  where
    go : (t : Bool) → eqb n 4294967295 ≡ t → elim t as (λ _. Header Sizes) [
      | false ↦ full_header Form.riff id n after (table main rows)
      | true ↦ elim (bytes_eq id (100 ∷ 97 ∷ 116 ∷ 97 ∷ [])) as (λ _. Header Sizes) [
        | true ↦ full_header wide id main after (table main rows)
        | false ↦ elim (first_row id rows) as (λ _. Header Sizes) [ None ↦ no_header | Some found ↦ full_header wide id found.0 after (table main found.1) ]
      ]
    ] ≡ full_header Form.riff id n after (table main rows)
    go true e = let no = h (eqb-true n 4294967295 e) in absurd cc
    go false e = refl

abbrev sized_by : ℕ → List Row → List ℕ → List ℕ → Bool → Option (ℕ × List Row) → Header Sizes
sized_by main rows id after u f =
    elim u as (λ _. Header Sizes) [
      | true ↦ full_header wide id main after (table main rows)
      | false ↦ elim f as (λ _. Header Sizes) [ None ↦ no_header | Some found ↦ full_header wide id found.0 after (table main found.1) ]
    ]

abbrev taken_by : ℕ → List Row → List ℕ → Bool → Sizes
taken_by main rows id u = if u then table main rows else table main (row_taken id rows)

pub sized_main : (main : ℕ) (rows : List Row) (id after : List ℕ) → bytes_eq id (codes "data") ≡ true → sized (table main rows) id 4294967295 after ≡ full_header wide id main after (taken id (table main rows))
sized_main main rows id after e =
    ap (λ (u : Bool). sized_by main rows id after u (first_row id rows)) e ∙ sym (ap (λ (u : Bool). full_header wide id main after (taken_by main rows id u)) e)

pub sized_row : (main size : ℕ) (rows : List Row) (id after : List ℕ) → bytes_eq id (codes "data") ≡ false → nth_size id 0 rows ≡ Some size
    → sized (table main rows) id 4294967295 after ≡ full_header wide id size after (taken id (table main rows))
sized_row main size rows id after e h =
    ap (λ (u : Bool). sized_by main rows id after u (first_row id rows)) e
    ∙ go (first_row id rows) (first_left id rows ∙ h)
    ∙ sym (ap (λ (u : Bool). full_header wide id size after (taken_by main rows id u)) e)
  where
    go : (f : Option (ℕ × List Row)) → option_map (λ (f : ℕ × List Row). f.0) f ≡ Some size → sized_by main rows id after false f ≡ full_header wide id size after (table main (rest_by rows f))
    go None i = absurd cc
    go (Some found) i = let same : found.0 ≡ size = cc in ap (λ (k : ℕ). full_header wide id k after (table main found.1)) same

pub sized_none : (main : ℕ) (rows : List Row) (id after : List ℕ) → bytes_eq id (codes "data") ≡ false → nth_size id 0 rows ≡ None → sized (table main rows) id 4294967295 after ≡ no_header
sized_none main rows id after e h = ap (λ (u : Bool). sized_by main rows id after u (first_row id rows)) e ∙ go (first_row id rows) (first_left id rows ∙ h)
  where
    go : (f : Option (ℕ × List Row)) → option_map (λ (f : ℕ × List Row). f.0) f ≡ None → sized_by main rows id after false f ≡ no_header
    go None i = refl
    go (Some found) i = absurd cc

-- ---- the count

pub times_next : (id : List ℕ) (ids : List FourCc) (k : ℕ) (other : FourCc) → k < length ids → other ≡ get_or ids k other
    → times id (drop k ids) ≡ (if bytes_eq id other.0 then times id (drop (k + 1) ids) + 1 else times id (drop (k + 1) ids))
times_next id ids k other lt is = at_drop_more (times id) ids k other lt ∙ ap (λ (x : FourCc). if bytes_eq id x.0 then times id (drop (k + 1) ids) + 1 else times id (drop (k + 1) ids)) (sym is)

pub times_end : (id : List ℕ) (ids : List FourCc) (k : ℕ) → length ids ≤ k → times id (drop k ids) ≡ 0
times_end id ids k le = at_drop_all (times id) ids k le

pub times_few : (id : List ℕ) (ids : List FourCc) → times id ids ≤ length ids
times_few id [] = omega arith
times_few id (other ∷ ids) = go (bytes_eq id other.0) (times_few id ids)
  where
    go : (t : Bool) → times id ids ≤ length ids → (if t then times id ids + 1 else times id ids) ≤ suc (length ids)
    go true h = omega arith
    go false h = omega arith

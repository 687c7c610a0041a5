-- The rows of tables, counted and one by one.
use Rattle.std.proofs.Common.{◌≡◌, ℕ, zero, suc, ◌+◌, ◌*◌, ◌<◌, Bool, true, false, ltb, List, [], length, take, drop, get_or, replicate, refl, sym, ap, ◌∙◌, arith, Option, Some, None}
use Rattle.std.specs.Prelude.{◌||◌, codes, if◌then◌else◌, IfSome, IsTrue}
use Rattle.std.specs.Int.{w32, w64, from_be_bytes}
use Rattle.std.specs.Str.{bytes_eq}
use Rattle.std.proofs.lemmas.List.{drop-drop}
use Rattle.container_model.specs.Chunk.{Chunk}
use Rattle.container_model.specs.Rows.{Width, be32, be64, numbers}
use Rattle.container_model.specs.Atoms.{atom, is}
use Rattle.sample_tables.specs.Samples.{runs_from, runs_in, sizes_by, sizes_in}
use Rattle.sample_tables.specs.Tables.{count, places_in, size_rows}
use Rattle.sample_tables.specs.Counts.{place_table, row_len_of, rows_by, rows_told, size_count, size_rows_by}

-- ---- by the type of the table

told_by : (s c r z : Bool) (n common m len : ℕ)
    → (if ltb len (if s then 8 + 4 * n else (if c then 8 + 8 * n else (if r then 8 + 12 * n else (if z then 12 + size_rows common m else 0)))) then None else (if s then Some n else (if c then Some n else (if r then Some n else (if z then Some m else None)))))
    ≡ elim (if s then Some 4 else (if c then Some 8 else (if r then Some 12 else None))) [
      | Some k ↦ if ltb len (8 + k * n) then None else Some n
      | None ↦ if z then (if ltb len (12 + size_rows common m) then None else Some m) else None
    ]
told_by true c r z n common m len = refl
told_by false true r z n common m len = refl
told_by false false true z n common m len = refl
told_by false false false true n common m len = refl
told_by false false false false n common m len = either_way (ltb len 0) None
  where
    either_way : (t : Bool) (x : Option ℕ) → (if t then x else x) ≡ x
    either_way true x = refl
    either_way false x = refl

pub told : (id body : List ℕ) → rows_told (atom id body) ≡ elim (row_len_of id) [ Some k ↦ rows_by k body | None ↦ if bytes_eq id (codes "stsz") then size_rows_by body else None ]
told id body =
    told_by (bytes_eq id (codes "stco")) (bytes_eq id (codes "co64")) (bytes_eq id (codes "stsc")) (bytes_eq id (codes "stsz"))
    (from_be_bytes w32 (take 4 (drop 4 body))) (from_be_bytes w32 (take 4 (drop 4 body))) (size_count body) (length body)

-- ---- a row by its number

pub number_in : (w : Width) (n k : ℕ) (b : List ℕ) → k < n → get_or (numbers w n b) k 0 ≡ w.get (take w.bytes (drop (w.bytes * k) b))
number_in w zero k b lt = absurd (omega arith)
number_in w (suc n) zero b lt = let z : w.bytes * 0 ≡ 0 = omega arith in rw z refl
number_in w (suc n) (suc k) b lt =
    let step : w.bytes * suc k ≡ w.bytes * k + w.bytes = omega arith in
    number_in w n k (drop w.bytes b) (omega arith)
    ∙ ap (λ (x : List ℕ). w.get (take w.bytes x)) (drop-drop (w.bytes * k) w.bytes b ∙ ap (λ (i : ℕ). drop i b) (omega (arith, step)))

pub narrow_place : (wide : Bool) (body : List ℕ) (k : ℕ) (o : Option ℕ) → wide ≡ false → k < from_be_bytes w32 (take 4 (drop 4 body))
    → IfSome o (λ p. p ≡ from_be_bytes w32 (take 4 (drop (4 * k) (drop 8 body)))) → IfSome o (λ p. p ≡ get_or (places_in (place_table wide body)) k 0)
narrow_place true body k o w lt h = absurd cc
narrow_place false body k None w lt h = h
narrow_place false body k (Some p) w lt h = h ∙ sym (number_in be32 (from_be_bytes w32 (take 4 (drop 4 body))) k (drop 8 body) lt)

pub wide_place : (wide : Bool) (body : List ℕ) (k : ℕ) (o : Option ℕ) → wide ≡ true → k < from_be_bytes w32 (take 4 (drop 4 body))
    → IfSome o (λ p. p ≡ from_be_bytes w64 (take 8 (drop (8 * k) (drop 8 body)))) → IfSome o (λ p. p ≡ get_or (places_in (place_table wide body)) k 0)
wide_place false body k o w lt h = absurd cc
wide_place true body k None w lt h = h
wide_place true body k (Some p) w lt h = h ∙ sym (number_in be64 (from_be_bytes w32 (take 4 (drop 4 body))) k (drop 8 body) lt)

-- ---- as many as rows

pub length_numbers : (w : Width) (n : ℕ) (b : List ℕ) → length (numbers w n b) ≡ n
length_numbers w zero b = refl
length_numbers w (suc n) b = omega (arith, length_numbers w n (drop w.bytes b))

length_runs : (n : ℕ) (b : List ℕ) → length (runs_from n b) ≡ n
length_runs zero b = refl
length_runs (suc n) b = omega (arith, length_runs n (drop 12 b))

length_same : (n m : ℕ) → length (replicate n m) ≡ n
length_same zero m = refl
length_same (suc n) m = omega (arith, length_same n m)

length_sizes : (common n : ℕ) (b : List ℕ) → length (sizes_by common n b) ≡ n
length_sizes zero n b = length_numbers be32 n b
length_sizes (suc common) n b = length_same n (suc common)

-- a number that is told where a test doesn't hold
unless : (t : Bool) (n m : ℕ) → (if t then None else Some m) ≡ Some n → m ≡ n
unless true n m e = absurd cc
unless false n m e = cc

pub places_counted : (c : Chunk) (n : ℕ) → IsTrue (is c (codes "stco") || is c (codes "co64")) → rows_told c ≡ Some n → length (places_in c) ≡ n
places_counted c n h e = go (is c (codes "stco")) (is c (codes "co64")) (is c (codes "stsc")) (is c (codes "stsz")) h e
  where
    go : (s w r z : Bool) → IsTrue (s || w)
        → (if ltb (length c.body) (if s then 8 + 4 * count c else (if w then 8 + 8 * count c else (if r then 8 + 12 * count c else (if z then 12 + size_rows (count c) (size_count c.body) else 0)))) then None else (if s then Some (count c) else (if w then Some (count c) else (if r then Some (count c) else (if z then Some (size_count c.body) else None))))) ≡ Some n
        → length (if s then numbers be32 (count c) (drop 8 c.body) else (if w then numbers be64 (count c) (drop 8 c.body) else [])) ≡ n
    go true w r z h e = length_numbers be32 (count c) (drop 8 c.body) ∙ unless _ n (count c) e
    go false true r z h e = length_numbers be64 (count c) (drop 8 c.body) ∙ unless _ n (count c) e
    go false false r z h e = absurd cc

pub runs_counted : (body : List ℕ) (n : ℕ) → rows_told (atom (codes "stsc") body) ≡ Some n → length (runs_in (atom (codes "stsc") body)) ≡ n
runs_counted body n e = length_runs (count (atom (codes "stsc") body)) (drop 8 body) ∙ unless _ n _ e

pub sizes_counted : (body : List ℕ) (n : ℕ) → rows_told (atom (codes "stsz") body) ≡ Some n → length (sizes_in (atom (codes "stsz") body)) ≡ n
sizes_counted body n e = length_sizes (count (atom (codes "stsz") body)) (size_count body) (drop 12 body) ∙ unless _ n _ e

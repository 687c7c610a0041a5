-- Zeros over moved numbers are zeros over the old ones.
use Rattle.std.proofs.Common.{◌≡◌, ℕ, zero, suc, ◌-◌, ◌/◌, Bool, true, false, cond, eqb, List, [], ◌∷◌, length, take, drop, get_or, refl, ap, ◌∙◌, arith, inl}
use Rattle.std.specs.Int.{w32, to_le_bytes, from_le_bytes}
use Rattle.std.specs.List.{AllByRecursion}
use Rattle.std.proofs.Math.Nat.{div-mul-le_self}
use Rattle.std.proofs.lemmas.List.{length-take, take_at, drop_at}
use Rattle.container_model.specs.Written.{covers, written_byte, written, rows, map_rows}
use Rattle.container_model.proofs.Written.{Holds, KeepsLength, length-map_rows}
use Rattle.container_model.specs.Tables.{put32}
use Rattle.opendml_index.specs.Index.{move, blank}
use Rattle.avi_index.specs.Rows.{Base, from_start, from_movi, row_length, row_offset, old_by, old_row, old_body, count16, old_rows}
use Rattle.avi_model.proofs.Numbers.{slice_put32, old_keeps}
use Rattle.avi_model.proofs.Pieces.{holds_sixteen}

-- a range that is written twice
byte_twice : (k p x : ℕ) (a b : List ℕ) → length a ≡ length b → written_byte (record { at = k; bytes = a } ∷ []) p (written_byte (record { at = k; bytes = b } ∷ []) p x) ≡ written_byte (record { at = k; bytes = a } ∷ []) p x
byte_twice k p x a b e = go (covers (record { at = k; bytes = a }) p) (covers (record { at = k; bytes = b }) p) (rw e refl)
  where
    go : (t u : Bool) → t ≡ u → cond t (get_or a (p - k) 0) (cond u (get_or b (p - k) 0) x) ≡ cond t (get_or a (p - k) 0) x
    go true u e = refl
    go false true e = absurd cc
    go false false e = refl

pub written_twice : (k at : ℕ) (a b c : List ℕ) → length a ≡ length b → written (record { at = k; bytes = a } ∷ []) at (written (record { at = k; bytes = b } ∷ []) at c) ≡ written (record { at = k; bytes = a } ∷ []) at c
written_twice k at a b [] e = refl
written_twice k at a b (x ∷ c) e = rw (byte_twice k at x a b e, written_twice k (suc at) a b c e) refl

pub put32_twice : (k v w : ℕ) (r : List ℕ) → put32 k v (put32 k w r) ≡ put32 k v r
put32_twice k v w r = written_twice k 0 (to_le_bytes w32 v) (to_le_bytes w32 w) r refl

-- rows that are changed twice
pub rows_twice : (k : ℕ) (g h : List ℕ → List ℕ) (n : ℕ) (b : List ℕ) → KeepsLength h → Holds k n b → AllByRecursion (λ r. g (h r) ≡ g r) (rows k n b) → map_rows k g n (map_rows k h n b) ≡ map_rows k g n b
rows_twice k g h zero b l o e = refl
rows_twice k g h (suc n) b l o e =
    let len : length (h (take k b)) ≡ k = omega (arith, l (take k b), length-take k b, o.0) in
    rw (take_at (h (take k b)) (map_rows k h n (drop k b)) k len, drop_at (h (take k b)) (map_rows k h n (drop k b)) k len, e.0, rows_twice k g h n (drop k b) l o.1 e.1) refl

old_twice : (f : ℕ → ℕ) (b : Base) (r : List ℕ) → old_row blank.place b (old_row f b r) ≡ old_row blank.place b r
old_twice f from_movi r = refl
old_twice f from_start r = go (eqb (row_length r) 0) refl
  where
    go : (t : Bool) → eqb (row_length r) 0 ≡ t → old_row blank.place from_start (old_by f r from_start t) ≡ old_by blank.place r from_start t
    go true e = ap (old_by blank.place r from_start) e
    go false e =
        let r2 = put32 8 (f (row_offset r)) r in
        let len : row_length r2 ≡ row_length r = ap (from_le_bytes w32) (slice_put32 8 (f (row_offset r)) r 12 4 (inl (omega arith))) in
        ap (old_by blank.place r2 from_start) (ap (λ (k : ℕ). eqb k 0) len ∙ e) ∙ put32_twice 8 0 (f (row_offset r)) r

all_twice : (f : ℕ → ℕ) (b : Base) (rs : List (List ℕ)) → AllByRecursion (λ r. old_row blank.place b (old_row f b r) ≡ old_row blank.place b r) rs
all_twice f b [] = tt
all_twice f b (r ∷ rs) = (old_twice f b r, all_twice f b rs)

-- idx1 with zeros over moved places
pub old_blank : (f : ℕ → ℕ) (b : Base) (body : List ℕ) → old_body blank.place b (old_body f b body) ≡ old_body blank.place b body
old_blank f b body =
    let n = count16 body in
    let same : count16 (old_body f b body) ≡ n = ap (λ (k : ℕ). k / 16) (length-map_rows 16 (old_row f b) n body (old_keeps (move f) b)) in
    ap (λ (k : ℕ). map_rows 16 (old_row blank.place b) k (old_body f b body)) same
    ∙ rows_twice 16 (old_row blank.place b) (old_row f b) n body (old_keeps (move f) b) (holds_sixteen n body (div-mul-le_self (length body) 16)) (all_twice f b (old_rows body))

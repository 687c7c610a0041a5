-- Numbers that are written into rows and index bodies.
use Rattle.std.proofs.Common.{◌≡◌, ℕ, ◌+◌, ◌*◌, ◌^◌, ◌<◌, ◌≤◌, Bool, true, false, eqb, List, [], ◌∷◌, length, map, take, drop, Option, Some, None, refl, ap, ◌∙◌, arith, inl, inr}
use Rattle.std.specs.Prelude.{◌⊎◌}
use Rattle.std.specs.Str.{bytes_eq}
use Rattle.std.specs.Int.{w16, w32, w64, to_le_bytes, from_le_bytes}
use Rattle.std.proofs.lemmas.Nat.{from_le_bytes-to_le_bytes_4, from_le_bytes-to_le_bytes_8}
use Rattle.std.proofs.lemmas.List.{length-append, length-take, length-drop, drop_at}
use Rattle.container_model.specs.Written.{slice, Write, rows, map_rows}
use Rattle.container_model.proofs.Written.{length-written, slice_clear, slice_own, slice_front, slice_slice, Holds, KeepsLength, rows_map, length-map_rows}
use Rattle.container_model.specs.Tables.{le32_at, le64_at, put32, put64}
use Rattle.opendml_index.specs.Index.{How, is_super, width, used, entries, super_place, super_by, super_row, super_body, entry_length, has_second, index_base, second_by, entry_by, entry_row, first_counted, standard_with, standard_by, index_by, index_body}
use Rattle.avi_index.specs.Rows.{row_length, Base, from_start, from_movi, old_by, old_row}

-- ---- one number

pub slice_put32 : (k v : ℕ) (r : List ℕ) (j n : ℕ) → (k + 4 ≤ j) ⊎ (j + n ≤ k) → slice (put32 k v r) j n ≡ slice r j n
slice_put32 k v r j n h = slice_clear (record { at = k; bytes = to_le_bytes w32 v } ∷ []) r j n (h, tt)

pub slice_put64 : (k v : ℕ) (r : List ℕ) (j n : ℕ) → (k + 8 ≤ j) ⊎ (j + n ≤ k) → slice (put64 k v r) j n ≡ slice r j n
slice_put64 k v r j n h = slice_clear (record { at = k; bytes = to_le_bytes w64 v } ∷ []) r j n (h, tt)

pub le32_put : (k v : ℕ) (r : List ℕ) → k + 4 ≤ length r → v < 2 ^ 32 → le32_at k (put32 k v r) ≡ v
le32_put k v r h lt =
    let w : Write = record { at = k; bytes = to_le_bytes w32 v } in
    ap (from_le_bytes w32) (slice_own w (w ∷ []) r (inl refl) (inl refl, tt) h) ∙ from_le_bytes-to_le_bytes_4 v lt

pub le64_put : (k v : ℕ) (r : List ℕ) → k + 8 ≤ length r → v < 2 ^ 64 → le64_at k (put64 k v r) ≡ v
le64_put k v r h lt =
    let w : Write = record { at = k; bytes = to_le_bytes w64 v } in
    ap (from_le_bytes w64) (slice_own w (w ∷ []) r (inl refl) (inl refl, tt) h) ∙ from_le_bytes-to_le_bytes_8 v lt

pub length-put32 : (k v : ℕ) (r : List ℕ) → length (put32 k v r) ≡ length r
length-put32 k v r = length-written (record { at = k; bytes = to_le_bytes w32 v } ∷ []) 0 r

pub length-put64 : (k v : ℕ) (r : List ℕ) → length (put64 k v r) ≡ length r
length-put64 k v r = length-written (record { at = k; bytes = to_le_bytes w64 v } ∷ []) 0 r

-- ---- rows keep their lengths

pub super_keeps : (h : How) → KeepsLength (super_row h)
super_keeps h r = go (eqb (super_place r) 0)
  where
    go : (t : Bool) → length (super_by h r t) ≡ length r
    go true = refl
    go false = length-put64 0 _ r

second_keeps : (v : ℕ → ℕ) (r : List ℕ) (t : Bool) → length (second_by v r t) ≡ length r
second_keeps v r true = length-put32 8 _ r
second_keeps v r false = refl

pub entry_keeps : (v : ℕ → ℕ) → KeepsLength (entry_row v)
entry_keeps v r = go (eqb (entry_length r) 0)
  where
    go : (t : Bool) → length (entry_by v r t) ≡ length r
    go true = refl
    go false = length-put32 0 _ (second_by v r (has_second r)) ∙ second_keeps v r (has_second r)

pub old_keeps : (h : How) (b : Base) → KeepsLength (old_row h.place b)
old_keeps h b r = go b (eqb (row_length r) 0)
  where
    go : (b : Base) (t : Bool) → length (old_by h.place r b t) ≡ length r
    go from_start false = length-put32 8 _ r
    go from_start true = refl
    go from_movi t = refl

-- ---- a table with its numbers changed

-- the header of an index and its rows are there
pub record Whole (body : List ℕ) : Type 0 where
  pub header_there : 24 ≤ length body
  pub rows_there : Holds (width body) (used body) (drop 24 body)

head_len : (body : List ℕ) → 24 ≤ length body → length (take 24 body) ≡ 24
head_len body h = omega (arith, length-take 24 body)

slice_take : (n : ℕ) (b : List ℕ) (j k : ℕ) → j + k ≤ n → slice (take n b) j k ≡ slice b j k
slice_take n b j k h = let z : 0 + j ≡ j = omega arith in slice_slice b 0 n j k h ∙ ap (λ (q : ℕ). slice b q k) z

pub super_front : (h : How) (body : List ℕ) → 24 ≤ length body → (j n : ℕ) → j + n ≤ 24 → slice (super_body h body) j n ≡ slice body j n
super_front h body l j n le =
    slice_front (take 24 body) (map_rows (width body) (super_row h) (used body) (drop 24 body)) j n (omega (arith, head_len body l)) ∙ slice_take 24 body j n le

pub super_length : (h : How) (body : List ℕ) → length (super_body h body) ≡ length body
super_length h body =
    omega (arith, length-append (take 24 body) (map_rows (width body) (super_row h) (used body) (drop 24 body)), length-map_rows (width body) (super_row h) (used body) (drop 24 body) (super_keeps h), length-take 24 body, length-drop 24 body)

same_width : (a b : List ℕ) → slice a 0 2 ≡ slice b 0 2 → width a ≡ width b
same_width a b e = ap (λ (x : List ℕ). 4 * from_le_bytes w16 x) e

same_used : (a b : List ℕ) → slice a 4 4 ≡ slice b 4 4 → used a ≡ used b
same_used a b e = ap (from_le_bytes w32) e

entries_from : (k n : ℕ) (body rest : List ℕ) → width body ≡ k → used body ≡ n → drop 24 body ≡ rest → entries body ≡ rows k n rest
entries_from k n body rest a b c = rw (a, b, c) refl

pub super_entries : (h : How) (body : List ℕ) → Whole body → entries (super_body h body) ≡ map (super_row h) (entries body)
super_entries h body w =
    let x = map_rows (width body) (super_row h) (used body) (drop 24 body) in
    entries_from (width body) (used body) (super_body h body) x (same_width (super_body h body) body (super_front h body w.header_there 0 2 (omega arith))) (same_used (super_body h body) body (super_front h body w.header_there 4 4 (omega arith)))
    (drop_at (take 24 body) x 24 (head_len body w.header_there))
    ∙ rows_map (width body) (super_row h) (used body) (drop 24 body) (super_keeps h) w.rows_there

pub super_is : (h : How) (body : List ℕ) → 24 ≤ length body → is_super (super_body h body) ≡ is_super body
super_is h body l = ap (λ (x : List ℕ). bytes_eq x (0 ∷ [])) (super_front h body l 3 1 (omega arith))

module _ (nb : ℕ) (v : ℕ → ℕ) (body : List ℕ) (w : Whole body) where
  head : List ℕ
  head = put64 12 nb (take 24 body)

  tail : List ℕ
  tail = map_rows (width body) (entry_row v) (used body) (drop 24 body)

  front_len : length (put64 12 nb (take 24 body)) ≡ 24
  front_len = length-put64 12 nb (take 24 body) ∙ head_len body w.header_there

  pub standard_front : (j n : ℕ) → j + n ≤ 24 → (20 ≤ j) ⊎ (j + n ≤ 12) → slice (standard_with nb v body) j n ≡ slice body j n
  standard_front j n le m =
      slice_front (put64 12 nb (take 24 body)) (map_rows (width body) (entry_row v) (used body) (drop 24 body)) j n (omega (arith, front_len))
      ∙ slice_put64 12 nb (take 24 body) j n m ∙ slice_take 24 body j n le

  pub standard_length : length (standard_with nb v body) ≡ length body
  standard_length =
      omega (arith, length-append (put64 12 nb (take 24 body)) (map_rows (width body) (entry_row v) (used body) (drop 24 body)), length-map_rows (width body) (entry_row v) (used body) (drop 24 body) (entry_keeps v), front_len, w.header_there, length-drop 24 body)

  pub standard_entries : entries (standard_with nb v body) ≡ map (entry_row v) (entries body)
  standard_entries =
      let x = map_rows (width body) (entry_row v) (used body) (drop 24 body) in
      entries_from (width body) (used body) (standard_with nb v body) x (same_width (standard_with nb v body) body (standard_front 0 2 (omega arith) (inr (omega arith)))) (same_used (standard_with nb v body) body (standard_front 4 4 (omega arith) (inr (omega arith))))
      (drop_at (put64 12 nb (take 24 body)) x 24 front_len)
      ∙ rows_map (width body) (entry_row v) (used body) (drop 24 body) (entry_keeps v) w.rows_there

  pub standard_is : is_super (standard_with nb v body) ≡ is_super body
  standard_is = ap (λ (x : List ℕ). bytes_eq x (0 ∷ [])) (standard_front 3 1 (omega arith) (inr (omega arith)))

  pub standard_base : nb < 2 ^ 64 → index_base (standard_with nb v body) ≡ nb
  standard_base lt =
      let one : slice (standard_with nb v body) 12 8 ≡ slice (put64 12 nb (take 24 body)) 12 8 = slice_front (put64 12 nb (take 24 body)) (map_rows (width body) (entry_row v) (used body) (drop 24 body)) 12 8 (omega (arith, front_len)) in
      ap (from_le_bytes w64) one ∙ le64_put 12 nb (take 24 body) (omega (arith, head_len body w.header_there)) lt

-- an index body keeps its length and its kind
pub index_length : (h : How) (body : List ℕ) → Whole body → length (index_body h body) ≡ length body
index_length h body w = go (is_super body)
  where
    one : (x : Option ℕ) → length (standard_by h body x) ≡ length body
    one None = refl
    one (Some x) = standard_length (h.base (index_base body) (index_base body + x)) (λ y. h.offset (h.base (index_base body) (index_base body + x)) (index_base body + y)) body w

    go : (t : Bool) → length (index_by h body t) ≡ length body
    go true = super_length h body
    go false = one (first_counted (entries body))

pub index_is : (h : How) (body : List ℕ) → Whole body → is_super (index_body h body) ≡ is_super body
index_is h body w = go (is_super body)
  where
    one : (x : Option ℕ) → is_super (standard_by h body x) ≡ is_super body
    one None = refl
    one (Some x) = standard_is (h.base (index_base body) (index_base body + x)) (λ y. h.offset (h.base (index_base body) (index_base body + x)) (index_base body + y)) body w

    go : (t : Bool) → is_super (index_by h body t) ≡ is_super body
    go true = super_is h body w.header_there
    go false = one (first_counted (entries body))

-- ---- rows with changed numbers

pub super_slices : (h : How) (r : List ℕ) (j n : ℕ) → 8 ≤ j → slice (super_row h r) j n ≡ slice r j n
super_slices h r j n le = go (eqb (super_place r) 0)
  where
    go : (t : Bool) → slice (super_by h r t) j n ≡ slice r j n
    go true = refl
    go false = slice_put64 0 _ r j n (inl (omega arith))

pub old_slices : (h : How) (b : Base) (r : List ℕ) (j n : ℕ) → (12 ≤ j) ⊎ (j + n ≤ 8) → slice (old_row h.place b r) j n ≡ slice r j n
old_slices h b r j n m = go b (eqb (row_length r) 0)
  where
    go : (b : Base) (t : Bool) → slice (old_by h.place r b t) j n ≡ slice r j n
    go from_start false = slice_put32 8 _ r j n m
    go from_start true = refl
    go from_movi t = refl

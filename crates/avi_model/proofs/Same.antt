-- Tables whose places don't move are the same tables.
use Rattle.std.proofs.Common.{◌≡◌, ℕ, zero, suc, ◌+◌, ◌-◌, ◌*◌, ◌%◌, ◌^◌, ◌<◌, ◌≤◌, Bool, true, false, cond, eqb, ltb, leb, List, [], ◌∷◌, ◌++◌, length, map, take, drop, get_or, Option, Some, None, refl, sym, ap, subst, ◌∙◌, arith, inl, inr}
use Rattle.std.specs.Prelude.{◌⊎◌}
use Rattle.std.specs.Int.{w32, w64, to_le_bytes, from_le_bytes}
use Rattle.std.specs.List.{AllByRecursion}
use Rattle.std.proofs.lemmas.Bool.{cases_lt}
use Rattle.std.proofs.lemmas.Nat.{le_bytes_4, le_bytes_8}
use Rattle.std.proofs.lemmas.List.{get_or-take, get_or-drop, length-take, length-drop, take-append-drop}
use Rattle.container_model.specs.Written.{slice, Write, covers, written_byte, written, rows, map_rows}
use Rattle.container_model.proofs.Codec.{IsBytes, IsBytes-drop}
use Rattle.container_model.proofs.Fronts.{IsBytes-take}
use Rattle.container_model.proofs.Written.{covers_not, covers_it, write_end, length-slice, Holds}
use Rattle.container_model.specs.Tables.{le32_at, le64_at, put32, put64}
use Rattle.opendml_index.specs.Index.{move, width, used, entries, super_place, super_by, super_row, super_body, entry_offset, entry_length, entry_second, has_second, index_base, second_by, entry_by, entry_row, standard_with}
use Rattle.avi_index.specs.Rows.{row_offset, row_length, Base, from_start, from_movi, old_by, old_row, old_body, count16, old_rows}
use Rattle.avi_model.proofs.Among.{Among}

-- ---- bytes that are written as they stand

abbrev pub AsItStands : List ℕ → Write → Type 0
AsItStands b w = slice b w.at (length w.bytes) ≡ w.bytes

byte_stands : (b : List ℕ) (w : Write) (p : ℕ) → AsItStands b w → w.at ≤ p → p < write_end w → get_or w.bytes (p - w.at) 0 ≡ get_or b p 0
byte_stands b w p h low high =
    let back : w.at + (p - w.at) ≡ p = omega arith in
    ap (λ (x : List ℕ). get_or x (p - w.at) 0) (sym h) ∙ get_or-take (length w.bytes) (drop w.at b) (p - w.at) 0 (omega arith) ∙ get_or-drop w.at b (p - w.at) 0 ∙ ap (λ (k : ℕ). get_or b k 0) back

written_stands : (ws : List Write) (b : List ℕ) (p x : ℕ) → get_or b p 0 ≡ x → AllByRecursion (AsItStands b) ws → written_byte ws p x ≡ x
written_stands [] b p x e h = refl
written_stands (w ∷ ws) b p x e h = go (cases_lt p w.at) (cases_lt p (write_end w)) (written_stands ws b p x e h.1)
  where
    go : (p < w.at) ⊎ (w.at ≤ p) → (p < write_end w) ⊎ (write_end w ≤ p) → written_byte ws p x ≡ x → cond (covers w p) (get_or w.bytes (p - w.at) 0) (written_byte ws p x) ≡ x
    go (inl a) c again = ap (λ (t : Bool). cond t (get_or w.bytes (p - w.at) 0) (written_byte ws p x)) (covers_not w p (inr a)) ∙ again
    go (inr a) (inr c) again = ap (λ (t : Bool). cond t (get_or w.bytes (p - w.at) 0) (written_byte ws p x)) (covers_not w p (inl c)) ∙ again
    go (inr a) (inl c) again = ap (λ (t : Bool). cond t (get_or w.bytes (p - w.at) 0) (written_byte ws p x)) (covers_it w p a c) ∙ byte_stands b w p h.0 a c ∙ e

all_stand : (ws : List Write) (b pre post : List ℕ) → b ≡ pre ++ post → AllByRecursion (AsItStands b) ws → written ws (length pre) post ≡ post
all_stand ws b pre [] e h = refl
all_stand ws b pre (x ∷ post) e h =
    let z : length pre + 0 ≡ length pre = omega arith in
    let one : get_or b (length pre) 0 ≡ x = ap (λ (k : ℕ). get_or b k 0) (sym z) ∙ ap (λ (y : List ℕ). get_or y (length pre + 0) 0) e ∙ Rattle.std.proofs.lemmas.List.get_or-append-add pre (x ∷ post) 0 0 in
    let next : suc (length pre) ≡ length (pre ++ x ∷ []) = omega (arith, Rattle.std.proofs.lemmas.List.length-append pre (x ∷ [])) in
    let again = all_stand ws b (pre ++ x ∷ []) post (e ∙ sym (Rattle.std.proofs.Common.append_assoc pre (x ∷ []) post)) h in
    rw (written_stands ws b (length pre) x one h, next, again) refl

-- Bytes over which what stands there is written.
pub stands_written : (ws : List Write) (b : List ℕ) → AllByRecursion (AsItStands b) ws → written ws 0 b ≡ b
stands_written ws b h = all_stand ws b [] b refl h

-- ---- numbers

slice_bytes : (r : List ℕ) (k n : ℕ) → IsBytes r → IsBytes (slice r k n)
slice_bytes r k n h = IsBytes-take n (drop k r) (IsBytes-drop k r h)

pub put32_same : (k : ℕ) (r : List ℕ) → IsBytes r → k + 4 ≤ length r → put32 k (le32_at k r) r ≡ r
put32_same k r h l =
    let num : to_le_bytes w32 (le32_at k r) ≡ slice r k 4 = le_bytes_4 (slice r k 4) (le32_at k r) (length-slice r k 4 l) (slice_bytes r k 4 h) refl in
    stands_written (record { at = k; bytes = to_le_bytes w32 (le32_at k r) } ∷ []) r (sym num, tt)

pub put64_same : (k : ℕ) (r : List ℕ) → IsBytes r → k + 8 ≤ length r → put64 k (le64_at k r) r ≡ r
put64_same k r h l =
    let num : to_le_bytes w64 (le64_at k r) ≡ slice r k 8 = le_bytes_8 (slice r k 8) (le64_at k r) (length-slice r k 8 l) (slice_bytes r k 8 h) refl in
    stands_written (record { at = k; bytes = to_le_bytes w64 (le64_at k r) } ∷ []) r (sym num, tt)

-- ---- rows

pub rows_same : (k : ℕ) (g : List ℕ → List ℕ) (n : ℕ) (b : List ℕ) → ((r : List ℕ) → Among r (rows k n b) → g r ≡ r) → map_rows k g n b ≡ b
rows_same k g zero b h = refl
rows_same k g (suc n) b h = rw (h (take k b) (inl refl), rows_same k g n (drop k b) (λ r i. h r (inr i))) (take-append-drop k b)

pub rows_bytes : (k n : ℕ) (b : List ℕ) → IsBytes b → (r : List ℕ) → Among r (rows k n b) → IsBytes r
rows_bytes k zero b h r i = absurd i
rows_bytes k (suc n) b h r (inl e) = subst IsBytes e (IsBytes-take k b h)
rows_bytes k (suc n) b h r (inr i) = rows_bytes k n (drop k b) (IsBytes-drop k b h) r i

-- a used place that doesn't move
super_same : (f : ℕ → ℕ) (r : List ℕ) → IsBytes r → (eqb (super_place r) 0 ≡ false → (8 ≤ length r) × (f (super_place r) ≡ super_place r)) → super_row (move f) r ≡ r
super_same f r b h = go (eqb (super_place r) 0) refl
  where
    go : (t : Bool) → eqb (super_place r) 0 ≡ t → super_by (move f) r t ≡ r
    go true e = refl
    go false e = let x = h e in ap (λ (k : ℕ). put64 0 k r) x.1 ∙ put64_same 0 r b (omega (arith, x.0))

-- offsets that don't change
entry_same : (v : ℕ → ℕ) (r : List ℕ) → IsBytes r → (eqb (entry_length r) 0 ≡ false → (8 ≤ length r) × (v (entry_offset r) ≡ entry_offset r) × (has_second r ≡ true → (12 ≤ length r) × (v (entry_second r) ≡ entry_second r))) → entry_row v r ≡ r
entry_same v r b h = go (eqb (entry_length r) 0) refl
  where
    second : (u : Bool) → has_second r ≡ u → (has_second r ≡ true → (12 ≤ length r) × (v (entry_second r) ≡ entry_second r)) → second_by v r u ≡ r
    second false e g = refl
    second true e g = let x = g e in ap (λ (k : ℕ). put32 8 k r) x.1 ∙ put32_same 8 r b x.0

    go : (t : Bool) → eqb (entry_length r) 0 ≡ t → entry_by v r t ≡ r
    go true e = refl
    go false e =
        let x = h e in
        ap (put32 0 (v (entry_offset r))) (second (has_second r) refl x.2) ∙ ap (λ (k : ℕ). put32 0 k r) x.1 ∙ put32_same 0 r b (omega (arith, x.0))

old_same : (f : ℕ → ℕ) (b : Base) (r : List ℕ) → IsBytes r → (eqb (row_length r) 0 ≡ false → b ≡ from_start → (12 ≤ length r) × (f (row_offset r) ≡ row_offset r)) → old_row f b r ≡ r
old_same f from_movi r bytes h = refl
old_same f from_start r bytes h = go (eqb (row_length r) 0) refl
  where
    go : (t : Bool) → eqb (row_length r) 0 ≡ t → old_by f r from_start t ≡ r
    go true e = refl
    go false e = let x = h e refl in ap (λ (k : ℕ). put32 8 k r) x.1 ∙ put32_same 8 r bytes (omega (arith, x.0))

-- ---- tables

pub super_table_same : (f : ℕ → ℕ) (body : List ℕ) → IsBytes body → ((r : List ℕ) → Among r (entries body) → eqb (super_place r) 0 ≡ false → (8 ≤ length r) × (f (super_place r) ≡ super_place r)) → super_body (move f) body ≡ body
super_table_same f body b h =
    ap (λ (x : List ℕ). take 24 body ++ x) (rows_same (width body) (super_row (move f)) (used body) (drop 24 body) (λ r i. super_same f r (rows_bytes (width body) (used body) (drop 24 body) (IsBytes-drop 24 body b) r i) (h r i))) ∙ take-append-drop 24 body

pub standard_table_same : (nb : ℕ) (v : ℕ → ℕ) (body : List ℕ) → IsBytes body → 24 ≤ length body → nb ≡ index_base body
    → ((r : List ℕ) → Among r (entries body) → eqb (entry_length r) 0 ≡ false → (8 ≤ length r) × (v (entry_offset r) ≡ entry_offset r) × (has_second r ≡ true → (12 ≤ length r) × (v (entry_second r) ≡ entry_second r)))
    → standard_with nb v body ≡ body
standard_table_same nb v body b l same h =
    let head : put64 12 nb (take 24 body) ≡ take 24 body
    = ap (λ (k : ℕ). put64 12 k (take 24 body)) (same ∙ base_in_head) ∙ put64_same 12 (take 24 body) (IsBytes-take 24 body b) (omega (arith, length-take 24 body)) in
    ap (λ (x : List ℕ). x ++ map_rows (width body) (entry_row v) (used body) (drop 24 body)) head
    ∙ ap (λ (x : List ℕ). take 24 body ++ x) (rows_same (width body) (entry_row v) (used body) (drop 24 body) (λ r i. entry_same v r (rows_bytes (width body) (used body) (drop 24 body) (IsBytes-drop 24 body b) r i) (h r i))) ∙ take-append-drop 24 body
  where
    base_in_head : index_base body ≡ le64_at 12 (take 24 body)
    base_in_head =
        let z : 0 + 12 ≡ 12 = omega arith in
        ap (from_le_bytes w64) (sym (Rattle.container_model.proofs.Written.slice_slice body 0 24 12 8 (omega arith) ∙ ap (λ (q : ℕ). slice body q 8) z))

pub old_table_same : (f : ℕ → ℕ) (b : Base) (body : List ℕ) → IsBytes body → ((r : List ℕ) → Among r (old_rows body) → eqb (row_length r) 0 ≡ false → b ≡ from_start → (12 ≤ length r) × (f (row_offset r) ≡ row_offset r)) → old_body f b body ≡ body
old_table_same f b body bytes h = rows_same 16 (old_row f b) (count16 body) body (λ r i. old_same f b r (rows_bytes 16 (count16 body) body bytes r i) (h r i))

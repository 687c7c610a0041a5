-- Zeros over moved numbers of an index chunk are zeros over the old ones.
use Rattle.std.proofs.Common.{◌≡◌, ℕ, suc, ◌+◌, ◌-◌, ◌*◌, ◌%◌, ◌^◌, ◌<◌, ◌≤◌, Bool, true, false, cond, eqb, List, [], ◌∷◌, ◌++◌, length, map, take, drop, Option, Some, None, refl, sym, ap, ◌∙◌, arith, inl, inr}
use Rattle.std.specs.Prelude.{◌⊎◌}
use Rattle.std.specs.Int.{w32, w64, to_le_bytes, from_le_bytes}
use Rattle.std.specs.List.{AllByRecursion}
use Rattle.std.proofs.lemmas.Bool.{ne_eqb, cases_lt}
use Rattle.std.proofs.lemmas.List.{take_at, drop_at}
use Rattle.container_model.specs.Written.{slice, Write, written_byte, written, map_rows}
use Rattle.container_model.proofs.Written.{covers_not, write_end}
use Rattle.container_model.specs.Tables.{put32, put64}
use Rattle.opendml_index.specs.Index.{move, blank, is_super, width, used, entries, super_place, super_by, super_row, super_body, entry_offset, entry_length, entry_second, has_second, index_base, second_by, entry_by, entry_row, first_counted, standard_with, standard_by, index_by, index_body}
use Rattle.avi_model.proofs.Numbers.{Whole, slice_put32, length-put32, length-put64, le32_put, le64_put, super_keeps, entry_keeps, super_front, standard_front, standard_entries, standard_is, super_is}
use Rattle.avi_model.proofs.Blank.{written_twice, put32_twice, rows_twice}

put64_twice : (k v w : ℕ) (r : List ℕ) → put64 k v (put64 k w r) ≡ put64 k v r
put64_twice k v w r = written_twice k 0 (to_le_bytes w64 v) (to_le_bytes w64 w) r refl

-- two numbers that don't overlap may be written in either order
byte_swap : (v w : Write) (p x : ℕ) → (write_end v ≤ w.at) ⊎ (write_end w ≤ v.at) → written_byte (v ∷ []) p (written_byte (w ∷ []) p x) ≡ written_byte (w ∷ []) p (written_byte (v ∷ []) p x)
byte_swap v w p x h = go h (cases_lt p v.at) (cases_lt p (write_end v)) (cases_lt p w.at) (cases_lt p (write_end w))
  where
    no_v : ((write_end v ≤ p) ⊎ (p < v.at)) → written_byte (v ∷ []) p (written_byte (w ∷ []) p x) ≡ written_byte (w ∷ []) p (written_byte (v ∷ []) p x)
    no_v d = let e = covers_not v p d in rw e refl

    no_w : ((write_end w ≤ p) ⊎ (p < w.at)) → written_byte (v ∷ []) p (written_byte (w ∷ []) p x) ≡ written_byte (w ∷ []) p (written_byte (v ∷ []) p x)
    no_w d = let e = covers_not w p d in rw e refl

    go : (write_end v ≤ w.at) ⊎ (write_end w ≤ v.at) → (p < v.at) ⊎ (v.at ≤ p) → (p < write_end v) ⊎ (write_end v ≤ p) → (p < w.at) ⊎ (w.at ≤ p) → (p < write_end w) ⊎ (write_end w ≤ p) → written_byte (v ∷ []) p (written_byte (w ∷ []) p x) ≡ written_byte (w ∷ []) p (written_byte (v ∷ []) p x)
    go h (inl a) b c d = no_v (inr a)
    go h (inr a) (inr b) c d = no_v (inl b)
    go h (inr a) (inl b) (inl c) d = no_w (inr c)
    go h (inr a) (inl b) (inr c) (inr d) = no_w (inl d)
    go (inl h) (inr a) (inl b) (inr c) (inl d) = absurd (omega arith)
    go (inr h) (inr a) (inl b) (inr c) (inl d) = absurd (omega arith)

written_swap : (v w : Write) (at : ℕ) (b : List ℕ) → (write_end v ≤ w.at) ⊎ (write_end w ≤ v.at) → written (v ∷ []) at (written (w ∷ []) at b) ≡ written (w ∷ []) at (written (v ∷ []) at b)
written_swap v w at [] h = refl
written_swap v w at (x ∷ b) h = rw (byte_swap v w at x h, written_swap v w (suc at) b h) refl

put32_swap : (j k v w : ℕ) (r : List ℕ) → (j + 4 ≤ k) ⊎ (k + 4 ≤ j) → put32 j v (put32 k w r) ≡ put32 k w (put32 j v r)
put32_swap j k v w r h = written_swap (record { at = j; bytes = to_le_bytes w32 v }) (record { at = k; bytes = to_le_bytes w32 w }) 0 r h

-- ---- super entries

-- a used place moves to a place that isn't 0 and fits
abbrev pub PlaceStays : (ℕ → ℕ) → List ℕ → Type 0
PlaceStays f r = eqb (super_place r) 0 ≡ false → (8 ≤ length r) × (0 < f (super_place r)) × (f (super_place r) < 2 ^ 64)

super_twice : (f : ℕ → ℕ) (r : List ℕ) → PlaceStays f r → super_row blank (super_row (move f) r) ≡ super_row blank r
super_twice f r h = go (eqb (super_place r) 0) refl
  where
    go : (t : Bool) → eqb (super_place r) 0 ≡ t → super_row blank (super_by (move f) r t) ≡ super_by blank r t
    go true e = ap (super_by blank r) e
    go false e =
        let x = h e in
        let r2 = put64 0 (f (super_place r)) r in
        let is : super_place r2 ≡ f (super_place r) = le64_put 0 (f (super_place r)) r x.0 x.2 in
        let some : eqb (f (super_place r)) 0 ≡ false = ne_eqb (f (super_place r)) 0 (λ z. omega (arith, x.1)) in
        ap (super_by blank r2) (ap (λ (k : ℕ). eqb k 0) is ∙ some) ∙ put64_twice 0 0 (f (super_place r)) r

all_rows : (P Q : List ℕ → Type 0) → ((r : List ℕ) → P r → Q r) → (rs : List (List ℕ)) → AllByRecursion P rs → AllByRecursion Q rs
all_rows P Q g [] h = tt
all_rows P Q g (r ∷ rs) h = (g r h.0, all_rows P Q g rs h.1)

same_width : (a b : List ℕ) → slice a 0 2 ≡ slice b 0 2 → width a ≡ width b
same_width a b e = ap (λ (x : List ℕ). 4 * from_le_bytes Rattle.std.specs.Int.w16 x) e

same_used : (a b : List ℕ) → slice a 4 4 ≡ slice b 4 4 → used a ≡ used b
same_used a b e = ap (from_le_bytes w32) e

head_len : (body : List ℕ) → 24 ≤ length body → length (take 24 body) ≡ 24
head_len body h = omega (arith, Rattle.std.proofs.lemmas.List.length-take 24 body)

super_blank : (f : ℕ → ℕ) (body : List ℕ) → Whole body → AllByRecursion (PlaceStays f) (entries body) → super_body blank (super_body (move f) body) ≡ super_body blank body
super_blank f body w h =
    let x = map_rows (width body) (super_row (move f)) (used body) (drop 24 body) in
    let b2 = super_body (move f) body in
    let wide : width b2 ≡ width body = same_width b2 body (super_front (move f) body w.header_there 0 2 (omega arith)) in
    let many : used b2 ≡ used body = same_used b2 body (super_front (move f) body w.header_there 4 4 (omega arith)) in
    let front : take 24 b2 ≡ take 24 body = take_at (take 24 body) x 24 (head_len body w.header_there) in
    let back : drop 24 b2 ≡ x = drop_at (take 24 body) x 24 (head_len body w.header_there) in
    let twice = rows_twice (width body) (super_row blank) (super_row (move f)) (used body) (drop 24 body) (super_keeps (move f)) w.rows_there (all_rows (PlaceStays f) (λ r. super_row blank (super_row (move f) r) ≡ super_row blank r) (λ r g. super_twice f r g) (entries body) h) in
    ap (λ (y : List ℕ). y ++ map_rows (width b2) (super_row blank) (used b2) (drop 24 b2)) front
    ∙ ap (λ (k : ℕ). take 24 body ++ map_rows k (super_row blank) (used b2) (drop 24 b2)) wide
    ∙ ap (λ (k : ℕ). take 24 body ++ map_rows (width body) (super_row blank) k (drop 24 b2)) many
    ∙ ap (λ (y : List ℕ). take 24 body ++ map_rows (width body) (super_row blank) (used body) y) back ∙ ap (λ (y : List ℕ). take 24 body ++ y) twice

-- ---- standard entries

-- a second place stays one
abbrev pub SecondStays : (ℕ → ℕ) → List ℕ → Type 0
SecondStays v r = eqb (entry_length r) 0 ≡ false → has_second r ≡ true → (12 ≤ length r) × (0 < v (entry_second r)) × (v (entry_second r) < 2 ^ 32)

entry_twice : (v z : ℕ → ℕ) (r : List ℕ) → SecondStays v r → ((y : ℕ) → z y ≡ 0) → entry_row z (entry_row v r) ≡ entry_row z r
entry_twice v z r h zeros = go (eqb (entry_length r) 0) refl
  where
    len4 : (u : Bool) → slice (put32 0 (v (entry_offset r)) (second_by v r u)) 4 4 ≡ slice r 4 4
    len4 true = slice_put32 0 (v (entry_offset r)) (put32 8 (v (entry_second r)) r) 4 4 (inl (omega arith)) ∙ slice_put32 8 (v (entry_second r)) r 4 4 (inr (omega arith))
    len4 false = slice_put32 0 (v (entry_offset r)) r 4 4 (inl (omega arith))

    zero_put : (y : List ℕ) (t : Bool) → put32 0 (z (entry_offset y)) (second_by z y t) ≡ put32 0 0 (second_by (λ k. 0) y t)
    zero_put y true = ap (λ (k : ℕ). put32 0 k (put32 8 (z (entry_second y)) y)) (zeros (entry_offset y)) ∙ ap (λ (k : ℕ). put32 0 0 (put32 8 k y)) (zeros (entry_second y))
    zero_put y false = ap (λ (k : ℕ). put32 0 k y) (zeros (entry_offset y))

    two : (u : Bool) → has_second r ≡ u → eqb (entry_length r) 0 ≡ false → entry_row z (put32 0 (v (entry_offset r)) (second_by v r u)) ≡ put32 0 (z (entry_offset r)) (second_by z r u)
    two u d e =
        let r2 = put32 0 (v (entry_offset r)) (second_by v r u) in
        let counted : eqb (entry_length r2) 0 ≡ false = ap (λ (y : List ℕ). eqb (from_le_bytes w32 y % 2 ^ 31) 0) (len4 u) ∙ e in
        ap (entry_by z r2) counted ∙ zero_put r2 (has_second r2) ∙ ap (λ (t : Bool). put32 0 0 (second_by (λ k. 0) r2 t)) (same u d e) ∙ last u ∙ sym (zero_put r u)
      where
        same : (u : Bool) → has_second r ≡ u → eqb (entry_length r) 0 ≡ false → has_second (put32 0 (v (entry_offset r)) (second_by v r u)) ≡ u
        same true d e =
            let x = h e d in
            let s2 = put32 8 (v (entry_second r)) r in
            let len : length (put32 0 (v (entry_offset r)) s2) ≡ length r = length-put32 0 (v (entry_offset r)) s2 ∙ length-put32 8 (v (entry_second r)) r in
            let sec : entry_second (put32 0 (v (entry_offset r)) s2) ≡ v (entry_second r) = ap (from_le_bytes w32) (slice_put32 0 (v (entry_offset r)) s2 8 4 (inl (omega arith))) ∙ le32_put 8 (v (entry_second r)) r x.0 x.2 in
            let some : eqb (v (entry_second r)) 0 ≡ false = ne_eqb (v (entry_second r)) 0 (λ k. omega (arith, x.1)) in
            rw (len, sec, some, Rattle.std.proofs.lemmas.Bool.lt-ltb 8 (length r) (omega (arith, x.0))) refl
        same false d e =
            let s : slice (put32 0 (v (entry_offset r)) r) 8 4 ≡ slice r 8 4 = slice_put32 0 (v (entry_offset r)) r 8 4 (inl (omega arith)) in
            rw (length-put32 0 (v (entry_offset r)) r, s) d

        last : (u : Bool) → put32 0 0 (second_by (λ k. 0) (put32 0 (v (entry_offset r)) (second_by v r u)) u) ≡ put32 0 0 (second_by (λ k. 0) r u)
        last true =
            ap (put32 0 0) (put32_swap 8 0 0 (v (entry_offset r)) (put32 8 (v (entry_second r)) r) (inr (omega arith)))
            ∙ put32_twice 0 0 (v (entry_offset r)) (put32 8 0 (put32 8 (v (entry_second r)) r)) ∙ ap (put32 0 0) (put32_twice 8 0 (v (entry_second r)) r)
        last false = put32_twice 0 0 (v (entry_offset r)) r

    go : (t : Bool) → eqb (entry_length r) 0 ≡ t → entry_row z (entry_by v r t) ≡ entry_by z r t
    go true e = ap (entry_by z r) e
    go false e = two (has_second r) refl e

-- which entry is counted first is the same
first_same : (v : ℕ → ℕ) (es : List (List ℕ)) → first_counted es ≡ None → first_counted (map (entry_row v) es) ≡ None
first_same v [] e = refl
first_same v (r ∷ es) e = go (eqb (entry_length r) 0) refl e (first_same v es)
  where
    go : (t : Bool) → eqb (entry_length r) 0 ≡ t → cond t (first_counted es) (Some (entry_offset r)) ≡ None → (first_counted es ≡ None → first_counted (map (entry_row v) es) ≡ None) → first_counted (entry_by v r t ∷ map (entry_row v) es) ≡ None
    go true d e again = ap (λ (t : Bool). cond t (first_counted (map (entry_row v) es)) (Some (entry_offset r))) d ∙ again e
    go false d e again = absurd cc

pub record SomeCounted (es : List (List ℕ)) : Type 0 where
  pub offset : ℕ
  pub first : first_counted es ≡ Some offset

counted_length : (v : ℕ → ℕ) (r : List ℕ) → eqb (entry_length r) 0 ≡ false → eqb (entry_length (entry_row v r)) 0 ≡ false
counted_length v r e = ap (λ (t : Bool). eqb (entry_length (entry_by v r t)) 0) e ∙ ap (λ (y : List ℕ). eqb (from_le_bytes w32 y % 2 ^ 31) 0) (len4 (has_second r)) ∙ e
  where
    len4 : (u : Bool) → slice (put32 0 (v (entry_offset r)) (second_by v r u)) 4 4 ≡ slice r 4 4
    len4 true = slice_put32 0 (v (entry_offset r)) (put32 8 (v (entry_second r)) r) 4 4 (inl (omega arith)) ∙ slice_put32 8 (v (entry_second r)) r 4 4 (inr (omega arith))
    len4 false = slice_put32 0 (v (entry_offset r)) r 4 4 (inl (omega arith))

some_counted : (v : ℕ → ℕ) (es : List (List ℕ)) (x : ℕ) → first_counted es ≡ Some x → SomeCounted (map (entry_row v) es)
some_counted v [] x e = absurd cc
some_counted v (r ∷ es) x e = go (eqb (entry_length r) 0) refl e (some_counted v es x)
  where
    go : (t : Bool) → eqb (entry_length r) 0 ≡ t → cond t (first_counted es) (Some (entry_offset r)) ≡ Some x → (first_counted es ≡ Some x → SomeCounted (map (entry_row v) es)) → SomeCounted (entry_row v r ∷ map (entry_row v) es)
    go true d e again =
        let z = again e in
        let same : entry_row v r ≡ r = ap (entry_by v r) d in
        record { offset = z.offset; first = ap (λ (y : List ℕ). cond (eqb (entry_length y) 0) (first_counted (map (entry_row v) es)) (Some (entry_offset y))) same ∙ ap (λ (t : Bool). cond t (first_counted (map (entry_row v) es)) (Some (entry_offset r))) d ∙ z.first }
    go false d e again = record { offset = entry_offset (entry_row v r); first = ap (λ (t : Bool). cond t (first_counted (map (entry_row v) es)) (Some (entry_offset (entry_row v r)))) (counted_length v r d) }

standard_blank : (nb : ℕ) (v z : ℕ → ℕ) (body : List ℕ) → Whole body → AllByRecursion (SecondStays v) (entries body) → ((y : ℕ) → z y ≡ 0) → standard_with 0 z (standard_with nb v body) ≡ standard_with 0 z body
standard_blank nb v z body w h zeros =
    let head = put64 12 nb (take 24 body) in
    let x = map_rows (width body) (entry_row v) (used body) (drop 24 body) in
    let b2 = standard_with nb v body in
    let head_is : length head ≡ 24 = length-put64 12 nb (take 24 body) ∙ head_len body w.header_there in
    let wide : width b2 ≡ width body = same_width b2 body (standard_front nb v body w 0 2 (omega arith) (inr (omega arith))) in
    let many : used b2 ≡ used body = same_used b2 body (standard_front nb v body w 4 4 (omega arith) (inr (omega arith))) in
    let front : take 24 b2 ≡ head = take_at head x 24 head_is in
    let back : drop 24 b2 ≡ x = drop_at head x 24 head_is in
    let twice = rows_twice (width body) (entry_row z) (entry_row v) (used body) (drop 24 body) (entry_keeps v) w.rows_there (all_rows (SecondStays v) (λ r. entry_row z (entry_row v r) ≡ entry_row z r) (λ r g. entry_twice v z r g zeros) (entries body) h) in
    ap (λ (y : List ℕ). put64 12 0 y ++ map_rows (width b2) (entry_row z) (used b2) (drop 24 b2)) front
    ∙ ap (λ (y : List ℕ). y ++ map_rows (width b2) (entry_row z) (used b2) (drop 24 b2)) (put64_twice 12 0 nb (take 24 body))
    ∙ ap (λ (k : ℕ). put64 12 0 (take 24 body) ++ map_rows k (entry_row z) (used b2) (drop 24 b2)) wide
    ∙ ap (λ (k : ℕ). put64 12 0 (take 24 body) ++ map_rows (width body) (entry_row z) k (drop 24 b2)) many
    ∙ ap (λ (y : List ℕ). put64 12 0 (take 24 body) ++ map_rows (width body) (entry_row z) (used body) y) back ∙ ap (λ (y : List ℕ). put64 12 0 (take 24 body) ++ y) twice

-- what is asked of an index chunk whose numbers move
abbrev pub Moved_by : (ℕ → ℕ) → List ℕ → Bool → Type 0
Moved_by f body true = AllByRecursion (PlaceStays f) (entries body)
Moved_by f body false = (x : ℕ) → first_counted (entries body) ≡ Some x → AllByRecursion (SecondStays (λ y. f (index_base body + y) - ((index_base body + f (index_base body + x)) - (index_base body + x)))) (entries body)

pub index_blank : (f : ℕ → ℕ) (body : List ℕ) → Whole body → Moved_by f body (is_super body) → index_body blank (index_body (move f) body) ≡ index_body blank body
index_blank f body w h = go (is_super body) refl h
  where
    standard : (x : Option ℕ) → first_counted (entries body) ≡ x → Moved_by f body false → is_super body ≡ false → index_body blank (standard_by (move f) body x) ≡ standard_by blank body x
    standard None e m std = ap (index_by blank body) std ∙ ap (standard_by blank body) e
    standard (Some x) e m std =
        let nb = (index_base body + f (index_base body + x)) - (index_base body + x) in
        let v : ℕ → ℕ = λ y. f (index_base body + y) - nb in
        let b2 = standard_with nb v body in
        let again = some_counted v (entries body) x e in
        let first : first_counted (entries b2) ≡ Some again.offset = ap first_counted (standard_entries nb v body w) ∙ again.first in
        ap (index_by blank b2) (standard_is nb v body w ∙ std) ∙ ap (standard_by blank b2) first
        ∙ standard_blank nb v (λ y. 0) body w (m x e) (λ y. refl)

    go : (t : Bool) → is_super body ≡ t → Moved_by f body t → index_body blank (index_by (move f) body t) ≡ index_by blank body t
    go true e m = ap (index_by blank (super_body (move f) body)) (super_is (move f) body w.header_there ∙ e) ∙ super_blank f body w m
    go false e m = standard (first_counted (entries body)) refl m e

-- Rows of an index chunk.
use Rattle.std.proofs.Common.{◌≡◌, ◌∙◌, ℕ, zero, suc, ◌+◌, ◌-◌, ◌*◌, ◌/◌, ◌<◌, ◌≤◌, Bool, true, false, List, ◌∷◌, length, take, drop, refl, sym, ap, subst, arith}
use Rattle.std.specs.Prelude.{Option, Some, None, nat_lt, ◌%◌, ◌^◌}
use Rattle.std.specs.Int.{w32, from_le_bytes}
use Rattle.std.proofs.lemmas.List.{drop-drop, drop-take, take-take}
use Rattle.container_model.specs.Written.{slice, rows}
use Rattle.container_model.proofs.Written.{slice_slice, length-slice}
use Rattle.opendml_index.specs.declared.entry.StdEntry.{StdEntry}
use Rattle.opendml_index.specs.Entries.{width_by, IsFields, IsStandard, SecondAt, SecondIs}

word_same : (b : List ℕ) (at w i : ℕ) → i + 4 ≤ 8 → 8 ≤ w → slice (slice b at 8) i 4 ≡ slice (slice b at w) i 4
word_same b at w i low high = slice_slice b at 8 i 4 low ∙ sym (slice_slice b at w i 4 (omega arith))

wide : (two : Bool) → 8 ≤ width_by two
wide true = omega arith
wide false = omega arith

second_is : (b : List ℕ) (at : ℕ) (two : Bool) (second : Option ℕ) → at + width_by two ≤ length b → SecondAt b at two second → SecondIs (slice b at (width_by two)) second
second_is b at false None le h = length-slice b at 8 le
second_is b at true None le h = absurd cc
second_is b at true (Some n) le h = (length-slice b at 12 le, h.1 ∙ ap (from_le_bytes w32) (sym (slice_slice b at 12 8 4 (omega arith))))
second_is b at false (Some n) le h = let no = h.0 in absurd cc

-- the entry of a row, by its first eight bytes and its second field
pub row_is : (b : List ℕ) (at : ℕ) (two : Bool) (row : List ℕ) (second : Option ℕ) (e : StdEntry) → at + width_by two ≤ length b → row ≡ slice b at 8 → SecondAt b at two second → IsFields row second e
    → IsStandard (slice b at (width_by two)) e
row_is b at two row second e le is s f =
    let r = slice b at (width_by two) in
    let low : slice row 0 4 ≡ slice r 0 4 = ap (λ (x : List ℕ). slice x 0 4) is ∙ word_same b at (width_by two) 0 (omega arith) (wide two) in
    let high : slice row 4 4 ≡ slice r 4 4 = ap (λ (x : List ℕ). slice x 4 4) is ∙ word_same b at (width_by two) 4 (omega arith) (wide two) in
    record {
      offset = f.offset ∙ ap (from_le_bytes w32) low;
      size = f.size ∙ ap (λ (x : List ℕ). from_le_bytes w32 x % 2 ^ 31) high;
      key = f.key ∙ ap (λ (x : List ℕ). nat_lt (from_le_bytes w32 x) (2 ^ 31)) high;
      second = subst (SecondIs r) (sym f.has_second) (second_is b at two second le s);
    }

-- ---- the rows of a part of the bytes

pub rows_take : (w n m : ℕ) (x : List ℕ) → w * n ≤ m → rows w n (take m x) ≡ rows w n x
rows_take w zero m x le = refl
rows_take w (suc n) m x le =
    let step : w * suc n ≡ w + w * n = omega arith in
    let split : m ≡ w + (m - w) = omega arith in
    ap (λ (y : List ℕ). y ∷ rows w n (drop w (take m x))) (take-take w m x (omega arith))
    ∙ ap (λ (k : ℕ). take w x ∷ rows w n (drop w (take k x))) split
    ∙ ap (λ (y : List ℕ). take w x ∷ rows w n y) (drop-take w (m - w) x)
    ∙ ap (λ (y : List (List ℕ)). take w x ∷ y) (rows_take w n (m - w) (drop w x) (omega arith))

-- the rows behind the head of a body that stands in a file
pub rows_in : (b : List ℕ) (at size w n : ℕ) → 24 + w * n ≤ size → rows w n (drop (at + 32) b) ≡ rows w n (drop 24 (slice b (at + 8) size))
rows_in b at size w n le =
    let split : size ≡ 24 + (size - 24) = omega arith in
    let place : at + 8 + 24 ≡ at + 32 = omega arith in
    sym (
    ap (λ (k : ℕ). rows w n (drop 24 (take k (drop (at + 8) b)))) split
    ∙ ap (rows w n) (drop-take 24 (size - 24) (drop (at + 8) b))
    ∙ rows_take w n (size - 24) (drop 24 (drop (at + 8) b)) (omega arith)
    ∙ ap (rows w n) (drop-drop 24 (at + 8) b)
    ∙ ap (λ (p : ℕ). rows w n (drop p b)) place
    )

pub row_in : (b : List ℕ) (at i w : ℕ) → slice (drop at b) i w ≡ slice b (at + i) w
row_in b at i w = ap (take w) (drop-drop i at b)

-- ---- numbers of rows

pub product_small : (two : Bool) (w n : ℕ) → w ≡ width_by two → n < 2 ^ 32 → w * n < 2 ^ 36
product_small true w n e lt = let same : w * n ≡ 12 * n = ap (λ (x : ℕ). x * n) e in omega arith
product_small false w n e lt = let same : w * n ≡ 8 * n = ap (λ (x : ℕ). x * n) e in omega arith

pub fits_row : (two : Bool) (w len k : ℕ) → w ≡ width_by two → 24 ≤ len → k < (len - 24) / w → (24 + width_by two * (k + 1) ≤ len) × (24 + w * k + width_by two ≤ len)
fits_row true w len k e low lt =
    let count : (len - 24) / w ≡ (len - 24) / 12 = ap (λ (x : ℕ). (len - 24) / x) e in
    let same : w * k ≡ 12 * k = ap (λ (x : ℕ). x * k) e in
    (omega (arith, count), omega (arith, count, same))
fits_row false w len k e low lt =
    let count : (len - 24) / w ≡ (len - 24) / 8 = ap (λ (x : ℕ). (len - 24) / x) e in
    let same : w * k ≡ 8 * k = ap (λ (x : ℕ). x * k) e in
    (omega (arith, count), omega (arith, count, same))

pub standard_row : (body : List ℕ) (k w : ℕ) (two : Bool) (row : List ℕ) (second : Option ℕ) (e : StdEntry) → w ≡ width_by two → 24 + w * k + width_by two ≤ length body → row ≡ slice body (24 + w * k) 8
    → SecondAt body (24 + w * k) two second → IsFields row second e → IsStandard (slice body (24 + width_by two * k) (width_by two)) e
standard_row body k w two row second e is le r s f = subst (λ (x : ℕ). IsStandard (slice body (24 + x * k) (width_by two)) e) is (row_is body (24 + w * k) two row second e le r s f)

-- Where ds64 stands in a file, and the table of sizes that is read of it.
use Rattle.std.proofs.Common.{◌≡◌, ℕ, zero, suc, ◌+◌, ◌*◌, ◌^◌, ◌<◌, ◌≤◌, Bool, true, false, List, [], ◌∷◌, ◌++◌, length, take, drop, refl, sym, ap, ◌∙◌, append_assoc, arith}
use Rattle.std.specs.Prelude.{codes}
use Rattle.std.specs.Int.{w32, w64, to_le_bytes, from_le_bytes}
use Rattle.std.proofs.lemmas.Nat.{from_le_bytes-to_le_bytes_4}
use Rattle.std.proofs.lemmas.List.{take_at, drop_at, length-drop, drop-drop, append-nil}
use Rattle.container_model.specs.Chunk.{Form, riff, wide, Chunk, spell_all, header_bytes}
use Rattle.container_model.specs.Sizes.{Row, table}
use Rattle.container_model.specs.Ds64.{le32, le64, rows, table_of}
use Rattle.wave_model.specs.Wave.{Wave, inner}
use Rattle.wave_model.proofs.Bext.{within}

-- ---- bytes in front of others

pub drop_front : (a : ℕ) (x m : List ℕ) → a ≤ length x → drop a (x ++ m) ≡ drop a x ++ m
drop_front zero x m h = refl
drop_front (suc a) [] m h = absurd (omega arith)
drop_front (suc a) (c ∷ x) m h = drop_front a x m (omega arith)

pub le32_front : (a : ℕ) (x m : List ℕ) → a + 4 ≤ length x → le32 (drop a (x ++ m)) ≡ le32 (drop a x)
le32_front a x m h = ap (from_le_bytes w32) (within x m [] a 4 h ∙ ap (λ (y : List ℕ). take 4 (drop a y)) (append-nil x))

le64_front : (a : ℕ) (x m : List ℕ) → a + 8 ≤ length x → le64 (drop a (x ++ m)) ≡ le64 (drop a x)
le64_front a x m h = ap (from_le_bytes w64) (within x m [] a 8 h ∙ ap (λ (y : List ℕ). take 8 (drop a y)) (append-nil x))

-- ---- the table of ds64 lies in its body, behind riffSize

rows_front : (n : ℕ) (z m k : List ℕ) → 12 * n ≤ length z → rows n (z ++ m) ≡ rows n (z ++ k)
rows_front zero z m k h = refl
rows_front (suc n) [] m k h = absurd (omega arith)
rows_front (suc n) (c ∷ z) m k h =
    let long : 12 ≤ length (c ∷ z) = omega arith in
    let first : take 4 ((c ∷ z) ++ m) ≡ take 4 ((c ∷ z) ++ k) = within (c ∷ z) m k 0 4 (omega (arith, long)) in
    let size : le64 (drop 4 ((c ∷ z) ++ m)) ≡ le64 (drop 4 ((c ∷ z) ++ k)) = ap (from_le_bytes w64) (within (c ∷ z) m k 4 8 (omega (arith, long))) in
    let rest : rows n (drop 12 ((c ∷ z) ++ m)) ≡ rows n (drop 12 ((c ∷ z) ++ k))
    = ap (rows n) (drop_front 12 (c ∷ z) m long) ∙ rows_front n (drop 12 (c ∷ z)) m k (omega (arith, length-drop 12 (c ∷ z))) ∙ sym (ap (rows n) (drop_front 12 (c ∷ z) k long)) in
    ap (λ (x : List ℕ). record { id = x; size = le64 (drop 4 ((c ∷ z) ++ m)) } ∷ rows n (drop 12 ((c ∷ z) ++ m))) first
    ∙ ap (λ (x : ℕ). record { id = take 4 ((c ∷ z) ++ k); size = x } ∷ rows n (drop 12 ((c ∷ z) ++ m))) size
    ∙ ap (λ (x : List Row). record { id = take 4 ((c ∷ z) ++ k); size = le64 (drop 4 ((c ∷ z) ++ k)) } ∷ x) rest

pub table_same : (x y m k : List ℕ) → drop 8 x ≡ drop 8 y → length x ≡ length y → 28 ≤ length x → 28 + 12 * le32 (drop 24 x) ≤ length x → table_of (x ++ m) ≡ table_of (y ++ k)
table_same x y m k e l long fit =
    let size : le64 (drop 8 (x ++ m)) ≡ le64 (drop 8 (y ++ k)) = le64_front 8 x m (omega (arith, long)) ∙ ap le64 e ∙ sym (le64_front 8 y k (omega (arith, long, l))) in
    let behind : (a : ℕ) → drop (8 + a) x ≡ drop (8 + a) y = λ a. sym (drop-drop a 8 x) ∙ ap (drop a) e ∙ drop-drop a 8 y in
    let count : le32 (drop 24 (x ++ m)) ≡ le32 (drop 24 (y ++ k)) = le32_front 24 x m (omega (arith, long)) ∙ ap le32 (behind 16) ∙ sym (le32_front 24 y k (omega (arith, long, l))) in
    let start : drop 28 (x ++ m) ≡ drop 28 y ++ m = drop_front 28 x m long ∙ ap (λ (z : List ℕ). z ++ m) (behind 20) in
    let room : 12 * le32 (drop 24 (y ++ k)) ≤ length (drop 28 y) = omega (arith, fit, l, count, le32_front 24 x m (omega (arith, long)), length-drop 28 y) in
    let table_rows : rows (le32 (drop 24 (x ++ m))) (drop 28 (x ++ m)) ≡ rows (le32 (drop 24 (y ++ k))) (drop 28 (y ++ k))
    = ap (λ (n : ℕ). rows n (drop 28 (x ++ m))) count ∙ ap (rows (le32 (drop 24 (y ++ k)))) start ∙ rows_front (le32 (drop 24 (y ++ k))) (drop 28 y) m k room ∙ sym (ap (rows (le32 (drop 24 (y ++ k)))) (drop_front 28 y k (omega (arith, long, l)))) in
    ap (λ (n : ℕ). table n (rows (le32 (drop 24 (x ++ m))) (drop 28 (x ++ m)))) size ∙ ap (table (le64 (drop 8 (y ++ k)))) table_rows

-- ---- a chunk that is ds64

pub record IsDs64 (d : Chunk) : Type 0 where
  pub form_is : d.form ≡ riff
  pub id_is : d.id ≡ codes "ds64"
  pub long : 28 ≤ length d.body
  pub small : length d.body ≤ 2 ^ 24
  pub holds_rows : 28 + 12 * le32 (drop 24 d.body) ≤ length d.body

-- ds64 where the form has it
abbrev pub HasDs64 : Bool → List Chunk → Type 0
HasDs64 false ds = ds ≡ []
HasDs64 true ds = (d : Chunk) × (ds ≡ d ∷ []) × IsDs64 d

-- ---- the first chunk of a file stands at 12

module _ (b : List ℕ) (w : Wave) (at_eight : drop 8 b ≡ inner w ++ (w.pad ++ w.tail)) (d : Chunk) (only : w.ds64 ≡ d ∷ []) where
  abbrev pub behind_first : List ℕ
  behind_first = d.pad ++ ((spell_all w.children ++ w.left) ++ (w.pad ++ w.tail))

  pub at_twelve : drop 12 b ≡ header_bytes d.form d.id (length d.body) ++ (d.body ++ behind_first)
  at_twelve =
      let rest = w.pad ++ w.tail in
      sym (drop-drop 4 8 b) ∙ ap (drop 4) at_eight ∙ split (spell_all w.ds64 ++ (spell_all w.children ++ w.left)) rest
      ∙ ap (λ (x : List Chunk). (spell_all x ++ (spell_all w.children ++ w.left)) ++ rest) only ∙ regroup (header_bytes d.form d.id (length d.body)) d.body d.pad (spell_all w.children ++ w.left) rest
    where
      split : (x r : List ℕ) → drop 4 ((codes "WAVE" ++ x) ++ r) ≡ x ++ r
      split x r = refl

      regroup : (h y p z r : List ℕ) → (((h ++ (y ++ p)) ++ []) ++ z) ++ r ≡ h ++ (y ++ (p ++ (z ++ r)))
      regroup h y p z r = ap (λ (x : List ℕ). (x ++ z) ++ r) (append-nil (h ++ (y ++ p))) ∙ (simp append_assoc)

  -- of its own size
  module _ (form_is : d.form ≡ riff) (id_len : length d.id ≡ 4) (low : length d.body < 2 ^ 32) where
    twelve : drop 12 b ≡ d.id ++ (to_le_bytes w32 (length d.body) ++ (d.body ++ behind_first))
    twelve = at_twelve ∙ ap (λ (x : Form). header_bytes x d.id (length d.body) ++ (d.body ++ behind_first)) form_is ∙ append_assoc d.id (to_le_bytes w32 (length d.body)) (d.body ++ behind_first)

    pub first_id : take 4 (drop 12 b) ≡ d.id
    first_id = ap (take 4) twelve ∙ take_at d.id (to_le_bytes w32 (length d.body) ++ (d.body ++ behind_first)) 4 id_len

    sixteen : drop 16 b ≡ to_le_bytes w32 (length d.body) ++ (d.body ++ behind_first)
    sixteen = sym (drop-drop 4 12 b) ∙ ap (drop 4) twelve ∙ drop_at d.id (to_le_bytes w32 (length d.body) ++ (d.body ++ behind_first)) 4 id_len

    pub first_size : le32 (drop 16 b) ≡ length d.body
    first_size = ap le32 sixteen ∙ ap (from_le_bytes w32) (take_at (to_le_bytes w32 (length d.body)) (d.body ++ behind_first) 4 refl) ∙ from_le_bytes-to_le_bytes_4 (length d.body) low

    pub at_twenty : drop 20 b ≡ d.body ++ behind_first
    at_twenty = sym (drop-drop 4 16 b) ∙ ap (drop 4) sixteen ∙ drop_at (to_le_bytes w32 (length d.body)) (d.body ++ behind_first) 4 refl

    pub first_rows : 28 ≤ length d.body → le32 (drop 44 b) ≡ le32 (drop 24 d.body)
    first_rows long = ap le32 (sym (drop-drop 24 20 b) ∙ ap (drop 24) at_twenty) ∙ le32_front 24 d.body behind_first (omega (arith, long))

  -- of a size in a table
  pub wide_size : d.form ≡ wide → length d.id ≡ 4 → le32 (drop 16 b) ≡ 4294967295
  wide_size form_is id_len =
      let twelve : drop 12 b ≡ d.id ++ ((255 ∷ 255 ∷ 255 ∷ 255 ∷ []) ++ (d.body ++ behind_first))
      = at_twelve ∙ ap (λ (x : Form). header_bytes x d.id (length d.body) ++ (d.body ++ behind_first)) form_is ∙ append_assoc d.id (255 ∷ 255 ∷ 255 ∷ 255 ∷ []) (d.body ++ behind_first) in
      ap le32 (sym (drop-drop 4 12 b) ∙ ap (drop 4) twelve ∙ drop_at d.id ((255 ∷ 255 ∷ 255 ∷ 255 ∷ []) ++ (d.body ++ behind_first)) 4 id_len)

-- A table that is relocated page by page.
use Rattle.std.proofs.Common.{◌≡◌, ℕ, zero, suc, ◌+◌, ◌-◌, ◌*◌, ◌≤◌, ◌<◌, Bool, true, false, cond, List, [], ◌∷◌, ◌++◌, length, take, drop, Option, Some, None, refl, sym, ap, ◌∙◌, arith, append_assoc, length-append, length-take, length-drop, zero-add, add_comm, subst, le_refl}
use Rattle.std.specs.List.{AllByRecursion}
use Rattle.std.proofs.Math.Nat.{mul-suc, mul-zero}
use Rattle.std.specs.Prelude.{if◌then◌else◌, ◌==◌, ◌&&◌, not}
use Rattle.me_bytes.specs.Bytes.{be}
use Rattle.std.proofs.lemmas.List.{drop-drop, drop-take, take-take}
use Rattle.me_bytes.proofs.Laws.{length-le_bytes, length-be_bytes}
use Rattle.part_tree.specs.declared.table.Base.TheVariants.{Movi, FileStart}
use Rattle.part_tree.specs.declared.table.IndexHead.{IndexHead}
use Rattle.part_tree.specs.declared.table.TableForm.{TableForm}
use Rattle.part_tree.specs.declared.table.TableForm.TheVariants.{Idx1, Super, Standard, Chunks32, Chunks64, Widen}
use Rattle.part_tree.specs.Moves.{Move}
use Rattle.part_tree.specs.Tables.{width, new_width, Spelling, spelling, Naming, namings, with_number, new_place, misfit, renamed, unless, moved_row, rows, relocated, RowsNamed, moved, second_of, length_of, number, le32, le64, plainly}

-- a number lies inside its row
abbrev Within : Spelling → List ℕ → List Naming → Type 0
Within s row [] = Unit {0}
Within s row (n ∷ ns) = (n.at + s.bytes ≤ length row) × Within s row ns

-- numbers have the length of their spelling
abbrev Spells : Spelling → Type 0
Spells s = (n : ℕ) → length (s.put n) ≡ s.bytes

with_number_length : (s : Spelling) (at n : ℕ) (row : List ℕ) → Spells s → at + s.bytes ≤ length row → length (with_number s at n row) ≡ length row
with_number_length s at n row put inside =
    omega (arith, put n, length-append (take at row) (s.put n ++ drop s.bytes (drop at row)), length-append (s.put n) (drop s.bytes (drop at row)), length-take at row, length-drop s.bytes (drop at row), length-drop at row)

renamed_length : (moves : List Move) (s : Spelling) (row : List ℕ) (ns : List Naming) → Spells s → Within s row ns → length (renamed moves s row ns) ≡ length row
renamed_length moves s row [] put inside = refl
renamed_length moves s row (n ∷ ns) put inside =
    let rest = renamed_length moves s row ns put inside.1 in
    let here = inside.0 in
    with_number_length s n.at (new_place moves s row n - n.new_base) (renamed moves s row ns) put (omega (arith, here, rest)) ∙ rest

unless_length : (o : Option ℕ) (row new : List ℕ) → length new ≡ length row → length (unless o row new) ≡ length row
unless_length None row new e = e
unless_length (Some at) row new e = refl

cond_within : (t : Bool) (s : Spelling) (row : List ℕ) (ns : List Naming) → Within s row ns → Within s row (cond t [] ns)
cond_within true s row ns h = tt
cond_within false s row ns h = h

-- the second field stands in a row of two
second_within : (t : Bool) (old : IndexHead) (base : ℕ) (row : List ℕ) → (t ≡ true → 12 ≤ length row) → Within le32 row (cond t (record { at = 8; old_base = old.base; new_base = base; least = 1 } ∷ []) [])
second_within true old base row h = (h refl, tt)
second_within false old base row h = tt

two_wide : (a b : Bool) (n : ℕ) → n ≡ (if a then 12 else 8) → (a && b) ≡ true → 12 ≤ n
two_wide true b n e h = omega (arith, e)
two_wide false b n e h = absurd cc

eight_wide : (a : Bool) (n : ℕ) → n ≡ (if a then 12 else 8) → 8 ≤ n
eight_wide true n e = omega (arith, e)
eight_wide false n e = omega (arith, e)

within : (form : TableForm) (row : List ℕ) → length row ≡ width form → Within (spelling form) row (namings form row)
within (Idx1 (Movi at)) row e = tt
within (Idx1 FileStart) row e = cond_within (number le32 12 row == 0) le32 row (plainly 8 ∷ []) (omega (arith, e), tt)
within Super row e = cond_within (number le64 0 row == 0) le64 row (plainly 0 ∷ []) (omega (arith, e), tt)
within (Standard old base) row e =
    let least = eight_wide old.two_fields (length row) e in
    cond_within (length_of row == 0) le32 row (record { at = 0; old_base = old.base; new_base = base; least = 0 } ∷ second_of old base row)
    (omega (arith, least), second_within (old.two_fields && not (number le32 8 row == 0)) old base row (two_wide old.two_fields (not (number le32 8 row == 0)) (length row) e))
within Chunks32 row e = (omega (arith, e), tt)
within Chunks64 row e = (omega (arith, e), tt)
within Widen row e = tt

spells : (form : TableForm) → Spells (spelling form)
spells (Idx1 base) n = length-le_bytes 4 n
spells Super n = length-le_bytes 8 n
spells (Standard old base) n = length-le_bytes 4 n
spells Chunks32 n = length-be_bytes 4 n
spells Chunks64 n = length-be_bytes 8 n
spells Widen n = length-be_bytes 4 n

kept_length : (moves : List Move) (form : TableForm) (row : List ℕ) → length row ≡ width form → length (unless (misfit moves form row) row (renamed moves (spelling form) row (namings form row))) ≡ width form
kept_length moves form row e =
    unless_length (misfit moves form row) row (renamed moves (spelling form) row (namings form row)) (renamed_length moves (spelling form) row (namings form row) (spells form) (within form row e)) ∙ e

-- a row has the width that its form has in the new file
pub moved_row_length : (moves : List Move) (form : TableForm) (row : List ℕ) → length row ≡ width form → length (moved_row moves form row) ≡ new_width form
moved_row_length moves (Idx1 base) row e = kept_length moves (Idx1 base) row e
moved_row_length moves Super row e = kept_length moves Super row e
moved_row_length moves (Standard old base) row e = kept_length moves (Standard old base) row e
moved_row_length moves Chunks32 row e = kept_length moves Chunks32 row e
moved_row_length moves Chunks64 row e = kept_length moves Chunks64 row e
moved_row_length moves Widen row e = length-be_bytes 8 (moved moves (be row))

-- ---- rows one after the other

pub wide : (form : TableForm) → (0 < width form) × (width form ≤ 16) × (0 < new_width form) × (new_width form ≤ 16) × (width form ≤ new_width form)
wide (Idx1 base) = (omega arith, omega arith, omega arith, omega arith, omega arith)
wide Super = (omega arith, omega arith, omega arith, omega arith, omega arith)
wide (Standard old base) = go old.two_fields
  where
    go : (t : Bool) → (0 < (if t then 12 else 8)) × ((if t then 12 else 8) ≤ 16) × (0 < (if t then 12 else 8)) × ((if t then 12 else 8) ≤ 16) × ((if t then 12 else 8) ≤ (if t then 12 else 8))
    go true = (omega arith, omega arith, omega arith, omega arith, omega arith)
    go false = (omega arith, omega arith, omega arith, omega arith, omega arith)
wide Chunks32 = (omega arith, omega arith, omega arith, omega arith, omega arith)
wide Chunks64 = (omega arith, omega arith, omega arith, omega arith, omega arith)
wide Widen = (omega arith, omega arith, omega arith, omega arith, omega arith)

mul_more : (w n : ℕ) → w * suc n ≡ w + w * n
mul_more w n = mul-suc w n ∙ add_comm (w * n) w

module _ (moves : List Move) (form : TableForm) where
  abbrev w : ℕ
  w = width form

  pub relocated_length : (n : ℕ) (b : List ℕ) → w * n ≤ length b → length (relocated moves form n b) ≡ new_width form * n
  relocated_length zero b long = sym (mul-zero (new_width form))
  relocated_length (suc n) b long =
      let step = mul_more w n in
      let more = mul_more (new_width form) n in
      let here : length (take w b) ≡ w = omega (arith, length-take w b, step) in
      let row = moved_row_length moves form (take w b) here in
      let rest = relocated_length n (drop w b) (omega (arith, length-drop w b, step)) in
      omega (arith, row, rest, more, length-append (moved_row moves form (take w b)) (relocated moves form n (drop w b)))

  -- so many rows, and so many behind them
  pub relocated_more : (n m : ℕ) (b : List ℕ) → relocated moves form (n + m) b ≡ relocated moves form n b ++ relocated moves form m (drop (w * n) b)
  relocated_more zero m b = ap (λ k. relocated moves form k b) (zero-add m) ∙ ap (λ k. relocated moves form m (drop k b)) (sym (mul-zero w))
  relocated_more (suc n) m b =
      let row = moved_row moves form (take w b) in
      let one : suc n + m ≡ suc (n + m) = omega arith in
      let step : w + w * n ≡ w * suc n = sym (mul_more w n) in
      ap (λ k. relocated moves form k b) one
      ∙ ap (λ l. row ++ l) (relocated_more n m (drop w b))
      ∙ sym (append_assoc row (relocated moves form n (drop w b)) (relocated moves form m (drop (w * n) (drop w b))))
      ∙ ap (λ l. (row ++ relocated moves form n (drop w b)) ++ relocated moves form m l) (drop-drop (w * n) w b ∙ ap (λ k. drop k b) step)

  -- rows by the bytes that they are in
  pub relocated_take : (n k : ℕ) (b : List ℕ) → w * n ≤ k → relocated moves form n (take k b) ≡ relocated moves form n b
  relocated_take zero k b low = refl
  relocated_take (suc n) k b low =
      let step = mul_more w n in
      let front : take w (take k b) ≡ take w b = take-take w k b (omega (arith, step)) in
      let whole : w + (k - w) ≡ k = omega (arith, step) in
      let rest : drop w (take k b) ≡ take (k - w) (drop w b) = ap (λ j. drop w (take j b)) (sym whole) ∙ drop-take w (k - w) b in
      ap (λ l. moved_row moves form l ++ relocated moves form n (drop w (take k b))) front
      ∙ ap (λ l. moved_row moves form (take w b) ++ l) (ap (λ l. relocated moves form n l) rest ∙ relocated_take n (k - w) (drop w b) (omega (arith, step)))

-- the first rows are in the bytes that they take up
rows_take : (w n : ℕ) (b : List ℕ) → rows w n (take (w * n) b) ≡ rows w n b
rows_take w n b = go n (w * n) b (le_refl (w * n))
  where
    go : (n k : ℕ) (b : List ℕ) → w * n ≤ k → rows w n (take k b) ≡ rows w n b
    go zero k b low = refl
    go (suc n) k b low =
        let step = mul_more w n in
        let whole : w + (k - w) ≡ k = omega (arith, step) in
        let front : take w (take k b) ≡ take w b = take-take w k b (omega (arith, step)) in
        let rest : drop w (take k b) ≡ take (k - w) (drop w b) = ap (λ j. drop w (take j b)) (sym whole) ∙ drop-take w (k - w) b in
        ap (λ l. l ∷ rows w n (drop w (take k b))) front
        ∙ ap (λ l. take w b ∷ l) (ap (λ l. rows w n l) rest ∙ go n (k - w) (drop w b) (omega (arith, step)))

pub named_take : (moves : List Move) (form : TableForm) (n : ℕ) (b : List ℕ) → RowsNamed moves form n (take (width form * n) b) → RowsNamed moves form n b
named_take moves form n b h = subst (λ (l : List (List ℕ)). AllByRecursion (λ row. misfit moves form row ≡ None) l) (rows_take (width form) n b) h

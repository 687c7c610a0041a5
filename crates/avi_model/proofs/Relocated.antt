-- The rows of idx1, of super and of standard indexes with their numbers moved are those of a relocated table.
use Rattle.std.proofs.Common.{◌≡◌, ℕ, zero, suc, ◌+◌, ◌*◌, ◌-◌, ◌%◌, ◌^◌, ◌≤◌, Bool, true, false, cond, eqb, ltb, List, [], ◌∷◌, ◌++◌, length, take, drop, None, refl, sym, ap, ◌∙◌, append_assoc, arith, inl, inr}
use Rattle.std.specs.Prelude.{◌&&◌, not, Option}
use Rattle.std.specs.Int.{w32, w64, from_le_bytes, to_le_bytes}
use Rattle.std.specs.List.{flat_map, AllByRecursion}
use Rattle.std.proofs.Math.Nat.{mul-suc, mul-zero}
use Rattle.std.proofs.lemmas.List.{length-take, length-drop, take-append-drop, drop-drop}
use Rattle.me_bytes.specs.Bytes.{le}
use Rattle.part_tree.specs.Moves.{Move}
use Rattle.part_tree.specs.Tables.{width, Naming, plainly, spelling, le32, le64, number, with_number, namings, misfit, renamed, moved, moved_row, rows, relocated, RowsNamed, second_of, unless}
use Rattle.part_tree.specs.declared.table.IndexHead.{IndexHead}
use Rattle.part_tree.specs.declared.table.TableForm.TheVariants.{Super, Standard}
use Rattle.container_model.specs.Tables.{le32_at, le64_at, put32, put64}
use Rattle.container_model.specs.Written.{Write, written, map_rows}
use Rattle.container_model.proofs.Written.{length-written, written-take, written-drop, written_clear, written_own}
use Rattle.avi_index.specs.Rows.{Base, from_start, from_movi, row_offset, row_length, old_by, old_row}
use Rattle.opendml_index.specs.Index.{move, super_place, super_by, super_row, entry_offset, entry_length, entry_second, has_second, second_by, entry_by, entry_row}
use Rattle.avi_model.specs.Joined.{old_form}

-- ---- numbers

four_bytes : (xs : List ℕ) → length xs ≡ 4 → from_le_bytes w32 xs ≡ le xs
four_bytes (a ∷ b ∷ c ∷ d ∷ []) h = omega arith
four_bytes [] h = absurd (omega arith)
four_bytes (a ∷ []) h = absurd (omega arith)
four_bytes (a ∷ b ∷ []) h = absurd (omega arith)
four_bytes (a ∷ b ∷ c ∷ []) h = absurd (omega arith)
four_bytes (a ∷ b ∷ c ∷ d ∷ e ∷ xs) h = absurd (omega arith)

eight_bytes : (xs : List ℕ) → length xs ≡ 8 → from_le_bytes w64 xs ≡ le xs
eight_bytes (a ∷ b ∷ c ∷ d ∷ e ∷ f ∷ g ∷ k ∷ []) h = omega arith
eight_bytes [] h = absurd (omega arith)
eight_bytes (a ∷ []) h = absurd (omega arith)
eight_bytes (a ∷ b ∷ []) h = absurd (omega arith)
eight_bytes (a ∷ b ∷ c ∷ []) h = absurd (omega arith)
eight_bytes (a ∷ b ∷ c ∷ d ∷ []) h = absurd (omega arith)
eight_bytes (a ∷ b ∷ c ∷ d ∷ e ∷ []) h = absurd (omega arith)
eight_bytes (a ∷ b ∷ c ∷ d ∷ e ∷ f ∷ []) h = absurd (omega arith)
eight_bytes (a ∷ b ∷ c ∷ d ∷ e ∷ f ∷ g ∷ []) h = absurd (omega arith)
eight_bytes (a ∷ b ∷ c ∷ d ∷ e ∷ f ∷ g ∷ k ∷ l ∷ xs) h = absurd (omega arith)

pub number_32 : (k : ℕ) (r : List ℕ) → k + 4 ≤ length r → le32_at k r ≡ number le32 k r
number_32 k r h = four_bytes (take 4 (drop k r)) (omega (arith, length-take 4 (drop k r), length-drop k r))

pub number_64 : (k : ℕ) (r : List ℕ) → k + 8 ≤ length r → le64_at k r ≡ number le64 k r
number_64 k r h = eight_bytes (take 8 (drop k r)) (omega (arith, length-take 8 (drop k r), length-drop k r))

-- bytes written at a place
put_bytes : (k n : ℕ) (v r : List ℕ) → length v ≡ n → k + n ≤ length r → written (record { at = k; bytes = v } ∷ []) 0 r ≡ take k r ++ (v ++ drop n (drop k r))
put_bytes k n v r long fits =
    let w : Write = record { at = k; bytes = v } in
    let ws = w ∷ [] in
    let b = written ws 0 r in
    let z : 0 + k ≡ k = omega arith in
    let front : take k b ≡ take k r = written-take ws 0 k r ∙ written_clear ws 0 (take k r) (inr (omega (arith, length-take k r)), tt) in
    let from : drop k b ≡ written ws k (drop k r) = written-drop ws 0 k r ∙ ap (λ (q : ℕ). written ws q (drop k r)) z in
    let middle : take n (drop k b) ≡ v
    = ap (take n) from ∙ written-take ws k n (drop k r) ∙ written_own w ws (take n (drop k r)) (inl refl) (inl refl, tt) (omega (arith, length-take n (drop k r), length-drop k r)) in
    let back : drop n (drop k b) ≡ drop n (drop k r)
    = ap (drop n) from ∙ written-drop ws k n (drop k r) ∙ written_clear ws (k + n) (drop n (drop k r)) (inl (omega arith), tt) in
    sym (take-append-drop k b) ∙ ap (λ (x : List ℕ). x ++ drop k b) front ∙ ap (λ (x : List ℕ). take k r ++ x) (sym (take-append-drop n (drop k b)))
    ∙ ap (λ (x : List ℕ). take k r ++ (x ++ drop n (drop k b))) middle ∙ ap (λ (x : List ℕ). take k r ++ (v ++ x)) back

pub put_32 : (k v : ℕ) (r : List ℕ) → k + 4 ≤ length r → put32 k v r ≡ with_number le32 k v r
put_32 k v r h = put_bytes k 4 (to_le_bytes w32 v) r refl h

pub put_64 : (k v : ℕ) (r : List ℕ) → k + 8 ≤ length r → put64 k v r ≡ with_number le64 k v r
put_64 k v r h = put_bytes k 8 (to_le_bytes w64 v) r refl h

-- ---- rows

plus : (x y : ℕ) → x ≡ y → 0 + x ≡ y
plus x y e = omega (arith, e)

less : (x y : ℕ) → x ≡ y → x - 0 ≡ y
less x y e = omega (arith, e)

-- a new number that counts from the start of the file
plain_number : (moves : List Move) (x y : ℕ) → x ≡ y → moved moves (0 + y) - 0 ≡ moved moves x
plain_number moves x y e = less (moved moves (0 + y)) (moved moves x) (ap (moved moves) (plus y x (sym e)))

old_row_is : (moves : List Move) (base : Base) (movi : ℕ) (r : List ℕ) → length r ≡ 16 → renamed moves (spelling (old_form movi base)) r (namings (old_form movi base) r) ≡ old_row (moved moves) base r
old_row_is moves from_movi movi r long = refl
old_row_is moves from_start movi r long =
    let len : row_length r ≡ number le32 12 r = number_32 12 r (omega (arith, long)) in
    let off : row_offset r ≡ number le32 8 r = number_32 8 r (omega (arith, long)) in
    ap (λ (k : ℕ). renamed moves le32 r (cond (eqb k 0) [] (plainly 8 ∷ []))) (sym len) ∙ go (eqb (row_length r) 0) off
  where
    go : (t : Bool) → row_offset r ≡ number le32 8 r → renamed moves le32 r (cond t [] (plainly 8 ∷ [])) ≡ old_by (moved moves) r from_start t
    go true off = refl
    go false off = ap (λ (k : ℕ). with_number le32 8 k r) (plain_number moves (row_offset r) (number le32 8 r) off) ∙ sym (put_32 8 (moved moves (row_offset r)) r (omega (arith, long)))

super_row_is : (moves : List Move) (r : List ℕ) → length r ≡ 16 → renamed moves le64 r (namings Super r) ≡ super_row (move (moved moves)) r
super_row_is moves r long =
    let at : super_place r ≡ number le64 0 r = number_64 0 r (omega (arith, long)) in
    ap (λ (k : ℕ). renamed moves le64 r (cond (eqb k 0) [] (plainly 0 ∷ []))) (sym at) ∙ go (eqb (super_place r) 0) at
  where
    go : (t : Bool) → super_place r ≡ number le64 0 r → renamed moves le64 r (cond t [] (plainly 0 ∷ [])) ≡ super_by (move (moved moves)) r t
    go true at = refl
    go false at = ap (λ (k : ℕ). with_number le64 0 k r) (plain_number moves (super_place r) (number le64 0 r) at) ∙ sym (put_64 0 (moved moves (super_place r)) r (omega (arith, long)))

eight_long : (old : IndexHead) (base : ℕ) (r : List ℕ) → length r ≡ width (Standard old base) → 8 ≤ length r
eight_long old base r long = go old.two_fields long
  where
    go : (t : Bool) → length r ≡ cond t 12 8 → 8 ≤ length r
    go true e = omega (arith, e)
    go false e = omega (arith, e)

second_keeps : (v : ℕ → ℕ) (r : List ℕ) (t : Bool) → length (second_by v r t) ≡ length r
second_keeps v r true = length-written (record { at = 8; bytes = to_le_bytes w32 (v (entry_second r)) } ∷ []) 0 r
second_keeps v r false = refl

module _ (moves : List Move) (old : IndexHead) (base : ℕ) (r : List ℕ) (long : length r ≡ width (Standard old base)) where
  abbrev v : ℕ → ℕ
  v y = moved moves (old.base + y) - base

  abbrev second : Naming
  second = record { at = 8; old_base = old.base; new_base = base; least = 1 }

  second_is : renamed moves le32 r (second_of old base r) ≡ second_by v r (has_second r)
  second_is = go old.two_fields long
    where
      wide : entry_second r ≡ number le32 8 r → 12 ≤ length r → (t : Bool) → renamed moves le32 r (cond (not t) (second ∷ []) []) ≡ second_by v r (not t)
      wide e l true = refl
      wide e l false = ap (λ (k : ℕ). with_number le32 8 (moved moves (old.base + k) - base) r) (sym e) ∙ sym (put_32 8 (v (entry_second r)) r (omega (arith, l)))

      go : (t : Bool) → length r ≡ cond t 12 8 → renamed moves le32 r (cond (t && not (eqb (number le32 8 r) 0)) (second ∷ []) []) ≡ second_by v r (has_second r)
      go false e = sym (ap (λ (k : ℕ). second_by v r (ltb 8 k && not (eqb (entry_second r) 0))) e)
      go true e =
          let m = number_32 8 r (omega (arith, e)) in
          ap (λ (k : ℕ). renamed moves le32 r (cond (not (eqb k 0)) (second ∷ []) [])) (sym m) ∙ wide m (omega (arith, e)) (eqb (entry_second r) 0) ∙ sym (ap (λ (k : ℕ). second_by v r (ltb 8 k && not (eqb (entry_second r) 0))) e)

  pub entry_row_is : renamed moves le32 r (namings (Standard old base) r) ≡ entry_row v r
  entry_row_is =
      ap (λ (k : ℕ). renamed moves le32 r (cond (eqb k 0) [] (record { at = 0; old_base = old.base; new_base = base; least = 0 } ∷ second_of old base r))) (sym len) ∙ go (eqb (entry_length r) 0)
    where
      eight : 8 ≤ length r
      eight = eight_long old base r long

      len : entry_length r ≡ number le32 4 r % 2 ^ 31
      len = ap (λ (k : ℕ). k % 2 ^ 31) (number_32 4 r (omega (arith, eight)))

      go : (t : Bool) → renamed moves le32 r (cond t [] (record { at = 0; old_base = old.base; new_base = base; least = 0 } ∷ second_of old base r)) ≡ entry_by v r t
      go true = refl
      go false =
          ap (λ (k : ℕ). with_number le32 0 (moved moves (old.base + k) - base) (renamed moves le32 r (second_of old base r))) (sym (number_32 0 r (omega (arith, eight))))
          ∙ ap (with_number le32 0 (v (entry_offset r))) second_is ∙ sym (put_32 0 (v (entry_offset r)) (second_by v r (has_second r)) (omega (arith, eight, second_keeps v r (has_second r))))

-- ---- tables

more_rows : (w n : ℕ) → w * suc n ≡ w + w * n
more_rows w n = omega (arith, mul-suc w n)

-- rows that come to the same
same_rows : (w : ℕ) (f g : List ℕ → List ℕ) (Fits : List ℕ → Type 0) → ((r : List ℕ) → length r ≡ w → Fits r → f r ≡ g r) → (n : ℕ) (b : List ℕ) → w * n ≤ length b → AllByRecursion Fits (rows w n b) → flat_map f (rows w n b) ++ drop (w * n) b ≡ map_rows w g n b
same_rows w f g Fits same zero b fits all = ap (λ (k : ℕ). drop k b) (mul-zero w)
same_rows w f g Fits same (suc n) b fits all =
    let step = more_rows w n in
    let one : f (take w b) ≡ g (take w b) = same (take w b) (omega (arith, length-take w b, fits, step)) all.0 in
    let more = same_rows w f g Fits same n (drop w b) (omega (arith, length-drop w b, fits, step)) all.1 in
    let rest : drop (w * suc n) b ≡ drop (w * n) (drop w b) = ap (λ (k : ℕ). drop k b) step ∙ sym (drop-drop (w * n) w b) in
    append_assoc (f (take w b)) (flat_map f (rows w n (drop w b))) (drop (w * suc n) b)
    ∙ ap (λ (x : List ℕ). f (take w b) ++ (flat_map f (rows w n (drop w b)) ++ x)) rest
    ∙ ap (λ (x : List ℕ). f (take w b) ++ x) more ∙ ap (λ (x : List ℕ). x ++ map_rows w g n (drop w b)) one

module _ (moves : List Move) (n : ℕ) (b : List ℕ) where
  pub olds_relocated : (base : Base) (movi : ℕ) → 16 * n ≤ length b → RowsNamed moves (old_form movi base) n b → relocated moves (old_form movi base) n b ++ drop (16 * n) b ≡ map_rows 16 (old_row (moved moves) base) n b
  olds_relocated from_start movi fits all =
      same_rows 16 (moved_row moves (old_form movi from_start)) (old_row (moved moves) from_start) (λ r. misfit moves (old_form movi from_start) r ≡ None)
      (λ r long m. ap (λ (o : Option ℕ). unless o r (renamed moves le32 r (namings (old_form movi from_start) r))) m ∙ old_row_is moves from_start movi r long) n b fits all
  olds_relocated from_movi movi fits all =
      same_rows 16 (moved_row moves (old_form movi from_movi)) (old_row (moved moves) from_movi) (λ r. misfit moves (old_form movi from_movi) r ≡ None)
      (λ r long m. ap (λ (o : Option ℕ). unless o r (renamed moves le32 r (namings (old_form movi from_movi) r))) m ∙ old_row_is moves from_movi movi r long) n b fits all

  pub supers_relocated : 16 * n ≤ length b → RowsNamed moves Super n b → relocated moves Super n b ++ drop (16 * n) b ≡ map_rows 16 (super_row (move (moved moves))) n b
  supers_relocated fits all =
      same_rows 16 (moved_row moves Super) (super_row (move (moved moves))) (λ r. misfit moves Super r ≡ None)
      (λ r long m. ap (λ (o : Option ℕ). unless o r (renamed moves le64 r (namings Super r))) m ∙ super_row_is moves r long) n b fits all

  pub entries_relocated : (old : IndexHead) (base : ℕ) → width (Standard old base) * n ≤ length b → RowsNamed moves (Standard old base) n b
      → relocated moves (Standard old base) n b ++ drop (width (Standard old base) * n) b ≡ map_rows (width (Standard old base)) (entry_row (λ y. moved moves (old.base + y) - base)) n b
  entries_relocated old base fits all =
      same_rows (width (Standard old base)) (moved_row moves (Standard old base)) (entry_row (λ y. moved moves (old.base + y) - base)) (λ r. misfit moves (Standard old base) r ≡ None)
      (λ r long m. ap (λ (o : Option ℕ). unless o r (renamed moves le32 r (namings (Standard old base) r))) m ∙ entry_row_is moves old base r long) n b fits all

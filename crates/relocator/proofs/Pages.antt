-- A page is moved row by row.
use Rattle.std.proofs.Common.{◌≡◌, ◌≢◌, ℕ, zero, suc, ◌+◌, ◌-◌, ◌*◌, ◌/◌, ◌≤◌, ◌<◌, List, [], ◌∷◌, ◌++◌, length, take, drop, None, refl, sym, ap, subst, ◌∙◌, arith, append_assoc, append-nil, length-append, length-take}
use Rattle.std.specs.List.{AllByRecursion}
use Rattle.std.proofs.lemmas.List.{drop-drop, take_at, drop_at, drop_all, take_all}
use Rattle.me_bytes.specs.Bytes.{be, be_bytes}
use Rattle.me_bytes.proofs.Laws.{length-be_bytes}
use Rattle.std.proofs.Math.Nat.{mul-suc, mul-zero, mul_comm, mul-le-mul_left}
use borrow.Rule.Slice.PartMut.{put_mid}
use Rattle.part_tree.specs.declared.table.TableForm.{TableForm}
use Rattle.part_tree.specs.declared.table.TableForm.TheVariants.{Idx1, Super, Standard, Chunks32, Chunks64, Widen}
use Rattle.part_tree.specs.Moves.{Move}
use Rattle.part_tree.specs.Tables.{width, new_width, misfit, moved, moved_row, rows, relocated, RowsNamed, be64, with_number}
use Rattle.part_tree.proofs.Relocated.{relocated_length, relocated_more}

-- but for chunk places that are widened, a row keeps its width
pub same_width : (form : TableForm) → form ≢ Widen → new_width form ≡ width form
same_width (Idx1 base) narrow = refl
same_width Super narrow = refl
same_width (Standard old base) narrow = refl
same_width Chunks32 narrow = refl
same_width Chunks64 narrow = refl
same_width Widen narrow = absurd (narrow refl)

abbrev row_at : ℕ → ℕ → List ℕ → List ℕ
row_at w n b = take w (drop (w * n) b)

rows_one : (w n : ℕ) (b : List ℕ) → rows w (suc n) b ≡ rows w n b ++ row_at w n b ∷ []
rows_one w zero b = ap (λ k. take w (drop k b) ∷ []) (sym (mul-zero w))
rows_one w (suc n) b =
    let step : w + w * n ≡ w * suc n = omega (arith, mul-suc w n) in
    ap (λ l. take w b ∷ l) (rows_one w n (drop w b) ∙ ap (λ l. rows w n (drop w b) ++ take w l ∷ []) (drop-drop (w * n) w b ∙ ap (λ k. drop k b) step))

all_one : (P : List ℕ → Type 0) (xs : List (List ℕ)) (x : List ℕ) → AllByRecursion P xs → P x → AllByRecursion P (xs ++ x ∷ [])
all_one P [] x h here = (here, tt)
all_one P (y ∷ xs) x h here = (h.0, all_one P xs x h.1 here)

module _ (moves : List Move) (form : TableForm) where
  abbrev w : ℕ
  w = width form

  -- one more row can name its new places
  pub named_more : (n : ℕ) (b : List ℕ) → RowsNamed moves form n b → misfit moves form (row_at w n b) ≡ None → RowsNamed moves form (suc n) b
  named_more n b h here =
      let Named : List (List ℕ) → Type 0 = λ l. AllByRecursion (λ row. misfit moves form row ≡ None) l in
      subst Named (sym (rows_one w n b)) (all_one (λ row. misfit moves form row ≡ None) (rows w n b) (row_at w n b) h here)

  relocated_one : (n : ℕ) (b : List ℕ) → relocated moves form (suc n) b ≡ relocated moves form n b ++ moved_row moves form (row_at w n b)
  relocated_one n b =
      let one : suc n ≡ n + 1 = omega arith in
      ap (λ k. relocated moves form k b) one ∙ relocated_more moves form n 1 b ∙ ap (λ l. relocated moves form n b ++ l) (append-nil (moved_row moves form (row_at w n b)))

  -- a row of a page of whole rows
  pub row_inside : (k n : ℕ) → k < n → w * suc k ≤ w * n
  row_inside k n low = mul-le-mul_left w low

  -- one more row of a page is moved
  pub page_step : (k u : ℕ) (old page row : List ℕ) → new_width form ≡ w → u ≡ w → k < length old / u → length old ≡ w * (length old / w) → page ≡ relocated moves form k old ++ drop (w * k) old
      → row ≡ moved_row moves form (take ((k * u + u) - k * u) (drop (k * u) page)) → put_mid (k * u) ((k * u + u) - k * u) page row ≡ relocated moves form (k + 1) old ++ drop (w * (k + 1)) old
  page_step k u old page row narrow e low whole is moved =
      let at : k * u ≡ w * k = ap (λ x. k * x) e ∙ mul_comm k w in
      let size : (k * u + u) - k * u ≡ w = omega (arith, e) in
      let one : suc k ≡ k + 1 = omega arith in
      let more : w * suc k ≡ w * k + w = mul-suc w k in
      let inside : w * suc k ≤ length old = subst (λ x. w * suc k ≤ x) (sym whole) (row_inside k (length old / w) (subst (λ x. k < length old / x) e low)) in
      let front : length (relocated moves form k old) ≡ w * k = relocated_length moves form k old (omega (arith, inside, more)) ∙ ap (λ x. x * k) narrow in
      let before : take (w * k) page ≡ relocated moves form k old = ap (take (w * k)) is ∙ take_at (relocated moves form k old) (drop (w * k) old) (w * k) front in
      let behind : drop (w * k) page ≡ drop (w * k) old = ap (drop (w * k)) is ∙ drop_at (relocated moves form k old) (drop (w * k) old) (w * k) front in
      let here : row ≡ moved_row moves form (row_at w k old) = moved ∙ (λ i. moved_row moves form (take (size i) (drop (at i) page))) ∙ ap (λ l. moved_row moves form (take w l)) behind in
      let rest : drop w (drop (w * k) page) ≡ drop (w * suc k) old = ap (drop w) behind ∙ drop-drop w (w * k) old ∙ ap (λ j. drop j old) (sym more) in
      (λ i. take (at i) page ++ (row ++ drop (size i) (drop (at i) page)))
      ∙ ap (λ l. l ++ (row ++ drop w (drop (w * k) page))) before
      ∙ ap (λ l. relocated moves form k old ++ (l ++ drop w (drop (w * k) page))) here
      ∙ ap (λ l. relocated moves form k old ++ (moved_row moves form (row_at w k old) ++ l)) rest
      ∙ sym (append_assoc (relocated moves form k old) (moved_row moves form (row_at w k old)) (drop (w * suc k) old))
      ∙ ap (λ l. l ++ drop (w * suc k) old) (sym (relocated_one k old))
      ∙ ap (λ j. relocated moves form j old ++ drop (w * j) old) one

  -- the row that is moved next is still the old one
  pub next_row : (k u : ℕ) (old page : List ℕ) → new_width form ≡ w → u ≡ w → k < length old / u → length old ≡ w * (length old / w) → page ≡ relocated moves form k old ++ drop (w * k) old
      → take ((k * u + u) - k * u) (drop (k * u) page) ≡ row_at w k old
  next_row k u old page narrow e low whole is =
      let at : k * u ≡ w * k = ap (λ x. k * x) e ∙ mul_comm k w in
      let size : (k * u + u) - k * u ≡ w = omega (arith, e) in
      let more : w * suc k ≡ w * k + w = mul-suc w k in
      let inside : w * suc k ≤ length old = subst (λ x. w * suc k ≤ x) (sym whole) (row_inside k (length old / w) (subst (λ x. k < length old / x) e low)) in
      let front : length (relocated moves form k old) ≡ w * k = relocated_length moves form k old (omega (arith, inside, more)) ∙ ap (λ x. x * k) narrow in
      (λ i. take (size i) (drop (at i) page)) ∙ ap (λ l. take w (drop (w * k) l)) is ∙ ap (take w) (drop_at (relocated moves form k old) (drop (w * k) old) (w * k) front)

  -- and so one more can name its places
  pub named_step : (k u : ℕ) (old page : List ℕ) → new_width form ≡ w → u ≡ w → k < length old / u → length old ≡ w * (length old / w) → page ≡ relocated moves form k old ++ drop (w * k) old
      → RowsNamed moves form k old → misfit moves form (take ((k * u + u) - k * u) (drop (k * u) page)) ≡ None → RowsNamed moves form (k + 1) old
  named_step k u old page narrow e low whole is named fits =
      let one : suc k ≡ k + 1 = omega arith in
      subst (λ j. RowsNamed moves form j old) one (named_more k old named (ap (misfit moves form) (sym (next_row k u old page narrow e low whole is)) ∙ fits))

  -- after the last row nothing is as before
  pub page_end : (n : ℕ) (old page : List ℕ) → length old ≤ w * n → page ≡ relocated moves form n old ++ drop (w * n) old → page ≡ relocated moves form n old
  page_end n old page all is = is ∙ ap (λ l. relocated moves form n old ++ l) (drop_all (w * n) old all) ∙ append-nil (relocated moves form n old)

-- ---- places that are widened

-- one more row is widened
pub widen_step : (moves : List Move) (k place : ℕ) (page out new : List ℕ) → k < length page / 4 → length page ≡ 4 * (length page / 4) → length out ≡ 2 * length page → take (8 * k) out ≡ relocated moves Widen k page
    → place ≡ moved moves (be (take 4 (drop (4 * k) page))) → new ≡ with_number be64 (8 * k) place out → take (8 * (k + 1)) new ≡ relocated moves Widen (k + 1) page
widen_step moves k place page out new low whole twice is moved_there written =
    let front : length (take (8 * k) out) ≡ 8 * k = omega (arith, length-take (8 * k) out) in
    let one : suc k ≡ k + 1 = omega arith in
    let number = be_bytes 8 place in
    let size : length (take (8 * k) out ++ number) ≡ 8 * (k + 1) = omega (arith, front, length-be_bytes 8 place, length-append (take (8 * k) out) number) in
    ap (take (8 * (k + 1))) (written ∙ sym (append_assoc (take (8 * k) out) number (drop 8 (drop (8 * k) out))))
    ∙ take_at (take (8 * k) out ++ number) (drop 8 (drop (8 * k) out)) (8 * (k + 1)) size
    ∙ ap (λ l. l ++ number) is
    ∙ ap (λ n. relocated moves Widen k page ++ be_bytes 8 n) moved_there
    ∙ sym (relocated_one moves Widen k page)
    ∙ ap (λ j. relocated moves Widen j page) one

-- after the last row
pub widen_end : (moves : List Move) (n : ℕ) (page out : List ℕ) → length page ≡ 4 * n → length out ≡ 2 * length page → take (8 * n) out ≡ relocated moves Widen n page → out ≡ relocated moves Widen n page
widen_end moves n page out whole twice is = sym (take_all (8 * n) out (omega arith)) ∙ is

-- The first new place that rows can't name, page by page.
use Rattle.std.proofs.Common.{◌≡◌, ◌∙◌, ℕ, zero, suc, ◌+◌, ◌-◌, ◌*◌, ◌/◌, ◌≤◌, ◌<◌, List, length, take, drop, Option, Some, None, refl, sym, ap, arith, zero-add}
use Rattle.std.proofs.Math.Nat.{mul-div_cancel_left, mul-le-mul_left, mul-le-mul_right, mul-suc, mul-zero, suc-mul}
use Rattle.std.proofs.lemmas.List.{drop-drop, drop-take, length-take-le, take-take}
use Rattle.part_tree.specs.Moves.{Move}
use Rattle.part_tree.specs.Tables.{RowsNamed, misfit, rows, width}
use Rattle.part_tree.specs.declared.table.TableForm.{TableForm}
use Rattle.container_model.specs.Tests.{or_else}
use Rattle.container_model.proofs.Tests.{or_none}
use Rattle.part_tree.proofs.Relocated.{wide}
use Rattle.relocator.specs.Pages.{count}
use Rattle.table_misfits.specs.Misfits.{misfits}

pub or_assoc : {W : Type 0} (a b c : Option W) → or_else a (or_else b c) ≡ or_else (or_else a b) c
or_assoc None b c = refl
or_assoc (Some x) b c = refl

module _ (ms : List Move) (form : TableForm) where
  abbrev w : ℕ
  w = width form

  pub step : (n : ℕ) → width form * suc n ≡ width form + width form * n
  step n = omega (arith, mul-suc (width form) n)

  -- so many rows, and so many behind them
  pub misfits_more : (n m : ℕ) (b : List ℕ) → misfits ms form (n + m) b ≡ or_else (misfits ms form n b) (misfits ms form m (drop (width form * n) b))
  misfits_more zero m b = ap (λ (k : ℕ). misfits ms form k b) (zero-add m) ∙ ap (λ (k : ℕ). misfits ms form m (drop k b)) (sym (mul-zero (width form)))
  misfits_more (suc n) m b =
      let one : suc n + m ≡ suc (n + m) = omega arith in
      let back : drop (w * n) (drop w b) ≡ drop (w * suc n) b = drop-drop (w * n) w b ∙ ap (λ (k : ℕ). drop k b) (sym (step n)) in
      ap (λ (k : ℕ). misfits ms form k b) one
      ∙ ap (λ (o : Option ℕ). or_else (misfit ms form (take w b)) o) (misfits_more n m (drop w b) ∙ ap (λ (l : List ℕ). or_else (misfits ms form n (drop w b)) (misfits ms form m l)) back)
      ∙ or_assoc (misfit ms form (take w b)) (misfits ms form n (drop w b)) (misfits ms form m (drop (w * suc n) b))

  -- rows by the bytes that they are in
  pub misfits_take : (n k : ℕ) (b : List ℕ) → width form * n ≤ k → misfits ms form n (take k b) ≡ misfits ms form n b
  misfits_take zero k b low = refl
  misfits_take (suc n) k b low =
      let front : take w (take k b) ≡ take w b = take-take w k b (omega (arith, step n, low)) in
      let whole : w + (k - w) ≡ k = omega (arith, step n, low) in
      let rest : drop w (take k b) ≡ take (k - w) (drop w b) = ap (λ (j : ℕ). drop w (take j b)) (sym whole) ∙ drop-take w (k - w) b in
      ap (λ (l : List ℕ). or_else (misfit ms form l) (misfits ms form n (drop w (take k b)))) front
      ∙ ap (λ (l : List ℕ). or_else (misfit ms form (take w b)) (misfits ms form n l)) rest
      ∙ ap (λ (o : Option ℕ). or_else (misfit ms form (take w b)) o) (misfits_take n (k - w) (drop w b) (omega (arith, step n, low)))

  -- all rows are named where there is none
  pub named_none : (n : ℕ) (b : List ℕ) → RowsNamed ms form n b → misfits ms form n b ≡ None
  named_none zero b h = refl
  named_none (suc n) b h = ap (λ (o : Option ℕ). or_else o (misfits ms form n (drop w b))) h.0 ∙ named_none n (drop w b) h.1

  pub none_named : (n : ℕ) (b : List ℕ) → misfits ms form n b ≡ None → RowsNamed ms form n b
  none_named zero b h = tt
  none_named (suc n) b h = let p = or_none (misfit ms form (take w b)) (misfits ms form n (drop w b)) h in (p.0, none_named n (drop w b) p.1)

  -- and else a row is the first
  pub first_stop : (n row : ℕ) (b : List ℕ) (p : ℕ) → row < n → RowsNamed ms form row b → misfit ms form (take (width form) (drop (width form * row) b)) ≡ Some p → misfits ms form n b ≡ Some p
  first_stop zero row b p lt named e = absurd (omega (arith, lt))
  first_stop (suc n) zero b p lt named e =
      let here : misfit ms form (take w b) ≡ Some p = ap (λ (k : ℕ). misfit ms form (take w (drop k b))) (sym (mul-zero w)) ∙ e in
      ap (λ (o : Option ℕ). or_else o (misfits ms form n (drop w b))) here
  first_stop (suc n) (suc row) b p lt named e =
      let back : drop (w * suc row) b ≡ drop (w * row) (drop w b) = ap (λ (k : ℕ). drop k b) (step row) ∙ sym (drop-drop (w * row) w b) in
      ap (λ (o : Option ℕ). or_else o (misfits ms form n (drop w b))) named.0 ∙ first_stop n row (drop w b) p (omega (arith, lt)) named.1 (ap (λ (l : List ℕ). misfit ms form (take w l)) (sym back) ∙ e)

  -- the rows that are left, by a page of them
  pub misfits_page : (done count rows : ℕ) (from : ℕ) (b : List ℕ) → done + count ≤ rows
      → misfits ms form count (drop (from + width form * done) b) ≡ None
      → misfits ms form (rows - done) (drop (from + width form * done) b) ≡ misfits ms form (rows - (done + count)) (drop (from + width form * (done + count)) b)
  misfits_page done count rows from b le none =
      let split : rows - done ≡ count + (rows - (done + count)) = omega (arith, le) in
      let x = drop (from + w * done) b in
      let far : drop (w * count) x ≡ drop (from + w * (done + count)) b =
      drop-drop (w * count) (from + w * done) b ∙ ap (λ (k : ℕ). drop k b) (omega arith)
      in
      ap (λ (k : ℕ). misfits ms form k x) split ∙ misfits_more count (rows - (done + count)) x
      ∙ ap (λ (o : Option ℕ). or_else o (misfits ms form (rows - (done + count)) (drop (w * count) x))) none
      ∙ ap (misfits ms form (rows - (done + count))) far

  pub misfits_found : (done count rows : ℕ) (from p : ℕ) (b : List ℕ) → done + count ≤ rows
      → misfits ms form count (drop (from + width form * done) b) ≡ Some p → misfits ms form (rows - done) (drop (from + width form * done) b) ≡ Some p
  misfits_found done count rows from p b le some =
      let split : rows - done ≡ count + (rows - (done + count)) = omega (arith, le) in
      let x = drop (from + w * done) b in
      ap (λ (k : ℕ). misfits ms form k x) split ∙ misfits_more count (rows - (done + count)) x
      ∙ ap (λ (o : Option ℕ). or_else o (misfits ms form (rows - (done + count)) (drop (w * count) x))) some

  pub misfits_end : (done rows : ℕ) (from : ℕ) (b : List ℕ) → rows ≤ done → misfits ms form (rows - done) (drop (from + width form * done) b) ≡ None
  misfits_end done rows from b le =
      let none : rows - done ≡ 0 = omega (arith, le) in
      ap (λ (k : ℕ). misfits ms form k (drop (from + w * done) b)) none

  pub misfits_start : (rows : ℕ) (from : ℕ) (b : List ℕ) → misfits ms form (rows - 0) (drop (from + width form * 0) b) ≡ misfits ms form rows (drop from b)
  misfits_start rows from b =
      let all : rows - 0 ≡ rows = omega arith in
      let here : from + w * 0 ≡ from = omega (arith, mul-zero w) in
      ap (λ (k : ℕ). misfits ms form k (drop (from + w * 0) b)) all ∙ ap (λ (k : ℕ). misfits ms form rows (drop k b)) here

  -- a page of the rows in a file
  pub page_misfits : (b : List ℕ) (at : ℕ) (page old : List ℕ) → page ≡ take (length old) (drop at b) → length page ≡ length old → length old ≡ width form * (length old / width form)
      → misfits ms form (count form page) page ≡ misfits ms form (count form old) (drop at b)
  page_misfits b at page old e len whole =
      ap (λ (n : ℕ). misfits ms form (n / width form) page) len
      ∙ ap (misfits ms form (length old / width form)) e
      ∙ misfits_take (length old / width form) (length old) (drop at b) (omega (arith, whole))

pub rows_by : (form : TableForm) (n k : ℕ) → k ≡ width form * n → k / width form ≡ n
rows_by form n k e = ap (λ (j : ℕ). j / width form) e ∙ mul-div_cancel_left n {n = width form} (wide form).0

-- as many rows as their bytes hold
pub misfits_few : (ms : List Move) (form : TableForm) (n at : ℕ) (x b : List ℕ) (p : Option ℕ) → p ≡ misfits ms form (count form x) (drop at b) → length x ≡ width form * n → p ≡ misfits ms form n (drop at b)
misfits_few ms form n at x b p e long = e ∙ ap (λ (k : ℕ). misfits ms form k (drop at b)) (rows_by form n (length x) long)

-- a page of at most 4,096 rows, at the front of a buffer
pub page_long : (form : TableForm) (w n : ℕ) (buffer : List ℕ) → w ≡ width form → n ≤ 4096 → length buffer ≡ 65536 → length (take (w * n) buffer) ≡ width form * n
page_long form w n buffer is few long =
    let most : width form * n ≤ width form * 4096 = mul-le-mul_left (width form) few in
    let room : width form * 4096 ≤ 16 * 4096 = mul-le-mul_right 4096 (wide form).1 in
    let same : w * n ≡ width form * n = ap (λ (k : ℕ). k * n) is in
    length-take-le (w * n) buffer (omega (arith, most, room, same, long)) ∙ same

pub count_small : (form : TableForm) (n : ℕ) → n ≡ width form * (n / width form) → n / width form ≤ n
count_small form n whole = go (width form) (wide form).0 whole
  where
    go : (w : ℕ) → 0 < w → n ≡ w * (n / w) → n / w ≤ n
    go zero h e = absurd (omega (arith, h))
    go (suc w) h e = omega (arith, e, mul_suc w (n / suc w))
      where
        mul_suc : (w k : ℕ) → suc w * k ≡ k + w * k
        mul_suc w k = omega (arith, suc-mul w k)

-- The rows of a table that are left behind some of them, and how many of them are counted.
use Rattle.std.proofs.Common.{◌≡◌, ◌∙◌, ℕ, suc, ◌+◌, ◌-◌, ◌*◌, ◌<◌, ◌≤◌, Bool, true, false, List, [], ◌∷◌, length, drop, refl, ap, arith}
use mir.Val.{bool_byte}
use Rattle.std.specs.Prelude.{if◌then◌else◌, filter}
use Rattle.std.proofs.lemmas.List.{drop-drop}
use Rattle.container_model.specs.Written.{slice, rows}
use Rattle.container_model.specs.Tables.{count_rows}

-- the row of a number, and those behind it
pub rows_next : (w n k : ℕ) (b : List ℕ) → k < n → rows w (n - k) (drop (w * k) b) ≡ slice b (w * k) w ∷ rows w (n - (k + 1)) (drop (w * (k + 1)) b)
rows_next w n k b lt =
    let rest = n - (k + 1) in
    let less : n - k ≡ suc rest = omega arith in
    let place : w * k + w ≡ w * (k + 1) = omega arith in
    ap (λ (m : ℕ). rows w m (drop (w * k) b)) less
    ∙ ap (λ (x : List ℕ). slice b (w * k) w ∷ rows w rest x) (drop-drop w (w * k) b ∙ ap (λ (p : ℕ). drop p b) place)

-- behind the last row there is none
pub rows_end : (w n k : ℕ) (b : List ℕ) → n ≤ k → rows w (n - k) (drop (w * k) b) ≡ []
rows_end w n k b le = let none : n - k ≡ 0 = omega arith in ap (λ (m : ℕ). rows w m (drop (w * k) b)) none

-- before the first row there is none
pub rows_start : (w n : ℕ) (b : List ℕ) → rows w (n - 0) (drop (w * 0) b) ≡ rows w n b
rows_start w n b =
    let all : n - 0 ≡ n = omega arith in
    let none : w * 0 ≡ 0 = omega arith in
    ap (λ (m : ℕ). rows w m (drop (w * 0) b)) all ∙ ap (λ (p : ℕ). rows w n (drop p b)) none

-- ---- rows that are counted

abbrev pub one_if : Bool → ℕ
one_if t = if t then 1 else 0

pub byte_is : (t : Bool) → bool_byte t ≡ one_if t
byte_is true = refl
byte_is false = refl

pub byte_small : (t : Bool) → bool_byte t ≤ 1
byte_small true = omega arith
byte_small false = omega arith

pub count_more : (test : List ℕ → Bool) (r : List ℕ) (rs : List (List ℕ)) → count_rows test (r ∷ rs) ≡ one_if (test r) + count_rows test rs
count_more test r rs = go (test r)
  where
    go : (t : Bool) → length {A = List ℕ} (if t then r ∷ filter test rs else filter test rs) ≡ one_if t + count_rows test rs
    go true = omega arith
    go false = omega arith

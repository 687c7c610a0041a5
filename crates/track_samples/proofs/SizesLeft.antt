-- Sizes of samples, and how many fit.
use Rattle.std.proofs.Common.{◌≡◌, ◌∙◌, ℕ, zero, suc, ◌+◌, ◌-◌, ◌*◌, ◌/◌, ◌%◌, ◌<◌, ◌≤◌, min, Bool, true, false, cond, leb, List, [], ◌∷◌, length, take, drop, replicate, refl, sym, ap, arith}
use Rattle.std.specs.Int.{w32, from_be_bytes}
use Rattle.std.proofs.lemmas.Bool.{le-leb, lt-leb, leb-true, leb-false}
use Rattle.std.proofs.lemmas.List.{drop-drop, drop-replicate, drop_all, length-drop, length-replicate}
use Rattle.std.proofs.lemmas.Nat.{div-add-mod', div-mul-add, mod_below}
use Rattle.std.proofs.Math.Nat.{suc-mul}
use Rattle.container_model.specs.Rows.{be32, numbers}
use Rattle.sample_tables.specs.Samples.{samples_in, sizes_by}
use Rattle.sample_tables.proofs.Rows.{length_numbers}
use Rattle.track_samples.specs.Left.{fitting, sizes_left}
use Rattle.track_samples.specs.declared.sizes.SizeTable.{SizeTable}

-- samples that lie in what follows a place are as many as their sizes fit
pub samples_fit : (n : ℕ) (sizes tail : List ℕ) → length (samples_in n sizes tail) ≡ fitting n sizes (length tail)
samples_fit zero sizes tail = refl
samples_fit (suc n) [] tail = refl
samples_fit (suc n) (s ∷ sizes) tail = go (leb s (length tail)) (samples_fit n sizes (drop s tail) ∙ ap (fitting n sizes) (length-drop s tail))
  where
    go : (t : Bool) → length (samples_in n sizes (drop s tail)) ≡ fitting n sizes (length tail - s)
        → length (cond t (take s tail ∷ samples_in n sizes (drop s tail)) []) ≡ cond t (suc (fitting n sizes (length tail - s))) 0
    go true again = omega (arith, again)
    go false again = refl

-- ---- sizes one by one

pub fits_one : (b : List ℕ) (at n size room : ℕ) → size ≡ from_be_bytes w32 (take 4 (drop at b)) → size ≤ room
    → fitting (suc n) (numbers be32 (suc n) (drop at b)) room ≡ suc (fitting n (numbers be32 n (drop (at + 4) b)) (room - size))
fits_one b at n size room e le =
    ap (λ (s : ℕ). cond (leb s room) (suc (fitting n (numbers be32 n (drop 4 (drop at b))) (room - s))) 0) (sym e)
    ∙ ap (λ (t : Bool). cond t (suc (fitting n (numbers be32 n (drop 4 (drop at b))) (room - size))) 0) (le-leb size room le)
    ∙ ap (λ (x : List ℕ). suc (fitting n (numbers be32 n x) (room - size))) (drop-drop 4 at b)

pub fits_no_more : (b : List ℕ) (at n size room : ℕ) → size ≡ from_be_bytes w32 (take 4 (drop at b)) → room < size
    → fitting (suc n) (numbers be32 (suc n) (drop at b)) room ≡ 0
fits_no_more b at n size room e lt =
    ap (λ (s : ℕ). cond (leb s room) (suc (fitting n (numbers be32 n (drop 4 (drop at b))) (room - s))) 0) (sym e)
    ∙ ap (λ (t : Bool). cond t (suc (fitting n (numbers be32 n (drop 4 (drop at b))) (room - size))) 0) (lt-leb size room lt)

-- one size more, where it fits and where it doesn't
abbrev pub fit_left : List ℕ → ℕ → ℕ → ℕ → ℕ → ℕ
fit_left b at count k left = fitting (count - k) (numbers be32 (count - k) (drop (at + 4 * k) b)) left

pub fit_step : (b : List ℕ) (at count k size left whole : ℕ) → k < count → size ≡ from_be_bytes w32 (take 4 (drop (at + 4 * k) b)) → size ≤ left
    → k + fit_left b at count k left ≡ whole → k + 1 + fit_left b at count (k + 1) (left - size) ≡ whole
fit_step b at count k size left whole lt e le so_far =
    let n = count - (k + 1) in
    let more : count - k ≡ suc n = omega arith in
    let place : at + 4 * k + 4 ≡ at + 4 * (k + 1) = omega arith in
    let next : fit_left b at count k left ≡ suc (fit_left b at count (k + 1) (left - size)) =
    ap (λ (i : ℕ). fitting i (numbers be32 i (drop (at + 4 * k) b)) left) more ∙ fits_one b (at + 4 * k) n size left e le
    ∙ ap (λ (i : ℕ). suc (fitting n (numbers be32 n (drop i b)) (left - size))) place in
    omega (arith, so_far, next)

pub fit_stop : (b : List ℕ) (at count k size left whole : ℕ) → k < count → size ≡ from_be_bytes w32 (take 4 (drop (at + 4 * k) b)) → left < size
    → k + fit_left b at count k left ≡ whole → k ≡ whole
fit_stop b at count k size left whole lt e past so_far =
    let n = count - (k + 1) in
    let more : count - k ≡ suc n = omega arith in
    let none : fit_left b at count k left ≡ 0 =
    ap (λ (i : ℕ). fitting i (numbers be32 i (drop (at + 4 * k) b)) left) more ∙ fits_no_more b (at + 4 * k) n size left e past in
    omega (arith, so_far, none)

-- no more are looked at than are asked for
pub fits_first : (k n room : ℕ) (x : List ℕ) → k ≤ n → fitting k (numbers be32 n x) room ≡ fitting k (numbers be32 k x) room
fits_first zero n room x le = refl
fits_first (suc k) zero room x le = absurd (omega arith)
fits_first (suc k) (suc n) room x le =
    let s = from_be_bytes w32 (take 4 x) in
    ap (λ (m : ℕ). cond (leb s room) (suc m) 0) (fits_first k n (room - s) (drop 4 x) (omega arith))

-- ---- one size of all

div_more : (w room : ℕ) → 0 < w → w ≤ room → room / w ≡ suc ((room - w) / w)
div_more w room some le =
    let q = (room - w) / w in
    let r = (room - w) % w in
    let parts : q * w + r ≡ room - w = div-add-mod' (room - w) w in
    let more : suc q * w ≡ q * w + w = suc-mul q w in
    let whole : room ≡ suc q * w + r = omega arith in
    ap (λ (n : ℕ). n / w) whole ∙ div-mul-add (suc q) w r (mod_below (room - w) w some)

div_none : (w room : ℕ) → room < w → room / w ≡ 0
div_none w room lt =
    let zeros : 0 * w ≡ 0 = omega arith in
    let whole : room ≡ 0 * w + room = omega arith in
    ap (λ (n : ℕ). n / w) whole ∙ div-mul-add 0 w room lt

pub fits_common : (c k n room : ℕ) → k ≤ n → fitting k (replicate n (suc c)) room ≡ min k (room / suc c)
fits_common c zero n room le = omega arith
fits_common c (suc k) zero room le = absurd (omega arith)
fits_common c (suc k) (suc n) room le = go (leb (suc c) room) refl (fits_common c k n (room - suc c) (omega arith))
  where
    go : (t : Bool) → leb (suc c) room ≡ t → fitting k (replicate n (suc c)) (room - suc c) ≡ min k ((room - suc c) / suc c)
        → cond t (suc (fitting k (replicate n (suc c)) (room - suc c))) 0 ≡ min (suc k) (room / suc c)
    go true e again =
        let more = div_more (suc c) room (omega arith) (leb-true (suc c) room e) in
        omega (arith, again, more)
    go false e again =
        let none = div_none (suc c) room (leb-false (suc c) room e) in
        omega (arith, none)

-- ---- a table

pub length_sizes : (common n : ℕ) (x : List ℕ) → length (sizes_by common n x) ≡ n
length_sizes zero n x = length_numbers be32 n x
length_sizes (suc c) n x = length-replicate n (suc c)

-- so many of a table are asked for that are there
pub fits_shared : (common k n room : ℕ) (x : List ℕ) → 0 < common → k ≤ n → fitting k (sizes_by common n x) room ≡ min k (room / common)
fits_shared zero k n room x some le = absurd (omega arith)
fits_shared (suc c) k n room x some le = fits_common c k n room le

pub fits_each : (common k n room : ℕ) (x : List ℕ) → common ≡ 0 → k ≤ n → fitting k (sizes_by common n x) room ≡ fitting k (numbers be32 k x) room
fits_each zero k n room x none le = fits_first k n room x le
fits_each (suc c) k n room x none le = absurd (omega arith)

pub fits_short : (n room : ℕ) (sizes : List ℕ) → fitting (min n (length sizes)) sizes room ≡ fitting n sizes room
fits_short zero room sizes = let none : min 0 (length sizes) ≡ 0 = omega arith in ap (λ (k : ℕ). fitting k sizes room) none
fits_short (suc n) room [] = let none : min (suc n) (length {A = ℕ} []) ≡ 0 = omega arith in ap (λ (k : ℕ). fitting k [] room) none
fits_short (suc n) room (s ∷ sizes) =
    let more : min (suc n) (length (s ∷ sizes)) ≡ suc (min n (length sizes)) = omega arith in
    ap (λ (k : ℕ). fitting k (s ∷ sizes) room) more ∙ ap (λ (m : ℕ). cond (leb s room) (suc m) 0) (fits_short n (room - s) sizes)

drop_numbers : (j k : ℕ) (x : List ℕ) → j ≤ k → numbers be32 (k - j) (drop (4 * j) x) ≡ drop j (numbers be32 k x)
drop_numbers zero k x le =
    let all : k - 0 ≡ k = omega arith in
    let none : 4 * 0 ≡ 0 = omega arith in
    ap (λ (i : ℕ). numbers be32 i (drop (4 * 0) x)) all ∙ ap (λ (i : ℕ). numbers be32 k (drop i x)) none
drop_numbers (suc j) zero x le = absurd (omega arith)
drop_numbers (suc j) (suc k) x le =
    let less : suc k - suc j ≡ k - j = omega arith in
    let place : 4 * suc j ≡ 4 + 4 * j = omega arith in
    ap (λ (i : ℕ). numbers be32 i (drop (4 * suc j) x)) less
    ∙ ap (λ (i : ℕ). numbers be32 (k - j) (drop i x)) place
    ∙ ap (numbers be32 (k - j)) (sym (drop-drop (4 * j) 4 x))
    ∙ drop_numbers j k (drop 4 x) (omega arith)

drop_sizes : (common j k : ℕ) (x : List ℕ) → j ≤ k → sizes_by common (k - j) (drop (4 * j) x) ≡ drop j (sizes_by common k x)
drop_sizes zero j k x le = drop_numbers j k x le
drop_sizes (suc c) j k x le = sym (drop-replicate j k (suc c))

drop_short : (n : ℕ) (xs : List ℕ) → drop (min n (length xs)) xs ≡ drop n xs
drop_short n xs = go (leb n (length xs)) refl
  where
    go : (t : Bool) → leb n (length xs) ≡ t → drop (min n (length xs)) xs ≡ drop n xs
    go true e = let le = leb-true n (length xs) e in let same : min n (length xs) ≡ n = omega arith in ap (λ (k : ℕ). drop k xs) same
    go false e =
        let lt = leb-false n (length xs) e in
        let all : min n (length xs) ≡ length xs = omega arith in
        ap (λ (k : ℕ). drop k xs) all ∙ drop_all (length xs) xs (omega arith) ∙ sym (drop_all n xs (omega arith))

-- the sizes that are left behind so many more
pub left_behind : (b : List ℕ) (t : SizeTable) (next n : ℕ) → sizes_left b t (next + min n (t.rows.count - next)) ≡ drop n (sizes_left b t next)
left_behind b t next n =
    let m = t.rows.count - next in
    let k = min n m in
    let x = drop (t.rows.at + 4 * next) b in
    let less : t.rows.count - (next + k) ≡ m - k = omega arith in
    let place : t.rows.at + 4 * (next + k) ≡ t.rows.at + 4 * next + 4 * k = omega arith in
    let many : length (sizes_by t.common m x) ≡ m = length_sizes t.common m x in
    ap (λ (i : ℕ). sizes_by t.common i (drop (t.rows.at + 4 * (next + k)) b)) less
    ∙ ap (λ (i : ℕ). sizes_by t.common (m - k) (drop i b)) place
    ∙ ap (sizes_by t.common (m - k)) (sym (drop-drop (4 * k) (t.rows.at + 4 * next) b))
    ∙ drop_sizes t.common k m x (omega arith)
    ∙ ap (λ (i : ℕ). drop (min n i) (sizes_by t.common m x)) (sym many)
    ∙ drop_short n (sizes_by t.common m x)

-- no more are asked for than are there
pub fits_there : (b : List ℕ) (t : SizeTable) (next n room : ℕ) → fitting (min n (t.rows.count - next)) (sizes_left b t next) room ≡ fitting n (sizes_left b t next) room
fits_there b t next n room =
    let m = t.rows.count - next in
    let x = drop (t.rows.at + 4 * next) b in
    let many : m ≡ length (sizes_by t.common m x) = sym (length_sizes t.common m x) in
    ap (λ (i : ℕ). fitting (min n i) (sizes_by t.common m x) room) many ∙ fits_short n room (sizes_by t.common m x)

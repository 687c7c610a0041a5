-- Names are in order as their two parts are.
use Rattle.std.proofs.Common.{◌≡◌, ℕ, zero, suc, ◌+◌, ◌-◌, ◌*◌, ◌^◌, ◌<◌, ◌≤◌, List, [], ◌∷◌, ◌++◌, length, replicate, Bool, true, false, refl, sym, ap, ◌∙◌, arith, nat_lt, ◌||◌, ◌&&◌, ◌==◌, subst, inl, inr, cond}
use Rattle.std.specs.Prelude.{◌⊎◌, IsTrue}
use Rattle.std.specs.List.{list_all}
use Rattle.std.specs.Ordering.{is_lt, is_some_and, as_partial_cmp, nat_cmp, ordering_then}
use Rattle.std.specs.declared.cmp.Ordering.{Ordering}
use Rattle.std.specs.declared.cmp.Ordering.TheVariants.{Less, Equal, Greater}
use Rattle.std.specs.Cmp.{Agrees}
use Rattle.std.specs.Cmp.Lexicographic.{slice_cmp, slice_partial_cmp, lists_agrees}
use Rattle.std.proofs.lemmas.Bool.{and_parts, ltb-true, leb-true, lt-ltb, le-ltb, eq-eqb, ne_eqb, cases_order, cases_lt}
use Rattle.std.proofs.lemmas.List.{length-append, length-replicate}
use Rattle.std.proofs.Math.Nat.{mul-le-mul_right, pow-succ'}
use Rattle.me_bytes.specs.Bytes.{be}
use Rattle.part_tree.specs.declared.field.FieldName.{FieldName}
use Rattle.part_tree.specs.declared.field.FieldName.TheVariants.{Bext, Info, Whole, User, Key, Stream}
use Rattle.part_tree.specs.Keys.{filled, is_key_letter, is_key_name}
use Rattle.part_tree.specs.Names.{field_place}
use Rattle.part_tree.specs.Stands.{Stands, by_bytes}

-- ---- the number of a name that is filled up

abbrev filled_to : ℕ → List ℕ → List ℕ
filled_to n name = name ++ replicate (n - length name) 0

abbrev AreLetters : List ℕ → Type 0
AreLetters name = list_all is_key_letter name ≡ true

letter : (x : ℕ) → is_key_letter x ≡ true → (32 < x) × (x < 127)
letter x h =
    let parts = and_parts _ _ h in
    let top : x ≤ 126 = leb-true x 126 (and_parts _ _ parts.1).0 in
    (ltb-true 32 x parts.0, omega (arith, top))

zeros : (n : ℕ) → be (replicate n 0) ≡ 0
zeros zero = refl
zeros (suc n) = omega (arith, zeros n)

none_filled : (n : ℕ) → be (filled_to n []) ≡ 0
none_filled n = zeros (n - 0)

filled_length : (n : ℕ) (name : List ℕ) → length name ≤ n → length (filled_to n name) ≡ n
filled_length n name le = omega (arith, le, length-append name (replicate (n - length name) 0), length-replicate {A = ℕ} (n - length name) 0)

-- the first byte counts most
first_byte : (n x : ℕ) (name : List ℕ) → length name ≤ n → be (filled_to (suc n) (x ∷ name)) ≡ x * 256 ^ n + be (filled_to n name)
first_byte n x name le =
    let rest : suc n - length (x ∷ name) ≡ n - length name = omega arith in
    ap (λ (k : ℕ). be (x ∷ name ++ replicate k 0)) rest ∙ ap (λ (k : ℕ). x * 256 ^ k + be (filled_to n name)) (filled_length n name le)

power : (n : ℕ) → 0 < 256 ^ n
power zero = omega arith
power (suc n) = rw (pow-succ' 256 n) (omega (arith, power n))

pub below : (n : ℕ) (name : List ℕ) → length name ≤ n → AreLetters name → be (filled_to n name) < 256 ^ n
below n [] le h = omega (arith, none_filled n, power n)
below zero (x ∷ name) le h = absurd (omega (arith, le))
below (suc n) (x ∷ name) le h =
    let parts = and_parts (is_key_letter x) (list_all is_key_letter name) h in
    let top = (letter x parts.0).1 in
    let rest = below n name (omega (arith, le)) parts.1 in
    let most : x * 256 ^ n ≤ 255 * 256 ^ n = mul-le-mul_right (256 ^ n) (omega (arith, top)) in
    rw (pow-succ' 256 n) (omega (arith, most, rest, first_byte n x name (omega (arith, le))))

-- a name that has a first byte is more than none
above_none : (n : ℕ) (x : ℕ) (name : List ℕ) → length (x ∷ name) ≤ n → AreLetters (x ∷ name) → be (filled_to n []) < be (filled_to n (x ∷ name))
above_none zero x name le h = absurd (omega (arith, le))
above_none (suc n) x name le h =
    let parts = and_parts (is_key_letter x) (list_all is_key_letter name) h in
    let one : 1 * 256 ^ n ≤ x * 256 ^ n = mul-le-mul_right (256 ^ n) (omega (arith, (letter x parts.0).0)) in
    omega (arith, one, power n, none_filled (suc n), first_byte n x name (omega (arith, le)))

-- one step of the comparison
lower : (x y p r s : ℕ) → x < y → r < p → x * p + r < y * p + s
lower x y p r s lt less = let more : suc x * p ≤ y * p = mul-le-mul_right p (omega (arith, lt)) in omega (arith, more, less)

pub in_order : (n : ℕ) (a b : List ℕ) → length a ≤ n → length b ≤ n → AreLetters a → AreLetters b → by_bytes a b ≡ nat_lt (be (filled_to n a)) (be (filled_to n b))
in_order n [] [] la lb ha hb = sym (le-ltb (be (filled_to n [])) (be (filled_to n [])) (omega arith))
in_order n [] (y ∷ b) la lb ha hb = sym (lt-ltb _ _ (above_none n y b lb hb))
in_order n (x ∷ a) [] la lb ha hb = sym (le-ltb _ _ (omega (arith, above_none n x a la ha)))
in_order zero (x ∷ a) (y ∷ b) la lb ha hb = absurd (omega (arith, la))
in_order (suc n) (x ∷ a) (y ∷ b) la lb ha hb = go (in_order n a b (omega (arith, la)) (omega (arith, lb)) pa.1 pb.1) (cases_order x y)
  where
    pa : (is_key_letter x ≡ true) × AreLetters a
    pa = and_parts (is_key_letter x) (list_all is_key_letter a) ha

    pb : (is_key_letter y ≡ true) × AreLetters b
    pb = and_parts (is_key_letter y) (list_all is_key_letter b) hb

    fa : be (filled_to (suc n) (x ∷ a)) ≡ x * 256 ^ n + be (filled_to n a)
    fa = first_byte n x a (omega (arith, la))

    fb : be (filled_to (suc n) (y ∷ b)) ≡ y * 256 ^ n + be (filled_to n b)
    fb = first_byte n y b (omega (arith, lb))

    ba : be (filled_to n a) < 256 ^ n
    ba = below n a (omega (arith, la)) pa.1

    bb : be (filled_to n b) < 256 ^ n
    bb = below n b (omega (arith, lb)) pb.1

    same : x ≡ y → nat_lt (be (filled_to n a)) (be (filled_to n b)) ≡ nat_lt (be (filled_to (suc n) (x ∷ a))) (be (filled_to (suc n) (y ∷ b)))
    same e = split (cases_order (be (filled_to n a)) (be (filled_to n b)))
      where
        head : x * 256 ^ n ≡ y * 256 ^ n
        head = ap (λ (z : ℕ). z * 256 ^ n) e

        split : (be (filled_to n a) ≡ be (filled_to n b)) ⊎ ((be (filled_to n a) < be (filled_to n b)) ⊎ (be (filled_to n b) < be (filled_to n a)))
            → nat_lt (be (filled_to n a)) (be (filled_to n b)) ≡ nat_lt (be (filled_to (suc n) (x ∷ a))) (be (filled_to (suc n) (y ∷ b)))
        split (inl eq) = le-ltb _ _ (omega (arith, eq)) ∙ sym (le-ltb _ _ (omega (arith, eq, head, fa, fb)))
        split (inr (inl lt)) = lt-ltb _ _ lt ∙ sym (lt-ltb _ _ (omega (arith, lt, head, fa, fb)))
        split (inr (inr gt)) = le-ltb _ _ (omega (arith, gt)) ∙ sym (le-ltb _ _ (omega (arith, gt, head, fa, fb)))

    go : by_bytes a b ≡ nat_lt (be (filled_to n a)) (be (filled_to n b)) → (x ≡ y) ⊎ ((x < y) ⊎ (y < x))
        → by_bytes (x ∷ a) (y ∷ b) ≡ nat_lt (be (filled_to (suc n) (x ∷ a))) (be (filled_to (suc n) (y ∷ b)))
    go rest (inl e) =
        let equal : nat_cmp x y ≡ Equal = ap (λ (t : Bool). cond t Less (cond (x == y) Equal Greater)) (le-ltb x y (omega (arith, e))) ∙ ap (λ (t : Bool). cond t Equal Greater) (eq-eqb x y e) in
        ap (λ (o : Ordering). is_lt (ordering_then o (slice_cmp nat_cmp a b))) equal ∙ rest ∙ same e
    go rest (inr (inl lt)) =
        let less : nat_cmp x y ≡ Less = ap (λ (t : Bool). cond t Less (cond (x == y) Equal Greater)) (lt-ltb x y lt) in
        ap (λ (o : Ordering). is_lt (ordering_then o (slice_cmp nat_cmp a b))) less ∙ sym (lt-ltb _ _ (omega (arith, fa, fb, lower x y (256 ^ n) (be (filled_to n a)) (be (filled_to n b)) lt ba)))
    go rest (inr (inr gt)) =
        let more : nat_cmp x y ≡ Greater = ap (λ (t : Bool). cond t Less (cond (x == y) Equal Greater)) (le-ltb x y (omega (arith, gt))) ∙ ap (λ (t : Bool). cond t Equal Greater) (ne_eqb x y (λ e. omega (arith, e, gt))) in
        ap (λ (o : Ordering). is_lt (ordering_then o (slice_cmp nat_cmp a b))) more ∙ sym (le-ltb _ _ (omega (arith, fa, fb, lower y x (256 ^ n) (be (filled_to n b)) (be (filled_to n a)) gt bb)))

-- one number, one name
one_name : (n : ℕ) (a b : List ℕ) → length a ≤ n → length b ≤ n → AreLetters a → AreLetters b → be (filled_to n a) ≡ be (filled_to n b) → a ≡ b
one_name n [] [] la lb ha hb e = refl
one_name n [] (y ∷ b) la lb ha hb e = absurd (omega (arith, e, above_none n y b lb hb))
one_name n (x ∷ a) [] la lb ha hb e = absurd (omega (arith, e, above_none n x a la ha))
one_name zero (x ∷ a) (y ∷ b) la lb ha hb e = absurd (omega (arith, la))
one_name (suc n) (x ∷ a) (y ∷ b) la lb ha hb e =
    let pa = and_parts (is_key_letter x) (list_all is_key_letter a) ha in
    let pb = and_parts (is_key_letter y) (list_all is_key_letter b) hb in
    let fa = first_byte n x a (omega (arith, la)) in
    let fb = first_byte n y b (omega (arith, lb)) in
    let ba = below n a (omega (arith, la)) pa.1 in
    let bb = below n b (omega (arith, lb)) pb.1 in
    let head : x ≡ y = first x y (256 ^ n) (be (filled_to n a)) (be (filled_to n b)) ba bb (sym fa ∙ e ∙ fb) in
    let tail : be (filled_to n a) ≡ be (filled_to n b) = omega (arith, e, fa, fb, ap (λ (z : ℕ). z * 256 ^ n) head) in
    ap (λ (z : ℕ). z ∷ a) head ∙ ap (λ (zs : List ℕ). y ∷ zs) (one_name n a b (omega (arith, la)) (omega (arith, lb)) pa.1 pb.1 tail)
  where
    first : (x y p r s : ℕ) → r < p → s < p → x * p + r ≡ y * p + s → x ≡ y
    first x y p r s hr hs same = go (cases_order x y)
      where
        go : (x ≡ y) ⊎ ((x < y) ⊎ (y < x)) → x ≡ y
        go (inl eq) = eq
        go (inr (inl lt)) = absurd (omega (arith, same, lower x y p r s lt hr))
        go (inr (inr gt)) = absurd (omega (arith, same, lower y x p s r gt hs))

-- ---- places and their two parts

-- a place before all keys, a key's, or one behind them
data Part (p n : ℕ) (k : List ℕ) : Type 0 where
  early : n ≡ p → n < 36 + 2 ^ 32 → k ≡ [] → Part p n k
  of_key : n ≡ 36 + 2 ^ 32 → p ≡ 36 + 2 ^ 32 + be (filled k) → is_key_name k ≡ true → Part p n k
  late : (m : ℕ) → n ≡ 37 + 2 ^ 32 + m → p ≡ 36 + 2 ^ 32 + 256 ^ 255 + m → k ≡ [] → Part p n k

part : (a : FieldName) (n : ℕ) (k : List ℕ) → Stands a n k → Part (field_place a) n k
part (Bext field) n k h = early h.0 h.1 h.2
part (Info id) n k h = early h.0 h.1 h.2
part (Whole id) n k h = early h.0 h.1 h.2
part (User id) n k h = early h.0 h.1 h.2
part (Key name) n k h = of_key h.0 (ap (λ (x : List ℕ). 36 + 2 ^ 32 + be (filled x)) (sym h.1)) (ap is_key_name h.1 ∙ h.2)
part (Stream m) n k h = late m h.0 refl h.1

key_letters : (k : List ℕ) → is_key_name k ≡ true → (length k ≤ 255) × AreLetters k
key_letters k h =
    let parts = and_parts (nat_lt 0 (length k)) _ h in
    let more = and_parts _ (list_all is_key_letter k) parts.1 in
    (leb-true (length k) 255 more.0, more.1)

pub key_below : (k : List ℕ) → is_key_name k ≡ true → be (filled k) < 256 ^ 255
key_below k h = let z = key_letters k h in below 255 k z.0 z.1

pub one_key : (k l : List ℕ) → is_key_name k ≡ true → is_key_name l ≡ true → be (filled k) ≡ be (filled l) → k ≡ l
one_key k l hk hl e =
    let x = key_letters k hk in
    let y = key_letters l hl in
    one_name 255 k l x.0 y.0 x.1 y.1 e

two_keys : (k l : List ℕ) → is_key_name k ≡ true → is_key_name l ≡ true → by_bytes k l ≡ nat_lt (be (filled k)) (be (filled l))
two_keys k l hk hl =
    let x = key_letters k hk in
    let y = key_letters l hl in
    in_order 255 k l x.0 y.0 x.1 y.1

-- a lower number stands before
up : (p q n m : ℕ) (k l : List ℕ) → Part p n k → Part q m l → n < m → p < q
up p q n m k l (early e less none) (early e' less' none') lt = omega (arith, e, e', lt)
up p q n m k l (early e less none) (of_key n' q' name) lt = omega (arith, e, less, q')
up p q n m k l (early e less none) (late j n' q' none') lt = omega (arith, e, less, q')
up p q n m k l (of_key n' p' name) (early e' less' none') lt = absurd (omega (arith, n', less', lt))
up p q n m k l (of_key n' p' name) (of_key m' q' name') lt = absurd (omega (arith, n', m', lt))
up p q n m k l (of_key n' p' name) (late j m' q' none') lt = omega (arith, p', q', key_below k name)
up p q n m k l (late i n' p' none) (early e' less' none') lt = absurd (omega (arith, n', less', lt))
up p q n m k l (late i n' p' none) (of_key m' q' name') lt = absurd (omega (arith, n', m', lt))
up p q n m k l (late i n' p' none) (late j m' q' none') lt = omega (arith, n', m', p', q', lt)

-- at one number the keys decide
level : (p q n m : ℕ) (k l : List ℕ) → Part p n k → Part q m l → n ≡ m → by_bytes k l ≡ nat_lt p q
level p q n m k l (early e less none) (early e' less' none') s = ap (λ (x : List ℕ). by_bytes x l) none ∙ ap (λ (x : List ℕ). by_bytes [] x) none' ∙ sym (le-ltb p q (omega (arith, e, e', s)))
level p q n m k l (early e less none) (of_key m' q' name) s = absurd (omega (arith, less, m', s))
level p q n m k l (early e less none) (late j m' q' none') s = absurd (omega (arith, less, m', s))
level p q n m k l (of_key n' p' name) (early e' less' none') s = absurd (omega (arith, n', less', s))
level p q n m k l (of_key n' p' name) (of_key m' q' name') s = two_keys k l name name' ∙ shifted (36 + 2 ^ 32) (be (filled k)) (be (filled l)) p q p' q'
  where
    shifted : (c x y p q : ℕ) → p ≡ c + x → q ≡ c + y → nat_lt x y ≡ nat_lt p q
    shifted c x y p q hp hq = split (cases_lt x y)
      where
        split : (x < y) ⊎ (y ≤ x) → nat_lt x y ≡ nat_lt p q
        split (inl lt) = lt-ltb x y lt ∙ sym (lt-ltb p q (omega (arith, lt, hp, hq)))
        split (inr le) = le-ltb x y le ∙ sym (le-ltb p q (omega (arith, le, hp, hq)))
level p q n m k l (of_key n' p' name) (late j m' q' none') s = absurd (omega (arith, n', m', s))
level p q n m k l (late i n' p' none) (early e' less' none') s = absurd (omega (arith, n', less', s))
level p q n m k l (late i n' p' none) (of_key m' q' name') s = absurd (omega (arith, n', m', s))
level p q n m k l (late i n' p' none) (late j m' q' none') s = ap (λ (x : List ℕ). by_bytes x l) none ∙ ap (λ (x : List ℕ). by_bytes [] x) none' ∙ sym (le-ltb p q (omega (arith, n', m', p', q', s)))

pub lower_number : (a b : FieldName) (n m : ℕ) (k l : List ℕ) → Stands a n k → Stands b m l → n < m → field_place a < field_place b
lower_number a b n m k l ha hb lt = up (field_place a) (field_place b) n m k l (part a n k ha) (part b m l hb) lt

pub same_number : (a b : FieldName) (n m : ℕ) (k l : List ℕ) → Stands a n k → Stands b m l → n ≡ m → by_bytes k l ≡ nat_lt (field_place a) (field_place b)
same_number a b n m k l ha hb s = level (field_place a) (field_place b) n m k l (part a n k ha) (part b m l hb) s

-- what `<` of two slices answers
pub less_bytes : (k l : List ℕ) → is_some_and is_lt (slice_partial_cmp (as_partial_cmp nat_cmp) k l) ≡ by_bytes k l
less_bytes k l = let agree : Agrees (slice_partial_cmp (as_partial_cmp nat_cmp)) (slice_cmp nat_cmp) = lists_agrees (λ x y. refl) in ap (is_some_and is_lt) (agree k l)

-- The headers of the atoms that hold tables, and spans that are put among them.
use Rattle.std.proofs.Common.{◌≡◌, ◌∙◌, ℕ, suc, ◌+◌, ◌≤◌, Bool, true, false, cond, List, [], ◌∷◌, ◌++◌, length, refl, sym, ap, subst, arith}
use Rattle.std.specs.Prelude.{nat_lt}
use Rattle.std.specs.List.{AllByRecursion, insert}
use Rattle.std.specs.List.Sorted.{IsPartitionPoint}
use Rattle.std.proofs.lemmas.List.Sums.{prefix_len_is}
use Rattle.unit_plan.specs.declared.cut.CutAt.{CutAt}
use Rattle.mov_plan.specs.Holders.{begun_by, cuts_before, put_all, put_cut}
use Rattle.mov_plan.specs.declared.tables.TableAt.{TableAt}

-- a table without rows
no_table : TableAt
no_table = record { at = 0; wide = false; rows = 0 }

-- how many begin before a place, by where they are parted
pub begun_is : (p : ℕ) (ts : List TableAt) (i : ℕ) → i ≤ length ts → IsPartitionPoint (λ t. nat_lt t.at p ≡ true) (λ t. nat_lt t.at p ≡ false) ts i → i ≡ begun_by p ts
begun_is p ts i le h = sym (prefix_len_is (λ t. nat_lt t.at p) ts i no_table le (λ k lt. h.0 k no_table (omega arith) lt) (λ lt. h.1 i no_table (omega arith) lt))

-- the last of some spans is put first
pub put_last : (us : List CutAt) (u : CutAt) (ks : List CutAt) → put_all (us ++ u ∷ []) ks ≡ put_all us (put_cut u ks)
put_last [] u ks = refl
put_last (x ∷ us) u ks = ap (put_cut x) (put_last us u ks)

-- a span more stands behind those that begin before it
pub put_is : (u : CutAt) (ks : List CutAt) → insert ks (cuts_before u.span.at ks) u ≡ put_cut u ks
put_is u [] = refl
put_is u (k ∷ ks) = go (nat_lt k.span.at u.span.at) (put_is u ks)
  where
    go : (t : Bool) → insert ks (cuts_before u.span.at ks) u ≡ put_cut u ks → insert (k ∷ ks) (cond t (1 + cuts_before u.span.at ks) 0) u ≡ cond t (k ∷ put_cut u ks) (u ∷ (k ∷ ks))
    go true again =
        let next : 1 + cuts_before u.span.at ks ≡ suc (cuts_before u.span.at ks) = omega arith in
        ap (λ (n : ℕ). insert (k ∷ ks) n u) next ∙ ap (λ (xs : List CutAt). k ∷ xs) again
    go false again = refl

-- what holds of each of both holds of each
pub put_one : (P : CutAt → Type 0) (u : CutAt) (ks : List CutAt) → P u → AllByRecursion P ks → AllByRecursion P (put_cut u ks)
put_one P u [] p h = (p, tt)
put_one P u (k ∷ ks) p h = go (nat_lt k.span.at u.span.at) (put_one P u ks p h.1)
  where
    go : (t : Bool) → AllByRecursion P (put_cut u ks) → AllByRecursion P (cond t (k ∷ put_cut u ks) (u ∷ (k ∷ ks)))
    go true again = (h.0, again)
    go false again = (p, h)

pub put_each : (P : CutAt → Type 0) (us ks : List CutAt) → AllByRecursion P us → AllByRecursion P ks → AllByRecursion P (put_all us ks)
put_each P [] ks u h = h
put_each P (x ∷ us) ks u h = put_one P x (put_all us ks) u.0 (put_each P us ks u.1 h)

-- and of one more
pub one_last : (P : CutAt → Type 0) (ks new : List CutAt) (k : CutAt) → new ≡ ks ++ k ∷ [] → AllByRecursion P ks → P k → AllByRecursion P new
one_last P ks new k e h p = subst (AllByRecursion P) (sym e) (go ks h)
  where
    go : (ks : List CutAt) → AllByRecursion P ks → AllByRecursion P (ks ++ k ∷ [])
    go [] h = (p, tt)
    go (x ∷ ks) h = (h.0, go ks h.1)

-- of those but the last, and of the last
pub but_last : (P : CutAt → Type 0) (ks all : List CutAt) (k : CutAt) → all ≡ ks ++ k ∷ [] → AllByRecursion P all → AllByRecursion P ks × P k
but_last P ks all k e h = go ks (subst (AllByRecursion P) e h)
  where
    go : (ks : List CutAt) → AllByRecursion P (ks ++ k ∷ []) → AllByRecursion P ks × P k
    go [] h = (tt, h.0)
    go (x ∷ ks) h = ((h.0, (go ks h.1).0), (go ks h.1).1)

-- The first test that holds.
use Rattle.std.proofs.Common.{◌≡◌, ℕ, zero, suc, ◌<◌, Bool, true, false, List, [], ◌∷◌, ◌++◌, length, drop, refl, arith}
use Rattle.std.specs.Prelude.{slice_index_or, Some, None, if◌then◌else◌}
use Rattle.part_tree.specs.declared.why.Why.{Why}
use Rattle.container_model.specs.Tests.{first}

pub first_at : (ts : List (Bool × Why)) (i : ℕ) (d : Bool × Why) → i < length ts → first (drop i ts) ≡ (if (slice_index_or ts i d).0 then Some (slice_index_or ts i d).1 else first (drop (suc i) ts))
first_at [] i d lt = absurd (omega arith)
first_at (t ∷ ts) zero d lt = refl
first_at (t ∷ ts) (suc i) d lt = first_at ts i d (omega arith)

-- the tests behind others, none of which holds
pub first_behind : (a b : List (Bool × Why)) → first a ≡ None → first (a ++ b) ≡ first b
first_behind [] b e = refl
first_behind (t ∷ a) b e = go t.0 e (first_behind a b)
  where
    go : (x : Bool) → (if x then Some t.1 else first a) ≡ None → (first a ≡ None → first (a ++ b) ≡ first b) → (if x then Some t.1 else first (a ++ b)) ≡ first b
    go true e again = absurd cc
    go false e again = again e

-- a test that holds, whatever is behind it
pub first_before : (a b : List (Bool × Why)) (w : Why) → first a ≡ Some w → first (a ++ b) ≡ Some w
first_before [] b w e = absurd cc
first_before (t ∷ a) b w e = go t.0 e (first_before a b w)
  where
    go : (x : Bool) → (if x then Some t.1 else first a) ≡ Some w → (first a ≡ Some w → first (a ++ b) ≡ Some w) → (if x then Some t.1 else first (a ++ b)) ≡ Some w
    go true e again = e
    go false e again = again e

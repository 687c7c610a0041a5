-- How many calls a swap makes.
use Rattle.std.proofs.Common.{◌≡◌, ℕ, ◌+◌, ◌-◌, ◌<◌, ◌≤◌, min, max, Some, None, refl, ap, subst, arith}
use Rattle.std.proofs.lemmas.Grind.{common_steps}
use Rattle.std.specs.Prelude.{Option, Ok, Err}
use Rattle.me_disk.specs.declared.depot.DepotFault.{DepotFault}
use Rattle.part_tree.specs.declared.plan.Plan.{Plan}
use Rattle.me_disk.specs.Steps.{Counted}
use Rattle.file_swap.specs.Steps.{calls}
use Rattle.file_swap.specs.Swap.{Swapping, next_calls, RunCounts}

pub counted_none : (a : Option ℕ) → Counted 0 a a
counted_none None = λ told. refl
counted_none (Some n) = λ told. ap Some (omega arith)

pub counted_next : (n m : ℕ) (a b c : Option ℕ) → Counted n a b → Counted m b c → Counted (n + m) a c
counted_next n m a b None ab bc = λ told. absurd cc
counted_next n m a None (Some z) ab bc = λ told. absurd (let e = bc told in cc)
counted_next n m None (Some y) (Some z) ab bc = λ told. absurd (let e = ab refl in cc)
counted_next n m (Some x) (Some y) (Some z) ab bc = λ told. grind (arith, common_steps, ab refl, bc refl)

-- the next turn makes a call
pub turn_counts : (s : Swapping) (a b : Option ℕ) → s.made < calls s.plan → Counted 1 a b → Counted (next_calls s) a b
turn_counts s a b low one = let e : 1 ≡ min 1 (calls s.plan - s.made) = omega arith in subst (λ (n : ℕ). Counted n a b) e one

-- it makes none
pub turn_idle : (s : Swapping) (a : Option ℕ) → s.made ≡ calls s.plan → Counted (next_calls s) a a
turn_idle s a all = let e : 0 ≡ min 1 (calls s.plan - s.made) = omega arith in subst (λ (n : ℕ). Counted n a a) e (counted_none a)

-- ---- a run

-- so many calls were made since the run began with the first calls made
pub record HasCounted (p : Plan) (first k : ℕ) (old now : Option ℕ) : Type 0 where
  pub later : first ≤ k
  pub low : k ≤ max first (calls p)
  pub exact : Counted (k - first) old now

pub counted_first : (p : Plan) (first : ℕ) (a : Option ℕ) → HasCounted p first first a a
counted_first p first a = let e : 0 ≡ first - first = omega arith in record { later = omega arith; low = omega arith; exact = subst (λ (n : ℕ). Counted n a a) e (counted_none a) }

module _ (p : Plan) (first : ℕ) (here : Swapping) (old now new : Option ℕ) (same : here.plan ≡ p) (before : HasCounted p first here.made old now) (far : Counted (next_calls here) now new) where
  all : calls here.plan ≡ calls p
  all = ap calls same

  so_far : Counted (here.made - first + next_calls here) old new
  so_far = counted_next (here.made - first) (next_calls here) old now new before.exact far

  pub counted_more : (k : ℕ) → k ≡ here.made + 1 → k < calls here.plan → HasCounted p first k old new
  counted_more k next low =
      let e : here.made - first + next_calls here ≡ k - first = omega (arith, before.later) in
      record { later = omega (arith, before.later); low = omega (arith, all); exact = subst (λ (n : ℕ). Counted n old new) e so_far }

  pub counted_done : (k : ℕ) → k ≡ min (here.made + 1) (calls here.plan) → k ≡ calls here.plan → RunCounts (calls p - first) old new (Ok tt)
  counted_done k next ended =
      let e : here.made - first + next_calls here ≡ calls p - first = omega (arith, before.later, before.low, all) in
      let is = subst (λ (n : ℕ). Counted n old new) e so_far in
      record { most = (calls p - first, omega arith, is); exact = is }

  pub counted_failed : (e : DepotFault) → RunCounts (calls p - first) old new (Err e)
  counted_failed e = record { most = (here.made - first + next_calls here, omega (arith, before.later, before.low, all), so_far); exact = tt }

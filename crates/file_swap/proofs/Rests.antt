-- The steps that a plan has left.
use Rattle.std.proofs.Common.{◌≡◌, ℕ, zero, suc, ◌+◌, ◌≤◌, ◌<◌, List, [], ◌∷◌, length, take, drop, get_or, refl, sym, ◌∙◌, ap, arith, length-drop}
use Rattle.std.proofs.lemmas.List.{drop-drop, get_or-drop}
use Rattle.part_tree.specs.declared.plan.Plan.{Plan}
use Rattle.me_disk.specs.Calls.Call.{DropJournal}
use Rattle.file_swap.specs.Steps.{Step, steps, calls, step_at, step_bytes, bytes_in, bytes_by}
use Rattle.file_swap.specs.Steps.Step.{Makes}
use Rattle.file_swap.specs.Machines.{made_by, IsRest}

-- before the first call
pub first_made : (p : Plan) (rest : List Step) → rest ≡ steps p → made_by p rest ≡ 0
unfolding calls
first_made p rest is = omega (arith, ap (λ (l : List Step). length l) is)

pub first_rest : (p : Plan) (rest : List Step) → rest ≡ steps p → IsRest p rest
first_rest p rest is = record { is = ap (λ (k : ℕ). drop k (steps p)) (first_made p rest is) ∙ sym is }

-- as many are left as the plan has, less those that were made
pub rest_length : (p : Plan) (rest : List Step) → IsRest p rest → made_by p rest + length rest ≡ calls p
unfolding calls
rest_length p rest is_rest = omega (arith, length-drop (made_by p rest) (steps p), ap (λ (l : List Step). length l) is_rest.is)

-- after the last call
pub rest_none : (p : Plan) (rest : List Step) → IsRest p rest → rest ≡ [] → made_by p rest ≡ calls p
rest_none p rest is_rest none = omega (arith, rest_length p rest is_rest, ap (λ (l : List Step). length l) none)

pub rest_some : (p : Plan) (rest : List Step) → IsRest p rest → (rest ≡ [] → ⊥) → made_by p rest < calls p
rest_some p [] is_rest more = absurd (more refl)
rest_some p (s ∷ ss) is_rest more = omega (arith, rest_length p (s ∷ ss) is_rest)

module _ (p : Plan) (rest more : List Step) (s : Step) (is_rest : IsRest p rest) (is : rest ≡ s ∷ more) where
  size : length rest ≡ suc (length more)
  size = ap (λ (l : List Step). length l) is

  is_left : drop (made_by p rest) (steps p) ≡ s ∷ more
  is_left = is_rest.is ∙ is

  pub next_low : made_by p rest < length (steps p)
  next_low = omega (arith, length-drop (made_by p rest) (steps p), ap (λ (l : List Step). length l) is_left)

  pub next_step : step_at p (made_by p rest) ≡ s
  next_step =
      let k = made_by p rest in
      let e : k ≡ k + 0 = omega arith in
      ap (λ (n : ℕ). get_or (steps p) n (Makes DropJournal)) e ∙ sym (get_or-drop k (steps p) 0 (Makes DropJournal)) ∙ ap (λ (l : List Step). get_or l 0 (Makes DropJournal)) is_left

  pub next_made : made_by p more ≡ made_by p rest + 1
  next_made = omega (arith, rest_length p rest is_rest, size)

  pub next_rest : IsRest p more
  next_rest = record {
    is = ap (λ (k : ℕ). drop k (steps p)) next_made ∙ sym (drop-drop 1 (made_by p rest) (steps p)) ∙ ap (λ (l : List Step). drop 1 l) is_left;
  }

-- ---- the bytes

pub bytes_more : (k : ℕ) (ss : List Step) (d : Step) → k < length ss → bytes_in (take (suc k) ss) ≡ bytes_in (take k ss) + step_bytes (get_or ss k d)
bytes_more k [] d low = absurd (omega arith)
bytes_more zero (s ∷ ss) d low = omega arith
bytes_more (suc k) (s ∷ ss) d low = let h = bytes_more k ss d (omega arith) in omega arith

pub bytes_most : (k : ℕ) (ss : List Step) → bytes_in (take k ss) ≤ bytes_in ss
bytes_most zero ss = omega arith
bytes_most (suc k) [] = omega arith
bytes_most (suc k) (s ∷ ss) = let h = bytes_most k ss in omega arith

-- the next step's bytes, or none after the last
pub bytes_step : (k : ℕ) (ss : List Step) (d : Step) → step_bytes d ≡ 0 → bytes_in (take (suc k) ss) ≡ bytes_in (take k ss) + step_bytes (get_or ss k d)
bytes_step zero [] d none = omega arith
bytes_step (suc k) [] d none = omega arith
bytes_step zero (s ∷ ss) d none = omega arith
bytes_step (suc k) (s ∷ ss) d none = let h = bytes_step k ss d none in omega arith

pub bytes_next : (p : Plan) (k : ℕ) → bytes_by p (suc k) ≡ bytes_by p k + step_bytes (step_at p k)
bytes_next p k = bytes_step k (steps p) (Makes DropJournal) refl

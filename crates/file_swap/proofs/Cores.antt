-- A turn of a swap's machine.
use Rattle.std.proofs.Common.{◌≡◌, ℕ, ◌+◌, ◌≤◌, ◌<◌, min, Bool, false, List, [], ◌∷◌, length, refl, sym, ◌∙◌, ap, subst, arith}
use Rattle.std.specs.Prelude.{Result, Ok, Err}
use Rattle.me_disk.specs.declared.depot.DepotFault.{DepotFault}
use Rattle.part_tree.specs.declared.plan.Plan.{Plan}
use Rattle.me_disk.specs.Disk.{Disk, IsLawful, Leaves}
use Rattle.me_disk.specs.Steps.{Writes}
use Rattle.file_swap.specs.Steps.{Step, Change, changed, steps, calls, step_at, step_bytes}
use Rattle.file_swap.specs.Steps.Step.{Appends}
use Rattle.part_tree.specs.Plans.{CanRun, Belongs}
use Rattle.file_swap.specs.Midway.{Midway, Phase, IsNear, held_at}
use Rattle.file_swap.specs.Fits.{StepDoes, Permits, HoldsAfter}
use Rattle.file_swap.specs.Swap.{fresh, Underway, IsSure, TurnWrites}
use Rattle.file_swap.specs.declared.machine.Turn.{Turn}
use Rattle.file_swap.specs.declared.machine.Turn.TheVariants.{Fault}
use Rattle.file_swap.specs.declared.machine.Machine.{Machine}
use Rattle.file_swap.specs.declared.machine.Machine.TheVariants.{InPlace, Rewrite}
use Rattle.file_swap.specs.declared.machine.Core.{Core}
use Rattle.file_swap.specs.Machines.{plan_of, left, step_of, held_of, IsMachine, made_by, IsRest, IsSound, swap_of}
use Rattle.file_swap.proofs.Stages as Stages
use Rattle.file_swap.proofs.Copies as Copies
use Rattle.file_swap.proofs.Rests.{first_made, first_rest, rest_none, rest_some, next_low, next_step, next_made, next_rest}
use Rattle.file_swap.proofs.Turns.{step_permits, step_midway, step_leaves, step_sure, step_holds, step_writes, step_tells, step_later}

-- ---- a machine

pub can_run : (m : Machine) → IsMachine m → CanRun (plan_of m)
can_run (InPlace p) sound = sound.work.rules
can_run (Rewrite r) sound = sound.sum

pub some_more : (m : Machine) → IsMachine m → (left m ≡ [] → ⊥) → (more : List Step) × (left m ≡ step_of m ∷ more)
some_more (InPlace p) sound more = Stages.stage_more p.work p.stage (Stages.not_ended p.work p.stage more) sound.stage
some_more (Rewrite r) sound more = Copies.stage_more r.parts r.stage (Copies.not_ended r.parts r.stage more) sound.stage

pub held_length : (m : Machine) → IsMachine m → (n : ℕ) (change : Change) → step_of m ≡ Appends n change → length (changed change (held_of m)) ≡ n
held_length (InPlace p) sound n change is = absurd cc
held_length (Rewrite r) sound n change is = Copies.rewriting_size r n change sound is

-- ---- before the first call

pub first_swap : (m : Machine) (p : Plan) → plan_of m ≡ p → left m ≡ steps (plan_of m) → held_of m ≡ [] → swap_of (record { machine = m; failed = false }) ≡ fresh p
first_swap m p plan all held =
    let made : made_by (plan_of m) (left m) ≡ 0 = first_made (plan_of m) (left m) all in
    λ i. record { plan = plan i; made = made i; held = held i; failed = false }

pub first_sound : (m : Machine) → IsMachine m → left m ≡ steps (plan_of m) → IsSound (record { machine = m; failed = false })
first_sound m sound all = record { machine = sound; rest = first_rest (plan_of m) (left m) all }

-- ---- a turn

module _ (c : Core) (sound : IsSound c) (some : left c.machine ≡ [] → ⊥) (o : List ℕ) (old new : Disk) (under : Underway (swap_of c) o old) where
  abbrev p : Plan
  p = plan_of c.machine

  abbrev k : ℕ
  k = made_by p (left c.machine)

  abbrev s : Step
  s = step_of c.machine

  abbrev held : List ℕ
  held = held_of c.machine

  more : (more : List Step) × (left c.machine ≡ s ∷ more)
  more = some_more c.machine sound.machine some

  low : k < length (steps p)
  low = next_low p (left c.machine) more.0 s sound.rest more.1

  is : step_at p k ≡ s
  is = next_step p (left c.machine) more.0 s sound.rest more.1

  size : (n : ℕ) (change : Change) → s ≡ Appends n change → length (changed change held) ≡ n
  size = held_length c.machine sound.machine

  pub core_permits : Permits s held old
  core_permits = step_permits p o k s held old new low is size (can_run c.machine sound.machine) under.belongs under.held under.midway

  pub core_leaves : IsLawful old → (r : Result Unit DepotFault) → StepDoes s held old new r → IsSure (swap_of c) o old → Leaves (IsNear p o k) old new
  core_leaves law_old r does sure = step_leaves p o k s held old new low is size (can_run c.machine sound.machine) under.belongs under.held under.midway law_old sure r does

  pub core_tells : (r : Result Unit DepotFault) → StepDoes s held old new r → new.tells ≡ old.tells
  core_tells r does = step_tells s held old new r does

  pub core_later : (r : Result Unit DepotFault) → StepDoes s held old new r → old.faults ≤ new.faults
  core_later r does = step_later s held old new r does

  pub core_writes : (r : Result Unit DepotFault) → StepDoes s held old new r → Writes (step_bytes (step_at p k)) old new r
  core_writes r does = subst (λ (x : Step). Writes (step_bytes x) old new r) (sym is) (step_writes s held old new r size does)

  pub core_wrote : (x : Unit {0}) (t : Turn) → StepDoes s held old new (Ok x) → TurnWrites (step_bytes (step_at p k)) old new t
  core_wrote x t does = let w = core_writes (Ok x) does in record { least = w.least; most = w.most; exact = λ ok. w.exact }

  pub core_failed : (e : DepotFault) → StepDoes s held old new (Err e) → TurnWrites (step_bytes (step_at p k)) old new Fault
  core_failed e does = let w = core_writes (Err e) does in record { least = w.least; most = w.most; exact = λ ok. absurd (ok refl) }

  pub core_low : k < calls p
  core_low = rest_some p (left c.machine) sound.rest some

  module _ (next : Machine) (f : Bool) (next_sound : IsMachine next) (same : plan_of next ≡ p) (after : left c.machine ≡ s ∷ left next) where
    pub core_rest : IsRest (plan_of next) (left next)
    core_rest = subst (λ (q : Plan). IsRest q (left next)) (sym same) (next_rest p (left c.machine) (left next) s sound.rest after)

    core_made : made_by (plan_of next) (left next) ≡ k + 1
    core_made = ap (λ (q : Plan). made_by q (left next)) same ∙ next_made p (left c.machine) (left next) s sound.rest after

    pub core_sound : IsSound (record { machine = next; failed = f })
    core_sound = record { machine = next_sound; rest = core_rest }

    pub core_counts : made_by (plan_of next) (left next) ≡ min (k + 1) (calls p)
    core_counts = let l = core_low in omega (arith, core_made)

    pub core_open : (left next ≡ [] → ⊥) → made_by (plan_of next) (left next) < calls p
    core_open open_next = subst (λ (q : Plan). made_by (plan_of next) (left next) < calls q) same (rest_some (plan_of next) (left next) core_rest open_next)

    pub core_done : left next ≡ [] → made_by (plan_of next) (left next) ≡ calls p
    core_done none = rest_none (plan_of next) (left next) core_rest none ∙ ap calls same

    pub core_underway : (x : Unit {0}) → c.failed ≡ f → StepDoes s held old new (Ok x) → HoldsAfter s (held_of next) old → Underway (swap_of (record { machine = next; failed = f })) o new
    core_underway x flag does holds =
        let tells = step_tells s held old new (Ok x) does in
        let mid : Midway p o (k + 1) new = step_midway p o k s held old new low is size (can_run c.machine sound.machine) under.belongs under.held under.midway x does in
        record {
          unfailed = sym flag ∙ under.unfailed;
          belongs = λ t. subst (λ (q : Plan). Belongs q o) (sym same) (under.belongs (sym tells ∙ t));
          held = λ t.
              step_holds p o k s held old new low is size (can_run c.machine sound.machine) under.belongs under.held under.midway (held_of next) (sym tells ∙ t) holds
              ∙ (λ i. held_at (sym same i) o (sym core_made i));
          midway = subst (λ (q : Plan). Midway q o (made_by (plan_of next) (left next)) new) (sym same) (subst (λ (n : ℕ). Midway p o n new) (sym core_made) mid);
        }

    pub core_sure : IsLawful old → IsLawful new → (x : Unit {0}) → StepDoes s held old new (Ok x) → IsSure (swap_of c) o old → IsSure (swap_of (record { machine = next; failed = f })) o new
    core_sure law_old law_new x does sure i h =
        let here : Phase p o (k + 1) i = step_sure p o k s held old new low is size (can_run c.machine sound.machine) under.belongs under.held under.midway law_old law_new sure x does i h in
        subst (λ (q : Plan). Phase q o (made_by (plan_of next) (left next)) i) (sym same) (subst (λ (n : ℕ). Phase p o n i) (sym core_made) here)

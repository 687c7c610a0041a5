-- The machine of a swap: patches in place, or a rewrite.
use Rattle.std.specs.Prelude.{◌≡◌, ℕ, ◌-◌, List, [], length, drop}
use Rattle.part_tree.specs.declared.plan.Plan.{Plan}
use Rattle.file_swap.specs.Steps.{Step, steps, calls}
use Rattle.file_swap.specs.Steps.Step.{Makes}
use Rattle.file_swap.specs.Stages as Stages
use Rattle.file_swap.specs.Parts as Parts
use Rattle.file_swap.specs.Swap.{Swapping}
use Rattle.file_swap.specs.declared.machine.Machine.{Machine}
use Rattle.file_swap.specs.declared.machine.Machine.TheVariants.{InPlace, Rewrite}
use Rattle.file_swap.specs.declared.machine.Core.{Core}

-- the plan of a machine
abbrev pub plan_of : Machine → Plan
plan_of (InPlace p) = Stages.plan_of p.work
plan_of (Rewrite r) = Parts.plan_of r.parts

-- the calls that are left
abbrev pub left : Machine → List Step
left (InPlace p) = Stages.left p.work p.stage
left (Rewrite r) = Parts.left r.parts r.stage

-- the next of them
abbrev pub step_of : Machine → Step
step_of (InPlace p) = Makes (Stages.call_at p.work p.stage)
step_of (Rewrite r) = Parts.step_of r.parts r.stage

-- what it has read and not yet appended
abbrev pub held_of : Machine → List ℕ
held_of (InPlace p) = []
held_of (Rewrite r) = Parts.held_of r

-- what holds of a machine at each moment
abbrev pub IsMachine : Machine → Type 0
IsMachine (InPlace p) = Stages.IsPatching p
IsMachine (Rewrite r) = Parts.IsRewriting r

-- how many calls were made when these are left
abbrev pub made_by : Plan → List Step → ℕ
made_by p rest = calls p - length rest

-- these are the last calls of the plan
pub record IsRest (p : Plan) (rest : List Step) : Type 0 where
  pub is : drop (made_by p rest) (steps p) ≡ rest

-- what holds of a swap at each moment
pub record IsSound (c : Core) : Type 0 where
  pub machine : IsMachine c.machine
  pub rest : IsRest (plan_of c.machine) (left c.machine)

-- a swap as its callers see it
abbrev pub swap_of : Core → Swapping
swap_of c = record { plan = plan_of c.machine; made = made_by (plan_of c.machine) (left c.machine); held = held_of c.machine; failed = c.failed }

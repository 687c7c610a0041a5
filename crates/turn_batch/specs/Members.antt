-- The members of a batch, and what a turn leaves of one.
use Rattle.std.specs.Prelude.{◌≡◌, ◌≢◌, ℕ, ◌+◌, ◌<◌, ◌≤◌, min, Bool, true, false, ◌||◌, if◌then◌else◌, is_some, List, [], ◌∷◌, Option, Some, None, ⊤}
use Rattle.std.specs.List.{list_any}
use Rattle.me_disk.specs.Causes.{Rose}
use Rattle.me_disk.specs.Disk.{Disk, Leaves}
use Rattle.part_tree.specs.Plans.{CanRun}
use Rattle.file_swap.specs.Steps.{calls, step_at, step_bytes}
use Rattle.file_swap.specs.Midway.{IsNear}
use Rattle.file_swap.specs.Swap.{Swapping, fresh, Underway, IsSure, TurnWrites}
use Rattle.file_swap.specs.declared.machine.Turn.{Turn}
use Rattle.file_swap.specs.declared.machine.Turn.TheVariants as turn
use Rattle.turn_batch.specs.declared.member.BatchTurn.{BatchTurn}
use Rattle.turn_batch.specs.declared.member.BatchTurn.TheVariants.{More, Done, Fault, Ended}
use Rattle.turn_batch.specs.declared.member.Member.{Member}

-- what holds of the swap, where there is one
abbrev pub OnSwap : Option Swapping → (Swapping → Type 0) → Type 0
OnSwap None P = ⊤
OnSwap (Some s) P = P s

-- the swap that makes a member's next turn, or none where it has ended
abbrev pub open_swap : Member → Option Swapping
open_swap m = if m.ended then None else m.swap

-- a member before its first turn
abbrev pub fresh_member : Option Swapping → Member
fresh_member s = record { swap = s; ended = false; failed = false }

-- no swap has made a turn
abbrev pub AllFresh : List (Option Swapping) → Type 0
AllFresh [] = ⊤
AllFresh (s ∷ ss) = OnSwap s (λ x. x ≡ fresh x.plan) × AllFresh ss

-- whether a call of the swap has failed
abbrev pub failed_in : Option Swapping → Bool
failed_in None = false
failed_in (Some s) = s.failed

-- where it makes turns it has calls left, and it tells whether a call of its swap has failed
pub record IsSound (m : Member) : Type 0 where
  pub low : OnSwap (open_swap m) (λ s. s.made < calls s.plan)
  pub told : m.failed ≡ failed_in m.swap

-- each member is sound
abbrev pub AllLow : List Member → Type 0
AllLow [] = ⊤
AllLow (m ∷ ms) = IsSound m × AllLow ms

-- whether it still makes turns
abbrev pub is_open : Member → Bool
is_open m = is_some (open_swap m)

-- whether one of them still makes turns
abbrev pub some_open : List Member → Bool
some_open ms = list_any is_open ms

-- where it makes turns, its calls so far were made on this file
abbrev pub IsReady : List ℕ → Member → Disk → Type 0
IsReady o m d = OnSwap (open_swap m) (λ s. Underway s o d)

-- what a batch answers for the answer of a swap
abbrev pub told : Turn → BatchTurn
told turn.More = More
told turn.Done = Done
told turn.Fault = Fault

-- whether calls are left after this answer
abbrev pub is_more : BatchTurn → Bool
is_more More = true
is_more Done = false
is_more Fault = false
is_more Ended = false

-- whether the answer ends a member
abbrev pub ends : Turn → Bool
ends turn.More = false
ends turn.Done = true
ends turn.Fault = true

-- whether it is Fault
abbrev pub fails : Turn → Bool
fails turn.More = false
fails turn.Done = false
fails turn.Fault = true

-- a turn of a swap: what it says of its plan, of the calls made, and of the depot
pub record SwapTurned (s next : Swapping) (o : List ℕ) (a b : Disk) (t : Turn) : Type 0 where
  pub runs : CanRun s.plan
  pub plan : next.plan ≡ s.plan
  pub made : t ≢ turn.Fault → next.made ≡ min (s.made + 1) (calls s.plan)
  pub more : t ≡ turn.More → next.made < calls s.plan
  pub done : t ≡ turn.Done → next.made ≡ calls s.plan
  pub underway : t ≢ turn.Fault → Underway next o b
  pub fault : t ≡ turn.Fault → next ≡ record s { failed = true }
  pub crash : IsSure s o a → Leaves (IsNear s.plan o s.made) a b
  pub sure : t ≢ turn.Fault → IsSure s o a → IsSure next o b
  pub tells : b.tells ≡ a.tells
  pub later : a.faults ≤ b.faults
  pub written : TurnWrites (step_bytes (step_at s.plan s.made)) a b t
  pub cause : t ≡ turn.Fault → Rose a.faults b.faults

-- what is left of a member that made a turn, and that had failed before or not
pub record Turned (s : Swapping) (was : Bool) (m : Member) (o : List ℕ) (a b : Disk) (answer : BatchTurn) : Type 0 where
  pub next : Swapping
  pub turn : Turn
  pub member : m ≡ record { swap = Some next; ended = ends turn; failed = fails turn || was }
  pub is : answer ≡ told turn
  pub turned : SwapTurned s next o a b turn

-- a turn by the swap that makes it: without one nothing is called and nothing changes
abbrev pub TurnedBy : {D : Type 0} → (D → Disk) → Option Swapping → List ℕ → Member → Member → D → D → BatchTurn → Type 0
TurnedBy disk None o m m' d d' answer = (answer ≡ Ended) × (m' ≡ m) × (d' ≡ d)
TurnedBy disk (Some s) o m m' d d' answer = Turned s m.failed m' o (disk d) (disk d') answer

-- A turn of a member on its depot.
abbrev pub TurnedAt : {D : Type 0} → (D → Disk) → List ℕ → Member → Member → D → D → BatchTurn → Type 0
TurnedAt disk o m m' d d' answer = TurnedBy disk (open_swap m) o m m' d d' answer

-- Turns of a batch by a schedule: the numbers of the members whose turns are made.
use Rattle.std.specs.Prelude.{◌≡◌, ◌⊎◌, ◌↔◌, ℕ, zero, suc, ◌+◌, ◌<◌, ◌≤◌, ◌==◌, min, true, if◌then◌else◌, IsTrue, List, [], ◌∷◌, ◌++◌, length, get_or, Option, Some, None, IfSome}
use Rattle.me_disk.specs.Causes.{Rose}
use Rattle.me_disk.specs.Disk.{Disk, Leaves}
use Rattle.part_tree.specs.Plans.{applied}
use Rattle.file_swap.specs.Steps.{calls, bytes_by, bytes_written}
use Rattle.file_swap.specs.Midway.{SettlesEither}
use Rattle.file_swap.specs.Swap.{Swapping, Underway, IsSure}
use Rattle.turn_batch.specs.declared.member.Member.{Member}
use Rattle.turn_batch.specs.Members.{open_swap, some_open, IsReady}

-- how many turns of the member of this number a schedule has
abbrev pub turns_of : ℕ → List ℕ → ℕ
turns_of i [] = 0
turns_of i (k ∷ ks) = (if k == i then 1 else 0) + turns_of i ks

-- each number below n once, in ascending order
abbrev pub each_once : ℕ → List ℕ
each_once zero = []
each_once (suc n) = each_once n ++ n ∷ []

-- each member that makes turns is under way on its own file and its own depot
abbrev pub Ready : {D : Type 0} → (D → Disk) → (ℕ → List ℕ) → List Member → List D → Type 0
Ready disk files ms ds = (i : ℕ) (m : Member) (d : _) → i < length ms → IsReady (files i) (get_or ms i m) (disk (get_or ds i d))

-- No turn answered Fault: n calls more were made, up to the last, and the depot is as these calls leave it.
pub record Goes (n : ℕ) (s next : Swapping) (m : Member) (o : List ℕ) (a b : Disk) : Type 0 where
  pub made : next.made ≡ min (s.made + n) (calls s.plan)
  pub underway : Underway next o b
  pub sure : IsSure s o a → IsSure next o b
  pub ended : IsTrue m.ended ↔ (next.made ≡ calls s.plan)
  pub written : b.written + bytes_by s.plan s.made ≡ a.written + bytes_by s.plan next.made

-- A turn answered Fault, since the count of this depot rose: this member has ended.
pub record Stopped (s next : Swapping) (m : Member) (a b : Disk) : Type 0 where
  pub ended : m.ended ≡ true
  pub failed : next.failed ≡ true
  pub rose : Rose a.faults b.faults
  pub written : b.written + bytes_by s.plan s.made ≤ a.written + bytes_written s.plan

-- what n turns leave of a member that had calls left, and of its depot
pub record RanOpen (n : ℕ) (s : Swapping) (m : Member) (o : List ℕ) (a b : Disk) : Type 0 where
  pub next : Swapping
  pub swap : m.swap ≡ Some next
  pub plan : next.plan ≡ s.plan
  pub state : Goes n s next m o a b ⊎ Stopped s next m a b
  -- Where each image at first was one after the calls made so far, each that a crash at some moment might have left stands
  -- for its own old file or its own new one.
  pub crash : IsSure s o a → Leaves (SettlesEither o (applied s.plan o)) a b
  pub tells : b.tells ≡ a.tells
  pub later : a.faults ≤ b.faults
  pub least : a.written ≤ b.written

-- n turns by the swap that makes them: without one, or without turns, nothing changes
abbrev pub RanBy : {D : Type 0} → (D → Disk) → Option Swapping → ℕ → Member → Member → List ℕ → D → D → Type 0
RanBy disk None n m m' o d d' = (m' ≡ m) × (d' ≡ d)
RanBy disk (Some s) n m m' o d d' = (n ≡ 0 → (m' ≡ m) × (d' ≡ d)) × RanOpen n s m' o (disk d) (disk d')

-- The turns of a schedule: each member and its depot are left as its own turns leave them, whatever befell the others.
pub record Ran {D : Type 0} (disk : D → Disk) (files : ℕ → List ℕ) (schedule : List ℕ) (ms ms' : List Member) (ds ds' : List D) : Type 0 where
  pub members : length ms' ≡ length ms
  pub depots : length ds' ≡ length ds
  pub each : (i : ℕ) (m : Member) (d : D) → i < length ms
      → RanBy disk (open_swap (get_or ms i m)) (turns_of i schedule) (get_or ms i m) (get_or ms' i m) (files i) (get_or ds i d) (get_or ds' i d)

-- each member made so many turns, or as many as it had
pub record RanEach {D : Type 0} (disk : D → Disk) (files : ℕ → List ℕ) (n : ℕ) (ms ms' : List Member) (ds ds' : List D) : Type 0 where
  pub members : length ms' ≡ length ms
  pub depots : length ds' ≡ length ds
  pub each : (i : ℕ) (m : Member) (d : D) → i < length ms
      → RanBy disk (open_swap (get_or ms i m)) n (get_or ms i m) (get_or ms' i m) (files i) (get_or ds i d) (get_or ds' i d)

-- Rounds until every member has ended, or until so many were made where that is a number: a turn of each member a round.
pub record RanRounds {D : Type 0} (disk : D → Disk) (files : ℕ → List ℕ) (most : Option ℕ) (ms ms' : List Member) (ds ds' : List D) : Type 0 where
  pub made : ℕ
  pub few : IfSome most (λ n. made ≤ n)
  pub whole : some_open ms' ≡ true → most ≡ Some made
  pub ran : RanEach disk files made ms ms' ds ds'

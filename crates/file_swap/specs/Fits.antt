-- Where a step may be made, and what it does.
use Rattle.std.specs.Prelude.{◌≡◌, ℕ, ◌+◌, ◌≤◌, ◌<◌, ◌^◌, min, IsTrue, IsSome, List, [], ◌∷◌, length, take, drop, Result, ⊤}
use Rattle.std.specs.declared.option.Option.TheVariants.{Some}
use Rattle.me_disk.specs.declared.depot.DepotFault.{DepotFault}
use Rattle.me_disk.specs.declared.depot.WorkState.TheVariants.{Open, Ready}
use Rattle.part_tree.specs.declared.plan.Plan.{Plan}
use Rattle.part_tree.specs.declared.plan.Plan.TheVariants.{InPlace, Rewrite}
use Rattle.me_disk.specs.Disk.{Disk, bytes_of}
use Rattle.me_disk.specs.Steps.{Does, ReadsOnly, HasCause}
use Rattle.me_disk.specs.Calls.{Call, Allows}
use Rattle.me_disk.specs.Calls.Call.{BeginWork, AppendWork, SyncWork, DropWork, InstallMain, InstallJournal, WriteMain, SetMainLen, SyncMain, DropJournal}
use Rattle.part_tree.specs.Patches.{Touches}
use Rattle.file_swap.specs.Steps.{Step, changed}
use Rattle.file_swap.specs.Steps.Step.{Makes, Reads, Appends}
use Rattle.file_swap.specs.Midway.Region.{Old, Laying, Laid}
use Rattle.file_swap.specs.Midway.{Moment, IsJournal, IsTorn, after}
use Rattle.part_tree.specs.Plans.{applied}

-- the range is in the plan's patches
abbrev pub InPatches : Plan → ℕ → ℕ → Type 0
InPatches (InPlace old new ps) at n = (q : ℕ) → at ≤ q → q < at + n → Touches q ps
InPatches (Rewrite new moves segments) at n = ⊥

-- the lesser of the two lengths stays
abbrev pub StaysLong : Plan → ℕ → Type 0
StaysLong (InPlace old new ps) n = min old new ≤ n
StaysLong (Rewrite new moves segments) n = ⊥

-- what a call needs of the moment
abbrev pub FitsCall : Plan → List ℕ → Call → Moment → Type 0
FitsCall p o BeginWork m = ⊤
FitsCall p o (AppendWork b) m = (m.state ≡ Open) × (length (bytes_of m.slots.work) + length b < 2 ^ 63)
FitsCall p o SyncWork m = m.state ≡ Open
FitsCall p o DropWork m = ⊥
FitsCall p o InstallMain m = (m.state ≡ Ready) × (m.region ≡ Old) × (m.slots.work ≡ Some (applied p o))
FitsCall p o InstallJournal m = (m.state ≡ Ready) × (m.region ≡ Old) × IsJournal p m.slots.work × IsTorn p o (Some o)
FitsCall p o (WriteMain at b) m = (m.region ≡ Laying) × IsSome m.slots.main × (at ≤ length (bytes_of m.slots.main)) × InPatches p at (length b)
FitsCall p o (SetMainLen n) m = (m.region ≡ Laying) × IsSome m.slots.main × (n ≤ length (bytes_of m.slots.main)) × StaysLong p n
FitsCall p o SyncMain m = (m.region ≡ Laying) × (m.slots.main ≡ Some (applied p o))
FitsCall p o DropJournal m = m.region ≡ Laid

-- what a step needs of the moment
abbrev pub Fits : Plan → List ℕ → Step → Moment → Type 0
Fits p o (Makes c) m = FitsCall p o c m
Fits p o (Reads at n) m = (m.slots.main ≡ Some o) × (at + n ≤ length o)
Fits p o (Appends n change) m = (n ≡ length (changed change m.held)) × FitsCall p o (AppendWork (changed change m.held)) m

-- what all steps need, one after another
abbrev pub AllFit : Plan → List ℕ → List Step → Moment → Type 0
AllFit p o [] m = ⊤
AllFit p o (s ∷ ss) m = Fits p o s m × AllFit p o ss (after s m)

-- what a step needs of the depot, by what the swap holds
abbrev pub Permits : Step → List ℕ → Disk → Type 0
Permits (Makes c) held d = Allows c d
Permits (Reads at n) held d = IsTrue d.tells → (at + n ≤ length (bytes_of d.slots.main)) × (length (bytes_of d.slots.main) < 2 ^ 63)
Permits (Appends n change) held d = Allows (AppendWork (changed change held)) d

-- what a step does, by what the swap holds
abbrev pub StepDoes : Step → List ℕ → Disk → Disk → Result Unit DepotFault → Type 0
StepDoes (Makes c) held old new r = Does c old new r
StepDoes (Reads at n) held old new r = ReadsOnly old new × HasCause old new r
StepDoes (Appends n change) held old new r = Does (AppendWork (changed change held)) old new r

-- what the swap holds after a step that was Ok
abbrev pub HoldsAfter : Step → List ℕ → Disk → Type 0
HoldsAfter (Makes c) held old = held ≡ []
HoldsAfter (Reads at n) held old = IsTrue old.tells → held ≡ take n (drop at (bytes_of old.slots.main))
HoldsAfter (Appends n change) held old = held ≡ []

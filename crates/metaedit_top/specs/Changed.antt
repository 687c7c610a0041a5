-- The edit of a file that is settled, up to where it is carried out: what is ready then, or why it stops (this
-- project's own).
use Rattle.std.specs.Prelude.{◌≡◌, ℕ, ◌++◌, Bool, true, false, IsTrue, List, Option, Some, None, IfOk, IfErr, ⊤, Result, Ok, Err}
use Rattle.me_bytes.specs.Bytes.{IsBytes}
use Rattle.me_disk.specs.Causes.{Rose}
use Rattle.me_disk.specs.declared.depot.DepotFault.{DepotFault}
use Rattle.me_disk.specs.Disk.{Disk}
use Rattle.me_disk.specs.Steps.{ReadsOnly}
use Rattle.part_tree.specs.declared.field.EditItem.{EditItem}
use Rattle.part_tree.specs.declared.field.RuleSet.{RuleSet}
use Rattle.part_tree.specs.declared.plan.Plan.{Plan}
use Rattle.part_tree.specs.declared.plan.Plan.TheVariants.{InPlace, Rewrite}
use Rattle.part_tree.specs.Large.{limited}
use Rattle.part_tree.specs.Plans.{Belongs, CanRun}
use Rattle.field_model.specs.KindReads.{IsPlanOf}
use Rattle.file_swap.specs.Swap.{Runs, Swapping, fresh}
use Rattle.me_report.specs.declared.line.Summary.{Summary}
use Rattle.me_report.specs.Done.{done_line}
use Rattle.edit_planner.specs.Kinds.{model_in}
use Rattle.metaedit_top.specs.declared.outcome.Finished.{Finished}
use Rattle.metaedit_top.specs.declared.outcome.Prepared.{Prepared}
use Rattle.metaedit_top.specs.declared.outcome.Stop.{Stop}
use Rattle.metaedit_top.specs.declared.outcome.Stop.TheVariants as stop
use Rattle.metaedit_top.specs.Asked.{AcceptsEdit, changes, fits, has_room, payload, too_large}
use Rattle.metaedit_top.specs.Run.{IsRefused, IsTooLarge}
use Rattle.metaedit_top.specs.Stage.{OnHeld}
pub use Rattle.metaedit_top.specs.Told.{edit_summary}

-- whether a plan is one in place
abbrev pub is_in_place : Plan → Bool
is_in_place (InPlace old new ps) = true
is_in_place (Rewrite new moves segments) = false

-- what holds of a swap, where there is one
abbrev pub OnSwap : Option Swapping → (Swapping → Type 0) → Type 0
OnSwap None P = ⊤
OnSwap (Some s) P = P s

-- the line of a summary, and nothing found
pub record IsLine (f : Finished) : Type 0 where
  pub text : f.text ≡ done_line f.summary
  pub no_findings : f.summary.findings ≡ 0

-- the swap has made no call, and its plan can be carried out
pub record IsFresh (s : Swapping) : Type 0 where
  pub unmade : s ≡ fresh s.plan
  pub can : CanRun s.plan

-- ---- by a map, where each item has an effect and no rule is broken

-- the summary of the edit of a file whose sound has so many bytes
abbrev pub changed_summary : List ℕ → List EditItem → ℕ → Summary
changed_summary o e n = record { changed = true; in_place = has_room o e; payload = n; findings = 0 }

-- a swap by the plan of this edit, and this is told once it is done
pub record IsChange (o : List ℕ) (e : List EditItem) (n : ℕ) (p : Prepared) : Type 0 where
  pub swap : Swapping
  pub is : p.swap ≡ Some swap
  pub planned : IsPlanOf (model_in o) o e swap.plan
  pub summary_is : p.finished.summary ≡ changed_summary o e n

-- why the edit stops
abbrev pub ChangeStops : List EditItem → Disk → Disk → Stop → Type 0
ChangeStops e old new stop.Depot = Rose old.faults new.faults
ChangeStops e old new (stop.TooLarge size limit) =
    OnHeld old (λ o. IsBytes o → too_large o e ≡ Some (limited limit size))
ChangeStops e old new stop.Memory = Unit {0}
ChangeStops e old new stop.NoFile = ⊥
ChangeStops e old new stop.FileThere = ⊥
ChangeStops e old new (stop.Damaged at) = ⊥
ChangeStops e old new (stop.NotSupported w) = ⊥
ChangeStops e old new (stop.RuleBroken b) = ⊥

-- What is ready for the edit of a file whose sound has so many bytes, which is only read.
pub record StartsChange (e : List EditItem) (n : ℕ) (old new : Disk) (r : Result Prepared Stop) : Type 0 where
  pub change : OnHeld old (λ o. IsBytes o → IfOk r (IsChange o e n))
  pub fresh : IfOk r (λ p. OnSwap p.swap IsFresh)
  pub belongs : OnHeld old (λ o. IfOk r (λ p. OnSwap p.swap (λ s. Belongs s.plan o)))
  pub told : IfOk r (λ p. IsLine p.finished)
  pub stops : IfErr r (ChangeStops e old new)
  pub reads : ReadsOnly old new

-- ---- of a file that is settled

-- a swap by the plan of the edit, which makes its new file; none where no item has an effect
abbrev pub MakesEdit : Option Swapping → List EditItem → List ℕ → Type 0
MakesEdit None e o = changes o e ≡ false
MakesEdit (Some s) e o = (changes o e ≡ true) × IsPlanOf (model_in o) o e s.plan

-- nothing stands against the edit of the file, its swap is ready, and this is told once it is done
pub record IsPrepared (rules : RuleSet) (e : List EditItem) (o : List ℕ) (p : Prepared) : Type 0 where
  pub accepts : AcceptsEdit rules e o
  pub makes : MakesEdit p.swap e o
  pub summary_is : p.finished.summary ≡ edit_summary o e

-- why the edit of a file isn't prepared
abbrev pub PrepareStops : RuleSet → List EditItem → Disk → Disk → Stop → Type 0
PrepareStops rules e old new stop.Depot = Rose old.faults new.faults
PrepareStops rules e old new stop.NoFile = ⊥
PrepareStops rules e old new stop.FileThere = ⊥
PrepareStops rules e old new (stop.Damaged at) = ⊥
PrepareStops rules e old new (stop.NotSupported w) = OnHeld old (λ o. (model_in o).why o ≡ Some w)
PrepareStops rules e old new (stop.RuleBroken b) = OnHeld old (λ o. IsRefused rules e o b)
PrepareStops rules e old new (stop.TooLarge size limit) =
    OnHeld old (λ o. IsBytes o → IsTooLarge rules e o (record { size = size; limit = limit }))
PrepareStops rules e old new stop.Memory = Unit {0}

-- What is ready for the edit of a file that is settled, which is only read, or why it isn't.
pub record Prepares (rules : RuleSet) (e : List EditItem) (old new : Disk) (r : Result Prepared Stop) : Type 0 where
  pub ready : OnHeld old (λ o. IsBytes o → IfOk r (IsPrepared rules e o))
  pub fresh : IfOk r (λ p. OnSwap p.swap IsFresh)
  pub belongs : OnHeld old (λ o. IfOk r (λ p. OnSwap p.swap (λ s. Belongs s.plan o)))
  pub told : IfOk r (λ p. IsLine p.finished)
  pub stops : IfErr r (PrepareStops rules e old new)
  pub reads : ReadsOnly old new

-- ---- carried out

-- what is ready, and told behind a text
abbrev pub in_front : List ℕ → Prepared → Prepared
in_front front p =
    record {
      finished = record { summary = p.finished.summary; text = front ++ p.finished.text };
      swap = p.swap;
    }

-- What a swap, carried out on this file, leaves and answers; without one nothing is done.
abbrev pub CarriedBy : Option Swapping → Finished → List ℕ → Disk → Disk → Result Finished Stop → Type 0
CarriedBy None f o old new r = (r ≡ Ok f) × ReadsOnly old new
CarriedBy (Some s) f o old new (Ok g) = (g ≡ f) × ((x : Unit {0}) × Runs s o old new (Ok x))
CarriedBy (Some s) f o old new (Err e) = (e ≡ stop.Depot) × ((x : DepotFault) × Runs s o old new (Err x))

-- Which plan is made: patches in place, or a rewrite (this project's own).
use Rattle.std.specs.Prelude.{◌≡◌, ◌⊎◌, ℕ, List, Bool, true, false}
use Rattle.part_tree.specs.declared.plan.Patch.{Patch}
use Rattle.part_tree.specs.declared.plan.Plan.{Plan}
use Rattle.part_tree.specs.declared.plan.Plan.TheVariants.{InPlace, Rewrite}
use Rattle.unit_plan.specs.Sized.{IsTooMuch}

-- a new file of so many bytes
abbrev pub IsRewrite : ℕ → Plan → Type 0
IsRewrite new (InPlace old n ps) = ⊥
IsRewrite new (Rewrite n moves segments) = n ≡ new

-- These patches where the spans fit and the patches aren't too much, and else a new file, by the two lengths.
abbrev pub IsPlanOf : Bool → ℕ → ℕ → List Patch → Plan → Type 0
IsPlanOf fit old new ps (InPlace m n qs) = (fit ≡ true) × (m ≡ old) × (n ≡ new) × (qs ≡ ps)
IsPlanOf fit old new ps (Rewrite n moves segments) = ((fit ≡ false) ⊎ IsTooMuch ps) × (n ≡ new)

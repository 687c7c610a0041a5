-- What a plan by spans and tables makes, and when the new file is too long (this project's own).
use Rattle.std.specs.Prelude.{◌≡◌, ⊤, ℕ, List, nat_le, Option, Some, None, if◌then◌else◌}
use Rattle.part_tree.specs.Large.{Size, limited}
use Rattle.part_tree.specs.Plans.{applied}
use Rattle.part_tree.specs.declared.plan.Plan.{Plan}
use Rattle.part_tree.specs.declared.plan.Plan.TheVariants.{InPlace, Rewrite}
use Rattle.container_model.specs.Splice.{Cut, splice}

-- the new file of a rewrite is the old one with these spans replaced
abbrev pub Makes : Plan → List ℕ → List Cut → Type 0
Makes (InPlace old new ps) b cs = ⊤
Makes (Rewrite new moves segments) b cs = applied (Rewrite new moves segments) b ≡ splice b cs

-- a file of so many bytes is too long
abbrev pub too_long : ℕ → Option Size
too_long n = if nat_le n 9223372036854775807 then None else Some (limited 9223372036854775807 n)

-- The base of a standard index (OpenDML 1.02; how it moves is this project's own).
use Rattle.std.specs.Prelude.{ℕ, ◌+◌, ◌-◌, ◌<◌, ◌^◌, List, Option, Some, None, ⊤}
use Rattle.part_tree.specs.Moves.{Move}
use Rattle.part_tree.specs.Tables.{moved}

-- a base that moves is below 2^63
abbrev pub HasPlace : Option ℕ → ℕ → Type 0
HasPlace None base = ⊤
HasPlace (Some at) base = base < 2 ^ 63

-- the base moves with the first counted entry, whose place this was, but not below 0
abbrev pub moved_base : List Move → ℕ → Option ℕ → ℕ
moved_base moves base None = base
moved_base moves base (Some at) = (base + moved moves at) - at

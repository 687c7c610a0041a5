-- What is too large: of sizes with their limits the first that passes its limit.
use Rattle.std.specs.Prelude.{ℕ, nat_lt, List, [], ◌∷◌, Bool, Option, Some, None, if◌then◌else◌}

-- a size and its limit, in bytes or in parts
pub record Size : Type 0 where
  pub size : ℕ
  pub limit : ℕ

-- a size under a limit
abbrev pub limited : ℕ → ℕ → Size
limited limit size = record { size = size; limit = limit }

-- whether it passes its limit
abbrev pub is_above : Size → Bool
is_above s = nat_lt s.limit s.size

-- the first of some sizes that does
abbrev pub first_above : List Size → Option Size
first_above [] = None
first_above (s ∷ ss) = if is_above s then Some s else first_above ss

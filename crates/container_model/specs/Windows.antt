-- The bytes of a file from a place up to an end.
use Rattle.std.specs.Prelude.{ℕ, ◌-◌, List, take, drop}

-- the bytes of a file from a place up to an end
abbrev pub window : List ℕ → ℕ → ℕ → List ℕ
window b at end = take (end - at) (drop at b)

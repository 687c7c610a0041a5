-- Ranges of a file, and ranges of chunks that are told by their bodies.
use Rattle.std.specs.Prelude.{◌≡◌, ◌≤◌, ℕ, zero, suc, ◌+◌, ◌==◌, nat_le, nat_lt, List, [], ◌∷◌, length, get_or, Bool, true, false, ◌&&◌, ◌||◌, if◌then◌else◌}
use Rattle.std.specs.List.Sorted.{IsPartitionPoint}
use Rattle.part_tree.specs.declared.names.Span.{Span}

-- a range of so many bytes lies inside a span
abbrev pub within : Span → ℕ → ℕ → Bool
within s p n = nat_le s.at p && nat_le (p + n) (s.at + s.len)

-- it lies inside one of these
abbrev pub in_one : List Span → ℕ → ℕ → Bool
in_one [] p n = false
in_one (s ∷ ss) p n = within s p n || in_one ss p n

-- the header of one of these chunks stands at a place
abbrev pub begins_one : List Span → ℕ → Bool
begins_one [] p = false
begins_one (s ∷ ss) p = (s.at == p + 8) || begins_one ss p

-- no byte of a range is in this chunk
abbrev pub passes_by : Span → ℕ → ℕ → Bool
passes_by s p n = nat_le (s.at + s.len) p || nat_le (p + n + 8) s.at

-- no byte of a range is in one of these chunks
abbrev pub clear_of : List Span → ℕ → ℕ → Bool
clear_of [] p n = true
clear_of (s ∷ ss) p n = passes_by s p n && clear_of ss p n

-- ---- ranges in order

-- the ranges ascend from a place on, and are disjoint
abbrev pub Ascends : ℕ → List Span → Type 0
Ascends from [] = Unit {0}
Ascends from (s ∷ ss) = (from ≤ s.at) × Ascends (s.at + s.len) ss

-- a range begins at a place or before it
abbrev pub begins_by : ℕ → Span → Bool
begins_by p s = nat_le s.at p

-- so many of these do, and those behind them don't
abbrev pub IsCut : ℕ → List Span → ℕ → Type 0
IsCut p ss k = IsPartitionPoint (λ s. begins_by p s ≡ true) (λ s. begins_by p s ≡ false) ss k

-- no bytes
abbrev pub no_span : Span
no_span = record { at = 0; len = 0 }

-- a test of the last of the first k ranges, or what is said of none
abbrev pub last_by : (Span → Bool) → Bool → List Span → ℕ → Bool
last_by f none ss zero = none
last_by f none ss (suc k) = f (get_or ss k no_span)

-- a test of the range behind the first k, if there is one
abbrev pub next_by : (Span → Bool) → List Span → ℕ → Bool
next_by f ss k = if nat_lt k (length ss) then f (get_or ss k no_span) else true

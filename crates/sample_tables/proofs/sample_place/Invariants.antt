use Rattle.std.proofs.Common.{◌≡◌, ◌+◌, ◌-◌, ◌^◌, min, sum, take}
use Rattle.sample_tables.proofs.sample_place.Given as goal

-- the chunk's place and the sizes so far, up to the last number of 64 bits
abbrev pub invariant-loop-k : goal.invariant-loop-k
invariant-loop-k l = l.place ≡ min (l.offset + sum (take l.k l.sizes)) (2 ^ 64 - 1)

-- A depot in memory counts each of its calls.
use Rattle.std.proofs.Common.{◌≡◌, ℕ, ◌-◌, ◌^◌, ◌∙◌, Some, None, ap, arith}
use Rattle.std.proofs.lemmas.Grind.{common_steps}
use Rattle.std.specs.Prelude.{Result, nat_lt, if◌then◌else◌}
use Rattle.me_disk.specs.declared.depot.DepotFault.{DepotFault}
use Rattle.me_disk.specs.Causes.{one_more}
use Rattle.me_disk.specs.Calls.{Call}
use Rattle.me_disk.specs.Limits.{Limits}
use Rattle.me_disk.specs.Steps.{Counted}
use Rattle.me_disk.specs.Memory.{Memory, memory_calls, Made, MadeRead}

-- a count that rose is told up to its last value
rose : (n m : ℕ) → m ≡ one_more n → Counted 1 (if nat_lt n (2 ^ 64 - 1) then Some n else None) (if nat_lt m (2 ^ 64 - 1) then Some m else None)
rose n m e = grind (arith, common_steps)

pub made_counts : (c : Call) (stood old new : Memory) (r : Result Unit DepotFault) → stood ≡ old → Made c stood new r → Counted 1 (memory_calls old) (memory_calls new)
made_counts c stood old new r is h = rose old.limits.calls new.limits.calls (ap (λ (l : Limits). l.calls) h.limits ∙ ap (λ (m : Memory). one_more m.limits.calls) is)

pub read_counts : {T : Type 0} (stood old new : Memory) (r : Result T DepotFault) → stood ≡ old → MadeRead stood new r → Counted 1 (memory_calls old) (memory_calls new)
read_counts stood old new r is h = rose old.limits.calls new.limits.calls (ap (λ (l : Limits). l.calls) h.limits ∙ ap (λ (m : Memory). one_more m.limits.calls) is)

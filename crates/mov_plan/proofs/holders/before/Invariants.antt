use Rattle.std.proofs.Common.{◌≡◌, ◌+◌, drop}
use Rattle.mov_plan.specs.Holders.{cuts_before}
use Rattle.mov_plan.proofs.holders.before.Given as goal

-- none that begins at the place or behind it was met so far
abbrev pub invariant-cuts : goal.invariant-cuts
invariant-cuts l = l.k + cuts_before l.place (drop l.k l.cuts) ≡ cuts_before l.place l.cuts

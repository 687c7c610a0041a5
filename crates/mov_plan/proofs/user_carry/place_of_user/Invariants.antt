use Rattle.std.proofs.Common.{◌≡◌, ◌+◌, drop}
use Rattle.mov_plan.proofs.AtomBodies.{user_place}
use Rattle.mov_plan.proofs.user_carry.place_of_user.Given as goal

-- none was met so far
abbrev pub invariant-atoms : goal.invariant-atoms
invariant-atoms l = l.k + user_place (drop l.k l.atoms) ≡ user_place l.atoms

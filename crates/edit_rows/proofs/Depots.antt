-- Depots of which each has one image.
use Rattle.std.proofs.Common.{ℕ, zero, suc, ◌<◌, List, [], ◌∷◌, ◌++◌, length, get_or, arith}
use Rattle.me_disk.specs.Memory.{Memory, memory_disk}
use Rattle.metaedit_top.specs.Run.{OneImage}

-- each depot has one image
abbrev pub AllOne : List Memory → Type 0
AllOne ds = (i : ℕ) (d : Memory) → i < length ds → OneImage (memory_disk (get_or ds i d))

pub one_more : (ds : List Memory) (x : Memory) → AllOne ds → OneImage (memory_disk x) → AllOne (ds ++ x ∷ [])
one_more [] x all one zero d low = one
one_more [] x all one (suc i) d low = absurd (omega (arith, low))
one_more (y ∷ ds) x all one zero d low = all zero d (omega arith)
one_more (y ∷ ds) x all one (suc i) d low = one_more ds x (λ j e inside. all (suc j) e (omega (arith, inside))) one i d (omega (arith, low))

-- What no test that holds says of each test.
use Rattle.std.proofs.Common.{◌≡◌, Bool, true, false, cond, List, [], ◌∷◌, Option, Some, None, refl}
use Rattle.std.specs.Prelude.{◌&&◌, ◌||◌, not}
use Rattle.std.specs.List.{AllByRecursion}
use Rattle.container_model.specs.Chunk.{Stop, ends, bad_header, passes, out_of_turns}
use Rattle.container_model.specs.Tests.{first, or_else, ended}

-- no test of some holds
abbrev pub AllFalse : {W : Type 0} → List (Bool × W) → Type 0
AllFalse ts = AllByRecursion (λ t. t.0 ≡ false) ts

pub first_none : {W : Type 0} (ts : List (Bool × W)) → first ts ≡ None → AllFalse ts
first_none [] e = tt
first_none {W} (t ∷ ts) e = go t.0 refl e (first_none ts)
  where
    go : (b : Bool) → t.0 ≡ b → cond b (Some t.1) (first ts) ≡ None → (first ts ≡ None → AllFalse ts) → AllFalse (t ∷ ts)
    go true i e again = absurd cc
    go false i e again = (i, again e)

pub none_first : {W : Type 0} (ts : List (Bool × W)) → AllFalse ts → first ts ≡ None
none_first [] h = refl
none_first (t ∷ ts) h = rw h.0 (none_first ts h.1)

pub or_none : {W : Type 0} (a b : Option W) → or_else a b ≡ None → (a ≡ None) × (b ≡ None)
or_none None b e = (refl, e)
or_none (Some w) b e = absurd cc

-- ---- a test that is guarded, and two in one

pub guarded : (a b : Bool) → (a && b) ≡ false → a ≡ true → b ≡ false
guarded true b e i = e
guarded false b e i = absurd cc

pub guard : (a b : Bool) → (a ≡ true → b ≡ false) → (a && b) ≡ false
guard true b h = h refl
guard false b h = refl

pub neither : (a b : Bool) → (a || b) ≡ false → (a ≡ false) × (b ≡ false)
neither true b e = absurd cc
neither false b e = (refl, e)

pub none_of : (a b : Bool) → a ≡ false → b ≡ false → (a || b) ≡ false
none_of true b e i = absurd cc
none_of false b e i = i

-- ---- what ends chunks

pub stop_ends : (stop : Stop) → not (ended stop) ≡ false → stop ≡ ends
stop_ends ends e = refl
stop_ends bad_header e = absurd cc
stop_ends passes e = absurd cc
stop_ends out_of_turns e = absurd cc

-- Spans of which some are left out that put back what stands there (this project's own).
use Rattle.std.specs.Prelude.{◌≡◌, ◌⊎◌, ℕ, List, [], ◌∷◌, take, drop}
use Rattle.container_model.specs.Splice.{Cut}

-- a span in the place of which its own bytes stand
abbrev pub IsStill : List ℕ → Cut → Type 0
IsStill b c = c.bytes ≡ take c.len (drop c.at b)

-- the second spans are the first but for some of those
abbrev pub Drops : List ℕ → List Cut → List Cut → Type 0
Drops b [] ds = ds ≡ []
Drops b (c ∷ cs) ds = (IsStill b c × Drops b cs ds) ⊎ ((es : List Cut) × (ds ≡ c ∷ es) × Drops b cs es)

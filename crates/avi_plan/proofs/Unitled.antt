-- What the units of a stream's list come to.
use Rattle.std.proofs.Common.{◌≡◌, ◌⊎◌, ◌+◌, ◌≤◌, ◌<◌, ℕ, List, [], ◌∷◌, refl, arith, inl, inr}
use Rattle.std.specs.List.{AllByRecursion}
use Rattle.std.proofs.lemmas.Bool.{cases_lt}
use Rattle.unit_plan.specs.Cuts.{EndsFile, FitsIn, IsExact, SpansAscend}
use Rattle.unit_plan.specs.Rows.{IsPartCount}
use Rattle.unit_plan.specs.declared.cut.CutAt.{CutAt}
use Rattle.avi_plan.specs.Strls.{one}

pub one_counts : IsPartCount one
one_counts = record { pads = λ c. refl; padding = λ body. refl }

-- spans that end before the end of the file fill their places
exact_all : (len from end : ℕ) (ks : List CutAt) → end < len → SpansAscend from ks end → FitsIn len ks → AllByRecursion IsExact ks
exact_all len from end [] lt a f = tt
exact_all len from end (k ∷ ks) lt a f = (go f.0, exact_all len (k.span.at + k.span.len) end ks lt a.2 f.1)
  where
    low : (from : ℕ) (ks : List CutAt) → SpansAscend from ks end → from ≤ end
    low from [] h = h
    low from (j ∷ ks) h = omega (arith, h.0, low (j.span.at + j.span.len) ks h.2)

    go : IsExact k ⊎ (EndsFile len k × (ks ≡ [])) → IsExact k
    go (inl e) = e
    go (inr e) = absurd (omega (arith, e.0.0, low (k.span.at + k.span.len) ks a.2, lt))

-- or the list ends the file
pub exact_or : (len from at end : ℕ) (ks : List CutAt) → at ≤ end → end ≤ len → SpansAscend from ks at → FitsIn len ks → AllByRecursion IsExact ks ⊎ ((end ≡ len) × FitsIn len ks)
exact_or len from at end ks low high a f = go (cases_lt at len)
  where
    go : (at < len) ⊎ (len ≤ at) → AllByRecursion IsExact ks ⊎ ((end ≡ len) × FitsIn len ks)
    go (inl lt) = inl (exact_all len from at ks lt a f)
    go (inr le) = inr (omega (arith, low, high, le), f)

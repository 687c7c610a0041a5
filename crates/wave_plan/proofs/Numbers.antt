-- The spans of an edit of a form by their numbers alone.
use Rattle.std.proofs.Common.{◌≡◌, ◌∙◌, ◌⊎◌, ℕ, ◌+◌, ◌%◌, ◌≤◌, Bool, true, false, cond, eqb, ltb, List, [], ◌∷◌, ◌++◌, refl, sym, ap, subst, arith, inl, inr, append-nil}
use Rattle.std.specs.Prelude.{◌&&◌}
use Rattle.std.specs.List.{AllByRecursion}
use Rattle.std.proofs.lemmas.Bool.{eq-eqb, le-ltb}
use Rattle.unit_plan.specs.declared.cut.CutAt.{CutAt}
use Rattle.unit_plan.specs.declared.row.UnitCuts.{UnitCuts}
use Rattle.unit_plan.specs.Cuts.{FitsIn, IsExact, SpansAscend}
use Rattle.unit_plan.specs.Sized.{gained, lost, size_at, spliced_len}
use Rattle.unit_plan.proofs.Spans.{ascend_high, exact_fit, lost_low}
use Rattle.wave_plan.specs.declared.frame.Frame.{Frame}
use Rattle.wave_plan.specs.Frame.{pad_after, tail_len}
use Rattle.wave_plan.specs.Framed.{framed, pad_cuts}
use Rattle.wave_plan.specs.Planned.{StandsIn}

pub ascend_low : (low from end : ℕ) (ks : List CutAt) → low ≤ from → SpansAscend from ks end → SpansAscend low ks end
ascend_low low from end [] le h = omega (arith, h)
ascend_low low from end (k ∷ ks) le h = (omega (arith, h.0), h.1, h.2)

ascend_both : (from mid end : ℕ) (a b : List CutAt) → SpansAscend from a mid → SpansAscend mid b end → SpansAscend from (a ++ b) end
ascend_both from mid end [] b h g = ascend_low from mid end b h g
ascend_both from mid end (k ∷ a) b h g = (h.0, h.1, ascend_both (k.span.at + k.span.len) mid end a b h.2 g)

exact_same : (ks : List CutAt) → AllByRecursion IsExact ks → gained ks ≡ lost ks
exact_same [] h = refl
exact_same (k ∷ ks) h = omega (arith, h.0, exact_same ks h.1)

-- the span of the size before others
abbrev pub size_front : Frame → ℕ → List CutAt
size_front f n = cond (eqb n f.size) [] (size_at f.wide n ∷ [])

size_ends : (wide : Bool) (n : ℕ) → ((size_at wide n).span.at + (size_at wide n).span.len ≡ cond wide 28 8) × ((size_at wide n).keep ≡ 0)
size_ends true n = (omega arith, refl)
size_ends false n = (omega arith, refl)

size_exact : (wide : Bool) (n : ℕ) → IsExact (size_at wide n)
size_exact true n = omega arith
size_exact false n = omega arith

-- no pad before, and nothing behind the form
no_pads : (f : Frame) (n : ℕ) → f.pad ≡ 0 → tail_len f ≡ 0 → pad_cuts f n ≡ []
no_pads f n pad tail =
    ap (λ (t : Bool). cond (t && eqb (pad_after f n) 0) [] (record { span = record { at = 8 + f.size; len = f.pad }; bytes = Rattle.std.specs.Prelude.replicate (pad_after f n) 0; keep = 0 } ∷ [])) (eq-eqb f.pad 0 pad)
    ∙ ap (λ (t : Bool). cond t [] (record { span = record { at = 8 + f.size; len = f.pad }; bytes = Rattle.std.specs.Prelude.replicate (pad_after f n) 0; keep = 0 } ∷ [])) (eq-eqb (pad_after f n) 0 none)
  where
    by : (s t : Bool) → t ≡ false → cond {A = ℕ} (s && t) 1 0 ≡ 0
    by true true e = absurd cc
    by true false e = refl
    by false t e = refl

    none : pad_after f n ≡ 0
    none = by (eqb (n % 2) 1) (ltb 0 (tail_len f)) (le-ltb 0 (tail_len f) (omega (arith, tail)))

module _ (f : Frame) (u : UnitCuts) (st : StandsIn f u) where
  inside : st.end ≤ f.len
  inside = omega (arith, st.round.high, st.round.inside)

  pub whole_ascend : SpansAscend 0 u.cuts.items f.len
  whole_ascend = ascend_low 0 st.from f.len u.cuts.items (omega arith) (ascend_high st.from st.end f.len u.cuts.items inside st.ascend)

  pub moved_more : f.len ≤ spliced_len f.len u.cuts.items + f.size
  moved_more = omega (arith, lost_low st.from st.end u.cuts.items st.ascend, st.round.low, st.round.high, st.round.inside)

  size_low : (size_at f.wide 0).span.at + (size_at f.wide 0).span.len ≤ st.from
  size_low = go f.wide refl
    where
      go : (t : Bool) → f.wide ≡ t → (size_at t 0).span.at + (size_at t 0).span.len ≤ st.from
      go true e = omega (arith, st.round.table e)
      go false e = omega (arith, st.round.low)

  pub behind_size : (n : ℕ) → SpansAscend ((size_at f.wide n).span.at + (size_at f.wide n).span.len) (u.cuts.items ++ pad_cuts f n) f.len
  behind_size n =
      let low : (size_at f.wide n).span.at + (size_at f.wide n).span.len ≤ st.from = omega (arith, size_low, (size_ends f.wide n).0, (size_ends f.wide 0).0) in
      ascend_low ((size_at f.wide n).span.at + (size_at f.wide n).span.len) st.from f.len (u.cuts.items ++ pad_cuts f n) low (ascend_both st.from st.end f.len u.cuts.items (pad_cuts f n) st.ascend (pads ((eqb f.pad 0) && (eqb (pad_after f n) 0))))
    where
      pads : (t : Bool) → SpansAscend st.end (cond t [] (record { span = record { at = 8 + f.size; len = f.pad }; bytes = Rattle.std.specs.Prelude.replicate (pad_after f n) 0; keep = 0 } ∷ [])) f.len
      pads true = inside
      pads false = (st.round.high, omega arith, st.round.inside)

  pub behind_units : (n : ℕ) → SpansAscend ((size_at f.wide n).span.at + (size_at f.wide n).span.len) u.cuts.items f.len
  behind_units n =
      let low : (size_at f.wide n).span.at + (size_at f.wide n).span.len ≤ st.from = omega (arith, size_low, (size_ends f.wide n).0, (size_ends f.wide 0).0) in
      ascend_low ((size_at f.wide n).span.at + (size_at f.wide n).span.len) st.from f.len u.cuts.items low (ascend_high st.from st.end f.len u.cuts.items inside st.ascend)

  pub framed_ascend : (n : ℕ) → SpansAscend 0 (framed f n u.cuts.items) f.len
  framed_ascend n = go (eqb n f.size)
    where
      go : (t : Bool) → SpansAscend 0 (cond t u.cuts.items (size_at f.wide n ∷ (u.cuts.items ++ pad_cuts f n))) f.len
      go true = whole_ascend
      go false = (omega arith, omega (arith, (size_ends f.wide n).1), behind_size n)

  -- Where the units fit, the pad stays.
  pub fit_framed : (n : ℕ) → n + f.len ≡ spliced_len f.len u.cuts.items + f.size → u.fits ≡ true → framed f n u.cuts.items ≡ size_front f n ++ u.cuts.items
  fit_framed n is fit = go (st.fits fit)
    where
      front : (t : Bool) → pad_cuts f n ≡ [] → cond t u.cuts.items (size_at f.wide n ∷ (u.cuts.items ++ pad_cuts f n)) ≡ cond t [] (size_at f.wide n ∷ []) ++ u.cuts.items
      front true e = refl
      front false e = ap (λ (ks : List CutAt). size_at f.wide n ∷ (u.cuts.items ++ ks)) e ∙ ap (λ (ks : List CutAt). size_at f.wide n ∷ ks) (append-nil u.cuts.items)

      go : AllByRecursion IsExact u.cuts.items ⊎ ((st.end ≡ f.len) × FitsIn f.len u.cuts.items) → framed f n u.cuts.items ≡ size_front f n ++ u.cuts.items
      go (inl exact) =
          let same : n ≡ f.size = omega (arith, is, exact_same u.cuts.items exact, lost_low st.from st.end u.cuts.items st.ascend, inside) in
          ap (λ (t : Bool). cond t u.cuts.items (size_at f.wide n ∷ (u.cuts.items ++ pad_cuts f n))) (eq-eqb n f.size same)
          ∙ ap (λ (t : Bool). cond t [] (size_at f.wide n ∷ []) ++ u.cuts.items) (sym (eq-eqb n f.size same))
      go (inr last) =
          front (eqb n f.size) (no_pads f n (omega (arith, last.0, st.round.high, st.round.inside)) (omega (arith, last.0, st.round.high, st.round.inside)))

  pub framed_fits : (n : ℕ) → n + f.len ≡ spliced_len f.len u.cuts.items + f.size → u.fits ≡ true → FitsIn f.len (framed f n u.cuts.items)
  framed_fits n is fit = subst (FitsIn f.len) (sym (fit_framed n is fit)) (go (eqb n f.size))
    where
      units_fit : FitsIn f.len u.cuts.items
      units_fit = by (st.fits fit)
        where
          by : AllByRecursion IsExact u.cuts.items ⊎ ((st.end ≡ f.len) × FitsIn f.len u.cuts.items) → FitsIn f.len u.cuts.items
          by (inl exact) = exact_fit f.len u.cuts.items exact
          by (inr last) = last.1

      go : (t : Bool) → FitsIn f.len (cond t [] (size_at f.wide n ∷ []) ++ u.cuts.items)
      go true = units_fit
      go false = (inl (size_exact f.wide n), units_fit)

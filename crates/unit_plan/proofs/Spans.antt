-- The spans of units, by their numbers alone.
use Rattle.std.proofs.Common.{◌≡◌, ◌∙◌, ℕ, ◌+◌, ◌<◌, ◌≤◌, List, [], ◌∷◌, ◌++◌, length, drop, get_or, Bool, true, false, refl, sym, ap, subst, arith, inl, inr}
use Rattle.std.specs.List.{AllByRecursion}
use Rattle.std.proofs.lemmas.List.{at_drop_more}
use Rattle.unit_plan.specs.declared.cut.CutAt.{CutAt}
use Rattle.unit_plan.specs.declared.row.UnitCuts.{UnitCuts}
use Rattle.unit_plan.specs.Cuts.{SpansAscend, IsExact, IsSoFar, EndsFile, FitsIn}
use Rattle.unit_plan.specs.Sized.{lost}

-- the next item of a list, and those behind it
pub next_item : {X : Type 0} (xs : List X) (i : ℕ) (x : X) → i < length xs → x ≡ get_or xs i x → drop i xs ≡ x ∷ drop (i + 1) xs
next_item xs i x lt e = at_drop_more (λ ys. ys) xs i x lt ∙ ap (λ y. y ∷ drop (i + 1) xs) (sym e)

-- one span more
pub ascend_more : (from low end : ℕ) (ks : List CutAt) (k : CutAt) → SpansAscend from ks low → low ≡ k.span.at → k.span.at + k.span.len ≡ end → k.keep ≤ k.span.len → SpansAscend from (ks ++ k ∷ []) end
ascend_more from low end [] k h is ends keep = (omega (arith, h), keep, omega arith)
ascend_more from low end (j ∷ ks) k h is ends keep = (h.0, h.1, ascend_more (j.span.at + j.span.len) low end ks k h.2 is ends keep)

pub all_more : (ks : List CutAt) (k : CutAt) → AllByRecursion IsExact ks → IsExact k → AllByRecursion IsExact (ks ++ k ∷ [])
all_more [] k h e = (e, tt)
all_more (j ∷ ks) k h e = (h.0, all_more ks k h.1 e)

pub exact_fit : (len : ℕ) (ks : List CutAt) → AllByRecursion IsExact ks → FitsIn len ks
exact_fit len [] h = tt
exact_fit len (k ∷ ks) h = (inl h.0, exact_fit len ks h.1)

pub fits_more : (len : ℕ) (ks : List CutAt) (k : CutAt) → AllByRecursion IsExact ks → EndsFile len k → FitsIn len (ks ++ k ∷ [])
fits_more len [] k h e = (inr (e, refl), tt)
fits_more len (j ∷ ks) k h e = (inl h.0, fits_more len ks k h.1 e)

-- ---- a unit more, in the list that it was put into

pub added_ascend : (from low end : ℕ) (ks new : List CutAt) (k : CutAt) → SpansAscend from ks low → k.span.at ≡ low → k.span.at + k.span.len ≡ end → k.keep ≤ k.span.len → new ≡ ks ++ k ∷ [] → SpansAscend from new end
added_ascend from low end ks new k h is ends keep e = subst (λ (js : List CutAt). SpansAscend from js end) (sym e) (ascend_more from low end ks k h (sym is) ends keep)

pub added_exact : (ks new : List CutAt) (k : CutAt) → AllByRecursion IsExact ks → IsExact k → new ≡ ks ++ k ∷ [] → AllByRecursion IsExact new
added_exact ks new k h is e = subst (AllByRecursion IsExact) (sym e) (all_more ks k h is)

pub added_fits : (len end : ℕ) (ends : Bool) (ks new : List CutAt) (k : CutAt) → AllByRecursion IsExact ks → new ≡ ks ++ k ∷ [] → k.span.at + k.span.len ≡ end → (ends ≡ true → end ≡ len)
    → (ends ≡ false → IsExact k) → (ends ≡ true → k.keep ≡ 0) → FitsIn len new
added_fits len end true ks new k h e place last exact ending = subst (FitsIn len) (sym e) (fits_more len ks k h (place ∙ last refl, ending refl))
added_fits len end false ks new k h e place last exact ending = exact_fit len new (added_exact ks new k h (exact refl) e)

-- ---- the same units, further on

pub ascend_high : (from end high : ℕ) (ks : List CutAt) → end ≤ high → SpansAscend from ks end → SpansAscend from ks high
ascend_high from end high [] le h = omega (arith, h)
ascend_high from end high (k ∷ ks) le h = (h.0, h.1, ascend_high (k.span.at + k.span.len) end high ks le h.2)

pub same_so_far : (from low at : ℕ) (old new : UnitCuts) → new.cuts ≡ old.cuts → new.fits ≡ old.fits → low ≤ at → IsSoFar from old low → IsSoFar from new at
same_so_far from low at old new cuts fits le h =
    let items : new.cuts.items ≡ old.cuts.items = ap (λ v. v.items) cuts in
    record {
      ascend = subst (λ (ks : List CutAt). SpansAscend from ks at) (sym items) (ascend_high from low at old.cuts.items le h.ascend);
      exact = λ f. subst (AllByRecursion IsExact) (sym items) (h.exact (sym fits ∙ f));
    }

-- ---- lengths

-- the bytes of all spans lie between the two places
pub lost_low : (from end : ℕ) (ks : List CutAt) → SpansAscend from ks end → lost ks + from ≤ end
lost_low from end [] h = omega (arith, h)
lost_low from end (k ∷ ks) h = omega (arith, h.0, lost_low (k.span.at + k.span.len) end ks h.2)

-- One span more among others, and spans that ascend.
use Rattle.std.proofs.Common.{◌≡◌, ◌∙◌, ℕ, suc, ◌+◌, ◌≤◌, Bool, true, false, cond, leb, List, [], ◌∷◌, map, refl, ap, arith}
use Rattle.std.specs.List.{insert}
use Rattle.container_model.specs.Splice.{Cut}
use Rattle.wave_model.proofs.WideField as wide
use Rattle.unit_plan.specs.declared.cut.CutAt.{CutAt}
use Rattle.unit_plan.specs.Cuts.{SpansAscend, cut_in}
use Rattle.wave_plan.specs.Widened.{place_in, with_cut}

pub with_cut_is : (k : CutAt) (cs : List CutAt) → insert cs (place_in k.span.at cs) k ≡ with_cut k cs
with_cut_is k [] = refl
with_cut_is k (c ∷ cs) = go (leb c.span.at k.span.at) (with_cut_is k cs)
  where
    one : (n : ℕ) → 1 + n ≡ suc n
    one n = omega arith

    go : (t : Bool) → insert cs (place_in k.span.at cs) k ≡ with_cut k cs → insert (c ∷ cs) (cond t (1 + place_in k.span.at cs) 0) k ≡ cond t (c ∷ with_cut k cs) (k ∷ (c ∷ cs))
    go true h = ap (λ (n : ℕ). insert (c ∷ cs) n k) (one (place_in k.span.at cs)) ∙ ap (λ (x : List CutAt). c ∷ x) h
    go false h = refl

-- in a file it is the same of the model's spans
pub with_cut_in : (b : List ℕ) (k : CutAt) (cs : List CutAt) → map (cut_in b) (with_cut k cs) ≡ wide.put_cut (cut_in b k) (map (cut_in b) cs)
with_cut_in b k [] = refl
with_cut_in b k (c ∷ cs) = go (leb c.span.at k.span.at) (with_cut_in b k cs)
  where
    go : (t : Bool) → map (cut_in b) (with_cut k cs) ≡ wide.put_cut (cut_in b k) (map (cut_in b) cs)
        → map (cut_in b) (cond t (c ∷ with_cut k cs) (k ∷ (c ∷ cs))) ≡ cond t (cut_in b c ∷ wide.put_cut (cut_in b k) (map (cut_in b) cs)) (cut_in b k ∷ (cut_in b c ∷ map (cut_in b) cs))
    go true h = ap (λ (x : List Cut). cut_in b c ∷ x) h
    go false h = refl

-- spans that ascend end at their end or before it
pub ascend_inside : (from end : ℕ) (ks : List CutAt) → SpansAscend from ks end → from ≤ end
ascend_inside from end [] h = h
ascend_inside from end (k ∷ ks) h = omega (arith, h.0, ascend_inside (k.span.at + k.span.len) end ks h.2)

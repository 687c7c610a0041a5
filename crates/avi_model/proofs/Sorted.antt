-- Index chunks by place are the same chunks.
use Rattle.std.proofs.Common.{◌≡◌, Bool, true, false, cond, ltb, List, [], ◌∷◌, inl, inr}
use Rattle.std.specs.Prelude.{◌⊎◌}
use Rattle.container_model.specs.Tables.{Table}
use Rattle.avi_model.specs.Support.{put_by_place, by_place}
use Rattle.avi_model.proofs.Among.{Among}

among_put : (t u : Table) (us : List Table) → (u ≡ t) ⊎ Among t us → Among t (put_by_place u us)
among_put t u [] (inl e) = inl e
among_put t u [] (inr i) = absurd i
among_put t u (v ∷ us) h = go (ltb u.at v.at) h (λ g. among_put t u us g)
  where
    go : (b : Bool) → (u ≡ t) ⊎ Among t (v ∷ us) → ((u ≡ t) ⊎ Among t us → Among t (put_by_place u us)) → Among t (cond b (u ∷ (v ∷ us)) (v ∷ put_by_place u us))
    go true h again = h
    go false (inl e) again = inr (again (inl e))
    go false (inr (inl e)) again = inl e
    go false (inr (inr i)) again = inr (again (inr i))

pub among_sorted : (t : Table) (ts : List Table) → Among t ts → Among t (by_place ts)
among_sorted t [] i = i
among_sorted t (u ∷ us) (inl e) = among_put t u (by_place us) (inl e)
among_sorted t (u ∷ us) (inr i) = among_put t u (by_place us) (inr (among_sorted t us i))

from_put : (t v : Table) (vs : List Table) → Among t (put_by_place v vs) → (v ≡ t) ⊎ Among t vs
from_put t v [] (inl q) = inl q
from_put t v [] (inr i) = absurd i
from_put t v (w ∷ vs) i = go (ltb v.at w.at) i (λ j. from_put t v vs j)
  where
    more : (v ≡ t) ⊎ Among t vs → (v ≡ t) ⊎ Among t (w ∷ vs)
    more (inl q) = inl q
    more (inr i) = inr (inr i)

    go : (b : Bool) → Among t (cond b (v ∷ (w ∷ vs)) (w ∷ put_by_place v vs)) → (Among t (put_by_place v vs) → (v ≡ t) ⊎ Among t vs) → (v ≡ t) ⊎ Among t (w ∷ vs)
    go true (inl q) again = inl q
    go true (inr i) again = inr i
    go false (inl q) again = inr (inl q)
    go false (inr i) again = more (again i)

pub from_sorted : (t : Table) (ts : List Table) → Among t (by_place ts) → Among t ts
from_sorted t [] i = i
from_sorted t (u ∷ ts) i = side (from_put t u (by_place ts) i) (λ j. from_sorted t ts j)
  where
    side : (u ≡ t) ⊎ Among t (by_place ts) → (Among t (by_place ts) → Among t ts) → Among t (u ∷ ts)
    side (inl q) again = inl q
    side (inr i) again = inr (again i)

-- Segments that move no table.
use Rattle.std.proofs.Common.{◌≡◌, ℕ, List, [], ◌∷◌, ◌++◌, sym, subst}
use Rattle.part_tree.specs.declared.plan.Segment.{Segment}
use Rattle.part_tree.specs.declared.plan.Segment.TheVariants.{Copy, Literal, Table}
use Rattle.part_tree.specs.Moves.{Move}
use Rattle.part_tree.specs.Plans.{IsPlain, AllPlain, AllBased, AllNamed}

pub plain_based : (ss : List Segment) → AllPlain ss → AllBased ss
plain_based [] h = tt
plain_based (Copy s ∷ ss) h = (tt, plain_based ss h.1)
plain_based (Literal b ∷ ss) h = (tt, plain_based ss h.1)
plain_based (Table form from rows ∷ ss) h = absurd h.0

pub plain_named : (moves : List Move) (o : List ℕ) (ss : List Segment) → AllPlain ss → AllNamed moves o ss
plain_named moves o [] h = tt
plain_named moves o (Copy s ∷ ss) h = (tt, plain_named moves o ss h.1)
plain_named moves o (Literal b ∷ ss) h = (tt, plain_named moves o ss h.1)
plain_named moves o (Table form from rows ∷ ss) h = absurd h.0

-- one segment more
pub plain_more : (ss new : List Segment) (s : Segment) → new ≡ ss ++ s ∷ [] → AllPlain ss → IsPlain s → AllPlain new
plain_more ss new s e h i = subst AllPlain (sym e) (go ss h)
  where
    go : (ss : List Segment) → AllPlain ss → AllPlain (ss ++ s ∷ [])
    go [] h = (i, tt)
    go (x ∷ ss) h = (h.0, go ss h.1)

-- At most one idx1 is the index.
use Rattle.std.proofs.Common.{◌≡◌, List, [], ◌∷◌, map}
use Rattle.std.specs.Prelude.{codes}
use Rattle.container_model.specs.Stood.{Stood, only, first_of}
use Rattle.avi_model.specs.Avi.{has_id}
use Rattle.container_model.specs.Tables.{Table, table_of}

pub one_old : (xs : List Stood) (u v : Table) (us : List Table) → u ∷ (v ∷ us) ≡ map table_of (first_of (only (has_id (codes "idx1")) xs)) → ⊥
one_old xs u v us e = go (only (has_id (codes "idx1")) xs) e
  where
    go : (ys : List Stood) → u ∷ (v ∷ us) ≡ map table_of (first_of ys) → ⊥
    go [] e = absurd cc
    go (y ∷ ys) e = absurd cc

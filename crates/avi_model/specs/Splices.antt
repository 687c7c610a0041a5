-- The new file as one splice of the old one (this project's own).
use Rattle.std.specs.Prelude.{◌≡◌, ◌<◌, ℕ, List, length, Some}
use Rattle.part_tree.specs.Moves.{place}
use Rattle.container_model.specs.Splice.{splice, Ascend, Outside}
use Rattle.carrier_model.specs.Gaps.{moves_of}
use Rattle.avi_model.specs.NewFile.{Items, file_cuts, moves}

-- It is the old file with the spans of one list replaced; these ascend, are disjoint and lie in it; and the ranges between them put
-- each place where the numbers of tables are moved.
pub record IsOneSplice (o : List ℕ) (e : Items) (n : List ℕ) : Type 0 where
  pub spliced : n ≡ splice o (file_cuts o e)
  pub ascend : Ascend 0 (file_cuts o e) (length o)
  pub put : (p : ℕ) → Outside (file_cuts o e) p → p < length o → place (moves_of (file_cuts o e) (length o)) p ≡ Some (moves o e p)

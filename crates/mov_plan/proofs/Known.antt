-- What the units of places tell of an edit.
use Rattle.std.proofs.Common.{◌≡◌, ◌∙◌, ◌+◌, ◌++◌, ℕ, List, [], ◌∷◌, Bool, true, false, length, map, refl, ap, sym}
use Rattle.me_bytes.specs.Bytes.{IsBytes}
use Rattle.part_tree.specs.declared.field.EditItem.{EditItem}
use Rattle.container_model.specs.Splice.{Cut}
use Rattle.mov_model.specs.After.{widens}
use Rattle.mov_model.specs.Edited as edits
use Rattle.mov_model.specs.Movie.{movie_of}
use Rattle.mov_model.specs.New.{kids_at}
use Rattle.unit_plan.specs.Cuts.{cut_in}
use Rattle.mov_plan.specs.Edits.{beyond_of, edited_cells}
use Rattle.mov_plan.specs.Frame.{IsBehindOf, IsMoovOf, IsSoundMoov}
use Rattle.mov_plan.specs.Places.{beyond_in, outcome_in, shape_in}
use Rattle.mov_plan.specs.Planned.{AreTables, IsCarried, IsKnown, StandsIn}
use Rattle.mov_plan.specs.Rows.{Beyond, Open, Outcome, both, closed, counts, ended, none, row, unit_at}
use Rattle.mov_plan.specs.Shapes.{Shape, changes, pads, shapes, stays}
use Rattle.mov_plan.specs.Tables.{widens_in}
use Rattle.mov_plan.specs.declared.frame.MoovAt.{MoovAt}
use Rattle.mov_plan.specs.declared.place.Behind.{Behind}
use Rattle.mov_plan.specs.declared.place.Place.{Place}
use Rattle.mov_plan.specs.declared.row.Units.{Units}
use Rattle.mov_plan.specs.declared.tables.TableAt.{TableAt}
use Rattle.mov_plan.proofs.Narrow.{edit}
use Rattle.mov_plan.proofs.Widens.{widens_told}

-- a row is the same where a slot goes on behind moov with the same bytes, or nowhere
module _ (b : List ℕ) (end : ℕ) (x : Behind) (y : Beyond) (is : IsBehindOf b end x y) where
  ended_same : (o : Open) → ended (beyond_in b end x) o x.goes_on ≡ ended y o y.goes_on
  ended_same o = go x.goes_on refl o ∙ ap (ended y o) is.goes_on
    where
      go : (t : Bool) → x.goes_on ≡ t → (o : Open) → ended (beyond_in b end x) o t ≡ ended y o t
      go t e none = ap (λ (n : ℕ). counts n 0) is.gaps
      go true e (unit_at at slot now) = ap (λ (z : List ℕ). closed x.last true (unit_at at (slot ++ z) now)) (is.slot e) ∙ ap (λ (u : Bool). closed u true (unit_at at (slot ++ y.slot) now)) is.last
      go false e (unit_at at slot now) = ap (λ (n : ℕ). both (closed false false (unit_at at slot now)) (counts n 0)) is.gaps

  row_same : (at : ℕ) (o : Open) (xs : List Shape) → row (beyond_in b end x) at o xs ≡ row y at o xs
  unfolding row
  row_same at o [] = ended_same o
  row_same at o (stays n k ∷ xs) = ap (λ (r : Outcome). both (closed false false o) (both (counts k n) r)) (row_same (at + n) none xs)
  row_same at none (pads old k ∷ xs) = ap (both (counts k (length old))) (row_same (at + length old) none xs)
  row_same at (unit_at start slot now) (pads old k ∷ xs) = row_same (at + length old) (unit_at start (slot ++ old) now) xs
  row_same at none (changes old new k ∷ xs) = ap (both (counts k 0)) (row_same (at + length old) (unit_at at old new) xs)
  row_same at (unit_at start slot now) (changes old new k ∷ xs) = ap (both (counts k 0)) (row_same (at + length old) (unit_at start (slot ++ old) (now ++ new)) xs)

pub known_by : (b : List ℕ) (e : List EditItem) (m : MoovAt) (ts : List TableAt) (u : Units) (ps : List Place) → IsBytes b → IsMoovOf b m → AreTables b ts
    → map (shape_in b) ps ≡ shapes false (edited_cells (movie_of b) (edits.changes b e)) → IsCarried b e → outcome_in b u ≡ row (beyond_in b m.end m.behind) m.from none (map (shape_in b) ps) → IsKnown b e m ts u
known_by b e m ts u ps bytes is known same carried outcome =
    let v = movie_of b in
    let xs = map (shape_in b) ps in
    record {
      bytes = bytes;
      moov = is;
      tables = known;
      units = outcome
          ∙ row_same b m.end m.behind (beyond_of v) is.behind m.from none xs
          ∙ ap (λ (k : ℕ). row (beyond_of v) k none xs) is.from
          ∙ ap (λ (ys : List Shape). row (beyond_of v) (kids_at v (edits.changes b e)) none ys) same;
      carried = carried;
    }

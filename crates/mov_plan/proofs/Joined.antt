-- What the units of a movie's atoms come to is what its edit is.
use Rattle.std.proofs.Common.{◌≡◌, ℕ, ◌+◌, ◌++◌, Bool, true, false, cond, List, [], length, map, refl, ap, subst, sym, arith}
use Rattle.std.specs.Prelude.{◌&&◌}
use Rattle.std.specs.List.{AllByRecursion}
use Rattle.std.proofs.lemmas.List.{length-append}
use Rattle.container_model.specs.Atoms.{atoms_in}
use Rattle.container_model.specs.Chunk.{Chunk, spell_all}
use Rattle.container_model.specs.Items.{is_nil}
use Rattle.container_model.specs.Sizes.{inside}
use Rattle.container_model.specs.Units.{cuts}
use Rattle.container_model.proofs.Read.{Atom}
use Rattle.carrier_model.specs.Room.{unit_patches}
use Rattle.mov_model.specs.Atoms.{cell_of}
use Rattle.mov_model.specs.Carried.{Changes, steps}
use Rattle.mov_model.specs.Movie.{Movie}
use Rattle.mov_model.specs.New.{ends_file, fill, gaps_of, hanging, is_open, kids_at, laid_kids, past_gaps, pieces_of, whole_pieces}
use Rattle.mov_model.proofs.Clauses.{gaps_split}
use Rattle.mov_model.specs.Room.{units_fit}
use Rattle.mov_plan.specs.Edits.{IsEditOf, beyond_of, edited_cells}
use Rattle.mov_plan.specs.Rows.{ends_with, none, pieces_outcome, row}
use Rattle.mov_plan.specs.Shapes.{count_all, shapes}
use Rattle.mov_plan.proofs.Plain.{carried_plain, read_plain}
use Rattle.mov_plan.proofs.Told.{shapes_tell}

module _ (m : Movie) (e : Changes) where
  ends_same : ends_with (beyond_of m) (pieces_of m e) ≡ ends_file m e
  ends_same = go (is_open m e)
    where
      go : (t : Bool) → (t && (is_nil (past_gaps m.behind) && is_nil m.left)) ≡ (t && (is_nil (cond t (past_gaps m.behind) m.behind) && is_nil m.left))
      go true = refl
      go false = refl

  pieces_are : IsEditOf m e (pieces_outcome (beyond_of m) false (kids_at m e) (pieces_of m e))
  pieces_are = record {
    cuts = ap (λ (t : Bool). cuts (fill t) (kids_at m e) (whole_pieces m e)) ends_same;
    patches = ap (λ (t : Bool). unit_patches (fill t) (kids_at m e) (whole_pieces m e)) ends_same;
    fits = ap (λ (t : Bool). units_fit t (whole_pieces m e)) ends_same;
    inner = length-append (spell_all (laid_kids m e)) (atoms_in m.movie).left;
    parts = parts_are (is_open m e);
  }
    where
      n : ℕ
      n = count_all false (laid_kids m e)

      parts_are : (t : Bool) → (n + cond t (length (hanging (fill (ends_with (beyond_of m) (pieces_of m e))) (whole_pieces m e))) (length (gaps_of m.behind))) + length (past_gaps m.behind)
          ≡ n + length (cond t (hanging (fill (ends_file m e)) (whole_pieces m e)) [] ++ cond t (past_gaps m.behind) m.behind)
      parts_are true =
          let same = ap (λ (u : Bool). length (hanging (fill u) (whole_pieces m e))) ends_same in
          omega (arith, same, length-append (hanging (fill (ends_file m e)) (whole_pieces m e)) (past_gaps m.behind))
      parts_are false =
          let all = ap (λ (cs : List Chunk). length cs) (gaps_split m.behind) in
          omega (arith, all, length-append (gaps_of m.behind) (past_gaps m.behind))

  pub row_is : AllByRecursion (Atom inside) (atoms_in m.movie).chunks → IsEditOf m e (row (beyond_of m) (kids_at m e) none (shapes false (edited_cells m e)))
  row_is atoms =
      subst (IsEditOf m e) (sym (shapes_tell (beyond_of m) (kids_at m e) (edited_cells m e) (carried_plain (steps e) (map cell_of (atoms_in m.movie).chunks) (read_plain (atoms_in m.movie).chunks atoms)))) pieces_are

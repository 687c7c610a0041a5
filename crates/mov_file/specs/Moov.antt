-- Where the first `moov` of a file stands.
use Rattle.std.specs.Prelude.{◌≡◌, ℕ, List, length, codes, false, Result}
use Rattle.std.specs.declared.result.Result.TheVariants.{Ok, Err}
use Rattle.part_tree.specs.declared.why.ReadFault.{ReadFault}
use Rattle.part_tree.specs.declared.why.ReadFault.TheVariants.{Why, Depot, Memory}
use Rattle.container_model.specs.Chunk.{spell_all}
use Rattle.mov_model.specs.Movie.{movie_of, top_run}
use Rattle.mov_model.specs.Parts.{has_id}
use Rattle.mov_model.specs.Reading.{inside_at}
use Rattle.qt_atoms.specs.Walk.{atom_in}
use Rattle.qt_atoms.specs.declared.walker.AtomAt.{AtomAt}

-- the first `moov` of a file: what it is, and where its header and its body stand
pub record IsMoov (b : List ℕ) (k : AtomAt) : Type 0 where
  pub movie : (movie_of b).movie ≡ atom_in b k
  pub at : length (spell_all (movie_of b).before) ≡ k.at
  pub inside : inside_at (movie_of b) ≡ k.body.at

-- the first `moov`, or none is among the atoms that are read
abbrev pub FindsMoov : List ℕ → Result AtomAt ReadFault → Type 0
FindsMoov b (Ok k) = IsMoov b k
FindsMoov b (Err (Why w)) = has_id (codes "moov") (top_run b).chunks ≡ false
FindsMoov b (Err Depot) = Unit {0}
FindsMoov b (Err Memory) = Unit {0}

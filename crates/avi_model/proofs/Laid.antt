-- What the laws need of an edit of the first form of an AVI file: where places go, and what the new file is read as.
use Rattle.std.proofs.Common.{◌≡◌, ℕ, ◌+◌, ◌<◌, ◌≤◌, List, length, map}
use Rattle.std.specs.List.{AllByRecursion}
use Rattle.container_model.specs.Stood.{Stood, only}
use Rattle.container_model.specs.Written.{Write}
use Rattle.container_model.proofs.Stay.{Orders}
use Rattle.container_model.proofs.Copied.{Moves_as_one}
use Rattle.container_model.proofs.Stood.{carried_to}
use Rattle.opendml_index.specs.Index.{move}
use Rattle.avi_model.specs.Avi.{Avi, avi_of, hdrls, strls, top, stream_indexes, old_indexes, is_movi}
use Rattle.avi_model.specs.Index.{writes}
use Rattle.avi_model.specs.Support.{ListEnds, infos}
use Rattle.avi_model.proofs.Among.{Among}
use Rattle.avi_model.proofs.Read.{Readable, renewed_avi, others_place}

-- chunks stand where they go, with what is written into them
abbrev pub Carried : (ℕ → ℕ) → (ℕ → Type 0) → List Write → List Stood → List Stood → Type 0
Carried f Free ws xs ys = (ys ≡ map (carried_to f ws) xs) × AllByRecursion (Moves_as_one f Free) xs

-- The new file's parts are read again; tables and essence stand where they go, what stands behind the first form goes as one, and no
-- byte of the essence moves towards the start.
pub record IsLaid (o : List ℕ) (f : ℕ → ℕ) (Free : ℕ → Type 0) (d : Avi) : Type 0 where
  pub order : Orders f Free
  pub readable : Readable d
  pub others_are : d.others ≡ (renewed_avi (writes (move f) o) (avi_of o)).others
  pub tail_is : d.tail ≡ (avi_of o).tail
  pub streams : Carried f Free (writes (move f) o) (stream_indexes (avi_of o)) (stream_indexes d)
  pub olds : Carried f Free (writes (move f) o) (old_indexes (avi_of o)) (old_indexes d)
  pub movis : Carried f Free (writes (move f) o) (only is_movi (top (avi_of o))) (only is_movi (top d))
  pub past : (q : ℕ) → others_place (avi_of o) ≤ q → Free q × (f q + others_place (avi_of o) ≡ q + others_place d)
  pub grows : (m : Stood) → Among m (only is_movi (top (avi_of o))) → (p : ℕ) → m.at + 8 ≤ p → p < m.at + 8 + length m.chunk.body → p ≤ f p

-- the lists that are opened in the new file end, and hdrl is there where it was
pub record ListsStay (o : List ℕ) (d : Avi) : Type 0 where
  pub hdrls_end : AllByRecursion ListEnds (hdrls d)
  pub strls_end : AllByRecursion ListEnds (strls d)
  pub infos_end : AllByRecursion ListEnds (infos d)
  pub hdrls_stay : length (hdrls d) ≡ length (hdrls (avi_of o))

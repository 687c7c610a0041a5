-- The tracks of a movie whose chunk places are changed.
use Rattle.std.proofs.Common.{Bool, List, [], ap, cond, false, map, refl, true, ℕ, ◌++◌, ◌∙◌, ◌∷◌, ◌≡◌}
use Rattle.std.specs.Prelude.{codes}
use Rattle.std.specs.List.{flat_map}
use Rattle.std.specs.Str.{bytes_eq}
use Rattle.container_model.specs.Atoms.{is}
use Rattle.container_model.specs.Chunk.{Chunk}
use Rattle.mov_model.specs.Parts.{track_of}
use Rattle.mov_model.specs.Tables.{relocated}
use Rattle.mov_model.proofs.Tables.{relocated_id}

pub tracks_relocated : (f : ℕ → ℕ) (cs : List Chunk) → flat_map track_of (map (relocated f) cs) ≡ map (relocated f) (flat_map track_of cs)
tracks_relocated f [] = refl
tracks_relocated f (c ∷ cs) =
    ap (λ (t : Bool). cond t (relocated f c ∷ []) [] ++ flat_map track_of (map (relocated f) cs)) (ap (λ (x : List ℕ). bytes_eq x (codes "trak")) (relocated_id f c)) ∙ go (is c (codes "trak")) (tracks_relocated f cs)
  where
    go : (t : Bool) → flat_map track_of (map (relocated f) cs) ≡ map (relocated f) (flat_map track_of cs) → cond t (relocated f c ∷ []) [] ++ flat_map track_of (map (relocated f) cs) ≡ map (relocated f) (cond t (c ∷ []) [] ++ flat_map track_of cs)
    go true again = ap (λ (x : List Chunk). relocated f c ∷ x) again
    go false again = again

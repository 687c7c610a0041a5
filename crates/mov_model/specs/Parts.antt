-- The atoms of a movie that an edit speaks of: those of `moov` without padding, its user data and its tracks.
use Rattle.std.specs.Prelude.{Bool, List, [], codes, false, if◌then◌else◌, ℕ, ◌||◌, ◌∷◌}
use Rattle.std.specs.List.{flat_map}
use Rattle.container_model.specs.Chunk.{Chunk}
use Rattle.container_model.specs.Units.{solids}
use Rattle.mov_model.specs.Atoms.{is_padding}
use Rattle.container_model.specs.Atoms.{atoms_in, is}
use Rattle.mov_model.specs.Movie.{Movie}
use Rattle.qt_text.specs.User.{udta}

-- the atoms of moov that are no padding
abbrev pub parts : Movie → List Chunk
parts m = solids is_padding (atoms_in m.movie).chunks

-- the first one of a sort, as a list of one or none
abbrev pub first_of : (Chunk → Bool) → List Chunk → List Chunk
first_of is [] = []
first_of is (c ∷ cs) = if is c then c ∷ [] else first_of is cs

-- the first user data
abbrev pub first_user : List Chunk → List Chunk
first_user cs = first_of (λ c. udta.is c) cs

-- the items of the first user data
abbrev pub first_items : List Chunk → List Chunk
first_items [] = []
first_items (c ∷ cs) = if udta.is c then (udta.opening c).chunks else first_items cs

-- whether an atom of this type is among them
abbrev pub has_id : List ℕ → List Chunk → Bool
has_id id [] = false
has_id id (c ∷ cs) = is c id || has_id id cs

-- a track
abbrev pub track_of : Chunk → List Chunk
track_of c = if is c (codes "trak") then c ∷ [] else []

-- the tracks of a movie
abbrev pub tracks : Movie → List Chunk
tracks m = flat_map track_of (parts m)

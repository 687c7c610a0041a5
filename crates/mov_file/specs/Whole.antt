-- A movie that is read as a whole: all its atoms, then the chunks of its tracks, then its fields.
use Rattle.std.specs.Prelude.{◌≡◌, ◌≤◌, ◌⊎◌, ℕ, ◌+◌, List, [], ◌∷◌, ◌++◌, length, suc, ⊤, Option, Some, None, Result, Bool}
use Rattle.std.specs.List.{AllByRecursion}
use Rattle.std.specs.declared.result.Result.TheVariants.{Ok, Err}
use Rattle.part_tree.specs.Fields.{values}
use Rattle.part_tree.specs.Ranges.{Ascends}
use Rattle.part_tree.specs.declared.field.FieldName.{FieldName}
use Rattle.part_tree.specs.declared.field.FieldName.TheVariants.{User, Key}
use Rattle.field_model.specs.Fields.{FieldMap}
use Rattle.field_model.specs.Lawful.{IsLawful}
use Rattle.part_tree.specs.declared.names.Span.{Span}
use Rattle.part_tree.specs.declared.part.Part.{Part}
use Rattle.part_tree.specs.declared.shows.Track.{Track}
use Rattle.part_tree.specs.declared.why.ReadFault.{ReadFault}
use Rattle.part_tree.specs.declared.why.ReadFault.TheVariants.{Why, Depot, Memory}
use Rattle.part_tree.specs.declared.why.Why.{Why as Refusal}
use Rattle.part_tree.specs.declared.why.Why.TheVariants.{ChunkAstray}
use Rattle.container_model.specs.Chunk.{Chunk, ends}
use Rattle.container_model.specs.Items as items
use Rattle.container_model.specs.Sizes.{inside, user}
use Rattle.container_model.specs.Tests.{first}
use Rattle.container_model.specs.Units.{solids}
use Rattle.container_model.specs.Written.{slice}
use Rattle.mov_model.specs.Keys.{first_table, is_meta}
use Rattle.mov_model.specs.Atoms.{is_padding}
use Rattle.mov_model.specs.Map.{Kid, essence, parts_of}
use Rattle.mov_model.specs.Parts.{first_items}
use Rattle.mov_model.specs.Reading.{reading}
use Rattle.mov_model.specs.Why.{tests_from}
use Rattle.qt_atoms.specs.Walk.{InOrder, row}
use Rattle.qt_atoms.specs.declared.walker.AtomAt.{AtomAt}
use Rattle.qt_text.specs.User.{udta, user_items}
use Rattle.mov_file.specs.Carriers.{kids_in}
use Rattle.mov_file.specs.Fields.{texts_held}
use Rattle.mov_file.specs.Keys.{keys_held}
use Rattle.mov_file.specs.Chunks.{HasRows, first_astray, places_of}
use Rattle.mov_file.specs.Map.{IsKid, StandsIn, first_that}
use Rattle.mov_file.specs.Moov.{IsMoov}
use Rattle.mov_file.specs.Sound.{AllEndBy, EssenceBy}
use Rattle.mov_file.specs.Track.{tables_after}
use Rattle.mov_file.specs.declared.carriers.Meta.{Meta}
use Rattle.mov_file.specs.declared.movie.Carried.{Carried}
use Rattle.mov_file.specs.declared.reading.Reading.{Reading}
use Rattle.mov_file.specs.declared.track.TablesAt.{TablesAt}

-- ---- all atoms

-- nothing was met yet
pub record IsFresh (r : Reading) : Type 0 where
  pub parts : r.parts.items ≡ []
  pub mdats : r.mdats.items ≡ []
  pub tracks : r.tracks.items ≡ []

-- all atoms of a file are met, which no test refuses
pub record IsMet (b : List ℕ) (r : Reading) (k : AtomAt) : Type 0 where
  pub tests : first (tests_from [] (reading b)) ≡ None
  pub moov : IsMoov b k
  pub parts : r.parts.items ≡ parts_of b
  pub mdats : r.mdats.items ≡ essence b
  pub tracks : r.tracks.items ≡ tables_after [] (reading b)

-- all atoms, or the first test that refuses one
abbrev pub Meets : List ℕ → Reading → Result AtomAt ReadFault → Type 0
Meets b r (Ok k) = IsMet b r k
Meets b r (Err (Why w)) = first (tests_from [] (reading b)) ≡ Some w
Meets b r (Err Depot) = ⊤
Meets b r (Err Memory) = ⊤

-- on every depot: `moov` and all that is met lie in a file of this length, and the essence is in order
pub record LieInFile (len : ℕ) (r : Reading) (k : AtomAt) : Type 0 where
  pub moov : InOrder k.at len k
  pub few : length r.tracks.items ≤ 65536
  pub all : AllEndBy len r
  pub essence : EssenceBy len r

-- ---- the chunks of tracks

-- the places of the chunks of a track
abbrev pub chunks_of : List ℕ → Track → List ℕ
chunks_of b t = places_of t.wide (slice b t.chunks.at t.chunks.len)

-- a track without a table of places, or with one that has all its rows
abbrev pub HasPlaces : List ℕ → Track → Type 0
HasPlaces b t = (t.chunks.len ≡ 0) ⊎ HasRows t.wide (slice b t.chunks.at t.chunks.len)

-- the number of the track and of the chunk
abbrev pub astray_as : ℕ → Option ℕ → Option Refusal → Option Refusal
astray_as n None later = later
astray_as n (Some k) later = Some (ChunkAstray n k)

-- the first chunk of these tracks that stands in none of the ranges; tracks are counted on from a number
abbrev pub first_chunk : List ℕ → List Span → ℕ → List Track → Option Refusal
first_chunk b mdats n [] = None
first_chunk b mdats n (t ∷ ts) = astray_as n (first_astray mdats 1 (chunks_of b t)) (first_chunk b mdats (suc n) ts)

-- ---- the fields

-- the fields in the atoms of moov
abbrev pub fields_in : List Chunk → FieldMap
fields_in cs (User id) = items.values user_items id.0 (first_items (solids is_padding cs))
fields_in cs (Key name) = keys_held (first_table (solids is_padding cs)) (Key name)
fields_in cs name = []

-- the texts of the user data, where there is some
abbrev pub user_held : List ℕ → Option AtomAt → FieldMap
user_held b None = λ n. []
user_held b (Some k) = texts_held (row user b k.body.at (k.body.at + k.body.len)).chunks

-- the values of the keys of a table, where there is one
abbrev pub meta_held : Option Meta → FieldMap
meta_held None = λ n. []
meta_held (Some m) = keys_held m.table

-- the atom of a table
abbrev pub meta_atom : Option Meta → Option AtomAt
meta_atom None = None
meta_atom (Some m) = Some m.atom

-- what is read of the user data ends as it should
abbrev pub UserEnds : Option Kid → Type 0
UserEnds None = Unit {0}
UserEnds (Some k) = (udta.opening k.atom).stop ≡ ends

-- the carriers among the atoms from a place of moov up to an end, and the fields in them
pub record AreCarried (b : List ℕ) (at end : ℕ) (c : Carried) : Type 0 where
  pub field_values : (name : FieldName) → values c.fields name ≡ fields_in (row inside b at end).chunks name
  pub user : IsKid b (first_that udta.is (kids_in b at end)) c.user
  pub meta : IsKid b (first_that is_meta (kids_in b at end)) c.meta

-- the same on every depot
pub record AreSound (at end : ℕ) (c : Carried) : Type 0 where
  pub user : StandsIn at end c.user
  pub meta : StandsIn at end c.meta
  pub lawful : IsLawful (values c.fields)

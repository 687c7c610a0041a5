-- What a map says of a movie: its parts with their places and roles, its fields, its `moov` with the carriers in it, its essence,
-- and the tables of its tracks.
use Rattle.std.specs.Prelude.{◌≡◌, ◌≤◌, ◌<◌, ℕ, ◌+◌, ◌^◌, List, [], ◌∷◌, length, Bool, Option, Some, None, Result, if◌then◌else◌}
use Rattle.std.specs.List.{AllByRecursion}
use Rattle.container_model.specs.Chunk.{Chunk, spell, spell_all}
use Rattle.part_tree.specs.Fields.{values}
use Rattle.part_tree.specs.Ranges.{Ascends}
use Rattle.part_tree.specs.declared.names.Span.{Span}
use Rattle.part_tree.specs.declared.part.Part.{Part}
use Rattle.part_tree.specs.declared.shows.Track.{Track}
use Rattle.part_tree.specs.declared.field.FieldName.{FieldName}
use Rattle.part_tree.specs.declared.why.ReadFault.{ReadFault}
use Rattle.field_model.specs.KindReads.{ReadsKind}
use Rattle.field_model.specs.Lawful.{IsLawful}
use Rattle.mov_model.specs.Edited.{fields}
use Rattle.mov_model.specs.Keys.{is_meta}
use Rattle.mov_model.specs.Kind.{mov_kind}
use Rattle.mov_model.specs.Map.{Kid, body_span, essence, kids_of, parts_of, tracks_of}
use Rattle.mov_model.specs.Movie.{movie_of}
use Rattle.mov_model.specs.Why.{why}
use Rattle.qt_atoms.specs.Walk.{InOrder, atom_in}
use Rattle.qt_atoms.specs.declared.walker.AtomAt.{AtomAt}
use Rattle.qt_text.specs.User.{udta}
use Rattle.mov_file.specs.declared.map.MovMap.{MovMap}

-- ---- atoms

-- An atom at a place of the file: its type and the form of its header, its body, and where what is behind it begins.
pub record IsAtom (b : List ℕ) (at : ℕ) (c : Chunk) (k : AtomAt) : Type 0 where
  pub atom : c ≡ atom_in b k
  pub place : at ≡ k.at
  pub body : body_span at c ≡ k.body
  pub behind : at + length (spell c) ≡ k.next

-- the first atom of moov that meets a test
abbrev pub first_that : (Chunk → Bool) → List Kid → Option Kid
first_that p [] = None
first_that p (k ∷ ks) = if p k.atom then Some k else first_that p ks

-- an atom of moov, or none
abbrev pub IsKid : List ℕ → Option Kid → Option AtomAt → Type 0
IsKid b None None = Unit {0}
IsKid b (Some kid) (Some k) = IsAtom b kid.at kid.atom k
IsKid b None (Some k) = ⊥
IsKid b (Some kid) None = ⊥

-- ---- what a map says of a file

-- The file is supported, and the map tells its length, its parts in the order of reading, the values of each field, its `moov`, and
-- directly in that the first user data and the first `meta` that is a key table, the bodies of the `mdat`s, and the tracks.
pub record IsMapOf (b : List ℕ) (m : MovMap) : Type 0 where
  pub supported : why b ≡ None
  pub len : m.len ≡ length b
  pub parts : m.parts.items ≡ parts_of b
  pub field_values : (name : FieldName) → values m.fields name ≡ fields b name
  pub moov : IsAtom b (length (spell_all (movie_of b).before)) (movie_of b).movie m.moov
  pub user : IsKid b (first_that udta.is (kids_of (movie_of b))) m.user
  pub meta : IsKid b (first_that is_meta (kids_of (movie_of b))) m.meta
  pub mdats : m.mdats.items ≡ essence b
  pub tracks : m.tracks.items ≡ tracks_of b

-- the map of the file, or the first refusal
abbrev pub ReadsMov : List ℕ → Result MovMap ReadFault → Type 0
ReadsMov b r = ReadsKind mov_kind IsMapOf b r

-- ---- a map that is sound, whatever the file

-- a range ends at a place or before it
abbrev pub EndsBy : ℕ → Span → Type 0
EndsBy end s = s.at + s.len ≤ end

-- a range, where there is one
abbrev pub MayEndBy : ℕ → Option Span → Type 0
MayEndBy end None = Unit {0}
MayEndBy end (Some s) = EndsBy end s

-- a part's body lies between its header and what is behind it, and that begins at a place or before it
pub record PartEndsBy (end : ℕ) (p : Part) : Type 0 where
  pub head : p.at ≤ p.body.at
  pub body : p.body.at + p.body.len ≤ p.next
  pub next : p.next ≤ end

-- the tables of a track
pub record TrackEndsBy (end : ℕ) (t : Track) : Type 0 where
  pub chunks : EndsBy end t.chunks
  pub runs : MayEndBy end t.stsc
  pub sizes : MayEndBy end t.stsz

-- an atom between two places, or none
abbrev pub StandsIn : ℕ → ℕ → Option AtomAt → Type 0
StandsIn from end None = Unit {0}
StandsIn from end (Some k) = (from ≤ k.at) × InOrder k.at end k

-- All ranges lie in the file, those of the essence in order, the carriers stand in `moov`, and the fields are lawful.
pub record IsSound (m : MovMap) : Type 0 where
  pub small : m.len < 2 ^ 63
  pub moov : InOrder m.moov.at m.len m.moov
  pub user : StandsIn m.moov.body.at (m.moov.body.at + m.moov.body.len) m.user
  pub meta : StandsIn m.moov.body.at (m.moov.body.at + m.moov.body.len) m.meta
  pub parts : AllByRecursion (PartEndsBy m.len) m.parts.items
  pub mdats : Ascends 0 m.mdats.items
  pub mdats_inside : AllByRecursion (EndsBy m.len) m.mdats.items
  pub tracks : AllByRecursion (TrackEndsBy m.len) m.tracks.items
  pub lawful : IsLawful (values m.fields)

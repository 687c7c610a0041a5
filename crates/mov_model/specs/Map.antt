-- What a reader tells of a movie: its parts with their roles, its user data, its essence and the tables of its tracks.
use Rattle.std.specs.Prelude.{ℕ, zero, suc, ◌+◌, List, [], ◌∷◌, ◌++◌, length, map, take, drop, Bool, true, false, ◌&&◌, ◌||◌, not, codes, Option, Some, None, if◌then◌else◌}
use Rattle.std.specs.List.{flat_map}
use Rattle.part_tree.specs.Letters.{four}
use Rattle.part_tree.specs.Parts.{rest_parts}
use Rattle.part_tree.specs.declared.names.Span.{Span}
use Rattle.part_tree.specs.declared.part.Part.{Part}
use Rattle.part_tree.specs.declared.part.Role.{Role}
use Rattle.part_tree.specs.declared.part.Role.TheVariants.{Opaque, Padding, Tables, UserData, Essence, Rest}
use Rattle.part_tree.specs.declared.shows.Track.{Track}
use Rattle.container_model.specs.Chunk.{Chunk, Run, spell, spell_all}
use Rattle.container_model.specs.Items.{is_nil}
use Rattle.container_model.specs.Walk.{Step, chunk_at, chunk_met, end_at, body_at, along, walk}
use Rattle.container_model.specs.Deep.{Leaf, kids}
use Rattle.mov_model.specs.Atoms.{Place, file, moov, stbl, is_padding, opens, format}
use Rattle.container_model.specs.Atoms.{is, atoms_in}
use Rattle.qt_text.specs.User.{udta}
use Rattle.mov_model.specs.Movie.{Movie, movie_of, top_run}
use Rattle.mov_model.specs.Pieces.{is_mdat}
use Rattle.mov_model.specs.Reading.{inside_at, reading}

-- ---- parts

-- an atom's body in the file
abbrev pub body_span : ℕ → Chunk → Span
body_span at c = record { at = body_at at c; len = length c.body }

-- this role where a test holds
abbrev pub role_where : Bool → Role → Role
role_where true role = role
role_where false role = Opaque

-- an atom of the file is padding, essence or opaque
abbrev pub file_role : Chunk → Role
file_role c = if is_padding c.id then Padding else role_where (is_mdat c) Essence

-- an atom of moov is padding, the first user data or opaque
abbrev pub moov_role : Bool → Chunk → Role
moov_role seen c = if is_padding c.id then Padding else role_where (not seen && udta.is c) UserData

-- an atom below those of moov: a table of chunk places stands in stbl
abbrev pub role_in : Place → Chunk → Role
role_in file c = file_role c
role_in stbl c = role_where (is c (codes "stco") || is c (codes "co64")) Tables
role_in p c = Opaque

-- an atom as a part
abbrev pub part : Role → ℕ → Chunk → Part
part role at c = record { id = four c.id; at = at; body = body_span at c; next = at + length (spell c); role = role }

-- atoms that follow each other from a place on, and their rest
abbrev pub run_parts : (ℕ → Chunk → List Part) → ℕ → Run → List Part
run_parts each at r = along each at r.chunks ++ rest_parts (at + length (spell_all r.chunks)) r.left

-- the parts in an atom that is opened
abbrev pub opened_parts : (Place → ℕ → Chunk → List Part) → ℕ → Chunk → Option Place → List Part
opened_parts each at c None = []
opened_parts each at c (Some p) = run_parts (each p) (body_at at c) (kids format p c)

-- an atom in a place, and the parts in it
abbrev pub with_inner : (Place → ℕ → Chunk → List Part) → Place → ℕ → Chunk → List Part
with_inner inner p at c = part (role_in p c) at c ∷ inner p at c

-- the parts in an atom of this place, so many levels deep
unfoldable pub inner_parts : ℕ → Place → ℕ → Chunk → List Part
inner_parts zero p at c = []
inner_parts (suc d) p at c = opened_parts (with_inner (inner_parts d)) at c (opens p c.id (take 4 c.body))

-- the parts in user data
abbrev pub user_parts : ℕ → Chunk → List Part
user_parts at c = run_parts (λ at k. part Opaque at k ∷ []) (body_at at c) (udta.opening c)

-- the parts in an atom of moov, which is the first user data or isn't
abbrev pub in_kid : Bool → ℕ → Chunk → List Part
in_kid true at c = user_parts at c
in_kid false at c = inner_parts 5 moov at c

-- the atoms of moov, behind user data or not, each with the parts in it
abbrev pub kid_parts : Bool → ℕ → List Chunk → List Part
kid_parts seen at [] = []
kid_parts seen at (c ∷ cs) = (part (moov_role seen c) at c ∷ in_kid (not seen && udta.is c) at c) ++ kid_parts (seen || udta.is c) (at + length (spell c)) cs

-- the atoms of moov and its rest
abbrev pub moov_parts : ℕ → Run → List Part
moov_parts at r = kid_parts false at r.chunks ++ rest_parts (at + length (spell_all r.chunks)) r.left

-- the atoms of a file, and its tail
abbrev pub file_parts : Run → List Part
file_parts r = run_parts (λ at c. part (file_role c) at c ∷ []) 0 r

-- the parts of a file, in the order of reading: its atoms and its tail, then those of moov
abbrev pub parts_of : List ℕ → List Part
parts_of b = file_parts (top_run b) ++ moov_parts (inside_at (movie_of b)) (atoms_in (movie_of b).movie)

-- ---- essence and user data

-- the body of an mdat
abbrev pub essence_at : Step Place → List Span
essence_at (chunk_at file at c) = if is_mdat c then body_span at c ∷ [] else []
essence_at s = []

-- the bodies of the mdats, in file order
abbrev pub essence : List ℕ → List Span
essence b = flat_map essence_at (reading b)

-- ---- what stands at the spans that are told

-- the bytes of a file at a span
abbrev pub bytes_in : List ℕ → Span → List ℕ
bytes_in b s = take s.len (drop s.at b)

-- the bodies of the atoms that are met
abbrev pub met_bodies : List ℕ → List (List ℕ)
met_bodies b = map (λ (l : Leaf Place). l.chunk.body) (flat_map chunk_met (reading b))

-- whether a part is no rest
abbrev pub is_atom : Role → Bool
is_atom Rest = false
is_atom role = true

-- the spans of the bodies of the parts that are no rests
abbrev pub atom_spans : List Part → List Span
atom_spans [] = []
atom_spans (p ∷ ps) = if is_atom p.role then p.body ∷ atom_spans ps else atom_spans ps

-- the body of an mdat that is met
abbrev pub essence_met : Step Place → List (List ℕ)
essence_met (chunk_at file at c) = if is_mdat c then c.body ∷ [] else []
essence_met s = []

-- the bodies of the mdats among some atoms
abbrev pub mdat_bodies : List Chunk → List (List ℕ)
mdat_bodies [] = []
mdat_bodies (c ∷ cs) = (if is_mdat c then c.body ∷ [] else []) ++ mdat_bodies cs

-- an atom of moov, and where it stands
pub record Kid : Type 0 where
  pub at : ℕ
  pub atom : Chunk

-- the atoms of moov
abbrev pub kids_of : Movie → List Kid
kids_of m = along (λ at c. record { at = at; atom = c } ∷ []) (inside_at m) (atoms_in m.movie).chunks

-- the body of the first one that meets a test
abbrev pub first_kid : (Chunk → Bool) → List Kid → Option Span
first_kid p [] = None
first_kid p (k ∷ ks) = if p k.atom then Some (body_span k.at k.atom) else first_kid p ks

-- the body of the first user data
abbrev pub user_span : List ℕ → Option Span
user_span b = first_kid udta.is (kids_of (movie_of b))

-- ---- the tables of tracks

-- the bodies of a track's tables: of chunk places, in four or eight bytes, of runs, and of sizes
pub record TrackTables : Type 0 where
  pub narrow : List Span
  pub wide : List Span
  pub runs : List Span
  pub sizes : List Span

-- the body of a table of this type
abbrev pub table_at : List ℕ → Step Place → List Span
table_at id (chunk_at stbl at c) = if is c id then body_span at c ∷ [] else []
table_at id s = []

-- the tables that are met
abbrev pub tables_among : List (Step Place) → TrackTables
tables_among ss = record {
  narrow = flat_map (table_at (codes "stco")) ss;
  wide = flat_map (table_at (codes "co64")) ss;
  runs = flat_map (table_at (codes "stsc")) ss;
  sizes = flat_map (table_at (codes "stsz")) ss;
}

-- the tables of a track
abbrev pub track_met : Kid → List TrackTables
track_met k = if is k.atom (codes "trak") then tables_among (walk format 5 moov k.at k.atom) ∷ [] else []

-- the tracks of a file, in file order; in a supported one each list has one table at most
abbrev pub track_tables : List ℕ → List TrackTables
track_tables b = flat_map track_met (kids_of (movie_of b))

-- the first of some spans; none of them is a span of no bytes
abbrev pub span_or : List Span → Span
span_or [] = record { at = 0; len = 0 }
span_or (s ∷ ss) = s

-- the first, if there is one
abbrev pub first_span : List Span → Option Span
first_span [] = None
first_span (s ∷ ss) = Some s

-- a track is told by its table of chunk places, in four or in eight bytes, its runs and its sizes
abbrev pub track_by : TrackTables → Track
track_by t = record { chunks = span_or (t.narrow ++ t.wide); wide = is_nil t.narrow && not (is_nil t.wide); stsc = first_span t.runs; stsz = first_span t.sizes }

-- the tracks of a file
abbrev pub tracks_of : List ℕ → List Track
tracks_of b = map track_by (track_tables b)

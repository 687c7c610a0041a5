-- What a planner of movies makes of an edit: a plan, or the first size that is too large (this project's own).
use Rattle.std.specs.Prelude.{◌≡◌, ◌<◌, ◌^◌, ℕ, ◌+◌, ◌-◌, Bool, true, false, List, [], ◌∷◌, ◌++◌, length, map, take, codes, is_some, Option, Some, None, if◌then◌else◌}
use Rattle.std.specs.List.{flat_map}
use Rattle.me_bytes.specs.Bytes.{IsBytes}
use Rattle.part_tree.specs.Large.{Size, first_above, limited}
use Rattle.part_tree.specs.Letters.{four}
use Rattle.part_tree.specs.declared.field.EditItem.{EditItem}
use Rattle.field_model.specs.Kind.{IsAccepted}
use Rattle.field_model.specs.Update.{effective}
use Rattle.container_model.specs.Atoms.{is}
use Rattle.container_model.specs.Chunk.{Chunk, spell}
use Rattle.container_model.specs.Walk.{Step, chunk_at, end_at}
use Rattle.mov_model.specs.Atoms.{Place, opens, stbl}
use Rattle.mov_model.specs.Cuts.{row_tables}
use Rattle.mov_model.specs.Edited.{changes, fields}
use Rattle.mov_model.specs.Kind.{mov_kind}
use Rattle.mov_model.specs.Large.{key_sizes, user_sizes}
use Rattle.mov_model.specs.Movie.{movie_of}
use Rattle.mov_model.specs.New.{kids_at}
use Rattle.mov_model.specs.Reading.{moov_steps}
use Rattle.unit_plan.specs.Cuts.{FitsIn, SpansAscend}
use Rattle.unit_plan.specs.Sized.{spliced_len}
use Rattle.mov_plan.specs.Edits.{beyond_of, edited_cells}
use Rattle.mov_plan.specs.Frame.{IsMoovOf}
use Rattle.mov_plan.specs.Places.{outcome_in}
use Rattle.mov_plan.specs.Rows.{none, row}
use Rattle.mov_plan.specs.Shapes.{shapes}
use Rattle.mov_plan.specs.Tables.{rows_of}
use Rattle.mov_plan.specs.declared.frame.MoovAt.{MoovAt}
use Rattle.mov_plan.specs.declared.plan.Passed.{Passed}
use Rattle.mov_plan.specs.declared.plan.Sizes.{Sizes}
use Rattle.mov_plan.specs.declared.row.Units.{Units}
use Rattle.mov_plan.specs.declared.tables.TableAt.{TableAt}
use Rattle.qt_atoms.specs.Walk.{form_of}
use Rattle.qt_atoms.specs.declared.walker.AtomAt.{AtomAt}

-- a size with the limit that it passes
abbrev pub passed : Option Passed → Option Size
passed None = None
passed (Some p) = Some (limited p.limit p.size)

-- the sizes that may be too large then, each with its limit: the atoms, moov, and the file
abbrev pub sizes_in : Sizes → List Size
sizes_in s = limited 65536 s.parts ∷ (limited (2 ^ 26) s.moov ∷ (limited 9223372036854775807 s.len ∷ []))

-- ---- what is told

-- the tables of chunk places of all tracks, in file order
abbrev pub AreTables : List ℕ → List TableAt → Type 0
AreTables b ts = map rows_of ts ≡ row_tables b

-- an atom of a track that is opened, or a table of places of four bytes
abbrev pub holds_by : Place → Chunk → Bool
holds_by stbl c = is c (codes "stco")
holds_by p c = is_some (opens p c.id (take 4 c.body))

-- where it stands
pub record HolderAt : Type 0 where
  pub at : ℕ
  pub atom : Chunk

-- those that are met
abbrev pub holder_met : Step Place → List HolderAt
holder_met (chunk_at p at c) = if holds_by p c then record { at = at; atom = c } ∷ [] else []
holder_met (end_at p at stop) = []

-- an atom that a planner is told
pub record IsHolder (h : HolderAt) (k : AtomAt) : Type 0 where
  pub at : k.at ≡ h.at
  pub form : form_of k.form ≡ h.atom.form
  pub kind : k.kind ≡ four h.atom.id
  pub body : k.body.len ≡ length h.atom.body
  pub next : k.next ≡ h.at + length (spell h.atom)

-- each of some atoms is the one of the definitions
abbrev pub AreEach : List HolderAt → List AtomAt → Type 0
AreEach [] [] = Unit {0}
AreEach [] (k ∷ ks) = ⊥
AreEach (h ∷ hs) [] = ⊥
AreEach (h ∷ hs) (k ∷ ks) = IsHolder h k × AreEach hs ks

-- the atoms in which tables of four bytes stand, these among them, in reading order
abbrev pub AreHolders : List ℕ → List AtomAt → Type 0
AreHolders b ks = AreEach (flat_map holder_met (moov_steps (movie_of b))) ks

-- ---- an edit

-- An edit that breaks no basic rule, of which an item has an effect, and which makes neither carrier too large.
pub record IsCarried (b : List ℕ) (e : List EditItem) : Type 0 where
  pub accepted : IsAccepted mov_kind b e
  pub effect : 0 < length (effective (fields b) e)
  pub carriers : first_above (user_sizes (movie_of b) (changes b e).users
      ++ key_sizes (movie_of b) (changes b e).keys) ≡ None

-- What is known of a supported file and such an edit: where moov and the tables stand, and what the units come to.
pub record IsKnown (b : List ℕ) (e : List EditItem) (m : MoovAt) (ts : List TableAt) (u : Units) : Type 0 where
  pub bytes : IsBytes b
  pub moov : IsMoovOf b m
  pub tables : AreTables b ts
  pub units : outcome_in b u
      ≡ row (beyond_of (movie_of b)) (kids_at (movie_of b) (changes b e)) none (shapes false (edited_cells (movie_of b) (changes b e)))
  pub carried : IsCarried b e

-- ---- by their numbers alone, on every depot

-- The spans of the units stand in moov and the padding behind it, and are exact where the units fit, but that the last one may end
-- the file.
pub record StandsIn (m : MoovAt) (u : Units) : Type 0 where
  pub ascend : SpansAscend m.from u.cuts.items (m.end + m.behind.gap)
  pub fits : u.fits ≡ true → FitsIn m.len u.cuts.items

-- what an edit comes to by the numbers of its units, where tables grow by so many bytes
pub record IsSized (m : MoovAt) (u : Units) (grown : ℕ) (s : Sizes) : Type 0 where
  pub parts : s.parts ≡ m.others + u.parts
  pub body : s.body ≡ (u.inner + m.left) + grown
  pub moov : s.moov ≡ s.body + (m.from - m.at)
  pub len : s.len ≡ spliced_len m.len u.cuts.items + grown

-- One step of a walk over the atoms of a file, and what it is to the atoms of its bytes.
use Rattle.std.specs.Prelude.{◌≡◌, ℕ, ◌+◌, ◌≤◌, ◌<◌, List, [], length}
use Rattle.std.specs.declared.option.Option.{Option}
use Rattle.std.specs.declared.option.Option.TheVariants.{Some, None}
use Rattle.container_model.specs.Chunk.{Form, short, long, to_end, Chunk, Run, spell, ends, bad_header, passes, chunks, and_then, stopped}
use Rattle.container_model.specs.Sizes.{Level, top, inside, user, atom_front}
use Rattle.container_model.specs.Written.{slice}
use Rattle.container_model.specs.Windows.{window}
use Rattle.qt_atoms.specs.declared.header.Parent.{Parent}
use Rattle.qt_atoms.specs.declared.header.Parent.TheVariants.{File, Atom, UserData}
use Rattle.qt_atoms.specs.declared.header.SizeForm.{SizeForm}
use Rattle.qt_atoms.specs.declared.header.SizeForm.TheVariants.{Short, Long, ToEnd}
use Rattle.qt_atoms.specs.declared.walker.AtomAt.{AtomAt}
use Rattle.qt_atoms.specs.declared.walker.HeaderFault.{HeaderFault}
use Rattle.qt_atoms.specs.declared.walker.HeaderFault.TheVariants as header
use Rattle.qt_atoms.specs.declared.walker.AtomFault.{AtomFault}
use Rattle.qt_atoms.specs.declared.walker.AtomFault.TheVariants.{SizeSmall, Truncated, Depot}

-- how atoms are read in their parent
abbrev pub level_of : Parent → Level
level_of File = top
level_of Atom = inside
level_of UserData = user

-- the form of a header
abbrev pub form_of : SizeForm → Form
form_of Short = short
form_of Long = long
form_of ToEnd = to_end

-- how many bytes a header has
abbrev pub header_len : SizeForm → ℕ
header_len Short = 8
header_len Long = 16
header_len ToEnd = 8

-- the atom at a place of a file
abbrev pub atom_in : List ℕ → AtomAt → Chunk
atom_in b k = record { form = form_of k.form; id = k.kind.0; body = slice b k.body.at k.body.len; pad = [] }

-- the atoms that stand in a file from a place up to an end
abbrev pub row : Level → List ℕ → ℕ → ℕ → Run
row s b at end = chunks atom_front s (window b at end)

-- the places of an atom, one after the other
pub record InOrder (at end : ℕ) (k : AtomAt) : Type 0 where
  pub letters : length k.kind.0 ≡ 4
  pub begins : k.at ≡ at
  pub body : k.body.at ≡ at + header_len k.form
  pub behind : k.next ≡ k.body.at + k.body.len
  pub last : k.next ≤ end
  pub all : k.form ≡ ToEnd → k.next ≡ end

-- where a walker stands then
abbrev pub place_after : ℕ → Option AtomAt → ℕ
place_after at None = at
place_after at (Some k) = k.next

-- where no atom follows, fewer than eight bytes are left, but for the rest of user data
abbrev pub NoneLeft : Parent → ℕ → ℕ → Type 0
NoneLeft UserData at end = Unit {0}
NoneLeft _ at end = end < at + 8

-- one step: nothing more is read, or this atom and those from the next place on
abbrev pub Stepped : Level → List ℕ → ℕ → ℕ → Option AtomAt → Type 0
Stepped s b at end None = row s b at end ≡ stopped ends (window b at end)
Stepped s b at end (Some k) = (row s b at end ≡ and_then (atom_in b k) (row s b k.next end)) × (at + length (spell (atom_in b k)) ≡ k.next)

-- why no step is made: the header's size is none, or the atom passes the end
abbrev pub Stuck : Level → List ℕ → ℕ → ℕ → HeaderFault → Type 0
Stuck s b at end (header.SizeSmall p) = (row s b at end ≡ stopped bad_header (window b at end)) × (p ≡ at)
Stuck s b at end (header.Truncated p) = (row s b at end ≡ stopped passes (window b at end)) × (p ≡ at)

-- the same over a depot, which may also fail
abbrev pub StuckThere : Level → List ℕ → ℕ → ℕ → AtomFault → Type 0
StuckThere s b at end (SizeSmall p) = Stuck s b at end (header.SizeSmall p)
StuckThere s b at end (Truncated p) = Stuck s b at end (header.Truncated p)
StuckThere s b at end Depot = Unit {0}

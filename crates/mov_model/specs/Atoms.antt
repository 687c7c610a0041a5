-- The atoms that are opened, and padding (QuickTime File Format, atoms; what is opened is this project's own).
use Rattle.std.specs.Prelude.{Bool, List, None, Option, Some, codes, false, true, ℕ, ◌||◌}
use Rattle.std.specs.Str.{bytes_eq}
use Rattle.container_model.specs.Chunk.{Chunk}
use Rattle.container_model.specs.Deep.{Format}
use Rattle.container_model.specs.Sizes.{Level, atom_front, inside}
use Rattle.container_model.specs.Units.{Cell, gap, kept}

-- what an atom stands in
pub data Place : Type 0 where
  file : Place
  user_data : Place
  moov : Place
  trak : Place
  mdia : Place
  minf : Place
  stbl : Place
  dinf : Place

-- a place where a test holds
abbrev pub when : Bool → Place → Option Place
when true p = Some p
when false p = None

-- one place or another
abbrev pub either : Bool → Place → Option Place → Option Place
either true p other = Some p
either false p other = other

-- a track's atoms are opened in their usual nesting
abbrev pub opens : Place → List ℕ → List ℕ → Option Place
opens moov id word = when (bytes_eq id (codes "trak")) trak
opens trak id word = when (bytes_eq id (codes "mdia")) mdia
opens mdia id word = when (bytes_eq id (codes "minf")) minf
opens minf id word = either (bytes_eq id (codes "stbl")) stbl (when (bytes_eq id (codes "dinf")) dinf)
opens p id word = None

-- how atoms in moov are opened: nothing stands before their children
abbrev pub format : Format Place Level
format = record { opens = opens; prefix = λ p. 0; start = λ p. inside; front = atom_front }

-- the types of padding
abbrev pub is_padding : List ℕ → Bool
is_padding id = bytes_eq id (codes "free") || (bytes_eq id (codes "skip") || bytes_eq id (codes "wide"))

-- padding, or an atom that is kept
abbrev pub cell_by : Chunk → Bool → Cell
cell_by c true = gap c
cell_by c false = kept c

-- an atom of moov, before an edit
abbrev pub cell_of : Chunk → Cell
cell_of c = cell_by c (is_padding c.id)

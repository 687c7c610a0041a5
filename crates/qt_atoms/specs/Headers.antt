-- What the numbers of a header say of the atom at the front of some bytes.
use Rattle.std.specs.Prelude.{◌≡◌, ℕ, ◌+◌, ◌≤◌, List, length, take, drop}
use Rattle.std.specs.declared.option.Option.{Option}
use Rattle.std.specs.declared.option.Option.TheVariants.{Some, None}
use Rattle.std.specs.Int.{w32, w64, from_be_bytes}
use Rattle.container_model.specs.Chunk.{Header, too_short, no_header, past_end, full_header}
use Rattle.container_model.specs.Sizes.{Level, kind_at}
use Rattle.qt_atoms.specs.declared.header.Head.{Head}
use Rattle.qt_atoms.specs.declared.header.SizeForm.TheVariants.{ToEnd}
use Rattle.qt_atoms.specs.declared.header.Extent.{Extent}
use Rattle.qt_atoms.specs.declared.header.Extent.TheVariants.{Rest, Small, PastEnd, Whole}
use Rattle.qt_atoms.specs.Walk.{form_of, header_len}

-- the number in eight bytes behind the type, where they are there
abbrev pub HasWide : List ℕ → ℕ → Type 0
HasWide w m = 16 ≤ length w → m ≡ from_be_bytes w64 (take 8 (drop 8 w))

-- the numbers of the header at the front
pub record HasSize (w : List ℕ) (n m : ℕ) : Type 0 where
  pub size : n ≡ from_be_bytes w32 (take 4 w)
  pub wide : n ≡ 1 → HasWide w m

-- the first eight bytes, where they are there
pub record Begins (w : List ℕ) (head : Head) : Type 0 where
  pub enough : 8 ≤ length w
  pub size : head.size ≡ from_be_bytes w32 (take 4 w)
  pub kind : head.kind.0 ≡ kind_at w

abbrev pub BeginsWith : List ℕ → Option Head → Type 0
BeginsWith w None = Unit {0}
BeginsWith w (Some head) = Begins w head

-- the header of the definitions
abbrev pub header_from : Level → List ℕ → Extent → Header Level
header_from s w Rest = too_short
header_from s w Small = no_header
header_from s w PastEnd = past_end
header_from s w (Whole form len) = full_header (form_of form) (kind_at w) len (drop (header_len form) w) s

-- the header lies in the bytes that are left
abbrev pub FitsRoom : ℕ → Extent → Type 0
FitsRoom room (Whole form len) = (header_len form ≤ room) × (form ≡ ToEnd → header_len form + len ≡ room)
FitsRoom room _ = Unit {0}

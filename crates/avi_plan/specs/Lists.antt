-- A list of RIFF where spans in it are replaced: its size and its pad (RIFF; that a pad stays where the length stays even or odd is
-- this project's own).
use Rattle.std.specs.Prelude.{◌≤◌, ◌<◌, ◌^◌, ℕ, ◌+◌, ◌-◌, ◌%◌, ◌==◌, List, [], ◌∷◌, ◌++◌, Bool, ◌&&◌, ◌||◌, if◌then◌else◌}
use Rattle.std.specs.Int.{w32, to_le_bytes}
use Rattle.part_tree.specs.declared.names.Span.{Span}
use Rattle.unit_plan.specs.Sized.{spliced_len}
use Rattle.unit_plan.specs.declared.cut.CutAt.{CutAt}
use Rattle.avi_plan.specs.declared.list.ListAt.{ListAt}

-- whatever the file: the list has its type, and at most one byte of pad, which only an odd body has
pub record IsSoundList (l : ListAt) : Type 0 where
  pub typed : 4 ≤ l.size
  pub whole : l.at + 8 + l.size ≤ l.next
  pub padded : l.next ≤ l.at + 8 + l.size + l.size % 2
  pub small : l.next < 2 ^ 63

-- the length of its pad
abbrev pub pad_in : ListAt → ℕ
pad_in l = l.next - (l.at + 8 + l.size)

-- whether its pad stays with a body of so many bytes
abbrev pub keeps_pad : ListAt → ℕ → Bool
keeps_pad l n = (n % 2 == l.size % 2) || ((n % 2 == 0) && (l.next == l.at + 8 + l.size))

-- the span of its size
abbrev pub size_at : ListAt → ℕ → CutAt
size_at l n = record { span = record { at = l.at + 4; len = 4 }; bytes = to_le_bytes w32 n; keep = 0 }

-- where it changes
abbrev pub sizes_of : ListAt → ℕ → List CutAt
sizes_of l n = if l.size == n then [] else size_at l n ∷ []

-- the span of its pad, unless it stays
abbrev pub pads_of : ListAt → ℕ → List CutAt
pads_of l n =
    if keeps_pad l n then []
    else record { span = record { at = l.at + 8 + l.size; len = pad_in l }; bytes = if n % 2 == 1 then 0 ∷ [] else []; keep = 0 } ∷ []

-- spans in it, with those of its size and its pad round them
abbrev pub around : ListAt → ℕ → List CutAt → List CutAt
around l n ks = sizes_of l n ++ (ks ++ pads_of l n)

-- the length of its body with spans in it replaced, and all spans of it then
abbrev pub size_then : ListAt → List CutAt → ℕ
size_then l ks = spliced_len l.size ks

abbrev pub list_cuts : ListAt → List CutAt → List CutAt
list_cuts l ks = around l (size_then l ks) ks

-- whether it lacks its pad with a body of so many bytes
abbrev pub lacks_then : ListAt → ℕ → Bool
lacks_then l n = (l.size % 2 == 1) && ((n % 2 == 1) && (pad_in l == 0))

-- it behind its type
abbrev pub behind : ListAt → Span
behind l = record { at = l.at + 12; len = l.size - 4 }

-- how many bytes it has with a body of so many, with its header and pad
abbrev pub len_then : ListAt → ℕ → ℕ
len_then l n = n + (8 + (if keeps_pad l n then pad_in l else n % 2))

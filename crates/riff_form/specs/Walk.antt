-- One step of a walk over a file, and what it is to the chunks of its bytes.
use Rattle.std.specs.Prelude.{◌≡◌, ℕ, ◌+◌, ◌-◌, ◌%◌, ◌≤◌, min, List, length, drop}
use Rattle.std.specs.declared.option.Option.{Option}
use Rattle.std.specs.declared.option.Option.TheVariants.{Some, None}
use Rattle.container_model.specs.Chunk.{Form, riff, Chunk, too_short, full_header, Run, spell, ends, chunks, and_then, stopped, passes, pad_len}
use Rattle.container_model.specs.Sizes.{plain, Sizes, sized, riff_front}
use Rattle.container_model.specs.Written.{slice}
use Rattle.container_model.specs.Windows.{window}
use Rattle.riff_form.specs.declared.Head.{Head}
use Rattle.riff_form.specs.declared.ChunkAt.{ChunkAt}
use Rattle.riff_form.specs.declared.StepFault.{StepFault}
use Rattle.riff_form.specs.declared.StepFault.TheVariants.{Truncated, Depot}

-- what a header says of the front, whatever the sizes that no header holds
abbrev pub FrontIs : List ℕ → Option Head → Type 0
FrontIs w None = (s : Sizes) → riff_front s w ≡ too_short
FrontIs w (Some head) = (s : Sizes) → riff_front s w ≡ sized s head.id.0 head.field (drop 8 w)

-- the chunk at a place of a file
abbrev pub chunk_in : List ℕ → Form → ChunkAt → Chunk
chunk_in b form k = record { form = form; id = k.id.0; body = slice b k.body.at k.body.len; pad = slice b (k.body.at + k.body.len) (k.next - (k.body.at + k.body.len)) }

-- a form of header of RIFF
abbrev pub IsRiff : Form → Type 0
IsRiff form = (n : ℕ) → pad_len form n ≡ pad_len Form.riff n

-- One step: where the header of this chunk stands at the front, the chunks are this one, and those from the next place on.
abbrev pub Passed : List ℕ → ℕ → ℕ → ChunkAt → Type 0
Passed b at end k =
    (s next : Sizes) (form : Form) → IsRiff form → riff_front s (window b at end) ≡ full_header form k.id.0 k.body.len (drop 8 (window b at end)) next
    → chunks riff_front s (window b at end) ≡ and_then (chunk_in b form k) (chunks riff_front next (window b k.next end))

-- where a header of this size stands at the front, nothing is read
abbrev pub Cut : List ℕ → ℕ → ℕ → ℕ → Type 0
Cut b at end size =
    (s next : Sizes) (form : Form) (id : List ℕ) → riff_front s (window b at end) ≡ full_header form id size (drop 8 (window b at end)) next
    → chunks riff_front s (window b at end) ≡ stopped passes (window b at end)

-- ---- the chunks whose sizes are in their headers

-- what stands in a file from a place up to an end
abbrev pub row : List ℕ → ℕ → ℕ → Run
row b at end = chunks riff_front plain (window b at end)

-- the places of a chunk, one after the other
pub record InOrder (at end : ℕ) (k : ChunkAt) : Type 0 where
  pub letters : length k.id.0 ≡ 4
  pub begins : k.at ≡ at
  pub body : k.body.at ≡ at + 8
  pub whole : k.body.at + k.body.len ≤ k.next
  pub last : k.next ≤ end
  pub behind : k.next ≡ min end (k.body.at + k.body.len + k.body.len % 2)

-- where a walker stands then
abbrev pub place_after : ℕ → Option ChunkAt → ℕ
place_after at None = at
place_after at (Some k) = k.next

abbrev pub Stepped : List ℕ → ℕ → ℕ → Option ChunkAt → Type 0
Stepped b at end None = row b at end ≡ stopped ends (window b at end)
Stepped b at end (Some k) = (row b at end ≡ and_then (chunk_in b riff k) (row b k.next end)) × (at + length (spell (chunk_in b riff k)) ≡ k.next)

abbrev pub Stuck : List ℕ → ℕ → ℕ → StepFault → Type 0
Stuck b at end (Truncated p) = (row b at end ≡ stopped passes (window b at end)) × (p ≡ at)
Stuck b at end Depot = Unit {0}

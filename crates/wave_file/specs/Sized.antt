-- Where the sizes of chunks stand while the chunks of a form are read, and what is read next.
use Rattle.std.specs.Prelude.{◌≡◌, ℕ, ◌+◌, List, [], ◌∷◌, length, map, Bool, true, false, codes, Option, Some, None, Result, if◌then◌else◌}
use Rattle.std.specs.Str.{bytes_eq}
use Rattle.std.specs.declared.result.Result.TheVariants.{Ok, Err}
use Rattle.container_model.specs.Chunk.{full_header, no_header, Run, spell, ends, chunks, and_then, stopped}
use Rattle.container_model.specs.Sizes.{Row, Sizes, plain, table, first_row, sized, riff_front}
use Rattle.container_model.specs.Windows.{window}
use Rattle.part_tree.specs.declared.names.FourCc.{FourCc}
use Rattle.part_tree.specs.declared.why.ReadFault.{ReadFault}
use Rattle.part_tree.specs.declared.why.ReadFault.TheVariants.{Why, Depot, Memory}
use Rattle.riff_form.specs.Walk.{chunk_in}
use Rattle.rf64_ds64.specs.declared.Ds64.{Ds64}
use Rattle.rf64_ds64.specs.declared.RowMissing.{RowMissing}
use Rattle.rf64_ds64.specs.Ds64.{row_of}
use Rattle.wave_model.specs.Wave.{form_kind}
use Rattle.wave_model.specs.Why.{Seen, last_why}
use Rattle.wave_file.specs.declared.sizing.Sizing.{Sizing}
use Rattle.wave_file.specs.declared.sizing.Size.{Size}
use Rattle.wave_file.specs.declared.sizing.Found.{Found}

-- ---- the rows that are left when chunks of these identifiers took theirs

abbrev pub row_taken : List ℕ → List Row → List Row
row_taken id rows = elim (first_row id rows) [ None ↦ rows | Some found ↦ found.1 ]

-- The size of `data` stands in no row.
abbrev pub taken : List ℕ → Sizes → Sizes
taken id plain = plain
taken id (table main rows) = if bytes_eq id (codes "data") then table main rows else table main (row_taken id rows)

abbrev pub all_taken : List FourCc → Sizes → Sizes
all_taken [] s = s
all_taken (id ∷ ids) s = all_taken ids (taken id.0 s)

-- the sizes that `ds64` holds
abbrev pub sizes_in : Option Ds64 → Sizes
sizes_in None = plain
sizes_in (Some ds) = table ds.data_size (map row_of ds.rows)

-- where the sizes stand of the chunks that are left
abbrev pub state_of : Sizing → Sizes
state_of z = all_taken z.wides.items (sizes_in z.ds64)

abbrev pub state_next : Bool → List ℕ → Sizes → Sizes
state_next true id s = taken id s
state_next false id s = s

-- the header with this identifier and this field tells this size, or is none
abbrev pub TellsSize : Sizing → FourCc → ℕ → Result Size RowMissing → Type 0
TellsSize z id field (Ok size) = (after : List ℕ) → sized (state_of z) id.0 field after ≡ full_header (form_kind size.wide) id.0 size.len after (state_next size.wide id.0 (state_of z))
TellsSize z id field (Err fault) = ((after : List ℕ) → sized (state_of z) id.0 field after ≡ no_header) × (fault.id ≡ id)

-- ---- one step

-- what stands from a place up to an end
abbrev pub run_at : Sizes → List ℕ → ℕ → ℕ → Run
run_at s b at end = chunks riff_front s (window b at end)

-- how often an identifier is among others
abbrev pub times : List ℕ → List FourCc → ℕ
times id [] = 0
times id (other ∷ ids) = if bytes_eq id other.0 then times id ids + 1 else times id ids

-- where the walk stands then
abbrev pub place_found : ℕ → Option Found → ℕ
place_found at None = at
place_found at (Some found) = found.chunk.next

-- how many chunks were found
abbrev pub count_found : Option Found → ℕ
count_found None = 0
count_found (Some found) = 1

abbrev pub FoundAt : List ℕ → ℕ → ℕ → Sizing → Sizing → Option Found → Type 0
FoundAt b at end old new None = (run_at (state_of old) b at end ≡ stopped ends (window b at end)) × (state_of new ≡ state_of old)
FoundAt b at end old new (Some found) =
    (run_at (state_of old) b at end ≡ and_then (chunk_in b (form_kind found.wide) found.chunk) (run_at (state_of new) b found.chunk.next end))
    × (at + length (spell (chunk_in b (form_kind found.wide) found.chunk)) ≡ found.chunk.next)

-- no chunk is read there, and this is what is told of it, whatever was seen before
pub record IsStuck (run : Run) (at : ℕ) (w : Rattle.part_tree.specs.declared.why.Why.Why) : Type 0 where
  pub none : run.chunks ≡ []
  pub told : (seen : Seen) → last_why run.stop run.left at seen ≡ Some w

abbrev pub StuckAt : List ℕ → ℕ → ℕ → Sizing → ReadFault → Type 0
StuckAt b at end old (Why w) = IsStuck (run_at (state_of old) b at end) at w
StuckAt b at end old Depot = Unit {0}
StuckAt b at end old Memory = Unit {0}

-- what a step answers
abbrev pub StepsAt : List ℕ → ℕ → ℕ → Sizing → Sizing → Result (Option Found) ReadFault → Type 0
StepsAt b at end old new (Ok found) = FoundAt b at end old new found
StepsAt b at end old new (Err fault) = StuckAt b at end old fault

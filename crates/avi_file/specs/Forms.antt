-- The forms of a file as they are read: the first one, those behind it, and the tail.
use Rattle.std.specs.Prelude.{◌≡◌, ℕ, ◌+◌, List, [], ◌∷◌, ◌++◌, length, map, drop, Bool, true, false, not, codes, Option, Some, None, Result}
use Rattle.std.specs.declared.result.Result.TheVariants.{Ok, Err}
use Rattle.std.specs.List.{flat_map}
use Rattle.part_tree.specs.declared.why.ReadFault.{ReadFault}
use Rattle.part_tree.specs.declared.why.ReadFault.TheVariants.{Why, Depot, Memory}
use Rattle.part_tree.specs.declared.why.Why.TheVariants.{UnknownKind}
use Rattle.container_model.specs.Chunk.{Chunk, Run, riff, full_header, too_short, and_then, stopped, ends, passes, spell, chunks}
use Rattle.container_model.specs.Stood.{stood, bare}
use Rattle.container_model.specs.Tests.{first}
use Rattle.carrier_model.specs.Info.{list_run}
use Rattle.riff_form.specs.declared.ChunkAt.{ChunkAt}
use Rattle.riff_form.specs.declared.StepFault.{StepFault}
use Rattle.riff_form.specs.declared.StepFault.TheVariants as fault
use Rattle.riff_form.specs.Walk.{chunk_in}
use Rattle.avi_model.specs.Avi.{avi_front, avi_of, forms, strls}
use Rattle.avi_model.specs.Map.{further_parts, parts_of, form_spans}
use Rattle.avi_model.specs.Reading.{form_at, further_steps, named_reading}
use Rattle.avi_model.specs.Support.{begins}
use Rattle.avi_model.specs.Why.{Test, steps_tests, list_tests}
use Rattle.avi_file.specs.Walk.{Told, both, run_told, plain_told, top_told, behind_type, ReadAll, has_hdrl}
use Rattle.avi_file.specs.declared.form.Forms.{Forms}
use Rattle.avi_file.specs.declared.kind.Inside.TheVariants.{Further}
use Rattle.avi_file.specs.declared.top.Top.{Top}

-- ---- one form

-- the forms from a place on, where the first is `AVI ` or `AVIX`
abbrev pub forms_from : Bool → List ℕ → ℕ → Run
forms_from s b at = chunks avi_front s (drop at b)

-- what is found of the header of a form: its size
abbrev pub SizeAt : Bool → List ℕ → ℕ → Option ℕ → Type 0
SizeAt s b at None = avi_front s (drop at b) ≡ too_short
SizeAt s b at (Some n) = avi_front s (drop at b) ≡ full_header riff (codes "RIFF") n (drop 8 (drop at b)) false

-- what is found of a form
abbrev pub FormAt : Bool → List ℕ → ℕ → Option ChunkAt → Type 0
FormAt s b at None = (avi_front s (drop at b) ≡ too_short) × (forms_from s b at ≡ stopped ends (drop at b))
FormAt s b at (Some k) =
    (avi_front s (drop at b) ≡ full_header riff (codes "RIFF") k.body.len (drop 8 (drop at b)) false)
    × (forms_from s b at ≡ and_then (chunk_in b riff k) (forms_from false b k.next)) × (at + length (spell (chunk_in b riff k)) ≡ k.next)

-- no form is read there
abbrev pub CutAt : Bool → List ℕ → ℕ → StepFault → Type 0
CutAt s b at (fault.Truncated p) = (avi_front s (drop at b) ≡ too_short → ⊥) × (forms_from s b at ≡ stopped passes (drop at b)) × (p ≡ at)
CutAt s b at fault.Depot = Unit {0}

abbrev pub FindsForm : Bool → List ℕ → ℕ → Result (Option ChunkAt) StepFault → Type 0
FindsForm s b at (Ok found) = FormAt s b at found
FindsForm s b at (Err e) = CutAt s b at e

-- ---- what is told of forms

-- a form, without its chunks
abbrev pub form_told : ℕ → Chunk → Told
form_told at c = record { steps = form_at (record { at = at; chunk = bare c }) ∷ []; parts = []; streams = [] }

-- a further form
abbrev pub further_told : ℕ → Chunk → Told
further_told at c = both (form_told at c) (run_told (plain_told Further) (at + 12) (list_run c))

-- further forms
abbrev pub others_told : ℕ → List Chunk → Told
others_told at cs = record { steps = flat_map further_steps (stood at cs); parts = further_parts at cs; streams = [] }

-- the first form
abbrev pub first_told : Chunk → Told
first_told c = both (form_told 0 c) (run_told (top_told false false) 12 (list_run c))

-- the whole file
abbrev pub file_told : List ℕ → Told
file_told b = record { steps = named_reading b; parts = parts_of b; streams = map behind_type (strls (avi_of b)) }

-- ---- what is answered

-- the tests of the forms: the kind, then each form with its chunks, then the lists that must be there
abbrev pub front_tests : List ℕ → List Test
front_tests b = (not (begins b), UnknownKind) ∷ (steps_tests 0 (named_reading b) ++ list_tests (avi_of b))

-- the first of them, without the lists that must be there
abbrev pub form_tests : List ℕ → List Test
form_tests b = (not (begins b), UnknownKind) ∷ steps_tests 0 (named_reading b)

-- the first form was read
pub record FirstRead (b : List ℕ) (k : ChunkAt) (old new : Top) : Type 0 where
  pub kind : begins b ≡ true
  pub run : forms b ≡ and_then (chunk_in b riff k) (forms_from false b k.next)
  pub next : length (spell (chunk_in b riff k)) ≡ k.next
  pub all : ReadAll (first_told (chunk_in b riff k)) old.reading new.reading
  pub hdrl : new.hdrl ≡ has_hdrl (list_run (chunk_in b riff k)).chunks

abbrev pub ReadsFirst : List ℕ → Top → Top → Result ChunkAt ReadFault → Type 0
ReadsFirst b old new (Ok k) = FirstRead b k old new
ReadsFirst b old new (Err (Why w)) = first (form_tests b) ≡ Some w
ReadsFirst b old new (Err Depot) = Unit {0}
ReadsFirst b old new (Err Memory) = Unit {0}

-- all forms were read
pub record AreForms (b : List ℕ) (f : Forms) : Type 0 where
  pub tests : first (front_tests b) ≡ None
  pub parts : f.top.reading.parts.items ≡ parts_of b
  pub streams : f.top.reading.streams.items ≡ map behind_type (strls (avi_of b))
  pub spans : f.forms.items ≡ form_spans b

abbrev pub ReadsForms : List ℕ → Result Forms ReadFault → Type 0
ReadsForms b (Ok f) = AreForms b f
ReadsForms b (Err (Why w)) = first (front_tests b) ≡ Some w
ReadsForms b (Err Depot) = Unit {0}
ReadsForms b (Err Memory) = Unit {0}

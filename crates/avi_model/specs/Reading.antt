-- An AVI file as it is read: each form with its chunks in order, and those of the lists that are opened, depth first.
use Rattle.std.specs.Prelude.{ℕ, ◌+◌, List, [], ◌∷◌, ◌++◌, length, Bool, true, false, ◌&&◌, ◌||◌, not, codes, if◌then◌else◌}
use Rattle.std.specs.List.{flat_map}
use Rattle.container_model.specs.Chunk.{Stop, spell_all}
use Rattle.container_model.specs.Stood.{Stood, stood}
use Rattle.carrier_model.specs.Info.{is_type, list_run}
use Rattle.carrier_model.specs.Names.{is_name}
use Rattle.avi_model.specs.Avi.{forms, kids}

-- A form is met, or a chunk: of a list of fields, and of a field that is a chunk, it is said that it is one. Or the chunks of a form or a list end, or the forms: where, and what ends them.
pub data Step : Type 0 where
  form_at : Stood → Step
  part_at : Bool → Stood → Step
  end_at : ℕ → Stop → Step

-- the end of the chunks of a list
abbrev pub list_end : Stood → Step
list_end x = end_at (x.at + 12 + length (spell_all (list_run x.chunk).chunks)) (list_run x.chunk).stop

-- a chunk that is not opened
abbrev pub part_of : Stood → List Step
part_of x = part_at false x ∷ []

-- the chunks of a list or a form in which nothing is opened, and their end
abbrev pub flat_steps : Stood → List Step
flat_steps x = flat_map part_of (kids x) ++ list_end x ∷ []

-- in hdrl each strl is opened, and met in these steps
abbrev pub stream_steps_by : (Stood → List Step) → Stood → List Step
stream_steps_by strl x = part_at false x ∷ (if is_type (codes "strl") x.chunk then strl x else [])

-- the chunks of hdrl
abbrev pub hdrl_steps_by : (Stood → List Step) → Stood → List Step
hdrl_steps_by strl x = flat_map (stream_steps_by strl) (kids x) ++ list_end x ∷ []

-- in the first form the first hdrl is opened, and each list of fields
abbrev pub inside_steps_by : (Stood → List Step) → Bool → Bool → Stood → List Step
inside_steps_by strl true info x = hdrl_steps_by strl x
inside_steps_by strl false true x = flat_steps x
inside_steps_by strl false false x = []

-- a list of fields
abbrev pub is_info : Stood → Bool
is_info x = is_type (codes "INFO") x.chunk

-- the chunks of the first form
abbrev pub top_steps_by : (Stood → List Step) → Bool → List Stood → List Step
top_steps_by strl seen [] = []
top_steps_by strl seen (x ∷ xs) =
    part_at (is_info x) x
    ∷ (inside_steps_by strl (not seen && is_type (codes "hdrl") x.chunk) (is_info x) x ++ top_steps_by strl (seen || is_type (codes "hdrl") x.chunk) xs)

-- the first form
abbrev pub first_steps_by : (Stood → List Step) → Stood → List Step
first_steps_by strl x = form_at x ∷ (top_steps_by strl false (kids x) ++ list_end x ∷ [])

-- a further form
abbrev pub further_steps : Stood → List Step
further_steps x = form_at x ∷ flat_steps x

-- all forms
abbrev pub form_steps_by : (Stood → List Step) → List Stood → List Step
form_steps_by strl [] = []
form_steps_by strl (x ∷ xs) = first_steps_by strl x ++ flat_map further_steps xs

-- what is met when a file is read
abbrev pub reading_by : (Stood → List Step) → List ℕ → List Step
reading_by strl b = form_steps_by strl (stood 0 (forms b).chunks) ++ end_at (length (spell_all (forms b).chunks)) (forms b).stop ∷ []

-- ---- nothing in a stream's list is a field

abbrev pub stream_steps : Stood → List Step
stream_steps x = stream_steps_by flat_steps x

abbrev pub hdrl_steps : Stood → List Step
hdrl_steps x = hdrl_steps_by flat_steps x

abbrev pub inside_steps : Bool → Bool → Stood → List Step
inside_steps hdrl info x = inside_steps_by flat_steps hdrl info x

abbrev pub top_steps : Bool → List Stood → List Step
top_steps seen xs = top_steps_by flat_steps seen xs

abbrev pub first_steps : Stood → List Step
first_steps x = first_steps_by flat_steps x

abbrev pub form_steps : List Stood → List Step
form_steps xs = form_steps_by flat_steps xs

abbrev pub reading : List ℕ → List Step
reading b = reading_by flat_steps b

-- ---- the names of a stream are fields

-- a chunk of a stream's list: of a name it is said that it is one
abbrev pub name_part : Stood → List Step
name_part x = part_at (is_name x.chunk) x ∷ []

-- the chunks of a stream's list
abbrev pub name_steps : Stood → List Step
name_steps x = flat_map name_part (kids x) ++ list_end x ∷ []

abbrev pub named_reading : List ℕ → List Step
named_reading b = reading_by name_steps b

-- how many chunks are met
abbrev pub parts_in : Step → ℕ
parts_in (form_at x) = 0
parts_in (part_at info x) = 1
parts_in (end_at at stop) = 0

-- how many chunks are met in these steps
abbrev pub parts_met : List Step → ℕ
parts_met [] = 0
parts_met (s ∷ ss) = parts_in s + parts_met ss

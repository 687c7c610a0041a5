-- How a batch ends: each file as the edit of it alone ends, whatever befalls the others (this project's own).
use Rattle.std.specs.Prelude.{◌≡◌, ◌⊎◌, ℕ, ◌+◌, ◌<◌, ◌≤◌, true, IsTrue, IsSome, List, [], ◌∷◌, length, get_or, drop, map, codes, Option, Some, None, Ok, Err, ⊤, Result, IfOk, IfErr, OnOk, IfSome, if◌then◌else◌}
use Rattle.std.specs.Io.KnownBytes.{Appends}
use Rattle.me_bytes.specs.Bytes.{IsBytes}
use Rattle.me_disk.specs.Causes.{Rose}
use Rattle.me_disk.specs.Disk.{Disk, Image, Leaves, bytes_of, read_as}
use Rattle.me_disk.specs.Steps.{ReadsOnly}
use Rattle.edit_journal.specs.Settled.{IsDamaged}
use Rattle.part_tree.specs.declared.field.EditItem.{EditItem}
use Rattle.part_tree.specs.declared.field.RuleSet.TheVariants.{Base}
use Rattle.part_tree.specs.declared.names.Kind.TheVariants.{Wave}
use Rattle.part_tree.specs.declared.plan.Plan.{Plan}
use Rattle.part_tree.specs.Plans.{Belongs}
use Rattle.field_model.specs.KindReads.{IsPlanOf}
use Rattle.file_swap.specs.Midway.{Midway, Phase}
use Rattle.file_swap.specs.Steps.{calls}
use Rattle.file_swap.specs.Swap.{Swapping}
use Rattle.turn_batch.specs.Members.{failed_in, fresh_member}
use Rattle.me_report.specs.declared.line.Summary.{Summary}
use Rattle.recovery.specs.Recovered.{bytes_to_redo}
use Rattle.recovery.specs.Redo.{SettlesAlike}
use Rattle.edit_planner.specs.Kinds.{model_in}
use Rattle.metaedit_top.specs.declared.batch_end.BatchOutcome.{BatchOutcome}
use Rattle.metaedit_top.specs.declared.batch_end.BatchOutcome.TheVariants as batch
use Rattle.metaedit_top.specs.declared.batch_end.FileEnd.{FileEnd}
use Rattle.metaedit_top.specs.declared.batch_end.FileEnd.TheVariants as end
use Rattle.metaedit_top.specs.declared.outcome.Prepared.{Prepared}
use Rattle.metaedit_top.specs.declared.outcome.Stop.{Stop}
use Rattle.metaedit_top.specs.declared.outcome.Stop.TheVariants as stop
use Rattle.metaedit_top.specs.declared.words.Command.TheVariants as command
use Rattle.metaedit_top.specs.declared.words.Request.{Request}
use Rattle.metaedit_top.specs.declared.batch.Started.{Started}
use Rattle.metaedit_top.specs.declared.batch_text.FileTexts.{FileTexts}
use Rattle.metaedit_top.specs.BatchText.{AreTextsOf, end_of, name_text}
use Rattle.metaedit_top.specs.BatchWords.{BatchParts, batch_parts}
use Rattle.metaedit_top.specs.Changed.{IsFresh, IsLine, IsPrepared, OnSwap}
use Rattle.metaedit_top.specs.Answered.{AcceptsWords, Because, DoneWith, MayStandOf}
use Rattle.metaedit_top.specs.Run.{HasSettled, IsOneStop, LeavesAt, OnFile, OneImage, Stops}
use Rattle.metaedit_top.specs.Told.{summary}
use Rattle.metaedit_top.specs.Words.{Text, edit_of, request}

-- ---- one file

-- the words that ask for the edit of one file alone
abbrev pub set_words : Text → Text → List Text
set_words item file = codes "set" ∷ file ∷ item ∷ []

-- How a file ended: as a run of these words on it alone, which reads no table.
abbrev pub EndsAs : List Text → Disk → Disk → FileEnd → Type 0
EndsAs words old new (end.Done s) = DoneWith words None old new (λ q o. s ≡ summary q o)
EndsAs words old new end.NoFile = Because words None old new stop.NoFile
EndsAs words old new (end.JournalDamaged at) = Because words None old new (stop.Damaged at)
EndsAs words old new (end.NotSupported w) = Because words None old new (stop.NotSupported w)
EndsAs words old new (end.RuleBroken b) = Because words None old new (stop.RuleBroken b)
EndsAs words old new (end.TooLarge size limit) = Because words None old new (stop.TooLarge size limit)
EndsAs words old new (end.DepotFault n) = (n ≡ new.faults) × Because words None old new stop.Depot
EndsAs words old new end.Memory = Because words None old new stop.Memory

-- after a device fault the depot has to be opened anew; else what it reads as is again its one image
abbrev pub IsOneEnd : FileEnd → Disk → Type 0
IsOneEnd (end.DepotFault n) new = ⊤
IsOneEnd _ new = OneImage new

-- nothing was found
abbrev pub FindsNothing : FileEnd → Type 0
FindsNothing (end.Done s) = s.findings ≡ 0
FindsNothing _ = ⊤

-- the edit came to its end, or there was no memory
abbrev pub FinishesFile : FileEnd → Type 0
FinishesFile (end.Done s) = ⊤
FinishesFile end.Memory = ⊤
FinishesFile _ = ⊥

-- What a crash at any moment leaves of a file whose one image at the start was what its depot read as, and what holds of
-- it at any end.
pub record KeepsFile (words : List Text) (old new : Disk) : Type 0 where
  pub any_moment : OneImage old → (i : Image) → new.since old.clock i → MayStandOf words None old i
  pub damaged : IsTrue old.tells → IsDamaged (read_as old.slots) → ReadsOnly old new
  pub tells : new.tells ≡ old.tells

-- how many calls the edit of a file needs: those of a plan that makes its new file, in place exactly where it has room
pub record NeedsCalls (words : List Text) (old : Disk) (P : Plan → ℕ → List ℕ → Type 0) : Type 0 where
  pub asked : Request
  pub is : request words ≡ Ok asked
  pub plan : Plan
  pub needs : OnFile old (λ o. IsBytes o → IsPlanOf (model_in o) o asked.edit plan × P plan (calls plan) o)

-- a file that was edited within so many rounds needs at most so many calls
abbrev pub EndsWithin : List Text → Option ℕ → Disk → FileEnd → Type 0
EndsWithin words (Some r) old (end.Done s) = s.changed ≡ true → NeedsCalls words old (λ p n o. n ≤ r)
EndsWithin words rounds old _ = ⊤

-- A file that has its end. That the new file stands alone is told by `ends`, by which it stands, and by `again`: where what
-- the depot read as at the start was its one image, it is so again.
pub record EndsFile (words : List Text) (rounds : Option ℕ) (old new : Disk) (e : FileEnd) : Type 0 where
  pub ends : EndsAs words old new e
  pub finds : FindsNothing e
  pub again : OneImage old → IsOneEnd e new
  pub keeps : KeepsFile words old new
  pub within : EndsWithin words rounds old e
  pub complete : AcceptsWords words None old → (Rose old.faults new.faults → ⊥) → FinishesFile e

-- So many of a plan's calls were made; and where what the depot read as at the start was its one image, each image that a
-- crash now may leave is one after them.
pub record IsMidway (p : Plan) (o : List ℕ) (k : ℕ) (old new : Disk) : Type 0 where
  pub made : Midway p o k new
  pub images : OneImage old → (i : Image) → new.images i → Phase p o k i

-- A file whose edit goes on after so many rounds: so many of its calls were made, and some are left.
pub record GoesOn (words : List Text) (rounds : ℕ) (old new : Disk) : Type 0 where
  pub midway : NeedsCalls words old (λ p n o. IsMidway p o rounds old new × (rounds < n))
  pub keeps : KeepsFile words old new

-- a file that has its end, or goes on after so many rounds where these are a number
abbrev pub EndsOrGoesOn : List Text → Option ℕ → Disk → Disk → Option FileEnd → Type 0
EndsOrGoesOn words rounds old new (Some e) = EndsFile words rounds old new e
EndsOrGoesOn words (Some r) old new None = GoesOn words r old new
EndsOrGoesOn words None old new None = ⊥

-- A file that wasn't edited: at most a journal that stood beside it was redone.
pub record StaysOld (old new : Disk) : Type 0 where
  pub crash : OneImage old → Leaves (SettlesAlike (read_as old.slots)) old new
  pub damaged : IsTrue old.tells → IsDamaged (read_as old.slots) → ReadsOnly old new
  pub tells : new.tells ≡ old.tells
  pub later : old.faults ≤ new.faults
  pub written : IsTrue old.tells → new.written ≤ old.written + bytes_to_redo (read_as old.slots)

-- ---- all files

-- this holds of each file, its depot before and after, and its end
pub record OfEach {D E : Type 0} (disk : D → Disk) (files : List Text) (before after : List D) (ends : List E)
    (P : Text → Disk → Disk → E → Type 0) : Type 0 where
  pub depots : length after ≡ length before
  pub counted : length ends ≡ length files
  pub each : (i : ℕ) (d : D) (e : E) → i < length files
      → P (get_or files i []) (disk (get_or before i d)) (disk (get_or after i d)) (get_or ends i e)

-- each depot, before and after
pub record OfDepots {D : Type 0} (disk : D → Disk) (before after : List D)
    (P : Disk → Disk → Type 0) : Type 0 where
  pub depots : length after ≡ length before
  pub each : (i : ℕ) (d : D) → i < length before → P (disk (get_or before i d)) (disk (get_or after i d))

-- the words are those of a batch with these parts, of which this holds
pub record OfBatch (words : List Text) (P : BatchParts → Type 0) : Type 0 where
  pub parts : BatchParts
  pub is : batch_parts words ≡ Some parts
  pub holds : P parts

-- each file has its end
abbrev pub EachEnds : {D : Type 0} → (D → Disk) → BatchParts → Option ℕ → List D → List D → List FileEnd → Type 0
EachEnds disk p rounds before after ends =
    OfEach disk p.files before after ends (λ file old new e. EndsFile (set_words p.item file) rounds old new e)

-- each file has its end or goes on, and one goes on
pub record SomeGoOn {D : Type 0} (disk : D → Disk) (p : BatchParts) (rounds : Option ℕ) (before after : List D)
    (ends : List (Option FileEnd)) : Type 0 where
  pub each : OfEach disk p.files before after ends
      (λ file old new e. EndsOrGoesOn (set_words p.item file) rounds old new e)
  pub at : ℕ
  pub inside : at < length ends
  pub goes_on : get_or ends at (Some end.Memory) ≡ None

-- the ends that each outcome tells
abbrev pub OnRan : BatchOutcome → (List FileEnd → Type 0) → Type 0
OnRan (batch.Ran ends) P = P ends.items
OnRan _ P = ⊤

abbrev pub OnOutFault : BatchOutcome → (List FileEnd → Type 0) → Type 0
OnOutFault (batch.OutFault ends) P = P ends.items
OnOutFault _ P = ⊤

abbrev pub OnStopped : BatchOutcome → (List (Option FileEnd) → Type 0) → Type 0
OnStopped (batch.Stopped ends) P = P ends.items
OnStopped _ P = ⊤

-- the batch came to its end, or there was no memory, or so many rounds were made
abbrev pub FinishesBatch : Option ℕ → BatchOutcome → Type 0
FinishesBatch rounds (batch.Ran ends) = ⊤
FinishesBatch rounds (batch.Stopped ends) = IsSome rounds
FinishesBatch rounds batch.Memory = ⊤
FinishesBatch rounds (batch.Usage fault) = ⊥
FinishesBatch rounds (batch.OutFault ends) = ⊥

-- the batch wrote to its output
abbrev pub prints : BatchOutcome → Type 0
prints (batch.Ran ends) = ⊤
prints (batch.OutFault ends) = ⊤
prints _ = ⊥

-- ---- before the first round

-- what the edit of one file of a batch asks for
abbrev pub file_request : List EditItem → Text → Request
file_request e file =
    record { command = command.Set; file = file; rules = Base; format = None; edit = e; kind = Wave; n = 0 }

-- The file is settled, and its edit is ready.
pub record IsReadied (q : Request) (old new : Disk) (p : Prepared) : Type 0 where
  pub settled : HasSettled old new
  pub ready : IsTrue old.tells → IsBytes (bytes_of new.slots.main)
      → IsPrepared q.rules q.edit (bytes_of new.slots.main) p
  pub fresh : OnSwap p.swap IsFresh
  pub belongs : IsTrue old.tells → OnSwap p.swap (λ s. Belongs s.plan (bytes_of new.slots.main))
  pub told : IsLine p.finished

-- What is left of a file that is settled and made ready, or why it isn't.
pub record Readies (q : Request) (old new : Disk) (r : Result Prepared Stop) : Type 0 where
  pub stays : StaysOld old new
  pub since : OneImage old → (i : Image) → new.since old.clock i → SettlesAlike (read_as old.slots) i
  pub ready : IfOk r (IsReadied q old new)
  pub stops : IfErr r (Stops q old new)
  pub leaves : IfErr r (LeavesAt q old new)
  pub again_done : OneImage old → OnOk r (OneImage new)
  pub again : OneImage old → IfErr r (λ s. IsOneStop s new)

-- the end that an answer gives, where the device doesn't fail from there on
abbrev pub end_in : Result Prepared Stop → ℕ → FileEnd
end_in (Ok p) n = end.Done p.finished.summary
end_in (Err s) n = end_of s n

-- and the swap that edits the file
abbrev pub swap_in : Result Prepared Stop → Option Swapping
swap_in (Ok p) = p.swap
swap_in (Err s) = None

-- One file before the first round: its end where its device doesn't fail from there on, and the swap that edits it.
pub record Begun (q : Request) (old new : Disk) (e : FileEnd) (swap : Option Swapping) : Type 0 where
  pub answer : Result Prepared Stop
  pub readied : Readies q old new answer
  pub end_is : e ≡ end_in answer new.faults
  pub swap_is : swap ≡ swap_in answer

-- the end of a file behind the last round
abbrev pub end_behind : Option Swapping → ℕ → FileEnd → FileEnd
end_behind swap n e = if failed_in swap then end.DepotFault n else e

-- the texts of a file and the ends of all, before the first round
pub record BegunTexts (files : List Text) (ends : List FileEnd) (texts : List FileTexts) : Type 0 where
  pub names : map (λ t. t.name) texts ≡ map name_text files
  pub lines : AreTextsOf texts ends

-- All files before the first round.
pub record BegunAll {D : Type 0} (disk : D → Disk) (e : List EditItem) (files : List Text) (before after : List D)
    (ends : List FileEnd) (swaps : List (Option Swapping)) : Type 0 where
  pub depots : length after ≡ length before
  pub counted : length ends ≡ length files
  pub swapped : length swaps ≡ length files
  pub each : (i : ℕ) (d : D) (x : FileEnd) → i < length files
      → Begun (file_request e (get_or files i [])) (disk (get_or before i d)) (disk (get_or after i d))
      (get_or ends i x) (get_or swaps i None)

-- What is started of a batch.
pub record StartsBatch {D : Type 0} (disk : D → Disk) (p : BatchParts) (before after : List D)
    (s : Started) : Type 0 where
  pub edit : List EditItem
  pub is : edit_of (p.item ∷ []) ≡ Ok edit
  pub swaps : List (Option Swapping)
  pub members : s.batch ≡ map fresh_member swaps
  pub begun : BegunAll disk edit p.files before after s.ends.items swaps
  pub texts : BegunTexts p.files s.ends.items s.texts.items
  pub left : length s.left.items ≡ length p.files

-- What a batch prints, the line that it writes of itself, and its status (this project's own).
use Rattle.std.specs.Prelude.{ℕ, Bool, true, false, if◌then◌else◌, List, [], ◌∷◌, ◌++◌, length, count_by, codes, decimal, take, Option, Some, None, ◌≡◌, ⊤, OnOk, OnErr, Result}
use Rattle.std.specs.List.{list_all}
use Rattle.std.specs.Io.KnownBytes.{Appends}
use Rattle.me_disk.specs.declared.stream.SinkFault.{SinkFault}
use Rattle.me_disk.specs.Causes.{CountsFaults}
use Rattle.me_report.specs.Done.{done_line}
use Rattle.escapes.specs.Escapes.{escaped}
use Rattle.metaedit_top.specs.declared.batch_end.BatchOutcome.{BatchOutcome}
use Rattle.metaedit_top.specs.declared.batch_end.BatchOutcome.TheVariants as batch
use Rattle.metaedit_top.specs.declared.batch_end.FileEnd.{FileEnd}
use Rattle.metaedit_top.specs.declared.batch_end.FileEnd.TheVariants as end
use Rattle.metaedit_top.specs.declared.batch_text.FileTexts.{FileTexts}
use Rattle.metaedit_top.specs.declared.outcome.Outcome.{Outcome}
use Rattle.metaedit_top.specs.declared.outcome.Outcome.TheVariants as outcome
use Rattle.metaedit_top.specs.declared.outcome.Stop.{Stop}
use Rattle.metaedit_top.specs.declared.outcome.Stop.TheVariants as stop
use Rattle.metaedit_top.specs.Text.{line, status}
use Rattle.metaedit_top.specs.Words.{Text}

-- ---- the end of a file

-- what an edit of the file alone answers
abbrev pub outcome_of : FileEnd → Outcome
outcome_of (end.Done s) = outcome.Done s
outcome_of end.NoFile = outcome.NoFile
outcome_of (end.JournalDamaged at) = outcome.JournalDamaged at
outcome_of (end.NotSupported w) = outcome.NotSupported w
outcome_of (end.RuleBroken b) = outcome.RuleBroken b
outcome_of (end.TooLarge size limit) = outcome.TooLarge size limit
outcome_of (end.DepotFault n) = outcome.DepotFault n
outcome_of end.Memory = outcome.Memory

-- the end of a file whose edit stops so, where its device has counted so many faults; no edit finds a file that is to be
-- made
abbrev pub end_of : Stop → ℕ → FileEnd
end_of stop.Depot n = end.DepotFault n
end_of stop.NoFile n = end.NoFile
end_of stop.FileThere n = end.Memory
end_of (stop.Damaged at) n = end.JournalDamaged at
end_of (stop.NotSupported w) n = end.NotSupported w
end_of (stop.RuleBroken b) n = end.RuleBroken b
end_of (stop.TooLarge size limit) n = end.TooLarge size limit
end_of stop.Memory n = end.Memory

-- whether the edit came to its end
abbrev pub is_done : FileEnd → Bool
is_done (end.Done s) = true
is_done _ = false

-- ---- the report

-- the line of an end: that of an edit that is done, or that of the refusal
abbrev pub end_line : FileEnd → List ℕ
end_line (end.Done s) = done_line s
end_line e = line (outcome_of e)

-- the word of a file with escapes, and a blank
abbrev pub name_text : Text → List ℕ
name_text file = escaped file ++ codes " "

-- the line of a file: its word with escapes, a blank, and the line of its end
abbrev pub file_line : Text → FileEnd → List ℕ
file_line file e = name_text file ++ end_line e

-- the lines of the files
abbrev pub file_lines : List Text → List FileEnd → List ℕ
file_lines (file ∷ files) (e ∷ ends) = file_line file e ++ file_lines files ends
file_lines _ _ = []

-- how many are done
abbrev pub done_count : List FileEnd → ℕ
done_count ends = count_by is_done ends

-- the last line
abbrev pub last_line : ℕ → ℕ → List ℕ
last_line files done = codes "files " ++ (decimal files ++ (codes " done " ++ (decimal done ++ codes "\n")))

-- what a batch prints
abbrev pub batch_text : List Text → List FileEnd → List ℕ
batch_text files ends = file_lines files ends ++ last_line (length ends) (done_count ends)

-- What a sink has gained: the text, and after a fault a front of it.
pub record Printed (text : List ℕ) (before after : Option (List ℕ)) (old new : ℕ)
    (r : Result Unit SinkFault) : Type 0 where
  pub ok : OnOk r (Appends before after text)
  pub err : OnErr r ((n : ℕ) × Appends before after (take n text))
  pub silent : before ≡ None → after ≡ None
  pub cause : CountsFaults old new r

-- ---- the status and the line

-- the status of each outcome
abbrev pub batch_status : BatchOutcome → ℕ
batch_status (batch.Ran ends) = if list_all is_done ends.items then 0 else 1
batch_status (batch.Usage fault) = status (outcome.Usage fault)
batch_status (batch.OutFault ends) = 11
batch_status (batch.Stopped ends) = 15
batch_status batch.Memory = status outcome.Memory

-- the line of each outcome; none where every file has its end and the report is printed
abbrev pub batch_line : BatchOutcome → List ℕ
batch_line (batch.Ran ends) = []
batch_line (batch.Usage fault) = line (outcome.Usage fault)
batch_line (batch.OutFault ends) = codes "refused 11 OutFault\n"
batch_line (batch.Stopped ends) = codes "refused 15 Stopped\n"
batch_line batch.Memory = line outcome.Memory

-- ---- the texts of the files, taken before the edits

-- how many faults a device had counted that failed
abbrev pub fault_count : FileEnd → Option ℕ
fault_count (end.DepotFault n) = Some n
fault_count _ = None

-- the texts' line is that of the end, but where its device failed
abbrev pub IsTextOf : FileTexts → FileEnd → Type 0
IsTextOf t e = fault_count e ≡ None → t.line ≡ end_line e

-- the same of all files
abbrev pub AreTextsOf : List FileTexts → List FileEnd → Type 0
AreTextsOf [] [] = ⊤
AreTextsOf (t ∷ ts) (e ∷ ends) = IsTextOf t e × AreTextsOf ts ends
AreTextsOf _ _ = ⊥

-- the lines by the texts
abbrev pub texts_lines : List FileTexts → List FileEnd → List ℕ
texts_lines (t ∷ ts) (e ∷ ends) = (t.name ++ end_line e) ++ texts_lines ts ends
texts_lines _ _ = []

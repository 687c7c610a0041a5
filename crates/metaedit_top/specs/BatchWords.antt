-- The words of a batch: one item, and the files that it is to be set in (this project's own).
use Rattle.std.specs.Prelude.{ℕ, ◌+◌, Bool, true, false, not, ◌&&◌, ◌==◌, nat_le, if◌then◌else◌, List, [], ◌∷◌, ◌++◌, length, Option, Some, None, Result, Ok, Err, codes, bytes_eq}
use Rattle.std.specs.List.{list_any, list_all}
use Rattle.part_tree.specs.declared.field.EditItem.{EditItem}
use Rattle.metaedit_top.specs.declared.batch_words.BatchWords.{BatchWords}
use Rattle.metaedit_top.specs.declared.outcome.UsageFault.{UsageFault}
use Rattle.metaedit_top.specs.declared.outcome.UsageFault.TheVariants as fault
use Rattle.metaedit_top.specs.Words.{Text, is_dashed, is_file, item}

-- the words begin with `batch`
abbrev pub is_batch : List Text → Bool
is_batch [] = false
is_batch (word ∷ words) = bytes_eq word (codes "batch")

-- one item, and the files
pub record BatchParts : Type 0 where
  pub item : Text
  pub files : List Text

-- 1 to 64 words, each the name of a file
abbrev pub are_files : List Text → Bool
are_files files = not (length files == 0) && (nat_le (length files) 64 && list_all is_file files)

-- the parts of the words behind `batch`, where they have its form
abbrev pub batch_form : List Text → Option BatchParts
batch_form [] = None
batch_form (word ∷ files) =
    if is_dashed word then None else (if are_files files then Some (record { item = word; files = files }) else None)

-- the parts of the words of a batch
abbrev pub batch_parts : List Text → Option BatchParts
batch_parts [] = None
batch_parts (word ∷ words) = if bytes_eq word (codes "batch") then batch_form words else None

-- what is wrong with an item that is read
abbrev pub fault_in : Result EditItem UsageFault → Option UsageFault
fault_in (Ok i) = None
fault_in (Err fault) = Some fault

-- the number of the first file that is named by the word of an earlier one, counted from n
abbrev pub same_from : ℕ → List Text → List Text → Option ℕ
same_from n seen [] = None
same_from n seen (file ∷ files) =
    if list_any (λ word. bytes_eq word file) seen then Some n else same_from (n + 1) (seen ++ file ∷ []) files

-- the number of files, where nothing is wrong with the item and each file is named once
abbrev pub counted : List Text → Option UsageFault → Option ℕ → Result ℕ UsageFault
counted files (Some fault) same = Err fault
counted files None (Some n) = Err (fault.SameFile n)
counted files None None = Ok (length files)

-- the number of files of some parts
abbrev pub files_in : Option BatchParts → Result ℕ UsageFault
files_in None = Err fault.Words
files_in (Some p) = counted p.files (fault_in (item 1 p.item)) (same_from 1 [] p.files)

-- the number of files of a batch, or the first thing that is wrong with its words
abbrev pub batch_files : List Text → Result ℕ UsageFault
batch_files words = files_in (batch_parts words)

-- the parts that were read
abbrev pub batch_in : BatchWords → BatchParts
batch_in p = record { item = p.item.now; files = p.files.now }

-- The line that the program writes of a run, and the status that it ends with (this project's own).
use Rattle.std.specs.Prelude.{ℕ, List, [], ◌++◌, codes, decimal, Bool, true, false, if◌then◌else◌, ◌==◌}
use Rattle.part_tree.specs.declared.field.Broken.{Broken}
use Rattle.part_tree.specs.declared.why.Why.{Why}
use Rattle.part_tree.specs.declared.why.Why.TheVariants as why
use Rattle.part_tree.specs.Names.{named_rule}
use Rattle.field_model.specs.Texts.{name_text}
use Rattle.escapes.specs.Escapes.{escaped}
use Rattle.me_report.specs.Lines.{or_nothing}
use Rattle.metaedit_top.specs.declared.outcome.Outcome.{Outcome}
use Rattle.core_table.specs.declared.fault.TableFault.{TableFault}
use Rattle.core_table.specs.declared.fault.TableFault.TheVariants as table
use Rattle.metaedit_top.specs.declared.outcome.Outcome.TheVariants.{Done, Usage, TableReadFault, DepotFault, NoFile, FileThere, JournalDamaged, NotSupported, RuleBroken, TooLarge, OutFault, Memory}
use Rattle.metaedit_top.specs.declared.outcome.Outcome.TheVariants as outcome
use Rattle.metaedit_top.specs.declared.outcome.UsageFault.{UsageFault}
use Rattle.metaedit_top.specs.declared.outcome.UsageFault.TheVariants.{NoCommand, UnknownCommand, Words, Value, Item, Field, Twice, SameFile}
use Rattle.metaedit_top.specs.declared.text.Told.{Told}
use Rattle.metaedit_top.specs.declared.text.Told.TheVariants.{Nothing, Number, Numbers, Letters, LettersAnd}

-- the status of each outcome
abbrev pub status : Outcome → ℕ
status (Done s) = if s.findings == 0 then 0 else 1
status (Usage fault) = 2
status NoFile = 3
status (JournalDamaged at) = 4
status (NotSupported why) = 5
status (outcome.TableFault fault) = 6
status (RuleBroken broken) = 7
status (TooLarge size limit) = 8
status (DepotFault n) = 9
status TableReadFault = 10
status (OutFault edited) = 11
status Memory = 12
status FileThere = 13

-- what is told beside a name: numbers in decimal, identifiers with escapes
abbrev pub told_words : Told → List ℕ
told_words Nothing = []
told_words (Number n) = codes " " ++ decimal n
told_words (Numbers m n) = codes " " ++ (decimal m ++ (codes " " ++ decimal n))
told_words (Letters id) = codes " " ++ escaped id.0
told_words (LettersAnd id n) = codes " " ++ (escaped id.0 ++ (codes " " ++ decimal n))

-- the name of a fault of the words
abbrev pub usage_name : UsageFault → List ℕ
usage_name NoCommand = codes "NoCommand"
usage_name UnknownCommand = codes "UnknownCommand"
usage_name Words = codes "Words"
usage_name Value = codes "Value"
usage_name (Item n) = codes "Item"
usage_name (Field n) = codes "Field"
usage_name (Twice n) = codes "Twice"
usage_name (SameFile n) = codes "SameFile"

-- and the number of the item
abbrev pub usage_told : UsageFault → Told
usage_told (Item n) = Number n
usage_told (Field n) = Number n
usage_told (Twice n) = Number n
usage_told (SameFile n) = Number n
usage_told _ = Nothing

-- the name of a fault of a table
abbrev pub table_name : TableFault → List ℕ
table_name table.Long = codes "Long"
table_name table.NoHeader = codes "NoHeader"
table_name (table.UnknownColumn n) = codes "UnknownColumn"
table_name (table.TwiceColumn n) = codes "TwiceColumn"
table_name (table.RowLength row) = codes "RowLength"
table_name (table.NotUtf8 row) = codes "NotUtf8"
table_name (table.BadEscape row col) = codes "BadEscape"
table_name table.NoRow = codes "NoRow"
table_name (table.TwoRows first second) = codes "TwoRows"
table_name (table.Line n) = codes "Line"
table_name table.Memory = codes "Memory"

-- and its numbers
abbrev pub table_told : TableFault → Told
table_told (table.UnknownColumn n) = Number n
table_told (table.TwiceColumn n) = Number n
table_told (table.RowLength row) = Number row
table_told (table.NotUtf8 row) = Number row
table_told (table.BadEscape row col) = Numbers row col
table_told (table.TwoRows first second) = Numbers first second
table_told (table.Line n) = Number n
table_told _ = Nothing

-- the name of a reason for which a file is refused
abbrev pub why_name : Why → List ℕ
why_name why.UnknownKind = codes "UnknownKind"
why_name why.NotBuilt = codes "NotBuilt"
why_name (why.Truncated at) = codes "Truncated"
why_name why.NoFmt = codes "NoFmt"
why_name (why.ShortFmt len) = codes "ShortFmt"
why_name why.TwoFmt = codes "TwoFmt"
why_name why.BlockZero = codes "BlockZero"
why_name why.NoData = codes "NoData"
why_name why.TwoData = codes "TwoData"
why_name why.NoDs64 = codes "NoDs64"
why_name (why.ShortDs64 len) = codes "ShortDs64"
why_name (why.RowMissing id) = codes "RowMissing"
why_name (why.ShortBext len) = codes "ShortBext"
why_name why.TwoBext = codes "TwoBext"
why_name (why.CarrierBig id len) = codes "CarrierBig"
why_name why.TooManyParts = codes "TooManyParts"
why_name why.NoHdrl = codes "NoHdrl"
why_name why.NoMovi = codes "NoMovi"
why_name (why.IndexKind at) = codes "IndexKind"
why_name (why.IndexShort at) = codes "IndexShort"
why_name (why.IndexPlace at) = codes "IndexPlace"
why_name (why.IndexOverlap at) = codes "IndexOverlap"
why_name (why.IndexAstray at entry) = codes "IndexAstray"
why_name why.IndexBase = codes "IndexBase"
why_name (why.SizeSmall at) = codes "SizeSmall"
why_name why.NoMoov = codes "NoMoov"
why_name why.TwoMoov = codes "TwoMoov"
why_name (why.MoovBig len) = codes "MoovBig"
why_name why.Compressed = codes "Compressed"
why_name why.Reference = codes "Reference"
why_name (why.Fragments at) = codes "Fragments"
why_name (why.External track) = codes "External"
why_name (why.OtherOffsets track) = codes "OtherOffsets"
why_name (why.TableTwice track) = codes "TableTwice"
why_name (why.TableShort at) = codes "TableShort"
why_name (why.ChunkAstray track chunk) = codes "ChunkAstray"

-- and its places, lengths, numbers and identifiers
abbrev pub why_told : Why → Told
why_told (why.Truncated at) = Number at
why_told (why.ShortFmt len) = Number len
why_told (why.ShortDs64 len) = Number len
why_told (why.RowMissing id) = Letters id
why_told (why.ShortBext len) = Number len
why_told (why.CarrierBig id len) = LettersAnd id len
why_told (why.IndexKind at) = Number at
why_told (why.IndexShort at) = Number at
why_told (why.IndexPlace at) = Number at
why_told (why.IndexOverlap at) = Number at
why_told (why.IndexAstray at entry) = Numbers at entry
why_told (why.SizeSmall at) = Number at
why_told (why.MoovBig len) = Number len
why_told (why.Fragments at) = Number at
why_told (why.External track) = Number track
why_told (why.OtherOffsets track) = Number track
why_told (why.TableTwice track) = Number track
why_told (why.TableShort at) = Number at
why_told (why.ChunkAstray track chunk) = Numbers track chunk
why_told _ = Nothing

-- a truth value in words
abbrev pub truth_words : Bool → List ℕ
truth_words true = codes "true"
truth_words false = codes "false"

-- words, what is told beside them, and LF
abbrev pub told_line : List ℕ → Told → List ℕ
told_line words told = words ++ (told_words told ++ codes "\n")

-- the line of a broken rule
abbrev pub rule_line : Broken → List ℕ
rule_line b = codes "refused 7 " ++ (named_rule b.rule ++ (codes " " ++ (or_nothing (name_text b.field) ++ codes "\n")))

-- the line of each outcome: `refused`, its status, its name, and its numbers and identifiers; none where the run is
-- done
abbrev pub line : Outcome → List ℕ
line (Done s) = []
line (Usage fault) = told_line (codes "refused 2 Usage " ++ usage_name fault) (usage_told fault)
line TableReadFault = codes "refused 10 TableReadFault\n"
line (outcome.TableFault fault) = told_line (codes "refused 6 TableFault " ++ table_name fault) (table_told fault)
line NoFile = codes "refused 3 NoFile\n"
line FileThere = codes "refused 13 FileThere\n"
line (JournalDamaged at) = told_line (codes "refused 4 JournalDamaged") (Number at)
line (NotSupported w) = told_line (codes "refused 5 NotSupported " ++ why_name w) (why_told w)
line (RuleBroken broken) = rule_line broken
line (TooLarge size limit) = told_line (codes "refused 8 TooLarge") (Numbers size limit)
line (DepotFault n) = told_line (codes "refused 9 DepotFault") (Number n)
line (OutFault edited) = codes "refused 11 OutFault " ++ (truth_words edited ++ codes "\n")
line Memory = codes "refused 12 Memory\n"

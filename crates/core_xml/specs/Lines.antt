-- The lines of a Core table in XML (this project's own).
use Rattle.std.specs.Prelude.{ℕ, ◌-◌, List, length, take, drop, Bool, ◌==◌, nat_lt, Option, Some, None, if◌then◌else◌, codes}
use Rattle.std.specs.List.{position_or_len}
use Rattle.std.specs.Str.{bytes_eq}
use Rattle.part_tree.specs.declared.field.Change.TheVariants.{Set, Remove}
use Rattle.core_xml.specs.Markup.{begins, text_of}
use Rattle.core_xml.specs.declared.line.FieldLine.{FieldLine}

-- ---- what stands round a text

-- what stands behind a beginning, if the text has it
abbrev pub behind : List ℕ → List ℕ → Option (List ℕ)
behind front text = if begins front text then Some (drop (length front) text) else None

-- what stands before an end, if the text has it
abbrev pub before : List ℕ → List ℕ → Option (List ℕ)
before back text =
    if nat_lt (length text) (length back) then None
    else (if bytes_eq (drop (length text - length back) text) back then Some (take (length text - length back) text) else None)

abbrev pub before_of : List ℕ → Option (List ℕ) → Option (List ℕ)
before_of back None = None
before_of back (Some text) = before back text

-- what stands between a beginning and an end, if the text has both
abbrev pub between : List ℕ → List ℕ → List ℕ → Option (List ℕ)
between front back text = before_of back (behind front text)

abbrev pub is_quote : ℕ → Bool
is_quote x = x == 34

-- ---- the lines

-- `<?xml version="1.0" encoding="UTF-8"?>`
abbrev pub declaration : List ℕ
declaration = codes "<?xml version=\"1.0\" encoding=\"UTF-8\"?>\n"

abbrev pub table_begin : List ℕ
table_begin = codes "<Core>\n"

abbrev pub table_end : List ℕ
table_end = codes "</Core>\n"

abbrev pub block_end : List ℕ
block_end = codes "</File>\n"

-- the text that was written, if some was
abbrev pub text_in : Option (List ℕ) → Option (List ℕ)
text_in None = None
text_in (Some text) = text_of text

-- the file that the line `<File name="..">` names
abbrev pub file_line : List ℕ → Option (List ℕ)
file_line line = text_in (between (codes "<File name=\"") (codes "\">\n") line)

-- a field and the text that it is set to; no field is set to an empty text
abbrev pub set_to : Option (List ℕ) → Option (List ℕ) → Option FieldLine
set_to (Some name) (Some text) = if length text == 0 then None else Some (record { name = name; change = Set text })
set_to _ _ = None

-- the name and the text, from what stands round the `">` between them
abbrev pub set_line : List ℕ → Option FieldLine
set_line inner =
    let end = position_or_len is_quote inner in
    set_to (text_of (take end inner)) (text_in (behind (codes "\">") (drop end inner)))

abbrev pub removed : Option (List ℕ) → Option FieldLine
removed None = None
removed (Some name) = Some (record { name = name; change = Remove })

abbrev pub remove_line : List ℕ → Option FieldLine
remove_line name = removed (text_of name)

abbrev pub set_in : Option (List ℕ) → Option (List ℕ) → Option FieldLine
set_in (Some inner) name = set_line inner
set_in None (Some name) = remove_line name
set_in None None = None

-- what the line `<Field name="..">..</Field>` or `<Remove name=".."/>` says of a field
abbrev pub field_line : List ℕ → Option FieldLine
field_line line = set_in (between (codes "<Field name=\"") (codes "</Field>\n") line) (between (codes "<Remove name=\"") (codes "\"/>\n") line)

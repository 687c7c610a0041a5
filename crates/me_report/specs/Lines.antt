-- Lines of a report, each with its LF.
use Rattle.std.specs.Prelude.{ℕ, List, [], ◌++◌, false, Option, Some, None, decimal, codes}
use Rattle.field_model.specs.Numbers.{hex_text}

-- a word and a number in decimal
abbrev pub count_line : List ℕ → ℕ → List ℕ
count_line word n = word ++ (decimal n ++ codes "\n")

-- a word and the hexadecimal digits of bytes in lower case
abbrev pub hex_line : List ℕ → List ℕ → List ℕ
hex_line word raw = word ++ (hex_text false raw ++ codes "\n")

-- a text, no bytes where there is none
abbrev pub or_nothing : Option (List ℕ) → List ℕ
or_nothing None = []
or_nothing (Some text) = text

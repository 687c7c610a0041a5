-- The lines of broken rules (this project's own).
use Rattle.std.specs.Prelude.{ℕ, List, ◌++◌, length, codes}
use Rattle.std.specs.List.{flat_map}
use Rattle.part_tree.specs.declared.field.Broken.{Broken}
use Rattle.part_tree.specs.Names.{named_rule}
use Rattle.field_model.specs.Texts.{name_text}
use Rattle.me_report.specs.Lines.{count_line, or_nothing}

-- the rule and the field that breaks it
abbrev pub finding_line : Broken → List ℕ
finding_line b = codes "rule " ++ (named_rule b.rule ++ (codes " " ++ (or_nothing (name_text b.field) ++ codes "\n")))

-- a line for each finding, and their number
abbrev pub findings_text : List Broken → List ℕ
findings_text broken = flat_map finding_line broken ++ count_line (codes "findings ") (length broken)

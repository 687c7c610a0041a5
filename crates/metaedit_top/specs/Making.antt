-- The words of a file that is to be made (this project's own).
use Rattle.std.specs.Prelude.{ℕ, List, [], ◌∷◌, Bool, ◌&&◌, nat_lt, nat_le, Option, Some, None, codes, bytes_eq, if◌then◌else◌}
use Rattle.part_tree.specs.declared.names.Kind.{Kind}
use Rattle.part_tree.specs.declared.names.Kind.TheVariants.{Wave, Avi, Mov}
use Rattle.field_model.specs.Numbers.{count_of}
use Rattle.me_generate.specs.Stated.{limit_of}
use Rattle.metaedit_top.specs.declared.making.Making.{Making}

-- the kind that a word names, of which files are made
abbrev pub kind_of : List ℕ → Option Kind
kind_of word =
    if bytes_eq word (codes "wave") then Some Wave
    else (if bytes_eq word (codes "avi") then Some Avi
    else (if bytes_eq word (codes "mov") then Some Mov
    else None))

-- the file of that kind and number, where there is one
abbrev pub file_of : Kind → ℕ → Option Making
file_of kind n = if nat_lt 0 n && nat_le n (limit_of kind) then Some (record { kind = kind; n = n }) else None

-- the same, where both are named
abbrev pub making_by : Option Kind → Option ℕ → Option Making
making_by (Some kind) (Some n) = file_of kind n
making_by _ _ = None

-- the file that two words ask for, a kind and a decimal number without leading zeros from 1 to the kind's limit
abbrev pub making_of : List (List ℕ) → Option Making
making_of (kind ∷ number ∷ []) = making_by (kind_of kind) (count_of number)
making_of _ = None

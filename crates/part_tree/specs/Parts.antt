-- Rests: bytes at the end of a parent that are no chunk, and the tail of a file, as parts without a name (this project's own).
use Rattle.std.specs.Prelude.{ℕ, suc, ◌+◌, List, [], ◌∷◌, length}
use Rattle.part_tree.specs.Letters.{four}
use Rattle.part_tree.specs.declared.part.Part.{Part}
use Rattle.part_tree.specs.declared.part.Role.{Role}
use Rattle.part_tree.specs.declared.part.Role.TheVariants.{Rest}

-- so many bytes at a place as a rest
abbrev pub rest_part : ℕ → ℕ → Part
rest_part at len = record { id = four (0 ∷ 0 ∷ 0 ∷ 0 ∷ []); at = at; body = record { at = at; len = len }; next = at + len; role = Rest }

-- a rest, if there are bytes
abbrev pub rest_parts : ℕ → List ℕ → List Part
rest_parts at [] = []
rest_parts at (x ∷ b) = rest_part at (length (x ∷ b)) ∷ []

-- a rest isn't counted as a part
abbrev pub count_role : Role → ℕ
count_role Rest = 0
count_role _ = 1

-- how many parts are counted
abbrev pub count_parts : List Part → ℕ
count_parts [] = 0
count_parts (p ∷ ps) = count_role p.role + count_parts ps

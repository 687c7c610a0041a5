use Rattle.std.proofs.Common.{List, Option, Some, None, ℕ, ◌≡◌, ◌∙◌, [], ◌∷◌, refl}
use Rattle.std.specs.Option.{option_to_list}
use Rattle.qt_keys.specs.Table.{table_bytes}
use Rattle.qt_keys.proofs.Growth.{grows}
use Rattle.qt_keys.proofs.Found.{read_well}
use Rattle.qt_keys.proofs.Keyed.{key_is_set, others_stay, read_set}
use Rattle.qt_keys.proofs.keys_are_set.Goals as goal

listed : (raw : Option (List ℕ)) → elim raw [ None ↦ [] | Some r ↦ r ∷ [] ] ≡ option_to_list raw
listed None = refl
listed (Some r) = refl

pub returns-clause-set : goal.returns-clause-set
returns-clause-set c = λ name raw t r. key_is_set name raw t (read_well (table_bytes t) t r.bytes r.read) ∙ listed raw

pub returns-clause-others : goal.returns-clause-others
returns-clause-others c = λ other name raw t n r. others_stay other name raw t n (read_well (table_bytes t) t r.bytes r.read)

pub returns-clause-read : goal.returns-clause-read
returns-clause-read c = read_set

pub returns-clause-longer : goal.returns-clause-longer
returns-clause-longer c = grows

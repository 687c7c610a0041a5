-- The cells of a record, one by one.
use Rattle.std.proofs.Common.{◌≡◌, ℕ, zero, suc, ◌+◌, ◌<◌, List, [], ◌∷◌, length, get_or, drop, Bool, ◌&&◌, Option, Some, None, refl, ap, ◌∙◌}
use Rattle.std.specs.List.{list_all}
use Rattle.std.proofs.lemmas.List.{at_drop_more}
use Rattle.csv.specs.Records.{field_at}

abbrev some_or : List ℕ → Option (List ℕ) → List ℕ
some_or d None = d
some_or d (Some c) = c

-- the cell at a place, or none past the last one
pub cell_or : (cells : List (List ℕ)) (k : ℕ) → some_or [] (field_at cells k) ≡ get_or cells k []
unfolding field_at
cell_or [] zero = refl
cell_or [] (suc k) = refl
cell_or (c ∷ cells) zero = refl
cell_or (c ∷ cells) (suc k) = cell_or cells k

pub cell_there : (cells : List (List ℕ)) (k : ℕ) (c : List ℕ) → Some c ≡ field_at cells k → c ≡ get_or cells k []
cell_there cells k c e = ap (some_or []) e ∙ cell_or cells k

pub cell_none : (cells : List (List ℕ)) (k : ℕ) → None ≡ field_at cells k → [] ≡ get_or cells k []
cell_none cells k e = ap (some_or []) e ∙ cell_or cells k

-- a test of all cells, one cell further
pub all_step : (p : List ℕ → Bool) (cells : List (List ℕ)) (k : ℕ) → k < length cells → list_all p (drop k cells) ≡ (p (get_or cells k []) && list_all p (drop (k + 1) cells))
all_step p cells k inside = at_drop_more (list_all p) cells k [] inside

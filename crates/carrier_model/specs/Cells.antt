-- Changes of a list of chunks, and the same changes on cells, which remember what stood where.
use Rattle.std.specs.Prelude.{ℕ, suc, List, [], ◌∷◌, ◌++◌, Bool, true, false, ◌||◌, if◌then◌else◌}
use Rattle.container_model.specs.Chunk.{Chunk}
use Rattle.container_model.specs.Units.{Cell, kept, gap, edited}

-- what a chunk becomes
pub data Change : Type 0 where
  leave : Change
  become : List Chunk → Change

-- the chunks that stand in its place
abbrev pub changed : Change → Chunk → List Chunk
changed leave c = c ∷ []
changed (become cs) c = cs

-- the same, as a cell
abbrev pub changed_cell : Change → Chunk → Cell
changed_cell leave c = kept c
changed_cell (become cs) c = edited (c ∷ []) cs

-- The chunks that meet a test are counted, and each of them changes by its number, from 0.
abbrev pub change_at : (Chunk → Bool) → (ℕ → Chunk → Change) → ℕ → Chunk → Change
change_at p f n c = if p c then f n c else leave

-- how many met the test up to a chunk
abbrev pub counted : (Chunk → Bool) → ℕ → Chunk → ℕ
counted p n c = if p c then suc n else n

-- how many met the test up to the end of a list
abbrev pub count_all : (Chunk → Bool) → ℕ → List Chunk → ℕ
count_all p n [] = n
count_all p n (c ∷ cs) = count_all p (counted p n c) cs

-- each chunk of a list that meets the test, changed by its number
abbrev pub settle : (Chunk → Bool) → (ℕ → Chunk → Change) → ℕ → List Chunk → List Chunk
settle p f n [] = []
settle p f n (c ∷ cs) = changed (change_at p f n c) c ++ settle p f (counted p n c) cs

-- the same of cells: padding stays, and what was edited before is changed again
abbrev pub settle_cells : (Chunk → Bool) → (ℕ → Chunk → Change) → ℕ → List Cell → List Cell
settle_cells p f n [] = []
settle_cells p f n (kept c ∷ xs) = changed_cell (change_at p f n c) c ∷ settle_cells p f (counted p n c) xs
settle_cells p f n (gap c ∷ xs) = gap c ∷ settle_cells p f n xs
settle_cells p f n (edited old now ∷ xs) = edited old (settle p f n now) ∷ settle_cells p f (count_all p n now) xs

-- Where a new chunk stands: directly behind or before the first one whose identifier and body meet a test, or last where
-- there is none.
abbrev pub Test : Type 0
Test = List ℕ → List ℕ → Bool

-- a test that no chunk meets
abbrev pub never : Test
never id body = false

-- on which side of the chunk that is found
pub data Side : Type 0 where
  behind : Side
  before : Side

-- whether a chunk meets a test
abbrev pub meets : Test → Chunk → Bool
meets t c = t c.id c.body

-- whether one of a list does
abbrev pub some_meets : Test → List Chunk → Bool
some_meets t [] = false
some_meets t (c ∷ cs) = meets t c || some_meets t cs

-- two things in their order, the second one being there already
abbrev pub beside : {X : Type 0} → Side → X → X → List X
beside behind c d = d ∷ c ∷ []
beside before c d = c ∷ d ∷ []

-- a chunk put into a list
abbrev pub insert : Side → Test → Chunk → List Chunk → List Chunk
insert s t c [] = c ∷ []
insert s t c (d ∷ ds) = if meets t d then beside s c d ++ ds else d ∷ insert s t c ds

-- padding alone
abbrev pub only_gaps : List Cell → Bool
only_gaps [] = true
only_gaps (kept c ∷ xs) = false
only_gaps (gap c ∷ xs) = only_gaps xs
only_gaps (edited old now ∷ xs) = false

-- a place where nothing stood
abbrev pub new_cell : Chunk → Cell
new_cell c = edited [] (c ∷ [])

-- A chunk that stands last has only padding behind it.
abbrev pub insert_cell : Side → Test → Chunk → List Cell → List Cell
insert_cell s t c [] = new_cell c ∷ []
insert_cell s t c (kept d ∷ xs) = if meets t d then beside s (new_cell c) (kept d) ++ xs else kept d ∷ insert_cell s t c xs
insert_cell s t c (gap d ∷ xs) = if only_gaps xs then new_cell c ∷ (gap d ∷ xs) else gap d ∷ insert_cell s t c xs
insert_cell s t c (edited old now ∷ xs) = if some_meets t now then edited old (insert s t c now) ∷ xs else edited old now ∷ insert_cell s t c xs

-- A part of an edit: nothing, a change of chunks that are there, or a new chunk.
pub data Act : Type 0 where
  nothing : Act
  change : (Chunk → Bool) → (ℕ → Chunk → Change) → Act
  add : Side → Test → Chunk → Act

-- what a part of an edit makes of chunks
abbrev pub acted : Act → List Chunk → List Chunk
acted nothing cs = cs
acted (change p f) cs = settle p f 0 cs
acted (add s t c) cs = insert s t c cs

-- and of cells
abbrev pub acted_cells : Act → List Cell → List Cell
acted_cells nothing xs = xs
acted_cells (change p f) xs = settle_cells p f 0 xs
acted_cells (add s t c) xs = insert_cell s t c xs

-- What a planner makes of the two carriers in `moov`, by their bytes (this project's own).
use Rattle.std.specs.Prelude.{◌≡◌, ◌≤◌, ◌<◌, ◌^◌, ◌+◌, ◌++◌, ℕ, suc, List, [], ◌∷◌, length, codes, Option, Some, None, Result, if◌then◌else◌}
use Rattle.std.specs.declared.result.Result.TheVariants.{Ok, Err}
use Rattle.part_tree.specs.Large.{Size, first_above, limited}
use Rattle.part_tree.specs.declared.field.Value.{Value}
use Rattle.container_model.specs.Atoms.{is}
use Rattle.container_model.specs.Chunk.{Chunk}
use Rattle.container_model.specs.Items.{Item}
use Rattle.mov_model.specs.Large.{key_sizes, user_sizes}
use Rattle.mov_model.specs.Movie.{movie_of}
use Rattle.qt_atoms.specs.Walk.{atom_in}
use Rattle.qt_atoms.specs.declared.header.SizeForm.{SizeForm}
use Rattle.qt_atoms.specs.declared.walker.AtomAt.{AtomAt}
use Rattle.qt_keys.specs.Read.{key_table}
use Rattle.qt_keys.specs.declared.table.KeyTable.{KeyTable}
use Rattle.mov_plan.specs.Carry.{IsKeyStep, IsNew, IsUserStep, cells_of}
use Rattle.mov_plan.specs.declared.bodies.CarryFault.{CarryFault}
use Rattle.mov_plan.specs.declared.bodies.CarryFault.TheVariants.{Depot, Memory, TooLarge}
use Rattle.mov_plan.specs.declared.moov_carriers.Carries.{Carries}
use Rattle.mov_plan.specs.declared.carry.Carry.{Carry}
use Rattle.mov_plan.specs.declared.carry.Carry.TheVariants.{Becomes, Comes, Stays}
use Rattle.mov_plan.specs.declared.carry.NewAtom.{NewAtom}
use Rattle.mov_plan.specs.declared.key_carry.TableFound.{TableFound}

-- the body of an atom ends by a place
abbrev pub EndsBy : ℕ → AtomAt → Type 0
EndsBy end k = k.body.at + k.body.len ≤ end

-- ---- one atom

-- An atom with a body of at most 16 MiB, or how many bytes that has where they are more.
abbrev pub IsMade : Chunk → Result NewAtom CarryFault → Type 0
IsMade c (Ok now) = IsNew now c × (length c.body ≤ 2 ^ 24)
IsMade c (Err (TooLarge size)) = (size ≡ length c.body) × (2 ^ 24 < size)
IsMade c (Err Depot) = Unit {0}
IsMade c (Err Memory) = Unit {0}

-- the same of one that there may be
abbrev pub IsFresh : Option Chunk → Result (Option NewAtom) CarryFault → Type 0
IsFresh new (Ok None) = new ≡ None
IsFresh new (Ok (Some now)) = (c : Chunk) × ((new ≡ Some c) × IsNew now c × (length c.body ≤ 2 ^ 24))
IsFresh new (Err (TooLarge size)) = (c : Chunk) × ((new ≡ Some c) × (size ≡ length c.body) × (2 ^ 24 < size))
IsFresh new (Err Depot) = Unit {0}
IsFresh new (Err Memory) = Unit {0}

-- the atom with a number becomes it
abbrev pub becomes : ℕ → Result NewAtom CarryFault → Result Carry CarryFault
becomes k (Ok now) = Ok (Becomes k now)
becomes k (Err fault) = Err fault

-- it is new, or nothing is done
abbrev pub comes : Result (Option NewAtom) CarryFault → Result Carry CarryFault
comes (Ok None) = Ok Stays
comes (Ok (Some now)) = Ok (Comes now)
comes (Err fault) = Err fault

-- ---- the key table among atoms

-- the key table that an atom is
abbrev pub table_of : Chunk → Option KeyTable
table_of c = if is c (codes "meta") then key_table c.body else None

-- an atom that is one, before others
abbrev pub or_found : ℕ → SizeForm → Option KeyTable → Option TableFound → Option TableFound
or_found n form None others = others
or_found n form (Some t) others = Some (record { number = n; form = form; table = t })

-- the first of atoms that is one, where they are counted from a number
abbrev pub found_from : List ℕ → ℕ → List AtomAt → Option TableFound
found_from b n [] = None
found_from b n (k ∷ ks) = or_found n k.form (table_of (atom_in b k)) (found_from b (suc n) ks)

-- ---- what becomes of them

-- What becomes of a carrier, of whose sizes none is too large; or the first that is.
abbrev pub IsCarriedBy : (Carry → Type 0) → List Size → Result Carry CarryFault → Type 0
IsCarriedBy Step sizes (Ok k) = Step k × (first_above sizes ≡ None)
IsCarriedBy Step sizes (Err (TooLarge size)) = first_above sizes ≡ Some (limited (2 ^ 24) size)
IsCarriedBy Step sizes (Err Depot) = Unit {0}
IsCarriedBy Step sizes (Err Memory) = Unit {0}

-- of the user data
abbrev pub CarriesUser : List ℕ → List (Item Value) → Result Carry CarryFault → Type 0
CarriesUser b e r = IsCarriedBy (λ k. IsUserStep e k (cells_of (movie_of b))) (user_sizes (movie_of b) e) r

-- of the key table
abbrev pub CarriesKeys : List ℕ → List (Item (List ℕ)) → Result Carry CarryFault → Type 0
CarriesKeys b e r = IsCarriedBy (λ k. IsKeyStep e k (cells_of (movie_of b))) (key_sizes (movie_of b) e) r

-- of both, the user data first
abbrev pub AreCarried : List ℕ → List (Item Value) → List (Item (List ℕ)) → Result Carries CarryFault → Type 0
AreCarried b us ks (Ok c) = IsUserStep us c.user (cells_of (movie_of b)) × IsKeyStep ks c.keys (cells_of (movie_of b))
    × (first_above (user_sizes (movie_of b) us ++ key_sizes (movie_of b) ks) ≡ None)
AreCarried b us ks (Err (TooLarge size)) = first_above (user_sizes (movie_of b) us ++ key_sizes (movie_of b) ks) ≡ Some (limited (2 ^ 24) size)
AreCarried b us ks (Err Depot) = Unit {0}
AreCarried b us ks (Err Memory) = Unit {0}

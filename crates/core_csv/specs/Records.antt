-- A reader of the crate `csv` over the bytes of a table.
use Rattle.std.specs.Prelude.{◌≡◌, ℕ, List, [], ◌∷◌, Bool, false, Option, Some, None, IsSome}
use denote.Ref.{Bor}
use Rattle.csv.specs.Reading.{Ready, default_config, is_bom, reader_config, reader_state, reader_trim, source_of}
use Rattle.csv.specs.declared.parser.State.{State}
use Rattle.csv.specs.declared.reader.Reader.{Reader}
use Rattle.csv.specs.declared.reader.Trim.TheVariants as trim

-- the bytes that are left, as far as they are known
abbrev pub source : Reader (Bor (List ℕ)) → Option (List ℕ)
source r = source_of (λ s. Some s.now) r

-- bytes that are known, none where they aren't
abbrev pub known : Option (List ℕ) → List ℕ
known None = []
known (Some text) = text

-- the bytes that are left
abbrev pub text_of : Reader (Bor (List ℕ)) → List ℕ
text_of r = known (source r)

-- where it stands between records
abbrev pub state_of : Reader (Bor (List ℕ)) → State
state_of r = reader_state r

-- it reads records as the crate does by default, and its bytes are known
pub record IsReading (r : Reader (Bor (List ℕ))) : Type 0 where
  pub config : reader_config r ≡ default_config
  pub trim : reader_trim r ≡ trim.None
  pub ready : Ready r
  pub known : IsSome (source r)

-- whether a text begins with a byte order mark
abbrev pub is_marked : List ℕ → Bool
is_marked (a ∷ b ∷ c ∷ rest) = is_bom a b c
is_marked _ = false

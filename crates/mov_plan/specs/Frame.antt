-- What stands round the atoms of `moov` in its file (QuickTime File Format, atoms).
use Rattle.std.specs.Prelude.{◌≡◌, ◌≤◌, ◌<◌, ◌^◌, ℕ, suc, true, ◌+◌, ◌-◌, ◌==◌, List, [], ◌∷◌, length, if◌then◌else◌, Option, Some, None}
use Rattle.std.specs.Int.{w32, w64, to_be_bytes}
use Rattle.container_model.specs.Atoms.{atoms_in}
use Rattle.container_model.specs.Chunk.{header_bytes, spell_all}
use Rattle.mov_model.specs.Movie.{movie_of}
use Rattle.mov_model.specs.New.{past_gaps}
use Rattle.mov_model.specs.Support.{Supported}
use Rattle.qt_atoms.specs.Walk.{form_of, header_len}
use Rattle.qt_atoms.specs.declared.header.SizeForm.{SizeForm}
use Rattle.qt_atoms.specs.declared.header.SizeForm.TheVariants.{Short, Long, ToEnd}
use Rattle.unit_plan.specs.declared.cut.CutAt.{CutAt}
use Rattle.mov_plan.specs.Places.{beyond_in}
use Rattle.mov_plan.specs.Edits.{beyond_of}
use Rattle.mov_plan.specs.Rows.{Beyond}
use Rattle.mov_plan.specs.declared.frame.MoovAt.{MoovAt}
use Rattle.mov_plan.specs.declared.place.Behind.{Behind}

-- What stands behind the atoms of moov is told. Where bytes are left in moov no slot goes on behind it, so that the bytes there are none
-- of a slot's.
pub record IsBehindOf (b : List ℕ) (end : ℕ) (x : Behind) (y : Beyond) : Type 0 where
  pub goes_on : x.goes_on ≡ y.goes_on
  pub slot : x.goes_on ≡ true → (beyond_in b end x).slot ≡ y.slot
  pub gaps : x.gaps ≡ y.gaps
  pub last : x.last ≡ y.last

-- where moov stands in a supported file
pub record IsMoovOf (b : List ℕ) (m : MoovAt) : Type 0 where
  pub supported : Supported b
  pub len : m.len ≡ length b
  pub at : m.at ≡ length (spell_all (movie_of b).before)
  pub form : form_of m.form ≡ (movie_of b).movie.form
  pub from : m.from
      ≡ length (spell_all (movie_of b).before)
      + length (header_bytes (movie_of b).movie.form (movie_of b).movie.id (length (movie_of b).movie.body))
  pub end : m.end ≡ m.from + length (spell_all (atoms_in (movie_of b).movie).chunks)
  pub left : m.left ≡ length (atoms_in (movie_of b).movie).left
  pub behind : IsBehindOf b m.end m.behind (beyond_of (movie_of b))
  pub others : m.others ≡ length (movie_of b).before + suc (length (past_gaps (movie_of b).behind))

-- Whatever the file: the header, the atoms, what is left and the padding behind follow each other, in a file that a depot can hold.
-- A slot that ends the atoms goes on behind moov only where nothing is left in it, and what comes last ends the file.
pub record IsSoundMoov (m : MoovAt) : Type 0 where
  pub head : m.at + header_len m.form ≡ m.from
  pub order : m.from ≤ m.end
  pub inside : m.end + m.left + m.behind.gap ≤ m.len
  pub small : m.len < 2 ^ 63
  pub goes : m.behind.goes_on ≡ true → m.left ≡ 0
  pub last : m.behind.last ≡ true → m.end + m.left + m.behind.gap ≡ m.len

-- how many bytes the body of moov has
abbrev pub body_len : MoovAt → ℕ
body_len m = (m.end - m.from) + m.left

-- the span of the size in a header of this form, with a body of n bytes; none in one that goes to the end of the file
abbrev pub size_by : SizeForm → ℕ → ℕ → List CutAt
size_by Short at n = record { span = record { at = at; len = 4 }; bytes = to_be_bytes w32 (n + 8); keep = 0 } ∷ []
size_by Long at n = record { span = record { at = at + 8; len = 8 }; bytes = to_be_bytes w64 (n + 16); keep = 0 } ∷ []
size_by ToEnd at n = []

-- where the size of moov changes
abbrev pub size_cuts : MoovAt → ℕ → List CutAt
size_cuts m n = if n == body_len m then [] else size_by m.form m.at n

-- a span that there may be
abbrev pub found_list : Option CutAt → List CutAt
found_list None = []
found_list (Some k) = k ∷ []

-- The chunks of the first form of an AVI file among all parts of the file, and how many chunks stand elsewhere (this project's
-- own).
use Rattle.std.specs.Prelude.{◌≡◌, ◌≤◌, ℕ, suc, ◌+◌, ◌==◌, nat_lt, List, [], ◌∷◌, length, Bool, true, false, ◌&&◌, not, Option, Some, None, if◌then◌else◌}
use Rattle.part_tree.specs.declared.names.Span.{Span}
use Rattle.part_tree.specs.declared.part.Part.{Part}
use Rattle.part_tree.specs.declared.part.Role.{Role}
use Rattle.part_tree.specs.declared.part.Role.TheVariants.{Opaque, Padding, Bext, Info, Whole, Sizes, Tables, UserData, Essence, Rest}
use Rattle.container_model.specs.Chunk.{riff, Chunk, spell}
use Rattle.carrier_model.specs.Info.{is_padding}
use Rattle.avi_model.specs.Named.{is_hdrl}
use Rattle.wave_model.specs.Fields.{is_info}
use Rattle.edit_planner.specs.declared.head.Head.{Head}

-- ---- roles

-- a rest
abbrev pub is_rest : Role → Bool
is_rest Rest = true
is_rest _ = false

-- a list of fields
abbrev pub is_listed : Role → Bool
is_listed Info = true
is_listed _ = false

-- what a role is to an edit of lists of fields: padding, such a list, or another chunk
abbrev pub plain_role : Role → Role
plain_role Padding = Padding
plain_role Info = Info
plain_role _ = Opaque

-- the same of a chunk
abbrev pub avi_role : ℕ → Chunk → Role
avi_role at c = if is_padding c then Padding else (if is_info c then Info else Opaque)

-- ---- parts

-- a part is a chunk that begins at a place
abbrev pub begins : ℕ → Part → Bool
begins at p = (p.at == at) && not (is_rest p.role)

-- a part as an edit of lists of fields knows it
abbrev pub plain_part : Part → Part
plain_part p = record p { role = plain_role p.role }

-- the chunks that follow each other from a place on
abbrev pub tops : ℕ → List Part → List Part
tops at [] = []
tops at (p ∷ ps) = if begins at p then plain_part p ∷ tops p.next ps else tops at ps

-- A part is a chunk that stands elsewhere: it doesn't stand in the last of these, where that is a list of fields.
abbrev pub stands_apart : Bool → ℕ → Part → Bool
stands_apart listed at p = not (is_rest p.role) && not (listed && nat_lt p.at at)

-- how many do
abbrev pub others : Bool → ℕ → List Part → ℕ
others listed at [] = 0
others listed at (p ∷ ps) =
    if begins at p then others (is_listed p.role) p.next ps
    else (if stands_apart listed at p then suc (others listed at ps) else others listed at ps)

-- a chunk's header is before its body, and it ends at or before a place
abbrev pub EndsIn : ℕ → ℕ → Part → Type 0
EndsIn at end p = (p.body.at ≡ at + 8) × (p.body.at + p.body.len ≤ p.next) × (p.next ≤ end)

-- the length of the first of some ranges
abbrev pub first_len : List Span → ℕ
first_len [] = 0
first_len (s ∷ ss) = s.len

-- ---- `hdrl`

-- a chunk of RIFF with an identifier of four bytes
pub record IsRiff (c : Chunk) : Type 0 where
  pub form_is : c.form ≡ riff
  pub id_len : length c.id ≡ 4

-- The number and the body of the first list of type `hdrl`, where chunks are counted from a number and stand from a place on.
abbrev pub head_from : ℕ → ℕ → List Chunk → Option Head
head_from n at [] = None
head_from n at (c ∷ cs) =
    if is_hdrl c then Some (record { number = n; body = record { at = at + 8; len = length c.body } })
    else head_from (suc n) (at + length (spell c)) cs

-- it has a type, and stands behind a header and before a place
pub record StandsIn (from end : ℕ) (h : Head) : Type 0 where
  pub low : from + 8 ≤ h.body.at
  pub typed : 4 ≤ h.body.len
  pub inside : h.body.at + h.body.len ≤ end

-- The kind of a file by its first 12 bytes, and what that kind is to an edit (this project's own).
use Rattle.std.specs.Prelude.{ℕ, List, take, Bool, true, false, Option, Some, None}
use Rattle.part_tree.specs.Kinds.{kind}
use Rattle.part_tree.specs.declared.names.Kind.{Kind}
use Rattle.part_tree.specs.declared.names.Kind.TheVariants.{Avi, Mov}
use Rattle.field_model.specs.Kind.{KindModel}
use Rattle.avi_model.specs.Kind.{avi_kind}
use Rattle.mov_model.specs.Kind.{mov_kind}
use Rattle.wave_model.specs.Kind.{wave_kind}

-- the kind that a file's first bytes tell
abbrev pub kind_at : List ℕ → Option Kind
kind_at o = kind (take 12 o)

-- whether a kind is that of AVI files
abbrev pub is_avi : Option Kind → Bool
is_avi (Some Avi) = true
is_avi _ = false

-- whether a kind is that of movies
abbrev pub is_mov : Option Kind → Bool
is_mov (Some Mov) = true
is_mov _ = false

-- whether files are read as WAVE files are: those of type WAVE, and those of no kind, which are refused
abbrev pub is_sound : Option Kind → Bool
is_sound (Some Avi) = false
is_sound (Some Mov) = false
is_sound _ = true

-- What a kind is; a file of no kind is refused as WAVE files are that aren't of this kind.
abbrev pub model_of : Option Kind → KindModel
model_of (Some Avi) = avi_kind
model_of (Some Mov) = mov_kind
model_of _ = wave_kind

-- what the kind of a file is
unfoldable pub model_in : List ℕ → KindModel
model_in o = model_of (kind_at o)

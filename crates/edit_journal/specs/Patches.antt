-- The strips that a journal gives back, read by its own numbers.
use Rattle.std.specs.Prelude.{ℕ, zero, suc, ◌==◌, if◌then◌else◌, List, [], ◌∷◌, take, drop, get_or}
use Rattle.part_tree.specs.declared.plan.Patch.{Patch}
use Rattle.edit_journal.specs.declared.strip.StripHead.{StripHead}
use Rattle.edit_journal.specs.Strips.{Piece, Strip, laid_by}
use Rattle.edit_journal.specs.Strips.Piece.{Plain, Run}
use Rattle.edit_journal.specs.Journal.{Version}
use Rattle.edit_journal.specs.Damage.{number, header, head_len, strip_len, version_in}

-- what a header and the bytes behind it stand for
abbrev pub piece_in : StripHead → List ℕ → Piece
piece_in s b = if s.kind == 1 then Run (get_or b 0 0) s.len else Plain (take s.len b)

-- the strip at the front of these bytes
abbrev pub strip_in : Version → List ℕ → Strip
strip_in v b = record { at = (header v b).place; piece = piece_in (header v b) (drop (head_len v) b) }

-- so many strips, one behind another
abbrev pub read_strips : Version → ℕ → List ℕ → List Strip
read_strips v zero b = []
read_strips v (suc k) b = strip_in v b ∷ read_strips v k (drop (strip_len v (header v b)) b)

-- the strips of a journal, behind its header
abbrev pub strips_in : List ℕ → List Strip
strips_in j = read_strips (version_in (take 24 j)) (number 4 20 (take 24 j)) (drop 24 j)

-- the patches that they stand for
abbrev pub patches_in : List ℕ → List Patch
patches_in j = laid_by (strips_in j)

-- One entry of idx1 (AVI RIFF File Reference, AVIOLDINDEX).
use Rattle.std.specs.Prelude.{◌≡◌, ◌<◌, ◌≤◌, ℕ, ◌+◌, ◌*◌, List, length, Option, Some, None}
use Rattle.container_model.specs.Written.{slice}
use Rattle.avi_index.specs.Rows.{row_id, row_flags, row_offset, row_length}
use Rattle.avi_index.specs.declared.entry.IdxEntry.{IdxEntry}

-- the bytes of an entry by its number
abbrev pub row_at : List ℕ → ℕ → List ℕ
row_at body k = slice body (16 * k) 16

-- the numbers of a row, which has 16 bytes
pub record IsEntry (r : List ℕ) (e : IdxEntry) : Type 0 where
  pub long : length r ≡ 16
  pub id : e.id.0 ≡ row_id r
  pub flags : e.flags ≡ row_flags r
  pub offset : e.offset ≡ row_offset r
  pub len : e.len ≡ row_length r

-- the entry of a number, where the table has it
abbrev pub ReadsEntry : List ℕ → ℕ → Option IdxEntry → Type 0
ReadsEntry body k None = length body < 16 * (k + 1)
ReadsEntry body k (Some e) = (16 * (k + 1) ≤ length body) × IsEntry (row_at body k) e

-- A depot that keeps long runs of zeros as lengths: what it tells.
use Rattle.std.specs.Prelude.{◌≡◌, ℕ}
use Rattle.me_disk.specs.declared.depot.WorkState.TheVariants.{Closed}
use Rattle.me_disk.specs.declared.sparse.SparseDepot.{SparseDepot}
use Rattle.me_disk.specs.Disk.{Disk, IsLawful}
use Rattle.me_disk.specs.Silent.{silent_disk, silent_lawful}

-- it tells its counts and the work state
abbrev pub sparse_disk : SparseDepot → Disk
sparse_disk d = silent_disk d.faults d.written d.state

-- which is lawful
pub sparse_lawful : (d : SparseDepot) → IsLawful (sparse_disk d)
sparse_lawful d = silent_lawful d.faults d.written d.state

-- how many bytes its reads gave in all, up to the last value of a count
abbrev pub read_count : SparseDepot → ℕ
read_count d = d.bytes_read

-- no call was made
pub record IsFresh (d : SparseDepot) : Type 0 where
  pub faults : d.faults ≡ 0
  pub written : d.written ≡ 0
  pub unread : d.bytes_read ≡ 0
  pub closed : d.state ≡ Closed

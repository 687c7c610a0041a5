use Rattle.std.proofs.Common.{◌≡◌, ◌+◌, ◌≤◌, length, drop}
use Rattle.std.specs.Vec.{vec_capacity}
use Rattle.me_disk.specs.Disk.{bytes_of}
use Rattle.me_disk.specs.Reopened.{replay}
use Rattle.me_disk.specs.Store.{held_of, calls_of, total}
use Rattle.me_disk.proofs.reopen.redo_all.Given as goal

-- what is left to do of the calls that are left gives what all of it was to give
abbrev pub invariant-loop-call : goal.invariant-loop-call
invariant-loop-call l = record {
  goes : replay l.left (calls_of (drop l.call-index l.log) l.rest) (held_of l.main) ≡ replay l.fn.first (calls_of l.log l.fn.pool) (held_of l.fn.main);
  held : bytes_of (held_of l.main) ≡ l.main.bytes.items;
  sized : total (drop l.call-index l.log) ≡ length l.rest;
  room : length l.main.bytes.items + length l.rest ≤ vec_capacity l.main.bytes;
  longer : length l.main.bytes.items + length l.rest ≤ length l.fn.main.bytes.items + length l.fn.pool;
  capacity : vec_capacity l.fn.main.bytes ≤ vec_capacity l.main.bytes;
}

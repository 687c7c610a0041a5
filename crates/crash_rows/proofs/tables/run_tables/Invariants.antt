use Rattle.me_disk.specs.Disk.{bytes_of}
use Rattle.crash_rows.proofs.tables.run_tables.Given as goal

-- the file that stands there
abbrev pub ghost-run : goal.ghost-run
ghost-run g a = bytes_of (g.D.Depot.disk a.depot.now).slots.main

use Rattle.std.proofs.Common.{◌≡◌, ◌+◌, ◌-◌, drop, None}
use Rattle.csv.specs.Reading.{default_config, records_from}
use Rattle.csv.specs.Records.{fields_of}
use Rattle.core_csv.specs.Records.{IsReading, state_of, text_of}
use Rattle.core_csv.specs.Table.{read_rows}
use Rattle.core_csv.proofs.read.read_rows.Given as goal

-- the file's row so far, and what comes of the rows that are left
abbrev pub invariant-loop-k : goal.invariant-loop-k
invariant-loop-k l = record {
  reading : IsReading l.reader;
  left : read_rows l.file (drop 1 (fields_of l.header)) (l.k + 1) l.found (records_from default_config (l.most - l.k) (state_of l.reader) (text_of l.reader))
      ≡ read_rows l.file (drop 1 (fields_of l.header)) 1 None (records_from default_config l.most (state_of l.fn.reader) (text_of l.fn.reader));
}

-- The head of an index chunk, by the body of the chunk (OpenDML 1.02, AVISUPERINDEX and AVISTDINDEX).
use Rattle.std.specs.Prelude.{ℕ, List, Option, not}
use Rattle.std.specs.Int.{w16, from_le_bytes}
use Rattle.std.specs.Str.{bytes_eq}
use Rattle.part_tree.specs.Letters.{four}
use Rattle.part_tree.specs.declared.table.IndexHead.{IndexHead}
use Rattle.container_model.specs.Written.{rows, slice}
use Rattle.opendml_index.specs.Entries.{width_by}
use Rattle.opendml_index.specs.Heads.{two_field_kind}
use Rattle.opendml_index.specs.Index.{first_counted, index_base, is_super, used}
use Rattle.opendml_index.specs.Kinds.{kind}

-- what its first 24 bytes tell
abbrev pub head_in : List ℕ → IndexHead
head_in body = record {
  longs = from_le_bytes w16 (slice body 0 2);
  two_fields = bytes_eq (kind body) two_field_kind;
  standard = not (is_super body);
  used = used body;
  id = four (slice body 8 4);
  base = index_base body;
}

-- the offset of the first counted entry, where the entries of a head stand at the front of some bytes
abbrev pub first_in : IndexHead → List ℕ → Option ℕ
first_in h b = first_counted (rows (width_by h.two_fields) h.used b)

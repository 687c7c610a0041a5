-- What the tables of a file find: the chunks that idx1 names, and the index chunks and bytes that OpenDML indexes name.
use Rattle.std.specs.Prelude.{ℕ, ◌+◌, ◌-◌, ◌==◌, List, map, Bool, true, false, Option, Some, None}
use Rattle.container_model.specs.Written.{slice}
use Rattle.part_tree.specs.declared.names.Span.{Span}
use Rattle.avi_model.specs.Avi.{avi_of, first_movi}
use Rattle.container_model.specs.Tables.{le32_at, Table, ordinal}
use Rattle.opendml_index.specs.Index.{is_super, entries, super_place, entry_offset, entry_length, entry_second, has_second, index_base}
use Rattle.avi_model.specs.Index.{indexes, base, olds, is_head, spans}
use Rattle.avi_index.specs.Found.{counted}
use Rattle.avi_index.specs.Rows.{row_id, row_flags, row_length, Base, row_place, old_rows}

-- what an entry of idx1 finds: nothing where it is not counted; its identifier, its flags, and an index chunk by its number, or its bytes
pub data Found : Type 0 where
  nothing : Found
  index : List ℕ → ℕ → ℕ → Found
  bytes : List ℕ → ℕ → List ℕ → Found

-- what a counted entry finds
abbrev pub found_by : List ℕ → List Table → List ℕ → ℕ → Bool → Found
found_by b ts r p true = index (row_id r) (row_flags r) (ordinal ts (p + 8))
found_by b ts r p false = bytes (row_id r) (row_flags r) (slice b (p + 8) (row_length r))

-- what an entry finds, if it is counted
abbrev pub counted_by : List ℕ → List Table → List ℕ → ℕ → Bool → Found
counted_by b ts r p true = found_by b ts r p (is_head ts p)
counted_by b ts r p false = nothing

-- what an entry of idx1 finds
abbrev pub old_found : List ℕ → Base → Span → List Table → List ℕ → Found
old_found b base movi ts r = counted_by b ts r (row_place base movi.at r) (counted base movi (spans ts) r)

-- what a super entry finds: its size, its duration, and which index chunk
pub data Super : Type 0 where
  unused : Super
  super : ℕ → ℕ → ℕ → Super

-- what a super entry finds, if it is used
abbrev pub super_found_by : List Table → List ℕ → Bool → Super
super_found_by ts r true = unused
super_found_by ts r false = super (le32_at 8 r) (le32_at 12 r) (ordinal ts (super_place r + 8))

-- what a super entry finds
abbrev pub super_found : List Table → List ℕ → Super
super_found ts r = super_found_by ts r (super_place r == 0)

-- what a standard entry finds: its key flag, its bytes, and the bytes from its second place on
pub data Standard : Type 0 where
  uncounted : Standard
  standard : ℕ → List ℕ → Option (List ℕ) → Standard

-- the bytes from the second place to the end of the entry, if it has one
abbrev pub second_found : List ℕ → ℕ → List ℕ → Bool → Option (List ℕ)
second_found b base r true = Some (slice b (base + entry_second r) ((entry_offset r + entry_length r) - entry_second r))
second_found b base r false = None

-- what a standard entry finds, if it is counted
abbrev pub entry_found_by : List ℕ → ℕ → List ℕ → Bool → Standard
entry_found_by b base r true = uncounted
entry_found_by b base r false = standard (le32_at 4 r) (slice b (base + entry_offset r) (entry_length r)) (second_found b base r (has_second r))

-- what a standard entry finds
abbrev pub entry_found : List ℕ → ℕ → List ℕ → Standard
entry_found b base r = entry_found_by b base r (entry_length r == 0)

-- what an index chunk finds
pub data Finds : Type 0 where
  supers : ℕ → List Super → Finds
  standards : ℕ → List Standard → Finds

-- what a super or a standard index finds
abbrev pub finds_by : List ℕ → List Table → Table → Bool → Finds
finds_by b ts t true = supers (ordinal ts t.at) (map (super_found ts) (entries t.body))
finds_by b ts t false = standards (ordinal ts t.at) (map (entry_found b (index_base t.body)) (entries t.body))

-- what the entries of an index chunk find
abbrev pub finds : List ℕ → List Table → Table → Finds
finds b ts t = finds_by b ts t (is_super t.body)

-- the base of idx1, what its entries find, and what each index chunk finds
pub record Pieces : Type 0 where
  pub based : Base
  pub olds : List (List Found)
  pub indexes : List Finds

-- what a file's own tables find
abbrev pub pieces : List ℕ → Pieces
pieces b =
    let ts = indexes b in
    let movi = first_movi (avi_of b) in
    record {
      based = base b;
      olds = map (λ t. map (old_found b (base b) movi ts) (old_rows t.body)) (olds b);
      indexes = map (finds b ts) ts;
    }

-- What a rewrite has made of a file so far (this project's own).
use Rattle.std.specs.Prelude.{◌≡◌, ◌≤◌, ℕ, Bool, List}
use Rattle.std.specs.List.{flat_map}
use Rattle.part_tree.specs.Moves.{Move}
use Rattle.part_tree.specs.Plans.{AllBased, AllInside, Named, segment_bytes, total_len}
use Rattle.unit_plan.specs.declared.cut.CutAt.{CutAt}
use Rattle.mov_plan.specs.Tables.{table_segment}
use Rattle.mov_plan.specs.declared.tables.Rewritten.{Rewritten}
use Rattle.mov_plan.specs.declared.tables.TableAt.{TableAt}

-- its bytes
abbrev pub made_of : List Move → List ℕ → Rewritten → List ℕ
made_of ms b r = flat_map (segment_bytes ms b) r.segments.items

-- The segments add up, and lie in a file.
pub record IsMade (b : List ℕ) (r : Rewritten) : Type 0 where
  pub total : total_len r.segments.items ≡ r.len
  pub based : AllBased r.segments.items
  pub inside : AllInside b r.segments.items

-- all new places in a table can be named
abbrev pub IsNamed : Bool → List Move → List ℕ → TableAt → Type 0
IsNamed widened ms b t = Named ms b (table_segment widened t)

-- a span keeps no more bytes than it has
abbrev pub IsKept : CutAt → Type 0
IsKept k = k.keep ≤ k.span.len

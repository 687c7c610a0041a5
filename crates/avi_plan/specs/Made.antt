-- What a rewrite has made of a file so far (this project's own).
use Rattle.std.specs.Prelude.{◌≡◌, ℕ, List}
use Rattle.std.specs.List.{flat_map}
use Rattle.part_tree.specs.Moves.{Move}
use Rattle.part_tree.specs.Plans.{AllBased, AllInside, segment_bytes, total_len}
use Rattle.avi_plan.specs.declared.segments.Rewritten.{Rewritten}

-- its bytes
abbrev pub made_of : List Move → List ℕ → Rewritten → List ℕ
made_of ms b r = flat_map (segment_bytes ms b) r.segments.items

-- The segments add up, and lie in a file.
pub record IsMade (b : List ℕ) (r : Rewritten) : Type 0 where
  pub total : total_len r.segments.items ≡ r.len
  pub based : AllBased r.segments.items
  pub inside : AllInside b r.segments.items

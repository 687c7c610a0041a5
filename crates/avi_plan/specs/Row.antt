-- The row of the first form's chunks after an edit of its lists of fields, and the spans of its units with those of the names
-- among them (as `avi_model` has it).
use Rattle.std.specs.Prelude.{◌≡◌, ◌≤◌, ℕ, ◌+◌, List, [], ◌∷◌, ◌++◌, length, map, Bool, ◌&&◌, codes, if◌then◌else◌}
use Rattle.std.specs.List.{AllByRecursion}
use Rattle.container_model.specs.Chunk.{Chunk, spell}
use Rattle.container_model.specs.Units.{Cell, edited, gap, kept}
use Rattle.carrier_model.specs.Info.{is_type, list_run}
use Rattle.avi_model.specs.Named.{is_hdrl}
use Rattle.unit_plan.specs.Shapes.{Shape, shape_of, stays}
use Rattle.unit_plan.specs.declared.cut.CutAt.{CutAt}
use Rattle.unit_plan.specs.declared.row.UnitCuts.{UnitCuts}
use Rattle.avi_plan.specs.declared.names.NamesAt.{NamesAt}

-- ---- what is given

-- how many parts a chunk of the form counts for: a list of fields and its items, and any other one alone
abbrev pub part_count : Chunk → ℕ
part_count c = length (if is_type (codes "INFO") c then c ∷ (list_run c).chunks else c ∷ [])

-- The shapes of some cells; the first `hdrl` lacks its pad as it does with the names set.
abbrev pub told_row : Bool → List Cell → List Shape
told_row lacks [] = []
told_row lacks (kept c ∷ xs) =
    if is_hdrl c then stays (length (spell c)) lacks (part_count c) ∷ map (shape_of part_count) xs else shape_of part_count (kept c) ∷ told_row lacks xs
told_row lacks (gap c ∷ xs) = shape_of part_count (gap c) ∷ told_row lacks xs
told_row lacks (edited old now ∷ xs) = shape_of part_count (edited old now) ∷ told_row lacks xs

-- ---- names among lists

-- Some spans end before a range, and the others begin behind it, which ends at a place or before it.
pub record IsBeside (at next end : ℕ) (low high : List CutAt) : Type 0 where
  pub low_ends : AllByRecursion (λ (k : CutAt). k.span.at + k.span.len ≤ at) low
  pub high_begins : AllByRecursion (λ (k : CutAt). next ≤ k.span.at) high
  pub inside : next ≤ end

-- The spans of the names stand between those of the lists, whose parts are counted with others.
pub record IsJoined (others end : ℕ) (n : NamesAt) (units u : UnitCuts) : Type 0 where
  pub low : List CutAt
  pub high : List CutAt
  pub split : units.cuts.items ≡ low ++ high
  pub cuts_are : u.cuts.items ≡ low ++ (n.cuts.items ++ high)
  pub beside : IsBeside n.at n.next end low high
  pub fits : u.fits ≡ (n.fits && units.fits)
  pub parts : u.parts + n.was ≡ units.parts + others + n.now

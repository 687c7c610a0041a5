-- The tables of chunk places in a file, and the spans between which they stand (QuickTime File Format, chunk offset atoms).
use Rattle.std.specs.Prelude.{ℕ, ◌+◌, ◌*◌, ◌≤◌, List, [], ◌∷◌, ◌++◌, length, map, drop, nat_le, nat_lt, Bool, true, false, ◌||◌, ◌&&◌, not, if◌then◌else◌}
use Rattle.std.specs.List.{list_any}
use Rattle.part_tree.specs.Moves.{Move}
use Rattle.part_tree.specs.Plans.{segment_bytes}
use Rattle.part_tree.specs.declared.plan.Segment.{Segment}
use Rattle.part_tree.specs.declared.plan.Segment.TheVariants.{Table}
use Rattle.part_tree.specs.declared.table.TableForm.{TableForm}
use Rattle.part_tree.specs.declared.table.TableForm.TheVariants.{Chunks32, Chunks64, Widen}
use Rattle.container_model.specs.Rows.{Width, be32, be64, numbers}
use Rattle.container_model.specs.Splice.{Cut, shift}
use Rattle.mov_model.specs.Cuts.{RowTable}
use Rattle.unit_plan.specs.Cuts.{cut_in}
use Rattle.unit_plan.specs.declared.cut.CutAt.{CutAt}
use Rattle.mov_plan.specs.declared.tables.TableAt.{TableAt}

-- how its rows are spelled, and what they are to a plan
abbrev pub width_of : Bool → Width
width_of true = be64
width_of false = be32

abbrev pub form_of : Bool → Bool → TableForm
form_of true widened = Chunks64
form_of false true = Widen
form_of false false = Chunks32

-- the rows of a table in the definitions
abbrev pub rows_of : TableAt → RowTable
rows_of t = record { at = t.at; width = width_of t.wide; rows = t.rows }

-- how many bytes they have
abbrev pub table_len : TableAt → ℕ
table_len t = (if t.wide then 8 else 4) * t.rows

-- and how many in a new file, where rows of four bytes are widened, or aren't
abbrev pub new_table_len : Bool → TableAt → ℕ
new_table_len widened t = (if t.wide || widened then 8 else 4) * t.rows

-- the rows in a new file
abbrev pub table_segment : Bool → TableAt → Segment
table_segment widened t = Table (form_of t.wide widened) t.at t.rows

-- the rows as a span of a file, with what these moves make of them
abbrev pub table_in : Bool → List Move → List ℕ → TableAt → Cut
table_in widened moves b t =
    record { at = t.at; len = table_len t; bytes = segment_bytes moves b (table_segment widened t) }

-- ---- between spans

-- the tables that begin at a place or before it, before the first one behind it
abbrev pub tables_up_to : ℕ → List TableAt → List TableAt
tables_up_to p [] = []
tables_up_to p (t ∷ ts) = if nat_le t.at p then t ∷ tables_up_to p ts else []

-- those from the first one on that begins behind it
abbrev pub tables_behind : ℕ → List TableAt → List TableAt
tables_behind p [] = []
tables_behind p (t ∷ ts) = if nat_le t.at p then tables_behind p ts else t ∷ ts

-- spans and tables by place
abbrev pub merged : Bool → List Move → List ℕ → List CutAt → List TableAt → List Cut
merged widened moves b [] ts = map (table_in widened moves b) ts
merged widened moves b (k ∷ ks) ts =
    map (table_in widened moves b) (tables_up_to k.span.at ts)
    ++ cut_in b k ∷ merged widened moves b ks (tables_behind k.span.at ts)

-- ---- places of four bytes

-- its rows lie in a file
abbrev pub LiesIn : List ℕ → TableAt → Type 0
LiesIn b t = t.at + table_len t ≤ length b

-- a table of four bytes of which some place goes past these where spans move it
abbrev pub passes : List Cut → List ℕ → TableAt → Bool
passes cs b t = not t.wide && list_any (λ p. nat_lt 4294967295 (shift cs p)) (numbers be32 t.rows (drop t.at b))

-- one of some tables
abbrev pub widens_in : List Cut → List ℕ → List TableAt → Bool
widens_in cs b ts = list_any (passes cs b) ts

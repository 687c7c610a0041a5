-- What changes of the tables of a file whose places move, and what is told where a row can't name a new place (this project's own).
use Rattle.std.specs.Prelude.{◌≡◌, ◌≢◌, ◌≤◌, ⊤, ℕ, ◌+◌, ◌*◌, List, [], ◌∷◌, ◌++◌, map, drop, nat_le, Option, Some, None, Result, if◌then◌else◌}
use Rattle.std.specs.declared.result.Result.TheVariants.{Ok, Err}
use Rattle.std.specs.Int.{w64, to_le_bytes}
use Rattle.part_tree.specs.Large.{Size, limited}
use Rattle.part_tree.specs.Moves.{Move}
use Rattle.part_tree.specs.Tables.{HasBase, RowsNamed, relocated, width}
use Rattle.part_tree.specs.declared.plan.PlanFault.{PlanFault}
use Rattle.part_tree.specs.declared.plan.PlanFault.TheVariants.{TooLarge, Depot, Memory}
use Rattle.part_tree.specs.declared.table.TableForm.{TableForm}
use Rattle.part_tree.specs.declared.table.TableForm.TheVariants.{Super, Standard, Widen}
use Rattle.container_model.specs.Splice.{Cut}
use Rattle.container_model.specs.Tests.{or_else}
use Rattle.unit_plan.specs.Cuts.{cut_in}
use Rattle.unit_plan.specs.declared.cut.CutAt.{CutAt}
use Rattle.table_misfits.specs.Misfits.{misfits}
use Rattle.avi_plan.specs.declared.table.Change.{Change}
use Rattle.avi_plan.specs.declared.table.Change.TheVariants as change

-- where a change begins, how many bytes it has, and where it ends
abbrev pub change_at : Change → ℕ
change_at (change.Rows form from rows) = from
change_at (change.Base at base) = at

abbrev pub change_len : Change → ℕ
change_len (change.Rows form from rows) = width form * rows
change_len (change.Base at base) = 8

abbrev pub change_end : Change → ℕ
change_end c = change_at c + change_len c

-- as a span of a file that is replaced, where these moves tell where places go
abbrev pub change_cut : List Move → List ℕ → Change → Cut
change_cut ms b (change.Rows form from rows) = record { at = from; len = width form * rows; bytes = relocated ms form rows (drop from b) }
change_cut ms b (change.Base at base) = record { at = at; len = 8; bytes = to_le_bytes w64 base }

-- ---- what is told

-- the limit that a place passes which a row can't name: it isn't behind the base from which the row counts, or too far behind it
abbrev pub limit_of : TableForm → ℕ → ℕ
limit_of (Standard old base) place = if nat_le place base then 0 else 4294967295
limit_of form place = 4294967295

-- what is told of a place that the rows of a form can't name; a super index can name each place
abbrev pub refuse : TableForm → Option ℕ → Option Size
refuse form None = None
refuse Super (Some place) = None
refuse form (Some place) = Some (limited (limit_of form place) place)

-- of a change, and the first of some
abbrev pub refused_by : List Move → List ℕ → Change → Option Size
refused_by ms b (change.Rows form from rows) = refuse form (misfits ms form rows (drop from b))
refused_by ms b (change.Base at base) = None

abbrev pub refused : List Move → List ℕ → List Change → Option Size
refused ms b [] = None
refused ms b (c ∷ cs) = or_else (refused_by ms b c) (refused ms b cs)

-- a fault tells it, unless it is another one
abbrev pub TellsFault : Option Size → PlanFault → Type 0
TellsFault s (TooLarge size limit) = s ≡ Some (limited limit size)
TellsFault s Depot = ⊤
TellsFault s Memory = ⊤

-- the answer says whether there is one, unless it is another fault
abbrev pub Tells : {T : Type 0} → Option Size → Result T PlanFault → Type 0
Tells s (Ok x) = s ≡ None
Tells s (Err fault) = TellsFault s fault

-- ---- changes that can be made

-- it lies in a file of so many bytes, and no row gets another width
abbrev pub IsSound : ℕ → Change → Type 0
IsSound len (change.Rows form from rows) = (form ≢ Widen) × HasBase form × (from + width form * rows ≤ len)
IsSound len (change.Base at base) = at + 8 ≤ len

-- no row gets another width
abbrev pub KeepsWidth : Change → Type 0
KeepsWidth (change.Rows form from rows) = form ≢ Widen
KeepsWidth (change.Base at base) = ⊤

-- its rows can name their new places
abbrev pub IsNamed : List Move → List ℕ → Change → Type 0
IsNamed ms b (change.Rows form from rows) = RowsNamed ms form rows (drop from b)
IsNamed ms b (change.Base at base) = Unit {0}

-- ---- between spans

-- the changes that end at a place or before it, before the first one that doesn't
abbrev pub changes_up_to : ℕ → List Change → List Change
changes_up_to p [] = []
changes_up_to p (c ∷ cs) = if nat_le (change_end c) p then c ∷ changes_up_to p cs else []

-- those from that one on
abbrev pub changes_behind : ℕ → List Change → List Change
changes_behind p [] = []
changes_behind p (c ∷ cs) = if nat_le (change_end c) p then changes_behind p cs else c ∷ cs

-- spans and changes by place
abbrev pub merged : List Move → List ℕ → List CutAt → List Change → List Cut
merged ms b [] cs = map (change_cut ms b) cs
merged ms b (k ∷ ks) cs = map (change_cut ms b) (changes_up_to k.span.at cs) ++ cut_in b k ∷ merged ms b ks (changes_behind k.span.at cs)

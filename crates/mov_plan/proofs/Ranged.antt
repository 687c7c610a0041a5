-- Ranges between spans and tables that are widened, one more at a time.
use Rattle.std.proofs.Common.{◌≡◌, ◌∙◌, ℕ, ◌+◌, ◌-◌, ◌*◌, ◌≤◌, Bool, true, false, cond, List, [], ◌∷◌, ◌++◌, length, drop, ap, arith, append_assoc}
use Rattle.std.specs.Prelude.{◌||◌}
use Rattle.std.proofs.lemmas.List.{length-drop}
use Rattle.part_tree.specs.Moves.{Move}
use Rattle.part_tree.specs.Plans.{segment_bytes}
use Rattle.part_tree.specs.declared.plan.Segment.TheVariants.{Table}
use Rattle.part_tree.specs.declared.table.TableForm.TheVariants.{Chunks64, Widen}
use Rattle.part_tree.proofs.Relocated.{relocated_length}
use Rattle.carrier_model.specs.Gaps.{between}
use Rattle.container_model.specs.Splice.{Cut}
use Rattle.mov_plan.specs.Tables.{LiesIn, form_of, new_table_len, table_in}
use Rattle.mov_plan.specs.declared.tables.TableAt.{TableAt}

-- how many bytes the rows of a table have in a new file
rows_long : (ms : List Move) (b : List ℕ) (wide : Bool) (at rows : ℕ) → at + cond wide 8 4 * rows ≤ length b → length (segment_bytes ms b (Table (form_of wide true) at rows)) ≡ cond (wide || true) 8 4 * rows
rows_long ms b true at rows h = relocated_length ms Chunks64 rows (drop at b) (omega (arith, h, length-drop at b))
rows_long ms b false at rows h = relocated_length ms Widen rows (drop at b) (omega (arith, h, length-drop at b))

pub table_long : (ms : List Move) (b : List ℕ) (t : TableAt) → LiesIn b t → length (table_in true ms b t).bytes ≡ new_table_len true t
table_long ms b t h = rows_long ms b t.wide t.at t.rows h

-- a span more: the range before it, and those behind
pub one_range : (c : Cut) (at to next now end : ℕ) (held new : List Move) (rest : List Cut) → new ≡ held ++ (record { at = at; len = c.at - at }, to) ∷ [] → next ≡ to + (c.at - at) + now → now ≡ length c.bytes
    → new ++ between (c.at + c.len) next rest end ≡ held ++ between at to (c ∷ rest) end
one_range c at to next now end held new rest put go long =
    let m : Move = (record { at = at; len = c.at - at }, to) in
    ap (λ (ms : List Move). ms ++ between (c.at + c.len) next rest end) put
    ∙ append_assoc held (m ∷ []) (between (c.at + c.len) next rest end)
    ∙ ap (λ (n : ℕ). held ++ m ∷ between (c.at + c.len) n rest end) (go ∙ ap (λ (k : ℕ). to + (c.at - at) + k) long)

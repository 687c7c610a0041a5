-- The places of a form's chunks, and what its units come to.
use Rattle.std.proofs.Common.{◌≡◌, ◌∙◌, ◌⊎◌, ℕ, ◌+◌, ◌-◌, ◌≤◌, ◌<◌, Bool, true, false, cond, eqb, List, [], ◌∷◌, length, map, refl, sym, ap, arith, inl, inr, length-append}
use Rattle.std.specs.Prelude.{◌&&◌}
use Rattle.std.specs.List.{AllByRecursion, flat_map}
use Rattle.std.proofs.lemmas.Bool.{eq-eqb, eqb-true}
use Rattle.part_tree.specs.declared.field.EditItem.{EditItem}
use Rattle.field_model.specs.Update.{raw_items}
use Rattle.container_model.specs.Chunk.{Chunk, spell, spell_all}
use Rattle.container_model.specs.Units.{Cell, kept, gap, edited, was, padded}
use Rattle.container_model.proofs.Codec.{IsBytes}
use Rattle.container_model.proofs.Units.{spell_all-append}
use Rattle.container_model.proofs.Windows.{length-window}
use Rattle.carrier_model.specs.Info.{list_run}
use Rattle.wave_model.specs.Wave.{wave_of, cells_of}
use Rattle.wave_model.specs.Fields.{fields, is_info}
use Rattle.wave_model.specs.Carry.{steps}
use Rattle.wave_model.specs.Edited.{Supported}
use Rattle.wave_model.specs.New.{ends_file, children_at}
use Rattle.container_model.specs.Items.{is_nil}
use Rattle.carrier_model.proofs.Steps.{was_carried}
use Rattle.wave_model.proofs.Cells.{was_cells}
use Rattle.unit_plan.specs.declared.cut.CutAt.{CutAt}
use Rattle.unit_plan.specs.declared.place.Place.{Place}
use Rattle.unit_plan.specs.declared.place.What.{What}
use Rattle.unit_plan.specs.declared.place.What.TheVariants.{Stays, Pads, Changes}
use Rattle.unit_plan.specs.declared.row.UnitCuts.{UnitCuts}
use Rattle.unit_plan.specs.Shapes.{Shape, stays, pads, changes, shape_of}
use Rattle.unit_plan.specs.Places.{Follow, shape_by, shape_in}
use Rattle.unit_plan.specs.Rows.{IsPartCount, cells_outcome, none, row}
use Rattle.unit_plan.specs.Cuts.{FitsIn, IsExact, EndsFile, SpansAscend, outcome_in}
use Rattle.unit_plan.proofs.Outcomes.{cells_told}
use Rattle.unit_plan.proofs.Spans.{lost_low}
use Rattle.unit_plan.proofs.Stepped.{follow_end}
use Rattle.container_model.specs.Windows.{window}
use Rattle.wave_plan.specs.Planned.{ComesTo, edited_cells, part_count}
use Rattle.wave_plan.proofs.Told.{file_long, inner_long}

-- ---- spans that don't end a file

exact_of : (from end len : ℕ) (ks : List CutAt) → end < len → SpansAscend from ks end → FitsIn len ks → AllByRecursion IsExact ks
exact_of from end len [] lt h f = tt
exact_of from end len (k ∷ ks) lt h f = (go f.0, exact_of (k.span.at + k.span.len) end len ks lt h.2 f.1)
  where
    go : IsExact k ⊎ (EndsFile len k × (ks ≡ [])) → IsExact k
    go (inl e) = e
    go (inr last) = absurd (omega (arith, last.0.0, lt, lost_low (k.span.at + k.span.len) end ks h.2))

pub stand_fits : (from end len : ℕ) (ends : Bool) (u : UnitCuts) → ends ≡ eqb end len → SpansAscend from u.cuts.items end
    → ((n : ℕ) → (ends ≡ true → end ≡ n) → u.fits ≡ true → FitsIn n u.cuts.items)
    → u.fits ≡ true → AllByRecursion IsExact u.cuts.items ⊎ ((end ≡ len) × FitsIn len u.cuts.items)
stand_fits from end len true u e h f fit = let same : end ≡ len = eqb-true end len (sym e) in inr (same, f len (λ t. same) fit)
stand_fits from end len false u e h f fit = inl (exact_of from end (end + 1) u.cuts.items (omega arith) h (f (end + 1) (λ t. absurd cc) fit))

-- ---- how long a row is

abbrev shape_len : Shape → ℕ
shape_len (stays n lacks k) = n
shape_len (pads old lacks k) = length old
shape_len (changes old now k) = length old

abbrev row_len : List Shape → ℕ
row_len [] = 0
row_len (x ∷ xs) = shape_len x + row_len xs

shape_by_len : (old : List ℕ) (len : ℕ) (lacks : Bool) (parts : ℕ) (w : What) → length old ≡ len → shape_len (shape_by old len lacks parts w) ≡ len
shape_by_len old len lacks parts Stays e = refl
shape_by_len old len lacks parts Pads e = e
shape_by_len old len lacks parts (Changes now) e = e

places_long : (b : List ℕ) (from end : ℕ) (ps : List Place) → end ≤ length b → Follow from ps end → from + row_len (map (shape_in b) ps) ≡ end
places_long b from end [] inside h = omega (arith, h)
places_long b from end (p ∷ ps) inside h =
    let next = follow_end p.next end ps h.3 in
    let one = shape_by_len (window b p.at p.next) (p.next - p.at) p.lacks_pad p.parts p.what (length-window b p.at p.next (omega (arith, h.2, inside))) in
    omega (arith, one, h.0, h.1, places_long b p.next end ps inside h.3)

cells_long : (g : Chunk → ℕ) (xs : List Cell) → row_len (map (shape_of g) xs) ≡ length (spell_all (flat_map was xs))
cells_long g [] = refl
cells_long g (kept c ∷ xs) = omega (arith, cells_long g xs, length-append (spell c) (spell_all (flat_map was xs)))
cells_long g (gap c ∷ xs) = omega (arith, cells_long g xs, length-append (spell c) (spell_all (flat_map was xs)))
cells_long g (edited old now ∷ xs) = omega (arith, cells_long g xs, ap length (spell_all-append old (flat_map was xs)), length-append (spell_all old) (spell_all (flat_map was xs)))

-- ---- whether the row ends the file

not_eqb : (a n : ℕ) → (a ≡ n → ⊥) → eqb a n ≡ false
not_eqb a n ne = go (eqb a n) refl
  where
    go : (t : Bool) → eqb a n ≡ t → t ≡ false
    go true e = absurd (ne (eqb-true a n e))
    go false e = refl

nil_eqb : (x y z : List ℕ) (a n : ℕ) → n ≡ a + (length x + (length y + length z)) → eqb a n ≡ (is_nil x && (is_nil y && is_nil z))
nil_eqb [] [] [] a n e = eq-eqb a n (omega (arith, e))
nil_eqb [] [] (v ∷ z) a n e = not_eqb a n (λ i. omega (arith, e, i))
nil_eqb [] (v ∷ y) z a n e = not_eqb a n (λ i. omega (arith, e, i))
nil_eqb (v ∷ x) y z a n e = not_eqb a n (λ i. omega (arith, e, i))

-- ---- parts

pub counts_parts : IsPartCount part_count
counts_parts = record { pads = λ c. by c (is_info c); padding = λ body. refl }
  where
    by : (c : Chunk) (t : Bool) → length (cond t (padded c ∷ (list_run c).chunks) (padded c ∷ [])) ≡ length (cond t (c ∷ (list_run c).chunks) (c ∷ []))
    by c true = refl
    by c false = refl

-- ---- what the units come to

module _ (b : List ℕ) (e : List EditItem) (bytes : IsBytes b) (sup : Supported b) where
  row_end : (from end : ℕ) (ps : List Place) → end ≤ length b → from ≡ children_at (wave_of b) → Follow from ps end → map (shape_in b) ps ≡ map (shape_of part_count) (edited_cells b e)
      → end ≡ children_at (wave_of b) + length (spell_all (wave_of b).children)
  row_end from end ps inside begins h shapes =
      let was_there : length (spell_all (flat_map was (edited_cells b e))) ≡ length (spell_all (wave_of b).children)
      = ap (λ (cs : List Chunk). length (spell_all cs)) (was_carried (steps (raw_items (fields b) e)) (cells_of (wave_of b)) ∙ was_cells (wave_of b).ds64 (wave_of b).children) in
      omega (arith, begins, places_long b from end ps inside h, ap row_len shapes, cells_long part_count (edited_cells b e), was_there)

  pub comes_to : (from end len : ℕ) (ends : Bool) (ps : List Place) (u : UnitCuts) → len ≡ length b → end ≤ len → from ≡ children_at (wave_of b) → Follow from ps end → map (shape_in b) ps ≡ map (shape_of part_count) (edited_cells b e)
      → ends ≡ eqb end len → outcome_in b u ≡ row ends from none (map (shape_in b) ps) → ComesTo b e u
  comes_to from end len ends ps u long inside begins h shapes test is =
      let v = wave_of b in
      let last = row_end from end ps (omega (arith, long, inside)) begins h shapes in
      let behind : len ≡ end + (length v.left + (length v.pad + length v.tail)) = omega (arith, long, last, file_long b bytes sup, inner_long b) in
      let ends_is : ends ≡ ends_file v = test ∙ nil_eqb v.left v.pad v.tail end len behind in
      is
      ∙ ap (row ends from none) shapes ∙ cells_told part_count ends counts_parts from (edited_cells b e)
      ∙ ap (λ (t : Bool). cells_outcome part_count t from (edited_cells b e)) ends_is
      ∙ ap (λ (k : ℕ). cells_outcome part_count (ends_file v) k (edited_cells b e)) begins

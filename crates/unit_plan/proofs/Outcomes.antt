-- What an edit of cells comes to is told by their shapes.
use Rattle.std.proofs.Common.{◌≡◌, ◌∙◌, ℕ, ◌+◌, Bool, true, false, List, [], ◌∷◌, ◌++◌, length, map, refl, sym, ap, arith, append_assoc, append-nil, length-append}
use Rattle.std.specs.Prelude.{◌&&◌, ◌||◌, not, nat_le, ◌-◌}
use Rattle.part_tree.specs.declared.plan.Patch.{Patch}
use Rattle.container_model.specs.Chunk.{Chunk, spell, spell_all}
use Rattle.container_model.specs.Splice.{Cut}
use Rattle.container_model.specs.Units.{Cell, kept, gap, edited, lacks_pad, padded, Piece, Slot, shut, begun, is_empty, kept_next, units, lead_pad, unit_bytes, lay}
use Rattle.container_model.specs.Units as Units
use Rattle.container_model.proofs.Units.{begun_bytes, spell_all-append}
use Rattle.carrier_model.specs.Info.{fill_by, riff_fill, room}
use Rattle.unit_plan.specs.Shapes.{parts_in, shape_of}
use Rattle.unit_plan.specs.Rows.{Outcome, both, counts, Open, none, unit_at, closed, no_more, open_next, row, IsPartCount, pieces_outcome, cells_outcome}

pub outcome_eq : (a b : Outcome) → a.cuts ≡ b.cuts → a.patches ≡ b.patches → a.fits ≡ b.fits → a.parts ≡ b.parts → a ≡ b
outcome_eq a b p q r s =
    ap (λ (x : List Cut). record { cuts = x; patches = a.patches; fits = a.fits; parts = a.parts }) p
    ∙ ap (λ (x : List Patch). record { cuts = b.cuts; patches = x; fits = a.fits; parts = a.parts }) q
    ∙ ap (λ (x : Bool). record { cuts = b.cuts; patches = b.patches; fits = x; parts = a.parts }) r
    ∙ ap (λ (x : ℕ). record { cuts = b.cuts; patches = b.patches; fits = b.fits; parts = x }) s

and_assoc : (a b c : Bool) → ((a && b) && c) ≡ (a && (b && c))
and_assoc true b c = refl
and_assoc false b c = refl

pub and_true : (a : Bool) → (a && true) ≡ a
and_true true = refl
and_true false = refl

pub and_false : (a : Bool) → (a && false) ≡ false
and_false true = refl
and_false false = refl

pub both_assoc : (a b c : Outcome) → both (both a b) c ≡ both a (both b c)
both_assoc a b c =
    outcome_eq (both (both a b) c) (both a (both b c)) (append_assoc a.cuts b.cuts c.cuts) (append_assoc a.patches b.patches c.patches) (and_assoc a.fits b.fits c.fits) (omega arith)

pub both_nothing : (a : Outcome) → both a (counts 0) ≡ a
both_nothing a = outcome_eq (both a (counts 0)) a (append-nil a.cuts) (append-nil a.patches) (and_true a.fits) (omega arith)

pub both_none : (a : Outcome) → both (counts 0) a ≡ a
both_none a = outcome_eq (both (counts 0) a) a refl refl refl (omega arith)

sum_counts : (m n : ℕ) (x : Outcome) → both (counts (m + n)) x ≡ both (counts m) (both (counts n) x)
sum_counts m n x = both_assoc (counts m) (counts n) x

-- ---- the pieces of cells

pub parts-append : (g : Chunk → ℕ) (a b : List Chunk) → parts_in g (a ++ b) ≡ parts_in g a + parts_in g b
parts-append g [] b = omega arith
parts-append g (c ∷ a) b = omega (arith, parts-append g a b)

abbrev open_of : ℕ → Slot → Open
open_of p shut = none
open_of p (begun lead slot now) = unit_at (p + length (spell_all lead)) slot (unit_bytes lead now)

same_empty : (g : Chunk → ℕ) (xs : List Cell) → is_empty xs ≡ no_more (map (shape_of g) xs)
same_empty g [] = refl
same_empty g (x ∷ xs) = refl

module _ (g : Chunk → ℕ) (ends : Bool) (count : IsPartCount g) where
  abbrev slot_parts : Slot → ℕ
  slot_parts shut = 0
  slot_parts (begun lead slot now) = parts_in g lead + parts_in g now

  padded_parts : (cs : List Chunk) → parts_in g (map padded cs) ≡ parts_in g cs
  padded_parts [] = refl
  padded_parts (c ∷ cs) = omega (arith, count.pads c, padded_parts cs)

  fill_parts : (slot : List ℕ) (s : ℕ) (t : Bool) → parts_in g (fill_by slot s t) ≡ length (fill_by slot s t)
  fill_parts slot s true = refl
  fill_parts slot s false = omega (arith, count.padding (room (length slot - s) slot s))

  unit_parts : (lead now fill : List Chunk) (rest : List Chunk) → parts_in g fill ≡ length fill
      → parts_in g ((map padded lead ++ (now ++ fill)) ++ rest) ≡ (parts_in g lead + parts_in g now) + (length fill + parts_in g rest)
  unit_parts lead now fill rest h =
      omega (arith, parts-append g (map padded lead ++ (now ++ fill)) rest, parts-append g (map padded lead) (now ++ fill), parts-append g now fill, padded_parts lead, h)

  closed_outcome : (last : Bool) (p at : ℕ) (s : Slot) (ps : List Piece) → at ≡ p + length (begun_bytes s)
      → pieces_outcome g ends p (Units.closed last s ++ ps) ≡ both (counts (slot_parts s)) (both (closed ends last (open_of p s)) (pieces_outcome g ends at ps))
  closed_outcome last p at shut ps e = let same : p ≡ at = omega (arith, e) in
      let whole = pieces_outcome g ends at ps in
      ap (λ (k : ℕ). pieces_outcome g ends k ps) same ∙ sym (both_none whole) ∙ sym (both_none (both (counts 0) whole))
  closed_outcome last p at (begun lead slot now) ps e =
      let fill = riff_fill ends last slot (length (unit_bytes lead now)) in
      outcome_eq (pieces_outcome g ends p (Units.closed last (begun lead slot now) ++ ps))
      (both (counts (slot_parts (begun lead slot now))) (both (closed ends last (open_of p (begun lead slot now))) (pieces_outcome g ends (p + length (spell_all lead ++ slot)) ps)))
      refl refl refl
      (unit_parts lead now fill (lay (riff_fill ends) ps) (fill_parts slot (length (unit_bytes lead now)) (nat_le (length slot) (length (unit_bytes lead now)) || (ends && last))))
      ∙ ap (λ (k : ℕ). both (counts (slot_parts (begun lead slot now))) (both (closed ends last (open_of p (begun lead slot now))) (pieces_outcome g ends k ps))) (sym e)

  next_outcome : (r : Bool) (c : Chunk) (at to : ℕ) (xs : List Cell) → to ≡ at + length (spell c)
      → ((p : ℕ) (s : Slot) → to ≡ p + length (begun_bytes s) → pieces_outcome g ends p (units s xs) ≡ both (counts (slot_parts s)) (row ends to (open_of p s) (map (shape_of g) xs)))
      → pieces_outcome g ends at (kept_next r c (λ t. units t xs)) ≡ both (counts (g c)) (row ends to (open_next r to) (map (shape_of g) xs))
  next_outcome true c at to xs e again =
      let one : spell_all (c ∷ []) ≡ spell c = append-nil (spell c) in
      let long : length (spell_all (c ∷ []) ++ []) ≡ length (spell c) = ap length (append-nil (spell_all (c ∷ [])) ∙ one) in
      let start : at + length (spell_all (c ∷ [])) ≡ to = omega (arith, e, ap length one) in
      let n : (g c + 0) + 0 ≡ g c = omega arith in
      again at (begun (c ∷ []) [] []) (omega (arith, e, long))
      ∙ ap (λ (k : ℕ). both (counts ((g c + 0) + 0)) (row ends to (unit_at k [] (0 ∷ [])) (map (shape_of g) xs))) start
      ∙ ap (λ (k : ℕ). both (counts k) (row ends to (unit_at to [] (0 ∷ [])) (map (shape_of g) xs))) n
  next_outcome false c at to xs e again =
      ap (λ (k : ℕ). both (counts (g c)) (pieces_outcome g ends k (units shut xs))) (sym e) ∙ ap (both (counts (g c))) (again to shut (omega arith) ∙ both_none (row ends to none (map (shape_of g) xs)))

  row_outcome : (p at : ℕ) (s : Slot) (xs : List Cell) → at ≡ p + length (begun_bytes s)
      → pieces_outcome g ends p (units s xs) ≡ both (counts (slot_parts s)) (row ends at (open_of p s) (map (shape_of g) xs))
  unfolding units row
  row_outcome p at s [] e =
      ap (pieces_outcome g ends p) (sym (append-nil (Units.closed true s))) ∙ closed_outcome true p at s [] e
      ∙ ap (both (counts (slot_parts s))) (both_nothing (closed ends true (open_of p s)))
  row_outcome p at s (kept c ∷ xs) e =
      let r = lacks_pad c && not (is_empty xs) in
      let to = at + length (spell c) in
      let before = λ (x : Outcome). both (counts (slot_parts s)) (both (closed ends false (open_of p s)) x) in
      closed_outcome false p at s (kept_next r c (λ t. units t xs)) e
      ∙ ap before (next_outcome r c at to xs refl (λ q t f. row_outcome q to t xs f))
      ∙ ap (λ (b : Bool). before (both (counts (g c)) (row ends to (open_next (lacks_pad c && not b) to) (map (shape_of g) xs)))) (same_empty g xs)
  row_outcome p at shut (gap c ∷ xs) e =
      let r = lacks_pad c && not (is_empty xs) in
      let to = at + length (spell c) in
      let same : p ≡ at = omega (arith, e) in
      ap (λ (k : ℕ). pieces_outcome g ends k (kept_next r c (λ t. units t xs))) same
      ∙ next_outcome r c at to xs refl (λ q t f. row_outcome q to t xs f)
      ∙ ap (λ (b : Bool). both (counts (g c)) (row ends to (open_next (lacks_pad c && not b) to) (map (shape_of g) xs))) (same_empty g xs)
      ∙ sym (both_none (row ends at none (map (shape_of g) (gap c ∷ xs))))
  row_outcome p at (begun lead slot now) (gap c ∷ xs) e =
      row_outcome p (at + length (spell c)) (begun lead (slot ++ spell c) now) xs (omega (arith, e, length-append (spell_all lead) slot, length-append (spell_all lead) (slot ++ spell c), length-append slot (spell c)))
  row_outcome p at shut (edited old new ∷ xs) e =
      let same : p + 0 ≡ at = omega (arith, e) in
      row_outcome p (at + length (spell_all old)) (begun [] (spell_all old) new) xs (omega (arith, e))
      ∙ ap (λ (k : ℕ). both (counts (0 + parts_in g new)) (row ends (at + length (spell_all old)) (unit_at k (spell_all old) (spell_all new)) (map (shape_of g) xs))) same
      ∙ sum_counts 0 (parts_in g new) (row ends (at + length (spell_all old)) (unit_at at (spell_all old) (spell_all new)) (map (shape_of g) xs))
  row_outcome p at (begun lead slot now) (edited old new ∷ xs) e =
      let to = at + length (spell_all old) in
      let start = p + length (spell_all lead) in
      let sum : parts_in g lead + parts_in g (now ++ new) ≡ (parts_in g lead + parts_in g now) + parts_in g new = omega (arith, parts-append g now new) in
      let spelled : unit_bytes lead (now ++ new) ≡ unit_bytes lead now ++ spell_all new = ap (λ (x : List ℕ). lead_pad lead ++ x) (spell_all-append now new) ∙ sym (append_assoc (lead_pad lead) (spell_all now) (spell_all new)) in
      row_outcome p to (begun lead (slot ++ spell_all old) (now ++ new)) xs (omega (arith, e, length-append (spell_all lead) slot, length-append (spell_all lead) (slot ++ spell_all old), length-append slot (spell_all old)))
      ∙ ap (λ (x : List ℕ). both (counts (parts_in g lead + parts_in g (now ++ new))) (row ends to (unit_at start (slot ++ spell_all old) x) (map (shape_of g) xs))) spelled
      ∙ ap (λ (k : ℕ). both (counts k) (row ends to (unit_at start (slot ++ spell_all old) (unit_bytes lead now ++ spell_all new)) (map (shape_of g) xs))) sum
      ∙ sum_counts (parts_in g lead + parts_in g now) (parts_in g new) (row ends to (unit_at start (slot ++ spell_all old) (unit_bytes lead now ++ spell_all new)) (map (shape_of g) xs))

  -- of a whole row
  pub cells_told : (at : ℕ) (xs : List Cell) → row ends at none (map (shape_of g) xs) ≡ cells_outcome g ends at xs
  cells_told at xs = sym (row_outcome at at shut xs (omega arith) ∙ both_none (row ends at none (map (shape_of g) xs)))

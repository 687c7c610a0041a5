-- A chunk of a stream's list where it is told, and what is left of the list behind it.
use Rattle.std.proofs.Common.{◌≡◌, ◌∙◌, ◌⊎◌, ℕ, ◌+◌, ◌-◌, ◌%◌, ◌≤◌, ◌<◌, Bool, false, eqb, ltb, List, [], ◌∷◌, ◌++◌, length, map, take, drop, refl, sym, ap, arith, inl, inr, append_assoc, length-append}
use Rattle.std.specs.Prelude.{◌&&◌, ◌||◌, Option}
use Rattle.std.proofs.lemmas.Bool.{cases_lt, eq-eqb, ne_eqb, lt-ltb, le-ltb}
use Rattle.std.proofs.lemmas.List.{take_at}
use Rattle.std.proofs.lemmas.List.{map-append}
use Rattle.me_bytes.specs.Bytes.{IsBytes}
use Rattle.container_model.specs.Chunk.{Chunk, Run, riff, and_then, ends, joined, passes, spell, spell_all, stopped}
use Rattle.container_model.specs.Sizes.{plain, riff_front}
use Rattle.container_model.specs.Units.{lacks_pad}
use Rattle.container_model.specs.Windows.{window}
use Rattle.container_model.specs.Written.{slice}
use Rattle.container_model.proofs.Codec.{IsBytes-drop, chunks_joined}
use Rattle.container_model.proofs.Fronts.{IsBytes-take, riff_gives_back}
use Rattle.container_model.proofs.Windows.{window-take}
use Rattle.container_model.proofs.Written.{length-slice}
use Rattle.carrier_model.specs.Names.{is_name}
use Rattle.riff_form.specs.declared.ChunkAt.{ChunkAt}
use Rattle.riff_form.specs.Walk.{InOrder, chunk_in, row}
use Rattle.part_tree.specs.declared.names.Span.{Span}
use Rattle.unit_plan.specs.Shapes.{Shape, shape_of}
use Rattle.unit_plan.specs.Places.{Follow, shape_in}
use Rattle.unit_plan.specs.declared.place.Place.{Place}
use Rattle.avi_names.specs.Names.{chunks_of}
use Rattle.avi_plan.specs.Strls.{StandsThere, cells_from, name_cell, one, put_here, shapes}

-- ---- a chunk stands there

pub there : (b : List ℕ) (at end : ℕ) (k : ChunkAt) → IsBytes b → end ≤ length b → InOrder at end k → row b at end ≡ and_then (chunk_in b riff k) (row b k.next end) → at + length (spell (chunk_in b riff k)) ≡ k.next → StandsThere b k
there b at end k bytes inside order step place =
    let c = chunk_in b riff k in
    let n = length (spell c) in
    let rest = row b k.next end in
    let read : joined (row b at end) ≡ window b at end = chunks_joined riff_front riff_gives_back plain (window b at end) (IsBytes-take (end - at) (drop at b) (IsBytes-drop at b bytes)) in
    let whole : window b at end ≡ spell c ++ joined rest = sym read ∙ ap joined step ∙ append_assoc (spell c) (spell_all rest.chunks) rest.left in
    let long : k.next - at ≡ n = omega (arith, place) in
    let here : window b at k.next ≡ spell c
    = ap (λ (m : ℕ). take m (drop at b)) long ∙ sym (window-take b at end n (omega (arith, place, order.last))) ∙ ap (take n) whole ∙ take_at (spell c) (joined rest) n refl in
    record { inside = omega (arith, order.last, inside); spelled = ap (λ (p : ℕ). window b p k.next) order.begins ∙ here }

-- its pad
pub lacks_is : (b : List ℕ) (k : ChunkAt) → k.next ≤ length b → InOrder k.at k.next k → lacks_pad (chunk_in b riff k) ≡ (eqb (k.body.len % 2) 1 && eqb k.next (k.body.at + k.body.len))
lacks_is b k inside order = ap (λ (n : ℕ). ltb n (length (slice b k.body.at k.body.len) % 2)) pad ∙ ap (λ (n : ℕ). ltb (k.next - end) (n % 2)) body ∙ go (cases_lt (k.next - end) (k.body.len % 2))
  where
    end : ℕ
    end = k.body.at + k.body.len

    body : length (slice b k.body.at k.body.len) ≡ k.body.len
    body = length-slice b k.body.at k.body.len (omega (arith, order.whole, inside))

    pad : length (slice b end (k.next - end)) ≡ k.next - end
    pad = length-slice b end (k.next - end) (omega (arith, order.whole, inside))

    go : (k.next - end < k.body.len % 2) ⊎ (k.body.len % 2 ≤ k.next - end) → ltb (k.next - end) (k.body.len % 2) ≡ (eqb (k.body.len % 2) 1 && eqb k.next end)
    go (inl lt) =
        lt-ltb (k.next - end) (k.body.len % 2) lt ∙ sym (ap (λ (t : Bool). t && eqb k.next end) (eq-eqb (k.body.len % 2) 1 (omega (arith, lt))) ∙ eq-eqb k.next end (omega (arith, lt, order.whole)))
    go (inr le) = le-ltb (k.next - end) (k.body.len % 2) le ∙ sym (none (cases_lt 0 (k.body.len % 2)))
      where
        none : (0 < k.body.len % 2) ⊎ (k.body.len % 2 ≤ 0) → (eqb (k.body.len % 2) 1 && eqb k.next end) ≡ false
        none (inl odd) = ap (λ (t : Bool). t && eqb k.next end) (eq-eqb (k.body.len % 2) 1 (omega (arith, odd))) ∙ ne_eqb k.next end (λ e. omega (arith, e, le, odd, order.whole))
        none (inr even) = ap (λ (t : Bool). t && eqb k.next end) (ne_eqb (k.body.len % 2) 1 (λ e. omega (arith, e, even)))

-- ---- one place more

pub follow_more : (from at : ℕ) (ps : List Place) (p : Place) → Follow from ps at → p.at ≡ at → at ≤ p.next → Follow from (ps ++ p ∷ []) p.next
follow_more from at [] p h here le = (here ∙ sym h, omega (arith, here, le), omega arith, refl)
follow_more from at (q ∷ ps) p h here le = (h.0, h.1, omega (arith, h.2, le), follow_more q.next at ps p h.3 here le)

pub shapes_more : (b : List ℕ) (ps : List Place) (p : Place) → map (shape_in b) (ps ++ p ∷ []) ≡ map (shape_in b) ps ++ shape_in b p ∷ []
shapes_more b ps p = map-append (shape_in b) ps (p ∷ [])

-- ---- the row so far, and what is left

-- the places so far with the cells that are left are all
pub record RowLeft (b : List ℕ) (ns : List Chunk) (place : Option ℕ) (met : Bool) (at : ℕ) (rest : Run) (done whole : List Shape) : Type 0 where
  pub all : done ++ shapes (cells_from ns place met at rest.chunks) ≡ whole

-- how many chunks there are, and where they end
pub record CountLeft (at count : ℕ) (rest all : Run) (from : ℕ) : Type 0 where
  pub counted : count + length rest.chunks ≡ length all.chunks
  pub ended : at + length (spell_all rest.chunks) ≡ from + length (spell_all all.chunks)
  pub whole : rest.stop ≡ ends

pub count_next : (at to count : ℕ) (rest next all : Run) (from : ℕ) (c : Chunk) → CountLeft at count rest all from → rest ≡ and_then c next → at + length (spell c) ≡ to → CountLeft to (count + 1) next all from
count_next at to count rest next all from c left step place = record {
  counted = omega (arith, left.counted, ap (λ (r : Run). length r.chunks) step);
  ended = omega (arith, left.ended, ap (λ (r : Run). length (spell_all r.chunks)) step, place, length-append (spell c) (spell_all next.chunks));
  whole = ap (λ (r : Run). r.stop) (sym step) ∙ left.whole;
}

pub count_start : (b : List ℕ) (at end : ℕ) (strl : Span) → at ≡ strl.at → end ≡ strl.at + strl.len → (chunks_of b strl).stop ≡ ends → CountLeft at 0 (row b at end) (chunks_of b strl) strl.at
count_start b at end strl a e w = rw (a, e) (record { counted = omega arith; ended = refl; whole = w })

pub row_start : (b : List ℕ) (ns : List Chunk) (place : Option ℕ) (at end : ℕ) (strl : Span) (ps : List Place) → at ≡ strl.at → end ≡ strl.at + strl.len → ps ≡ []
    → RowLeft b ns place false at (row b at end) (map (shape_in b) ps) (shapes (cells_from ns place false strl.at (chunks_of b strl).chunks))
row_start b ns place at end strl ps a e i = rw (a, e, i) (record { all = refl })

pub row_next : (b : List ℕ) (ns : List Chunk) (place : Option ℕ) (met t : Bool) (at to : ℕ) (rest next : Run) (c : Chunk) (done mid new whole : List Shape) → RowLeft b ns place met at rest done whole
    → rest ≡ and_then c next → at + length (spell c) ≡ to → mid ≡ done ++ shapes (put_here ns place at) → new ≡ mid ++ shapes (name_cell ns met c ∷ []) → t ≡ (met || is_name c) → RowLeft b ns place t to next new whole
row_next b ns place met t at to rest next c done mid new whole left step goes m n u =
    let xs = cells_from ns place (met || is_name c) to next.chunks in
    let here = put_here ns place at in
    let cell = name_cell ns met c in
    record {
      all = ap (λ (z : List Shape). z ++ shapes (cells_from ns place t to next.chunks)) n
          ∙ ap (λ (v : Bool). (mid ++ shapes (cell ∷ [])) ++ shapes (cells_from ns place v to next.chunks)) u
          ∙ append_assoc mid (shapes (cell ∷ [])) (shapes xs)
          ∙ ap (λ (z : List Shape). z ++ shapes (cell ∷ xs)) m
          ∙ append_assoc done (shapes here) (shapes (cell ∷ xs))
          ∙ ap (λ (z : List Shape). done ++ z) (sym (map-append (shape_of one) here (cell ∷ xs)))
          ∙ ap (λ (p : ℕ). done ++ shapes (here ++ cell ∷ cells_from ns place (met || is_name c) p next.chunks)) (sym goes)
          ∙ ap (λ (r : Run). done ++ shapes (cells_from ns place met at r.chunks)) (sym step)
          ∙ left.all;
    }

pub row_end : (b : List ℕ) (ns : List Chunk) (place : Option ℕ) (met : Bool) (at : ℕ) (rest : Run) (bytes : List ℕ) (done new whole : List Shape) → RowLeft b ns place met at rest done whole
    → rest ≡ stopped ends bytes → new ≡ done ++ shapes (put_here ns place at) → new ≡ whole
row_end b ns place met at rest bytes done new whole left stop n = n ∙ ap (λ (r : Run). done ++ shapes (cells_from ns place met at r.chunks)) (sym stop) ∙ left.all

pub count_end : (at count : ℕ) (rest all : Run) (from : ℕ) (bytes : List ℕ) → CountLeft at count rest all from → rest ≡ stopped ends bytes → (count ≡ length all.chunks) × (at ≡ from + length (spell_all all.chunks))
count_end at count rest all from bytes left stop =
    (omega (arith, left.counted, ap (λ (r : Run). length r.chunks) stop), omega (arith, left.ended, ap (λ (r : Run). length (spell_all r.chunks)) stop))

pub not_cut : (rest : Run) (bytes : List ℕ) → rest.stop ≡ ends → rest ≡ stopped passes bytes → ⊥
not_cut rest bytes w e = let clash : passes ≡ ends = ap (λ (r : Run). r.stop) (sym e) ∙ w in cc

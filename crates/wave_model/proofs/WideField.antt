-- Where a form becomes RF64, the span of the size of `data` stands among those of the edit's units, by its place.
use Rattle.std.proofs.Common.{◌≡◌, ℕ, ◌+◌, ◌-◌, ◌≤◌, Bool, true, false, cond, leb, List, [], ◌∷◌, ◌++◌, length, refl, sym, ap, subst, ◌∙◌, arith, append-nil, length-append}
use Rattle.std.specs.Prelude.{◌&&◌, not, codes, take, drop}
use Rattle.std.specs.List.{flat_map, AllByRecursion}
use Rattle.std.proofs.lemmas.Bool.{cond-true, cond-false, le-leb, leb-true}
use Rattle.field_model.specs.Update.{RawItem}
use Rattle.part_tree.specs.declared.names.Span.{Span}
use Rattle.container_model.specs.Chunk.{Chunk, spell, spell_all, header_bytes}
use Rattle.container_model.specs.Splice.{Cut}
use Rattle.container_model.specs.Units.{Cell, kept, gap, edited, was, live, Piece, replaced, Slot, shut, begun, units, kept_next, is_empty, lacks_pad, Fill, cut_of, cuts}
use Rattle.container_model.proofs.Codec.{IsBytes}
use Rattle.container_model.proofs.Units.{AllCells, From, begun_bytes, cuts_from, spell_all-append}
use Rattle.carrier_model.specs.Info.{is_padding}
use Rattle.carrier_model.specs.Steps.{carried}
use Rattle.carrier_model.proofs.Cells.{Gaps}
use Rattle.carrier_model.proofs.Steps.{NowCells, gaps_carried, live_carried, now_both, now_carried, was_carried}
use Rattle.wave_model.specs.Wave.{is_big, Wave, wave_of, cells_of}
use Rattle.wave_model.specs.Fields.{has_id, body_in}
use Rattle.wave_model.specs.Carry.{steps}
use Rattle.wave_model.specs.New.{fill_of, pieces_of, new_children, children_at}
use Rattle.wave_model.specs.Map.{body_span, sound_from, sound}
use Rattle.wave_model.specs.Edited.{Supported, sounds}
use Rattle.wave_model.specs.Widen.{reserved, first_len, field_cut, field_cuts, wide_cuts}
use Rattle.wave_model.proofs.Acts.{IsMade, all_made, other_id}
use Rattle.wave_model.proofs.Cells.{was_cells, now_cells, gaps_cells}
use Rattle.wave_model.proofs.Few.{Silent, made_silent}
use Rattle.wave_model.proofs.New.{ListsSmall, old_live, old_seen}
use Rattle.wave_model.proofs.Edited.{not_padding, same_sounds}
use Rattle.wave_model.proofs.Values.{ItemsFine, sound_bodies}
use Rattle.wave_model.proofs.Widened.{PlainChunk, no_ds64, cells_plain}
use Rattle.wave_model.proofs.WideCuts.{NoData, head_len, behind_same}

-- ---- one span among others

-- a span behind those that begin where it does or before
abbrev pub put_cut : Cut → List Cut → List Cut
put_cut k [] = k ∷ []
put_cut k (c ∷ cs) = cond (leb c.at k.at) (c ∷ put_cut k cs) (k ∷ (c ∷ cs))

not_below : (a b : ℕ) → b + 1 ≤ a → leb a b ≡ false
not_below a b l = go (leb a b) refl
  where
    go : (t : Bool) → leb a b ≡ t → t ≡ false
    go true e = absurd (omega (arith, l, leb-true a b e))
    go false e = refl

put_first : (k : Cut) (cs : List Cut) → From (k.at + 1) cs → put_cut k cs ≡ k ∷ cs
put_first k [] h = refl
put_first k (c ∷ cs) h = cond-false (leb c.at k.at) (c ∷ put_cut k cs) (k ∷ (c ∷ cs)) (not_below c.at k.at h)

put_past : (k c : Cut) (cs : List Cut) → c.at ≤ k.at → put_cut k (c ∷ cs) ≡ c ∷ put_cut k cs
put_past k c cs l = cond-true (leb c.at k.at) (c ∷ put_cut k cs) (k ∷ (c ∷ cs)) (le-leb c.at k.at l)

-- the size of `data` where the chunk stands at a place
abbrev pub field_of : ℕ → Cut
field_of at = record { at = at + 4; len = 4; bytes = 255 ∷ 255 ∷ 255 ∷ 255 ∷ [] }

-- ---- pieces of cells

-- no `data` is kept
abbrev KeptQuiet : List Cell → Type 0
KeptQuiet [] = Unit {0}
KeptQuiet (kept c ∷ xs) = NoData c × KeptQuiet xs
KeptQuiet (gap c ∷ xs) = NoData c × KeptQuiet xs
KeptQuiet (edited old now ∷ xs) = KeptQuiet xs

abbrev lead_of : Slot → List Chunk
lead_of shut = []
lead_of (begun lead slot now) = lead

no_field : (at : ℕ) (c : Chunk) → NoData c → field_cut at c ≡ []
no_field at c n = cond-false (has_id (codes "data") c) _ [] n

no_fields : (at : ℕ) (cs : List Chunk) → AllByRecursion NoData cs → field_cuts at cs ≡ []
no_fields at [] h = refl
no_fields at (c ∷ cs) h = ap (λ (x : List Cut). x ++ field_cuts (at + length (spell c)) cs) (no_field at c h.0) ∙ no_fields (at + length (spell c)) cs h.1

module _ (fill : Fill) where
  -- only what stands before the unit that has begun has a field
  quiet_next : (r : Bool) (c : Chunk) (p : ℕ) (xs : List Cell) → NoData c
      → ((s : Slot) (q : ℕ) → wide_cuts fill q (units s xs) ≡ field_cuts q (lead_of s) ++ cuts fill q (units s xs))
      → wide_cuts fill p (kept_next r c (λ t. units t xs)) ≡ cuts fill p (kept_next r c (λ t. units t xs))
  quiet_next true c p xs n again = again (begun (c ∷ []) [] []) p ∙ ap (λ (x : List Cut). x ++ cuts fill p (units (begun (c ∷ []) [] []) xs)) (no_fields p (c ∷ []) (n, tt))
  quiet_next false c p xs n again =
      ap (λ (x : List Cut). x ++ wide_cuts fill (p + length (spell c)) (units shut xs)) (no_field p c n) ∙ again shut (p + length (spell c))

  quiet_units : (s : Slot) (p : ℕ) (xs : List Cell) → KeptQuiet xs → wide_cuts fill p (units s xs) ≡ field_cuts p (lead_of s) ++ cuts fill p (units s xs)
  unfolding units
  quiet_units shut p [] q = refl
  quiet_units (begun lead slot now) p [] q = refl
  quiet_units shut p (kept c ∷ xs) q = quiet_next (lacks_pad c && not (is_empty xs)) c p xs q.0 (λ t k. quiet_units t k xs q.1)
  quiet_units (begun lead slot now) p (kept c ∷ xs) q =
      ap (λ (x : List Cut). field_cuts p lead ++ (cut_of fill p lead slot now false ∷ x)) (quiet_next (lacks_pad c && not (is_empty xs)) c (p + length (spell_all lead ++ slot)) xs q.0 (λ t k. quiet_units t k xs q.1))
  quiet_units shut p (gap c ∷ xs) q = quiet_next (lacks_pad c && not (is_empty xs)) c p xs q.0 (λ t k. quiet_units t k xs q.1)
  quiet_units (begun lead slot now) p (gap c ∷ xs) q = quiet_units (begun lead (slot ++ spell c) now) p xs q.1
  quiet_units shut p (edited old new ∷ xs) q = quiet_units (begun [] (spell_all old) new) p xs q
  quiet_units (begun lead slot now) p (edited old new ∷ xs) q = quiet_units (begun lead (slot ++ spell_all old) (now ++ new)) p xs q

  -- a unit's slot stands behind what stands before it
  unit_from : (lead : List Chunk) (slot : List ℕ) (now : List Chunk) (p : ℕ) (xs : List Cell) → From (p + length (spell_all lead)) (cuts fill p (units (begun lead slot now) xs))
  unfolding units
  unit_from lead slot now p [] = omega arith
  unit_from lead slot now p (kept c ∷ xs) = omega arith
  unit_from lead slot now p (gap c ∷ xs) = unit_from lead (slot ++ spell c) now p xs
  unit_from lead slot now p (edited old new ∷ xs) = unit_from lead (slot ++ spell_all old) (now ++ new) p xs

  module _ (d : Chunk) (is_data : has_id (codes "data") d ≡ true) (long : 8 ≤ length (spell d)) (xs : List Cell) (quiet : KeptQuiet xs) where
    here : (r : Bool) (q : ℕ) → wide_cuts fill q (kept_next r d (λ t. units t xs)) ≡ put_cut (field_of q) (cuts fill q (kept_next r d (λ t. units t xs)))
    here true q =
        let one : spell_all (d ∷ []) ≡ spell d = append-nil (spell d) in
        let cs = cuts fill q (units (begun (d ∷ []) [] []) xs) in
        let from : From (q + 4 + 1) cs = Rattle.container_model.proofs.Units.From-low (q + 4 + 1) (q + length (spell_all (d ∷ []))) cs (omega (arith, long, ap length one)) (unit_from (d ∷ []) [] [] q xs) in
        quiet_units (begun (d ∷ []) [] []) q xs quiet ∙ ap (λ (x : List Cut). (x ++ []) ++ cs) (cond-true (has_id (codes "data") d) (field_of q ∷ []) [] is_data) ∙ sym (put_first (field_of q) cs from)
    here false q =
        let at = q + length (spell d) in
        let cs = cuts fill at (units shut xs) in
        ap (λ (x : List Cut). x ++ wide_cuts fill at (units shut xs)) (cond-true (has_id (codes "data") d) (field_of q ∷ []) [] is_data)
        ∙ ap (λ (x : List Cut). field_of q ∷ x) (quiet_units shut at xs quiet) ∙ sym (put_first (field_of q) cs (cuts_from fill at (units shut xs) (q + 4 + 1) (omega (arith, long))))

    -- a unit that ends before it
    behind_unit : (at p p' : ℕ) (lead : List Chunk) (slot : List ℕ) (now : List Chunk) (ps : List Piece) → AllByRecursion NoData lead → p + length (spell_all lead) ≤ at + 4 → p' ≡ p + length (spell_all lead ++ slot)
        → wide_cuts fill p' ps ≡ put_cut (field_of at) (cuts fill p' ps) → wide_cuts fill p (replaced lead slot now false ∷ ps) ≡ put_cut (field_of at) (cuts fill p (replaced lead slot now false ∷ ps))
    behind_unit at p p' lead slot now ps n l e h =
        let c = cut_of fill p lead slot now false in
        let next = p + length (spell_all lead ++ slot) in
        ap (λ (x : List Cut). x ++ (c ∷ wide_cuts fill next ps)) (no_fields p lead n) ∙ ap (λ (x : List Cut). c ∷ x) (subst (λ (k : ℕ). wide_cuts fill k ps ≡ put_cut (field_of at) (cuts fill k ps)) e h)
        ∙ sym (put_past (field_of at) c (cuts fill next ps) l)

    among_next : (r : Bool) (c : Chunk) (q at : ℕ) (a : List Cell) → NoData c → at ≡ q + (length (spell c) + length (spell_all (flat_map was a)))
        → ((s : Slot) (p : ℕ) → AllByRecursion NoData (lead_of s) → at ≡ p + (length (begun_bytes s) + length (spell_all (flat_map was a)))
        → wide_cuts fill p (units s (a ++ kept d ∷ xs)) ≡ put_cut (field_of at) (cuts fill p (units s (a ++ kept d ∷ xs))))
        → wide_cuts fill q (kept_next r c (λ t. units t (a ++ kept d ∷ xs))) ≡ put_cut (field_of at) (cuts fill q (kept_next r c (λ t. units t (a ++ kept d ∷ xs))))
    among_next true c q at a n e again =
        let one : length (spell_all (c ∷ []) ++ []) ≡ length (spell c) = ap length (append-nil (spell c ++ []) ∙ append-nil (spell c)) in
        again (begun (c ∷ []) [] []) q (n, tt) (omega (arith, e, one))
    among_next false c q at a n e again =
        ap (λ (x : List Cut). x ++ wide_cuts fill (q + length (spell c)) (units shut (a ++ kept d ∷ xs))) (no_field q c n) ∙ again shut (q + length (spell c)) tt (omega (arith, e))

    field_among : (s : Slot) (p at : ℕ) (a : List Cell) → AllByRecursion NoData (lead_of s) → KeptQuiet a → at ≡ p + (length (begun_bytes s) + length (spell_all (flat_map was a)))
        → wide_cuts fill p (units s (a ++ kept d ∷ xs)) ≡ put_cut (field_of at) (cuts fill p (units s (a ++ kept d ∷ xs)))
    unfolding units
    field_among shut p at [] n k e =
        let same : p ≡ at = omega (arith, e) in
        here (lacks_pad d && not (is_empty xs)) p ∙ ap (λ (j : ℕ). put_cut (field_of j) (cuts fill p (kept_next (lacks_pad d && not (is_empty xs)) d (λ t. units t xs)))) same
    field_among (begun lead slot now) p at [] n k e =
        let ps = kept_next (lacks_pad d && not (is_empty xs)) d (λ t. units t xs) in
        behind_unit at p at lead slot now ps n (omega (arith, e, length-append (spell_all lead) slot)) (omega (arith, e)) (here (lacks_pad d && not (is_empty xs)) at)
    field_among shut p at (kept c ∷ a) n k e =
        among_next (lacks_pad c && not (is_empty (a ++ kept d ∷ xs))) c p at a k.0 (omega (arith, e, length-append (spell c) (spell_all (flat_map was a)))) (λ t j m i. field_among t j at a m k.1 i)
    field_among (begun lead slot now) p at (kept c ∷ a) n k e =
        let q = p + length (spell_all lead ++ slot) in
        behind_unit at p q lead slot now (kept_next (lacks_pad c && not (is_empty (a ++ kept d ∷ xs))) c (λ t. units t (a ++ kept d ∷ xs))) n (omega (arith, e, length-append (spell_all lead) slot)) refl
        (among_next (lacks_pad c && not (is_empty (a ++ kept d ∷ xs))) c q at a k.0 (omega (arith, e, length-append (spell_all lead) slot, length-append (spell c) (spell_all (flat_map was a)))) (λ t j m i. field_among t j at a m k.1 i))
    field_among shut p at (gap c ∷ a) n k e =
        among_next (lacks_pad c && not (is_empty (a ++ kept d ∷ xs))) c p at a k.0 (omega (arith, e, length-append (spell c) (spell_all (flat_map was a)))) (λ t j m i. field_among t j at a m k.1 i)
    field_among (begun lead slot now) p at (gap c ∷ a) n k e =
        field_among (begun lead (slot ++ spell c) now) p at a n k.1
        (omega (arith, e, length-append (spell c) (spell_all (flat_map was a)), length-append (spell_all lead) slot, length-append (spell_all lead) (slot ++ spell c), length-append slot (spell c)))
    field_among shut p at (edited old new ∷ a) n k e =
        field_among (begun [] (spell_all old) new) p at a tt k (omega (arith, e, ap length (spell_all-append old (flat_map was a)), length-append (spell_all old) (spell_all (flat_map was a))))
    field_among (begun lead slot now) p at (edited old new ∷ a) n k e =
        field_among (begun lead (slot ++ spell_all old) (now ++ new)) p at a n k
        (
        omega (
          arith,
          e,
          ap length (spell_all-append old (flat_map was a)),
          length-append (spell_all old) (spell_all (flat_map was a)),
          length-append (spell_all lead) slot,
          length-append (spell_all lead) (slot ++ spell_all old),
          length-append slot (spell_all old),
        )
        )

-- ---- the `data` that is kept

abbrev count : List Chunk → ℕ
count cs = length (sounds cs)

abbrev one : Chunk → ℕ
one c = length (body_in (has_id (codes "data")) c)

count_first : (c : Chunk) (cs : List Chunk) → count (c ∷ cs) ≡ one c + count cs
count_first c cs = length-append (body_in (has_id (codes "data")) c) (sounds cs)

count_both : (a b : List Chunk) → count (a ++ b) ≡ count a + count b
count_both [] b = omega arith
count_both (c ∷ a) b = omega (arith, count_first c (a ++ b), count_first c a, count_both a b)

one_not : (c : Chunk) → NoData c → one c ≡ 0
one_not c n = ap (λ (x : List (List ℕ)). length x) (cond-false (has_id (codes "data") c) (c.body ∷ []) [] n)

one_data : (c : Chunk) → has_id (codes "data") c ≡ true → one c ≡ 1
one_data c e = ap (λ (x : List (List ℕ)). length x) (cond-true (has_id (codes "data") c) (c.body ∷ []) [] e)

none_quiet : (cs : List Chunk) → count cs ≡ 0 → AllByRecursion NoData cs
none_quiet [] z = tt
none_quiet (c ∷ cs) z = go (has_id (codes "data") c) refl (none_quiet cs (omega (arith, z, count_first c cs)))
  where
    go : (t : Bool) → has_id (codes "data") c ≡ t → AllByRecursion NoData cs → NoData c × AllByRecursion NoData cs
    go true e more = absurd (omega (arith, z, count_first c cs, one_data c e))
    go false e more = (e, more)

silent_none : (cs : List Chunk) → AllByRecursion Silent cs → count cs ≡ 0
silent_none [] h = refl
silent_none (c ∷ cs) h = omega (arith, count_first c cs, one_not c h.0.1, silent_none cs h.1)

gap_quiet : (c : Chunk) → is_padding c ≡ true → NoData c
gap_quiet c p = other_id (codes "data") c refl p

abbrev Padding : Chunk → Type 0
Padding c = is_padding c ≡ true

live_low : (xs : List Cell) → NowCells Silent xs → count (flat_map live xs) ≤ count (flat_map was xs)
live_low [] n = omega arith
live_low (kept c ∷ xs) n = omega (arith, count_first c (flat_map live xs), count_first c (flat_map was xs), live_low xs n)
live_low (gap c ∷ xs) n = omega (arith, count_first c (flat_map was xs), live_low xs n)
live_low (edited old now ∷ xs) n = omega (arith, count_both now (flat_map live xs), count_both old (flat_map was xs), silent_none now n.0, live_low xs n.1)

quiet_kept : (xs : List Cell) → Gaps Padding xs → NowCells Silent xs → count (flat_map live xs) ≡ 0 → KeptQuiet xs
quiet_kept [] g n z = tt
quiet_kept (kept c ∷ xs) g n z = go (has_id (codes "data") c) refl (quiet_kept xs g n (omega (arith, z, count_first c (flat_map live xs))))
  where
    go : (t : Bool) → has_id (codes "data") c ≡ t → KeptQuiet xs → NoData c × KeptQuiet xs
    go true e more = absurd (omega (arith, z, count_first c (flat_map live xs), one_data c e))
    go false e more = (e, more)
quiet_kept (gap c ∷ xs) g n z = (gap_quiet c g.0, quiet_kept xs g.1 n z)
quiet_kept (edited old now ∷ xs) g n z = quiet_kept xs g n.1 (omega (arith, z, count_both now (flat_map live xs)))

-- the cell of `data`
record Found (ys : List Cell) : Type 0 where
  before : List Cell
  chunk : Chunk
  after : List Cell
  cells_are : ys ≡ before ++ kept chunk ∷ after
  is_data : has_id (codes "data") chunk ≡ true
  quiet_before : KeptQuiet before
  quiet_after : KeptQuiet after
  old_quiet : AllByRecursion NoData (flat_map was before)

all_both : (a b : List Chunk) → AllByRecursion NoData a → AllByRecursion NoData b → AllByRecursion NoData (a ++ b)
all_both [] b h g = g
all_both (c ∷ a) b h g = (h.0, all_both a b h.1 g)

find : (ys : List Cell) → Gaps Padding ys → NowCells Silent ys → count (flat_map live ys) ≡ 1 → count (flat_map was ys) ≡ 1 → Found ys
find [] g n l w = absurd (omega (arith, l))
find (kept c ∷ ys) g n l w = go (has_id (codes "data") c) refl (λ p q. find ys g n p q)
  where
    go : (t : Bool) → has_id (codes "data") c ≡ t → (count (flat_map live ys) ≡ 1 → count (flat_map was ys) ≡ 1 → Found ys) → Found (kept c ∷ ys)
    go true e again = record {
      before = [];
      chunk = c;
      after = ys;
      cells_are = refl;
      is_data = e;
      quiet_before = tt;
      quiet_after = quiet_kept ys g n (omega (arith, l, count_first c (flat_map live ys), one_data c e));
      old_quiet = tt;
    }
    go false e again =
        let f = again (omega (arith, l, count_first c (flat_map live ys), one_not c e)) (omega (arith, w, count_first c (flat_map was ys), one_not c e)) in
        record {
          before = kept c ∷ f.before;
          chunk = f.chunk;
          after = f.after;
          cells_are = ap (λ (xs : List Cell). kept c ∷ xs) f.cells_are;
          is_data = f.is_data;
          quiet_before = (e, f.quiet_before);
          quiet_after = f.quiet_after;
          old_quiet = (e, f.old_quiet);
        }
find (gap c ∷ ys) g n l w =
    let q = gap_quiet c g.0 in
    let f = find ys g.1 n l (omega (arith, w, count_first c (flat_map was ys), one_not c q)) in
    record {
      before = gap c ∷ f.before;
      chunk = f.chunk;
      after = f.after;
      cells_are = ap (λ (xs : List Cell). gap c ∷ xs) f.cells_are;
      is_data = f.is_data;
      quiet_before = (q, f.quiet_before);
      quiet_after = f.quiet_after;
      old_quiet = (q, f.old_quiet);
    }
find (edited old now ∷ ys) g n l w =
    let kept_one : count (flat_map live ys) ≡ 1 = omega (arith, l, count_both now (flat_map live ys), silent_none now n.0) in
    let low = live_low ys n.1 in
    let f = find ys g n.1 kept_one (omega (arith, w, count_both old (flat_map was ys), low, kept_one)) in
    record {
      before = edited old now ∷ f.before;
      chunk = f.chunk;
      after = f.after;
      cells_are = ap (λ (xs : List Cell). edited old now ∷ xs) f.cells_are;
      is_data = f.is_data;
      quiet_before = f.quiet_before;
      quiet_after = f.quiet_after;
      old_quiet = all_both old (flat_map was f.before) (none_quiet old (omega (arith, w, count_both old (flat_map was ys), low, kept_one))) f.old_quiet;
    }

was_split : (a : List Cell) (d : Chunk) (xs : List Cell) → flat_map was (a ++ kept d ∷ xs) ≡ flat_map was a ++ d ∷ flat_map was xs
was_split a d xs = Rattle.std.proofs.lemmas.List.Concat.flat_map-append was a (kept d ∷ xs)

sound_behind : (at : ℕ) (a : List Chunk) (d : Chunk) (cs : List Chunk) → AllByRecursion NoData a → has_id (codes "data") d ≡ true → sound_from at (a ++ d ∷ cs) ≡ body_span (at + length (spell_all a)) d
sound_behind at [] d cs n e = cond-true (has_id (codes "data") d) (body_span at d) (sound_from (at + length (spell d)) cs) e ∙ ap (λ (k : ℕ). body_span k d) (omega arith)
sound_behind at (c ∷ a) d cs n e =
    let next = at + length (spell c) in
    cond-false (has_id (codes "data") c) (body_span at c) (sound_from next (a ++ d ∷ cs)) n.0 ∙ sound_behind next a d cs n.1 e
    ∙ ap (λ (k : ℕ). body_span k d) (omega (arith, length-append (spell c) (spell_all a)))

kept_has : (P : Chunk → Type 0) (a : List Cell) (d : Chunk) (xs : List Cell) → AllCells P (a ++ kept d ∷ xs) → P d
kept_has P [] d xs h = h.0
kept_has P (kept c ∷ a) d xs h = kept_has P a d xs h.1
kept_has P (gap c ∷ a) d xs h = kept_has P a d xs h.1
kept_has P (edited old now ∷ a) d xs h = kept_has P a d xs h.1

module _ (o : List ℕ) (bytes : IsBytes o) (sup : Supported o) (narrow : is_big (take 4 o) ≡ false) (e : List RawItem) (f : ItemsFine e) (small : ListsSmall (wave_of o) e) where
  abbrev w : Wave
  w = wave_of o

  abbrev ys : List Cell
  ys = carried (steps e) (cells_of (wave_of o))

  found : Found ys
  found =
      let made_ones : NowCells IsMade ys = now_carried IsMade (steps e) (all_made e) (cells_of w) (now_cells IsMade w.ds64 w.children) in
      let silent : NowCells Silent ys = now_both IsMade IsMade Silent (λ c m n. made_silent c m) ys made_ones made_ones in
      let gaps : Gaps Padding ys = gaps_carried Padding (steps e) (cells_of w) (gaps_cells Padding (λ c i. i) w.ds64 w.children) in
      let lives : sounds (flat_map live ys) ≡ sounds w.children =
      ap sounds (live_carried (steps e) (cells_of w)) ∙ sound_bodies e (old_live o bytes sup e f small) ∙ old_seen o bytes sup e f small (body_in (has_id (codes "data"))) (not_padding o bytes sup e f small (codes "data") refl)
      in
      let olds : flat_map was ys ≡ w.children = was_carried (steps e) (cells_of w) ∙ was_cells w.ds64 w.children in
      find ys gaps silent (ap (λ (x : List (List ℕ)). length x) lives ∙ sup.children.one_sound) (ap (λ (cs : List Chunk). length (sounds cs)) olds ∙ sup.children.one_sound)

  -- where the sound stands
  sound_is : sound o ≡ body_span (children_at w + length (spell_all (flat_map was found.before))) found.chunk
  sound_is =
      let olds : w.children ≡ flat_map was found.before ++ found.chunk ∷ flat_map was found.after = sym (ap (flat_map was) (sym found.cells_are) ∙ was_carried (steps e) (cells_of w) ∙ was_cells w.ds64 w.children) ∙ was_split found.before found.chunk found.after in
      ap (sound_from (children_at w)) olds ∙ sound_behind (children_at w) (flat_map was found.before) found.chunk (flat_map was found.after) found.old_quiet found.is_data

  -- The spans of the pieces of a form that becomes RF64 are those of its units, and the size of `data` in its place.
  pub field_placed : wide_cuts (fill_of w) (12 + length (spell_all (reserved w.children))) (drop (length (reserved w.children)) (pieces_of w e))
      ≡ put_cut (record { at = (sound o).at - 4; len = 4; bytes = 255 ∷ 255 ∷ 255 ∷ 255 ∷ [] }) (cuts (fill_of w) (children_at w) (pieces_of w e))
  field_placed =
      let d = found.chunk in
      let plain : PlainChunk d = kept_has PlainChunk found.before d found.after (subst (AllCells PlainChunk) found.cells_are (cells_plain o bytes sup narrow e f small)) in
      let long : 8 ≤ length (spell d) = omega (arith, head_len 0 d plain, length-append (header_bytes d.form d.id (length d.body)) (d.body ++ d.pad)) in
      let first : children_at w ≡ 12 = ap (λ (ds : List Chunk). 8 + length (codes "WAVE" ++ spell_all ds)) (no_ds64 o bytes sup narrow) in
      let at = 12 + length (spell_all (flat_map was found.before)) in
      let place : (sound o).at - 4 ≡ at + 4 = omega (arith, ap (λ (s : Span). s.at) sound_is, first) in
      let among : wide_cuts (fill_of w) 12 (units shut (found.before ++ kept d ∷ found.after)) ≡ put_cut (field_of at) (cuts (fill_of w) 12 (units shut (found.before ++ kept d ∷ found.after)))
      = field_among (fill_of w) d found.is_data long found.after found.quiet_after shut 12 at found.before tt found.quiet_before (omega arith) in
      behind_same o bytes sup narrow e f small
      ∙ subst (λ (zs : List Cell). wide_cuts (fill_of w) 12 (units shut zs) ≡ put_cut (field_of at) (cuts (fill_of w) 12 (units shut zs))) (sym found.cells_are) among
      ∙ ap (λ (k : ℕ). put_cut (record { at = k; len = 4; bytes = 255 ∷ 255 ∷ 255 ∷ 255 ∷ [] }) (cuts (fill_of w) 12 (pieces_of w e))) (sym place)
      ∙ ap (λ (k : ℕ). put_cut (record { at = (sound o).at - 4; len = 4; bytes = 255 ∷ 255 ∷ 255 ∷ 255 ∷ [] }) (cuts (fill_of w) k (pieces_of w e))) (sym first)

  -- The first sound of the new form is as long as it stands in the file.
  pub sound_len : first_len (sounds (new_children w e)) ≡ (sound o).len
  sound_len =
      let d = found.chunk in
      let olds : w.children ≡ flat_map was found.before ++ d ∷ flat_map was found.after = sym (ap (flat_map was) (sym found.cells_are) ∙ was_carried (steps e) (cells_of w) ∙ was_cells w.ds64 w.children) ∙ was_split found.before d found.after in
      ap first_len (same_sounds o bytes sup e f small ∙ ap sounds olds) ∙ behind (flat_map was found.before) d (flat_map was found.after) found.old_quiet found.is_data ∙ sym (ap (λ (s : Span). s.len) sound_is)
    where
      behind : (a : List Chunk) (d : Chunk) (cs : List Chunk) → AllByRecursion NoData a → has_id (codes "data") d ≡ true → first_len (sounds (a ++ d ∷ cs)) ≡ length d.body
      behind [] d cs n e = ap (λ (x : List (List ℕ)). first_len (x ++ sounds cs)) (cond-true (has_id (codes "data") d) (d.body ∷ []) [] e)
      behind (c ∷ a) d cs n e = ap (λ (x : List (List ℕ)). first_len (x ++ sounds (a ++ d ∷ cs))) (cond-false (has_id (codes "data") c) (c.body ∷ []) [] n.0) ∙ behind a d cs n.1 e

-- The new file is the old one with the spans of one ascending list replaced, the tables among them.
use Rattle.std.proofs.Common.{◌≡◌, ℕ, suc, ◌+◌, ◌-◌, ◌^◌, ◌<◌, ◌≤◌, Bool, true, false, cond, List, [], ◌∷◌, ◌++◌, length, map, take, drop, None, refl, sym, ap, subst, ◌∙◌, arith, inl, inr}
use Rattle.std.specs.Prelude.{Some, ◌⊎◌, ◌&&◌, not}
use Rattle.std.specs.Int.{w32, to_le_bytes}
use Rattle.std.specs.Str.{bytes_eq}
use Rattle.std.specs.List.{flat_map, AllByRecursion}
use Rattle.std.proofs.lemmas.List.{length-append, length-take, length-drop, take-append-drop, take_at, drop_at, drop-drop}
use Rattle.me_bytes.specs.Bytes.{IsBytes}
use Rattle.container_model.specs.Chunk.{riff, Chunk, spell, spell_all}
use Rattle.container_model.specs.Splice.{Cut, end_of, splice, splice_from, Ascend, shift, Outside}
use Rattle.container_model.specs.Stood.{Stood}
use Rattle.container_model.specs.Tables.{Table, table_of}
use Rattle.container_model.specs.Tests.{first}
use Rattle.container_model.specs.Units.{Cell, kept, gap, edited, lacks_pad, is_empty, Piece, Slot, shut, begun, closed, units, kept_next, lead_pad, unit_bytes, Fill, cuts, live}
use Rattle.container_model.proofs.Codec.{as_many}
use Rattle.container_model.proofs.Copied.{Moves_as_one}
use Rattle.container_model.proofs.Units.{From, From-low, splice_past, cuts_from}
use Rattle.carrier_model.specs.Cells.{Change, leave, become, changed_cell, counted, count_all, settle, settle_cells, Test, Side, behind, before, meets, some_meets, beside, insert, only_gaps, new_cell, insert_cell, acted_cells}
use Rattle.carrier_model.proofs.Gaps.{places_put}
use Rattle.carrier_model.specs.Info.{info, info_items, is_padding}
use Rattle.carrier_model.specs.Lists.{edit_nth, home as home_of, all_items, has_carrier, sets_some, new_carrier, lists_act_by}
use Rattle.carrier_model.specs.RiffForm.{pad_cut, with_size, fill_of}
use Rattle.opendml_index.specs.Index.{How, move}
use Rattle.avi_model.specs.Avi.{Avi, avi_of, inner, form_of, old_indexes}
use Rattle.avi_model.specs.Avi.{behind as behind_form}
use Rattle.avi_model.proofs.Cuts.{size_same}
use Rattle.avi_model.proofs.Stands.{is_file}
use Rattle.avi_model.specs.Index.{renumbered, indexes, writes, base, write_index, write_old}
use Rattle.avi_model.specs.Large.{new_avi, all_checks}
use Rattle.avi_model.specs.NewFile.{Items, home, new_cells, new_size, pad_after, edit_cuts, moves, laid_file, edited_file, cut_of_write, table_cuts, put_cuts, size_cut, file_cuts}
use Rattle.avi_model.specs.Named.{cell_by, cell_of, riff_of}
use Rattle.avi_model.specs.Splices.{IsOneSplice}
use Rattle.avi_model.specs.Support.{Supported}
use Rattle.avi_model.proofs.Among.{Among, among_all}
use Rattle.avi_model.proofs.Edited.{spliced_law}
use Rattle.avi_model.proofs.Fit.{Fits, fits_of}
use Rattle.avi_model.proofs.Frames.{alone, same_cuts, ascends, again as read_again}
use Rattle.avi_model.proofs.Merged.{ApartFrom, Level, AllApart, Real, GoesAsOne, rigid_apart, merged, merged_ascends, merged_shifts, first_shifts, all_low, put_both}
use Rattle.avi_model.proofs.Listed.{fits_after, listed_laid}
use Rattle.avi_model.proofs.Moves.{index_rests, old_fine}
use Rattle.avi_model.proofs.Sound.{index_bytes, old_bytes}
use Rattle.avi_model.proofs.Tabled.{tables_ascend, tables_spliced, all_tables}
use Rattle.avi_model.proofs.Tables.{olds_carried}

-- ---- each slot has bytes, or gets some

-- a cell that is edited had a chunk, or has one now
abbrev pub AllReal : List Cell → Type 0
AllReal [] = Unit {0}
AllReal (kept c ∷ xs) = AllReal xs
AllReal (gap c ∷ xs) = AllReal xs
AllReal (edited old now ∷ xs) = (0 < length old + length now) × AllReal xs

abbrev pub SlotReal : Slot → Type 0
SlotReal shut = Unit {0}
SlotReal (begun lead slot now) = 0 < length lead + (length slot + length now)

lead_length : (lead : List Chunk) → 0 < length lead → 0 < length (lead_pad lead)
lead_length [] h = h
lead_length (c ∷ cs) h = omega arith

closed_real : (fill : Fill) (at : ℕ) (last : Bool) (t : Slot) (ps : List Piece) → SlotReal t → ((q : ℕ) → AllByRecursion Real (cuts fill q ps)) → AllByRecursion Real (cuts fill at (closed last t ++ ps))
closed_real fill at last shut ps h g = g at
closed_real fill at last (begun lead slot now) ps h g = (some lead h, g (at + length (spell_all lead ++ slot)))
  where
    more : List Chunk → List ℕ
    more lead = spell_all (fill last slot (length (unit_bytes lead now)))

    some : (lead : List Chunk) → 0 < length lead + (length slot + length now) → 0 < length slot + length (unit_bytes lead now ++ spell_all (fill last slot (length (unit_bytes lead now))))
    some [] h = omega (arith, h, as_many now, length-append (unit_bytes [] now) (spell_all (fill last slot (length (unit_bytes [] now)))), length-append (lead_pad []) (spell_all now))
    some (c ∷ cs) h = omega (arith, length-append (unit_bytes (c ∷ cs) now) (spell_all (fill last slot (length (unit_bytes (c ∷ cs) now)))), length-append (lead_pad (c ∷ cs)) (spell_all now))

next_real : (fill : Fill) (at : ℕ) (r : Bool) (c : Chunk) (more : Slot → List Piece) → ((t : Slot) (q : ℕ) → SlotReal t → AllByRecursion Real (cuts fill q (more t))) → AllByRecursion Real (cuts fill at (kept_next r c more))
next_real fill at true c more g = g (begun (c ∷ []) [] []) at (omega arith)
next_real fill at false c more g = g shut (at + length (spell c)) tt

pub units_real : (fill : Fill) (at : ℕ) (t : Slot) (xs : List Cell) → SlotReal t → AllReal xs → AllByRecursion Real (cuts fill at (units t xs))
unfolding units
units_real fill at shut [] h r = tt
units_real fill at (begun lead slot now) [] h r = closed_real fill at true (begun lead slot now) [] h (λ q. tt)
units_real fill at t (kept c ∷ xs) h r =
    closed_real fill at false t (kept_next (lacks_pad c && not (is_empty xs)) c (λ u. units u xs)) h (λ q. next_real fill q (lacks_pad c && not (is_empty xs)) c (λ u. units u xs) (λ u k s. units_real fill k u xs s r))
units_real fill at shut (gap c ∷ xs) h r = next_real fill at (lacks_pad c && not (is_empty xs)) c (λ u. units u xs) (λ u k s. units_real fill k u xs s r)
units_real fill at (begun lead slot now) (gap c ∷ xs) h r = units_real fill at (begun lead (slot ++ spell c) now) xs (omega (arith, h, length-append slot (spell c))) r
units_real fill at shut (edited old new ∷ xs) h r = units_real fill at (begun [] (spell_all old) new) xs (omega (arith, r.0, as_many old)) r.1
units_real fill at (begun lead slot now) (edited old new ∷ xs) h r =
    units_real fill at (begun lead (slot ++ spell_all old) (now ++ new)) xs (omega (arith, h, length-append slot (spell_all old), length-append now new)) r.1

-- ---- the cells of an edit

pub real_cells : (cs : List Chunk) → AllReal (map cell_of cs)
real_cells [] = tt
real_cells (c ∷ cs) = go (is_padding c) (real_cells cs)
  where
    go : (t : Bool) → AllReal (map cell_of cs) → AllReal (cell_by c t ∷ map cell_of cs)
    go true h = h
    go false h = h

real_changed : (d : Change) (c : Chunk) (xs : List Cell) → AllReal xs → AllReal (changed_cell d c ∷ xs)
real_changed leave c xs h = h
real_changed (become cs) c xs h = (omega arith, h)

-- no cell is edited yet
abbrev pub Fresh : List Cell → Type 0
Fresh [] = Unit {0}
Fresh (kept c ∷ xs) = Fresh xs
Fresh (gap c ∷ xs) = Fresh xs
Fresh (edited old now ∷ xs) = ⊥

pub fresh_cells : (cs : List Chunk) → Fresh (map cell_of cs)
fresh_cells [] = tt
fresh_cells (c ∷ cs) = go (is_padding c) (fresh_cells cs)
  where
    go : (t : Bool) → Fresh (map cell_of cs) → Fresh (cell_by c t ∷ map cell_of cs)
    go true h = h
    go false h = h

pub real_settled : (p : Chunk → Bool) (f : ℕ → Chunk → Change) (n : ℕ) (xs : List Cell) → Fresh xs → AllReal (settle_cells p f n xs)
real_settled p f n [] h = tt
real_settled p f n (kept c ∷ xs) h = real_changed (Rattle.carrier_model.specs.Cells.change_at p f n c) c (settle_cells p f (counted p n c) xs) (real_settled p f (counted p n c) xs h)
real_settled p f n (gap c ∷ xs) h = real_settled p f n xs h
real_settled p f n (edited old now ∷ xs) h = absurd h

real_beside : (s : Side) (c d : Chunk) (xs : List Cell) → AllReal xs → AllReal (beside s (new_cell c) (kept d) ++ xs)
real_beside behind c d xs h = (omega arith, h)
real_beside before c d xs h = (omega arith, h)

real_inserted : (s : Side) (t : Test) (c : Chunk) (xs : List Cell) → Fresh xs → AllReal xs → AllReal (insert_cell s t c xs)
real_inserted s t c [] f h = (omega arith, tt)
real_inserted s t c (kept d ∷ xs) f h = go (meets t d) (real_inserted s t c xs f h)
  where
    go : (b : Bool) → AllReal (insert_cell s t c xs) → AllReal (cond b (beside s (new_cell c) (kept d) ++ xs) (kept d ∷ insert_cell s t c xs))
    go true again = real_beside s c d xs h
    go false again = again
real_inserted s t c (gap d ∷ xs) f h = go (only_gaps xs) (real_inserted s t c xs f h)
  where
    go : (b : Bool) → AllReal (insert_cell s t c xs) → AllReal (cond b (new_cell c ∷ (gap d ∷ xs)) (gap d ∷ insert_cell s t c xs))
    go true again = (omega arith, h)
    go false again = again
real_inserted s t c (edited old now ∷ xs) f h = absurd f

pub real_new : (a : Avi) (e : Items) → AllReal (new_cells a e)
real_new a e = go (has_carrier info cs)
  where
    cs : List Chunk
    cs = flat_map live (map cell_of a.children)

    fresh : (b : Bool) → AllReal (acted_cells (new_carrier info info_items home e b) (map cell_of a.children))
    fresh true = real_inserted behind home _ (map cell_of a.children) (fresh_cells a.children) (real_cells a.children)
    fresh false = real_cells a.children

    go : (b : Bool) → AllReal (acted_cells (lists_act_by info info_items home e cs b) (map cell_of a.children))
    go false = fresh (sets_some e)
    go true = real_settled info.is (edit_nth info info_items (home_of (all_items info info_items cs)) e) 0 (map cell_of a.children) (fresh_cells a.children)

pub pad_real : (at : ℕ) (old new : List ℕ) → AllByRecursion Real (pad_cut at old new)
pad_real at old new = go (bytes_eq old new) refl old new refl refl
  where
    go : (t : Bool) → bytes_eq old new ≡ t → (x y : List ℕ) → old ≡ x → new ≡ y → AllByRecursion Real (cond t [] (record { at = at; len = length old; bytes = new } ∷ []))
    go true e x y i j = tt
    go false e [] [] i j = let same : bytes_eq old new ≡ true = ap (λ (z : List ℕ). bytes_eq z new) i ∙ ap (bytes_eq []) j in absurd cc
    go false e (b ∷ x) y i j = (omega (arith, ap length i), tt)
    go false e [] (b ∷ y) i j = (omega (arith, ap length j), tt)

pub both_real : (a b : List Cut) → AllByRecursion Real a → AllByRecursion Real b → AllByRecursion Real (a ++ b)
both_real [] b h g = g
both_real (c ∷ a) b h g = (h.0, both_real a b h.1 g)

cuts_real : (a : Avi) (e : Items) → AllByRecursion Real (edit_cuts a e)
cuts_real a e =
    both_real (cuts (fill_of (riff_of a)) 12 (units shut (new_cells a e))) (pad_cut (8 + length (inner a.children a.left)) a.pad (pad_after a e)) (units_real (fill_of (riff_of a)) 12 shut (new_cells a e) tt (real_new a e))
    (pad_real (8 + length (inner a.children a.left)) a.pad (pad_after a e))

-- ---- the form's size

-- it stands before all other spans
pub sized : (n : ℕ) (b : List ℕ) (ds : List Cut) → 8 ≤ length b → From 8 ds → with_size riff n (splice b ds) ≡ splice b (size_cut n ∷ ds)
sized n b ds long from =
    let x = take 4 b in
    let y = take 4 (drop 4 b) in
    let z = drop 8 b in
    let rest = splice_from 8 z ds in
    let x4 : length x ≡ 4 = omega (arith, length-take 4 b, long) in
    let y4 : length y ≡ 4 = omega (arith, length-take 4 (drop 4 b), length-drop 4 b, long) in
    let back : drop 4 (drop 4 b) ≡ z = drop-drop 4 4 b in
    let parts : b ≡ (x ++ y) ++ z = sym (take-append-drop 4 b) ∙ ap (λ (q : List ℕ). x ++ q) (sym (take-append-drop 4 (drop 4 b)) ∙ ap (λ (q : List ℕ). y ++ q) back) ∙ sym (Rattle.std.proofs.Common.append_assoc x y z) in
    let eight : length (x ++ y) ≡ 8 = omega (arith, x4, y4, length-append x y) in
    let at8 : 0 + length (x ++ y) ≡ 8 = omega (arith, eight) in
    let made : splice b ds ≡ x ++ (y ++ rest)
    = ap (λ (q : List ℕ). splice q ds) parts ∙ splice_past 0 (x ++ y) z ds (rw at8 from) ∙ ap (λ (k : ℕ). (x ++ y) ++ splice_from k z ds) at8 ∙ Rattle.std.proofs.Common.append_assoc x y rest in
    ap (with_size riff n) made ∙ ap (λ (q : List ℕ). q ++ (to_le_bytes w32 n ++ drop 8 (x ++ (y ++ rest)))) (take_at x (y ++ rest) 4 x4)
    ∙ ap (λ (q : List ℕ). x ++ (to_le_bytes w32 n ++ q)) (ap (drop 8) (sym (Rattle.std.proofs.Common.append_assoc x y rest)) ∙ drop_at (x ++ y) rest 8 eight)

-- ---- all spans begin behind the form's header

pub from_first : (ds : List Cut) (end : ℕ) → From 12 ds → Ascend 0 ds end → AllByRecursion (λ c. 8 ≤ c.at) ds
from_first [] end f a = tt
from_first (d ∷ ds) end f a = (omega (arith, f), weaken ds (all_low (end_of d) end ds a.1))
  where
    weaken : (cs : List Cut) → AllByRecursion (λ c. end_of d ≤ c.at) cs → AllByRecursion (λ c. 8 ≤ c.at) cs
    weaken [] h = tt
    weaken (c ∷ cs) h = (omega (arith, h.0, f), weaken cs h.1)

pub first_of_low : (ds : List Cut) → AllByRecursion (λ c. 8 ≤ c.at) ds → From 8 ds
first_of_low [] h = tt
first_of_low (d ∷ ds) h = h.0

pub raise : (ds : List Cut) (end : ℕ) → AllByRecursion (λ c. 8 ≤ c.at) ds → 8 ≤ end → Ascend 0 ds end → Ascend 8 ds end
raise [] end h l a = l
raise (d ∷ ds) end h l a = (h.0, a.1)

pad_from : (at : ℕ) (old new : List ℕ) → From at (pad_cut at old new)
pad_from at old new = go (bytes_eq old new)
  where
    go : (t : Bool) → From at (cond t [] (record { at = at; len = length old; bytes = new } ∷ []))
    go true = tt
    go false = omega arith

first_cut : (a : Avi) (e : Items) → From 12 (edit_cuts a e)
first_cut a e = both (cuts (fill_of (riff_of a)) 12 (units shut (new_cells a e))) (cuts_from (fill_of (riff_of a)) 12 (units shut (new_cells a e)) 12 (omega arith))
  where
    last : List Cut
    last = pad_cut (8 + length (inner a.children a.left)) a.pad (pad_after a e)

    behind_it : From 12 (pad_cut (8 + length (inner a.children a.left)) a.pad (pad_after a e))
    behind_it = From-low 12 (8 + length (inner a.children a.left)) (pad_cut (8 + length (inner a.children a.left)) a.pad (pad_after a e)) (omega arith) (pad_from (8 + length (inner a.children a.left)) a.pad (pad_after a e))

    both : (cs : List Cut) → From 12 cs → From 12 (cs ++ pad_cut (8 + length (inner a.children a.left)) a.pad (pad_after a e))
    both [] h = behind_it
    both (c ∷ cs) h = h

-- ---- the file

module _ (o : List ℕ) (bytes : IsBytes o) (s : Supported o) (e : Items) (fit : Fits o e) where
  abbrev a : Avi
  a = avi_of o

  abbrev how : How
  how = move (shift (edit_cuts (avi_of o) e))

  abbrev tables : List Cut
  tables = table_cuts (move (shift (edit_cuts (avi_of o) e))) o

  small : length (inner (Rattle.avi_model.specs.NewFile.new_children (Rattle.avi_model.proofs.Read.renewed_avi (writes (move (shift (edit_cuts (avi_of o) e))) o) (avi_of o)) e) (avi_of o).left) < 2 ^ 32
  small = omega (arith, fit.form_short, ap (λ (x : Avi). length (inner x.children x.left)) (ap (λ (x : Avi). Rattle.avi_model.specs.NewFile.laid x e) (read_again o bytes s (move (shift (edit_cuts (avi_of o) e))))))

  olds_as_one : AllByRecursion (Moves_as_one (shift (edit_cuts (avi_of o) e)) (λ p. Outside (edit_cuts (avi_of o) e) p)) (old_indexes (avi_of o))
  olds_as_one = subst (λ (x : List Cut). AllByRecursion (Moves_as_one (shift x) (λ p. Outside x p)) (old_indexes (avi_of o))) (same_cuts o bytes s how e) (olds_carried a e (writes how o)).1

  order : Ascend 0 (edit_cuts (avi_of o) e) (length o)
  order = ascends o bytes s how e

  -- a chunk that goes as one keeps clear of the spans
  clear_of : (c : Cut) (head n : ℕ) → c.at ≡ head + 8 → end_of c ≡ head + n → 8 ≤ n → GoesAsOne (edit_cuts (avi_of o) e) head n (shift (edit_cuts (avi_of o) e) head) → AllByRecursion (ApartFrom c) (edit_cuts (avi_of o) e)
  clear_of c head n at end long g = turn (edit_cuts (avi_of o) e) (rigid_apart 0 (length o) head n (shift (edit_cuts (avi_of o) e) head) (edit_cuts (avi_of o) e) order (omega (arith, long)) (cuts_real a e) g)
    where
      turn : (ds : List Cut) → AllByRecursion (λ d. (head + n ≤ d.at) ⊎ (end_of d ≤ head)) ds → AllByRecursion (ApartFrom c) ds
      turn [] h = tt
      turn (d ∷ ds) h = (one h.0, turn ds h.1)
        where
          one : (head + n ≤ d.at) ⊎ (end_of d ≤ head) → (end_of c ≤ d.at) ⊎ (end_of d ≤ c.at)
          one (inl l) = inl (omega (arith, l, end))
          one (inr l) = inr (omega (arith, l, at))

  tables_apart : AllApart (table_cuts (move (shift (edit_cuts (avi_of o) e))) o) (edit_cuts (avi_of o) e)
  tables_apart = all_tables o bytes s how (λ c. AllByRecursion (ApartFrom c) (edit_cuts (avi_of o) e)) index old
    where
      index : (t : Table) → Among t (indexes o) → AllByRecursion (ApartFrom (cut_of_write (write_index (move (shift (edit_cuts (avi_of o) e))) t))) (edit_cuts (avi_of o) e)
      index t i =
          let r = index_rests o bytes s (shift (edit_cuts (avi_of o) e)) (λ p. Outside (edit_cuts (avi_of o) e) p) (Rattle.avi_model.specs.NewFile.laid (Rattle.avi_model.proofs.Read.renewed_avi (writes (move (shift (edit_cuts (avi_of o) e))) o) (avi_of o)) e) (listed_laid o bytes s e small) (fits_after o bytes s e small fit) t i in
          clear_of (cut_of_write (write_index how t)) r.head (8 + length t.body) r.at_is (omega (arith, r.at_is, index_bytes o bytes s how t i)) (omega arith) (λ k lt. r.rigid k lt)

      old : (x : Stood) → Among x (old_indexes (avi_of o)) → AllByRecursion (ApartFrom (cut_of_write (write_old (move (shift (edit_cuts (avi_of o) e))) (base o) (table_of x)))) (edit_cuts (avi_of o) e)
      old x i =
          let m = among_all (Moves_as_one (shift (edit_cuts (avi_of o) e)) (λ p. Outside (edit_cuts (avi_of o) e) p)) (old_indexes (avi_of o)) olds_as_one x i in
          let k = Rattle.avi_model.proofs.Lies.body_end x (old_fine o bytes s (shift (edit_cuts (avi_of o) e)) (λ p. Outside (edit_cuts (avi_of o) e) p) (Rattle.avi_model.specs.NewFile.laid (Rattle.avi_model.proofs.Read.renewed_avi (writes (move (shift (edit_cuts (avi_of o) e))) o) (avi_of o)) e) (listed_laid o bytes s e small) (fits_after o bytes s e small fit) x i).head in
          clear_of (cut_of_write (write_old how (base o) (table_of x))) x.at (8 + length x.chunk.body) refl (omega (arith, old_bytes o bytes s how (table_of x))) (omega arith) (λ j lt. m j (omega (arith, k, lt)))

  tables_level : AllByRecursion Level (table_cuts (move (shift (edit_cuts (avi_of o) e))) o)
  tables_level = all_tables o bytes s how Level (λ t i. refl) (λ x i. refl)

  -- all spans begin behind the form's header
  tables_low : AllByRecursion (λ c. 8 ≤ c.at) (table_cuts (move (shift (edit_cuts (avi_of o) e))) o)
  tables_low = all_tables o bytes s how (λ c. 8 ≤ c.at) (λ t i. let r = index_rests o bytes s (shift (edit_cuts (avi_of o) e)) (λ p. Outside (edit_cuts (avi_of o) e) p) (Rattle.avi_model.specs.NewFile.laid (Rattle.avi_model.proofs.Read.renewed_avi (writes (move (shift (edit_cuts (avi_of o) e))) o) (avi_of o)) e) (listed_laid o bytes s e small) (fits_after o bytes s e small fit) t i in omega (arith, r.at_is)) (λ x i. omega arith)

  edits_low : AllByRecursion (λ c. 8 ≤ c.at) (edit_cuts (avi_of o) e)
  edits_low = from_first (edit_cuts (avi_of o) e) (length o) (first_cut (avi_of o) e) order

  -- All but the size, by place.
  abbrev others : List Cut
  others = put_cuts (table_cuts (move (shift (edit_cuts (avi_of o) e))) o) (edit_cuts (avi_of o) e)

  low : AllByRecursion (λ c. 8 ≤ c.at) (put_cuts (table_cuts (move (shift (edit_cuts (avi_of o) e))) o) (edit_cuts (avi_of o) e))
  low = put_both (λ c. 8 ≤ c.at) tables (edit_cuts (avi_of o) e) tables_low edits_low

  long : 12 ≤ length o
  long = omega (arith, ap length (is_file o bytes s), length-append (spell (form_of (avi_of o))) (behind_form (avi_of o)), length-append (inner (avi_of o).children (avi_of o).left) (avi_of o).pad)

  -- The spans ascend.
  pub file_ascends : Ascend 0 (file_cuts o e) (length o)
  file_ascends = (omega arith, raise others (length o) low (omega (arith, long)) (merged_ascends (length o) tables (edit_cuts (avi_of o) e) (tables_ascend o bytes s how) order tables_apart))

  -- The new file is the old one with them replaced.
  pub file_spliced : laid_file o e ≡ splice o (file_cuts o e)
  file_spliced =
      let law = (spliced_law o e bytes s).0 in
      let size : length (inner (new_avi o e).children (new_avi o e).left) ≡ new_size (avi_of o) e
      = ap (λ (x : Avi). length (inner x.children x.left)) (ap (λ (x : Avi). Rattle.avi_model.specs.NewFile.laid x e) (read_again o bytes s how)) ∙ size_same (writes how o) a e (alone o bytes s how) in
      law ∙ ap (λ (n : ℕ). with_size riff n (splice (renumbered how o) (edit_cuts (avi_of o) e))) size
      ∙ ap (λ (b : List ℕ). with_size riff (new_size (avi_of o) e) (splice b (edit_cuts (avi_of o) e))) (tables_spliced o bytes s how)
      ∙ ap (with_size riff (new_size (avi_of o) e)) (sym (merged tables o (edit_cuts (avi_of o) e) tables_level (tables_ascend o bytes s how) order tables_apart))
      ∙ sized (new_size (avi_of o) e) o others (omega (arith, long)) (first_of_low others low)

  -- They shift each place as the slots and the pad alone.
  pub file_shifts : (p : ℕ) → shift (file_cuts o e) p ≡ moves o e p
  file_shifts p =
      let rest = raise others (length o) low (omega (arith, long)) (merged_ascends (length o) tables (edit_cuts (avi_of o) e) (tables_ascend o bytes s how) order tables_apart) in
      first_shifts (size_cut (new_size (avi_of o) e)) (length o) others p refl rest ∙ merged_shifts (length o) tables (edit_cuts (avi_of o) e) p tables_level (tables_ascend o bytes s how) order tables_apart

-- For an edit of fields: where something changes and nothing is too large.
pub one_splice : (o : List ℕ) (e : Items) → IsBytes o → Supported o → first (all_checks o e) ≡ None → (e ≡ []) ⊎ IsOneSplice o e (edited_file o e)
one_splice o [] bytes s none = inl refl
one_splice o (i ∷ e) bytes s none =
    let fit = fits_of o i e none in
    let asc = file_ascends o bytes s (i ∷ e) fit in
    inr (record { spliced = file_spliced o bytes s (i ∷ e) fit; ascend = asc; put = λ p out lt. places_put (file_cuts o (i ∷ e)) (length o) p asc out lt ∙ ap Some (file_shifts o bytes s (i ∷ e) fit p) })

-- No byte of the essence moves towards the start of the file by an edit of fields and names: the slots of the lists of fields and of
-- the padding around them were there before the names were set, so padding can fill each of them.
use Rattle.std.proofs.Common.{◌≡◌, ℕ, ◌+◌, ◌-◌, ◌^◌, ◌<◌, ◌≤◌, Bool, true, false, cond, List, [], ◌∷◌, ◌++◌, length, map, refl, ap, subst, ◌∙◌, arith}
use Rattle.std.specs.Prelude.{◌&&◌, not, codes}
use Rattle.std.specs.Str.{bytes_eq}
use Rattle.std.specs.List.{flat_map}
use Rattle.std.proofs.lemmas.List.{length-append}
use Rattle.me_bytes.specs.Bytes.{IsBytes}
use Rattle.container_model.specs.Chunk.{Chunk, spell, spell_all}
use Rattle.container_model.specs.Items.{is_nil}
use Rattle.container_model.specs.Splice.{shift, Outside}
use Rattle.container_model.specs.Stood.{only}
use Rattle.container_model.specs.Units.{Cell, kept, gap, edited, lacks_pad, Piece, Slot, shut, begun, is_empty, closed, kept_next, units, live}
use Rattle.container_model.proofs.Copied.{Later, Moves_as_one}
use Rattle.container_model.proofs.Places.{Before, old_length}
use Rattle.container_model.proofs.Splice.{shift_order}
use Rattle.carrier_model.specs.Cells.{Change, leave, become, changed_cell, change_at, counted, Side, behind, before, Test, beside, some_meets, meets, insert_cell, only_gaps, new_cell, settle_cells, acted_cells}
use Rattle.carrier_model.specs.Info.{info, info_items, is_padding, riff_fill}
use Rattle.carrier_model.specs.Lists.{edit_list_cells, edit_nth, has_carrier, lists_act, lists_act_by, new_carrier, sets_some}
use Rattle.carrier_model.specs.RiffForm.{pad_cut}
use Rattle.opendml_index.specs.Index.{move}
use Rattle.avi_model.specs.After.{Changes, children_after, goes, list_cuts, pad_after}
use Rattle.avi_model.specs.Avi.{Avi, avi_of, inner, is_movi, top}
use Rattle.avi_model.specs.Index.{writes}
use Rattle.avi_model.specs.Named.{Names, cell_by, cell_of, children_named, ends_file, hdrl_named, is_hdrl, named, name_cuts}
use Rattle.avi_model.specs.NewFile.{Items, home as behind_hdrl, new_cells}
use Rattle.avi_model.specs.Support.{Supported}
use Rattle.avi_model.proofs.Among.{among_all, among_only, stood_inside}
use Rattle.avi_model.proofs.Children.{AreChildren, behind_one, kids_of}
use Rattle.avi_model.proofs.Grows.{SlotsLow, cuts_grow, riff_grows, units_end}
use Rattle.avi_model.proofs.JoinedGoes.{behind_block, children, names_ascend, names_block}
use Rattle.avi_model.proofs.JoinedIs.{Grows}
use Rattle.avi_model.proofs.JoinedLaid.{hdrl_small, movis_go}
use Rattle.avi_model.proofs.Levels.{Ended, top_heads}
use Rattle.avi_model.proofs.NamedAlike.{not_info, not_padding}
use Rattle.avi_model.proofs.NamesGrow.{names_grow}
use Rattle.avi_model.proofs.Past.{children_length}
use Rattle.avi_model.proofs.Read.{renewed_avi}
use Rattle.avi_model.proofs.Respelled.{list_type}
use Rattle.avi_model.proofs.Sound.{ended}
use Rattle.avi_model.proofs.Walk.{IsRiffHead}

-- ---- slots

abbrev held : Slot → ℕ
held shut = 0
held (begun lead slot now) = length slot

-- what of some cells can stand in slots
abbrev weight : List Cell → ℕ
weight [] = 0
weight (kept c ∷ xs) = weight xs
weight (gap c ∷ xs) = length (spell c) + weight xs
weight (edited old now ∷ xs) = length (spell_all old) + weight xs

closed_low : (b : Bool) (s : Slot) (ps : List Piece) → held s < 2 ^ 32 → SlotsLow ps → SlotsLow (closed b s ++ ps)
closed_low b shut ps h k = k
closed_low b (begun lead slot now) ps h k = (h, k)

kept_low : (r : Bool) (c : Chunk) (more : Slot → List Piece) → ((s : Slot) → held s ≡ 0 → SlotsLow (more s)) → SlotsLow (kept_next r c more)
kept_low true c more h = h (begun (c ∷ []) [] []) refl
kept_low false c more h = h shut refl

units_low : (s : Slot) (xs : List Cell) → held s + weight xs < 2 ^ 32 → SlotsLow (units s xs)
unfolding units
units_low shut [] lt = tt
units_low (begun lead slot now) [] lt = (omega (arith, lt), tt)
units_low s (kept c ∷ xs) lt = closed_low false s _ (omega (arith, lt)) (kept_low (lacks_pad c && not (is_empty xs)) c (λ t. units t xs) (λ t z. units_low t xs (omega (arith, lt, z))))
units_low shut (gap c ∷ xs) lt = kept_low (lacks_pad c && not (is_empty xs)) c (λ t. units t xs) (λ t z. units_low t xs (omega (arith, lt, z)))
units_low (begun lead slot now) (gap c ∷ xs) lt = units_low (begun lead (slot ++ spell c) now) xs (omega (arith, lt, length-append slot (spell c)))
units_low shut (edited old new ∷ xs) lt = units_low (begun [] (spell_all old) new) xs (omega (arith, lt))
units_low (begun lead slot now) (edited old new ∷ xs) lt = units_low (begun lead (slot ++ spell_all old) (now ++ new)) xs (omega (arith, lt, length-append slot (spell_all old)))

-- ---- the cells of an edit

module _ (p : Chunk → Bool) where
  -- the same, where chunks that meet a test can change
  abbrev heavy : List Cell → ℕ
  heavy [] = 0
  heavy (kept c ∷ xs) = cond (p c) (length (spell c)) 0 + heavy xs
  heavy (gap c ∷ xs) = length (spell c) + heavy xs
  heavy (edited old now ∷ xs) = length (spell_all old) + heavy xs

  light : (xs : List Cell) → weight xs ≤ heavy xs
  light [] = omega arith
  light (kept c ∷ xs) = omega (arith, light xs)
  light (gap c ∷ xs) = omega (arith, light xs)
  light (edited old now ∷ xs) = omega (arith, light xs)

  settle_light : (f : ℕ → Chunk → Change) (n : ℕ) (xs : List Cell) → weight (settle_cells p f n xs) ≤ heavy xs
  settle_light f n [] = omega arith
  settle_light f n (kept c ∷ xs) = go (p c) (settle_light f (counted p n c) xs)
    where
      act : (d : Change) (more : List Cell) → weight more ≤ heavy xs → weight (changed_cell d c ∷ more) ≤ length (spell c) + heavy xs
      act leave more h = omega (arith, h)
      act (become cs) more h = omega (arith, h, length-append (spell c) [])

      go : (t : Bool) → weight (settle_cells p f (counted p n c) xs) ≤ heavy xs → weight (changed_cell (cond t (f n c) leave) c ∷ settle_cells p f (counted p n c) xs) ≤ cond t (length (spell c)) 0 + heavy xs
      go true h = act (f n c) (settle_cells p f (counted p n c) xs) h
      go false h = omega (arith, h)
  settle_light f n (gap c ∷ xs) = omega (arith, settle_light f n xs)
  settle_light f n (edited old now ∷ xs) = omega (arith, settle_light f (Rattle.carrier_model.specs.Cells.count_all p n now) xs)

insert_light : (t : Test) (c : Chunk) (xs : List Cell) → weight (insert_cell behind t c xs) ≤ weight xs
insert_light t c [] = omega arith
insert_light t c (kept d ∷ xs) = go (meets t d) (insert_light t c xs)
  where
    go : (b : Bool) → weight (insert_cell behind t c xs) ≤ weight xs → weight (cond b (beside behind (new_cell c) (kept d) ++ xs) (kept d ∷ insert_cell behind t c xs)) ≤ weight xs
    go true h = omega arith
    go false h = h
insert_light t c (gap d ∷ xs) = go (only_gaps xs) (insert_light t c xs)
  where
    go : (b : Bool) → weight (insert_cell behind t c xs) ≤ weight xs → weight (cond b (new_cell c ∷ (gap d ∷ xs)) (gap d ∷ insert_cell behind t c xs)) ≤ length (spell d) + weight xs
    go true h = omega arith
    go false h = omega (arith, h)
insert_light t c (edited old now ∷ xs) = go (some_meets t now) (insert_light t c xs)
  where
    go : (b : Bool) → weight (insert_cell behind t c xs) ≤ weight xs → weight (cond b (edited old (Rattle.carrier_model.specs.Cells.insert behind t c now) ∷ xs) (edited old now ∷ insert_cell behind t c xs)) ≤ length (spell_all old) + weight xs
    go true h = omega arith
    go false h = omega (arith, h)

edit_light : (e : Items) (xs : List Cell) → weight (edit_list_cells info info_items behind_hdrl e xs) ≤ heavy info.is xs
edit_light e xs = go (has_carrier info (flat_map live xs))
  where
    added : (b : Bool) → weight (acted_cells (new_carrier info info_items behind_hdrl e b) xs) ≤ weight xs
    added true = insert_light behind_hdrl (info.fresh (Rattle.container_model.specs.Items.put_all info_items e [])) xs
    added false = omega arith

    go : (b : Bool) → weight (acted_cells (lists_act_by info info_items behind_hdrl e (flat_map live xs) b) xs) ≤ heavy info.is xs
    go true = settle_light info.is (edit_nth info info_items (Rattle.carrier_model.specs.Lists.home (Rattle.carrier_model.specs.Lists.all_items info info_items (flat_map live xs))) e) 0 xs
    go false = omega (arith, added (sets_some e), light info.is xs)

-- ---- the first form with other names

one_heavy : (c : Chunk) (xs : List Cell) (n : ℕ) → heavy info.is xs ≤ n → heavy info.is (cell_of c ∷ xs) ≤ length (spell c) + n
one_heavy c xs n h = go (is_padding c)
  where
    kept_one : (t : Bool) → cond t (length (spell c)) 0 + heavy info.is xs ≤ length (spell c) + n
    kept_one true = omega (arith, h)
    kept_one false = omega (arith, h)

    go : (t : Bool) → heavy info.is (cell_by c t ∷ xs) ≤ length (spell c) + n
    go true = omega (arith, h)
    go false = kept_one (info.is c)

cells_heavy : (cs : List Chunk) → heavy info.is (map cell_of cs) ≤ length (spell_all cs)
cells_heavy [] = omega arith
cells_heavy (c ∷ cs) = omega (arith, one_heavy c (map cell_of cs) (length (spell_all cs)) (cells_heavy cs), length-append (spell c) (spell_all cs))

named_heavy : (e : Names) (last : Bool) (cs : List Chunk) → AreChildren cs → heavy info.is (map cell_of (children_named e last cs)) ≤ length (spell_all cs)
named_heavy e last [] h = omega arith
named_heavy e last (c ∷ cs) h = go (is_hdrl c) refl (λ i. named_heavy e last cs (behind_one c cs h i))
  where
    go : (t : Bool) → is_hdrl c ≡ t → (is_hdrl c ≡ false → heavy info.is (map cell_of (children_named e last cs)) ≤ length (spell_all cs))
        → heavy info.is (map cell_of (cond t (hdrl_named e (last && is_nil cs) c ∷ cs) (c ∷ children_named e last cs))) ≤ length (spell_all (c ∷ cs))
    go true i again =
        let new = hdrl_named e (last && is_nil cs) c in
        let typed : is_hdrl new ≡ true = list_type (codes "hdrl") c (kids_of e (last && is_nil cs) c) (h.1.0 i).0 ∙ i in
        let one : heavy info.is (cell_of new ∷ map cell_of cs) ≡ cond (info.is new) (length (spell new)) 0 + heavy info.is (map cell_of cs) = ap (λ (t : Bool). heavy info.is (cell_by new t ∷ map cell_of cs)) (not_padding new typed) in
        let none : cond (info.is new) (length (spell new)) 0 ≡ 0 = ap (λ (t : Bool). cond t (length (spell new)) 0) (not_info new typed) in
        omega (arith, one, none, cells_heavy cs, length-append (spell c) (spell_all cs))
    go false i again = omega (arith, one_heavy c (map cell_of (children_named e last cs)) (length (spell_all cs)) (again i), length-append (spell c) (spell_all cs))

-- ---- the edit

module _ (o : List ℕ) (bytes : IsBytes o) (s : Supported o) (e : Changes) where
  abbrev a : Avi
  a = avi_of o

  abbrev na : Avi
  na = named (avi_of o) e.names

  g : Ended (avi_of o)
  g = ended o bytes s

  short : length (spell_all (avi_of o).children) < 2 ^ 32
  short = let r = g.readable.small in omega (arith, r, length-append (spell_all a.children) a.left)

  lists_low : SlotsLow (units shut (new_cells (named (avi_of o) e.names) e.infos))
  lists_low =
      let one = edit_light e.infos (map cell_of na.children) in
      let two = named_heavy e.names (ends_file a) a.children (children o bytes s e) in
      units_low shut (new_cells na e.infos) (omega (arith, one, two, short))

  pub pad_behind : Later (12 + old_length (units shut (new_cells (named (avi_of o) e.names) e.infos))) (pad_cut (8 + length (inner na.children na.left)) a.pad (pad_after a e))
  pad_behind q lt = go (bytes_eq a.pad (pad_after a e))
    where
      low : q < 8 + length (inner na.children na.left)
      low = omega (arith, lt, children_length na e.infos, length-append (spell_all na.children) na.left)

      go : (t : Bool) → Before q (cond t [] (record { at = 8 + length (inner na.children na.left); len = length a.pad; bytes = pad_after a e } ∷ []))
      go true = tt
      go false = (low, tt)

  lists_grow : (q : ℕ) → q < 12 + length (spell_all (named (avi_of o) e.names).children) → q ≤ shift (list_cuts (avi_of o) e) q
  lists_grow q lt =
      omega (
        arith,
        cuts_grow (riff_fill (ends_file na)) (riff_grows (ends_file na)) 12 (units shut (new_cells na e.infos)) (units_end shut (new_cells na e.infos)) lists_low
            (pad_cut (8 + length (inner na.children na.left)) a.pad (pad_after a e)) pad_behind q (omega (arith, lt, children_length na e.infos)),
      )

  pub essence_grows : length (inner (children_after (renewed_avi (writes (move (goes (avi_of o) e)) o) (avi_of o)) e) (avi_of o).left) < 2 ^ 32 → Grows o bytes s e
  essence_grows small m i p low high =
      let z = among_only is_movi (top a) m i in
      let me = Rattle.avi_model.proofs.Lies.body_end m (among_all IsRiffHead (top a) (top_heads a g) m z.0) in
      let inside = stood_inside 12 a.children m z.0 in
      let free = among_all (Moves_as_one (goes a e) (λ (q : ℕ). Outside (name_cuts a e.names) q × Outside (list_cuts a e) (shift (name_cuts a e.names) q))) (only is_movi (top a)) (movis_go o bytes s e (hdrl_small o bytes s e small)).1 m i in
      let here : m.at ≤ p = omega (arith, low) in
      let there : p < m.at + length (spell m.chunk) = omega (arith, me, high) in
      let one = names_grow e.names (ends_file a) 12 a.children a.left (children o bytes s e) g.readable.pads short m i p here there in
      let far : p < 12 + length (spell_all a.children) = omega (arith, there, inside.1) in
      let end = behind_block 12 12 (12 + length (spell_all a.children)) (12 + length (spell_all na.children)) (12 + length (spell_all a.children)) (name_cuts a e.names) (names_block o bytes s e) (omega arith) in
      let same : m.at + (p - m.at) ≡ p = omega (arith, here) in
      let out : Outside (name_cuts a e.names) p = subst (λ (q : ℕ). Outside (name_cuts a e.names) q) same (free (p - m.at) (omega (arith, here, there))).0.0 in
      let less = shift_order 0 (12 + length (spell_all a.children)) (name_cuts a e.names) p (12 + length (spell_all a.children)) (names_ascend o bytes s e) out end.0 (omega arith) far in
      let two = lists_grow (shift (name_cuts a e.names) p) (omega (arith, less, end.1)) in
      omega (arith, one, two)

-- Where an edit has room, every table stands as it was, and the patches laid over the old file at the new length make the new one.
use Rattle.std.proofs.Common.{◌≡◌, ℕ, ◌+◌, ◌-◌, ◌^◌, ◌<◌, ◌≤◌, Bool, true, false, eqb, ltb, List, [], ◌∷◌, length, Option, Some, None, refl, sym, ap, subst, ◌∙◌, arith, inl, inr}
use Rattle.std.specs.Prelude.{◌⊎◌, ◌&&◌, codes, nat_le}
use Rattle.std.specs.Int.{w32, to_le_bytes}
use Rattle.std.specs.List.{flat_map, AllByRecursion}
use Rattle.std.proofs.lemmas.Bool.{and_parts, eqb-false, ltb-true}
use Rattle.std.proofs.lemmas.List.{take_all}
use Rattle.part_tree.specs.declared.field.EditItem.{EditItem}
use Rattle.container_model.specs.Splice.{shift}
use Rattle.container_model.specs.Stood.{Stood, only}
use Rattle.container_model.specs.Units.{shut, units}
use Rattle.container_model.specs.Written.{Write}
use Rattle.container_model.proofs.Codec.{IsBytes}
use Rattle.part_tree.specs.declared.plan.Patch.{Patch}
use Rattle.part_tree.specs.Patches.{all_bytes}
use Rattle.part_tree.specs.Patches.{laid as over}
use Rattle.carrier_model.specs.RiffForm.{form_room}
use Rattle.carrier_model.proofs.RiffForm.{sound_in_place}
use Rattle.avi_model.proofs.Spans.{is_riff}
use Rattle.avi_model.proofs.Tables.{was_new}
use Rattle.carrier_model.specs.Room.{units_fit}
use Rattle.part_tree.specs.Order.{SoundPatches}
use Rattle.avi_model.specs.Avi.{Avi, avi_of, inner, form_of, behind, spell_avi, has_id, kids, top, others_at, hdrls, strls, stream_indexes, old_indexes, is_movi, essence}
use Rattle.container_model.specs.Tables.{Table, table_of, named, size_at}
use Rattle.opendml_index.specs.Index.{How, move, is_super, entries, super_place, index_base, entry_offset, entry_length, entry_second, has_second, first_counted, standard_by, index_by, index_body}
use Rattle.avi_model.specs.Index.{writes, renumbered, streams, indexes, base, olds, write_index, write_old}
use Rattle.avi_index.specs.Rows.{Base, from_start, old_rows, old_body, row_offset, row_length}
use Rattle.avi_model.specs.Support.{Supported, SoundEntries, SoundEntry, movi_spans, SoundRows}
use Rattle.opendml_index.specs.Kinds.{SoundIndex, is_index_kind, second_lies}
use Rattle.part_tree.specs.Ranges.{in_one}
use Rattle.avi_model.specs.NewFile.{Items, new_cells, laid, edit_cuts, laid_file, edited_file}
use Rattle.avi_model.specs.Named.{riff_of, ends_file}
use Rattle.avi_model.specs.Edited.{changes, new_file}
use Rattle.avi_model.specs.Room.{patches_of, patches_by, patches, Room}
use Rattle.avi_model.proofs.Numbers.{Whole}
use Rattle.avi_model.proofs.Walk.{IsRiffHead}
use Rattle.opendml_index.proofs.Known.{super_kind, standard_kind, super_index}
use Rattle.avi_model.proofs.Entries.{entry_long, place_named, first_is}
use Rattle.avi_model.proofs.Among.{Among, all_among, among_all, among_only, among_first, among_append, among_front, among_flat, among_map}
use Rattle.avi_model.proofs.Lies.{body_end, kids_heads, kids_inside}
use Rattle.avi_model.proofs.Levels.{Ended, top_heads, further_whole, others_range}
use Rattle.avi_model.proofs.Sound.{ended, holder_of, named_sound, named_from, named_place, index_sound, writes_of, Writes, of_index, of_old}
use Rattle.avi_model.proofs.Stands.{is_file, index_stands, old_stands, table_bytes}
use Rattle.avi_model.proofs.Same.{AsItStands, stands_written, super_table_same, standard_table_same, old_table_same}
use Rattle.avi_model.proofs.Still.{place_stays, past_stays}

-- patches that make the new file, and are sound
abbrev pub MadeIn : List ℕ → List ℕ → List Patch → Type 0
MadeIn o n ps = (over (length n) ps o ≡ n) × SoundPatches (length o) (length n) ps

-- where no place in the essence moves
module _ (o : List ℕ) (bytes : IsBytes o) (s : Supported o) (f : ℕ → ℕ) (stays : (m : Stood) → Among m (essence (avi_of o)) → (q : ℕ) → m.at + 8 ≤ q → q < m.at + 8 + length m.chunk.body → f q ≡ q) where
  abbrev a : Avi
  a = avi_of o

  range_stays : (p n : ℕ) → in_one (movi_spans a) p n ≡ true → (q : ℕ) → p ≤ q → q < p + n → f q ≡ q
  range_stays p n h q low high = let m = holder_of a p n h in stays m.movi m.movi_among q (omega (arith, m.low, low)) (omega (arith, m.high, high))

  -- ---- no table changes

  index_same : (t : Table) → Among t (indexes o) → index_body (move f) t.body ≡ t.body
  index_same t i = go (is_super t.body) refl (among_append (streams o) (flat_map (Rattle.avi_model.specs.Index.named_by o) (streams o)) t i)
    where
      w : Whole t.body
      w = (index_sound o bytes s t i).whole

      b : IsBytes t.body
      b = table_bytes o bytes s t.at t.body (index_stands o bytes s t i)

      supers : Among t (streams o) → is_super t.body ≡ true → (r : List ℕ) → Among r (entries t.body) → eqb (super_place r) 0 ≡ false → (8 ≤ length r) × (f (super_place r) ≡ super_place r)
      supers j e r k c =
          let sound = among_all (λ t. SoundIndex is_index_kind t.body) (streams o) s.streams_sound t j in
          let wide = (super_kind t.body (super_index t.body sound.kind_is e)).1 in
          let len = entry_long t.body w r k in
          let p = super_place r in
          let q = named_sound o bytes s t j e p (place_named t.body r k c) in
          (omega (arith, wide, len), range_stays p (8 + size_at o p) q.lies p (omega arith) (omega arith))

      long : is_super t.body ≡ false → (r : List ℕ) → Among r (entries t.body) → (length r ≡ 8) ⊎ (length r ≡ 12)
      long e r k = pick (standard_kind t.body (Rattle.avi_model.proofs.Counted.index_kind_of o bytes s t i e)).1
        where
          pick : (Rattle.opendml_index.specs.Index.width t.body ≡ 8) ⊎ (Rattle.opendml_index.specs.Index.width t.body ≡ 12) → (length r ≡ 8) ⊎ (length r ≡ 12)
          pick (inl h) = inl (entry_long t.body w r k ∙ h)
          pick (inr h) = inr (entry_long t.body w r k ∙ h)

      counted : is_super t.body ≡ false → (r : List ℕ) → Among r (entries t.body) → eqb (entry_length r) 0 ≡ false → SoundEntry o (index_base t.body) r
      counted e r k c = among_all (λ r. eqb (entry_length r) 0 ≡ false → SoundEntry o (index_base t.body) r) (entries t.body) (among_all (λ t. is_super t.body ≡ false → SoundEntries o t) (indexes o) s.entries_sound t i e) r k c

      -- a place in the bytes of a counted entry
      entry_stays : (r : List ℕ) → eqb (entry_length r) 0 ≡ false → SoundEntry o (index_base t.body) r → (y : ℕ) → entry_offset r ≤ y → y < entry_offset r + entry_length r → f (index_base t.body + y) ≡ index_base t.body + y
      entry_stays r c q y low high =
          let l = and_parts (in_one (movi_spans a) (index_base t.body + entry_offset r) (entry_length r)) (second_lies r) q.lies in
          range_stays (index_base t.body + entry_offset r) (entry_length r) l.0 (index_base t.body + y) (omega arith) (omega arith)

      eight : (r : List ℕ) → (length r ≡ 8) ⊎ (length r ≡ 12) → 8 ≤ length r
      eight r (inl h) = omega arith
      eight r (inr h) = omega arith

      twelve : (r : List ℕ) → (length r ≡ 8) ⊎ (length r ≡ 12) → has_second r ≡ true → 12 ≤ length r
      twelve r (inl w) h = let k = ltb-true 8 (length r) (and_parts (ltb 8 (length r)) (Rattle.std.specs.Prelude.not (eqb (entry_second r) 0)) h).0 in absurd (omega arith)
      twelve r (inr w) h = omega arith

      standard : (x : Option ℕ) → first_counted (entries t.body) ≡ x → is_super t.body ≡ false → standard_by (move f) t.body x ≡ t.body
      standard None d e = refl
      standard (Some x) d e =
          let old = index_base t.body in
          let k = first_is (entries t.body) x d in
          let some : 0 < entry_length k.row = omega (arith, eqb-false (entry_length k.row) 0 k.is_counted) in
          let here : f (old + x) ≡ old + x = subst (λ (y : ℕ). f (old + y) ≡ old + y) k.offset_is (entry_stays k.row k.is_counted (counted e k.row k.row_among k.is_counted) (entry_offset k.row) (omega arith) (omega (arith, some))) in
          let nb = (old + f (old + x)) - (old + x) in
          let base_same : nb ≡ old = omega (arith, here) in
          standard_table_same nb (λ y. f (old + y) - nb) t.body b w.header_there base_same
          (λ r j c.
          let q = counted e r j c in
          let some_r : 0 < entry_length r = omega (arith, eqb-false (entry_length r) 0 c) in
          let first = entry_stays r c q (entry_offset r) (omega arith) (omega (arith, some_r)) in (
            eight r (long e r j),
            omega (arith, first, base_same),
            λ h.
                let l = Rattle.avi_model.proofs.Counted.second_of r (and_parts (in_one (movi_spans a) (old + entry_offset r) (entry_length r)) (second_lies r) q.lies).1 h in
                let second = entry_stays r c q (entry_second r) l.0 l.1 in
                (twelve r (long e r j) h, omega (arith, second, base_same)),
          ))

      go : (u : Bool) → is_super t.body ≡ u → Among t (streams o) ⊎ Among t (flat_map (Rattle.avi_model.specs.Index.named_by o) (streams o)) → index_by (move f) t.body u ≡ t.body
      go true e (inl j) = super_table_same f t.body b (supers j e)
      go true e (inr j) =
          let k = named_from o bytes s t j in
          let not_super : is_super t.body ≡ false = subst (λ (u : Table). is_super u.body ≡ false) k.is_named (standard_kind (named o k.place).body (named_place o bytes s t k).sound.kind_is).0 in
          absurd cc
      go false e j = standard (first_counted (entries t.body)) refl e

  old_same : (x : Stood) → Among x (old_indexes a) → old_body f (base o) x.chunk.body ≡ x.chunk.body
  old_same x i = old_table_same f (base o) x.chunk.body (table_bytes o bytes s (x.at + 8) x.chunk.body (old_stands o bytes s x i)) (λ r j c d. row r j c d (base o) d sound)
    where
      sound : SoundRows (base o) (Rattle.avi_model.specs.Avi.first_movi a) (indexes o) (table_of x)
      sound = among_all (SoundRows (base o) (Rattle.avi_model.specs.Avi.first_movi a) (indexes o)) (olds o) s.rows_sound (table_of x) (Rattle.avi_model.proofs.Among.map_among table_of (old_indexes a) x i)

      row : (r : List ℕ) → Among r (old_rows x.chunk.body) → eqb (row_length r) 0 ≡ false → base o ≡ from_start → (b : Base) → b ≡ from_start → SoundRows b (Rattle.avi_model.specs.Avi.first_movi a) (indexes o) (table_of x) → (12 ≤ length r) × (f (row_offset r) ≡ row_offset r)
      row r j c d b e sound =
          let rows = subst (λ (b : Base). SoundRows b (Rattle.avi_model.specs.Avi.first_movi a) (indexes o) (table_of x)) e sound in
          let q = among_all (λ r. eqb (row_length r) 0 ≡ false → Rattle.avi_model.specs.Support.SoundRow (Rattle.avi_model.specs.Avi.first_movi a) (indexes o) r) (old_rows x.chunk.body) rows r j c in
          let m = Rattle.avi_model.proofs.Counted.first_holder o bytes s (row_offset r) (8 + row_length r) q.lies in
          let sixteen = Rattle.avi_model.proofs.Entries.row_length_is 16 (Rattle.avi_index.specs.Rows.count16 x.chunk.body) x.chunk.body (Rattle.avi_model.proofs.Pieces.holds_sixteen (Rattle.avi_index.specs.Rows.count16 x.chunk.body) x.chunk.body (Rattle.std.proofs.Math.Nat.div-mul-le_self (length x.chunk.body) 16)) r j in
          (omega (arith, sixteen), stays m.movi m.movi_among (row_offset r) m.low (omega (arith, m.high)))

  -- Every number stays as it is.
  pub numbers_stay : renumbered (move f) o ≡ o
  numbers_stay = stands_written (writes (move f) o) o (all_among (AsItStands o) (writes (move f) o) (λ w i. go w (writes_of o bytes s (move f) w i)))
    where
      go : (w : Write) → Writes o bytes s (move f) w → AsItStands o w
      go w (of_index t i d) = subst (AsItStands o) d (subst (λ (x : List ℕ). AsItStands o (record { at = t.at; bytes = x })) (sym (index_same t i)) (index_stands o bytes s t i))
      go w (of_old x i d) = subst (AsItStands o) d (subst (λ (y : List ℕ). AsItStands o (record { at = x.at + 8; bytes = y })) (sym (old_same x i)) (old_stands o bytes s x i))

-- an edit of the lists of fields whose units fit
module _ (o : List ℕ) (bytes : IsBytes o) (s : Supported o) (e : Items) (fits : units_fit (ends_file (avi_of o)) (units shut (new_cells (avi_of o) e)) ≡ true) where
  abbrev avi : Avi
  avi = avi_of o

  g : Ended (avi_of o)
  g = ended o bytes s

  abbrev f : ℕ → ℕ
  f = shift (edit_cuts (avi_of o) e)

  -- ---- places in the essence stay

  in_stays : (m : Stood) → Among m (essence avi) → (q : ℕ) → m.at + 8 ≤ q → q < m.at + 8 + length m.chunk.body → f q ≡ q
  in_stays m i q low high = go (among_append (only is_movi (top avi)) (flat_map (λ x. only is_movi (kids x)) (others_at avi)) m i)
    where
      go : Among m (only is_movi (top avi)) ⊎ Among m (flat_map (λ x. only is_movi (kids x)) (others_at avi)) → f q ≡ q
      go (inl j) =
          let z = among_only is_movi (top avi) m j in
          let r = Rattle.avi_model.proofs.Among.stood_inside 12 avi.children m z.0 in
          let me = body_end m (among_all IsRiffHead (top avi) (top_heads avi g) m z.0) in
          place_stays avi e fits q (omega (arith, r.1, me, high))
      go (inr j) =
          let y = among_flat (λ x. only is_movi (kids x)) (others_at avi) m j in
          let z = among_only is_movi (kids y.from) m y.in_it in
          let w = further_whole avi g y.from y.from_among in
          let k = kids_inside y.from w.bytes w.long m z.0 in
          let r = others_range avi g y.from y.from_among in
          let ye = body_end y.from w.head in
          let me = body_end m (among_all IsRiffHead (kids y.from) (kids_heads y.from) m z.0) in
          past_stays avi e fits q (omega (arith, k.0, r.0, low)) (omega (arith, k.0, k.1, r.0, r.1, low, high, me, ye))

  edit_numbers_stay : renumbered (move (shift (edit_cuts (avi_of o) e))) o ≡ o
  edit_numbers_stay = numbers_stay o bytes s f in_stays

  laid_same : laid_file o e ≡ spell_avi (laid avi e)
  unfolding laid_file
  laid_same = ap (λ (x : List ℕ). spell_avi (laid (avi_of x) e)) edit_numbers_stay

  -- The patches make the new file, and are sound.
  pub made : form_room (riff_of (avi_of o)) (new_cells (avi_of o) e) ≡ true → MadeIn o (laid_file o e) (patches_of (avi_of o) e)
  made room =
      let done = sound_in_place (riff_of avi) (new_cells avi e) (is_riff avi) (was_new avi e) refl room in
      let from_o : MadeIn o (spell_avi (laid avi e)) (patches_of avi e) = subst (λ (x : List ℕ). MadeIn x (spell_avi (laid avi e)) (patches_of avi e)) (sym (is_file o bytes s)) done in
      subst (λ (n : List ℕ). MadeIn o n (patches_of avi e)) (sym laid_same) from_o

-- For an edit of fields: no number changes, and its patches make its new file.
module _ (o : List ℕ) (bytes : IsBytes o) (s : Supported o) (e : List EditItem) (r : Room o e) where
  room_of : (x : Items) → changes o e ≡ x → form_room (riff_of (avi_of o)) (new_cells (avi_of o) x) ≡ true
  room_of x d = subst (λ (x : Items). form_room (riff_of (avi_of o)) (new_cells (avi_of o) x) ≡ true) d r

  fit_of : (x : Items) → changes o e ≡ x → units_fit (ends_file (avi_of o)) (units shut (new_cells (avi_of o) x)) ≡ true
  fit_of x d = (and_parts (units_fit (ends_file (avi_of o)) (units shut (new_cells (avi_of o) x))) (nat_le (all_bytes (patches_of (avi_of o) x)) (2 ^ 24)) (room_of x d)).0

  pub edit_stays : renumbered (move (shift (edit_cuts (avi_of o) (changes o e)))) o ≡ o
  edit_stays = edit_numbers_stay o bytes s (changes o e) (fit_of (changes o e) refl)

  pub patches_make : MadeIn o (new_file o e) (patches o e)
  patches_make = go (changes o e) refl
    where
      go : (x : Items) → changes o e ≡ x → MadeIn o (edited_file o x) (patches_by (avi_of o) x)
      go [] d = (take_all (length o) o (omega arith), record { in_order = tt; few_bytes = omega arith; cover = λ q low high. absurd (omega (arith, low, high)) })
      go (i ∷ t) d = made o bytes s (i ∷ t) (fit_of (i ∷ t) d) (room_of (i ∷ t) d)

-- The clauses of the edit of a movie.
use Rattle.std.proofs.Common.{inl, inr, ◌-◌, Bool, List, Some, [], ap, arith, cond, false, leb, length, map, refl, subst, sym, true, ℕ, ◌++◌, ◌+◌, ◌<◌, ◌∙◌, ◌∷◌, ◌≡◌, ◌≤◌}
use Rattle.std.specs.Prelude.{codes, ◌&&◌}
use Rattle.std.specs.Prelude.{◌⊎◌}
use Rattle.std.proofs.lemmas.Bool.{and_parts, cases_lt}
use Rattle.std.proofs.lemmas.List.{length-append}
use Rattle.std.proofs.lemmas.List.Concat.{flat_map-append}
use Rattle.std.specs.Int.{to_be_bytes, to_le_bytes, w32, w64}
use Rattle.std.specs.List.{AllByRecursion, flat_map}
use Rattle.container_model.proofs.Codec.{IsBytes}
use Rattle.container_model.proofs.Deep.{all_len}
use Rattle.container_model.proofs.Items.{same_true, values_after}
use Rattle.container_model.proofs.Places.{before_all, before_stays, cuts_ascend, old_length, past_moves}
use Rattle.container_model.proofs.Units.{BringsPad, FillsWithPadding, units_bring, units_old, units_solids}
use Rattle.container_model.specs.Chunk.{Chunk, Form, Run, header_bytes, long, riff, short, spell, spell_all, to_end, wide}
use Rattle.container_model.specs.Deep.{Whole}
use Rattle.container_model.specs.Items.{is_nil, updated, values}
use Rattle.container_model.specs.Units.{Piece, copied, lay, replaced, shut, solid, solids, unit_bytes}
use Rattle.mov_model.proofs.Again.{kids, kids_bytes, kids_joined, laid_alike, moov_again, moov_left, moov_padless, mov, move, now}
use Rattle.mov_model.proofs.Carry.{first_all}
use Rattle.mov_model.proofs.Cells.{edited_chunks, edited_relocated, first_meta_relocated, first_user_relocated, gaps_carried, any_meta_relocated, is_user, solids_carried, solids_map, tracks_all, was_carried, was_read}
use Rattle.mov_model.proofs.Held.{NoMdat, held_moves, held_next, held_past, held_skip, numbered}
use Rattle.carrier_model.proofs.Gaps.{places_put}
use Rattle.carrier_model.specs.Gaps.{moves_of}
use Rattle.container_model.proofs.Units.{spell_all-append}
use Rattle.container_model.specs.Splice.{Ascend, Cut, Outside, end_of, shift}
use Rattle.mov_model.specs.Pieces.{next_number}
use Rattle.mov_model.proofs.Again.{file_bytes}
use Rattle.part_tree.specs.Moves.{place}
use Rattle.carrier_model.proofs.Fitted.{last_units}
use Rattle.mov_model.proofs.Laid.{grown_brings, grown_new, grown_old}
use Rattle.mov_model.proofs.Parts.{KeysFit, KidWhole, UserWhole, items_all, items_relocated, nodes_all, nodes_relocated, table_relocated, values_all}
use Rattle.mov_model.proofs.Tracks.{tracks_relocated}
use Rattle.mov_model.proofs.Tables.{relocated_id, relocated_pad, relocated_tables}
use Rattle.sample_tables.proofs.Moved.{all_long, places_moved, samples_moved}
use Rattle.mov_model.specs.Atoms.{cell_of, format, is_padding, moov}
use Rattle.container_model.specs.Atoms.{atom, atoms_in, is}
use Rattle.mov_model.proofs.Fits.{CanSet, Fits, SmallBody}
use Rattle.mov_model.specs.Kept.{kept_in, nodes, placed, placed_keys, placed_users}
use Rattle.carrier_model.specs.Steps.{carried}
use Rattle.mov_model.specs.Carried.{Changes, steps}
use Rattle.mov_model.specs.Keys.{edit_meta, first_table, is_meta}
use Rattle.qt_keys.specs.Set.{key_values}
use Rattle.mov_model.specs.Movie.{Movie, all_atoms}
use Rattle.mov_model.specs.New.{edit_cuts, ends_file, ends_open, fill, gaps_of, grown, hanging, is_open, kids_at, new_kids, padding, padding_behind, past_gaps, pieces_of, rest_behind, slot_behind, whole_pieces}
use Rattle.mov_model.specs.Parts.{first_items, first_of, parts, track_of, tracks}
use Rattle.mov_model.specs.Pieces.{held, is_mdat, pieces_by, pieces_in, tail_of, track_pieces}
use Rattle.mov_model.specs.Support.{IsHeld, Readable, TrackFine}
use Rattle.mov_model.specs.Tables.{relocated, tables}
use Rattle.sample_tables.specs.Tables.{moved_table, FitsRows, places}
use Rattle.qt_text.specs.User.{user_items}

-- ---- padding is not looked at

pub fill_nothing : (o : Bool) → FillsWithPadding is_padding (fill o)
fill_nothing o last slot s = go (o && last)
  where
    none : (t : Bool) (body : List ℕ) → solids is_padding (cond t [] (atom (codes "free") body ∷ [])) ≡ []
    none true body = refl
    none false body = refl

    go : (t : Bool) → solids is_padding (cond t [] (padding slot s)) ≡ []
    go true = refl
    go false = none (Rattle.std.proofs.Common.leb (length slot) s) _

hanging_nothing : (o : Bool) (ps : List Piece) → solids is_padding (hanging (fill o) ps) ≡ []
hanging_nothing o [] = refl
hanging_nothing o (copied c ∷ ps) = hanging_nothing o ps
hanging_nothing o (replaced lead slot new true ∷ ps) = fill_nothing o true slot (length (unit_bytes lead new))
hanging_nothing o (replaced lead slot _ false ∷ ps) = hanging_nothing o ps

past_nothing : (cs : List Chunk) → solids is_padding (past_gaps cs) ≡ solids is_padding cs
past_nothing [] = refl
past_nothing (c ∷ cs) = go (is_padding c.id) refl (past_nothing cs)
  where
    go : (t : Bool) → is_padding c.id ≡ t → solids is_padding (past_gaps cs) ≡ solids is_padding cs → solids is_padding (cond t (past_gaps cs) (c ∷ cs)) ≡ cond t [] (record c { pad = [] } ∷ []) ++ solids is_padding cs
    go true e again = again
    go false e again = rw e refl

pub behind_solids : (m : Movie) (e : Changes) → solids is_padding (padding_behind m e ++ rest_behind m e) ≡ solids is_padding m.behind
behind_solids m e = flat_map-append (solid is_padding) (padding_behind m e) (rest_behind m e) ∙ rw (one (is_open m e), two (is_open m e)) refl
  where
    one : (t : Bool) → solids is_padding (cond t (hanging (fill (ends_file m e)) (whole_pieces m e)) []) ≡ []
    one true = hanging_nothing (ends_file m e) (whole_pieces m e)
    one false = refl

    two : (t : Bool) → solids is_padding (cond t (past_gaps m.behind) m.behind) ≡ solids is_padding m.behind
    two true = past_nothing m.behind
    two false = refl

-- ---- what is known of parts

pub all_solids : (Q : Chunk → Type 0) → ((c : Chunk) → Q c → Q (record c { pad = [] })) → (cs : List Chunk) → AllByRecursion Q cs → AllByRecursion Q (solids is_padding cs)
all_solids Q f [] h = tt
all_solids Q f (c ∷ cs) h = go (is_padding c.id) (all_solids Q f cs h.1)
  where
    go : (t : Bool) → AllByRecursion Q (solids is_padding cs) → AllByRecursion Q (cond t [] (record c { pad = [] } ∷ []) ++ solids is_padding cs)
    go true again = again
    go false again = (f c h.0, again)

pub all_and : (P Q R : Chunk → Type 0) → ((c : Chunk) → P c → Q c → R c) → (cs : List Chunk) → AllByRecursion P cs → AllByRecursion Q cs → AllByRecursion R cs
all_and P Q R f [] h g = tt
all_and P Q R f (c ∷ cs) h g = (f c h.0 g.0, all_and P Q R f cs h.1 g.1)

pub all_tracks : (P : Chunk → Type 0) (cs : List Chunk) → AllByRecursion P cs → AllByRecursion P (flat_map track_of cs)
all_tracks P [] h = tt
all_tracks P (c ∷ cs) h = go (is c (codes "trak")) (all_tracks P cs h.1)
  where
    go : (t : Bool) → AllByRecursion P (flat_map track_of cs) → AllByRecursion P (cond t (c ∷ []) [] ++ flat_map track_of cs)
    go true again = (h.0, again)
    go false again = again

-- ---- lengths

pub header_len : (form : Form) (id : List ℕ) (n k : ℕ) → length (header_bytes form id n) ≡ length (header_bytes form id k)
header_len riff id n k = omega (arith, length-append id (Rattle.std.specs.Int.to_le_bytes Rattle.std.specs.Int.w32 n), length-append id (Rattle.std.specs.Int.to_le_bytes Rattle.std.specs.Int.w32 k))
header_len wide id n k = refl
header_len short id n k = refl
header_len long id n k =
    omega (
      arith,
      length-append id (Rattle.std.specs.Int.to_be_bytes Rattle.std.specs.Int.w64 (n + 16)),
      length-append id (Rattle.std.specs.Int.to_be_bytes Rattle.std.specs.Int.w64 (k + 16)),
      length-append (Rattle.std.specs.Int.to_be_bytes Rattle.std.specs.Int.w32 1) (id ++ Rattle.std.specs.Int.to_be_bytes Rattle.std.specs.Int.w64 (n + 16)),
      length-append (Rattle.std.specs.Int.to_be_bytes Rattle.std.specs.Int.w32 1) (id ++ Rattle.std.specs.Int.to_be_bytes Rattle.std.specs.Int.w64 (k + 16)),
    )
header_len to_end id n k = refl

pub gaps_split : (cs : List Chunk) → gaps_of cs ++ past_gaps cs ≡ cs
gaps_split [] = refl
gaps_split (c ∷ cs) = go (is_padding c.id) (gaps_split cs)
  where
    go : (t : Bool) → gaps_of cs ++ past_gaps cs ≡ cs → cond t (c ∷ gaps_of cs) [] ++ cond t (past_gaps cs) (c ∷ cs) ≡ c ∷ cs
    go true again = ap (λ (x : List Chunk). c ∷ x) again
    go false again = refl

padding_no_mdat : (c : Chunk) → is_padding c.id ≡ true → is_mdat c ≡ false
padding_no_mdat c e = go (is_mdat c) refl
  where
    go : (t : Bool) → is_mdat c ≡ t → t ≡ false
    go true i = let no : is_padding c.id ≡ false = rw (same_true c.id (codes "mdat") i) refl in absurd cc
    go false i = refl

gaps_no_mdat : (cs : List Chunk) → NoMdat (gaps_of cs)
gaps_no_mdat [] = tt
gaps_no_mdat (c ∷ cs) = go (is_padding c.id) refl (gaps_no_mdat cs)
  where
    go : (t : Bool) → is_padding c.id ≡ t → NoMdat (gaps_of cs) → NoMdat (cond t (c ∷ gaps_of cs) [])
    go true e again = (padding_no_mdat c e, again)
    go false e again = tt

module _ (m : Movie) (e : Changes) where
  pub kept_bytes : old_length (pieces_of m e) ≡ length (spell_all (atoms_in m.movie).chunks)
  kept_bytes =
      let xs = map cell_of (atoms_in m.movie).chunks in
      ap length (units_old shut (carried (steps e) xs) ∙ ap spell_all (was_carried e xs ∙ was_read (atoms_in m.movie).chunks))

  pub behind_split : slot_behind m e ++ rest_behind m e ≡ m.behind
  behind_split = go (is_open m e)
    where
      go : (t : Bool) → cond t (gaps_of m.behind) [] ++ cond t (past_gaps m.behind) m.behind ≡ m.behind
      go true = gaps_split m.behind
      go false = refl

  pub opened_last : is_open m e ≡ true → ends_open (pieces_of m e) ≡ true
  opened_last o = (and_parts (is_nil (atoms_in m.movie).left) (ends_open (pieces_of m e)) o).1

  pub whole_old : old_length (whole_pieces m e) ≡ old_length (pieces_of m e) + length (spell_all (slot_behind m e))
  whole_old = go (is_open m e) refl
    where
      go : (t : Bool) → is_open m e ≡ t → old_length (cond t (grown (spell_all (gaps_of m.behind)) (pieces_of m e)) (pieces_of m e)) ≡ old_length (pieces_of m e) + length (spell_all (cond t (gaps_of m.behind) []))
      go true o = grown_old (spell_all (gaps_of m.behind)) (pieces_of m e) (last_units shut (carried (steps e) (map cell_of (atoms_in m.movie).chunks))) (opened_last o)
      go false o = omega arith

  pub whole_brings : BringsPad (whole_pieces m e)
  whole_brings = go (is_open m e)
    where
      b : BringsPad (pieces_of m e)
      b = units_bring shut (carried (steps e) (map cell_of (atoms_in m.movie).chunks)) tt

      go : (t : Bool) → BringsPad (cond t (grown (spell_all (gaps_of m.behind)) (pieces_of m e)) (pieces_of m e))
      go true = grown_brings (spell_all (gaps_of m.behind)) (pieces_of m e) b
      go false = b

  pub whole_new : length (spell_all (lay (fill (ends_file m e)) (whole_pieces m e))) ≡ length (spell_all (lay (fill (is_open m e)) (pieces_of m e))) + length (spell_all (padding_behind m e))
  whole_new = go (is_open m e) refl
    where
      go : (t : Bool) → is_open m e ≡ t
          → length (spell_all (lay (fill (ends_file m e)) (cond t (grown (spell_all (gaps_of m.behind)) (pieces_of m e)) (pieces_of m e))))
          ≡ length (spell_all (lay (fill t) (pieces_of m e))) + length (spell_all (cond t (hanging (fill (ends_file m e)) (cond t (grown (spell_all (gaps_of m.behind)) (pieces_of m e)) (pieces_of m e))) []))
      go true o = grown_new (ends_file m e) (spell_all (gaps_of m.behind)) (pieces_of m e) (last_units shut (carried (steps e) (map cell_of (atoms_in m.movie).chunks))) (opened_last o)
      go false o = let no : ends_file m e ≡ false = ap (λ (t : Bool). t && (is_nil (rest_behind m e) && is_nil m.left)) o in omega (arith, ap (λ (t : Bool). length (spell_all (lay (fill t) (pieces_of m e)))) no)

  padding_no_mdats : NoMdat (padding_behind m e)
  padding_no_mdats = go (is_open m e)
    where
      go : (t : Bool) → NoMdat (cond t (hanging (fill (ends_file m e)) (whole_pieces m e)) [])
      go true = Rattle.mov_model.proofs.Again.hanging_all (λ c. is_mdat c ≡ false) (λ body lt. refl) (ends_file m e) (whole_pieces m e)
      go false = tt

  slot_no_mdats : NoMdat (slot_behind m e)
  slot_no_mdats = go (is_open m e)
    where
      go : (t : Bool) → NoMdat (cond t (gaps_of m.behind) [])
      go true = gaps_no_mdat m.behind
      go false = tt

-- ---- where an edit puts the places of chunks

pub ascend_more : (from low high : ℕ) (cs : List Cut) → low ≤ high → Ascend from cs low → Ascend from cs high
ascend_more from low high [] le h = omega arith
ascend_more from low high (c ∷ cs) le h = (h.0, ascend_more (end_of c) low high cs le h.1)

pub held_inside : (k p : ℕ) (x : ℕ × List ℕ) (cs : List Chunk) → held k p cs ≡ Some x → p < length (spell_all cs)
held_inside k p x [] h = absurd cc
held_inside k p x (c ∷ cs) h = go (cases_lt p (length (spell c))) (λ g. held_inside (next_number c k) (p - length (spell c)) x cs g)
  where
    go : (p < length (spell c)) ⊎ (length (spell c) ≤ p) → (held (next_number c k) (p - length (spell c)) cs ≡ Some x → p - length (spell c) < length (spell_all cs)) → p < length (spell_all (c ∷ cs))
    go (inl lt) again = omega (arith, length-append (spell c) (spell_all cs))
    go (inr le) again = omega (arith, again (sym (held_next k p c cs le) ∙ h), length-append (spell c) (spell_all cs))

module _ (o : List ℕ) (bytes : IsBytes o) (sup : Readable o) (e : Changes) where
  abbrev was : Movie
  was = mov o bytes sup

  abbrev pub slots_end : ℕ
  slots_end = kids_at was e + old_length (whole_pieces was e)

  moov_length : length (spell_all (was.movie ∷ slot_behind was e)) ≡ length (header_bytes was.movie.form was.movie.id (length was.movie.body)) + length was.movie.body + length (spell_all (slot_behind was e))
  moov_length =
      let head = header_bytes was.movie.form was.movie.id (length was.movie.body) in
      omega (arith, length-append (spell was.movie) (spell_all (slot_behind was e)), length-append head (was.movie.body ++ was.movie.pad), length-append was.movie.body was.movie.pad, ap length (moov_padless o bytes sup))

  body_length : length was.movie.body ≡ length (spell_all (kids o bytes sup)) + length (moov_left o bytes sup)
  body_length = ap length (sym (kids_joined o bytes sup)) ∙ length-append (spell_all (kids o bytes sup)) (moov_left o bytes sup)

  pub inside_file : slots_end ≤ length o
  inside_file =
      let all : spell_all (all_atoms was) ≡ spell_all was.before ++ (spell_all (was.movie ∷ slot_behind was e) ++ spell_all (rest_behind was e))
      = ap (λ (cs : List Chunk). spell_all (was.before ++ was.movie ∷ cs)) (sym (behind_split was e)) ∙ spell_all-append was.before ((was.movie ∷ slot_behind was e) ++ rest_behind was e)
      ∙ ap (λ (b : List ℕ). spell_all was.before ++ b) (spell_all-append (was.movie ∷ slot_behind was e) (rest_behind was e)) in
      let file : length o ≡ length (spell_all (all_atoms was)) + length was.left = ap length (sym (file_bytes o bytes sup)) ∙ length-append (spell_all (all_atoms was)) was.left in
      omega (
        arith,
        file,
        ap length all,
        length-append (spell_all was.before) (spell_all (was.movie ∷ slot_behind was e) ++ spell_all (rest_behind was e)),
        length-append (spell_all (was.movie ∷ slot_behind was e)) (spell_all (rest_behind was e)),
        moov_length,
        body_length,
        whole_old was e,
        kept_bytes was e,
      )

  -- the slots ascend and lie in the file
  pub slots_ascend : Ascend 0 (edit_cuts was e) (length o)
  slots_ascend = ascend_more 0 slots_end (length o) (edit_cuts was e) inside_file (cuts_ascend (fill (ends_file was e)) (kids_at was e) (whole_pieces was e) 0 (omega arith))

  -- a place that an mdat holds stands before moov or behind all slots
  pub held_sides : (p : ℕ) (x : ℕ × List ℕ) → held 0 p (all_atoms was) ≡ Some x → (p < length (spell_all was.before)) ⊎ ((slots_end ≤ p) × (length (spell_all was.before) + length (spell was.movie) ≤ p))
  held_sides p x h = go (cases_lt p (length (spell_all was.before)))
    where
      no : is_mdat was.movie ≡ false
      no = rw sup.movie.is_moov refl

      there : held 0 p (was.before ++ ((was.movie ∷ slot_behind was e) ++ rest_behind was e)) ≡ Some x
      there = ap (λ (cs : List Chunk). held 0 p (was.before ++ was.movie ∷ cs)) (behind_split was e) ∙ h

      go : (p < length (spell_all was.before)) ⊎ (length (spell_all was.before) ≤ p) → (p < length (spell_all was.before)) ⊎ ((slots_end ≤ p) × (length (spell_all was.before) + length (spell was.movie) ≤ p))
      go (inl lt) = inl lt
      go (inr le) =
          let k = numbered 0 was.before in
          let past : held k (p - length (spell_all was.before)) ((was.movie ∷ slot_behind was e) ++ rest_behind was e) ≡ Some x = sym (held_past 0 p was.before ((was.movie ∷ slot_behind was e) ++ rest_behind was e) le) ∙ there in
          let r = held_skip k (p - length (spell_all was.before)) (was.movie ∷ slot_behind was e) (rest_behind was e) x (no, slot_no_mdats was e) past in
          inr (omega (arith, le, r.0, moov_length, body_length, whole_old was e, kept_bytes was e), omega (arith, le, r.0, length-append (spell was.movie) (spell_all (slot_behind was e))))

  -- it is in none of them
  pub held_outside : (p : ℕ) (x : ℕ × List ℕ) → held 0 p (all_atoms was) ≡ Some x → Outside (edit_cuts was e) p
  held_outside p x h = go (held_sides p x h)
    where
      go : (p < length (spell_all was.before)) ⊎ ((slots_end ≤ p) × (length (spell_all was.before) + length (spell was.movie) ≤ p)) → Outside (edit_cuts was e) p
      go (inl lt) = (before_stays (edit_cuts was e) p (before_all (fill (ends_file was e)) (kids_at was e) (whole_pieces was e) p (omega arith))).0
      go (inr far) = (past_moves (fill (ends_file was e)) (kids_at was e) (whole_pieces was e) p (whole_brings was e) far.0).0

  pub put_law : (p : ℕ) (x : ℕ × List ℕ) → held 0 p (all_atoms was) ≡ Some x → place (moves_of (edit_cuts was e) (length o)) p ≡ Some (shift (edit_cuts was e) p)
  put_law p x h =
      let file : length o ≡ length (spell_all (all_atoms was)) + length was.left = ap length (sym (file_bytes o bytes sup)) ∙ length-append (spell_all (all_atoms was)) was.left in
      places_put (edit_cuts was e) (length o) p slots_ascend (held_outside p x h) (omega (arith, file, held_inside 0 p x (all_atoms was) h))

-- ---- the edit of a supported movie

module _ (o : List ℕ) (bytes : IsBytes o) (sup : Readable o) (e : Changes) (can : CanSet e) (fits : Fits (mov o bytes sup) e) where
  abbrev old : Movie
  old = mov o bytes sup

  abbrev new : Movie
  new = now o bytes sup e fits

  abbrev f : ℕ → ℕ
  f = move o bytes sup e fits

  pub parts_whole : AllByRecursion KidWhole (parts old)
  parts_whole = all_and (Whole format 5 moov) (λ c. IsBytes c.body) KidWhole (λ c w b. (w, b)) (parts old) sup.movie.tracks_end (all_solids (λ c. IsBytes c.body) (λ c b. b) (kids o bytes sup) (kids_bytes o bytes sup))

  parts_bytes : AllByRecursion (λ c. IsBytes c.body) (parts old)
  parts_bytes = all_solids (λ c. IsBytes c.body) (λ c b. b) (kids o bytes sup) (kids_bytes o bytes sup)

  pub user_whole : AllByRecursion UserWhole (first_of is_user (map (relocated f) (parts old)))
  user_whole =
      rw (first_user_relocated f (parts old)) (all_and _ (λ c. IsBytes c.body) UserWhole (λ c w b. (w, b)) (first_of is_user (parts old)) sup.movie.user_ends (first_all is_user (λ c. IsBytes c.body) (λ c. IsBytes c.body) (λ c u b. b) (parts old) parts_bytes))

  pub keys_whole : KeysFit e.keys (map (relocated f) (parts old))
  keys_whole =
      let same = sym (first_meta_relocated f (parts old)) in
      record {
        bytes = subst (AllByRecursion (λ c. IsBytes c.body)) same (first_all is_meta (λ c. IsBytes c.body) (λ c. IsBytes c.body) (λ c u b. b) (parts old) parts_bytes);
        small = subst (AllByRecursion (λ c. SmallBody (edit_meta e.keys c))) same fits.keys_small;
        new_small = λ none. fits.new_keys_small (sym (any_meta_relocated f (parts old)) ∙ none);
      }

  -- moov's atoms, but for padding, are the old ones relocated and edited
  pub new_parts : parts new ≡ edited_chunks e (map (relocated f) (parts old))
  new_parts =
      let xs = map cell_of (kids o bytes sup) in
      ap (λ (r : Run). solids is_padding r.chunks) (moov_again o bytes sup e fits)
      ∙ solids_map (relocated f) (relocated_id f) (relocated_pad f) (lay (fill (is_open old e)) (pieces_of old e))
      ∙ ap (map (relocated f)) (units_solids is_padding (fill (is_open old e)) (fill_nothing (is_open old e)) shut (carried (steps e) xs) (gaps_carried e (kids o bytes sup)) ∙ solids_carried e (kids o bytes sup))
      ∙ edited_relocated f e (parts old)

  -- clause 2
  pub new_users : (name : List ℕ) → values user_items name (first_items (parts new)) ≡ updated e.users name (values user_items name (first_items (parts old)))
  new_users name =
      ap (λ (cs : List Chunk). values user_items name (first_items cs)) new_parts
      ∙ ap (values user_items name) (items_all e (map (relocated f) (parts old)) can.users user_whole)
      ∙ values_after user_items e.users name (first_items (map (relocated f) (parts old))) (Rattle.qt_text.proofs.User.all_made e.users can.users)
      ∙ ap (λ (cs : List Chunk). updated e.users name (values user_items name cs)) (items_relocated f (parts old))

  pub new_keys : (name : List ℕ) → key_values name (first_table (parts new)) ≡ updated e.keys name (key_values name (first_table (parts old)))
  new_keys name =
      ap (λ (cs : List Chunk). key_values name (first_table cs)) new_parts ∙ values_all e (map (relocated f) (parts old)) name can.keys keys_whole
      ∙ ap (λ t. updated e.keys name (key_values name t)) (table_relocated f (parts old))

  -- clause 3
  pub new_kept : kept_in new ≡ placed (kept_in old) e
  new_kept =
      let inside : nodes (parts new) ≡ placed_keys e.keys (placed_users e.users (nodes (parts old)))
      = ap nodes new_parts ∙ nodes_all e (map (relocated f) (parts old)) can.users user_whole can.keys keys_whole ∙ ap (λ ns. placed_keys e.keys (placed_users e.users ns)) (nodes_relocated f (parts old) parts_whole) in
      let rest : (atoms_in new.movie).left ≡ moov_left o bytes sup = ap (λ (r : Run). r.left) (moov_again o bytes sup e fits) in
      rw (inside, rest, behind_solids old e) refl

  -- ---- clause 4

  pub new_tracks : tracks new ≡ map (relocated f) (tracks old)
  new_tracks = ap (flat_map track_of) new_parts ∙ tracks_all e (map (relocated f) (parts old)) ∙ tracks_relocated f (parts old)

  new_kids_len : length (spell_all (new_kids old e)) ≡ length (spell_all (lay (fill (is_open old e)) (pieces_of old e)))
  new_kids_len = all_len (relocated f) (lay (fill (is_open old e)) (pieces_of old e)) (laid_alike o bytes sup e fits)

  before_moves : (p : ℕ) → p < length (spell_all old.before) → f p ≡ p
  before_moves p lt = (before_stays (edit_cuts old e) p (before_all (fill (ends_file old e)) (kids_at old e) (whole_pieces old e) p (omega arith))).1

  behind_moves : (p : ℕ) → length (spell_all old.before) + length (spell_all (old.movie ∷ slot_behind old e)) ≤ p
      → f p + (length (spell_all old.before) + length (spell_all (old.movie ∷ slot_behind old e))) ≡ p + (length (spell_all old.before) + length (spell_all (new.movie ∷ padding_behind old e)))
  behind_moves p le =
      let head = header_bytes old.movie.form old.movie.id (length old.movie.body) in
      let head_now = header_bytes old.movie.form old.movie.id (length new.movie.body) in
      let same = header_len old.movie.form old.movie.id (length old.movie.body) (length new.movie.body) in
      let left = moov_left o bytes sup in
      let body : length old.movie.body ≡ length (spell_all (kids o bytes sup)) + length left = ap length (sym (kids_joined o bytes sup)) ∙ length-append (spell_all (kids o bytes sup)) left in
      let body_now : length new.movie.body ≡ length (spell_all (new_kids old e)) + length left = length-append (spell_all (new_kids old e)) left in
      let one : length (spell_all (old.movie ∷ slot_behind old e)) ≡ length head + length old.movie.body + length (spell_all (slot_behind old e))
      = omega (arith, length-append (spell old.movie) (spell_all (slot_behind old e)), length-append head (old.movie.body ++ old.movie.pad), length-append old.movie.body old.movie.pad, ap length (moov_padless o bytes sup)) in
      let two : length (spell_all (new.movie ∷ padding_behind old e)) ≡ length head_now + length new.movie.body + length (spell_all (padding_behind old e))
      = omega (arith, length-append (spell new.movie) (spell_all (padding_behind old e)), length-append head_now (new.movie.body ++ old.movie.pad), length-append new.movie.body old.movie.pad, ap length (moov_padless o bytes sup)) in
      let far : kids_at old e + old_length (whole_pieces old e) ≤ p = omega (arith, le, one, body, whole_old old e, kept_bytes old e) in
      let moved = (past_moves (fill (ends_file old e)) (kids_at old e) (whole_pieces old e) p (whole_brings old e) far).1 in
      omega (arith, moved, one, two, body, body_now, same, whole_old old e, kept_bytes old e, whole_new old e, new_kids_len)

  -- what a place holds moves with it
  pub held_again : (p : ℕ) (x : ℕ × List ℕ) → held 0 p (all_atoms old) ≡ Some x → held 0 (f p) (all_atoms new) ≡ Some x
  held_again p x h =
      let no : is_mdat old.movie ≡ false = rw sup.movie.is_moov refl in
      let there : held 0 p (old.before ++ ((old.movie ∷ slot_behind old e) ++ rest_behind old e)) ≡ Some x = ap (λ (cs : List Chunk). held 0 p (old.before ++ old.movie ∷ cs)) (behind_split old e) ∙ h in
      held_moves f p x old.before (old.movie ∷ slot_behind old e) (new.movie ∷ padding_behind old e) (rest_behind old e) (no, slot_no_mdats old e) (no, padding_no_mdats old e) (before_moves p) (behind_moves p) there

  all_held : (ps : List ℕ) → AllByRecursion (IsHeld (all_atoms old)) ps → map (λ p. held 0 p (all_atoms new)) (map f ps) ≡ map (λ p. held 0 p (all_atoms old)) ps
  all_held [] h = refl
  all_held (p ∷ ps) h = rw (held_again p h.0.0 h.0.1, h.0.1, all_held ps h.1) refl

  track_again : (t : Chunk) → KidWhole t → TrackFine (all_atoms old) t → AllByRecursion (FitsRows f) (tables t) → track_pieces (all_atoms new) (tables (relocated f t)) ≡ track_pieces (all_atoms old) (tables t)
  track_again t w fine rows =
      let ts = tables t in
      let hs = map (λ p. held 0 p (all_atoms old)) (places ts) in
      let found : map (λ p. held 0 p (all_atoms new)) (places (map (moved_table f) ts)) ≡ hs = ap (map (λ p. held 0 p (all_atoms new))) (places_moved f ts (all_long ts fine.long_tables) rows) ∙ all_held (places ts) fine.chunks_inside in
      ap (track_pieces (all_atoms new)) (relocated_tables f t w.0 w.1) ∙ ap (pieces_by (map (moved_table f) ts)) found
      ∙ ap (λ (s : List (List (List ℕ))). record { chunks = hs; samples = s }) (samples_moved f ts (map tail_of hs))

  tracks_again : (ts : List Chunk) → AllByRecursion KidWhole ts → AllByRecursion (TrackFine (all_atoms old)) ts → AllByRecursion (λ t. AllByRecursion (FitsRows f) (tables t)) ts
      → map (λ t. track_pieces (all_atoms new) (tables t)) (map (relocated f) ts) ≡ map (λ t. track_pieces (all_atoms old) (tables t)) ts
  tracks_again [] w h r = refl
  tracks_again (t ∷ ts) w h r = rw (track_again t w.0 h.0 r.0, tracks_again ts w.1 h.1 r.1) refl

  pub new_pieces : pieces_in new ≡ pieces_in old
  new_pieces =
      ap (map (λ t. track_pieces (all_atoms new) (tables t))) new_tracks
      ∙ tracks_again (tracks old) (all_tracks KidWhole (parts old) parts_whole) sup.movie.tracks fits.rows

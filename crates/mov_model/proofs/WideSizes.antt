-- The sizes that may be too large where tables are widened: those of the movie whose tables keep their width, with moov and the file longer by the rows.
use Rattle.std.proofs.Common.{Bool, List, None, Some, [], ap, append_assoc, arith, cond, false, inl, inr, length, map, refl, subst, sym, true, ℕ, ◌++◌, ◌+◌, ◌<◌, ◌^◌, ◌∙◌, ◌∷◌, ◌≡◌, ◌≤◌}
use Rattle.std.specs.Prelude.{codes, not, ◌||◌, ◌⊎◌}
use Rattle.std.specs.List.{AllByRecursion, flat_map, list_any}
use Rattle.std.specs.Str.{bytes_eq}
use Rattle.std.proofs.lemmas.Bool.{le-ltb, ltb-false}
use Rattle.std.proofs.lemmas.List.{length-append}
use Rattle.part_tree.specs.Large.{Size, first_above, is_above, limited}
use Rattle.container_model.proofs.Codec.{IsBytes}
use Rattle.container_model.proofs.Deep.{Alike}
use Rattle.container_model.proofs.Places.{before_all, before_stays, old_length, past_moves}
use Rattle.container_model.proofs.Units.{spell_all-append}
use Rattle.container_model.proofs.Walk.{all_join, all_parts}
use Rattle.container_model.specs.Atoms.{atom, atoms_in, is}
use Rattle.container_model.specs.Chunk.{Chunk, Run, ends, spell, spell_all}
use Rattle.container_model.specs.Cuts.{changed_piece}
use Rattle.container_model.specs.Items.{edit_carrier, is_nil, listed, put_all}
use Rattle.container_model.specs.Rows.{be32, be64}
use Rattle.container_model.specs.Splice.{shift}
use Rattle.container_model.specs.Units.{Fill, Piece, copied, lacks_pad, lay, old_bytes, padded, replaced, unit_bytes}
use Rattle.container_model.specs.Walk.{end_at}
use Rattle.mov_model.specs.After.{last_sizes, sizes_by, wide_sizes}
use Rattle.mov_model.specs.Atoms.{format, moov}
use Rattle.mov_model.specs.Carried.{Changes, fresh}
use Rattle.mov_model.specs.Keys.{edit_meta, is_meta, new_meta}
use Rattle.mov_model.specs.Large.{body_size, key_sizes, row_sizes, table_sizes, user_sizes}
use Rattle.mov_model.specs.Movie.{Movie, all_atoms, movie_of, spell_movie}
use Rattle.mov_model.specs.New.{edit_cuts, ends_file, fill, hanging, is_open, kids_at, new_kids, new_movie, padding_behind, past_gaps, pieces_of, rest_behind, slot_behind, whole_pieces}
use Rattle.mov_model.specs.Parts.{first_of, parts, tracks}
use Rattle.mov_model.specs.Reading.{atoms_met, count_parts, inside_at, inside_steps, moov_steps}
use Rattle.mov_model.specs.Support.{IsHeld, Readable, TrackFine}
use Rattle.mov_model.specs.Tables.{relocated, tables}
use Rattle.mov_model.specs.Widen.{growth, past_moov, wide_atom, wide_table, widened, widened_file}
use Rattle.mov_model.proofs.Again.{file_bytes, kids, kids_bytes, kids_joined, kids_read, moov_left, moov_padless, mov, small_moov_again, whole_kids}
use Rattle.mov_model.proofs.Cells.{first_meta_relocated, first_user_relocated, is_user, meta_sort, user_sort}
use Rattle.mov_model.proofs.Carry.{track_not}
use Rattle.mov_model.proofs.Clauses.{all_tracks, behind_split, header_len, held_inside, held_sides, kept_bytes, slots_end, whole_brings, whole_new, whole_old}
use Rattle.mov_model.proofs.Fits.{SmallCarriers}
use Rattle.mov_model.proofs.Kids.{KidOk, track_from}
use Rattle.mov_model.proofs.Large.{Within, carrier_fits}
use Rattle.mov_model.proofs.Makes.{pieces_copied}
use Rattle.mov_model.proofs.Overlay.{changed_hanging, changed_lay}
use Rattle.mov_model.proofs.Relocated.{fixed, kids_all}
use Rattle.mov_model.proofs.Steps.{met_both}
use Rattle.mov_model.proofs.Tables.{relocated_id, relocated_other}
use Rattle.mov_model.proofs.WideCount.{SameMet, met_beside, relocated_count, side_laid, wide_count}
use Rattle.mov_model.proofs.WideDeep.{Ready, Wide, body_bytes}
use Rattle.mov_model.proofs.WideGrown.{ready_each, spell_parts}
use Rattle.mov_model.proofs.WideLaw.{again, are_bytes, no_stco, parts_are, parts_wide, readable, tables_are, tracks_are}
use Rattle.mov_model.proofs.WideMovie.{all_ready, first_of_wide, kids_are_ok, wide_each}
use Rattle.mov_model.proofs.WideSpliced.{changed_twice, ends_wide, fine_wide, fit, g_same, h_id, kids_grow, laid_length, on_tracks, open_wide, pieces_wide, read_wide, whole_wide, joined_wide}
use Rattle.mov_model.proofs.WideTwice.{wide_twice}
use Rattle.qt_text.specs.User.{udta, user_items}
use Rattle.sample_tables.specs.Tables.{moved_table, places, places_in, rows}

-- ---- the first size above its limit

pub none_above : (t : List Size) → Within t → first_above t ≡ None
none_above [] w = refl
none_above (x ∷ t) w = ap (λ (b : Bool). cond b (Some x) (first_above t)) (le-ltb x.limit x.size w.0) ∙ none_above t w.1

-- sizes behind others that pass no limit where those don't
above_tail : (a t : List Size) → (Within a → Within t) → first_above (a ++ t) ≡ first_above a
above_tail [] t f = none_above t (f tt)
above_tail (x ∷ a) t f = go (is_above x) refl (λ low. above_tail a t (λ w. f (low, w)))
  where
    go : (b : Bool) → is_above x ≡ b → (x.size ≤ x.limit → first_above (a ++ t) ≡ first_above a) → cond b (Some x) (first_above (a ++ t)) ≡ cond b (Some x) (first_above a)
    go true e more = refl
    go false e more = more (ltb-false x.limit x.size e)

pub above_under : (a b c : List Size) → (Within a → first_above b ≡ first_above c) → first_above (a ++ b) ≡ first_above (a ++ c)
above_under [] b c f = f tt
above_under (x ∷ a) b c f = go (is_above x) refl (λ low. above_under a b c (λ w. f (low, w)))
  where
    go : (t : Bool) → is_above x ≡ t → (x.size ≤ x.limit → first_above (a ++ b) ≡ first_above (a ++ c)) → cond t (Some x) (first_above (a ++ b)) ≡ cond t (Some x) (first_above (a ++ c))
    go true e more = refl
    go false e more = more (ltb-false x.limit x.size e)

-- whether there is one of a sort, by the first
any_first : (sort : Chunk → Bool) (cs : List Chunk) → list_any sort cs ≡ not (is_nil (first_of sort cs))
any_first sort [] = refl
any_first sort (c ∷ cs) = go (sort c) (any_first sort cs)
  where
    go : (t : Bool) → list_any sort cs ≡ not (is_nil (first_of sort cs)) → (t || list_any sort cs) ≡ not (is_nil (cond t (c ∷ []) (first_of sort cs)))
    go true more = refl
    go false more = more

-- ---- lengths of the new movie

-- what is laid of changed atoms gains what they gain
changed_gain : (h : Chunk → Chunk) (f : Fill) (ps : List Piece) → length (spell_all (lay f (map (changed_piece h) ps))) + old_length ps ≡ length (spell_all (lay f ps)) + old_length (map (changed_piece h) ps)
changed_gain h f [] = refl
changed_gain h f (copied c ∷ ps) =
    omega (
      arith,
      changed_gain h f ps,
      length-append (spell (h c)) (spell_all (lay f (map (changed_piece h) ps))),
      length-append (spell c) (spell_all (lay f ps)),
      length-append (spell c) (flat_map old_bytes ps),
      length-append (spell (h c)) (flat_map old_bytes (map (changed_piece h) ps)),
    )
changed_gain h f (replaced lead slot now last ∷ ps) =
    let x = map padded lead ++ (now ++ f last slot (length (unit_bytes lead now))) in
    let a = lay f (map (changed_piece h) ps) in
    let b = lay f ps in
    omega (
      arith,
      changed_gain h f ps,
      ap length (spell_all-append x a),
      ap length (spell_all-append x b),
      length-append (spell_all x) (spell_all a),
      length-append (spell_all x) (spell_all b),
      length-append (spell_all lead ++ slot) (flat_map old_bytes ps),
      length-append (spell_all lead ++ slot) (flat_map old_bytes (map (changed_piece h) ps)),
    )

module _ (m : Movie) (e : Changes) (joined : spell_all (atoms_in m.movie).chunks ++ (atoms_in m.movie).left ≡ m.movie.body) (no_pad : m.movie.pad ≡ [])
    (fine : AllByRecursion (λ c. (lacks_pad c ≡ false) × Alike c (relocated (shift (edit_cuts m e)) c)) (atoms_in m.movie).chunks) where
  -- the new atoms are laid of relocated ones
  pub kids_laid : new_kids m e ≡ lay (fill (is_open m e)) (map (changed_piece (relocated (shift (edit_cuts m e)))) (pieces_of m e))
  kids_laid = sym (changed_lay (relocated (shift (edit_cuts m e))) (λ body. relocated_other (shift (edit_cuts m e)) (atom (codes "free") body) refl) (is_open m e) (pieces_of m e) (fixed m e joined no_pad fine))

  pub kids_length : length (spell_all (new_kids m e)) ≡ length (spell_all (lay (fill (is_open m e)) (pieces_of m e)))
  kids_length = ap (λ (cs : List Chunk). length (spell_all cs)) kids_laid ∙ laid_length (relocated (shift (edit_cuts m e))) (fill (is_open m e)) (pieces_of m e) (fixed m e joined no_pad fine)

  pub file_length : length (spell_movie (new_movie m e)) ≡ length (spell_all m.before) + (length (spell (new_movie m e).movie) + (length (spell_all (new_movie m e).behind) + length m.left))
  file_length =
      let n = new_movie m e in
      omega (
        arith,
        length-append (spell_all (all_atoms n)) m.left,
        ap length (spell_all-append m.before (n.movie ∷ n.behind)),
        length-append (spell_all m.before) (spell_all (n.movie ∷ n.behind)),
        length-append (spell n.movie) (spell_all n.behind),
      )

  pub body_length : length (new_movie m e).movie.body ≡ length (spell_all (new_kids m e)) + length (atoms_in m.movie).left
  body_length = length-append (spell_all (new_kids m e)) (atoms_in m.movie).left

-- what an mdat holds goes to a place in the new file
module _ (o : List ℕ) (bytes : IsBytes o) (sup : Readable o) (e : Changes) where
  abbrev was : Movie
  was = mov o bytes sup

  fine_kids : AllByRecursion (λ c. (lacks_pad c ≡ false) × Alike c (relocated (shift (edit_cuts was e)) c)) (atoms_in was.movie).chunks
  fine_kids = kids_all (shift (edit_cuts was e)) (kids o bytes sup) (kids_read o bytes sup).0 (whole_kids (kids o bytes sup) sup.movie.tracks_end) (kids_bytes o bytes sup)

  pub held_goes : (p : ℕ) → IsHeld (all_atoms was) p → shift (edit_cuts was e) p < length (spell_movie (new_movie was e))
  held_goes p k = go (held_sides o bytes sup e p k.0 k.1)
    where
      joined : spell_all (atoms_in was.movie).chunks ++ (atoms_in was.movie).left ≡ was.movie.body
      joined = kids_joined o bytes sup

      no_pad : was.movie.pad ≡ []
      no_pad = moov_padless o bytes sup

      now : Movie
      now = new_movie was e

      go : (p < length (spell_all was.before)) ⊎ ((slots_end o bytes sup e ≤ p) × (length (spell_all was.before) + length (spell was.movie) ≤ p)) → shift (edit_cuts was e) p < length (spell_movie (new_movie was e))
      go (inl lt) =
          let still = (before_stays (edit_cuts was e) p (before_all (fill (ends_file was e)) (kids_at was e) (whole_pieces was e) p (omega arith))).1 in
          omega (arith, lt, still, file_length was e joined no_pad fine_kids)
      go (inr far) =
          let moved = (past_moves (fill (ends_file was e)) (kids_at was e) (whole_pieces was e) p (whole_brings was e) far.0).1 in
          let all : length o ≡ length (spell_all was.before) + (length (spell was.movie) + (length (spell_all was.behind) + length was.left))
          = omega (
            arith,
            ap length (sym (file_bytes o bytes sup)),
            length-append (spell_all (all_atoms was)) was.left,
            ap length (spell_all-append was.before (was.movie ∷ was.behind)),
            length-append (spell_all was.before) (spell_all (was.movie ∷ was.behind)),
            length-append (spell was.movie) (spell_all was.behind),
          ) in
          let held_low : p < length o = omega (arith, held_inside 0 p k.0 (all_atoms was) k.1, ap length (sym (file_bytes o bytes sup)), length-append (spell_all (all_atoms was)) was.left) in
          let behind_old : length (spell_all was.behind) ≡ length (spell_all (slot_behind was e)) + length (spell_all (rest_behind was e))
          = ap (λ (cs : List Chunk). length (spell_all cs)) (sym (behind_split was e)) ∙ ap length (spell_all-append (slot_behind was e) (rest_behind was e)) ∙ length-append (spell_all (slot_behind was e)) (spell_all (rest_behind was e)) in
          let behind_new : length (spell_all now.behind) ≡ length (spell_all (padding_behind was e)) + length (spell_all (rest_behind was e))
          = ap length (spell_all-append (padding_behind was e) (rest_behind was e)) ∙ length-append (spell_all (padding_behind was e)) (spell_all (rest_behind was e)) in
          omega (
            arith,
            moved,
            held_low,
            all,
            behind_old,
            behind_new,
            file_length was e joined no_pad fine_kids,
            body_length was e joined no_pad fine_kids,
            kids_length was e joined no_pad fine_kids,
            whole_old was e,
            whole_new was e,
            kept_bytes was e,
            spell_parts was.movie,
            spell_parts now.movie,
            header_len was.movie.form was.movie.id (length now.movie.body) (length was.movie.body),
            ap length joined,
            length-append (spell_all (atoms_in was.movie).chunks) (atoms_in was.movie).left,
          )

-- ---- the widened movie

module _ (o : List ℕ) (bytes : IsBytes o) (sup : Readable o) (small : length (spell (movie_of o).movie) ≤ 2 ^ 26) (low : length o < 2 ^ 63) (e : Changes) where
  abbrev old : Movie
  old = mov o bytes sup

  abbrev w : Movie
  w = widened (mov o bytes sup)

  abbrev u : ℕ → ℕ
  u = past_moov (mov o bytes sup)

  abbrev s : ℕ → ℕ
  s = shift (edit_cuts (widened (mov o bytes sup)) e)

  abbrev t : ℕ → ℕ
  t = shift (edit_cuts (mov o bytes sup) e)

  abbrev h : Chunk → Chunk
  h c = relocated (past_moov (mov o bytes sup)) (wide_atom c)

  abbrev g : Chunk → Chunk
  g c = relocated s (h c)

  wide_bytes : IsBytes (widened_file o)
  wide_bytes = are_bytes o bytes sup small

  wide_readable : Readable (widened_file o)
  wide_readable = readable o bytes sup small (fit o bytes sup small low e)

  is_wide : movie_of (widened_file o) ≡ w
  is_wide = again o bytes sup small

  fine_w : AllByRecursion (λ c. (lacks_pad c ≡ false) × Alike c (relocated s c)) (atoms_in w.movie).chunks
  fine_w = fine_wide o bytes sup small low e

  joined_w : spell_all (atoms_in w.movie).chunks ++ (atoms_in w.movie).left ≡ w.movie.body
  joined_w = joined_wide o bytes sup small low e

  joined_m : spell_all (atoms_in old.movie).chunks ++ (atoms_in old.movie).left ≡ old.movie.body
  joined_m = kids_joined o bytes sup

  no_pad : old.movie.pad ≡ []
  no_pad = moov_padless o bytes sup

  fine_m : AllByRecursion (λ c. (lacks_pad c ≡ false) × Alike c (relocated t c)) (atoms_in old.movie).chunks
  fine_m = fine_kids o bytes sup e

  -- ---- the carriers

  first_users : first_of is_user (parts w) ≡ first_of is_user (parts old)
  first_users = ap (first_of is_user) (parts_are o bytes sup small) ∙ first_user_relocated u (map wide_atom (parts old)) ∙ first_of_wide is_user user_sort (parts old)

  first_metas : first_of is_meta (parts w) ≡ first_of is_meta (parts old)
  first_metas = ap (first_of is_meta) (parts_are o bytes sup small) ∙ first_meta_relocated u (map wide_atom (parts old)) ∙ first_of_wide is_meta meta_sort (parts old)

  any_users : list_any is_user (parts w) ≡ list_any is_user (parts old)
  any_users = any_first is_user (parts w) ∙ ap (λ (cs : List Chunk). not (is_nil cs)) first_users ∙ sym (any_first is_user (parts old))

  any_metas : list_any is_meta (parts w) ≡ list_any is_meta (parts old)
  any_metas = any_first is_meta (parts w) ∙ ap (λ (cs : List Chunk). not (is_nil cs)) first_metas ∙ sym (any_first is_meta (parts old))

  users_same : user_sizes w e.users ≡ user_sizes old e.users
  users_same =
      let new = map body_size (listed (fresh udta (put_all user_items e.users []))) in
      ap (λ (cs : List Chunk). map (λ c. body_size (edit_carrier udta user_items e.users c)) cs ++ cond (list_any is_user (parts w)) [] new) first_users
      ∙ ap (λ (b : Bool). map (λ c. body_size (edit_carrier udta user_items e.users c)) (first_of is_user (parts old)) ++ cond b [] new) any_users

  keys_same : key_sizes w e.keys ≡ key_sizes old e.keys
  keys_same =
      let new = map body_size (listed (new_meta e.keys)) in
      ap (λ (cs : List Chunk). map (λ c. body_size (edit_meta e.keys c)) cs ++ cond (list_any is_meta (parts w)) [] new) first_metas
      ∙ ap (λ (b : Bool). map (λ c. body_size (edit_meta e.keys c)) (first_of is_meta (parts old)) ++ cond b [] new) any_metas

  few_of : (x : Movie) → Within (user_sizes x e.users) → Within (key_sizes x e.keys) → SmallCarriers x e
  few_of x a b =
      let p = carrier_fits is_user (edit_carrier udta user_items e.users) (fresh udta (put_all user_items e.users [])) (parts x) a in
      let k = carrier_fits is_meta (edit_meta e.keys) (new_meta e.keys) (parts x) b in
      record { user_small = p.0; fresh_small = p.1; keys_small = k.0; new_keys_small = k.1 }

  -- ---- what stands behind moov

  padding_wide : padding_behind w e ≡ padding_behind old e
  padding_wide =
      ap (λ (b : Bool). cond b (hanging (fill (ends_file w e)) (whole_pieces w e)) []) (open_wide o bytes sup small low e)
      ∙ ap (λ (b : Bool). cond (is_open old e) (hanging (fill b) (whole_pieces w e)) []) (ends_wide o bytes sup small low e)
      ∙ ap (λ (ps : List Piece). cond (is_open old e) (hanging (fill (ends_file old e)) ps) []) (whole_wide o bytes sup small low e)
      ∙ ap (λ (cs : List Chunk). cond (is_open old e) cs []) (changed_hanging h (ends_file old e) (whole_pieces old e))

  behind_wide : (new_movie w e).behind ≡ (new_movie old e).behind
  behind_wide = ap (λ (cs : List Chunk). cs ++ rest_behind w e) padding_wide ∙ ap (λ (b : Bool). padding_behind old e ++ cond b (past_gaps old.behind) old.behind) (open_wide o bytes sup small low e)

  -- ---- the new atoms

  laid_wide : lay (fill (is_open w e)) (pieces_of w e) ≡ lay (fill (is_open old e)) (map (changed_piece h) (pieces_of old e))
  laid_wide = ap (λ (b : Bool). lay (fill b) (pieces_of w e)) (open_wide o bytes sup small low e) ∙ ap (lay (fill (is_open old e))) (pieces_wide o bytes sup small low e)

  new_kids_wide : new_kids w e ≡ lay (fill (is_open old e)) (map (changed_piece g) (pieces_of old e))
  new_kids_wide =
      kids_laid w e joined_w no_pad fine_w ∙ ap (λ (b : Bool). lay (fill b) (map (changed_piece (relocated s)) (pieces_of w e))) (open_wide o bytes sup small low e)
      ∙ ap (λ (ps : List Piece). lay (fill (is_open old e)) (map (changed_piece (relocated s)) ps)) (pieces_wide o bytes sup small low e)
      ∙ ap (lay (fill (is_open old e))) (changed_twice (relocated s) h (pieces_of old e))

  abbrev Fit : Chunk → Type 0
  Fit c = AllByRecursion (λ p. past_moov (mov o bytes sup) p < 2 ^ 64) (places (tables c))

  track_same : (c : Chunk) → is c (codes "trak") ≡ true → Ready 5 moov c → Wide 5 moov c (wide_atom c) → KidOk c → Fit c → SameMet (g c) (relocated t c)
  track_same c i r x k f =
      let ok = track_from c k in
      let both : ℕ → ℕ = λ p. s (u p) in
      let moved : g c ≡ relocated both (wide_atom c) = wide_twice u s c x ok.no_other_offsets ok.long_tables f in
      let track : (d : Chunk) → d.id ≡ c.id → udta.is d ≡ false = λ d j. track_not is_user user_sort d (ap (λ (b : List ℕ). bytes_eq b (codes "trak")) j ∙ i) in
      let left = ap (λ (d : Chunk). length (Rattle.container_model.specs.Walk.nested format 5 moov d)) moved ∙ relocated_count both (wide_atom c) x.whole (body_bytes (wide_atom c) x.respelled.bytes) ∙ wide_count 5 moov c r in
      inr (track (g c) (relocated_id s (h c) ∙ h_id o bytes sup small low e c), track (relocated t c) (relocated_id t c), left ∙ sym (relocated_count t c r.whole (body_bytes c r.bytes)))

  kids_same : (cs : List Chunk) → AllByRecursion (Ready 5 moov) cs → AllByRecursion (λ c. Wide 5 moov c (wide_atom c)) cs → AllByRecursion KidOk cs → AllByRecursion (λ c. is c (codes "trak") ≡ true → Fit c) cs → AllByRecursion (λ c. SameMet (g c) (relocated t c)) cs
  kids_same [] r x k f = tt
  kids_same (c ∷ cs) r x k f = (go (is c (codes "trak")) refl, kids_same cs r.1 x.1 k.1 f.1)
    where
      go : (b : Bool) → is c (codes "trak") ≡ b → SameMet (g c) (relocated t c)
      go true i = track_same c i r.0 x.0 k.0 (f.0 i)
      go false i = inl (g_same o bytes sup small low e c i ∙ sym (relocated_other t c i))

  -- as many atoms are met
  steps_same : (at to : ℕ) → atoms_met (inside_steps false at (new_kids w e)) ≡ atoms_met (inside_steps false to (new_kids old e))
  steps_same at to =
      let ks = kids o bytes sup in
      let each = kids_same ks (ready_each 5 moov ks (all_ready o bytes sup small)) (wide_each o bytes sup small) (kids_are_ok o bytes sup small) (on_tracks Fit ks (kids_read o bytes sup).0 (fit o bytes sup small low e)) in
      let all = pieces_copied (λ c. SameMet (g c) (relocated t c)) (λ c n. inl (g_same o bytes sup small low e c n ∙ sym (relocated_other t c n))) old e each in
      ap (λ (cs : List Chunk). atoms_met (inside_steps false at cs)) new_kids_wide
      ∙ met_beside false at to (lay (fill (is_open old e)) (map (changed_piece g) (pieces_of old e))) (lay (fill (is_open old e)) (map (changed_piece (relocated t)) (pieces_of old e))) (side_laid g (relocated t) (fill (is_open old e)) (pieces_of old e) all)
      ∙ ap (λ (cs : List Chunk). atoms_met (inside_steps false to cs)) (sym (kids_laid old e joined_m no_pad fine_m))

  moov_met : (x : Movie) (ks : List Chunk) (left : List ℕ) → atoms_in (new_movie x e).movie ≡ record { chunks = ks; stop = ends; left = left } → atoms_met (moov_steps (new_movie x e)) ≡ atoms_met (inside_steps false (inside_at (new_movie x e)) ks)
  moov_met x ks left r =
      let n = new_movie x e in
      let a = inside_steps false (inside_at n) (atoms_in n.movie).chunks in
      let b = end_at moov (inside_at n + length (spell_all (atoms_in n.movie).chunks)) (atoms_in n.movie).stop ∷ [] in
      let none : atoms_met b ≡ 0 = refl in
      omega (arith, met_both a b, none, ap (λ (y : Run). atoms_met (inside_steps false (inside_at n) y.chunks)) r)

  count_same : SmallCarriers old e → SmallCarriers w e → count_parts (new_movie w e) ≡ count_parts (new_movie old e)
  count_same a b =
      let there = small_moov_again (widened_file o) wide_bytes wide_readable e (subst (λ (x : Movie). SmallCarriers x e) (sym is_wide) b) in
      let read_w : atoms_in (new_movie w e).movie ≡ record { chunks = new_kids w e; stop = ends; left = (atoms_in w.movie).left } = subst (λ (x : Movie). atoms_in (new_movie x e).movie ≡ record { chunks = new_kids x e; stop = ends; left = (atoms_in x.movie).left }) is_wide there in
      let read_m = small_moov_again o bytes sup e a in
      omega (
        arith,
        moov_met w (new_kids w e) (atoms_in w.movie).left read_w,
        moov_met old (new_kids old e) (moov_left o bytes sup) read_m,
        steps_same (inside_at (new_movie w e)) (inside_at (new_movie old e)),
        length-append w.before ((new_movie w e).movie ∷ (new_movie w e).behind),
        length-append old.before ((new_movie old e).movie ∷ (new_movie old e).behind),
        ap (λ (cs : List Chunk). length cs) behind_wide,
      )

  -- ---- lengths

  pub body_same : length (new_movie w e).movie.body ≡ length (new_movie old e).movie.body + growth old
  body_same =
      let ps = pieces_of old e in
      omega (
        arith,
        kids_length w e joined_w no_pad fine_w,
        kids_length old e joined_m no_pad fine_m,
        body_length w e joined_w no_pad fine_w,
        body_length old e joined_m no_pad fine_m,
        ap (λ (cs : List Chunk). length (spell_all cs)) laid_wide,
        changed_gain h (fill (is_open old e)) ps,
        kept_bytes w e,
        kept_bytes old e,
        ap old_length (pieces_wide o bytes sup small low e),
        kids_grow o bytes sup small low e,
        ap (λ (r : Run). length r.left) (read_wide o bytes sup small low e),
      )

  pub moov_same : length (spell (new_movie w e).movie) ≡ length (spell (new_movie old e).movie) + growth old
  moov_same =
      omega (
        arith,
        body_same,
        spell_parts (new_movie w e).movie,
        spell_parts (new_movie old e).movie,
        header_len old.movie.form old.movie.id (length (new_movie w e).movie.body) (length (new_movie old e).movie.body),
      )

  pub file_same : length (spell_movie (new_movie w e)) ≡ length (spell_movie (new_movie old e)) + growth old
  file_same = omega (arith, moov_same, file_length w e joined_w no_pad fine_w, file_length old e joined_m no_pad fine_m, ap (λ (cs : List Chunk). length (spell_all cs)) behind_wide)

  -- ---- places pass nowhere

  row_within : (c : Chunk) → is c (codes "stco") ≡ false → AllByRecursion (λ p. s p ≤ 18446744073709551615) (places_in c) → Within (row_sizes s c)
  row_within c n f = rw n (go (is c (codes "co64")) (subst (λ (b : Bool). AllByRecursion (λ p. s p ≤ 18446744073709551615) (cond b (rows be32 c) (cond (is c (codes "co64")) (rows be64 c) []))) n f))
    where
      each : (ps : List ℕ) → AllByRecursion (λ p. s p ≤ 18446744073709551615) ps → Within (map (λ p. limited 18446744073709551615 (s p)) ps)
      each [] f = tt
      each (p ∷ ps) f = (f.0, each ps f.1)

      go : (b : Bool) → AllByRecursion (λ p. s p ≤ 18446744073709551615) (cond b (rows be64 c) []) → Within (cond b (map (λ p. limited 18446744073709551615 (s p)) (rows be64 c)) [])
      go true f = each (rows be64 c) f
      go false f = tt

  rows_within : (cs : List Chunk) → AllByRecursion (λ c. is c (codes "stco") ≡ false) cs → AllByRecursion (λ p. s p ≤ 18446744073709551615) (places cs) → Within (flat_map (row_sizes s) cs)
  rows_within [] n f = tt
  rows_within (c ∷ cs) n f =
      let p = all_parts (λ p. s p ≤ 18446744073709551615) (places_in c) (places cs) f in
      all_join (λ (x : Size). x.size ≤ x.limit) (row_sizes s c) (flat_map (row_sizes s) cs) (row_within c n.0 p.0) (rows_within cs n.1 p.1)

  none_four : (ts : List Chunk) → AllByRecursion (λ c. is c (codes "stco") ≡ false) (map (moved_table u) (map wide_table ts))
  none_four [] = tt
  none_four (c ∷ ts) = (no_stco c, none_four ts)

  module _ (fits_file : length (spell_movie (new_movie w e)) ≤ 9223372036854775807) where
    held_fits : (p : ℕ) → IsHeld (all_atoms w) p → s p ≤ 18446744073709551615
    held_fits p k =
        let there = held_goes (widened_file o) wide_bytes wide_readable e p (subst (λ (x : Movie). IsHeld (all_atoms x) p) (sym is_wide) k) in
        let lt : s p < length (spell_movie (new_movie w e)) = subst (λ (x : Movie). shift (edit_cuts x e) p < length (spell_movie (new_movie x e))) is_wide there in
        omega (arith, lt, fits_file)

    all_fit : (ps : List ℕ) → AllByRecursion (IsHeld (all_atoms w)) ps → AllByRecursion (λ p. s p ≤ 18446744073709551615) ps
    all_fit [] k = tt
    all_fit (p ∷ ps) k = (held_fits p k.0, all_fit ps k.1)

    tracks_within : (ts : List Chunk) → AllByRecursion (λ c. Wide 5 moov c (wide_atom c)) ts → AllByRecursion (TrackFine (all_atoms w)) (map (relocated u) (map wide_atom ts)) → Within (flat_map (λ (c : Chunk). flat_map (row_sizes s) (tables c)) (map (relocated u) (map wide_atom ts)))
    tracks_within [] x k = tt
    tracks_within (c ∷ ts) x k =
        let d = relocated u (wide_atom c) in
        let none = subst (AllByRecursion (λ c. is c (codes "stco") ≡ false)) (sym (tables_are o bytes sup small c x.0)) (none_four (tables c)) in
        all_join (λ (y : Size). y.size ≤ y.limit) (flat_map (row_sizes s) (tables d)) (flat_map (λ (c : Chunk). flat_map (row_sizes s) (tables c)) (map (relocated u) (map wide_atom ts)))
        (rows_within (tables d) none (all_fit (places (tables d)) k.0.chunks_inside)) (tracks_within ts x.1 k.1)

    tables_within : Within (table_sizes w e)
    tables_within =
        let fine : AllByRecursion (TrackFine (all_atoms w)) (tracks w) = subst (λ (x : Movie). AllByRecursion (TrackFine (all_atoms x)) (tracks x)) is_wide wide_readable.movie.tracks in
        let are = tracks_are o bytes sup small in
        subst (λ (ts : List Chunk). Within (flat_map (λ (c : Chunk). flat_map (row_sizes s) (tables c)) ts)) (sym are)
        (tracks_within (tracks old) (all_tracks (λ c. Wide 5 moov c (wide_atom c)) (parts old) (parts_wide o bytes sup small)) (subst (AllByRecursion (TrackFine (all_atoms w))) are fine))

  moved_within : (ts : List Chunk) → AllByRecursion Fit ts → Within (flat_map (λ (c : Chunk). map (λ p. limited 18446744073709551615 (u p)) (places (tables c))) ts)
  moved_within [] f = tt
  moved_within (c ∷ ts) f =
      all_join (λ (y : Size). y.size ≤ y.limit) (map (λ p. limited 18446744073709551615 (u p)) (places (tables c))) (flat_map (λ (c : Chunk). map (λ p. limited 18446744073709551615 (u p)) (places (tables c))) ts) (each (places (tables c)) f.0) (moved_within ts f.1)
    where
      each : (ps : List ℕ) → AllByRecursion (λ p. u p < 2 ^ 64) ps → Within (map (λ p. limited 18446744073709551615 (u p)) ps)
      each [] f = tt
      each (p ∷ ps) f = (omega (arith, f.0), each ps f.1)

  -- ---- the law

  -- the sizes of an edit that widens, of which some may pass
  abbrev pub passing : List Size
  passing =
      user_sizes (mov o bytes sup) e.users
      ++ (key_sizes (mov o bytes sup) e.keys
      ++ (limited 65536 (count_parts (new_movie (mov o bytes sup) e))
      ∷ (limited (2 ^ 26) (length (spell (new_movie (mov o bytes sup) e).movie) + growth (mov o bytes sup)) ∷ (limited 9223372036854775807 (length (spell_movie (new_movie (mov o bytes sup) e)) + growth (mov o bytes sup)) ∷ []))))

  pub wide_sizes_pass : first_above (sizes_by o e true) ≡ first_above passing
  wide_sizes_pass =
      let us = user_sizes old e.users in
      let ks = key_sizes old e.keys in
      let v = wide_sizes old in
      let tail = table_sizes w e ++ v in
      let cw = limited 65536 (count_parts (new_movie w e)) in
      let mw = limited (2 ^ 26) (length (spell (new_movie w e).movie)) in
      let fw = limited 9223372036854775807 (length (spell_movie (new_movie w e))) in
      let c = limited 65536 (count_parts (new_movie old e)) in
      let q = limited (2 ^ 26) (length (spell (new_movie old e).movie) + growth old) in
      let f = limited 9223372036854775807 (length (spell_movie (new_movie old e)) + growth old) in
      let core : Within us → Within ks → first_above (cw ∷ (mw ∷ (fw ∷ tail))) ≡ first_above (c ∷ (q ∷ (f ∷ [])))
      = λ a b.
      let few_m = few_of old a b in
      let few_w = few_of w (subst Within (sym users_same) a) (subst Within (sym keys_same) b) in
      ap (λ (n : ℕ). first_above (limited 65536 n ∷ (mw ∷ (fw ∷ tail)))) (count_same few_m few_w) ∙ ap (λ (n : ℕ). first_above (c ∷ (limited (2 ^ 26) n ∷ (fw ∷ tail)))) moov_same
      ∙ ap (λ (n : ℕ). first_above (c ∷ (q ∷ (limited 9223372036854775807 n ∷ tail)))) file_same
      ∙ above_tail (c ∷ (q ∷ (f ∷ []))) tail
      (λ x. all_join (λ (y : Size). y.size ≤ y.limit) (table_sizes w e) v (tables_within (omega (arith, file_same, x.1.1.0))) (moved_within (tracks old) (fit o bytes sup small low e))) in
      ap (λ (x : Movie). first_above (last_sizes x e ++ v)) is_wide ∙ ap first_above (joins (user_sizes w e.users) (key_sizes w e.keys) cw mw fw (table_sizes w e) v)
      ∙ ap (λ (x : List Size). first_above (x ++ (key_sizes w e.keys ++ (cw ∷ (mw ∷ (fw ∷ tail)))))) users_same
      ∙ ap (λ (x : List Size). first_above (us ++ (x ++ (cw ∷ (mw ∷ (fw ∷ tail)))))) keys_same
      ∙ above_under us (ks ++ (cw ∷ (mw ∷ (fw ∷ tail)))) (ks ++ (c ∷ (q ∷ (f ∷ [])))) (λ a. above_under ks (cw ∷ (mw ∷ (fw ∷ tail))) (c ∷ (q ∷ (f ∷ []))) (λ b. core a b))
    where
      joins : (a b : List Size) (x y z : Size) (d v : List Size) → (a ++ (b ++ (x ∷ (y ∷ (z ∷ d))))) ++ v ≡ a ++ (b ++ (x ∷ (y ∷ (z ∷ (d ++ v)))))
      joins a b x y z d v = append_assoc a (b ++ (x ∷ (y ∷ (z ∷ d)))) v ∙ ap (λ (r : List Size). a ++ r) (append_assoc b (x ∷ (y ∷ (z ∷ d))) v)

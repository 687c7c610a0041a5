-- The new file of a movie with wide tables is one splice of the old one, and what an mdat holds goes with the range it stands in.
use Rattle.std.proofs.Common.{Bool, List, Some, [], ap, append_assoc, arith, cond, drop, false, inl, inr, length, ltb, map, refl, subst, sym, take, true, ℕ, ◌++◌, ◌+◌, ◌-◌, ◌<◌, ◌^◌, ◌∙◌, ◌∷◌, ◌≡◌, ◌≤◌}
use Rattle.std.specs.Prelude.{codes, ◌&&◌, ◌⊎◌}
use Rattle.std.specs.List.{AllByRecursion, flat_map}
use Rattle.std.proofs.lemmas.Bool.{cond-false, le-ltb}
use Rattle.std.proofs.lemmas.List.{length-append, length-drop, length-take}
use Rattle.carrier_model.proofs.Gaps.{places_put}
use Rattle.carrier_model.specs.Steps.{carried}
use Rattle.container_model.proofs.Codec.{IsBytes}
use Rattle.container_model.proofs.Cuts.{AllMake, CanMake, cuts_ascend_with, lay_splices_with}
use Rattle.container_model.proofs.Deep.{Alike, alike_len}
use Rattle.container_model.proofs.Places.{Before, before_all, before_stays, old_length, past_moves}
use Rattle.container_model.proofs.Read.{Atom}
use Rattle.container_model.proofs.Splice.{before_lost, lost_low}
use Rattle.container_model.proofs.Units.{spell_all-append}
use Rattle.container_model.specs.Atoms.{atoms_in, is}
use Rattle.container_model.specs.Chunk.{Chunk, Run, ends, header_bytes, spell, spell_all}
use Rattle.container_model.specs.Cuts.{changed_piece, cuts_with}
use Rattle.container_model.specs.Items.{is_nil}
use Rattle.container_model.specs.Sizes.{inside}
use Rattle.container_model.specs.Splice.{Ascend, Cut, Outside, end_of, gained, lost, shift, splice, splice_from}
use Rattle.container_model.specs.Units.{Fill, Piece, copied, lacks_pad, lay, old_bytes, padded, replaced, shut, solids, unit_bytes, units}
use Rattle.mov_model.specs.Atoms.{cell_of, is_padding, moov}
use Rattle.mov_model.specs.Carried.{Changes, steps}
use Rattle.mov_model.specs.Cuts.{header_cut}
use Rattle.mov_model.specs.Movie.{Movie, all_atoms, movie_of, spell_movie}
use Rattle.mov_model.specs.New.{edit_cuts, edited_file, ends_file, ends_open, fill, gaps_of, grown, is_open, kids_at, new_movie, past_gaps, pieces_of, rest_behind, slot_behind, whole_pieces}
use Rattle.mov_model.specs.Parts.{track_of, tracks}
use Rattle.mov_model.specs.Support.{IsHeld, Readable, TrackFine}
use Rattle.mov_model.specs.Tables.{relocated, tables}
use Rattle.mov_model.specs.Widen.{growth, moov_end, past_moov, wide_atom, widened, widened_file}
use Rattle.mov_model.specs.WideCuts.{IsWideSplice, wide_cuts, wide_kid_cuts, wide_place}
use Rattle.mov_model.proofs.Again.{file_bytes, kids, kids_bytes, kids_joined, kids_read, moov_left, moov_padless, mov, whole_kids}
use Rattle.mov_model.proofs.Clauses.{ascend_more, header_len, held_inside, held_sides, inside_file, kept_bytes, slots_end, whole_brings, whole_old}
use Rattle.mov_model.proofs.Kids.{KidOk, track_from}
use Rattle.mov_model.proofs.Makes.{pieces_make}
use Rattle.mov_model.proofs.Overlay.{Fixed, changed_grown, changed_open}
use Rattle.mov_model.proofs.Relocated.{fixed_whole, kids_all, new_inner}
use Rattle.mov_model.proofs.Spans.{around, behind_pieces}
use Rattle.mov_model.proofs.Spliced.{header_spliced}
use Rattle.mov_model.proofs.Tables.{relocated_id, relocated_other}
use Rattle.mov_model.proofs.WideCells.{padding_no_track, pieces_same}
use Rattle.mov_model.proofs.WideDeep.{Ready, Wide}
use Rattle.mov_model.proofs.WideGrown.{ready_each, spell_parts}
use Rattle.mov_model.proofs.WideLaw.{again, are_bytes, new_length, readable}
use Rattle.mov_model.proofs.WideMovie.{all_ready, es_read, kids_are_ok, kids_small, moov_wide, wide_all, wide_body_length, wide_each, wide_id, wide_other}
use Rattle.mov_model.proofs.WideTurns.{wide_kid_makes, wide_plain_makes}
use Rattle.mov_model.proofs.WideTwice.{wide_twice}
use Rattle.sample_tables.specs.Tables.{places}

-- ---- lists of spans

ends_low : (from end : ℕ) (cs : List Cut) → Ascend from cs end → from ≤ end
ends_low from end [] h = h
ends_low from end (c ∷ cs) h = omega (arith, ends_low (end_of c) end cs h.1, h.0)

before_from : (from end p : ℕ) (cs : List Cut) → Ascend from cs end → p < from → Before p cs
before_from from end p [] h lt = tt
before_from from end p (c ∷ cs) h lt = (omega (arith, h.0), before_from (end_of c) end p cs h.1 (omega (arith, h.0)))

behind_all : (from end p : ℕ) (cs : List Cut) → Ascend from cs end → end ≤ p → Outside cs p
behind_all from end p [] h le = tt
behind_all from end p (c ∷ cs) h le = (inr (omega (arith, ends_low (end_of c) end cs h.1)), behind_all (end_of c) end p cs h.1 le)

-- what spans gain behind them all is what the bytes gain
past_gains : (from end p : ℕ) (cs : List Cut) (b : List ℕ) → Ascend from cs end → from + length b ≡ end → end ≤ p → gained cs p + length b ≡ lost cs p + length (splice_from from b cs)
past_gains from end p [] b h len le = refl
past_gains from end p (c ∷ cs) b h len le =
    let low = ends_low (end_of c) end cs h.1 in
    let rest = drop (end_of c - from) b in
    let z = before_lost c cs p (omega (arith, low)) in
    let rest_len : end_of c + length rest ≡ end = omega (arith, length-drop (end_of c - from) b, low, h.0) in
    let again = past_gains (end_of c) end p cs rest h.1 rest_len le in
    omega (
      arith,
      z.0,
      z.1,
      again,
      rest_len,
      low,
      h.0,
      length-take (c.at - from) b,
      length-append (take (c.at - from) b) (c.bytes ++ splice_from (end_of c) rest cs),
      length-append c.bytes (splice_from (end_of c) rest cs),
    )

-- ---- pieces that are changed

pub changed_twice : (a b : Chunk → Chunk) (ps : List Piece) → map (changed_piece a) (map (changed_piece b) ps) ≡ map (changed_piece (λ c. a (b c))) ps
changed_twice a b [] = refl
changed_twice a b (copied c ∷ ps) = ap (λ (x : List Piece). copied (a (b c)) ∷ x) (changed_twice a b ps)
changed_twice a b (replaced lead slot now last ∷ ps) = ap (λ (x : List Piece). replaced lead slot now last ∷ x) (changed_twice a b ps)

twice_map : (a b : Chunk → Chunk) (cs : List Chunk) → map (λ c. a (b c)) cs ≡ map a (map b cs)
twice_map a b [] = refl
twice_map a b (c ∷ cs) = ap (λ (x : List Chunk). a (b c) ∷ x) (twice_map a b cs)

pub laid_length : (g : Chunk → Chunk) (f : Fill) (ps : List Piece) → Fixed g ps → length (spell_all (lay f (map (changed_piece g) ps))) ≡ length (spell_all (lay f ps))
laid_length g f [] h = refl
laid_length g f (copied c ∷ ps) h = omega (arith, alike_len c (g c) h.0, laid_length g f ps h.1, length-append (spell (g c)) (spell_all (lay f (map (changed_piece g) ps))), length-append (spell c) (spell_all (lay f ps)))
laid_length g f (replaced lead slot now last ∷ ps) h =
    let x = map padded lead ++ (now ++ f last slot (length (unit_bytes lead now))) in
    let a = lay f (map (changed_piece g) ps) in
    let b = lay f ps in
    omega (
      arith,
      laid_length g f ps h.2,
      ap length (spell_all-append x a),
      ap length (spell_all-append x b),
      length-append (spell_all x) (spell_all a),
      length-append (spell_all x) (spell_all b),
    )

-- what is told of tracks, of the atoms that were read
pub on_tracks : (P : Chunk → Type 0) (cs : List Chunk) → AllByRecursion (Atom inside) cs → AllByRecursion P (flat_map track_of (solids is_padding cs)) → AllByRecursion (λ c. is c (codes "trak") ≡ true → P c) cs
on_tracks P [] a h = tt
on_tracks P (c ∷ cs) a h = go (is_padding c.id) refl h (on_tracks P cs a.1)
  where
    bare : record c { pad = [] } ≡ c
    bare = ap (λ (x : List ℕ). record c { pad = x }) (sym a.0.no_pad)

    solid : (t : Bool) → is c (codes "trak") ≡ t → AllByRecursion P (cond t (record c { pad = [] } ∷ []) [] ++ flat_map track_of (solids is_padding cs)) → (is c (codes "trak") ≡ true → P c) × AllByRecursion P (flat_map track_of (solids is_padding cs))
    solid true i h = (λ x. subst P bare h.0, h.1)
    solid false i h = (λ x. absurd cc, h)

    go : (t : Bool) → is_padding c.id ≡ t → AllByRecursion P (flat_map track_of (cond t [] (record c { pad = [] } ∷ []) ++ solids is_padding cs))
        → (AllByRecursion P (flat_map track_of (solids is_padding cs)) → AllByRecursion (λ c. is c (codes "trak") ≡ true → P c) cs) → AllByRecursion (λ c. is c (codes "trak") ≡ true → P c) (c ∷ cs)
    go true p h again = (λ x. let no = padding_no_track c p in absurd cc, again h)
    go false p h again = let r = solid (is c (codes "trak")) refl h in (r.0, again r.1)

module _ (o : List ℕ) (bytes : IsBytes o) (sup : Readable o) (small : length (spell (movie_of o).movie) ≤ 2 ^ 26) (low : length o < 2 ^ 63) (e : Changes) where
  abbrev m : Movie
  m = mov o bytes sup

  abbrev w : Movie
  w = widened (mov o bytes sup)

  abbrev u : ℕ → ℕ
  u = past_moov (mov o bytes sup)

  abbrev s : ℕ → ℕ
  s = shift (edit_cuts (widened (mov o bytes sup)) e)

  abbrev f : ℕ → ℕ
  f = wide_place (mov o bytes sup) e

  abbrev ks : List Chunk
  ks = kids o bytes sup

  -- an atom with wide tables, as it stands in the widened movie
  abbrev h : Chunk → Chunk
  h c = relocated (past_moov (mov o bytes sup)) (wide_atom c)

  -- and in the new one
  abbrev g : Chunk → Chunk
  g c = relocated s (h c)

  -- ---- places fit in eight bytes

  pub grows_little : growth m ≤ 2 ^ 26
  grows_little =
      let a = wide_all o bytes sup small in
      omega (
        arith,
        new_length o bytes sup small,
        wide_body_length o bytes sup small u,
        a.shorter,
        ap length (kids_joined o bytes sup),
        length-append (spell_all ks) (moov_left o bytes sup),
        spell_parts m.movie,
        spell_parts w.movie,
        header_len m.movie.form m.movie.id (length w.movie.body) (length m.movie.body),
        kids_small o bytes sup small,
      )

  file : length o ≡ length (spell_all (all_atoms m)) + length m.left
  file = ap length (sym (file_bytes o bytes sup)) ∙ length-append (spell_all (all_atoms m)) m.left

  fits_one : (p : ℕ) → p < length o → u p < 2 ^ 64
  fits_one p lt = go (ltb p (moov_end m))
    where
      go : (t : Bool) → cond t p (p + growth m) < 2 ^ 64
      go true = omega (arith, lt, low)
      go false = omega (arith, lt, low, grows_little)

  fit_places : (ps : List ℕ) → AllByRecursion (IsHeld (all_atoms m)) ps → AllByRecursion (λ p. u p < 2 ^ 64) ps
  fit_places [] k = tt
  fit_places (p ∷ ps) k = (fits_one p (omega (arith, file, held_inside 0 p k.0.0 (all_atoms m) k.0.1)), fit_places ps k.1)

  abbrev Fit : Chunk → Type 0
  Fit t = AllByRecursion (λ p. past_moov (mov o bytes sup) p < 2 ^ 64) (places (tables t))

  fit_tracks : (ts : List Chunk) → AllByRecursion (TrackFine (all_atoms m)) ts → AllByRecursion Fit ts
  fit_tracks [] k = tt
  fit_tracks (t ∷ ts) k = (fit_places (places (tables t)) k.0.chunks_inside, fit_tracks ts k.1)

  pub fit : AllByRecursion Fit (tracks m)
  fit = fit_tracks (tracks m) sup.movie.tracks

  -- ---- the widened movie

  joined : spell_all (atoms_in m.movie).chunks ++ (atoms_in m.movie).left ≡ m.movie.body
  joined = kids_joined o bytes sup

  no_pad : m.movie.pad ≡ []
  no_pad = moov_padless o bytes sup

  pub read_wide : atoms_in w.movie ≡ record { chunks = map (relocated u) (map wide_atom ks); stop = ends; left = moov_left o bytes sup }
  read_wide = moov_wide o bytes sup small u

  pub joined_wide : spell_all (atoms_in w.movie).chunks ++ (atoms_in w.movie).left ≡ w.movie.body
  joined_wide = ap (λ (r : Run). spell_all r.chunks ++ r.left) read_wide

  pub fine_wide : AllByRecursion (λ c. (lacks_pad c ≡ false) × Alike c (relocated s c)) (atoms_in w.movie).chunks
  fine_wide =
      let a = are_bytes o bytes sup small in
      let r = readable o bytes sup small fit in
      let n = widened_file o in
      let all = kids_all s (kids n a r) (kids_read n a r).0 (whole_kids (kids n a r) r.movie.tracks_end) (kids_bytes n a r) in
      subst (λ (x : Movie). AllByRecursion (λ c. (lacks_pad c ≡ false) × Alike c (relocated s c)) (atoms_in x.movie).chunks) (again o bytes sup small) all

  -- ---- its pieces

  pub h_id : (c : Chunk) → (h c).id ≡ c.id
  h_id c = relocated_id u (wide_atom c) ∙ wide_id c

  h_same : (c : Chunk) → is c (codes "trak") ≡ false → h c ≡ c
  h_same c n = ap (relocated u) (wide_other c n) ∙ relocated_other u c n

  pub g_same : (c : Chunk) → is c (codes "trak") ≡ false → g c ≡ c
  g_same c n = ap (relocated s) (h_same c n) ∙ relocated_other s c n

  pads_there : (cs : List Chunk) → AllByRecursion (Atom inside) cs → AllByRecursion (Atom inside) (map (relocated u) (map wide_atom cs)) → AllByRecursion (λ c. (lacks_pad c ≡ false) × (lacks_pad (h c) ≡ false)) cs
  pads_there [] a b = tt
  pads_there (c ∷ cs) a b = ((le-ltb _ _ (omega (arith, a.0.pad_none)), le-ltb _ _ (omega (arith, b.0.pad_none))), pads_there cs a.1 b.1)

  pub pieces_wide : pieces_of w e ≡ map (changed_piece h) (pieces_of m e)
  pieces_wide =
      ap (λ (r : Run). units shut (carried (steps e) (map cell_of r.chunks))) read_wide ∙ ap (λ (cs : List Chunk). units shut (carried (steps e) (map cell_of cs))) (sym (twice_map (relocated u) wide_atom ks))
      ∙ pieces_same h h_id h_same e ks (pads_there ks (kids_read o bytes sup).0 (es_read o bytes sup small u))

  pub open_wide : is_open w e ≡ is_open m e
  open_wide =
      ap (λ (r : Run). is_nil r.left && ends_open (pieces_of w e)) read_wide ∙ ap (λ (ps : List Piece). is_nil (moov_left o bytes sup) && ends_open ps) pieces_wide
      ∙ ap (λ (t : Bool). is_nil (moov_left o bytes sup) && t) (changed_open h (pieces_of m e))

  pub whole_wide : whole_pieces w e ≡ map (changed_piece h) (whole_pieces m e)
  whole_wide =
      let more = spell_all (gaps_of m.behind) in
      ap (λ (t : Bool). cond t (grown more (pieces_of w e)) (pieces_of w e)) open_wide ∙ ap (λ (ps : List Piece). cond (is_open m e) (grown more ps) ps) pieces_wide ∙ go (is_open m e)
    where
      go : (t : Bool) → cond t (grown (spell_all (gaps_of m.behind)) (map (changed_piece h) (pieces_of m e))) (map (changed_piece h) (pieces_of m e)) ≡ map (changed_piece h) (cond t (grown (spell_all (gaps_of m.behind)) (pieces_of m e)) (pieces_of m e))
      go true = sym (changed_grown h (spell_all (gaps_of m.behind)) (pieces_of m e))
      go false = refl

  pub ends_wide : ends_file w e ≡ ends_file m e
  ends_wide = ap (λ (t : Bool). t && (is_nil (cond t (past_gaps m.behind) m.behind) && is_nil m.left)) open_wide

  behind_wide : behind_pieces w e joined_wide no_pad ≡ behind_pieces m e joined no_pad
  behind_wide =
      ap (λ (r : Run). cond (is_open w e) [] r.left ++ (spell_all (rest_behind w e) ++ m.left)) read_wide
      ∙ ap (λ (t : Bool). cond t [] (moov_left o bytes sup) ++ (spell_all (cond t (past_gaps m.behind) m.behind) ++ m.left)) open_wide

  -- ---- the spans make the new atoms

  can_track : (c : Chunk) → Ready 5 moov c → Wide 5 moov c (wide_atom c) → KidOk c → Fit c → CanMake (wide_kid_cuts f) g c
  can_track c r x k t at =
      let ok = track_from c k in
      let same : g c ≡ relocated f (wide_atom c) = wide_twice u s c x ok.no_other_offsets ok.long_tables t in
      let y = wide_kid_makes f c r at in
      record { from = y.from; ascend = y.ascend; makes = λ rest more q. y.makes rest more q ∙ ap (λ (d : Chunk). spell d ++ splice_from (at + length (spell c)) rest more) (sym same) }

  can_all : (cs : List Chunk) → AllByRecursion (Ready 5 moov) cs → AllByRecursion (λ c. Wide 5 moov c (wide_atom c)) cs → AllByRecursion KidOk cs → AllByRecursion (λ c. is c (codes "trak") ≡ true → Fit c) cs → AllByRecursion (λ c. CanMake (wide_kid_cuts f) g c) cs
  can_all [] r x k t = tt
  can_all (c ∷ cs) r x k t = (go (is c (codes "trak")) refl, can_all cs r.1 x.1 k.1 t.1)
    where
      go : (b : Bool) → is c (codes "trak") ≡ b → CanMake (wide_kid_cuts f) g c
      go true i = can_track c r.0 x.0 k.0 (t.0 i)
      go false i = wide_plain_makes f g c (g_same c i) i

  pub makes_wide : AllMake (wide_kid_cuts f) g (whole_pieces m e)
  makes_wide =
      pieces_make (wide_kid_cuts f) g (λ c n. wide_plain_makes f g c (g_same c n) n) m e
      (can_all ks (ready_each 5 moov ks (all_ready o bytes sup small)) (wide_each o bytes sup small) (kids_are_ok o bytes sup small) (on_tracks Fit ks (kids_read o bytes sup).0 fit))

  abbrev slots : List Cut
  slots = cuts_with (wide_kid_cuts f) (fill (ends_file m e)) (kids_at m e) (whole_pieces m e)

  -- what is laid
  pub laid_same : spell_all (lay (fill (ends_file w e)) (map (changed_piece (relocated s)) (whole_pieces w e))) ≡ spell_all (lay (fill (ends_file m e)) (map (changed_piece g) (whole_pieces m e)))
  laid_same =
      ap (λ (t : Bool). spell_all (lay (fill t) (map (changed_piece (relocated s)) (whole_pieces w e)))) ends_wide
      ∙ ap (λ (ps : List Piece). spell_all (lay (fill (ends_file m e)) (map (changed_piece (relocated s)) ps))) whole_wide
      ∙ ap (λ (ps : List Piece). spell_all (lay (fill (ends_file m e)) ps)) (changed_twice (relocated s) h (whole_pieces m e))

  wide_spliced : spell_movie (new_movie w e) ≡ splice o (wide_cuts m e)
  wide_spliced =
      let now = new_movie w e in
      let n = length now.movie.body in
      let b = spell_all m.before in
      let head = header_bytes m.movie.form m.movie.id n in
      let ps = whole_pieces m e in
      let behind = behind_pieces m e joined no_pad in
      let y = spell_all (lay (fill (ends_file m e)) (map (changed_piece g) ps)) ++ behind in
      let laid : splice_from (kids_at m e) (flat_map old_bytes ps ++ behind) slots ≡ y = lay_splices_with (wide_kid_cuts f) g (fill (ends_file m e)) (kids_at m e) ps behind (whole_brings m e) makes_wide in
      let same : spell_all (lay (fill (ends_file w e)) (map (changed_piece (relocated s)) (whole_pieces w e))) ++ behind_pieces w e joined_wide no_pad ≡ y
      = ap (λ (x : List ℕ). x ++ behind_pieces w e joined_wide no_pad) laid_same ∙ ap (λ (x : List ℕ). spell_all (lay (fill (ends_file m e)) (map (changed_piece g) ps)) ++ x) behind_wide in
      let made : spell_movie now ≡ (b ++ head) ++ y
      = ap (λ (z : List ℕ). z ++ w.left) (spell_all-append w.before (now.movie ∷ now.behind)) ∙ around w e joined_wide no_pad w.before head now.movie.body w.movie.pad now.behind w.left no_pad
      ∙ ap (λ (z : List ℕ). (b ++ head) ++ z) (sym (new_inner w e joined_wide no_pad fine_wide) ∙ same) in
      made ∙ append_assoc b head y ∙ sym (header_spliced m e joined no_pad n slots y laid) ∙ ap (λ (x : List ℕ). splice x (wide_cuts m e)) (file_bytes o bytes sup)

  -- ---- the spans ascend

  slots_ascend : Ascend (kids_at m e) slots (slots_end o bytes sup e)
  slots_ascend = cuts_ascend_with (wide_kid_cuts f) g (fill (ends_file m e)) (kids_at m e) (whole_pieces m e) (slots_end o bytes sup e) makes_wide (omega arith)

  in_file : Ascend (kids_at m e) slots (length o)
  in_file = ascend_more (kids_at m e) (slots_end o bytes sup e) (length o) slots (inside_file o bytes sup e) slots_ascend

  wide_ascend : Ascend 0 (wide_cuts m e) (length o)
  wide_ascend = (omega arith, in_file)

  -- ---- what an mdat holds

  left_place : (p : ℕ) → p < length (spell_all m.before) → Outside (wide_cuts m e) p × (shift (wide_cuts m e) p ≡ f p)
  left_place p lt =
      let from : Ascend (length (spell_all m.before)) (wide_cuts m e) (length o) = (omega arith, in_file) in
      let z = before_stays (wide_cuts m e) p (before_from (length (spell_all m.before)) (length o) p (wide_cuts m e) from lt) in
      let stays : u p ≡ p = Rattle.mov_model.proofs.WideLaw.before_stays o bytes sup small p lt in
      let still = (before_stays (edit_cuts w e) p (before_all (fill (ends_file w e)) (kids_at w e) (whole_pieces w e) p (omega arith))).1 in
      (z.0, z.1 ∙ sym (ap s stays ∙ still))

  -- what is laid gains what the spans gain
  slots_gain : (p : ℕ) → slots_end o bytes sup e ≤ p → gained slots p + old_length (whole_pieces m e) ≡ lost slots p + length (spell_all (lay (fill (ends_file m e)) (map (changed_piece g) (whole_pieces m e))))
  slots_gain p le =
      let ps = whole_pieces m e in
      let b = flat_map old_bytes ps in
      let laid = spell_all (lay (fill (ends_file m e)) (map (changed_piece g) ps)) in
      let made : splice_from (kids_at m e) (b ++ []) slots ≡ laid ++ [] = lay_splices_with (wide_kid_cuts f) g (fill (ends_file m e)) (kids_at m e) ps [] (whole_brings m e) makes_wide in
      let gains = past_gains (kids_at m e) (slots_end o bytes sup e) p slots (b ++ []) slots_ascend (omega (arith, length-append b [])) le in
      omega (arith, gains, ap length made, length-append b [], length-append laid [])

  slot_wide : slot_behind w e ≡ slot_behind m e
  slot_wide = ap (λ (t : Bool). cond t (gaps_of m.behind) []) open_wide

  pub kids_grow : length (spell_all (atoms_in w.movie).chunks) ≡ length (spell_all ks) + growth m
  kids_grow =
      let es = map (relocated u) (map wide_atom ks) in
      omega (
        arith,
        ap (λ (r : Run). length (spell_all r.chunks)) read_wide,
        length-append (spell_all es) (moov_left o bytes sup),
        new_length o bytes sup small,
        spell_parts m.movie,
        spell_parts w.movie,
        header_len m.movie.form m.movie.id (length w.movie.body) (length m.movie.body),
        ap length (kids_joined o bytes sup),
        length-append (spell_all ks) (moov_left o bytes sup),
      )

  pub old_grows : old_length (whole_pieces w e) ≡ old_length (whole_pieces m e) + growth m
  old_grows = omega (arith, whole_old w e, whole_old m e, kept_bytes w e, kept_bytes m e, kids_grow, ap (λ (cs : List Chunk). length (spell_all cs)) slot_wide)

  right_place : (p : ℕ) → slots_end o bytes sup e ≤ p → moov_end m ≤ p → Outside (wide_cuts m e) p × (shift (wide_cuts m e) p ≡ f p)
  right_place p far past =
      let h0 = header_cut m (length (new_movie w e).movie.body) in
      let out : Outside (wide_cuts m e) p = (inr (omega (arith, far)), behind_all (kids_at m e) (slots_end o bytes sup e) p slots slots_ascend far) in
      let z = before_lost h0 slots p (omega (arith, far)) in
      let gains = slots_gain p far in
      let less = lost_low 0 (length o) (wide_cuts m e) p wide_ascend out (omega arith) in
      let same_head = header_len m.movie.form m.movie.id (length (new_movie w e).movie.body) (length m.movie.body) in
      let moved : u p ≡ p + growth m = cond-false (ltb p (moov_end m)) p (p + growth m) (le-ltb p (moov_end m) past) in
      let at_same = header_len m.movie.form m.movie.id (length w.movie.body) (length m.movie.body) in
      let q = p + growth m in
      let far_wide : kids_at w e + old_length (whole_pieces w e) ≤ q = omega (arith, far, old_grows, at_same) in
      let wide = (past_moves (fill (ends_file w e)) (kids_at w e) (whole_pieces w e) q (whole_brings w e) far_wide).1 in
      let lengths = ap length laid_same in
      let keeps = laid_length (relocated s) (fill (ends_file w e)) (whole_pieces w e) (fixed_whole w e joined_wide no_pad fine_wide) in
      let there : s q ≡ f p = ap s (sym moved) in
      let here : shift (wide_cuts m e) p ≡ s q = omega (arith, z.0, z.1, gains, less, same_head, wide, lengths, keeps, old_grows) in
      (out, here ∙ there)

  held_place : (p : ℕ) → IsHeld (all_atoms m) p → Outside (wide_cuts m e) p × (shift (wide_cuts m e) p ≡ f p)
  held_place p k = go (held_sides o bytes sup e p k.0 k.1)
    where
      go : (p < length (spell_all m.before)) ⊎ ((slots_end o bytes sup e ≤ p) × (length (spell_all m.before) + length (spell m.movie) ≤ p)) → Outside (wide_cuts m e) p × (shift (wide_cuts m e) p ≡ f p)
      go (inl lt) = left_place p lt
      go (inr far) = right_place p far.0 far.1

  pub wide_splice : IsWideSplice o e (edited_file (widened_file o) e)
  unfolding edited_file
  wide_splice = record {
    spliced = ap (λ (x : Movie). spell_movie (new_movie x e)) (again o bytes sup small) ∙ wide_spliced;
    ascend = wide_ascend;
    outside = λ p k. (held_place p k).0;
    put = λ p k. places_put (wide_cuts m e) (length o) p wide_ascend (held_place p k).0 (omega (arith, file, held_inside 0 p k.0 (all_atoms m) k.1)) ∙ ap Some (held_place p k).1;
  }

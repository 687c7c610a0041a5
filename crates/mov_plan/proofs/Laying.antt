-- The spans of an edit, of which the units come among the tables of the atoms that are copied.
use Rattle.std.proofs.Common.{◌≡◌, ◌∙◌, ℕ, zero, suc, ◌+◌, ◌<◌, Bool, true, false, cond, List, [], ◌∷◌, ◌++◌, length, map, Option, Some, None, drop, refl, sym, ap, subst, arith, append_assoc, append-nil}
use Rattle.std.specs.Prelude.{◌&&◌, not, codes}
use Rattle.std.specs.List.{AllByRecursion, flat_map, list_any}
use Rattle.std.proofs.lemmas.List.{drop_at, length-append}
use Rattle.std.proofs.lemmas.List.Concat.{flat_map-append}
use Rattle.me_bytes.specs.Bytes.{IsBytes}
use Rattle.part_tree.specs.declared.field.Value.{Value}
use Rattle.container_model.specs.Atoms.{atoms_in, is}
use Rattle.container_model.specs.Chunk.{Chunk, header_bytes, spell, spell_all}
use Rattle.container_model.specs.Cuts.{cuts_with}
use Rattle.container_model.specs.Items.{Item, edit_carrier, put_all}
use Rattle.container_model.specs.Splice.{Cut, shift}
use Rattle.container_model.specs.Units.{Cell, Fill, Piece, Slot, begun, closed, copied, cut_of, edited, gap, is_empty, kept, kept_next, lacks_pad, live, replaced, shut, units, was}
use Rattle.container_model.specs.Walk.{along}
use Rattle.container_model.proofs.Items.{same_true}
use Rattle.container_model.proofs.Read.{Atom}
use Rattle.container_model.proofs.Units.{begun_bytes, spell_all-append}
use Rattle.container_model.proofs.Walk.{all_join}
use Rattle.carrier_model.proofs.Fitted.{LastOnly, last_units}
use Rattle.carrier_model.specs.Cells.{acted_cells, behind, changed_cell, insert_cell, leave, never, new_cell, only_gaps, settle_cells}
use Rattle.carrier_model.specs.Steps.{carried}
use Rattle.mov_model.specs.Atoms.{cell_by, cell_of, is_padding}
use Rattle.mov_model.specs.Carried.{Changes, carry, carry_by, first_becomes, fresh, key_step, steps, user_step}
use Rattle.mov_model.specs.Cuts.{RowTable, kid_cuts, row_tables, step_tables}
use Rattle.mov_model.specs.Keys.{edit_meta, is_meta, new_meta}
use Rattle.mov_model.specs.Movie.{Movie, all_atoms, movie_of}
use Rattle.mov_model.specs.New.{edit_cuts, ends_file, fill, gaps_of, grown, is_open, kids_at, pieces_of, whole_pieces}
use Rattle.mov_model.specs.Parts.{tracks}
use Rattle.mov_model.specs.Reading.{inside_at, inside_steps}
use Rattle.mov_model.specs.Support.{IsHeld, Readable, TrackFine}
use Rattle.mov_model.specs.Tables.{tables}
use Rattle.mov_model.proofs.Again.{file_bytes, kids, kids_bytes, kids_joined, kids_read}
use Rattle.mov_model.proofs.Carry.{Sort, none_meets}
use Rattle.mov_model.proofs.Cells.{is_user, meta_sort, user_sort, was_carried, was_read}
use Rattle.mov_model.proofs.Kids.{kids_ok}
use Rattle.mov_model.proofs.Why.{kids_supported}
use Rattle.container_model.specs.Sizes.{inside}
use Rattle.sample_tables.specs.Tables.{places}
use Rattle.qt_text.specs.User.{udta, user_items}
use Rattle.mov_plan.specs.Shapes.{ArePlain}
use Rattle.mov_plan.proofs.Lying.{AllAlong, KidTold, Lies, RowFine, TrackHeld, each_track, kids_told, no_rows, rows_inside}
use Rattle.mov_plan.proofs.Mixed.{Placed, kid_rows, mixed, mixed_pieces, piece_rows, rows_past}
use Rattle.mov_plan.proofs.Plain.{carried_plain, read_plain}
use Rattle.mov_plan.proofs.Rowed.{row_cut}

-- ---- no track is padding, or edited

abbrev NoTrack : Chunk → Type 0
NoTrack c = is c (codes "trak") ≡ false

abbrev pub Bare : List Cell → Type 0
Bare [] = Unit {0}
Bare (kept c ∷ xs) = Bare xs
Bare (gap c ∷ xs) = NoTrack c × Bare xs
Bare (edited old now ∷ xs) = AllByRecursion NoTrack old × Bare xs

padding_no_track : (c : Chunk) → is_padding c.id ≡ true → NoTrack c
padding_no_track c p = away (is c (codes "trak")) refl
  where
    away : (t : Bool) → is c (codes "trak") ≡ t → t ≡ false
    away true i = let no : is_padding c.id ≡ false = rw (same_true c.id (codes "trak") i) refl in absurd cc
    away false i = refl

pub read_bare : (cs : List Chunk) → Bare (map cell_of cs)
read_bare [] = tt
read_bare (c ∷ cs) = go (is_padding c.id) refl (read_bare cs)
  where
    go : (t : Bool) → is_padding c.id ≡ t → Bare (map cell_of cs) → Bare (cell_by c t ∷ map cell_of cs)
    go true e again = (padding_no_track c e, again)
    go false e again = again

settle_bare : (sort : Chunk → Bool) (h : Chunk → Chunk) → ((c : Chunk) → sort c ≡ true → NoTrack c) → (n : ℕ) (xs : List Cell) → Bare xs → Bare (settle_cells sort (first_becomes h) n xs)
settle_bare sort h away n [] f = tt
settle_bare sort h away n (gap c ∷ xs) f = (f.0, settle_bare sort h away n xs f.1)
settle_bare sort h away n (edited old now ∷ xs) f = (f.0, settle_bare sort h away (Rattle.carrier_model.specs.Cells.count_all sort n now) xs f.1)
settle_bare sort h away n (kept c ∷ xs) f = go (sort c) refl n (λ m. settle_bare sort h away m xs f)
  where
    go : (t : Bool) → sort c ≡ t → (n : ℕ) → ((m : ℕ) → Bare (settle_cells sort (first_becomes h) m xs)) → Bare (changed_cell (cond t (first_becomes h n c) leave) c ∷ settle_cells sort (first_becomes h) (cond t (suc n) n) xs)
    go true u zero again = ((away c u, tt), again 1)
    go true u (suc n) again = again (suc (suc n))
    go false u n again = again n

insert_bare : (c : Chunk) (xs : List Cell) → Bare xs → Bare (insert_cell behind never c xs)
insert_bare c [] f = (tt, tt)
insert_bare c (kept d ∷ xs) f = insert_bare c xs f
insert_bare c (gap d ∷ xs) f = go (only_gaps xs) (insert_bare c xs f.1)
  where
    go : (t : Bool) → Bare (insert_cell behind never c xs) → Bare (cond t (new_cell c ∷ (gap d ∷ xs)) (gap d ∷ insert_cell behind never c xs))
    go true again = (tt, f)
    go false again = (f.0, again)
insert_bare c (edited old now ∷ xs) f = rw (none_meets now) (f.0, insert_bare c xs f.1)

carry_bare : (sort : Chunk → Bool) (h : Chunk → Chunk) (new : Option Chunk) → Sort sort → (xs : List Cell) → Bare xs → Bare (acted_cells (carry sort h new (flat_map live xs)) xs)
carry_bare sort h new s xs f = go (list_any sort (flat_map live xs)) new
  where
    go : (t : Bool) (m : Option Chunk) → Bare (acted_cells (carry_by sort h m t) xs)
    go true m = settle_bare sort h (λ c u. s.no_track c u) 0 xs f
    go false None = f
    go false (Some c) = insert_bare c xs f

user_bare : (e : List (Item Value)) (xs : List Cell) → Bare xs → Bare (acted_cells (user_step e (flat_map live xs)) xs)
user_bare [] xs f = f
user_bare (i ∷ e) xs f = carry_bare is_user (edit_carrier udta user_items (i ∷ e)) (fresh udta (put_all user_items (i ∷ e) [])) user_sort xs f

keys_bare : (e : List (Item (List ℕ))) (xs : List Cell) → Bare xs → Bare (acted_cells (key_step e (flat_map live xs)) xs)
keys_bare [] xs f = f
keys_bare (i ∷ e) xs f = carry_bare is_meta (edit_meta (i ∷ e)) (new_meta (i ∷ e)) meta_sort xs f

pub carried_bare : (e : Changes) (xs : List Cell) → Bare xs → Bare (carried (steps e) xs)
carried_bare e xs f = keys_bare e.keys (acted_cells (user_step e.users (flat_map live xs)) xs) (user_bare e.users xs f)

-- ---- the pieces of cells

abbrev NoLeadSlot : Slot → Type 0
NoLeadSlot shut = Unit {0}
NoLeadSlot (begun lead slot now) = lead ≡ []

pub kept_is : (t u : Bool) (c : Chunk) (more : Slot → List Piece) → t ≡ false → kept_next (t && u) c more ≡ copied c ∷ more shut
kept_is true u c more e = absurd cc
kept_is false u c more e = refl

-- chunks that are no tracks have no tables
skip_rows : (at : ℕ) (old rest : List Chunk) → AllByRecursion NoTrack old → along kid_rows at (old ++ rest) ≡ along kid_rows (at + length (spell_all old)) rest
skip_rows at [] rest n = ap (λ (k : ℕ). along kid_rows k rest) (omega arith)
skip_rows at (c ∷ old) rest n =
    ap (λ (x : List RowTable). x ++ along kid_rows (at + length (spell c)) (old ++ rest)) (no_rows at c n.0)
    ∙ skip_rows (at + length (spell c)) old rest n.1
    ∙ ap (λ (k : ℕ). along kid_rows k rest) (omega (arith, length-append (spell c) (spell_all old)))

module _ (b : List ℕ) (f : ℕ → ℕ) (H : ℕ → Type 0) where
  skip_along : (at : ℕ) (old rest : List Chunk) → AllAlong b f H at (old ++ rest) → AllAlong b f H (at + length (spell_all old)) rest
  skip_along at [] rest h = subst (λ (k : ℕ). AllAlong b f H k rest) (omega arith) h
  skip_along at (c ∷ old) rest h = subst (λ (k : ℕ). AllAlong b f H k rest) (omega (arith, length-append (spell c) (spell_all old))) (skip_along (at + length (spell c)) old rest h.1)

  -- of each atom that is copied, at its place
  abbrev pub AllCopied : ℕ → List Piece → Type 0
  AllCopied at [] = Unit {0}
  AllCopied at (copied c ∷ ps) = KidTold b f H at c × AllCopied (at + length (spell c)) ps
  AllCopied at (replaced lead slot now last ∷ ps) = AllCopied (at + length (spell_all lead ++ slot)) ps

  -- a unit before other pieces
  closed_copied : (s : Slot) (ps : List Piece) (p at : ℕ) → at ≡ p + length (begun_bytes s) → AllCopied at ps → AllCopied p (closed false s ++ ps)
  closed_copied shut ps p at e h = subst (λ (k : ℕ). AllCopied k ps) (omega (arith, e)) h
  closed_copied (begun lead slot now) ps p at e h = subst (λ (k : ℕ). AllCopied k ps) e h

  closed_rows : (s : Slot) (ps : List Piece) (p at : ℕ) → at ≡ p + length (begun_bytes s) → piece_rows p (closed false s ++ ps) ≡ piece_rows at ps
  closed_rows shut ps p at e = ap (λ (k : ℕ). piece_rows k ps) (omega (arith, e))
  closed_rows (begun lead slot now) ps p at e = ap (λ (k : ℕ). piece_rows k ps) (sym e)

  abbrev UnitsTold : ℕ → ℕ → List Piece → List Chunk → Type 0
  UnitsTold p at ps cs = AllCopied p ps × (piece_rows p ps ≡ along kid_rows at cs)

  -- a chunk that is copied, behind a unit or none
  copied_told : (s : Slot) (c : Chunk) (ps : List Piece) (cs : List Chunk) (p at : ℕ) → at ≡ p + length (begun_bytes s) → KidTold b f H at c → UnitsTold (at + length (spell c)) (at + length (spell c)) ps cs
      → UnitsTold p at (closed false s ++ copied c ∷ ps) (c ∷ cs)
  copied_told s c ps cs p at e h t =
      (closed_copied s (copied c ∷ ps) p at e (h, t.0), closed_rows s (copied c ∷ ps) p at e ∙ ap (λ (x : List RowTable). kid_rows at c ++ x) t.1)

  pub units_told : (s : Slot) (xs : List Cell) (p at : ℕ) → ArePlain xs → Bare xs → at ≡ p + length (begun_bytes s) → AllAlong b f H at (flat_map was xs) → UnitsTold p at (units s xs) (flat_map was xs)
  unfolding units
  units_told shut [] p at plain bare e h = (tt, refl)
  units_told (begun lead slot now) [] p at plain bare e h = (tt, refl)
  units_told s (kept c ∷ xs) p at plain bare e h =
      let next = at + length (spell c) in
      let t = units_told shut xs next next plain.1 bare (omega arith) h.1 in
      subst (λ (ps : List Piece). UnitsTold p at (closed false s ++ ps) (c ∷ flat_map was xs)) (sym (kept_is (lacks_pad c) (not (is_empty xs)) c (λ t. units t xs) plain.0))
      (copied_told s c (units shut xs) (flat_map was xs) p at e h.0 t)
  units_told shut (gap c ∷ xs) p at plain bare e h =
      let next = at + length (spell c) in
      let t = units_told shut xs next next plain.2 bare.1 (omega arith) h.1 in
      subst (λ (ps : List Piece). UnitsTold p at ps (c ∷ flat_map was xs)) (sym (kept_is (lacks_pad c) (not (is_empty xs)) c (λ t. units t xs) plain.0))
      (copied_told shut c (units shut xs) (flat_map was xs) p at e h.0 t)
  units_told (begun lead slot now) (gap c ∷ xs) p at plain bare e h =
      let next = at + length (spell c) in
      let t = units_told (begun lead (slot ++ spell c) now) xs p next plain.2 bare.1 (omega (arith, e, length-append (spell_all lead) slot, length-append (spell_all lead) (slot ++ spell c), length-append slot (spell c))) h.1 in
      (t.0, t.1 ∙ ap (λ (x : List RowTable). x ++ along kid_rows next (flat_map was xs)) (sym (no_rows at c bare.0)))
  units_told shut (edited old new ∷ xs) p at plain bare e h =
      let next = at + length (spell_all old) in
      let t = units_told (begun [] (spell_all old) new) xs p next plain bare.1 (omega (arith, e)) (skip_along at old (flat_map was xs) h) in
      (t.0, t.1 ∙ sym (skip_rows at old (flat_map was xs) bare.0))
  units_told (begun lead slot now) (edited old new ∷ xs) p at plain bare e h =
      let next = at + length (spell_all old) in
      let t = units_told (begun lead (slot ++ spell_all old) (now ++ new)) xs p next plain bare.1 (omega (arith, e, length-append (spell_all lead) slot, length-append (spell_all lead) (slot ++ spell_all old), length-append slot (spell_all old))) (skip_along at old (flat_map was xs) h) in
      (t.0, t.1 ∙ sym (skip_rows at old (flat_map was xs) bare.0))

  -- ---- with the whole slot

  grown_copied : (more : List ℕ) (at : ℕ) (ps : List Piece) → LastOnly ps → AllCopied at ps → AllCopied at (grown more ps)
  grown_copied more at [] l h = tt
  grown_copied more at (copied c ∷ ps) l h = (h.0, grown_copied more (at + length (spell c)) ps l h.1)
  grown_copied more at (replaced lead slot now true ∷ ps) l h = subst (λ (qs : List Piece). AllCopied (at + length (spell_all lead ++ (slot ++ more))) qs) (sym (l.0 refl)) tt
  grown_copied more at (replaced lead slot now false ∷ ps) l h = grown_copied more (at + length (spell_all lead ++ slot)) ps l.1 h

  -- ---- what is known of pieces

  pub copied_placed : (at : ℕ) (ps : List Piece) → AllCopied at ps → Placed at ps
  copied_placed at [] h = tt
  copied_placed at (copied c ∷ ps) h = (h.0.begins, copied_placed (at + length (spell c)) ps h.1)
  copied_placed at (replaced lead slot now last ∷ ps) h = copied_placed (at + length (spell_all lead ++ slot)) ps h

  pub copied_fine : (at : ℕ) (ps : List Piece) → AllCopied at ps → AllByRecursion (RowFine b H) (piece_rows at ps)
  copied_fine at [] h = tt
  copied_fine at (copied c ∷ ps) h = all_join (RowFine b H) (kid_rows at c) (piece_rows (at + length (spell c)) ps) h.0.fine (copied_fine (at + length (spell c)) ps h.1)
  copied_fine at (replaced lead slot now last ∷ ps) h = copied_fine (at + length (spell_all lead ++ slot)) ps h

  pub copied_cuts : (fill : Fill) (at : ℕ) (ps : List Piece) → AllCopied at ps → cuts_with (λ at c. map (row_cut f b) (kid_rows at c)) fill at ps ≡ cuts_with (kid_cuts f) fill at ps
  copied_cuts fill at [] h = refl
  copied_cuts fill at (copied c ∷ ps) h =
      let next = at + length (spell c) in
      ap (λ (x : List Cut). x ++ cuts_with (λ at c. map (row_cut f b) (kid_rows at c)) fill next ps) (sym h.0.cuts_are)
      ∙ ap (λ (x : List Cut). kid_cuts f at c ++ x) (copied_cuts fill next ps h.1)
  copied_cuts fill at (replaced lead slot now last ∷ ps) h =
      ap (λ (x : List Cut). cut_of fill at lead slot now last ∷ x) (copied_cuts fill (at + length (spell_all lead ++ slot)) ps h)

grown_rows : (more : List ℕ) (at : ℕ) (ps : List Piece) → LastOnly ps → piece_rows at (grown more ps) ≡ piece_rows at ps
grown_rows more at [] l = refl
grown_rows more at (copied c ∷ ps) l = ap (λ (x : List RowTable). kid_rows at c ++ x) (grown_rows more (at + length (spell c)) ps l)
grown_rows more at (replaced lead slot now true ∷ ps) l =
    let F : List Piece → Type 0 = λ qs. piece_rows (at + length (spell_all lead ++ (slot ++ more))) qs ≡ piece_rows (at + length (spell_all lead ++ slot)) qs in
    subst F (sym (l.0 refl)) refl
grown_rows more at (replaced lead slot now false ∷ ps) l = grown_rows more (at + length (spell_all lead ++ slot)) ps l.1

-- ---- of a supported movie

module _ (b : List ℕ) (bytes : IsBytes b) (sup : Readable b) (e : Changes) where
  abbrev m : Movie
  m = movie_of b

  abbrev pub Held : ℕ → Type 0
  Held p = IsHeld (all_atoms m) p

  abbrev pub f : ℕ → ℕ
  f = shift (edit_cuts m e)

  abbrev ks : List Chunk
  ks = kids b bytes sup

  -- the chunks of its tracks stand in the bodies of `mdat`s
  tracks_held : (cs : List Chunk) → AllByRecursion (Atom inside) cs → AllByRecursion (λ c. is c (codes "trak") ≡ true → AllByRecursion Held (places (tables (record c { pad = [] })))) cs → AllByRecursion (TrackHeld b f Held) cs
  tracks_held [] a h = tt
  tracks_held (c ∷ cs) a h =
      let same : record c { pad = [] } ≡ c = ap (λ (x : List ℕ). record c { pad = x }) (sym a.0.no_pad) in
      ((λ t. subst (λ (d : Chunk). AllByRecursion Held (places (tables d))) same (h.0 t)), tracks_held cs a.1 h.1)

  all_inside : (ts : List Chunk) → AllByRecursion (TrackFine (all_atoms m)) ts → AllByRecursion (λ t. AllByRecursion Held (places (tables t))) ts
  all_inside [] h = tt
  all_inside (t ∷ ts) h = (h.0.chunks_inside, all_inside ts h.1)

  held_kids : AllByRecursion (TrackHeld b f Held) ks
  held_kids = tracks_held ks (kids_read b bytes sup).0 (each_track (λ t. AllByRecursion Held (places (tables t))) ks (all_inside (tracks m) sup.movie.tracks))

  pub kids_lie : Lies b (kids_at m e) (spell_all ks)
  kids_lie =
      let a = spell_all m.before in
      let head = header_bytes m.movie.form m.movie.id (length m.movie.body) in
      let left = (atoms_in m.movie).left in
      let rest = left ++ (m.movie.pad ++ (spell_all m.behind ++ m.left)) in
      let whole : b ≡ (a ++ head) ++ (spell_all ks ++ rest)
      = sym (file_bytes b bytes sup) ∙ ap (λ (x : List ℕ). x ++ m.left) (spell_all-append m.before (m.movie ∷ m.behind))
      ∙ ap (λ (x : List ℕ). (a ++ ((head ++ (x ++ m.movie.pad)) ++ spell_all m.behind)) ++ m.left) (sym (kids_joined b bytes sup))
      ∙ regroup a head (spell_all ks) left m.movie.pad (spell_all m.behind) m.left in
      (rest, ap (drop (kids_at m e)) whole ∙ drop_at (a ++ head) (spell_all ks ++ rest) (kids_at m e) (length-append a head))
    where
      regroup : (a h k l p s t : List ℕ) → (a ++ ((h ++ ((k ++ l) ++ p)) ++ s)) ++ t ≡ (a ++ h) ++ (k ++ (l ++ (p ++ (s ++ t))))
      regroup a h k l p s t = simp append_assoc

  along_kids : AllAlong b f Held (kids_at m e) ks
  along_kids = kids_told b f Held (kids_at m e) ks (kids_ok ks (kids_supported b sup)) (kids_bytes b bytes sup) held_kids kids_lie

  abbrev cells : List Cell
  cells = carried (steps e) (map cell_of ks)

  pub kids_are : flat_map was cells ≡ ks
  kids_are = was_carried e (map cell_of ks) ∙ was_read ks

  told : UnitsTold b f Held (kids_at m e) (kids_at m e) (pieces_of m e) ks
  told =
      let t = units_told b f Held shut cells (kids_at m e) (kids_at m e) (carried_plain (steps e) (map cell_of ks) (read_plain ks (kids_read b bytes sup).0)) (carried_bare e (map cell_of ks) (read_bare ks)) (omega arith)
      (subst (AllAlong b f Held (kids_at m e)) (sym kids_are) along_kids) in
      subst (UnitsTold b f Held (kids_at m e) (kids_at m e) (pieces_of m e)) kids_are t

  pub last : LastOnly (pieces_of m e)
  last = last_units shut cells

  whole_copied : AllCopied b f Held (kids_at m e) (whole_pieces m e)
  whole_copied = go (is_open m e)
    where
      go : (t : Bool) → AllCopied b f Held (kids_at m e) (cond t (grown (spell_all (gaps_of m.behind)) (pieces_of m e)) (pieces_of m e))
      go true = grown_copied b f Held (spell_all (gaps_of m.behind)) (kids_at m e) (pieces_of m e) last told.0
      go false = told.0

  pub whole_placed : Placed (kids_at m e) (whole_pieces m e)
  whole_placed = copied_placed b f Held (kids_at m e) (whole_pieces m e) whole_copied

  -- the tables of the file are those of the atoms of moov
  pub rows_are : row_tables b ≡ along kid_rows (kids_at m e) ks
  rows_are =
      flat_map-append step_tables (inside_steps false (inside_at m) ks) _
      ∙ append-nil (flat_map step_tables (inside_steps false (inside_at m) ks))
      ∙ rows_inside false (inside_at m) ks

  -- the tables of the file are those of the atoms that are copied
  pub whole_rows : piece_rows (kids_at m e) (whole_pieces m e) ≡ row_tables b
  whole_rows = go (is_open m e) ∙ told.1 ∙ sym rows_are
    where
      go : (t : Bool) → piece_rows (kids_at m e) (cond t (grown (spell_all (gaps_of m.behind)) (pieces_of m e)) (pieces_of m e)) ≡ piece_rows (kids_at m e) (pieces_of m e)
      go true = grown_rows (spell_all (gaps_of m.behind)) (kids_at m e) (pieces_of m e) last
      go false = refl

  -- Each table lies in the file, and its rows hold places in the bodies of `mdat`s.
  pub rows_fine : AllByRecursion (RowFine b Held) (row_tables b)
  rows_fine = subst (AllByRecursion (RowFine b Held)) whole_rows (copied_fine b f Held (kids_at m e) (whole_pieces m e) whole_copied)

  -- They begin behind the header of moov.
  pub rows_behind : AllByRecursion (λ (r : RowTable). kids_at m e < r.at) (row_tables b)
  rows_behind = subst (AllByRecursion (λ (r : RowTable). kids_at m e < r.at)) whole_rows (rows_past (row_cut f b) (kids_at m e) (whole_pieces m e) whole_placed)

  -- The slots of the units among them are the spans of the edit behind the header.
  pub slots_mixed : mixed (row_cut f b) (edit_cuts m e) (row_tables b) ≡ cuts_with (kid_cuts f) (fill (ends_file m e)) (kids_at m e) (whole_pieces m e)
  slots_mixed =
      ap (mixed (row_cut f b) (edit_cuts m e)) (sym whole_rows)
      ∙ mixed_pieces (row_cut f b) (fill (ends_file m e)) (kids_at m e) (whole_pieces m e) whole_placed
      ∙ copied_cuts b f Held (fill (ends_file m e)) (kids_at m e) (whole_pieces m e) whole_copied

-- Where an edit has room, no chunk moves, and the patches laid over the old file make the new one.
use Rattle.std.proofs.Common.{◌≡◌, ℕ, ◌+◌, ◌-◌, ◌^◌, ◌<◌, ◌≤◌, Bool, true, false, cond, eqb, leb, ltb, List, [], ◌∷◌, ◌++◌, length, map, take, drop, Some, refl, sym, ap, subst, ◌∙◌, append_assoc, arith, inl, inr}
use Rattle.std.specs.Prelude.{◌⊎◌, ◌&&◌, ◌||◌, codes}
use Rattle.std.specs.Int.{w32, w64, to_be_bytes}
use Rattle.std.specs.List.{flat_map, AllByRecursion}
use Rattle.std.proofs.lemmas.Bool.{and_parts, cases_lt, cond-true, cond-false, eqb-true, le-leb, leb-true, lt-leb, lt-ltb, ltb-true}
use Rattle.std.proofs.lemmas.List.{append-nil, drop_all, drop_at, length-append, length-drop, take_at}
use Rattle.me_bytes.specs.Bytes.{IsBytes, overlay}
use Rattle.part_tree.specs.declared.field.EditItem.{EditItem}
use Rattle.part_tree.specs.Patches.{patched, laid}
use Rattle.container_model.specs.Chunk.{Form, header_bytes, Chunk, spell, spell_all}
use Rattle.container_model.specs.Items.{is_nil}
use Rattle.container_model.specs.Sizes.{top}
use Rattle.container_model.specs.Splice.{shift, splice}
use Rattle.container_model.specs.Units.{Piece, copied, replaced, shut, old_bytes, unit_bytes, lay}
use Rattle.container_model.proofs.Places.{old_length}
use Rattle.container_model.proofs.Read.{AtomForm, told_of}
use Rattle.container_model.proofs.Units.{lay_splices}
use Rattle.mov_model.specs.Atoms.{cell_of}
use Rattle.container_model.specs.Atoms.{atom, atoms_in}
use Rattle.mov_model.specs.Tables.{tables}
use Rattle.sample_tables.specs.Tables.{places}
use Rattle.carrier_model.specs.Steps.{carried}
use Rattle.mov_model.specs.Carried.{Changes, steps}
use Rattle.mov_model.specs.Movie.{Movie, all_atoms, movie_of}
use Rattle.mov_model.specs.New.{padding, fill, gaps_of, grown, pieces_of, is_open, rest_behind, whole_pieces, ends_file, kids_at, edit_cuts, new_movie}
use Rattle.mov_model.specs.Parts.{tracks}
use Rattle.mov_model.specs.Pieces.{next_number, held_here, held}
use Rattle.mov_model.specs.Support.{IsHeld, TrackFine, Readable}
use Rattle.mov_model.specs.Edited.{changes, new_file}
use Rattle.mov_model.specs.Cuts.{TablesStay, unit_cuts}
use Rattle.carrier_model.specs.Room.{patch, unit_patches}
use Rattle.carrier_model.proofs.Patches.{laid_behind, patched-append, patched_one}
use Rattle.carrier_model.proofs.Fitted.{AllFit, Fits, LastOnly, last_units, same_gained, units_patched}
use Rattle.mov_model.specs.Room.{unit_fits, units_fit, size_patch, moov_patch, patches, Room}
use Rattle.mov_model.proofs.Again.{at_moov, file_bytes, kids_joined, moov_padless}
use Rattle.mov_model.proofs.Clauses.{whole_brings}
use Rattle.mov_model.proofs.Spans.{behind_pieces}
use Rattle.mov_model.proofs.Spliced.{header_spliced, movie_bytes}
use Rattle.mov_model.proofs.Still.{stay_law}

-- ---- a unit that fits

or_false : (t : Bool) → (t || false) ≡ t
or_false true = refl
or_false false = refl

fits_slot : (slot u : List ℕ) → unit_fits false (length slot) (length u) ≡ true → Fits slot u (spell_all (padding slot (length u)))
fits_slot slot u h = go (eqb (length u) (length slot)) refl h
  where
    s : ℕ
    s = length u

    none : length slot ≡ s → spell_all (padding slot s) ≡ []
    none e = let full : leb (length slot) s ≡ true = le-leb _ _ (omega arith) in rw full refl

    nothing : (p : List ℕ) → p ≡ [] → length slot ≡ s → Fits slot u p
    nothing p n e =
        let over : drop (length (u ++ [])) slot ≡ [] = drop_all (length (u ++ [])) slot (omega (arith, length-append u [])) in
        subst (Fits slot u) (sym n) (record { room_is = omega (arith, length-append u []); stays = over; fills = omega (arith, length-append u []) })

    body : List ℕ
    body = drop (s + 8) slot

    free : 8 ≤ length slot - s → length slot - s < 2 ^ 32 → Fits slot u (spell_all (padding slot s))
    free low high =
        let less : leb (length slot) s ≡ false = lt-leb _ _ (omega arith) in
        let test : (leb 8 (length slot - s) && ltb (length slot - s) (2 ^ 32)) ≡ true = rw (le-leb _ _ low, lt-ltb _ _ high) refl in
        let is : spell_all (padding slot s) ≡ (to_be_bytes w32 (length body + 8) ++ codes "free") ++ ((body ++ []) ++ [])
        = ap spell_all (cond-false (leb (length slot) s) [] (atom (codes "free") (cond (leb 8 (length slot - s) && ltb (length slot - s) (2 ^ 32)) body []) ∷ []) less)
        ∙ ap (λ (t : Bool). spell_all (atom (codes "free") (cond t body []) ∷ [])) test ∙ simp append_assoc in
        let plain : (body ++ []) ++ [] ≡ body = simp (append-nil) in
        let p = (to_be_bytes w32 (length body + 8) ++ codes "free") ++ body in
        let eight : length (u ++ (to_be_bytes w32 (length body + 8) ++ codes "free")) ≡ s + 8 = length-append u (to_be_bytes w32 (length body + 8) ++ codes "free") in
        let made : Fits slot u p = record {
          room_is = omega (arith, eight);
          stays = ap (λ (k : ℕ). (to_be_bytes w32 (length body + 8) ++ codes "free") ++ drop k slot) eight;
          fills = omega (arith, length-append u p, length-append (to_be_bytes w32 (length body + 8) ++ codes "free") body, length-drop (s + 8) slot);
        } in
        subst (Fits slot u) (sym (is ∙ ap (λ (y : List ℕ). (to_be_bytes w32 (length body + 8) ++ codes "free") ++ y) plain)) made

    go : (t : Bool) → eqb s (length slot) ≡ t → (t || ((leb 8 (length slot - s) && ltb (length slot - s) (2 ^ 32)) || false)) ≡ true → Fits slot u (spell_all (padding slot s))
    go true e h = let same : length slot ≡ s = sym (eqb-true _ _ e) in nothing (spell_all (padding slot s)) (none same) same
    go false e h =
        let p = and_parts (leb 8 (length slot - s)) (ltb (length slot - s) (2 ^ 32)) (sym (or_false _) ∙ h) in
        free (leb-true _ _ p.0) (ltb-true _ _ p.1)

fill_by : (ends last : Bool) (slot : List ℕ) (s : ℕ) → (ends && last) ≡ false → fill ends last slot s ≡ padding slot s
fill_by ends last slot s e = cond-false (ends && last) [] (padding slot s) e

fill_none : (ends last : Bool) (slot : List ℕ) (s : ℕ) → (ends && last) ≡ true → fill ends last slot s ≡ []
fill_none ends last slot s e = cond-true (ends && last) [] (padding slot s) e

piece_fits : (ends last : Bool) (slot u : List ℕ) → (ends && last) ≡ false → unit_fits (ends && last) (length slot) (length u) ≡ true → Fits slot u (spell_all (fill ends last slot (length u)))
piece_fits ends last slot u e h =
    subst (λ (cs : List Chunk). Fits slot u (spell_all cs)) (sym (fill_by ends last slot (length u) e)) (fits_slot slot u (ap (λ (t : Bool). unit_fits t (length slot) (length u)) (sym e) ∙ h))

pub movie_fits : (ends : Bool) (ps : List Piece) → units_fit ends ps ≡ true → AllFit (fill ends) ends ps
movie_fits ends [] h = tt
movie_fits ends (copied c ∷ ps) h = movie_fits ends ps h
movie_fits ends (replaced lead slot now last ∷ ps) h =
    let u = unit_bytes lead now in
    let p = and_parts (unit_fits (ends && last) (length slot) (length u)) (units_fit ends ps) h in
    ((λ e. fill_none ends last slot (length u) e, λ e. piece_fits ends last slot u e p.0), movie_fits ends ps p.1)

grown_last : (more : List ℕ) (ps : List Piece) → LastOnly ps → LastOnly (grown more ps)
grown_last more [] h = tt
grown_last more (copied c ∷ ps) h = grown_last more ps h
grown_last more (replaced lead slot now true ∷ ps) h = h
grown_last more (replaced lead slot now false ∷ ps) h = (λ e. absurd cc, grown_last more ps h.1)

-- ---- the size of moov

-- the size in the header of moov
size_laid : (form : Form) (id b inner : List ℕ) (k n : ℕ) → AtomForm form → length id ≡ 4
    → patched (size_patch form (length b) n) ((b ++ header_bytes form id k) ++ inner) ≡ (b ++ header_bytes form id n) ++ inner
size_laid form id b inner k n (inl e) four = rw e one
  where
    one : patched (patch (length b) (to_be_bytes w32 (n + 8))) ((b ++ (to_be_bytes w32 (k + 8) ++ id)) ++ inner) ≡ (b ++ (to_be_bytes w32 (n + 8) ++ id)) ++ inner
    one =
        let new = to_be_bytes w32 (n + 8) in
        let split : (b ++ (to_be_bytes w32 (k + 8) ++ id)) ++ inner ≡ b ++ (to_be_bytes w32 (k + 8) ++ (id ++ inner)) = simp append_assoc in
        patched_one (length b) new ((b ++ (to_be_bytes w32 (k + 8) ++ id)) ++ inner) ∙ ap (overlay (length b) new) split ∙ laid_behind (length b) b new (to_be_bytes w32 (k + 8) ++ (id ++ inner)) refl
        ∙ ap (λ (y : List ℕ). b ++ (new ++ y)) (drop_at (to_be_bytes w32 (k + 8)) (id ++ inner) (length new) refl) ∙ simp append_assoc
size_laid form id b inner k n (inr (inl e)) four = rw e one
  where
    one : patched (patch (length b + 8) (to_be_bytes w64 (n + 16))) ((b ++ (to_be_bytes w32 1 ++ (id ++ to_be_bytes w64 (k + 16)))) ++ inner) ≡ (b ++ (to_be_bytes w32 1 ++ (id ++ to_be_bytes w64 (n + 16)))) ++ inner
    one =
        let new = to_be_bytes w64 (n + 16) in
        let a = b ++ (to_be_bytes w32 1 ++ id) in
        let split : (b ++ (to_be_bytes w32 1 ++ (id ++ to_be_bytes w64 (k + 16)))) ++ inner ≡ a ++ (to_be_bytes w64 (k + 16) ++ inner) = simp append_assoc in
        let at : length a ≡ length b + 8 = omega (arith, four, length-append b (to_be_bytes w32 1 ++ id), length-append (to_be_bytes w32 1) id) in
        patched_one (length b + 8) new ((b ++ (to_be_bytes w32 1 ++ (id ++ to_be_bytes w64 (k + 16)))) ++ inner) ∙ ap (overlay (length b + 8) new) split ∙ laid_behind (length b + 8) a new (to_be_bytes w64 (k + 16) ++ inner) at
        ∙ ap (λ (y : List ℕ). a ++ (new ++ y)) (drop_at (to_be_bytes w64 (k + 16)) inner (length new) refl) ∙ simp append_assoc
size_laid form id b inner k n (inr (inr e)) four = rw e refl

-- ---- of a supported file

held_low : (k p : ℕ) (cs : List Chunk) (x : ℕ × List ℕ) → held k p cs ≡ Some x → p < length (spell_all cs)
held_low k p [] x e = absurd cc
held_low k p (c ∷ cs) x e = go (cases_lt p (length (spell c))) (λ y. held_low (next_number c k) (p - length (spell c)) cs x y)
  where
    go : (p < length (spell c)) ⊎ (length (spell c) ≤ p) → (held (next_number c k) (p - length (spell c)) cs ≡ Some x → p - length (spell c) < length (spell_all cs)) → p < length (spell c ++ spell_all cs)
    go (inl lt) again = omega (arith, length-append (spell c) (spell_all cs))
    go (inr le) again =
        let here : held (next_number c k) (p - length (spell c)) cs ≡ Some x = sym (cond-false (ltb p (length (spell c))) (held_here k p c) (held (next_number c k) (p - length (spell c)) cs) (Rattle.std.proofs.lemmas.Bool.le-ltb p (length (spell c)) le)) ∙ e in
        omega (arith, again here, length-append (spell c) (spell_all cs))

module _ (o : List ℕ) (e : List EditItem) (bytes : IsBytes o) (sup : Readable o) (room : Room o e) where
  abbrev m : Movie
  m = movie_of o

  abbrev c : Changes
  c = changes o e

  abbrev ps : List Piece
  ps = whole_pieces m c

  abbrev ends : Bool
  ends = ends_file m c

  abbrev pub behind : List ℕ
  behind = behind_pieces m c (kids_joined o bytes sup) (moov_padless o bytes sup)

  pub fit : AllFit (fill ends) ends ps
  fit = movie_fits ends ps (and_parts (units_fit ends ps) _ room).0

  pub only_last : LastOnly ps
  only_last = go (is_open m c)
    where
      made : LastOnly (pieces_of m c)
      made = last_units shut (carried (steps c) (map cell_of (atoms_in m.movie).chunks))

      go : (t : Bool) → LastOnly (cond t (grown (spell_all (gaps_of m.behind)) (pieces_of m c)) (pieces_of m c))
      go true = grown_last (spell_all (gaps_of m.behind)) (pieces_of m c) made
      go false = made

  no_atoms : (cs : List Chunk) → is_nil cs ≡ true → cs ≡ []
  no_atoms [] x = refl
  no_atoms (k ∷ cs) x = absurd cc

  no_bytes : (b : List ℕ) → is_nil b ≡ true → b ≡ []
  no_bytes [] x = refl
  no_bytes (k ∷ b) x = absurd cc

  pub none_behind : ends ≡ true → behind ≡ []
  none_behind x =
      let p = and_parts (is_open m c) (is_nil (rest_behind m c) && is_nil m.left) x in
      let q = and_parts (is_nil (rest_behind m c)) (is_nil m.left) p.1 in
      ap (λ (t : Bool). cond t [] (atoms_in m.movie).left ++ (spell_all (rest_behind m c) ++ m.left)) p.0
      ∙ ap (λ (cs : List Chunk). spell_all cs ++ m.left) (no_atoms (rest_behind m c) q.0) ∙ no_bytes m.left q.1

  abbrev head : ℕ → List ℕ
  head n = header_bytes m.movie.form m.movie.id n

  abbrev b : List ℕ
  b = spell_all m.before

  old_is : o ≡ (b ++ head (length m.movie.body)) ++ (flat_map old_bytes ps ++ behind)
  old_is = sym (file_bytes o bytes sup) ∙ movie_bytes m c (kids_joined o bytes sup) (moov_padless o bytes sup)

  pub old_len : length o ≡ kids_at m c + (old_length ps + length behind)
  old_len = omega (arith, ap length old_is, length-append (b ++ head (length m.movie.body)) (flat_map old_bytes ps ++ behind), length-append b (head (length m.movie.body)), length-append (flat_map old_bytes ps) behind)

  place_stays : (p : ℕ) → p < length o → shift (edit_cuts m c) p ≡ p
  place_stays p lt =
      let same = same_gained (fill ends) ends (kids_at m c) ps p only_last fit (λ x. omega (arith, old_len, ap length (none_behind x))) in
      omega (arith, same)

  held_stays : (qs : List ℕ) → AllByRecursion (IsHeld (all_atoms m)) qs → AllByRecursion (λ p. shift (edit_cuts m c) p ≡ p) qs
  held_stays [] h = tt
  held_stays (p ∷ qs) h =
      let low = held_low 0 p (all_atoms m) h.0.0 h.0.1 in
      (place_stays p (omega (arith, low, ap length (file_bytes o bytes sup), length-append (spell_all (all_atoms m)) m.left)), held_stays qs h.1)

  tracks_stay : (ts : List Chunk) → AllByRecursion (TrackFine (all_atoms m)) ts → AllByRecursion (λ t. AllByRecursion (λ p. shift (edit_cuts m c) p ≡ p) (places (tables t))) ts
  tracks_stay [] h = tt
  tracks_stay (t ∷ ts) h = (held_stays (places (tables t)) h.0.chunks_inside, tracks_stay ts h.1)

  -- no chunk moves
  pub room_stays : TablesStay o e
  room_stays = tracks_stay (tracks m) sup.movie.tracks

  abbrev size : ℕ
  size = length (new_movie m c).movie.body

  pub moov_form : AtomForm m.movie.form
  moov_form =
      let s = (at_moov o bytes sup).0 in
      (told_of top top (spell m.movie ++ (spell_all m.behind ++ m.left)) m.movie.id (m.movie.body ++ (m.movie.pad ++ (spell_all m.behind ++ m.left))) m.movie.form (length m.movie.body) s.header_read).4

  abbrev old_inner : List ℕ
  old_inner = flat_map old_bytes ps ++ behind

  size_is : patched (moov_patch m size) o ≡ (b ++ head size) ++ old_inner
  size_is = go (eqb size (length m.movie.body)) refl
    where
      go : (t : Bool) → eqb size (length m.movie.body) ≡ t → patched (cond t [] (size_patch m.movie.form (length b) size)) o ≡ (b ++ head size) ++ old_inner
      go true x = old_is ∙ ap (λ (n : ℕ). (b ++ head n) ++ old_inner) (sym (eqb-true _ _ x))
      go false x = ap (patched (size_patch m.movie.form (length b) size)) old_is ∙ size_laid m.movie.form m.movie.id b old_inner (length m.movie.body) size moov_form (ap length sup.movie.is_moov)

  pub new_is : new_file o e ≡ (b ++ head size) ++ (spell_all (lay (fill ends) ps) ++ behind)
  new_is =
      let y = spell_all (lay (fill ends) ps) ++ behind in
      stay_law o e bytes sup room_stays ∙ ap (λ (z : List ℕ). splice z (unit_cuts m c)) (sym (file_bytes o bytes sup))
      ∙ header_spliced m c (kids_joined o bytes sup) (moov_padless o bytes sup) size (edit_cuts m c) y (lay_splices (fill ends) (kids_at m c) ps behind (whole_brings m c))
      ∙ sym (append_assoc b (head size) y)

  -- The patches, laid over the old file at the new length, are the new one.
  pub patches_law : new_file o e ≡ laid (length (new_file o e)) (patches o e) o
  patches_law =
      let x = b ++ head size in
      let us = unit_patches (fill ends) (kids_at m c) ps in
      let at : kids_at m c ≡ length x = omega (arith, length-append b (head size), Rattle.mov_model.proofs.Clauses.header_len m.movie.form m.movie.id (length m.movie.body) size) in
      let made = units_patched (fill ends) ends (kids_at m c) x ps behind (sym at) only_last (whole_brings m c) fit none_behind in
      let all : patched (patches o e) o ≡ (x ++ (spell_all (lay (fill ends) ps) ++ behind)) ++ made.0
      = patched-append (moov_patch m size) us o ∙ ap (patched us) size_is ∙ made.1 in
      let cut : take (length (new_file o e)) (patched (patches o e) o) ≡ new_file o e
      = ap (take (length (new_file o e))) (all ∙ ap (λ (z : List ℕ). z ++ made.0) (sym new_is)) ∙ take_at (new_file o e) made.0 (length (new_file o e)) refl in
      sym cut

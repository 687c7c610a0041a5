-- The new movie is read as it was made.
use Rattle.std.proofs.Common.{Bool, List, None, Option, Some, [], ap, arith, cond, drop, false, leb, length, ltb, map, refl, replicate, subst, sym, true, ℕ, ◌++◌, ◌+◌, ◌-◌, ◌<◌, ◌^◌, ◌∙◌, ◌∷◌, ◌≡◌}
use Rattle.std.specs.Prelude.{IfSome, codes, ◌&&◌, ◌||◌}
use Rattle.std.proofs.lemmas.Bool.{and_parts, cond-true, ltb-true}
use Rattle.std.proofs.lemmas.List.{length-append, length-drop, nil_from_length}
use Rattle.std.specs.List.{AllByRecursion}
use Rattle.container_model.proofs.Atoms.{atoms_give_back}
use Rattle.container_model.proofs.Codec.{IsBytes, as_many, chunks_joined, chunks_read, chunks_spelled}
use Rattle.container_model.proofs.Deep.{Alike, bytes_of}
use Rattle.container_model.proofs.Items.{same_true}
use Rattle.container_model.proofs.Read.{Atom, atom_behind, atom_sized, atom_stands_sized, atoms_again, atoms_and, atoms_before, atoms_read, told_of}
use Rattle.container_model.proofs.Units.{AllCells, lay_all}
use Rattle.container_model.specs.Chunk.{Chunk, Head, Reads, Run, Stands, ends, header_bytes, pad_len, spell, spell_all, to_end, too_short}
use Rattle.container_model.specs.Deep.{Whole}
use Rattle.container_model.specs.Items.{Item, edit_carrier, put_all}
use Rattle.container_model.specs.Sizes.{Level, atom_front, inside, top}
use Rattle.container_model.specs.Splice.{shift}
use Rattle.container_model.specs.Units.{Piece, copied, lay, padded, replaced, shut, solids, unit_bytes}
use Rattle.mov_model.proofs.Carry.{first_both, strip}
use Rattle.mov_model.proofs.Cells.{Brings, all_carried, all_chunks, any_now, atoms_now, first_now, is_user, meta_sort, user_sort}
use Rattle.mov_model.proofs.Laid.{hanging_none}
use Rattle.mov_model.proofs.Tables.{relocated_alike, relocated_other}
use Rattle.qt_text.proofs.User.{atom_made}
use Rattle.mov_model.specs.Atoms.{cell_of, format, is_padding, moov}
use Rattle.container_model.specs.Atoms.{atom, atoms_in, is}
use Rattle.mov_model.proofs.Fits.{Fits, SmallBody, SmallCarriers, small_carriers}
use Rattle.carrier_model.specs.Lists.{sets_some}
use Rattle.carrier_model.specs.Steps.{carried}
use Rattle.mov_model.specs.Carried.{Changes, fresh, steps}
use Rattle.mov_model.specs.Keys.{edit_meta, is_meta, new_meta, new_table, with_keys}
use Rattle.qt_keys.specs.Table.{table_bytes}
use Rattle.mov_model.specs.Movie.{Movie, all_atoms, movie_of, spell_movie, split, split_by, top_run}
use Rattle.mov_model.specs.New.{edit_cuts, ends_file, fill, hanging, is_open, new_kids, new_movie, padding, padding_behind, past_gaps, pieces_of, rest_behind, whole_pieces}
use Rattle.mov_model.specs.Parts.{first_of, has_id}
use Rattle.mov_model.specs.Support.{Readable}
use Rattle.mov_model.specs.Tables.{relocated}
use Rattle.qt_text.specs.User.{udta, user_items}

-- ---- moov among the atoms of the file

pub split_whole : (cs : List Chunk) (left : List ℕ) → has_id (codes "moov") cs ≡ true
    → (all_atoms (split cs left) ≡ cs) × ((split cs left).left ≡ left) × (has_id (codes "moov") (split cs left).before ≡ false)
split_whole [] left h = absurd cc
split_whole (c ∷ cs) left h = go (is c (codes "moov")) refl h (split_whole cs left)
  where
    go : (t : Bool) → is c (codes "moov") ≡ t → (t || has_id (codes "moov") cs) ≡ true
        → (has_id (codes "moov") cs ≡ true → (all_atoms (split cs left) ≡ cs) × ((split cs left).left ≡ left) × (has_id (codes "moov") (split cs left).before ≡ false))
        → (all_atoms (split_by c cs left (split cs left) t) ≡ c ∷ cs) × ((split_by c cs left (split cs left) t).left ≡ left) × (has_id (codes "moov") (split_by c cs left (split cs left) t).before ≡ false)
    go true e h again = (refl, refl, refl)
    go false e h again = let r = again h in (ap (λ (x : List Chunk). c ∷ x) r.0, r.1, rw e r.2)

pub split_again : (a : List Chunk) (c : Chunk) (b : List Chunk) (left : List ℕ) → has_id (codes "moov") a ≡ false → is c (codes "moov") ≡ true
    → split (a ++ c ∷ b) left ≡ record { before = a; movie = c; behind = b; left = left }
split_again [] c b left n e = rw e refl
split_again (d ∷ a) c b left n e = go (is d (codes "moov")) n (split_again a c b left)
  where
    go : (t : Bool) → (t || has_id (codes "moov") a) ≡ false → (has_id (codes "moov") a ≡ false → is c (codes "moov") ≡ true → split (a ++ c ∷ b) left ≡ record { before = a; movie = c; behind = b; left = left })
        → split_by d (a ++ c ∷ b) left (split (a ++ c ∷ b) left) t
        ≡ record { before = d ∷ a; movie = c; behind = b; left = left }
    go true n again = absurd cc
    go false n again = rw (again n e) refl

pub reads_past : (cs : List Chunk) (left : List ℕ) → Reads atom_front top cs left → Reads atom_front top (past_gaps cs) left
reads_past [] left r = r
reads_past (c ∷ cs) left r = go (is_padding c.id) (reads_past cs left)
  where
    next : Reads atom_front top cs left
    next =
        let t = told_of top r.0 (spell c ++ (spell_all cs ++ left)) c.id (c.body ++ (c.pad ++ (spell_all cs ++ left))) c.form (length c.body) r.1.header_read in
        subst (λ (x : Level). Reads atom_front x cs left) t.0 r.2

    go : (t : Bool) → (Reads atom_front top cs left → Reads atom_front top (past_gaps cs) left) → Reads atom_front top (cond t (past_gaps cs) (c ∷ cs)) left
    go true again = again next
    go false again = r

-- ---- padding

padding_all : (P : Chunk → Type 0) → ((body : List ℕ) → length body + 8 < 2 ^ 32 → P (atom (codes "free") body)) → (slot : List ℕ) (s : ℕ) → AllByRecursion P (padding slot s)
padding_all P good slot s = go (leb (length slot) s)
  where
    one : (t : Bool) → (leb 8 (length slot - s) && ltb (length slot - s) (2 ^ 32)) ≡ t → P (atom (codes "free") (cond t (drop (s + 8) slot) []))
    one true e = let p = and_parts (leb 8 (length slot - s)) (ltb (length slot - s) (2 ^ 32)) e in good (drop (s + 8) slot) (omega (arith, ltb-true _ _ p.1, Rattle.std.proofs.lemmas.Bool.leb-true _ _ p.0, length-drop (s + 8) slot))
    one false e = good [] (omega arith)

    go : (t : Bool) → AllByRecursion P (cond t [] (atom (codes "free") (cond (leb 8 (length slot - s) && ltb (length slot - s) (2 ^ 32)) (drop (s + 8) slot) []) ∷ []))
    go true = tt
    go false = (one (leb 8 (length slot - s) && ltb (length slot - s) (2 ^ 32)) refl, tt)

pub fill_all : (P : Chunk → Type 0) → ((body : List ℕ) → length body + 8 < 2 ^ 32 → P (atom (codes "free") body)) → (o last : Bool) (slot : List ℕ) (s : ℕ) → AllByRecursion P (fill o last slot s)
fill_all P good o last slot s = go (o && last)
  where
    go : (t : Bool) → AllByRecursion P (cond t [] (padding slot s))
    go true = tt
    go false = padding_all P good slot s

pub hanging_all : (P : Chunk → Type 0) → ((body : List ℕ) → length body + 8 < 2 ^ 32 → P (atom (codes "free") body)) → (o : Bool) (ps : List Piece) → AllByRecursion P (hanging (fill o) ps)
hanging_all P good o [] = tt
hanging_all P good o (copied c ∷ ps) = hanging_all P good o ps
hanging_all P good o (replaced lead slot now true ∷ ps) = fill_all P good o true slot (length (unit_bytes lead now))
hanging_all P good o (replaced lead slot now false ∷ ps) = hanging_all P good o ps

-- ---- an atom of moov that is read, and that a relocation keeps in length

pub record Kid (f : ℕ → ℕ) (c : Chunk) : Type 0 where
  pub read : Atom inside c
  pub alike : Alike c (relocated f c)

module _ (f : ℕ → ℕ) where
  same_alike : (c : Chunk) → relocated f c ≡ c → Alike c (relocated f c)
  same_alike c e = record { form_is = ap (λ (x : Chunk). x.form) e; id_is = ap (λ (x : Chunk). x.id) e; len_is = ap (λ (x : Chunk). length x.body) e; pad_is = ap (λ (x : Chunk). x.pad) e }

  kid_free : (body : List ℕ) → length body + 8 < 2 ^ 32 → Kid f (atom (codes "free") body)
  kid_free body lt = record { read = atom_made inside (codes "free") body refl lt; alike = same_alike (atom (codes "free") body) (relocated_other f (atom (codes "free") body) refl) }

  kid_padded : (c : Chunk) → Kid f c → Kid f (padded c)
  kid_padded c k =
      let none : replicate (pad_len c.form (length c.body)) 0 ≡ c.pad = rw (k.read.pad_none, k.read.no_pad) refl in
      let same : padded c ≡ c = ap (λ (x : List ℕ). record c { pad = x }) none in
      rw same k

  kid_sized : (c : Chunk) (body : List ℕ) → is c (codes "trak") ≡ false → Kid f c → length body + 16 < 2 ^ 32 → Kid f (record c { body = body })
  kid_sized c body u k lt = record { read = atom_sized inside c body k.read lt; alike = same_alike (record c { body = body }) (relocated_other f (record c { body = body }) u) }

  kid_alike : (c d : Chunk) → Alike c d → Atom inside c → Atom inside d
  kid_alike c d a h =
      let head : Head atom_front inside inside d = λ after. rw (a.form_is, a.id_is, a.len_is) (h.head after) in
      record { head = head; no_pad = a.pad_is ∙ h.no_pad; pad_none = rw (a.form_is, a.len_is) h.pad_none; id_len = rw a.id_is h.id_len; short_or_long = rw a.form_is h.short_or_long }

  pub kids_moved : (cs : List Chunk) → AllByRecursion (Kid f) cs → AllByRecursion (Atom inside) (map (relocated f) cs)
  kids_moved [] h = tt
  kids_moved (c ∷ cs) h = (kid_alike c (relocated f c) h.0.alike h.0.read, kids_moved cs h.1)

  pub kids_alike : (cs : List Chunk) → AllByRecursion (Kid f) cs → AllByRecursion (λ c. Alike c (relocated f c)) cs
  kids_alike [] h = tt
  kids_alike (c ∷ cs) h = (h.0.alike, kids_alike cs h.1)

-- ---- what is known of a chunk without its pad

pub all_strip : (Q : Chunk → Type 0) → ((c : Chunk) → Q (strip c) → Q c) → (cs : List Chunk) → AllByRecursion Q (map strip cs) → AllByRecursion Q cs
all_strip Q f [] h = tt
all_strip Q f (c ∷ cs) h = (f c h.0, all_strip Q f cs h.1)

pub whole_kids : (cs : List Chunk) → AllByRecursion (Whole format 5 moov) (solids is_padding cs) → AllByRecursion (Whole format 5 moov) cs
unfolding Whole
whole_kids [] h = tt
whole_kids (c ∷ cs) h = go (is_padding c.id) refl h (whole_kids cs)
  where
    padding_whole : is_padding c.id ≡ true → Whole format 5 moov c
    padding_whole e = no_track (is c (codes "trak")) refl
      where
        no_track : (t : Bool) → is c (codes "trak") ≡ t → Whole format 5 moov c
        no_track true i = let no : is_padding c.id ≡ false = rw (same_true c.id (codes "trak") i) refl in absurd cc
        no_track false i = rw i tt

    go : (t : Bool) → is_padding c.id ≡ t → AllByRecursion (Whole format 5 moov) (cond t [] (record c { pad = [] } ∷ []) ++ solids is_padding cs)
        → (AllByRecursion (Whole format 5 moov) (solids is_padding cs) → AllByRecursion (Whole format 5 moov) cs) → AllByRecursion (Whole format 5 moov) (c ∷ cs)
    go true e h again = (padding_whole e, again h)
    go false e h again = (h.0, again h.1)

module _ (f : ℕ → ℕ) where
  pub kids_both : (cs : List Chunk) → AllByRecursion (Atom inside) cs → AllByRecursion (λ c. IsBytes c.body) cs → AllByRecursion (Whole format 5 moov) cs → AllByRecursion (Kid f) cs
  kids_both [] h b w = tt
  kids_both (c ∷ cs) h b w = (record { read = h.0; alike = relocated_alike f c w.0 b.0 }, kids_both cs h.1 b.1 w.1)

  kid_new : (m : Option Chunk) → IfSome m SmallBody → IfSome m (λ c. (c ≡ atom c.id c.body) × (length c.id ≡ 4) × (is c (codes "trak") ≡ false)) → IfSome m (Kid f)
  kid_new None s n = tt
  kid_new (Some c) s n =
      let made : Atom inside (atom c.id c.body) = atom_made inside c.id c.body n.1 (omega (arith, s)) in
      record { read = subst (Atom inside) (sym n.0) made; alike = same_alike f c (relocated_other f c n.2) }

no_atoms : (cs : List Chunk) (left : List ℕ) → spell_all cs ++ left ≡ [] → cs ≡ []
no_atoms [] left n = refl
no_atoms (c ∷ cs) left n = absurd (omega (arith, ap length n, as_many (c ∷ cs), length-append (spell_all (c ∷ cs)) left))

-- ---- what is known of a supported movie

module _ (o : List ℕ) (bytes : IsBytes o) (sup : Readable o) where
  abbrev pub mov : Movie
  mov = movie_of o

  pub whole : (all_atoms mov ≡ (top_run o).chunks) × (mov.left ≡ (top_run o).left) × (has_id (codes "moov") mov.before ≡ false)
  whole = split_whole (top_run o).chunks (top_run o).left sup.has_moov

  pub file_bytes : spell_movie mov ≡ o
  file_bytes = rw (whole.0, whole.1) (chunks_joined atom_front atoms_give_back top o bytes)

  pub top_bytes : IsBytes (spell_all (mov.before ++ mov.movie ∷ mov.behind) ++ mov.left)
  top_bytes = rw file_bytes bytes

  top_reads : Reads atom_front top (mov.before ++ mov.movie ∷ mov.behind) mov.left
  top_reads = rw (whole.0, whole.1) (chunks_read atom_front atoms_give_back top o bytes sup.atoms_end)

  pub before_read : AllByRecursion (Atom top) mov.before
  before_read = (atoms_before mov.before mov.movie mov.behind mov.left top_bytes top_reads).0

  pub at_moov : Stands atom_front top top mov.movie (spell_all mov.behind ++ mov.left) × Reads atom_front top mov.behind mov.left × (mov.movie.pad ≡ []) × (mov.movie.form ≡ to_end → spell_all mov.behind ++ mov.left ≡ [])
  at_moov = let r = atoms_before mov.before mov.movie mov.behind mov.left top_bytes top_reads in atom_behind mov.movie mov.behind mov.left r.2 r.1

  moov_bytes : IsBytes mov.movie.body
  moov_bytes = (bytes_of (mov.movie ∷ mov.behind) mov.left (atoms_before mov.before mov.movie mov.behind mov.left top_bytes top_reads).2).0

  abbrev pub kids : List Chunk
  kids = (atoms_in mov.movie).chunks

  abbrev pub moov_left : List ℕ
  moov_left = (atoms_in mov.movie).left

  pub kids_joined : spell_all kids ++ moov_left ≡ mov.movie.body
  kids_joined = chunks_joined atom_front atoms_give_back inside mov.movie.body moov_bytes

  pub kids_all_bytes : IsBytes (spell_all kids ++ moov_left)
  kids_all_bytes = rw kids_joined moov_bytes

  pub kids_bytes : AllByRecursion (λ c. IsBytes c.body) kids
  kids_bytes = bytes_of kids moov_left kids_all_bytes

  pub kids_read : AllByRecursion (Atom inside) kids × (atom_front inside moov_left ≡ too_short)
  kids_read = atoms_read inside kids moov_left (λ e. absurd cc) kids_all_bytes (chunks_read atom_front atoms_give_back inside mov.movie.body moov_bytes sup.movie.atoms_end)

  pub moov_padless : mov.movie.pad ≡ []
  moov_padless = at_moov.2

  -- ---- the edit

  module _ (e : Changes) (few : SmallCarriers mov e) where
    abbrev moved : ℕ → ℕ
    moved = shift (edit_cuts mov e)

    kids_fine : AllByRecursion (Kid moved) kids
    kids_fine = kids_both moved kids kids_read.0 kids_bytes (whole_kids kids sup.movie.tracks_end)

    -- what is edited or new is read again
    brought : AllByRecursion (Kid moved) (atoms_now kids) → Brings (Kid moved) e (atoms_now kids)
    brought all =
        record {
          users = first_both is_user (Kid moved) (λ c. SmallBody (edit_carrier udta user_items e.users c)) (λ c. Kid moved (edit_carrier udta user_items e.users c))
              (λ c u k lt. kid_sized moved c (edit_carrier udta user_items e.users c).body (user_sort.no_track c u) k (omega (arith, lt))) (atoms_now kids) all
              (all_strip (λ c. SmallBody (edit_carrier udta user_items e.users c)) (λ c h. h) (first_of is_user (atoms_now kids)) (subst (AllByRecursion (λ c. SmallBody (edit_carrier udta user_items e.users c))) (sym (first_now is_user user_sort kids)) few.user_small));
          new_user = λ none. kid_new moved (fresh udta (put_all user_items e.users [])) (few.fresh_small (sym (any_now is_user user_sort kids) ∙ none)) (user_atom (put_all user_items e.users []));
          keys = first_both is_meta (Kid moved) (λ c. SmallBody (edit_meta e.keys c)) (λ c. Kid moved (edit_meta e.keys c))
              (λ c u k lt. kid_sized moved c (edit_meta e.keys c).body (meta_sort.no_track c u) k (omega (arith, lt))) (atoms_now kids) all
              (all_strip (λ c. SmallBody (edit_meta e.keys c)) (λ c h. h) (first_of is_meta (atoms_now kids)) (subst (AllByRecursion (λ c. SmallBody (edit_meta e.keys c))) (sym (first_now is_meta meta_sort kids)) few.keys_small));
          new_keys = λ none. kid_new moved (new_meta e.keys) (few.new_keys_small (sym (any_now is_meta meta_sort kids) ∙ none)) (meta_atom (sets_some e.keys) e.keys);
        }
      where
        user_atom : (items : List Chunk) → IfSome (fresh udta items) (λ c. (c ≡ atom c.id c.body) × (length c.id ≡ 4) × (is c (codes "trak") ≡ false))
        user_atom [] = tt
        user_atom (c ∷ cs) = (refl, refl, refl)

        meta_atom : (t : Bool) (ks : List (Item (List ℕ))) → IfSome (cond t (Some (atom (codes "meta") (table_bytes (with_keys ks new_table)))) None) (λ c. (c ≡ atom c.id c.body) × (length c.id ≡ 4) × (is c (codes "trak") ≡ false))
        meta_atom true ks = (refl, refl, refl)
        meta_atom false ks = tt

    cells_fine : AllCells (Kid moved) (carried (steps e) (map cell_of kids))
    cells_fine = all_carried (Kid moved) e kids kids_fine (λ all. all_chunks (Kid moved) e (atoms_now kids) all (brought all))

    laid_fine : AllByRecursion (Kid moved) (lay (fill (is_open mov e)) (pieces_of mov e))
    laid_fine =
        lay_all (Kid moved) (fill (is_open mov e)) (record { on_pads = λ c k. kid_padded moved c k; on_fill = λ last slot s. fill_all (Kid moved) (kid_free moved) (is_open mov e) last slot s }) shut
        (carried (steps e) (map cell_of kids)) tt cells_fine

    pub small_kids_read : AllByRecursion (Atom inside) (new_kids mov e)
    small_kids_read = kids_moved moved (lay (fill (is_open mov e)) (pieces_of mov e)) laid_fine

    pub small_laid_alike : AllByRecursion (λ c. Alike c (relocated moved c)) (lay (fill (is_open mov e)) (pieces_of mov e))
    small_laid_alike = kids_alike moved (lay (fill (is_open mov e)) (pieces_of mov e)) laid_fine

    -- moov is read again
    pub small_moov_again : atoms_in (new_movie mov e).movie ≡ record { chunks = new_kids mov e; stop = ends; left = moov_left }
    small_moov_again = chunks_spelled atom_front inside (new_kids mov e) moov_left (atoms_again inside (new_kids mov e) moov_left small_kids_read kids_read.1)

  module _ (e : Changes) (fits : Fits mov e) where
    abbrev pub move : ℕ → ℕ
    move = shift (edit_cuts mov e)

    pub new_kids_read : AllByRecursion (Atom inside) (new_kids mov e)
    new_kids_read = small_kids_read e (small_carriers mov e fits)

    pub laid_alike : AllByRecursion (λ c. Alike c (relocated move c)) (lay (fill (is_open mov e)) (pieces_of mov e))
    laid_alike = small_laid_alike e (small_carriers mov e fits)

    abbrev pub now : Movie
    now = new_movie mov e

    pub moov_again : atoms_in now.movie ≡ record { chunks = new_kids mov e; stop = ends; left = moov_left }
    moov_again = small_moov_again e (small_carriers mov e fits)

    behind_read : Reads atom_front top now.behind now.left
    behind_read =
        atoms_and top (padding_behind mov e) (rest_behind mov e) mov.left (open_padding (is_open mov e)) (open_rest (is_open mov e))
      where
        open_padding : (t : Bool) → AllByRecursion (Atom top) (cond t (hanging (fill (ends_file mov e)) (whole_pieces mov e)) [])
        open_padding true = hanging_all (Atom top) (λ body lt. atom_made top (codes "free") body refl lt) (ends_file mov e) (whole_pieces mov e)
        open_padding false = tt

        open_rest : (t : Bool) → Reads atom_front top (cond t (past_gaps mov.behind) mov.behind) mov.left
        open_rest true = reads_past mov.behind mov.left at_moov.1
        open_rest false = at_moov.1

    -- behind a moov to the end of the file is nothing
    none_behind : mov.movie.form ≡ to_end → spell_all now.behind ++ now.left ≡ []
    none_behind t =
        let n = at_moov.3 t in
        let nil : mov.behind ≡ [] = no_atoms mov.behind mov.left n in
        let none : mov.left ≡ [] = nil_from_length mov.left (omega (arith, ap length n, length-append (spell_all mov.behind) mov.left)) in
        go (is_open mov e) refl nil none
      where
        go : (t : Bool) → is_open mov e ≡ t → mov.behind ≡ [] → mov.left ≡ [] → spell_all now.behind ++ now.left ≡ []
        go true i nil none =
            let rest : rest_behind mov e ≡ [] = rw (i, nil) refl in
            let last : ends_file mov e ≡ true = rw (i, nil, none) refl in
            let pad : padding_behind mov e ≡ []
            = cond-true (is_open mov e) (hanging (fill (ends_file mov e)) (whole_pieces mov e)) [] i ∙ ap (λ (b : Bool). hanging (fill b) (whole_pieces mov e)) last ∙ hanging_none (whole_pieces mov e) in
            rw (pad, rest, none) refl
        go false i nil none =
            let rest : rest_behind mov e ≡ [] = rw (i, nil) refl in
            let pad : padding_behind mov e ≡ [] = rw i refl in
            rw (pad, rest, none) refl

    new_small : length now.movie.body + 16 < 2 ^ 32
    new_small = omega (arith, fits.movie_small, length-append (header_bytes now.movie.form now.movie.id (length now.movie.body)) (now.movie.body ++ now.movie.pad), length-append now.movie.body now.movie.pad)

    pub file_again : top_run (spell_movie now) ≡ record { chunks = all_atoms now; stop = ends; left = now.left }
    file_again =
        let stands = atom_stands_sized mov.movie (spell_all mov.behind ++ mov.left) now.movie.body (spell_all now.behind ++ now.left) at_moov.0 new_small none_behind in
        chunks_spelled atom_front top (all_atoms now) now.left (atoms_and top mov.before (now.movie ∷ now.behind) now.left before_read (top, stands, behind_read))

    pub movie_again : movie_of (spell_movie now) ≡ now
    movie_again =
        ap (λ (r : Run). split r.chunks r.left) file_again
        ∙ split_again mov.before now.movie now.behind now.left whole.2 (rw sup.movie.is_moov refl)

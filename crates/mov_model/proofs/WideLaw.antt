-- A movie with wide tables is read as one, has the same fields, finds the same, and keeps all but the width of its tables.
use Rattle.std.proofs.Common.{Bool, List, None, Some, [], ap, append_assoc, arith, cond, false, inl, inr, length, ltb, map, refl, subst, sym, true, ℕ, ◌++◌, ◌+◌, ◌<◌, ◌^◌, ◌∙◌, ◌∷◌, ◌≡◌, ◌≤◌}
use Rattle.std.specs.Prelude.{codes, ◌&&◌, ◌||◌, not}
use Rattle.std.proofs.lemmas.Bool.{cond-true, cond-false, le-ltb, lt-ltb}
use Rattle.std.proofs.lemmas.List.{append-nil, length-append}
use Rattle.std.specs.List.{AllByRecursion, flat_map}
use Rattle.container_model.proofs.Codec.{IsBytes, IsBytes-behind}
use Rattle.container_model.proofs.Deep.{IsBytes-front}
use Rattle.container_model.proofs.Read.{Atom, AtomForm, told_of}
use Rattle.container_model.proofs.Units.{spell_all-append}
use Rattle.container_model.specs.Atoms.{atoms_in, is}
use Rattle.container_model.specs.Chunk.{Chunk, Run, ends, header_bytes, spell, spell_all}
use Rattle.container_model.specs.Deep.{Whole, tokens}
use Rattle.container_model.specs.Rows.{be64}
use Rattle.container_model.specs.Sizes.{inside, top}
use Rattle.container_model.specs.Units.{solids}
use Rattle.mov_model.specs.Atoms.{format, is_padding, moov}
use Rattle.mov_model.specs.Begins.{begins_movie}
use Rattle.mov_model.specs.Movie.{Movie, all_atoms, movie_of, spell_movie}
use Rattle.mov_model.specs.Parts.{first_of, has_id, parts, track_of, tracks}
use Rattle.mov_model.specs.Pieces.{held, is_mdat, pieces, pieces_by, pieces_in, tail_of, track_pieces}
use Rattle.mov_model.specs.Reading.{no_twice}
use Rattle.mov_model.specs.Support.{IsHeld, MovieFine, Readable, TrackFine, is_refused}
use Rattle.mov_model.specs.Tables.{relocated, tables}
use Rattle.mov_model.specs.Widen.{growth, moov_end, past_moov, wide_atom, wide_moov, wide_table, widened, widened_file}
use Rattle.mov_model.proofs.Again.{at_moov, before_read, file_bytes, kids, kids_bytes, kids_joined, moov_left, moov_padless, mov, whole}
use Rattle.mov_model.proofs.Begins.{moov_first, same_first}
use Rattle.mov_model.proofs.Carry.{first_all}
use Rattle.mov_model.proofs.Cells.{first_user_relocated, is_user, solids_map, user_sort}
use Rattle.mov_model.proofs.Clauses.{all_solids, all_tracks}
use Rattle.mov_model.proofs.Held.{held_moves}
use Rattle.mov_model.proofs.Supported.{no_moov-append}
use Rattle.mov_model.proofs.Tables.{relocated_id, relocated_names, relocated_other, relocated_pad, relocated_references, relocated_tables, relocated_whole}
use Rattle.mov_model.proofs.Tracks.{tracks_relocated}
use Rattle.mov_model.proofs.Wide.{wide_tables}
use Rattle.mov_model.proofs.WideDeep.{Wide}
use Rattle.mov_model.proofs.WideMovie.{file_wide, first_of_wide, movie_wide, moov_wide, tracks_wide, wide_all, wide_body_length, wide_each, wide_id, wide_other, wide_pad, wide_track_references, wide_track_tables}
use Rattle.std.specs.Int.{to_be_bytes, w32, w64}
use Rattle.container_model.specs.Chunk.{Form}
use Rattle.container_model.specs.Items.{values}
use Rattle.mov_model.specs.Keys.{first_table, is_meta}
use Rattle.mov_model.specs.Kept.{kept, kept_in, key_node, look, node_by, nodes, nodes_from, other, user_node}
use Rattle.mov_model.specs.Parts.{first_items}
use Rattle.mov_model.specs.Widen.{wide_kept, wide_node, wide_tokens}
use Rattle.mov_model.proofs.Again.{kids_all_bytes, top_bytes}
use Rattle.mov_model.proofs.Cells.{meta_sort}
use Rattle.mov_model.proofs.Fits.{user_values, values_of_key}
use Rattle.mov_model.proofs.Keys.{first_table_is, table_among}
use Rattle.mov_model.proofs.MovedBytes.{relocated_bytes}
use Rattle.mov_model.proofs.Parts.{first_items_are, items_among, items_relocated, table_relocated}
use Rattle.mov_model.proofs.Tables.{relocated_tokens}
use Rattle.mov_model.proofs.Wide.{eight_bytes, four_bytes, join}
use Rattle.mov_model.proofs.WideDeep.{body_bytes}
use Rattle.mov_model.proofs.WideMovie.{sort_wide}
use Rattle.qt_keys.specs.Set.{key_values}
use Rattle.qt_text.specs.User.{udta, user_items}
use Rattle.sample_tables.proofs.Moved.{all_long, others_all, places_moved, samples_moved, short_all}
use Rattle.sample_tables.specs.Samples.{runs_in, samples, sizes_in}
use Rattle.sample_tables.specs.Tables.{FitsRows, is_other_offsets, is_short_table, moved_table, places, places_in, rows}

-- ---- the tables of a track

other_wide : (c : Chunk) → is_other_offsets c ≡ false → is_other_offsets (wide_table c) ≡ false
other_wide c e = go (is c (codes "stco")) e
  where
    go : (t : Bool) → is_other_offsets c ≡ false → is_other_offsets (cond t (record c { id = codes "co64"; body = Rattle.mov_model.specs.Widen.wide_body c }) c) ≡ false
    go true e = refl
    go false e = e

pub no_stco : (c : Chunk) → is (wide_table c) (codes "stco") ≡ false
no_stco c = go (is c (codes "stco")) refl
  where
    go : (t : Bool) → is c (codes "stco") ≡ t → is (cond t (record c { id = codes "co64"; body = Rattle.mov_model.specs.Widen.wide_body c }) c) (codes "stco") ≡ false
    go true e = refl
    go false e = e

-- what is asked of tables, and what they are with wide places
pub record TablesWide (ts : List Chunk) : Type 0 where
  pub others : AllByRecursion (λ c. is_other_offsets c ≡ false) (map wide_table ts)
  pub long : AllByRecursion (λ c. is_short_table c ≡ false) (map wide_table ts)
  pub places_same : places (map wide_table ts) ≡ places ts
  pub runs_same : flat_map runs_in (map wide_table ts) ≡ flat_map runs_in ts
  pub sizes_same : flat_map sizes_in (map wide_table ts) ≡ flat_map sizes_in ts

pub tables_fine : (ts : List Chunk) → AllByRecursion (λ c. is_other_offsets c ≡ false) ts → AllByRecursion (λ c. is_short_table c ≡ false) ts → AllByRecursion (λ c. IsBytes c.body) ts → TablesWide ts
tables_fine [] o l b = record { others = tt; long = tt; places_same = refl; runs_same = refl; sizes_same = refl }
tables_fine (t ∷ ts) o l b =
    let w = wide_tables t l.0 b.0 in
    let more = tables_fine ts o.1 l.1 b.1 in
    record {
      others = (other_wide t o.0, more.others);
      long = (w.long, more.long);
      places_same = rw (w.places, more.places_same) refl;
      runs_same = rw (w.runs, more.runs_same) refl;
      sizes_same = rw (w.sizes, more.sizes_same) refl;
    }

samples_same : (ts us : List Chunk) (tails : List (List ℕ)) → flat_map runs_in us ≡ flat_map runs_in ts → flat_map sizes_in us ≡ flat_map sizes_in ts → samples us tails ≡ samples ts tails
samples_same ts us tails r s = rw (r, s) refl

-- places that fit in eight bytes, where there is no table of four
pub fits_wide : (f : ℕ → ℕ) (ts : List Chunk) → AllByRecursion (λ p. f p < 2 ^ 64) (places (map wide_table ts)) → AllByRecursion (FitsRows f) (map wide_table ts)
fits_wide f [] h = tt
fits_wide f (t ∷ ts) h =
    let d = wide_table t in
    let p = Rattle.container_model.proofs.Walk.all_parts (λ p. f p < 2 ^ 64) (places_in d) (places (map wide_table ts)) h in
    ((λ e. let no = no_stco t in absurd cc, λ e. let is_rows : places_in d ≡ rows be64 d = rw (no_stco t, e) refl in subst (AllByRecursion (λ p. f p < 2 ^ 64)) is_rows p.0), fits_wide f ts p.1)

-- ---- the movie

module _ (o : List ℕ) (bytes : IsBytes o) (sup : Readable o) (small : length (spell (movie_of o).movie) ≤ 2 ^ 26) where
  abbrev pub old : Movie
  old = mov o bytes sup

  abbrev pub f : ℕ → ℕ
  f = past_moov (mov o bytes sup)

  abbrev pub new : Movie
  new = widened (mov o bytes sup)

  pub again : movie_of (widened_file o) ≡ new
  unfolding widened_file
  again = movie_wide o bytes sup small f

  -- ---- where places go

  same_length : length (spell new.movie) ≡ length (spell (wide_moov (λ p. p) old))
  same_length =
      let a = wide_moov f old in
      let b = wide_moov (λ p. p) old in
      let e : length a.body ≡ length b.body = wide_body_length o bytes sup small f ∙ sym (wide_body_length o bytes sup small (λ p. p)) in
      omega (arith, e, ap (λ (n : ℕ). length (header_bytes old.movie.form old.movie.id n)) e, length-append (header_bytes a.form a.id (length a.body)) (a.body ++ a.pad), length-append a.body a.pad, length-append (header_bytes b.form b.id (length b.body)) (b.body ++ b.pad), length-append b.body b.pad)

  moov_longer : length (spell old.movie) ≤ length (spell new.movie)
  moov_longer =
      let a = old.movie in
      let b = new.movie in
      let w = wide_all o bytes sup small in
      omega (
        arith,
        w.longer,
        wide_body_length o bytes sup small f,
        ap length (kids_joined o bytes sup),
        length-append (spell_all (kids o bytes sup)) (moov_left o bytes sup),
        Rattle.mov_model.proofs.Clauses.header_len a.form a.id (length a.body) (length b.body),
        length-append (header_bytes a.form a.id (length a.body)) (a.body ++ a.pad),
        length-append a.body a.pad,
        length-append (header_bytes b.form b.id (length b.body)) (b.body ++ b.pad),
        length-append b.body b.pad,
      )

  pub new_length : length (spell new.movie) ≡ length (spell old.movie) + growth old
  new_length = omega (arith, same_length, moov_longer)

  pub before_stays : (p : ℕ) → p < length (spell_all old.before) → f p ≡ p
  before_stays p lt = cond-true (ltb p (moov_end old)) p (p + growth old) (lt-ltb p (moov_end old) (omega arith))

  behind_moves : (p : ℕ) → length (spell_all old.before) + length (spell_all (old.movie ∷ [])) ≤ p
      → f p + (length (spell_all old.before) + length (spell_all (old.movie ∷ []))) ≡ p + (length (spell_all old.before) + length (spell_all (new.movie ∷ [])))
  behind_moves p le =
      let moved : f p ≡ p + growth old = cond-false (ltb p (moov_end old)) p (p + growth old) (le-ltb p (moov_end old) (omega (arith, le, length-append (spell old.movie) []))) in
      omega (arith, moved, new_length, length-append (spell old.movie) [], length-append (spell new.movie) [])

  held_again : (p : ℕ) (x : ℕ × List ℕ) → held 0 p (all_atoms old) ≡ Some x → held 0 (f p) (all_atoms new) ≡ Some x
  held_again p x h =
      let no : is_mdat old.movie ≡ false = rw sup.movie.is_moov refl in
      held_moves f p x old.before (old.movie ∷ []) (new.movie ∷ []) old.behind (no, tt) (no, tt) (before_stays p) (behind_moves p) h

  all_held : (ps : List ℕ) → AllByRecursion (IsHeld (all_atoms old)) ps → (AllByRecursion (IsHeld (all_atoms new)) (map f ps)) × (map (λ p. held 0 p (all_atoms new)) (map f ps) ≡ map (λ p. held 0 p (all_atoms old)) ps)
  all_held [] h = (tt, refl)
  all_held (p ∷ ps) h =
      let one = held_again p h.0.0 h.0.1 in
      let more = all_held ps h.1 in
      (((h.0.0, one), more.0), rw (one, h.0.1, more.1) refl)

  -- ---- the atoms of moov

  pub parts_are : parts new ≡ map (relocated f) (map wide_atom (parts old))
  parts_are =
      ap (λ (r : Run). solids is_padding r.chunks) (moov_wide o bytes sup small f) ∙ solids_map (relocated f) (relocated_id f) (relocated_pad f) (map wide_atom (kids o bytes sup))
      ∙ ap (map (relocated f)) (solids_map wide_atom wide_id wide_pad (kids o bytes sup))

  pub tracks_are : tracks new ≡ map (relocated f) (map wide_atom (tracks old))
  tracks_are = ap (flat_map track_of) parts_are ∙ tracks_relocated f (map wide_atom (parts old)) ∙ ap (map (relocated f)) (tracks_wide (parts old))

  abbrev IsWide : Chunk → Type 0
  IsWide c = Wide 5 moov c (wide_atom c)

  pub parts_wide : AllByRecursion IsWide (parts old)
  parts_wide = drop_pads (parts old) (all_solids Padless (λ c q. (refl, subst IsWide (ap (λ (x : List ℕ). record c { pad = x }) q.0) q.1)) (kids o bytes sup) (padless (kids o bytes sup) (Rattle.mov_model.proofs.Again.kids_read o bytes sup).0 (wide_each o bytes sup small)))
    where
      Padless : Chunk → Type 0
      Padless c = (c.pad ≡ []) × Wide 5 moov c (wide_atom c)

      padless : (cs : List Chunk) → AllByRecursion (Atom inside) cs → AllByRecursion (λ c. Wide 5 moov c (wide_atom c)) cs → AllByRecursion Padless cs
      padless [] a w = tt
      padless (c ∷ cs) a w = ((a.0.no_pad, w.0), padless cs a.1 w.1)

      drop_pads : (cs : List Chunk) → AllByRecursion Padless cs → AllByRecursion (λ c. Wide 5 moov c (wide_atom c)) cs
      drop_pads [] h = tt
      drop_pads (c ∷ cs) h = (h.0.1, drop_pads cs h.1)

  -- ---- tracks

  -- what is asked of a place: it fits in eight bytes where it goes
  abbrev pub FitsEight : Chunk → Type 0
  FitsEight t = AllByRecursion (λ p. f p < 2 ^ 64) (places (tables t))

  atom_bytes : (t : Chunk) → IsWide t → IsBytes (wide_atom t).body
  atom_bytes t w = body_bytes (wide_atom t) w.respelled.bytes

  tables_of_track : (t : Chunk) → IsWide t → TrackFine (all_atoms old) t → TablesWide (tables t)
  tables_of_track t w fine = tables_fine (tables t) fine.no_other_offsets fine.long_tables w.table_bytes

  pub tables_are : (t : Chunk) → IsWide t → tables (relocated f (wide_atom t)) ≡ map (moved_table f) (map wide_table (tables t))
  tables_are t w = relocated_tables f (wide_atom t) w.whole (atom_bytes t w) ∙ ap (map (moved_table f)) (wide_track_tables t w)

  places_are : (t : Chunk) → IsWide t → TrackFine (all_atoms old) t → FitsEight t → places (map (moved_table f) (map wide_table (tables t))) ≡ map f (places (tables t))
  places_are t w fine fit =
      let tf = tables_of_track t w fine in
      places_moved f (map wide_table (tables t)) (all_long (map wide_table (tables t)) tf.long) (fits_wide f (tables t) (subst (AllByRecursion (λ p. f p < 2 ^ 64)) (sym tf.places_same) fit)) ∙ ap (map f) tf.places_same

  track_fine : (t : Chunk) → IsWide t → TrackFine (all_atoms old) t → FitsEight t → TrackFine (all_atoms new) (relocated f (wide_atom t))
  track_fine t w fine fit =
      let tf = tables_of_track t w fine in
      let ts = map wide_table (tables t) in
      let refs = relocated_references f (wide_atom t) w.whole (atom_bytes t w) ∙ wide_track_references t w in
      let same = tables_are t w in
      record {
        once = ap (no_twice []) (relocated_names f (wide_atom t) w.whole (atom_bytes t w) ∙ w.names_same) ∙ fine.once;
        no_other_offsets = rw same (others_all f ts tf.others);
        long_tables = rw same (short_all f ts tf.long);
        long_references = rw refs fine.long_references;
        local = rw refs fine.local;
        chunks_inside = rw (same, places_are t w fine fit) (all_held (places (tables t)) fine.chunks_inside).0;
      }

  tracks_fine : (ts : List Chunk) → AllByRecursion IsWide ts → AllByRecursion (TrackFine (all_atoms old)) ts → AllByRecursion FitsEight ts → AllByRecursion (TrackFine (all_atoms new)) (map (relocated f) (map wide_atom ts))
  tracks_fine [] w h r = tt
  tracks_fine (t ∷ ts) w h r = (track_fine t w.0 h.0 r.0, tracks_fine ts w.1 h.1 r.1)

  track_again : (t : Chunk) → IsWide t → TrackFine (all_atoms old) t → FitsEight t → track_pieces (all_atoms new) (tables (relocated f (wide_atom t))) ≡ track_pieces (all_atoms old) (tables t)
  track_again t w fine fit =
      let tf = tables_of_track t w fine in
      let ts = map wide_table (tables t) in
      let hs = map (λ p. held 0 p (all_atoms old)) (places (tables t)) in
      let found : map (λ p. held 0 p (all_atoms new)) (places (map (moved_table f) ts)) ≡ hs = ap (map (λ p. held 0 p (all_atoms new))) (places_are t w fine fit) ∙ (all_held (places (tables t)) fine.chunks_inside).1 in
      ap (track_pieces (all_atoms new)) (tables_are t w) ∙ ap (pieces_by (map (moved_table f) ts)) found
      ∙ ap (λ (s : List (List (List ℕ))). record { chunks = hs; samples = s }) (samples_moved f ts (map tail_of hs) ∙ samples_same (tables t) ts (map tail_of hs) tf.runs_same tf.sizes_same)

  tracks_again : (ts : List Chunk) → AllByRecursion IsWide ts → AllByRecursion (TrackFine (all_atoms old)) ts → AllByRecursion FitsEight ts
      → map (λ t. track_pieces (all_atoms new) (tables t)) (map (relocated f) (map wide_atom ts)) ≡ map (λ t. track_pieces (all_atoms old) (tables t)) ts
  tracks_again [] w h r = refl
  tracks_again (t ∷ ts) w h r = rw (track_again t w.0 h.0 r.0, tracks_again ts w.1 h.1 r.1) refl

  module _ (fit : AllByRecursion FitsEight (tracks old)) where
    tracks_wide_all : AllByRecursion IsWide (tracks old)
    tracks_wide_all = all_tracks IsWide (parts old) parts_wide

    pub same_pieces : pieces (widened_file o) ≡ pieces o
    same_pieces = ap pieces_in again ∙ ap (map (λ t. track_pieces (all_atoms new) (tables t))) tracks_are ∙ tracks_again (tracks old) tracks_wide_all sup.movie.tracks fit

    -- ---- it is read as a movie

    first_users : first_of is_user (parts new) ≡ first_of is_user (parts old)
    first_users = ap (first_of is_user) parts_are ∙ first_user_relocated f (map wide_atom (parts old)) ∙ first_of_wide is_user user_sort (parts old)

    whole_parts : (cs : List Chunk) → AllByRecursion IsWide cs → AllByRecursion (Whole format 5 moov) (map (relocated f) (map wide_atom cs))
    whole_parts [] w = tt
    whole_parts (c ∷ cs) w = (relocated_whole f (wide_atom c) w.0.whole (atom_bytes c w.0), whole_parts cs w.1)

    accepted_parts : (cs : List Chunk) → AllByRecursion (λ c. is_refused c ≡ false) cs → AllByRecursion (λ c. is_refused c ≡ false) (map (relocated f) (map wide_atom cs))
    accepted_parts [] h = tt
    accepted_parts (c ∷ cs) h = (ap (λ (x : List ℕ). is_refused (record c { id = x })) (relocated_id f (wide_atom c) ∙ wide_id c) ∙ h.0, accepted_parts cs h.1)

    movie_fine : MovieFine new
    movie_fine = record {
      is_moov = sup.movie.is_moov;
      no_other = sup.movie.no_other;
      no_fragments = sup.movie.no_fragments;
      atoms_end = ap (λ (r : Run). r.stop) (moov_wide o bytes sup small f);
      tracks_end = subst (AllByRecursion (Whole format 5 moov)) (sym parts_are) (whole_parts (parts old) parts_wide);
      user_ends = subst (AllByRecursion (λ c. (udta.opening c).stop ≡ ends)) (sym first_users) sup.movie.user_ends;
      user_small = subst (AllByRecursion (λ c. length c.body ≤ 2 ^ 24)) (sym first_users) sup.movie.user_small;
      not_refused = subst (AllByRecursion (λ c. is_refused c ≡ false)) (sym parts_are) (accepted_parts (parts old) sup.movie.not_refused);
      tracks = subst (AllByRecursion (TrackFine (all_atoms new))) (sym tracks_are) (tracks_fine (tracks old) tracks_wide_all sup.movie.tracks fit);
    }

    moov_form : AtomForm new.movie.form
    moov_form =
        let s = (at_moov o bytes sup).0 in
        (told_of top top (spell old.movie ++ (spell_all old.behind ++ old.left)) old.movie.id (old.movie.body ++ (old.movie.pad ++ (spell_all old.behind ++ old.left))) old.movie.form (length old.movie.body) s.header_read).4

    moov_len : length new.movie.body + 8 ≤ 2 ^ 28
    moov_len =
        let w = wide_all o bytes sup small in
        omega (
          arith,
          wide_body_length o bytes sup small f,
          w.shorter,
          ap length (kids_joined o bytes sup),
          length-append (spell_all (kids o bytes sup)) (moov_left o bytes sup),
          small,
          length-append (header_bytes old.movie.form old.movie.id (length old.movie.body)) (old.movie.body ++ old.movie.pad),
          length-append old.movie.body old.movie.pad,
        )

    new_kind : begins_movie (spell_movie new) ≡ true
    new_kind = go old.before (before_read o bytes sup) (ap begins_movie (file_bytes o bytes sup) ∙ sup.kind)
      where
        go : (a : List Chunk) → AllByRecursion (Atom top) a → begins_movie (spell_all (a ++ old.movie ∷ old.behind) ++ old.left) ≡ true → begins_movie (spell_all (a ++ new.movie ∷ new.behind) ++ new.left) ≡ true
        go [] r k = ap begins_movie (append_assoc (spell new.movie) (spell_all new.behind) new.left) ∙ moov_first new.movie (spell_all new.behind ++ new.left) moov_form sup.movie.is_moov moov_len
        go (c ∷ a) r k =
            ap begins_movie (append_assoc (spell c) (spell_all (a ++ new.movie ∷ new.behind)) new.left)
            ∙ same_first c (spell_all (a ++ old.movie ∷ old.behind) ++ old.left) (spell_all (a ++ new.movie ∷ new.behind) ++ new.left) r.0 (ap begins_movie (sym (append_assoc (spell c) (spell_all (a ++ old.movie ∷ old.behind)) old.left)) ∙ k)

    pub readable : Readable (widened_file o)
    unfolding widened_file
    readable = record {
      kind = new_kind;
      atoms_end = ap (λ (r : Run). r.stop) (file_wide o bytes sup small f);
      has_moov = ap (λ (r : Run). has_id (codes "moov") r.chunks) (file_wide o bytes sup small f) ∙ no_moov-append (codes "moov") old.before new.movie new.behind (rw sup.movie.is_moov refl);
      movie = subst MovieFine (sym again) movie_fine;
    }

  -- ---- fields

  same_items : first_items (parts new) ≡ first_items (parts old)
  same_items =
      ap first_items parts_are ∙ items_relocated f (map wide_atom (parts old)) ∙ first_items_are (map wide_atom (parts old)) ∙ ap items_among (first_of_wide is_user user_sort (parts old)) ∙ sym (first_items_are (parts old))

  same_table : first_table (parts new) ≡ first_table (parts old)
  same_table =
      ap first_table parts_are ∙ table_relocated f (map wide_atom (parts old)) ∙ first_table_is (map wide_atom (parts old)) ∙ ap table_among (first_of_wide is_meta meta_sort (parts old)) ∙ sym (first_table_is (parts old))

  pub same_items_of : (name : List ℕ) → user_values (widened_file o) name ≡ user_values o name
  same_items_of name = ap (λ (m : Movie). values user_items name (first_items (parts m))) again ∙ ap (values user_items name) same_items

  pub same_table_of : (name : List ℕ) → values_of_key (widened_file o) name ≡ values_of_key o name
  same_table_of name = ap (λ (m : Movie). key_values name (first_table (parts m))) again ∙ ap (key_values name) same_table

  -- ---- what is kept

  node_of : (users keys : Bool) (c : Chunk) → (users ≡ true → is_user c ≡ true) → (keys ≡ true → is_meta c ≡ true) → IsWide c → node_by users keys (relocated f (wide_atom c)) ≡ wide_node (node_by users keys c)
  node_of true keys c u k w = let n = user_sort.no_track c (u refl) in ap user_node (ap (relocated f) (wide_other c n) ∙ relocated_other f c n)
  node_of false true c u k w = let n = meta_sort.no_track c (k refl) in ap key_node (ap (relocated f) (wide_other c n) ∙ relocated_other f c n)
  node_of false false c u k w =
      let a = tokens format look 5 moov c in
      let b = tokens format look 5 moov (wide_atom c) in
      ap other (relocated_tokens f (wide_atom c) w.whole (atom_bytes c w) ∙ sym (append-nil b) ∙ sym (w.tokens_are [] []) ∙ ap (wide_tokens (moov ∷ [])) (append-nil a))

  nodes_are : (users keys : Bool) (cs : List Chunk) → AllByRecursion IsWide cs → nodes_from users keys (map (relocated f) (map wide_atom cs)) ≡ map wide_node (nodes_from users keys cs)
  nodes_are users keys [] w = refl
  nodes_are users keys (c ∷ cs) w =
      let e = relocated f (wide_atom c) in
      ap (λ (u : Bool). node_by (not users && u) (not keys && is_meta e) e ∷ nodes_from (users || u) (keys || is_meta e) (map (relocated f) (map wide_atom cs))) (user_same c)
      ∙ ap (λ (m : Bool). node_by (not users && is_user c) (not keys && m) e ∷ nodes_from (users || is_user c) (keys || m) (map (relocated f) (map wide_atom cs))) (meta_same c)
      ∙ rw (node_of (not users && is_user c) (not keys && is_meta c) c (sound (not users) (is_user c)) (sound (not keys) (is_meta c)) w.0, nodes_are (users || is_user c) (keys || is_meta c) cs w.1) refl
    where
      user_same : (d : Chunk) → is_user (relocated f (wide_atom d)) ≡ is_user d
      user_same d = Rattle.mov_model.proofs.Carry.relocated_sort is_user (λ x. x) None user_sort (record { same_id = λ x. refl; no_pad = λ x. refl }) tt f (wide_atom d) ∙ sort_wide is_user user_sort d

      meta_same : (d : Chunk) → is_meta (relocated f (wide_atom d)) ≡ is_meta d
      meta_same d = Rattle.mov_model.proofs.Carry.relocated_sort is_meta (λ x. x) None meta_sort (record { same_id = λ x. refl; no_pad = λ x. refl }) tt f (wide_atom d) ∙ sort_wide is_meta meta_sort d

      sound : (a b : Bool) → (a && b) ≡ true → b ≡ true
      sound true b e = e
      sound false b e = absurd cc

  pub same_kept : kept (widened_file o) ≡ wide_kept (kept o)
  same_kept =
      let inside : nodes (parts new) ≡ map wide_node (nodes (parts old)) = ap nodes parts_are ∙ nodes_are false false (parts old) parts_wide in
      let rest : (atoms_in new.movie).left ≡ moov_left o bytes sup = ap (λ (r : Run). r.left) (moov_wide o bytes sup small f) in
      ap kept_in again ∙ rw (inside, rest) refl

  -- ---- bytes

  moov_head : (form : Form) (n k : ℕ) → AtomForm form → IsBytes (header_bytes form (codes "moov") k) → IsBytes (header_bytes form (codes "moov") n)
  moov_head form n k (inl e) h = let i = IsBytes-behind (to_be_bytes w32 (k + 8)) (codes "moov") (subst (λ (g : Form). IsBytes (header_bytes g (codes "moov") k)) e h) in rw e (join (to_be_bytes w32 (n + 8)) (codes "moov") (four_bytes (n + 8)) i)
  moov_head form n k (inr (inl e)) h =
      let i = IsBytes-front (codes "moov") (to_be_bytes w64 (k + 16)) (IsBytes-behind (to_be_bytes w32 1) (codes "moov" ++ to_be_bytes w64 (k + 16)) (subst (λ (g : Form). IsBytes (header_bytes g (codes "moov") k)) e h)) in
      rw e (join (to_be_bytes w32 1) (codes "moov" ++ to_be_bytes w64 (n + 16)) (four_bytes 1) (join (codes "moov") (to_be_bytes w64 (n + 16)) i (eight_bytes (n + 16))))
  moov_head form n k (inr (inr e)) h = rw e (subst (λ (g : Form). IsBytes (header_bytes g (codes "moov") k)) e h)

  pub are_bytes : IsBytes (widened_file o)
  unfolding widened_file
  are_bytes =
      let a = spell_all old.before in
      let m = spell old.movie in
      let m2 = spell new.movie in
      let b = spell_all old.behind in
      let split : (c : Chunk) → spell_all (old.before ++ c ∷ old.behind) ++ old.left ≡ a ++ (spell c ++ (b ++ old.left)) = λ c. ap (λ (x : List ℕ). x ++ old.left) (spell_all-append old.before (c ∷ old.behind)) ∙ append_assoc a (spell c ++ b) old.left ∙ ap (λ (x : List ℕ). a ++ x) (append_assoc (spell c) b old.left) in
      let all : IsBytes (a ++ (m ++ (b ++ old.left))) = subst IsBytes (split old.movie) (top_bytes o bytes sup) in
      let rest = IsBytes-behind m (b ++ old.left) (IsBytes-behind a (m ++ (b ++ old.left)) all) in
      let moov_all = IsBytes-front m (b ++ old.left) (IsBytes-behind a (m ++ (b ++ old.left)) all) in
      let head = IsBytes-front (header_bytes old.movie.form old.movie.id (length old.movie.body)) (old.movie.body ++ old.movie.pad) moov_all in
      let body_pad = IsBytes-behind (header_bytes old.movie.form old.movie.id (length old.movie.body)) (old.movie.body ++ old.movie.pad) moov_all in
      let pad = IsBytes-behind old.movie.body old.movie.pad body_pad in
      let left = IsBytes-behind (spell_all (kids o bytes sup)) (moov_left o bytes sup) (kids_all_bytes o bytes sup) in
      let w = wide_all o bytes sup small in
      let es = relocated_bytes f (map wide_atom (kids o bytes sup)) w.whole w.bytes in
      let body = join (spell_all (map (relocated f) (map wide_atom (kids o bytes sup)))) (moov_left o bytes sup) es left in
      let form = (told_of top top (spell old.movie ++ (spell_all old.behind ++ old.left)) old.movie.id (old.movie.body ++ (old.movie.pad ++ (spell_all old.behind ++ old.left))) old.movie.form (length old.movie.body) (at_moov o bytes sup).0.header_read).4 in
      let typed : IsBytes (header_bytes old.movie.form (codes "moov") (length old.movie.body)) = subst (λ (i : List ℕ). IsBytes (header_bytes old.movie.form i (length old.movie.body))) sup.movie.is_moov head in
      let head2 : IsBytes (header_bytes old.movie.form old.movie.id (length new.movie.body)) = subst (λ (i : List ℕ). IsBytes (header_bytes old.movie.form i (length new.movie.body))) (sym sup.movie.is_moov) (moov_head old.movie.form (length new.movie.body) (length old.movie.body) form typed) in
      let now : IsBytes m2 = join (header_bytes old.movie.form old.movie.id (length new.movie.body)) (new.movie.body ++ old.movie.pad) head2 (join new.movie.body old.movie.pad body pad) in
      subst IsBytes (sym (split new.movie)) (join a (m2 ++ (b ++ old.left)) (IsBytes-front a (m ++ (b ++ old.left)) all) (join m2 (b ++ old.left) now rest))

-- The new movie is supported.
use Rattle.std.proofs.Common.{Bool, List, None, Option, Some, [], ap, append_assoc, arith, cond, false, inl, inr, length, map, refl, subst, sym, true, ℕ, ◌++◌, ◌+◌, ◌^◌, ◌∙◌, ◌∷◌, ◌≡◌, ◌≤◌}
use Rattle.std.specs.Prelude.{IfSome, codes, ◌||◌}
use Rattle.std.proofs.lemmas.List.{length-append}
use Rattle.std.specs.List.{AllByRecursion, list_any}
use Rattle.container_model.proofs.Codec.{IsBytes}
use Rattle.container_model.proofs.Items.{same_true}
use Rattle.container_model.proofs.Read.{Atom, AtomForm, told_of}
use Rattle.container_model.specs.Chunk.{Chunk, Form, Run, ends, header_bytes, spell, spell_all}
use Rattle.container_model.specs.Deep.{Whole}
use Rattle.container_model.specs.Items.{Item, edit_carrier, listed, put_all}
use Rattle.container_model.specs.Sizes.{top}
use Rattle.container_model.specs.Units.{solids}
use Rattle.mov_model.proofs.Again.{at_moov, before_read, file_again, file_bytes, moov_again, mov, move, movie_again, now}
use Rattle.mov_model.proofs.Clauses.{all_tracks, behind_solids, held_again, new_parts, new_tracks, parts_whole, user_whole}
use Rattle.mov_model.proofs.Begins.{moov_first, same_first}
use Rattle.mov_model.proofs.Carry.{edited_by, first_all, first_edited, firsts}
use Rattle.mov_model.proofs.Cells.{all_chunks, any_user_relocated, first_user_relocated, is_user, keys_keep_user, meta_id, user_edited, user_sort}
use Rattle.mov_model.proofs.Parts.{KidWhole, UserWhole, always, user_new_is}
use Rattle.mov_model.proofs.Tables.{relocated_id, relocated_names, relocated_references, relocated_tables, relocated_whole}
use Rattle.sample_tables.proofs.Moved.{all_long, others_all, places_moved, short_all}
use Rattle.qt_text.proofs.User.{edited_again, fresh_again}
use Rattle.mov_model.specs.Atoms.{format, is_padding, moov}
use Rattle.container_model.specs.Atoms.{atom, is}
use Rattle.mov_model.proofs.Fits.{CanSet, Fits}
use Rattle.mov_model.specs.Begins.{begins_movie}
use Rattle.carrier_model.specs.Lists.{sets_some}
use Rattle.mov_model.specs.Carried.{Changes, fresh}
use Rattle.mov_model.specs.Keys.{edit_meta, is_meta, new_table, with_keys}
use Rattle.qt_keys.specs.Table.{table_bytes}
use Rattle.part_tree.specs.declared.field.Value.{Value}
use Rattle.mov_model.specs.Movie.{Movie, all_atoms, spell_movie}
use Rattle.mov_model.specs.Parts.{first_of, has_id, parts, tracks}
use Rattle.mov_model.specs.Reading.{count_parts, no_twice}
use Rattle.mov_model.specs.Support.{IsHeld, MovieFine, Readable, Supported, TrackFine, is_refused}
use Rattle.mov_model.specs.Tables.{relocated, tables}
use Rattle.sample_tables.specs.Tables.{FitsRows, places}
use Rattle.qt_text.specs.User.{udta, user_items}

pub all_map : (P Q : Chunk → Type 0) (g : Chunk → Chunk) → ((c : Chunk) → P c → Q (g c)) → (cs : List Chunk) → AllByRecursion P cs → AllByRecursion Q (map g cs)
all_map P Q g f [] h = tt
all_map P Q g f (c ∷ cs) h = (f c h.0, all_map P Q g f cs h.1)

-- ---- the first user data after an edit

module _ (Q : Chunk → Type 0) (e : List (Item Value)) where
  user_by : (cs : List Chunk) → AllByRecursion (λ c. Q (edit_carrier udta user_items e c)) (first_of is_user cs) → (list_any is_user cs ≡ false → IfSome (fresh udta (put_all user_items e [])) Q)
      → AllByRecursion Q (first_of is_user (edited_by is_user (edit_carrier udta user_items e) (fresh udta (put_all user_items e [])) cs))
  user_by cs h n = subst (AllByRecursion Q) (sym (first_edited is_user (edit_carrier udta user_items e) (fresh udta (put_all user_items e [])) cs (always is_user cs) (user_new_is (put_all user_items e [])))) (go (list_any is_user cs) refl)
    where
      changed : (ds : List Chunk) → AllByRecursion (λ c. Q (edit_carrier udta user_items e c)) ds → AllByRecursion Q (map (edit_carrier udta user_items e) ds)
      changed [] g = tt
      changed (d ∷ ds) g = (g.0, changed ds g.1)

      new_one : (m : Option Chunk) → IfSome m Q → AllByRecursion Q (listed m)
      new_one None g = tt
      new_one (Some c) g = (g, tt)

      go : (t : Bool) → list_any is_user cs ≡ t → AllByRecursion Q (firsts is_user (edit_carrier udta user_items e) (fresh udta (put_all user_items e [])) cs t)
      go true u = changed (first_of is_user cs) h
      go false u = new_one (fresh udta (put_all user_items e [])) (n u)

user_after : (Q : Chunk → Type 0) (e : List (Item Value)) (cs : List Chunk) → AllByRecursion Q (first_of is_user cs) → AllByRecursion (λ c. Q (edit_carrier udta user_items e c)) (first_of is_user cs)
    → (list_any is_user cs ≡ false → IfSome (fresh udta (put_all user_items e [])) Q) → AllByRecursion Q (first_of is_user (user_edited e cs))
user_after Q [] cs same h n = same
user_after Q (i ∷ e) cs same h n = user_by Q (i ∷ e) cs h n

pub no_moov-append : (id : List ℕ) (a : List Chunk) (c : Chunk) (b : List Chunk) → is c id ≡ true → has_id id (a ++ c ∷ b) ≡ true
no_moov-append id [] c b e = rw e refl
no_moov-append id (d ∷ a) c b e = go (is d id) (no_moov-append id a c b e)
  where
    go : (t : Bool) → has_id id (a ++ c ∷ b) ≡ true → (t || has_id id (a ++ c ∷ b)) ≡ true
    go true h = refl
    go false h = h

pub plain_whole : (c : Chunk) → is c (codes "trak") ≡ false → Whole format 5 moov c
unfolding Whole
plain_whole c u = rw u tt

user_accepted : (c : Chunk) → is_user c ≡ true → is_refused c ≡ false
user_accepted c u = rw (same_true c.id (codes "udta") u) refl

module _ (o : List ℕ) (bytes : IsBytes o) (sup : Readable o) (e : Changes) (can : CanSet e) (fits : Fits (mov o bytes sup) e) where
  abbrev old : Movie
  old = mov o bytes sup

  abbrev new : Movie
  new = now o bytes sup e fits

  abbrev f : ℕ → ℕ
  f = move o bytes sup e fits

  pw : AllByRecursion KidWhole (parts old)
  pw = parts_whole o bytes sup e can fits

  -- a property of each atom that is no track, and of those that were there
  in_parts : (P : Chunk → Type 0) → ((c : Chunk) → is_user c ≡ true → P c) → ((c : Chunk) → c.id ≡ codes "meta" → P c) → AllByRecursion P (map (relocated f) (parts old)) → AllByRecursion P (parts new)
  in_parts P users metas h =
      subst (AllByRecursion P) (sym (new_parts o bytes sup e can fits))
      (all_chunks P e (map (relocated f) (parts old)) h (record {
        users = first_all is_user P (λ c. P (edit_carrier udta user_items e.users c)) (λ c u p. users (edit_carrier udta user_items e.users c) u) (map (relocated f) (parts old)) h;
        new_user = λ none. new_one (put_all user_items e.users []);
        keys = first_all is_meta P (λ c. P (edit_meta e.keys c)) (λ c u p. metas (edit_meta e.keys c) (meta_id c u)) (map (relocated f) (parts old)) h;
        new_keys = λ none. new_meta_one (sets_some e.keys);
      }))
    where
      new_one : (items : List Chunk) → IfSome (fresh udta items) P
      new_one [] = tt
      new_one (c ∷ cs) = users (udta.fresh (c ∷ cs)) refl

      new_meta_one : (t : Bool) → IfSome (cond t (Some (atom (codes "meta") (table_bytes (with_keys e.keys new_table)))) None) P
      new_meta_one true = metas (atom (codes "meta") (table_bytes (with_keys e.keys new_table))) refl
      new_meta_one false = tt

  in_user : (Q : Chunk → Type 0) → AllByRecursion Q (first_of is_user (parts old)) → AllByRecursion (λ c. Q (edit_carrier udta user_items e.users c)) (first_of is_user (parts old))
      → (list_any is_user (parts old) ≡ false → IfSome (fresh udta (put_all user_items e.users [])) Q) → AllByRecursion Q (first_of is_user (parts new))
  in_user Q same h n =
      let r = first_user_relocated f (parts old) in
      let mid = user_edited e.users (map (relocated f) (parts old)) in
      subst (λ (cs : List Chunk). AllByRecursion Q (first_of is_user cs)) (sym (new_parts o bytes sup e can fits))
      (subst (AllByRecursion Q) (sym (keys_keep_user e.keys mid).0)
      (user_after Q e.users (map (relocated f) (parts old)) (subst (AllByRecursion Q) (sym r) same) (subst (AllByRecursion (λ c. Q (edit_carrier udta user_items e.users c))) (sym r) h) (λ t. n (sym (any_user_relocated f (parts old)) ∙ t))))

  held_all : (ps : List ℕ) → AllByRecursion (IsHeld (all_atoms old)) ps → AllByRecursion (IsHeld (all_atoms new)) (map f ps)
  held_all [] h = tt
  held_all (p ∷ ps) h = ((h.0.0, held_again o bytes sup e can fits p h.0.0 h.0.1), held_all ps h.1)

  track_fine : (t : Chunk) → KidWhole t → TrackFine (all_atoms old) t → AllByRecursion (FitsRows f) (tables t) → TrackFine (all_atoms new) (relocated f t)
  track_fine t w h rows =
      let ts = tables t in
      let same = relocated_tables f t w.0 w.1 in
      let refs = relocated_references f t w.0 w.1 in
      record {
        once = ap (no_twice []) (relocated_names f t w.0 w.1) ∙ h.once;
        no_other_offsets = rw same (others_all f ts h.no_other_offsets);
        long_tables = rw same (short_all f ts h.long_tables);
        long_references = rw refs h.long_references;
        local = rw refs h.local;
        chunks_inside = rw (same, places_moved f ts (all_long ts h.long_tables) rows) (held_all (places ts) h.chunks_inside);
      }

  tracks_fine : (ts : List Chunk) → AllByRecursion KidWhole ts → AllByRecursion (TrackFine (all_atoms old)) ts → AllByRecursion (λ t. AllByRecursion (FitsRows f) (tables t)) ts → AllByRecursion (TrackFine (all_atoms new)) (map (relocated f) ts)
  tracks_fine [] w h r = tt
  tracks_fine (t ∷ ts) w h r = (track_fine t w.0 h.0 r.0, tracks_fine ts w.1 h.1 r.1)

  fresh_ends : (items : List Chunk) → (udta.opening (udta.fresh items)).stop ≡ ends → IfSome (fresh udta items) (λ c. (udta.opening c).stop ≡ ends)
  fresh_ends [] h = tt
  fresh_ends (c ∷ cs) h = h

  edited_ends : (cs : List Chunk) → AllByRecursion UserWhole cs → AllByRecursion (λ c. (udta.opening (edit_carrier udta user_items e.users c)).stop ≡ ends) cs
  edited_ends [] h = tt
  edited_ends (c ∷ cs) h = (ap (λ (r : Run). r.stop) (edited_again e.users c can.users h.0.1 h.0.0), edited_ends cs h.1)

  old_user : AllByRecursion UserWhole (first_of is_user (parts old))
  old_user = subst (AllByRecursion UserWhole) (first_user_relocated f (parts old)) (user_whole o bytes sup e can fits)

  new_fine : MovieFine new
  new_fine = record {
    is_moov = sup.movie.is_moov;
    no_other = ap (has_id (codes "moov")) (behind_solids old e) ∙ sup.movie.no_other;
    no_fragments = ap (λ (cs : List Chunk). has_id (codes "moof") (solids is_padding old.before ++ cs)) (behind_solids old e) ∙ sup.movie.no_fragments;
    atoms_end = ap (λ (r : Run). r.stop) (moov_again o bytes sup e fits);
    tracks_end = in_parts (Whole format 5 moov) (λ c u. plain_whole c (user_sort.no_track c u)) (λ c i. plain_whole c (rw i refl)) (all_map KidWhole (Whole format 5 moov) (relocated f) (λ c w. relocated_whole f c w.0 w.1) (parts old) pw);
    user_ends = in_user (λ c. (udta.opening c).stop ≡ ends) sup.movie.user_ends (edited_ends (first_of is_user (parts old)) old_user) (λ t. fresh_ends (put_all user_items e.users []) (ap (λ (r : Run). r.stop) (fresh_again e.users can.users)));
    user_small = in_user (λ c. length c.body ≤ 2 ^ 24) sup.movie.user_small fits.user_small fits.fresh_small;
    not_refused = in_parts (λ c. is_refused c ≡ false) user_accepted (λ c i. rw i refl)
        (all_map (λ c. is_refused c ≡ false) (λ c. is_refused c ≡ false) (relocated f) (λ c h. ap (λ (x : List ℕ). is_refused (record c { id = x })) (relocated_id f c) ∙ h) (parts old) sup.movie.not_refused);
    tracks = subst (AllByRecursion (TrackFine (all_atoms new))) (sym (new_tracks o bytes sup e can fits)) (tracks_fine (tracks old) (all_tracks KidWhole (parts old) pw) sup.movie.tracks fits.rows);
  }

  moov_form : AtomForm new.movie.form
  moov_form =
      let s = (at_moov o bytes sup).0 in
      let t = told_of top top (spell old.movie ++ (spell_all old.behind ++ old.left)) old.movie.id (old.movie.body ++ (old.movie.pad ++ (spell_all old.behind ++ old.left))) old.movie.form (length old.movie.body) s.header_read in
      t.4

  moov_len : length new.movie.body + 8 ≤ 2 ^ 28
  moov_len = omega (arith, fits.movie_small, length-append (header_bytes new.movie.form new.movie.id (length new.movie.body)) (new.movie.body ++ new.movie.pad), length-append new.movie.body new.movie.pad, head new.movie.form moov_form)
    where
      head : (form : Form) → AtomForm form → 8 ≤ length (header_bytes form new.movie.id (length new.movie.body))
      head form (inl e) = rw (e, sup.movie.is_moov) (omega arith)
      head form (inr (inl e)) = rw (e, sup.movie.is_moov) (omega arith)
      head form (inr (inr e)) = rw (e, sup.movie.is_moov) (omega arith)

  new_kind : begins_movie (spell_movie new) ≡ true
  new_kind = go old.before (before_read o bytes sup) (ap begins_movie (file_bytes o bytes sup) ∙ sup.kind)
    where
      go : (a : List Chunk) → AllByRecursion (Atom top) a → begins_movie (spell_all (a ++ old.movie ∷ old.behind) ++ old.left) ≡ true → begins_movie (spell_all (a ++ new.movie ∷ new.behind) ++ new.left) ≡ true
      go [] r k = ap begins_movie (append_assoc (spell new.movie) (spell_all new.behind) new.left) ∙ moov_first new.movie (spell_all new.behind ++ new.left) moov_form sup.movie.is_moov moov_len
      go (c ∷ a) r k =
          ap begins_movie (append_assoc (spell c) (spell_all (a ++ new.movie ∷ new.behind)) new.left)
          ∙ same_first c (spell_all (a ++ old.movie ∷ old.behind) ++ old.left) (spell_all (a ++ new.movie ∷ new.behind) ++ new.left) r.0 (ap begins_movie (sym (append_assoc (spell c) (spell_all (a ++ old.movie ∷ old.behind)) old.left)) ∙ k)

  pub new_supported : Supported (spell_movie new)
  new_supported =
      let again = movie_again o bytes sup e fits in
      record {
        readable = record {
          kind = new_kind;
          atoms_end = ap (λ (r : Run). r.stop) (file_again o bytes sup e fits);
          has_moov = ap (λ (r : Run). has_id (codes "moov") r.chunks) (file_again o bytes sup e fits) ∙ no_moov-append (codes "moov") old.before new.movie new.behind (rw sup.movie.is_moov refl);
          movie = subst MovieFine (sym again) new_fine;
        };
        small = subst (λ (m : Movie). length (spell m.movie) ≤ 2 ^ 26) (sym again) fits.movie_small;
        few_parts = subst (λ (m : Movie). count_parts m ≤ 65536) (sym again) fits.few_parts;
      }

-- How many atoms a movie has after an edit, and how long its moov is, by the atoms before their tables are relocated.
use Rattle.std.proofs.Common.{◌≡◌, ◌∙◌, ℕ, zero, suc, ◌+◌, ◌<◌, ◌^◌, Bool, true, false, cond, List, [], ◌∷◌, ◌++◌, length, map, take, replicate, Option, Some, None, refl, sym, ap, subst, arith}
use Rattle.std.specs.Prelude.{IfSome, ◌&&◌, ◌||◌, not, codes}
use Rattle.std.specs.List.{AllByRecursion, flat_map}
use Rattle.std.specs.Str.{bytes_eq}
use Rattle.std.proofs.lemmas.List.{length-append}
use Rattle.me_bytes.specs.Bytes.{IsBytes}
use Rattle.part_tree.specs.Large.{first_above}
use Rattle.container_model.specs.Atoms.{atom, atoms_in, is}
use Rattle.container_model.specs.Chunk.{Chunk, Head, Run, ends, pad_len, spell, spell_all}
use Rattle.container_model.specs.Deep.{Leaf, Whole, mend, mend_at}
use Rattle.container_model.specs.Items.{Item, edit_carrier, put_all}
use Rattle.container_model.specs.Sizes.{atom_front, inside}
use Rattle.container_model.specs.Splice.{shift}
use Rattle.container_model.specs.Units.{padded, shut}
use Rattle.container_model.specs.Walk.{body_at, end_at, nested}
use Rattle.container_model.proofs.Atoms.{atoms_give_back}
use Rattle.container_model.proofs.Codec.{chunks_spelled}
use Rattle.container_model.proofs.Deep.{Alike, all_len}
use Rattle.container_model.proofs.Items.{same_true}
use Rattle.container_model.proofs.Moved.{atom_moves}
use Rattle.container_model.proofs.Read.{Atom, atom_sized, atoms_again}
use Rattle.container_model.proofs.Units.{AllCells, lay_all}
use Rattle.container_model.proofs.Walk.{mend_nested, walk_nested}
use Rattle.carrier_model.specs.Lists.{sets_some}
use Rattle.carrier_model.specs.Steps.{carried}
use Rattle.mov_model.specs.Atoms.{Place, cell_of, dinf, file, format, mdia, minf, moov, opens, stbl, trak, user_data}
use Rattle.mov_model.specs.Carried.{Changes, fresh, steps}
use Rattle.mov_model.specs.Keys.{edit_meta, is_meta, new_meta, new_table, with_keys}
use Rattle.mov_model.specs.Large.{key_sizes, user_sizes}
use Rattle.mov_model.specs.Movie.{Movie, movie_of}
use Rattle.mov_model.specs.New.{edit_cuts, fill, is_open, laid_kids, laid_movie, new_kids, new_movie}
use Rattle.mov_model.specs.Parts.{first_of, parts}
use Rattle.mov_model.specs.Reading.{atoms_met, count_parts, inside_at, inside_steps, kid_steps, moov_steps, row}
use Rattle.mov_model.specs.Support.{Readable}
use Rattle.mov_model.specs.Tables.{moved_leaf, relocated}
use Rattle.mov_model.proofs.Again.{all_strip, fill_all, kids, kids_bytes, kids_read, moov_left, whole_kids}
use Rattle.mov_model.proofs.Carry.{first_both}
use Rattle.mov_model.proofs.Cells.{Brings, all_carried, all_chunks, any_now, atoms_now, first_now, is_user, meta_sort, user_sort}
use Rattle.mov_model.proofs.Fits.{SmallBody}
use Rattle.mov_model.proofs.Large.{carrier_fits, within, within_both}
use Rattle.mov_model.proofs.Steps.{met_both, met_row}
use Rattle.mov_model.proofs.Tables.{keeps, relocated_alike, relocated_id, relocated_other}
use Rattle.qt_keys.specs.Table.{table_bytes}
use Rattle.qt_text.proofs.User.{atom_made}
use Rattle.qt_text.specs.User.{udta, user_items}
use Rattle.mov_plan.specs.Shapes.{atoms_by, atoms_of, count_all}

-- ---- as many atoms are nested in a relocated one

module _ (f : ℕ → ℕ) where
  at_id : (g : Place → Chunk → Chunk) (p : Place) (c : Chunk) (o : Option Place) → (mend_at format (moved_leaf f) g p c o).id ≡ c.id
  at_id g p c None = refl
  at_id g p c (Some q) = refl

  mend_id : (d : ℕ) (p : Place) (c : Chunk) → (mend format (moved_leaf f) d p c).id ≡ c.id
  unfolding mend
  mend_id zero p c = refl
  mend_id (suc d) p c = at_id (mend format (moved_leaf f) d) p c (opens p c.id (take 4 c.body))

  opens_by_id : (p : Place) (a b x y : List ℕ) → a ≡ b → opens p a x ≡ opens p b y
  opens_by_id file a b x y e = refl
  opens_by_id user_data a b x y e = refl
  opens_by_id moov a b x y e = rw e refl
  opens_by_id trak a b x y e = rw e refl
  opens_by_id mdia a b x y e = rw e refl
  opens_by_id minf a b x y e = rw e refl
  opens_by_id stbl a b x y e = refl
  opens_by_id dinf a b x y e = refl

  opens_again : (d : ℕ) (p : Place) (c : Chunk) → Whole format d p c → IsBytes c.body
      → opens p (mend format (moved_leaf f) d p c).id (take 4 (mend format (moved_leaf f) d p c).body) ≡ opens p c.id (take 4 c.body)
  opens_again d p c w b = opens_by_id p _ c.id _ _ (mend_id d p c)

  abbrev one : Leaf Place → List ℕ
  one l = 0 ∷ []

  one_each : (ls : List (Leaf Place)) → length (flat_map one ls) ≡ length ls
  one_each [] = refl
  one_each (l ∷ ls) = ap suc (one_each ls)

  nested_same : (c : Chunk) → Whole format 5 moov c → IsBytes c.body → length (nested format 5 moov (relocated f c)) ≡ length (nested format 5 moov c)
  nested_same c w b =
      sym (one_each (nested format 5 moov (relocated f c)))
      ∙ ap length (mend_nested format atoms_give_back atom_moves (moved_leaf f) (keeps f) one (λ p a d e. refl) opens_again 5 moov c w b)
      ∙ one_each (nested format 5 moov c)

  -- ---- an atom that is read again, and is as long and counts for as many where its tables are relocated

  record Fine (c : Chunk) : Type 0 where
    read : Atom inside c
    alike : Alike c (relocated f c)
    counts : (seen : Bool) → atoms_of seen (relocated f c) ≡ atoms_of seen c
    user : udta.is (relocated f c) ≡ udta.is c

  same_alike : (c : Chunk) → relocated f c ≡ c → Alike c (relocated f c)
  same_alike c e = record { form_is = ap (λ (x : Chunk). x.form) e; id_is = ap (λ (x : Chunk). x.id) e; len_is = ap (λ (x : Chunk). length x.body) e; pad_is = ap (λ (x : Chunk). x.pad) e }

  plain_fine : (c : Chunk) → is c (codes "trak") ≡ false → Atom inside c → Fine c
  plain_fine c n a =
      let same = relocated_other f c n in
      record { read = a; alike = same_alike c same; counts = λ seen. ap (atoms_of seen) same; user = ap (λ (d : Chunk). udta.is d) same }

  off : (a u : Bool) → u ≡ false → (a && u) ≡ false
  off true u e = e
  off false u e = refl

  track_fine : (c : Chunk) → is c (codes "trak") ≡ true → Atom inside c → Whole format 5 moov c → IsBytes c.body → Fine c
  track_fine c t a w b =
      let same_user : udta.is (relocated f c) ≡ udta.is c = ap (λ (x : List ℕ). bytes_eq x (codes "udta")) (relocated_id f c) in
      let none : udta.is c ≡ false = rw (same_true c.id (codes "trak") t) refl in
      record {
        read = a;
        alike = relocated_alike f c w b;
        counts = λ seen.
            ap (atoms_by (relocated f c)) (off (not seen) (udta.is (relocated f c)) (same_user ∙ none)) ∙ nested_same c w b
            ∙ sym (ap (atoms_by c) (off (not seen) (udta.is c) none));
        user = same_user;
      }

  kid_fine : (c : Chunk) → Atom inside c → IsBytes c.body → Whole format 5 moov c → Fine c
  kid_fine c a b w = go (is c (codes "trak")) refl
    where
      go : (t : Bool) → is c (codes "trak") ≡ t → Fine c
      go true e = track_fine c e a w b
      go false e = plain_fine c e a

  kids_fine : (cs : List Chunk) → AllByRecursion (Atom inside) cs → AllByRecursion (λ c. IsBytes c.body) cs → AllByRecursion (Whole format 5 moov) cs → AllByRecursion Fine cs
  kids_fine [] a b w = tt
  kids_fine (c ∷ cs) a b w = (kid_fine c a.0 b.0 w.0, kids_fine cs a.1 b.1 w.1)

  fine_free : (body : List ℕ) → length body + 8 < 2 ^ 32 → Fine (atom (codes "free") body)
  fine_free body lt = plain_fine (atom (codes "free") body) refl (atom_made inside (codes "free") body refl lt)

  fine_padded : (c : Chunk) → Fine c → Fine (padded c)
  fine_padded c k =
      let none : replicate (pad_len c.form (length c.body)) 0 ≡ c.pad = rw (k.read.pad_none, k.read.no_pad) refl in
      let same : padded c ≡ c = ap (λ (x : List ℕ). record c { pad = x }) none in
      subst Fine (sym same) k

  fine_sized : (c : Chunk) (body : List ℕ) → is c (codes "trak") ≡ false → Fine c → length body + 16 < 2 ^ 32 → Fine (record c { body = body })
  fine_sized c body u k lt = plain_fine (record c { body = body }) u (atom_sized inside c body k.read lt)

  fine_new : (m : Option Chunk) → IfSome m SmallBody → IfSome m (λ c. (c ≡ atom c.id c.body) × (length c.id ≡ 4) × (is c (codes "trak") ≡ false)) → IfSome m Fine
  fine_new None s n = tt
  fine_new (Some c) s n = plain_fine c n.2 (subst (Atom inside) (sym n.0) (atom_made inside c.id c.body n.1 (omega (arith, s))))

  -- ---- lists of them

  read_alike : (c d : Chunk) → Alike c d → Atom inside c → Atom inside d
  read_alike c d a h =
      let head : Head atom_front inside inside d = λ after. rw (a.form_is, a.id_is, a.len_is) (h.head after) in
      record { head = head; no_pad = a.pad_is ∙ h.no_pad; pad_none = rw (a.form_is, a.len_is) h.pad_none; id_len = rw a.id_is h.id_len; short_or_long = rw a.form_is h.short_or_long }

  all_read : (cs : List Chunk) → AllByRecursion Fine cs → AllByRecursion (Atom inside) (map (relocated f) cs)
  all_read [] h = tt
  all_read (c ∷ cs) h = (read_alike c (relocated f c) h.0.alike h.0.read, all_read cs h.1)

  all_alike : (cs : List Chunk) → AllByRecursion Fine cs → AllByRecursion (λ c. Alike c (relocated f c)) cs
  all_alike [] h = tt
  all_alike (c ∷ cs) h = (h.0.alike, all_alike cs h.1)

  count_moved : (seen : Bool) (cs : List Chunk) → AllByRecursion Fine cs → count_all seen (map (relocated f) cs) ≡ count_all seen cs
  count_moved seen [] h = refl
  count_moved seen (c ∷ cs) h =
      let here = h.0.counts seen in
      let user : count_all (seen || udta.is (relocated f c)) (map (relocated f) cs) ≡ count_all (seen || udta.is c) (map (relocated f) cs) = ap (λ (t : Bool). count_all (seen || t) (map (relocated f) cs)) h.0.user in
      let more = count_moved (seen || udta.is c) cs h.1 in
      omega (arith, here, user, more)

-- ---- the atoms that are met

met_kid : (t : Bool) (at : ℕ) (c : Chunk) → atoms_met (kid_steps t at c) ≡ atoms_by c t
met_kid true at c =
    let kids = (udta.opening c).chunks in
    let last = end_at user_data (body_at at c + length (spell_all kids)) (udta.opening c).stop ∷ [] in
    let sum = met_both (row user_data (body_at at c) kids) last in
    let all = met_row user_data kids (body_at at c) in
    ap suc (omega (arith, sum, all))
met_kid false at c = ap length (walk_nested format 5 moov at c)

met_kids : (seen : Bool) (at : ℕ) (cs : List Chunk) → atoms_met (inside_steps seen at cs) ≡ count_all seen cs
met_kids seen at [] = refl
met_kids seen at (c ∷ cs) =
    let t = not seen && udta.is c in
    let rest = inside_steps (seen || udta.is c) (at + length (spell c)) cs in
    let sum = met_both (kid_steps t at c) rest in
    let here = met_kid t at c in
    let more = met_kids (seen || udta.is c) (at + length (spell c)) cs in
    omega (arith, sum, here, more)

-- ---- of a supported movie

module _ (b : List ℕ) (bytes : IsBytes b) (sup : Readable b) (e : Changes) (small : first_above (user_sizes (movie_of b) e.users ++ key_sizes (movie_of b) e.keys) ≡ None) where
  abbrev m : Movie
  m = movie_of b

  abbrev f : ℕ → ℕ
  f = shift (edit_cuts m e)

  abbrev ks : List Chunk
  ks = kids b bytes sup

  abbrev P : Chunk → Type 0
  P c = Fine f c

  all_fine : AllByRecursion P ks
  all_fine = kids_fine f ks (kids_read b bytes sup).0 (kids_bytes b bytes sup) (whole_kids ks sup.movie.tracks_end)

  brought : AllByRecursion P (atoms_now ks) → Brings P e (atoms_now ks)
  brought all =
      let s = within_both (user_sizes m e.users) (key_sizes m e.keys) (within (user_sizes m e.users ++ key_sizes m e.keys) small) in
      let u = carrier_fits is_user (edit_carrier udta user_items e.users) (fresh udta (put_all user_items e.users [])) (parts m) s.0 in
      let k = carrier_fits is_meta (edit_meta e.keys) (new_meta e.keys) (parts m) s.1 in
      record {
        users = first_both is_user P (λ c. SmallBody (edit_carrier udta user_items e.users c)) (λ c. P (edit_carrier udta user_items e.users c))
            (λ c t x lt. fine_sized f c (edit_carrier udta user_items e.users c).body (user_sort.no_track c t) x (omega (arith, lt))) (atoms_now ks) all
            (all_strip (λ c. SmallBody (edit_carrier udta user_items e.users c)) (λ c h. h) (first_of is_user (atoms_now ks)) (subst (AllByRecursion (λ c. SmallBody (edit_carrier udta user_items e.users c))) (sym (first_now is_user user_sort ks)) u.0));
        new_user = λ none. fine_new f (fresh udta (put_all user_items e.users [])) (u.1 (sym (any_now is_user user_sort ks) ∙ none)) (user_atom (put_all user_items e.users []));
        keys = first_both is_meta P (λ c. SmallBody (edit_meta e.keys c)) (λ c. P (edit_meta e.keys c))
            (λ c t x lt. fine_sized f c (edit_meta e.keys c).body (meta_sort.no_track c t) x (omega (arith, lt))) (atoms_now ks) all
            (all_strip (λ c. SmallBody (edit_meta e.keys c)) (λ c h. h) (first_of is_meta (atoms_now ks)) (subst (AllByRecursion (λ c. SmallBody (edit_meta e.keys c))) (sym (first_now is_meta meta_sort ks)) k.0));
        new_keys = λ none. fine_new f (new_meta e.keys) (k.1 (sym (any_now is_meta meta_sort ks) ∙ none)) (meta_atom (sets_some e.keys) e.keys);
      }
    where
      user_atom : (items : List Chunk) → IfSome (fresh udta items) (λ c. (c ≡ atom c.id c.body) × (length c.id ≡ 4) × (is c (codes "trak") ≡ false))
      user_atom [] = tt
      user_atom (c ∷ cs) = (refl, refl, refl)

      meta_atom : (t : Bool) (ks : List (Item (List ℕ))) → IfSome (cond t (Some (atom (codes "meta") (table_bytes (with_keys ks new_table)))) None) (λ c. (c ≡ atom c.id c.body) × (length c.id ≡ 4) × (is c (codes "trak") ≡ false))
      meta_atom true ks = (refl, refl, refl)
      meta_atom false ks = tt

  cells_fine : AllCells P (carried (steps e) (map cell_of ks))
  cells_fine = all_carried P e ks all_fine (λ all. all_chunks P e (atoms_now ks) all (brought all))

  laid_fine : AllByRecursion P (laid_kids m e)
  laid_fine =
      lay_all P (fill (is_open m e)) (record { on_pads = λ c k. fine_padded f c k; on_fill = λ last slot s. fill_all P (fine_free f) (is_open m e) last slot s }) shut
      (carried (steps e) (map cell_of ks)) tt cells_fine

  -- moov is read again
  again : atoms_in (new_movie m e).movie ≡ record { chunks = new_kids m e; stop = ends; left = moov_left b bytes sup }
  again = chunks_spelled atom_front inside (new_kids m e) (moov_left b bytes sup) (atoms_again inside (new_kids m e) (moov_left b bytes sup) (all_read f (laid_kids m e) laid_fine) (kids_read b bytes sup).1)

  met_moov : (at : ℕ) (r : Run) → atoms_met (inside_steps false at r.chunks ++ end_at moov (at + length (spell_all r.chunks)) r.stop ∷ []) ≡ count_all false r.chunks
  met_moov at r =
      let sum = met_both (inside_steps false at r.chunks) (end_at moov (at + length (spell_all r.chunks)) r.stop ∷ []) in
      omega (arith, sum, met_kids false at r.chunks)

  -- As many atoms are counted as in the movie whose tables stand as they were.
  pub parts_law : count_parts (new_movie m e) ≡ (length m.before + suc (length (laid_movie m e).behind)) + count_all false (laid_kids m e)
  parts_law =
      let inner : atoms_met (moov_steps (new_movie m e)) ≡ count_all false (laid_kids m e)
      = met_moov (inside_at (new_movie m e)) (atoms_in (new_movie m e).movie) ∙ ap (λ (r : Run). count_all false r.chunks) again ∙ count_moved f false (laid_kids m e) laid_fine in
      let outer = length-append m.before ((new_movie m e).movie ∷ (new_movie m e).behind) in
      omega (arith, inner, outer)

  -- moov is as long
  pub body_law : length (new_movie m e).movie.body ≡ length (laid_movie m e).movie.body
  body_law =
      let left = (atoms_in m.movie).left in
      let n = all_len (relocated f) (laid_kids m e) (all_alike f (laid_kids m e) laid_fine) in
      omega (arith, n, length-append (spell_all (new_kids m e)) left, length-append (spell_all (laid_kids m e)) left)

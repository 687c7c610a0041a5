-- Where no table holds a place that moves, the relocation changes nothing.
use Rattle.std.proofs.Common.{◌≡◌, ℕ, ◌^◌, Bool, true, false, cond, List, [], ◌∷◌, ◌++◌, length, map, take, drop, replicate, refl, sym, ap, subst, ◌∙◌, inl, inr}
use Rattle.std.specs.Prelude.{codes, ◌⊎◌}
use Rattle.std.specs.List.{flat_map, AllByRecursion}
use Rattle.std.proofs.lemmas.List.{take-append-drop}
use Rattle.me_bytes.specs.Bytes.{IsBytes}
use Rattle.part_tree.specs.declared.field.EditItem.{EditItem}
use Rattle.container_model.specs.Chunk.{short, long, pad_len, Chunk}
use Rattle.container_model.specs.Deep.{Whole, Leaf, leaves_at, leaves}
use Rattle.container_model.specs.Items.{put_all, edit_carrier}
use Rattle.container_model.specs.Rows.{Width, be32, be64}
use Rattle.container_model.specs.Sizes.{inside}
use Rattle.container_model.specs.Splice.{splice, shift}
use Rattle.container_model.specs.Units.{padded, shut, solids}
use Rattle.container_model.proofs.Atoms.{atoms_give_back}
use Rattle.container_model.proofs.Codec.{IsBytes-drop}
use Rattle.container_model.proofs.Items.{same_true}
use Rattle.container_model.proofs.Moved.{atom_moves}
use Rattle.container_model.proofs.Read.{Atom}
use Rattle.container_model.proofs.Rows.{Spells, be32_spells, be64_spells, changed_same}
use Rattle.container_model.proofs.Units.{AllCells, lay_all}
use Rattle.container_model.proofs.Walk.{StillLeaf, all_parts, mend_still}
use Rattle.mov_model.specs.Atoms.{Place, file, user_data, moov, trak, mdia, minf, stbl, dinf, format, is_padding, cell_of, when}
use Rattle.container_model.specs.Atoms.{is, atoms_in}
use Rattle.qt_text.specs.User.{user_items, udta}
use Rattle.mov_model.specs.Tables.{moved_leaf, relocated, in_stbl, tables}
use Rattle.sample_tables.specs.Tables.{count, rows, with_rows, places_in, moved_body, places}
use Rattle.carrier_model.specs.Steps.{carried}
use Rattle.mov_model.specs.Carried.{Changes, fresh, steps}
use Rattle.mov_model.specs.Movie.{Movie, movie_of}
use Rattle.mov_model.specs.New.{fill, pieces_of, is_open, laid_movie, laid_kids, new_kids, new_movie, edit_cuts, edited_file}
use Rattle.mov_model.specs.Parts.{track_of, tracks}
use Rattle.mov_model.specs.Support.{Readable}
use Rattle.mov_model.specs.Edited.{changes, new_file}
use Rattle.mov_model.specs.Cuts.{TablesStay, unit_cuts}
use Rattle.mov_model.proofs.Again.{fill_all, kids, kids_joined, kids_bytes, kids_read, whole_kids, moov_padless, file_bytes}
use Rattle.mov_model.proofs.Carry.{first_all}
use Rattle.mov_model.proofs.Cells.{Brings, all_carried, all_chunks, atoms_now, is_user, meta_sort, user_sort}
use Rattle.carrier_model.specs.Lists.{sets_some}
use Rattle.mov_model.specs.Keys.{edit_meta, is_meta, new_table, with_keys}
use Rattle.qt_keys.specs.Table.{table_bytes}
use Rattle.std.specs.Prelude.{IfSome, codes}
use Rattle.std.proofs.Common.{None, Some}
use Rattle.container_model.specs.Atoms.{atom}
use Rattle.mov_model.proofs.Spliced.{laid_spliced}
use Rattle.mov_model.proofs.Tables.{keeps, relocated_other}

module _ (f : ℕ → ℕ) where
  -- none of these places moves
  abbrev pub Fixed : List ℕ → Type 0
  Fixed ps = AllByRecursion (λ p. f p ≡ p) ps

  rows_still : (w : Width) (bound : ℕ) → Spells w bound → (c : Chunk) → Fixed (rows w c) → IsBytes c.body → with_rows w f c ≡ c.body
  rows_still w bound sp c h bytes =
      ap (λ (x : List ℕ). take 8 c.body ++ x) (changed_same w bound sp f (count c) (drop 8 c.body) h (IsBytes-drop 8 c.body bytes)) ∙ take-append-drop 8 c.body

  body_still : (c : Chunk) → Fixed (places_in c) → IsBytes c.body → moved_body f c ≡ c.body
  body_still c h bytes = go (is c (codes "stco")) (is c (codes "co64")) h
    where
      go : (t u : Bool) → Fixed (cond t (rows be32 c) (cond u (rows be64 c) [])) → cond t (with_rows be32 f c) (cond u (with_rows be64 f c) c.body) ≡ c.body
      go true u h = rows_still be32 (2 ^ 32) be32_spells c h bytes
      go false true h = rows_still be64 (2 ^ 64) be64_spells c h bytes
      go false false h = refl

  abbrev Still : Leaf Place → Type 0
  Still l = StillLeaf format atoms_give_back atom_moves (moved_leaf f) (keeps f) l

  -- the places in the tables among leaves
  abbrev leaf_places : List (Leaf Place) → List ℕ
  leaf_places ls = places (flat_map (λ (l : Leaf Place). in_stbl l.place l.chunk) ls)

  leaves_still : (ls : List (Leaf Place)) → Fixed (leaf_places ls) → AllByRecursion Still ls
  leaves_still [] h = tt
  leaves_still (l ∷ ls) h = go l.place h (leaves_still ls)
    where
      go : (p : Place) → Fixed (places (in_stbl p l.chunk ++ flat_map (λ (l : Leaf Place). in_stbl l.place l.chunk) ls)) → (Fixed (leaf_places ls) → AllByRecursion Still ls)
          → (IsBytes l.chunk.body → moved_leaf f p l.chunk ≡ l.chunk.body) × AllByRecursion Still ls
      go file h again = (λ b. refl, again h)
      go user_data h again = (λ b. refl, again h)
      go moov h again = (λ b. refl, again h)
      go trak h again = (λ b. refl, again h)
      go mdia h again = (λ b. refl, again h)
      go minf h again = (λ b. refl, again h)
      go dinf h again = (λ b. refl, again h)
      go stbl h again = let p = all_parts (λ p. f p ≡ p) (places_in l.chunk) (leaf_places ls) h in (λ b. body_still l.chunk p.0 b, again p.1)

  relocated_still : (c : Chunk) → Fixed (places (tables c)) → Whole format 5 moov c → IsBytes c.body → relocated f c ≡ c
  relocated_still c h w b = mend_still format atoms_give_back atom_moves (moved_leaf f) (keeps f) 5 moov c (leaves_still (leaves format 5 moov c) h) w b

  -- ---- the atoms of moov

  -- an atom that stays and has no pad
  abbrev Stays : Chunk → Type 0
  Stays c = (relocated f c ≡ c) × ((c.pad ≡ []) × ((n : ℕ) → pad_len c.form n ≡ 0))

  abbrev FixedTrack : Chunk → Type 0
  FixedTrack t = Fixed (places (tables t))

  fixed_strip : (c : Chunk) → FixedTrack (record c { pad = [] }) → FixedTrack c
  unfolding leaves
  fixed_strip c h = go (is c (codes "trak")) h
    where
      go : (t : Bool) → Fixed (leaf_places (leaves_at format (leaves format 4) moov (record c { pad = [] }) (when t trak))) → Fixed (leaf_places (leaves_at format (leaves format 4) moov c (when t trak)))
      go true h = h
      go false h = h

  stays_by : (c : Chunk) → relocated f c ≡ c → Atom inside c → Stays c
  stays_by c e a = (e, (a.no_pad, none a.short_or_long))
    where
      none : (c.form ≡ short) ⊎ (c.form ≡ long) → (n : ℕ) → pad_len c.form n ≡ 0
      none (inl e) n = rw e refl
      none (inr e) n = rw e refl

  all_stay : (cs : List Chunk) → AllByRecursion FixedTrack (flat_map track_of (solids is_padding cs)) → AllByRecursion (Whole format 5 moov) cs → AllByRecursion (λ c. IsBytes c.body) cs → AllByRecursion (Atom inside) cs → AllByRecursion Stays cs
  all_stay [] t w b a = tt
  all_stay (c ∷ cs) t w b a = go (is_padding c.id) refl t (λ x. all_stay cs x w.1 b.1 a.1)
    where
      other : is_padding c.id ≡ true → (u : Bool) → is c (codes "trak") ≡ u → u ≡ false
      other e true i = let no : is_padding c.id ≡ false = rw (same_true c.id (codes "trak") i) refl in absurd cc
      other e false i = refl

      track : (u : Bool) → is c (codes "trak") ≡ u → AllByRecursion FixedTrack (cond u (record c { pad = [] } ∷ []) [] ++ flat_map track_of (solids is_padding cs))
          → (AllByRecursion FixedTrack (flat_map track_of (solids is_padding cs)) → AllByRecursion Stays cs) → AllByRecursion Stays (c ∷ cs)
      track true i t again = (stays_by c (relocated_still c (fixed_strip c t.0) w.0 b.0) a.0, again t.1)
      track false i t again = (stays_by c (relocated_other f c i) a.0, again t)

      go : (t : Bool) → is_padding c.id ≡ t → AllByRecursion FixedTrack (flat_map track_of (cond t [] (record c { pad = [] } ∷ []) ++ solids is_padding cs))
          → (AllByRecursion FixedTrack (flat_map track_of (solids is_padding cs)) → AllByRecursion Stays cs) → AllByRecursion Stays (c ∷ cs)
      go true e t again = (stays_by c (relocated_other f c (other e (is c (codes "trak")) refl)) a.0, again t)
      go false e t again = track (is c (codes "trak")) refl t again

  plain_stays : (c : Chunk) → is c (codes "trak") ≡ false → (c.pad ≡ []) × ((n : ℕ) → pad_len c.form n ≡ 0) → Stays c
  plain_stays c n p = (relocated_other f c n, p)

  fresh_stay : (items : List Chunk) → IfSome (fresh udta items) Stays
  fresh_stay [] = tt
  fresh_stay (c ∷ cs) = plain_stays (udta.fresh (c ∷ cs)) refl (refl, λ n. refl)

  meta_stays : (t : Bool) (b : List ℕ) → IfSome (cond t (Some (atom (codes "meta") b)) None) Stays
  meta_stays true b = plain_stays (atom (codes "meta") b) refl (refl, λ n. refl)
  meta_stays false b = tt

  free_stays : (body : List ℕ) → Stays (Rattle.container_model.specs.Atoms.atom (codes "free") body)
  free_stays body = (relocated_other f (Rattle.container_model.specs.Atoms.atom (codes "free") body) refl, (refl, λ n. refl))

  padded_stays : (c : Chunk) → Stays c → Stays (padded c)
  padded_stays c h =
      let none : replicate (pad_len c.form (length c.body)) 0 ≡ c.pad = rw (h.1.1 (length c.body), h.1.0) refl in
      let same : padded c ≡ c = ap (λ (x : List ℕ). record c { pad = x }) none in
      subst Stays (sym same) h

  map_stays : (cs : List Chunk) → AllByRecursion Stays cs → map (relocated f) cs ≡ cs
  map_stays [] h = refl
  map_stays (c ∷ cs) h = rw (h.0.0, map_stays cs h.1) refl

  brings_stay : (e : Changes) (cs : List Chunk) → AllByRecursion Stays cs → Brings Stays e cs
  brings_stay e cs h = record {
    users = first_all is_user Stays (λ c. Stays (edit_carrier udta user_items e.users c)) (λ c u k. plain_stays (edit_carrier udta user_items e.users c) (user_sort.no_track c u) k.1) cs h;
    new_user = λ none. fresh_stay (put_all user_items e.users []);
    keys = first_all is_meta Stays (λ c. Stays (edit_meta e.keys c)) (λ c u k. plain_stays (edit_meta e.keys c) (meta_sort.no_track c u) k.1) cs h;
    new_keys = λ none. meta_stays (sets_some e.keys) (table_bytes (with_keys e.keys new_table));
  }

  kids_stay : (m : Movie) (e : Changes) → AllByRecursion Stays (atoms_in m.movie).chunks → map (relocated f) (laid_kids m e) ≡ laid_kids m e
  kids_stay m e h =
      let cs = (atoms_in m.movie).chunks in
      let cells : AllCells Stays (carried (steps e) (map cell_of cs)) = all_carried Stays e cs h (λ all. all_chunks Stays e (atoms_now cs) all (brings_stay e (atoms_now cs) all)) in
      map_stays (laid_kids m e)
      (lay_all Stays (fill (is_open m e)) (record { on_pads = padded_stays; on_fill = λ last slot s. fill_all Stays (λ body lt. free_stays body) (is_open m e) last slot s }) shut (carried (steps e) (map cell_of cs)) tt cells)

-- the new movie is the one that was laid
pub laid_same : (o : List ℕ) (e : Changes) (bytes : IsBytes o) (sup : Readable o) → AllByRecursion (λ t. Fixed (shift (edit_cuts (movie_of o) e)) (places (tables t))) (tracks (movie_of o)) → new_movie (movie_of o) e ≡ laid_movie (movie_of o) e
laid_same o e bytes sup h =
    let m = movie_of o in
    let f = shift (edit_cuts m e) in
    let stay = all_stay f (kids o bytes sup) h (whole_kids (kids o bytes sup) sup.movie.tracks_end) (kids_bytes o bytes sup) (kids_read o bytes sup).0 in
    ap (λ (ks : List Chunk). Rattle.mov_model.specs.New.with_kids m e ks) (kids_stay f m e stay)

pub stay_law : (o : List ℕ) (e : List EditItem) → IsBytes o → Readable o → TablesStay o e → new_file o e ≡ splice o (unit_cuts (movie_of o) (changes o e))
unfolding edited_file
stay_law o e bytes sup h =
    let m = movie_of o in
    let c = changes o e in
    let same = laid_same o c bytes sup h in
    ap Rattle.mov_model.specs.Movie.spell_movie same ∙ laid_spliced m c (kids_joined o bytes sup) (moov_padless o bytes sup)
    ∙ ap (λ (n : Movie). splice (Rattle.mov_model.specs.Movie.spell_movie m) (Rattle.mov_model.specs.Cuts.header_cut m (length n.movie.body) ∷ edit_cuts m c)) (sym same)
    ∙ ap (λ (b : List ℕ). splice b (unit_cuts m c)) (file_bytes o bytes sup)

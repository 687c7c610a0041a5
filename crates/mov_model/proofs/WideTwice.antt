-- Places that are moved twice are moved once, where the first move fits the rows.
use Rattle.std.proofs.Common.{Bool, List, None, Option, Some, [], ap, arith, drop, false, length, ltb, map, refl, subst, suc, sym, take, true, zero, ℕ, ◌*◌, ◌++◌, ◌+◌, ◌<◌, ◌^◌, ◌∙◌, ◌∷◌, ◌≡◌, ◌≤◌}
use Rattle.std.specs.Prelude.{codes}
use Rattle.std.specs.List.{AllByRecursion, flat_map}
use Rattle.std.proofs.lemmas.Bool.{le-ltb}
use Rattle.std.proofs.lemmas.List.{drop_at, length-append, length-take, take_at}
use Rattle.std.proofs.lemmas.List.Concat.{flat_map-append}
use Rattle.std.specs.Int.{from_be_bytes, w32}
use Rattle.container_model.proofs.Atoms.{atoms_give_back}
use Rattle.container_model.proofs.Codec.{IsBytes}
use Rattle.container_model.proofs.Deep.{bytes_of, each_alike, kids_again, kids_bytes, mend_alike}
use Rattle.container_model.proofs.Moved.{atom_moves}
use Rattle.container_model.proofs.Rows.{be64_spells}
use Rattle.container_model.specs.Atoms.{is}
use Rattle.container_model.specs.Chunk.{Chunk, Run, spell_all}
use Rattle.container_model.specs.Deep.{Leaf, Whole, Whole_at, kids, leaves, leaves_at, mend, mend_at, with_kids}
use Rattle.container_model.specs.Rows.{be64, changed, changed_by, numbers}
use Rattle.mov_model.specs.Atoms.{Place, dinf, file, format, mdia, minf, moov, opens, stbl, trak, user_data}
use Rattle.mov_model.specs.Tables.{in_stbl, moved_leaf, relocated, tables}
use Rattle.mov_model.specs.Widen.{wide_atom, wide_table}
use Rattle.mov_model.proofs.Tables.{keeps, opens_again}
use Rattle.mov_model.proofs.Wide.{four_of}
use Rattle.mov_model.proofs.WideDeep.{Wide, all_two, body_bytes, tables_of}
use Rattle.mov_model.proofs.WideLaw.{TablesWide, fits_wide, no_stco, tables_fine}
use Rattle.mov_model.proofs.WideMovie.{wide_track_tables}
use Rattle.sample_tables.proofs.Moved.{long_rows}
use Rattle.sample_tables.specs.Tables.{FitsRows, count, is_other_offsets, is_short_table, moved_body, places, rows, with_rows}

module _ (u v : ℕ → ℕ) where
  -- both, one after the other
  abbrev pub both : ℕ → ℕ
  both p = v (u p)

  -- ---- rows

  changed_twice : (k : ℕ) (b : List ℕ) → 8 * k ≤ length b → AllByRecursion (λ p. u p < 2 ^ 64) (numbers be64 k b) → changed be64 v k (changed be64 u k b) ≡ changed be64 both k b
  changed_twice zero b le h = refl
  changed_twice (suc k) b le h =
      let step : 8 * suc k ≡ 8 + 8 * k = omega arith in
      let n = be64.put (u (be64.get (take 8 b))) in
      let x = changed be64 u k (drop 8 b) in
      let long : ltb (length b) 8 ≡ false = le-ltb _ _ (omega (arith, step)) in
      let len : length n ≡ 8 = be64_spells.put_len (u (be64.get (take 8 b))) in
      let again : changed be64 v k x ≡ changed be64 both k (drop 8 b) = changed_twice k (drop 8 b) (omega (arith, step, Rattle.std.proofs.lemmas.List.length-drop 8 b)) h.1 in
      let long2 : ltb (length (n ++ x)) 8 ≡ false = le-ltb _ _ (omega (arith, len, length-append n x)) in
      let front : be64.get (take 8 (n ++ x)) ≡ u (be64.get (take 8 b)) = ap be64.get (take_at n x 8 len) ∙ be64_spells.get_put (u (be64.get (take 8 b))) h.0 in
      let one : changed be64 u (suc k) b ≡ n ++ x = ap (changed_by be64 u b x) long in
      let two : changed be64 v (suc k) (n ++ x) ≡ be64.put (v (be64.get (take 8 (n ++ x)))) ++ changed be64 v k (drop 8 (n ++ x)) = ap (changed_by be64 v (n ++ x) (changed be64 v k (drop 8 (n ++ x)))) long2 in
      let three : changed be64 both (suc k) b ≡ be64.put (both (be64.get (take 8 b))) ++ changed be64 both k (drop 8 b) = ap (changed_by be64 both b (changed be64 both k (drop 8 b))) long in
      ap (changed be64 v (suc k)) one ∙ two ∙ ap (λ (m : ℕ). be64.put (v m) ++ changed be64 v k (drop 8 (n ++ x))) front
      ∙ ap (λ (y : List ℕ). be64.put (both (be64.get (take 8 b))) ++ changed be64 v k y) (drop_at n x 8 len)
      ∙ ap (λ (y : List ℕ). be64.put (both (be64.get (take 8 b))) ++ y) again ∙ sym three

  -- what is asked of a table that is moved twice
  pub record Twice (c : Chunk) : Type 0 where
    pub no_four : is c (codes "stco") ≡ false
    pub long : is_short_table c ≡ false
    pub fits : FitsRows u c

  rows_twice : (c : Chunk) → 8 + 8 * count c ≤ length c.body → AllByRecursion (λ p. u p < 2 ^ 64) (rows be64 c) → with_rows be64 v (record c { body = with_rows be64 u c }) ≡ with_rows be64 both c
  rows_twice c long h =
      let front = take 8 c.body in
      let k = count c in
      let x = changed be64 u k (drop 8 c.body) in
      let len : length front ≡ 8 = omega (arith, length-take 8 c.body) in
      let first : take 8 (front ++ x) ≡ front = take_at front x 8 len in
      let number : count (record c { body = front ++ x }) ≡ k = ap (from_be_bytes w32) (sym (four_of (front ++ x)) ∙ ap (λ (y : List ℕ). take 4 (drop 4 y)) first ∙ four_of c.body) in
      let behind : drop 8 (front ++ x) ≡ x = drop_at front x 8 len in
      ap (λ (y : List ℕ). y ++ changed be64 v (count (record c { body = front ++ x })) (drop 8 (front ++ x))) first
      ∙ ap (λ (n : ℕ). front ++ changed be64 v n (drop 8 (front ++ x))) number ∙ ap (λ (y : List ℕ). front ++ changed be64 v k y) behind
      ∙ ap (λ (y : List ℕ). front ++ y) (changed_twice k (drop 8 c.body) (omega (arith, long, Rattle.std.proofs.lemmas.List.length-drop 8 c.body)) h)

  body_twice : (c : Chunk) → Twice c → moved_body v (record c { body = moved_body u c }) ≡ moved_body both c
  body_twice c t = go (is c (codes "co64")) refl
    where
      go : (x : Bool) → is c (codes "co64") ≡ x → moved_body v (record c { body = moved_body u c }) ≡ moved_body both c
      go true e = let long = (long_rows c t.long).1 e in rw (t.no_four, e) (rows_twice c long (t.fits.1 e))
      go false e = rw (t.no_four, e) refl

  -- ---- leaves, and atoms in atoms

  abbrev moves : (ℕ → ℕ) → ℕ → Place → Chunk → Chunk
  moves f d p c = mend format (moved_leaf f) d p c

  leaf_twice : (p : Place) (c : Chunk) → AllByRecursion Twice (in_stbl p c) → moved_leaf v p (record c { body = moved_leaf u p c }) ≡ moved_leaf both p c
  leaf_twice stbl c h = body_twice c h.0
  leaf_twice file c h = refl
  leaf_twice user_data c h = refl
  leaf_twice moov c h = refl
  leaf_twice trak c h = refl
  leaf_twice mdia c h = refl
  leaf_twice minf c h = refl
  leaf_twice dinf c h = refl

  abbrev Tables : List (Leaf Place) → Type 0
  Tables ls = AllByRecursion (λ c. Twice c) (tables_of ls)

  each_twice : (d : ℕ) (q : Place) → ((c : Chunk) → Whole format d q c → IsBytes c.body → Tables (leaves format d q c) → moves v d q (moves u d q c) ≡ moves both d q c)
      → (cs : List Chunk) → AllByRecursion (Whole format d q) cs → AllByRecursion (λ c. IsBytes c.body) cs → Tables (flat_map (leaves format d q) cs) → map (moves v d q) (map (moves u d q) cs) ≡ map (moves both d q) cs
  each_twice d q each [] w b t = refl
  each_twice d q each (c ∷ cs) w b t =
      let x = leaves format d q c in
      let y = flat_map (leaves format d q) cs in
      let s = all_two (λ c. Twice c) (tables_of x) (tables_of y) (subst (AllByRecursion (λ c. Twice c)) (flat_map-append (λ (l : Leaf Place). in_stbl l.place l.chunk) x y) t) in
      ap (λ (e : Chunk). e ∷ map (moves v d q) (map (moves u d q) cs)) (each c w.0 b.0 s.0) ∙ ap (λ (es : List Chunk). moves both d q c ∷ es) (each_twice d q each cs w.1 b.1 s.1)

  at_twice : (d : ℕ) → ((q : Place) (c : Chunk) → Whole format d q c → IsBytes c.body → Tables (leaves format d q c) → moves v d q (moves u d q c) ≡ moves both d q c)
      → (p : Place) (c : Chunk) (o : Option Place) → Whole_at format (Whole format d) c o → IsBytes c.body → Tables (leaves_at format (leaves format d) p c o)
      → mend_at format (moved_leaf v) (moves v d) p (mend_at format (moved_leaf u) (moves u d) p c o) o ≡ mend_at format (moved_leaf both) (moves both d) p c o
  at_twice d each p c None w b t = ap (λ (x : List ℕ). record c { body = x }) (leaf_twice p c (all_two (λ c. Twice c) (in_stbl p c) [] t).0)
  at_twice d each p c (Some q) w b t =
      let k = kids format q c in
      let bs = bytes_of k.chunks k.left (kids_bytes format atoms_give_back atom_moves (moved_leaf u) (keeps u) q c b) in
      let all = each_alike format atoms_give_back atom_moves (moved_leaf u) (keeps u) (moves u d q) (Whole format d q) (λ x y z. mend_alike format atoms_give_back atom_moves (moved_leaf u) (keeps u) d q x y z) k.chunks w.2 bs in
      let e = with_kids format q c (map (moves u d q) k.chunks) in
      let r = kids_again format atoms_give_back atom_moves (moved_leaf u) (keeps u) (moves u d q) q c b w.0 w.1 all in
      ap (λ (x : Run). record c { body = spell_all (map (moves v d q) x.chunks) ++ x.left }) r.0 ∙ ap (λ (es : List Chunk). record c { body = spell_all es ++ k.left }) (each_twice d q (each q) k.chunks w.2 bs t)

  moved_twice : (d : ℕ) (p : Place) (c : Chunk) → Whole format d p c → IsBytes c.body → Tables (leaves format d p c) → moves v d p (moves u d p c) ≡ moves both d p c
  unfolding mend Whole leaves
  moved_twice zero p c w b t = ap (λ (x : List ℕ). record c { body = x }) (leaf_twice p c (all_two (λ c. Twice c) (in_stbl p c) [] t).0)
  moved_twice (suc d) p c w b t =
      let o = opens p c.id (take 4 c.body) in
      let e = mend_at format (moved_leaf u) (moves u d) p c o in
      ap (mend_at format (moved_leaf v) (moves v d) p e) (opens_again u (suc d) p c w b) ∙ at_twice d (λ q k x y z. moved_twice d q k x y z) p c o w b t

  -- ---- a track with wide tables

  tables_twice : (ts : List Chunk) → TablesWide ts → AllByRecursion (FitsRows u) (map wide_table ts) → (long : AllByRecursion (λ c. is_short_table c ≡ false) (map wide_table ts)) → AllByRecursion (λ c. Twice c) (map wide_table ts)
  tables_twice ts w f long = go ts f long
    where
      go : (ts : List Chunk) → AllByRecursion (FitsRows u) (map wide_table ts) → AllByRecursion (λ c. is_short_table c ≡ false) (map wide_table ts) → AllByRecursion (λ c. Twice c) (map wide_table ts)
      go [] f l = tt
      go (t ∷ ts) f l = (record { no_four = no_stco t; long = l.0; fits = f.0 }, go ts f.1 l.1)

  pub wide_twice : (t : Chunk) → Wide 5 moov t (wide_atom t) → AllByRecursion (λ c. is_other_offsets c ≡ false) (tables t) → AllByRecursion (λ c. is_short_table c ≡ false) (tables t)
      → AllByRecursion (λ p. u p < 2 ^ 64) (places (tables t)) → relocated v (relocated u (wide_atom t)) ≡ relocated both (wide_atom t)
  wide_twice t w other short fit =
      let tf = tables_fine (tables t) other short w.table_bytes in
      let fits = fits_wide u (tables t) (subst (AllByRecursion (λ p. u p < 2 ^ 64)) (sym tf.places_same) fit) in
      let all = tables_twice (tables t) tf fits tf.long in
      moved_twice 5 moov (wide_atom t) w.whole (body_bytes (wide_atom t) w.respelled.bytes) (subst (AllByRecursion (λ c. Twice c)) (sym (wide_track_tables t w)) all)

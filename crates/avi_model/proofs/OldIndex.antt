-- The idx1 of the new file: its base stands where the old one's does, and its entries are sound.
use Rattle.std.proofs.Common.{◌≡◌, ℕ, ◌+◌, ◌-◌, ◌%◌, ◌<◌, ◌≤◌, Bool, true, false, cond, eqb, ltb, leb, List, [], ◌∷◌, length, map, refl, sym, ap, subst, ◌∙◌, arith, inl, inr}
use Rattle.std.specs.Prelude.{◌⊎◌, ◌&&◌, ◌||◌, not}
use Rattle.std.specs.Str.{bytes_eq}
use Rattle.std.specs.Int.{w32, from_le_bytes}
use Rattle.std.specs.List.{AllByRecursion}
use Rattle.std.proofs.lemmas.Bool.{and_parts, ltb-true, leb-true, le-leb, lt-ltb, eqb-false, eqb-true, eq-eqb}
use Rattle.container_model.specs.Stood.{Stood}
use Rattle.container_model.specs.Written.{slice, Write}
use Rattle.container_model.proofs.Codec.{IsBytes}
use Rattle.container_model.proofs.Written.{Misses, slice_clear}
use Rattle.container_model.proofs.Stay.{Orders, Rigid, rigid_part}
use Rattle.part_tree.specs.declared.names.Span.{Span}
use Rattle.avi_model.specs.Avi.{Avi, avi_of, spell_avi, body_span, first_movi}
use Rattle.container_model.specs.Tables.{Table, put32}
use Rattle.opendml_index.specs.Index.{move}
use Rattle.avi_model.specs.Index.{writes, indexes, base_in, base, olds, is_head, misses, spans}
use Rattle.avi_index.specs.Rows.{Base, from_start, from_movi, base_at, base_of, old_rows, old_row, old_by, old_body, row_id, row_offset, row_length, decides}
use Rattle.part_tree.specs.Ranges.{within}
use Rattle.avi_model.specs.Support.{SoundRow, SoundRows, Supported}
use Rattle.avi_index.specs.Found.{stands_at, based_by, is_based}
use Rattle.avi_model.proofs.Numbers.{slice_put32, le32_put, old_slices}
use Rattle.avi_model.proofs.Pieces.{moved_index, moved_old, TablesMove, misses_moves, RowFits, old_rows_map, decides_moves, offset_moves, within_moves, not_true, start_at, movi_at}
use Rattle.avi_model.proofs.Among.{Among, among_all, map_among}
use Rattle.avi_model.proofs.Sound.{clear_of, clear_front}
use Rattle.avi_model.proofs.Fit.{FitsBy}
use Rattle.avi_model.proofs.Moves.{ord, moves_in, movi_holder, movi_among, first_span_is}
use Rattle.avi_model.proofs.Laid.{IsLaid}
use Rattle.avi_model.proofs.Blanked.{tables, base_same}
use Rattle.avi_model.proofs.Supports.{all_mapped, rest_of}

either : (a b : Bool) → (a || b) ≡ true → (a ≡ true) ⊎ (b ≡ true)
either true b e = inl refl
either false b e = inr e

both_or : (a b c d : Bool) → (a ≡ true → c ≡ true) → (b ≡ true → d ≡ true) → (a || b) ≡ true → (c || d) ≡ true
both_or true b c d f g e = rw (f refl) refl
both_or false b c d f g e = rw (g e) (last c)
  where
    last : (c : Bool) → (c || true) ≡ true
    last true = refl
    last false = refl

-- a place at which an index chunk begins
pub record HeadAt (ts : List Table) (p : ℕ) : Type 0 where
  pub table : Table
  pub table_among : Among table ts
  pub at_is : table.at ≡ p + 8

pub head_at : (ts : List Table) (p : ℕ) → is_head ts p ≡ true → HeadAt ts p
head_at [] p e = absurd cc
head_at (t ∷ ts) p e = go (eqb t.at (p + 8)) refl e (λ d. head_at ts p d)
  where
    go : (b : Bool) → eqb t.at (p + 8) ≡ b → (b || is_head ts p) ≡ true → (is_head ts p ≡ true → HeadAt ts p) → HeadAt (t ∷ ts) p
    go true d e again = record { table = t; table_among = inl refl; at_is = eqb-true t.at (p + 8) d }
    go false d e again = let z = again e in record { table = z.table; table_among = inr z.table_among; at_is = z.at_is }

pub is_head_at : (ts : List Table) (p : ℕ) (t : Table) → Among t ts → t.at ≡ p + 8 → is_head ts p ≡ true
is_head_at [] p t i e = absurd i
is_head_at (u ∷ ts) p t (inl q) e = let at : u.at ≡ p + 8 = ap (λ (x : Table). x.at) q ∙ e in rw (eq-eqb u.at (p + 8) at) refl
is_head_at (u ∷ ts) p t (inr i) e = go (eqb u.at (p + 8)) (is_head_at ts p t i e)
  where
    go : (b : Bool) → is_head ts p ≡ true → (b || is_head ts p) ≡ true
    go true h = refl
    go false h = h

module _ (o : List ℕ) (bytes : IsBytes o) (s : Supported o) (f : ℕ → ℕ) (Free : ℕ → Type 0) (after : Avi) (facts : IsLaid o f Free after) (fit : FitsBy after f o (spell_avi after)) where
  abbrev ws : List Write
  ws = writes (move f) o

  abbrev n : List ℕ
  n = spell_avi after

  abbrev order : Orders f Free
  order = ord o bytes s f Free after facts

  abbrev moved : Table → Table
  moved t = moved_index o (spell_avi after) f Free (ord o bytes s f Free after facts) t

  moves : TablesMove o (spell_avi after) f Free (ord o bytes s f Free after facts)
  moves = tables o bytes s f Free after facts fit

  abbrev ts : List Table
  ts = indexes o

  abbrev movi : Span
  movi = first_movi (avi_of o)

  abbrev new_movi : Span
  new_movi = record { at = f (first_movi (avi_of o)).at; len = (first_movi (avi_of o)).len }

  -- an index chunk begins where one began
  head_kept : (p : ℕ) → is_head ts p ≡ true → is_head (map moved ts) (f p) ≡ true
  head_kept p h =
      let z = head_at ts p h in
      let r = rest_of o bytes s f Free after facts fit z.table z.table_among in
      let long = r.whole.header_there in
      let same : r.head ≡ p = omega (arith, r.at_is, z.at_is) in
      let at : f z.table.at ≡ f p + 8 = ap f r.at_is ∙ (r.rigid 8 (omega (arith, long))).1 ∙ ap (λ (q : ℕ). f q + 8) same in
      is_head_at (map moved ts) (f p) (moved z.table) (map_among moved ts z.table z.table_among) at

  -- a range in the first movi
  abbrev h : Stood
  h = movi_holder o bytes s f Free after facts fit

  span_is : first_movi (avi_of o) ≡ body_span (movi_holder o bytes s f Free after facts fit)
  span_is = first_span_is o bytes s f Free after facts fit

  record InFirst (p len : ℕ) : Type 0 where
    low : h.at + 8 ≤ p
    high : p + len ≤ h.at + 8 + length h.chunk.body

  in_first : (p len : ℕ) → within movi p len ≡ true → InFirst p len
  in_first p len w =
      let x : within (body_span h) p len ≡ true = subst (λ (q : Span). within q p len ≡ true) span_is w in
      let q = and_parts (leb (h.at + 8) p) (leb (p + len) (h.at + 8 + length h.chunk.body)) x in
      record { low = leb-true (h.at + 8) p q.0; high = leb-true (p + len) (h.at + 8 + length h.chunk.body) q.1 }

  -- a range stays within it
  within_kept : (p len : ℕ) → within movi p len ≡ true → 0 < len → within new_movi (f p) len ≡ true
  within_kept p len w some =
      let q = and_parts (leb movi.at p) (leb (p + len) (movi.at + movi.len)) w in
      let low = leb-true movi.at p q.0 in
      let high = leb-true (p + len) (movi.at + movi.len) q.1 in
      let back : movi.at + (p - movi.at) ≡ p = omega arith in
      let here : f p ≡ f movi.at + (p - movi.at) = ap f (sym back) ∙ (moves.movi_rigid (p - movi.at) (omega (arith, low, high, some))).1 in
      rw (le-leb (f movi.at) (f p) (omega (arith, here)), le-leb (f p + len) (f movi.at + movi.len) (omega (arith, here, low, high))) refl

  misses_kept : (p len : ℕ) → 0 < len → Rigid f Free p len → misses ts p len ≡ true → misses (map moved ts) (f p) len ≡ true
  misses_kept p len some r m = misses_moves o n f Free order ts p len moves.indexes_rest some r ∙ m

  -- an identifier stands where it stood
  stands_kept : (r q : List ℕ) (p : ℕ) → row_id q ≡ row_id r → InFirst p 4 → stands_at o (spans ts) r p ≡ true → stands_at n (spans (map moved ts)) q (f p) ≡ true
  stands_kept r q p id w st =
      let parts = and_parts (bytes_eq (slice o p 4) (row_id r)) (is_head ts p || misses ts p 4) st in
      let m = moves_in o bytes s f Free after facts h (movi_among o bytes s f Free after facts fit) p 4 w.low w.high (omega arith) in
      let clear : AllByRecursion (Misses p 4) ws = go (either (is_head ts p) (misses ts p 4) parts.1) in
      let same : slice n (f p) 4 ≡ slice o p 4 = m.same ∙ slice_clear ws o p 4 clear in
      let one : bytes_eq (slice n (f p) 4) (row_id q) ≡ true = ap (λ (x : List ℕ). bytes_eq x (row_id q)) same ∙ ap (bytes_eq (slice o p 4)) id ∙ parts.0 in
      rw one (both_or (is_head ts p) (misses ts p 4) (is_head (map moved ts) (f p)) (misses (map moved ts) (f p) 4) (head_kept p) (misses_kept p 4 (omega arith) m.rigid) parts.1)
    where
      go : (is_head ts p ≡ true) ⊎ (misses ts p 4 ≡ true) → AllByRecursion (Misses p 4) ws
      go (inl d) = let z = head_at ts p d in clear_front o bytes s (move f) h (movi_among o bytes s f Free after facts fit) z.table z.table_among p 4 z.at_is (omega arith) w.low w.high
      go (inr d) = clear_of o bytes s (move f) h (movi_among o bytes s f Free after facts fit) p 4 w.low w.high d

  -- ---- the base

  start_based : (rs : List (List ℕ)) → AllByRecursion (RowFits o n f Free order from_start) rs → AllByRecursion (λ r. eqb (row_length r) 0 ≡ false → SoundRow movi ts r) rs → base_of movi.at rs ≡ from_start → is_based o (spans ts) movi rs ≡ true → is_based n (spans (map moved ts)) new_movi (map (old_row f from_start) rs) ≡ true
  start_based [] fits g b k = refl
  start_based (r ∷ rs) fits g b k =
      ap (λ (d : Bool). cond d (based_by n (spans (map moved ts)) new_movi (old_row f from_start r) (ltb (row_offset (old_row f from_start r)) (f movi.at))) (is_based n (spans (map moved ts)) new_movi (map (old_row f from_start) rs))) (decides_moves o n f Free order from_start r)
      ∙ go (decides r) refl b k (start_based rs fits.1 g.1)
    where
      one : decides r ≡ true → base_at (ltb (row_offset r) movi.at) ≡ from_start → based_by o (spans ts) movi r (ltb (row_offset r) movi.at) ≡ true → based_by n (spans (map moved ts)) new_movi (old_row f from_start r) (ltb (row_offset (old_row f from_start r)) (f movi.at)) ≡ true
      one d b k =
          let p = and_parts (not (eqb (row_length r) 0)) (eqb (Rattle.avi_index.specs.Rows.row_flags r % 2) 0) d in
          let c : eqb (row_length r) 0 ≡ false = not_true o n f Free order (eqb (row_length r) 0) p.0 in
          let far = start_at o n f Free order (ltb (row_offset r) movi.at) b in
          let some : 0 < row_length r = omega (arith, eqb-false (row_length r) 0 c) in
          let sound = g.0 c in
          let w = in_first (row_offset r) (8 + row_length r) sound.lies in
          let fit_r = fits.0 c in
          let q = put32 8 (f (row_offset r)) r in
          let is : old_row f from_start r ≡ q = ap (old_by f r from_start) c in
          let num : row_offset q ≡ f (row_offset r) = le32_put 8 (f (row_offset r)) r fit_r.0 fit_r.1 in
          let id : row_id q ≡ row_id r = slice_put32 8 (f (row_offset r)) r 0 4 (inr (omega arith)) in
          let stands : stands_at o (spans ts) r (row_offset r) ≡ true = subst (λ (t : Bool). based_by o (spans ts) movi r t ≡ true) far k in
          let low = w.low in
          let high = w.high in
          let kept = stands_kept r q (row_offset r) id (record { low = low; high = omega (arith, high) }) stands in
          ap (based_by n (spans (map moved ts)) new_movi (old_row f from_start r)) (offset_moves o n f Free order movi.at moves.movi_ok r fits.0 c ∙ far)
          ∙ ap (λ (x : List ℕ). stands_at n (spans (map moved ts)) x (row_offset x)) is ∙ ap (stands_at n (spans (map moved ts)) q) num ∙ kept

      go : (d : Bool) → decides r ≡ d → cond d (base_at (ltb (row_offset r) movi.at)) (base_of movi.at rs) ≡ from_start → cond d (based_by o (spans ts) movi r (ltb (row_offset r) movi.at)) (is_based o (spans ts) movi rs) ≡ true
          → (base_of movi.at rs ≡ from_start → is_based o (spans ts) movi rs ≡ true → is_based n (spans (map moved ts)) new_movi (map (old_row f from_start) rs) ≡ true)
          → cond d (based_by n (spans (map moved ts)) new_movi (old_row f from_start r) (ltb (row_offset (old_row f from_start r)) (f movi.at))) (is_based n (spans (map moved ts)) new_movi (map (old_row f from_start) rs)) ≡ true
      go true d b k again = one d b k
      go false d b k again = again b k

  movi_based : (rs : List (List ℕ)) → base_of movi.at rs ≡ from_movi → is_based o (spans ts) movi rs ≡ true → is_based n (spans (map moved ts)) new_movi (map (old_row f from_movi) rs) ≡ true
  movi_based [] b k = refl
  movi_based (r ∷ rs) b k = go (decides r) b k (movi_based rs)
    where
      one : base_at (ltb (row_offset r) movi.at) ≡ from_movi → based_by o (spans ts) movi r (ltb (row_offset r) movi.at) ≡ true → based_by n (spans (map moved ts)) new_movi r (ltb (row_offset r) (f movi.at)) ≡ true
      one b k =
          let near = movi_at o n f Free order (ltb (row_offset r) movi.at) b in
          let less = ltb-true (row_offset r) movi.at near in
          let old : (within movi (movi.at + row_offset r) 4 && stands_at o (spans ts) r (movi.at + row_offset r)) ≡ true = subst (λ (t : Bool). based_by o (spans ts) movi r t ≡ true) near k in
          let p = and_parts (within movi (movi.at + row_offset r) 4) (stands_at o (spans ts) r (movi.at + row_offset r)) old in
          let w = in_first (movi.at + row_offset r) 4 p.0 in
          let q = and_parts (leb movi.at (movi.at + row_offset r)) (leb ((movi.at + row_offset r) + 4) (movi.at + movi.len)) p.0 in
          let high = leb-true ((movi.at + row_offset r) + 4) (movi.at + movi.len) q.1 in
          let here : f (movi.at + row_offset r) ≡ f movi.at + row_offset r = (moves.movi_rigid (row_offset r) (omega (arith, high))).1 in
          let still_near : ltb (row_offset r) (f movi.at) ≡ true = lt-ltb (row_offset r) (f movi.at) (omega (arith, less, moves.movi_grows)) in
          let inside : within new_movi (f movi.at + row_offset r) 4 ≡ true = within_moves o n f Free order movi.at (f movi.at) movi.len (row_offset r) 4 ∙ p.0 in
          let stands : stands_at n (spans (map moved ts)) r (f movi.at + row_offset r) ≡ true = ap (stands_at n (spans (map moved ts)) r) (sym here) ∙ stands_kept r r (movi.at + row_offset r) refl w p.1 in
          ap (based_by n (spans (map moved ts)) new_movi r) still_near ∙ rw (inside, stands) refl

      go : (d : Bool) → cond d (base_at (ltb (row_offset r) movi.at)) (base_of movi.at rs) ≡ from_movi → cond d (based_by o (spans ts) movi r (ltb (row_offset r) movi.at)) (is_based o (spans ts) movi rs) ≡ true
          → (base_of movi.at rs ≡ from_movi → is_based o (spans ts) movi rs ≡ true → is_based n (spans (map moved ts)) new_movi (map (old_row f from_movi) rs) ≡ true)
          → cond d (based_by n (spans (map moved ts)) new_movi r (ltb (row_offset r) (f movi.at))) (is_based n (spans (map moved ts)) new_movi (map (old_row f from_movi) rs)) ≡ true
      go true b k again = one b k
      go false b k again = again b k

  base_rows : (us : List Table) (t : Table) → us ≡ olds o → Among t us → base_of movi.at (old_rows t.body) ≡ base o
  base_rows us t e i = go us e i
    where
      -- there is one idx1
      go : (us : List Table) → us ≡ olds o → Among t us → base_of movi.at (old_rows t.body) ≡ base o
      go [] e i = absurd i
      go (u ∷ []) e (inl q) = ap (λ (x : Table). base_of movi.at (old_rows x.body)) (sym q) ∙ ap (base_in movi.at) e
      go (u ∷ []) e (inr i) = absurd i
      go (u ∷ v ∷ us) e i = absurd (Rattle.avi_model.proofs.OldOne.one_old (Rattle.avi_model.specs.Avi.top (avi_of o)) u v us e)

  pub new_based : AllByRecursion (λ t. is_based n (spans (indexes n)) (first_movi (avi_of n)) (old_rows t.body) ≡ true) (olds n)
  new_based =
      subst (λ (us : List Table). AllByRecursion (λ t. is_based n (spans (indexes n)) (first_movi (avi_of n)) (old_rows t.body) ≡ true) us) (sym moves.olds_move)
      (all_mapped (λ t. is_based n (spans (indexes n)) (first_movi (avi_of n)) (old_rows t.body) ≡ true) (moved_old o n f Free order (base o)) (olds o) one)
    where
      by : (b : Base) (t : Table) → base_of movi.at (old_rows t.body) ≡ b → AllByRecursion (RowFits o n f Free order b) (old_rows t.body) → SoundRows b movi ts t → is_based o (spans ts) movi (old_rows t.body) ≡ true → is_based n (spans (map moved ts)) new_movi (map (old_row f b) (old_rows t.body)) ≡ true
      by from_start t e fits g k = start_based (old_rows t.body) fits g e k
      by from_movi t e fits g k = movi_based (old_rows t.body) e k

      one : (t : Table) → Among t (olds o) → is_based n (spans (indexes n)) (first_movi (avi_of n)) (old_rows (old_body f (base o) t.body)) ≡ true
      one t i =
          ap (λ (us : List Table). is_based n (spans us) (first_movi (avi_of n)) (old_rows (old_body f (base o) t.body))) moves.indexes_move
          ∙ ap (λ (x : Span). is_based n (spans (map moved ts)) x (old_rows (old_body f (base o) t.body))) moves.movi_moves
          ∙ ap (is_based n (spans (map moved ts)) new_movi) (old_rows_map (move f) (base o) t.body)
          ∙ by (base o) t (base_rows (olds o) t refl i) (among_all (λ t. AllByRecursion (RowFits o n f Free order (base o)) (old_rows t.body)) (olds o) moves.rows_fit t i) (among_all (SoundRows (base o) movi ts) (olds o) s.rows_sound t i)
          (among_all (λ t. is_based o (spans ts) movi (old_rows t.body) ≡ true) (olds o) s.based t i)

  -- ---- the rows

  pub new_rows_sound : AllByRecursion (SoundRows (base n) (first_movi (avi_of n)) (indexes n)) (olds n)
  new_rows_sound =
      subst (λ (b : Base). AllByRecursion (SoundRows b (first_movi (avi_of n)) (indexes n)) (olds n)) (sym (base_same o bytes s f Free after facts fit))
      (subst (λ (us : List Table). AllByRecursion (SoundRows (base o) (first_movi (avi_of n)) (indexes n)) us) (sym moves.olds_move)
      (subst (λ (us : List Table). AllByRecursion (SoundRows (base o) (first_movi (avi_of n)) us) (map (moved_old o n f Free order (base o)) (olds o))) (sym moves.indexes_move)
      (subst (λ (x : Span). AllByRecursion (SoundRows (base o) x (map moved ts)) (map (moved_old o n f Free order (base o)) (olds o))) (sym moves.movi_moves)
      (all_mapped (SoundRows (base o) new_movi (map moved ts)) (moved_old o n f Free order (base o)) (olds o) one))))
    where
      row : (r : List ℕ) → RowFits o n f Free order from_start r → (eqb (row_length r) 0 ≡ false → SoundRow movi ts r) → eqb (row_length (old_row f from_start r)) 0 ≡ false → SoundRow new_movi (map moved ts) (old_row f from_start r)
      row r fits g c2 =
          let len : row_length (old_row f from_start r) ≡ row_length r = ap (from_le_bytes w32) (old_slices (move f) from_start r 12 4 (inl (omega arith))) in
          let c : eqb (row_length r) 0 ≡ false = ap (λ (k : ℕ). eqb k 0) (sym len) ∙ c2 in
          let some : 0 < row_length r = omega (arith, eqb-false (row_length r) 0 c) in
          let q = g c in
          let k = fits c in
          let is : old_row f from_start r ≡ put32 8 (f (row_offset r)) r = ap (old_by f r from_start) c in
          let num : row_offset (old_row f from_start r) ≡ f (row_offset r) = ap row_offset is ∙ le32_put 8 (f (row_offset r)) r k.0 k.1 in
          let eight = k.2 8 (omega (arith, some)) in
          let inside : within new_movi (row_offset (old_row f from_start r)) (8 + row_length (old_row f from_start r)) ≡ true
          = ap (λ (p : ℕ). within new_movi p (8 + row_length (old_row f from_start r))) num ∙ ap (λ (p : ℕ). within new_movi (f (row_offset r)) (8 + p)) len ∙ within_kept (row_offset r) (8 + row_length r) q.lies (omega arith) in
          let part : Rigid f Free (row_offset r + 8) (row_length r) = rigid_part f Free (row_offset r) (8 + row_length r) 8 (row_length r) (omega arith) (omega (arith, some)) k.2 in
          let clear : (is_head (map moved ts) (f (row_offset r)) || misses (map moved ts) (f (row_offset r) + 8) (row_length r)) ≡ true
          = both_or (is_head ts (row_offset r)) (misses ts (row_offset r + 8) (row_length r)) (is_head (map moved ts) (f (row_offset r))) (misses (map moved ts) (f (row_offset r) + 8) (row_length r)) (head_kept (row_offset r))
          (λ m. ap (λ (p : ℕ). misses (map moved ts) p (row_length r)) (sym eight.1) ∙ misses_kept (row_offset r + 8) (row_length r) some part m) q.clear in
          record {
            lies = inside;
            clear = ap (λ (p : ℕ). is_head (map moved ts) p || misses (map moved ts) (p + 8) (row_length (old_row f from_start r))) num ∙ ap (λ (p : ℕ). is_head (map moved ts) (f (row_offset r)) || misses (map moved ts) (f (row_offset r) + 8) p) len ∙ clear;
          }

      by : (b : Base) (t : Table) → AllByRecursion (RowFits o n f Free order b) (old_rows t.body) → SoundRows b movi ts t → SoundRows b new_movi (map moved ts) (moved_old o n f Free order b t)
      by from_movi t fits g = tt
      by from_start t fits g =
          subst (λ (rs : List (List ℕ)). AllByRecursion (λ r. eqb (row_length r) 0 ≡ false → SoundRow new_movi (map moved ts) r) rs) (sym (old_rows_map (move f) from_start t.body))
          (all_mapped (λ r. eqb (row_length r) 0 ≡ false → SoundRow new_movi (map moved ts) r) (old_row f from_start) (old_rows t.body)
          (λ r j. row r (among_all (RowFits o n f Free order from_start) (old_rows t.body) fits r j) (among_all (λ r. eqb (row_length r) 0 ≡ false → SoundRow movi ts r) (old_rows t.body) g r j)))

      one : (t : Table) → Among t (olds o) → SoundRows (base o) new_movi (map moved ts) (moved_old o n f Free order (base o) t)
      one t i = by (base o) t (among_all (λ t. AllByRecursion (RowFits o n f Free order (base o)) (old_rows t.body)) (olds o) moves.rows_fit t i) (among_all (SoundRows (base o) movi ts) (olds o) s.rows_sound t i)

-- A table with its places changed: the same table, but for the places, and these are the changed ones.
use Rattle.std.proofs.Common.{Bool, List, [], ap, arith, drop, false, length, ltb, map, refl, sym, take, true, ℕ, ◌*◌, ◌++◌, ◌+◌, ◌<◌, ◌^◌, ◌∙◌, ◌∷◌, ◌≡◌, ◌≤◌}
use Rattle.std.specs.Prelude.{codes}
use Rattle.std.proofs.lemmas.Bool.{ltb-false, ltb-true}
use Rattle.std.proofs.lemmas.List.{append-nil, drop-drop, drop_all, drop_at, length-append, length-drop, length-take, take-append-drop, take_all, take_at}
use Rattle.std.specs.Int.{from_be_bytes, w32}
use Rattle.std.specs.List.{AllByRecursion, flat_map}
use Rattle.container_model.proofs.Codec.{IsBytes, IsBytes-drop}
use Rattle.container_model.proofs.Items.{same_true}
use Rattle.container_model.proofs.Rows.{Spells, be32_spells, be64_spells, changed_behind, changed_len, changed_none, changed_numbers}
use Rattle.container_model.specs.Atoms.{is}
use Rattle.container_model.specs.Chunk.{Chunk}
use Rattle.container_model.specs.Rows.{Width, be32, be64, changed}
use Rattle.sample_tables.specs.Samples.{runs_in, samples, sizes_in}
use Rattle.sample_tables.specs.Tables.{FitsRows, blank_rows, count, is_other_offsets, is_short_table, look_table, moved_body, moved_table, need, places, places_in, rows, with_rows}

module _ (w : Width) (bound : ℕ) (sp : Spells w bound) (f : ℕ → ℕ) where
  -- ---- a table

  rows_len : (c : Chunk) → length (with_rows w f c) ≡ length c.body
  rows_len c = omega (arith, length-append (take 8 c.body) (changed w f (count c) (drop 8 c.body)), changed_len w bound sp f (count c) (drop 8 c.body), length-take 8 c.body, length-drop 8 c.body)

  front_same : (c : Chunk) → take 8 (with_rows w f c) ≡ take 8 c.body
  front_same c = go (ltb (length c.body) 8) refl
    where
      go : (t : Bool) → ltb (length c.body) 8 ≡ t → take 8 (with_rows w f c) ≡ take 8 c.body
      go true e =
          let lt = ltb-true _ _ e in
          let nil : length (changed w f (count c) (drop 8 c.body)) ≡ 0 = omega (arith, changed_len w bound sp f (count c) (drop 8 c.body), length-drop 8 c.body) in
          let none : changed w f (count c) (drop 8 c.body) ≡ [] = Rattle.std.proofs.lemmas.List.nil_from_length _ nil in
          rw (none, append-nil (take 8 c.body), take_all 8 c.body (omega arith)) (take_all 8 c.body (omega arith))
      go false e = take_at (take 8 c.body) (changed w f (count c) (drop 8 c.body)) 8 (omega (arith, ltb-false _ _ e, length-take 8 c.body))

  behind_same : (c : Chunk) → drop 8 (with_rows w f c) ≡ changed w f (count c) (drop 8 c.body)
  behind_same c = go (ltb (length c.body) 8) refl
    where
      go : (t : Bool) → ltb (length c.body) 8 ≡ t → drop 8 (with_rows w f c) ≡ changed w f (count c) (drop 8 c.body)
      go true e =
          let lt = ltb-true _ _ e in
          let nil : length (changed w f (count c) (drop 8 c.body)) ≡ 0 = omega (arith, changed_len w bound sp f (count c) (drop 8 c.body), length-drop 8 c.body) in
          let none : changed w f (count c) (drop 8 c.body) ≡ [] = Rattle.std.proofs.lemmas.List.nil_from_length _ nil in
          drop_all 8 (with_rows w f c) (omega (arith, rows_len c)) ∙ sym none
      go false e = drop_at (take 8 c.body) (changed w f (count c) (drop 8 c.body)) 8 (omega (arith, ltb-false _ _ e, length-take 8 c.body))

  number_of : List ℕ → ℕ
  number_of b = from_be_bytes w32 (take 4 (drop 4 b))

  take_drop : (b : List ℕ) → take 4 (drop 4 (take 8 b)) ≡ take 4 (drop 4 b)
  take_drop [] = refl
  take_drop (a ∷ []) = refl
  take_drop (a ∷ (b ∷ [])) = refl
  take_drop (a ∷ (b ∷ (c ∷ []))) = refl
  take_drop (a ∷ (b ∷ (c ∷ (d ∷ [])))) = refl
  take_drop (a ∷ (b ∷ (c ∷ (d ∷ (e ∷ []))))) = refl
  take_drop (a ∷ (b ∷ (c ∷ (d ∷ (e ∷ (g ∷ [])))))) = refl
  take_drop (a ∷ (b ∷ (c ∷ (d ∷ (e ∷ (g ∷ (h ∷ []))))))) = refl
  take_drop (a ∷ (b ∷ (c ∷ (d ∷ (e ∷ (g ∷ (h ∷ (i ∷ x)))))))) = refl

  count_same : (c : Chunk) → count (record c { body = with_rows w f c }) ≡ count c
  count_same c = ap (from_be_bytes w32) (sym (take_drop (with_rows w f c)) ∙ ap (λ (x : List ℕ). take 4 (drop 4 x)) (front_same c) ∙ take_drop c.body)

  rows_changed : (c : Chunk) → 8 + w.bytes * count c ≤ length c.body → AllByRecursion (λ p. f p < bound) (rows w c) → rows w (record c { body = with_rows w f c }) ≡ map f (rows w c)
  rows_changed c long h =
      rw (count_same c, behind_same c) (changed_numbers w bound sp f (count c) (drop 8 c.body) (omega (arith, length-drop 8 c.body)) h)

  -- the rows are not looked at
  blank_same : (c : Chunk) → blank_rows w (record c { body = with_rows w f c }) ≡ blank_rows w c
  blank_same c =
      let n = w.bytes * count c in
      let tail : drop (8 + n) (with_rows w f c) ≡ drop (8 + n) c.body = sym (drop-drop n 8 (with_rows w f c)) ∙ ap (drop n) (behind_same c) ∙ changed_behind w bound sp f (count c) (drop 8 c.body) ∙ drop-drop n 8 c.body in
      rw (count_same c, front_same c, tail) refl

module _ (w : Width) (bound : ℕ) (sp : Spells w bound) (f : ℕ → ℕ) (copied : (p : ℕ) → f p ≡ p) where
  rows_none : (c : Chunk) → IsBytes c.body → with_rows w f c ≡ c.body
  rows_none c bytes = ap (λ (x : List ℕ). take 8 c.body ++ x) (changed_none w bound sp f copied (count c) (drop 8 c.body) (IsBytes-drop 8 c.body bytes)) ∙ take-append-drop 8 c.body

-- ---- tables, by their identifiers

-- a table of chunk places that is as long as its rows
abbrev pub LongRows : Chunk → Type 0
LongRows c = (is c (codes "stco") ≡ true → 8 + 4 * count c ≤ length c.body) × (is c (codes "co64") ≡ true → 8 + 8 * count c ≤ length c.body)

pub long_rows : (c : Chunk) → is_short_table c ≡ false → LongRows c
long_rows c h = (λ e. rw e at (ltb-false _ _ h), λ e. wide e)
  where
    wide : is c (codes "co64") ≡ true → 8 + 8 * count c ≤ length c.body
    wide e = let no : is c (codes "stco") ≡ false = rw (same_true c.id (codes "co64") e) refl in rw (no, e) at (ltb-false _ _ h)

pub all_long : (ts : List Chunk) → AllByRecursion (λ c. is_short_table c ≡ false) ts → AllByRecursion LongRows ts
all_long [] h = tt
all_long (c ∷ ts) h = (long_rows c h.0, all_long ts h.1)

-- a table of 32-bit places, of 64-bit places, or another
data Kind (c : Chunk) : Type 0 where
  is_stco : c.id ≡ codes "stco" → Kind c
  is_co64 : c.id ≡ codes "co64" → Kind c
  is_other : is c (codes "stco") ≡ false → is c (codes "co64") ≡ false → Kind c

kind : (c : Chunk) → Kind c
kind c = go (is c (codes "stco")) (is c (codes "co64")) refl refl
  where
    go : (t u : Bool) → is c (codes "stco") ≡ t → is c (codes "co64") ≡ u → Kind c
    go true u e i = is_stco (same_true c.id (codes "stco") e)
    go false true e i = is_co64 (same_true c.id (codes "co64") i)
    go false false e i = is_other e i

module _ (f : ℕ → ℕ) where
  body_four : (c : Chunk) → c.id ≡ codes "stco" → moved_body f c ≡ with_rows be32 f c
  body_four c e = rw e refl

  body_eight : (c : Chunk) → c.id ≡ codes "co64" → moved_body f c ≡ with_rows be64 f c
  body_eight c e = rw e refl

  body_other : (c : Chunk) → is c (codes "stco") ≡ false → is c (codes "co64") ≡ false → moved_body f c ≡ c.body
  body_other c e i = rw (e, i) refl

  pub body_len : (c : Chunk) → length (moved_body f c) ≡ length c.body
  body_len c = go (kind c)
    where
      go : Kind c → length (moved_body f c) ≡ length c.body
      go (is_stco e) = rw (body_four c e) (rows_len be32 (2 ^ 32) be32_spells f c)
      go (is_co64 e) = rw (body_eight c e) (rows_len be64 (2 ^ 64) be64_spells f c)
      go (is_other e i) = rw (body_other c e i) refl

  pub look_same : (c : Chunk) → look_table (moved_table f c) ≡ look_table c
  look_same c = go (kind c)
    where
      go : Kind c → look_table (moved_table f c) ≡ look_table c
      go (is_stco e) = rw (body_four c e, e) (blank_same be32 (2 ^ 32) be32_spells f c)
      go (is_co64 e) = rw (body_eight c e, e) (blank_same be64 (2 ^ 64) be64_spells f c)
      go (is_other e i) = rw (body_other c e i) refl

  moved_places : (c : Chunk) → LongRows c → FitsRows f c → places_in (moved_table f c) ≡ map f (places_in c)
  moved_places c long fits = go (kind c)
    where
      go : Kind c → places_in (moved_table f c) ≡ map f (places_in c)
      go (is_stco e) = let yes : is c (codes "stco") ≡ true = rw e refl in rw (body_four c e, e) (rows_changed be32 (2 ^ 32) be32_spells f c (long.0 yes) (fits.0 yes))
      go (is_co64 e) = let yes : is c (codes "co64") ≡ true = rw e refl in rw (body_eight c e, e) (rows_changed be64 (2 ^ 64) be64_spells f c (long.1 yes) (fits.1 yes))
      go (is_other e i) = rw (e, i) refl

  map-numbers : (a b : List ℕ) → map f (a ++ b) ≡ map f a ++ map f b
  map-numbers [] b = refl
  map-numbers (x ∷ a) b = ap (λ (y : List ℕ). f x ∷ y) (map-numbers a b)

  pub places_moved : (ts : List Chunk) → AllByRecursion LongRows ts → AllByRecursion (FitsRows f) ts → places (map (moved_table f) ts) ≡ map f (places ts)
  places_moved [] l h = refl
  places_moved (c ∷ ts) l h = rw (moved_places c l.0 h.0, places_moved ts l.1 h.1) (sym (map-numbers (places_in c) (places ts)))

  runs_same : (c : Chunk) → runs_in (moved_table f c) ≡ runs_in c
  runs_same c = go (kind c)
    where
      go : Kind c → runs_in (moved_table f c) ≡ runs_in c
      go (is_stco e) = rw e refl
      go (is_co64 e) = rw e refl
      go (is_other e i) = rw (body_other c e i) refl

  sizes_same : (c : Chunk) → sizes_in (moved_table f c) ≡ sizes_in c
  sizes_same c = go (kind c)
    where
      go : Kind c → sizes_in (moved_table f c) ≡ sizes_in c
      go (is_stco e) = rw e refl
      go (is_co64 e) = rw e refl
      go (is_other e i) = rw (body_other c e i) refl

  runs_all : (ts : List Chunk) → flat_map runs_in (map (moved_table f) ts) ≡ flat_map runs_in ts
  runs_all [] = refl
  runs_all (c ∷ ts) = rw (runs_same c, runs_all ts) refl

  sizes_all : (ts : List Chunk) → flat_map sizes_in (map (moved_table f) ts) ≡ flat_map sizes_in ts
  sizes_all [] = refl
  sizes_all (c ∷ ts) = rw (sizes_same c, sizes_all ts) refl

  -- the samples are told by the same tables
  pub samples_moved : (ts : List Chunk) (tails : List (List ℕ)) → samples (map (moved_table f) ts) tails ≡ samples ts tails
  samples_moved ts tails = rw (runs_all ts, sizes_all ts) refl

  moved_count : (c : Chunk) → count (moved_table f c) ≡ count c
  moved_count c = go (kind c)
    where
      go : Kind c → count (moved_table f c) ≡ count c
      go (is_stco e) = ap (λ (b : List ℕ). count (record c { body = b })) (body_four c e) ∙ count_same be32 (2 ^ 32) be32_spells f c
      go (is_co64 e) = ap (λ (b : List ℕ). count (record c { body = b })) (body_eight c e) ∙ count_same be64 (2 ^ 64) be64_spells f c
      go (is_other e i) = ap (λ (b : List ℕ). count (record c { body = b })) (body_other c e i)

  moved_other : (c : Chunk) → is c (codes "stco") ≡ false → is c (codes "co64") ≡ false → moved_table f c ≡ c
  moved_other c e i = ap (λ (b : List ℕ). record c { body = b }) (body_other c e i)

  need_four : (c : Chunk) → c.id ≡ codes "stco" → need c ≡ 8 + 4 * count c
  need_four c e = rw e refl

  need_eight : (c : Chunk) → c.id ≡ codes "co64" → need c ≡ 8 + 8 * count c
  need_eight c e = rw e refl

  need_moved : (c : Chunk) → need (moved_table f c) ≡ need c
  need_moved c = go (kind c)
    where
      go : Kind c → need (moved_table f c) ≡ need c
      go (is_stco e) = need_four (moved_table f c) e ∙ ap (λ (k : ℕ). 8 + 4 * k) (moved_count c) ∙ sym (need_four c e)
      go (is_co64 e) = need_eight (moved_table f c) e ∙ ap (λ (k : ℕ). 8 + 8 * k) (moved_count c) ∙ sym (need_eight c e)
      go (is_other e i) = ap need (moved_other c e i)

  short_moved : (c : Chunk) → is_short_table (moved_table f c) ≡ is_short_table c
  short_moved c = rw (need_moved c, body_len c) refl

  pub short_all : (ts : List Chunk) → AllByRecursion (λ c. is_short_table c ≡ false) ts → AllByRecursion (λ c. is_short_table c ≡ false) (map (moved_table f) ts)
  short_all [] h = tt
  short_all (c ∷ ts) h = (short_moved c ∙ h.0, short_all ts h.1)

  pub others_all : (ts : List Chunk) → AllByRecursion (λ c. is_other_offsets c ≡ false) ts → AllByRecursion (λ c. is_other_offsets c ≡ false) (map (moved_table f) ts)
  others_all [] h = tt
  others_all (c ∷ ts) h = (h.0, others_all ts h.1)

  pub ids_moved : (ts : List Chunk) → map (λ (c : Chunk). c.id) (map (moved_table f) ts) ≡ map (λ (c : Chunk). c.id) ts
  ids_moved [] = refl
  ids_moved (c ∷ ts) = ap (λ (x : List (List ℕ)). c.id ∷ x) (ids_moved ts)

  -- ---- where no place changes

  module _ (copied : (p : ℕ) → f p ≡ p) where
    pub body_none : (c : Chunk) → IsBytes c.body → moved_body f c ≡ c.body
    body_none c bytes = go (kind c)
      where
        go : Kind c → moved_body f c ≡ c.body
        go (is_stco e) = body_four c e ∙ rows_none be32 (2 ^ 32) be32_spells f copied c bytes
        go (is_co64 e) = body_eight c e ∙ rows_none be64 (2 ^ 64) be64_spells f copied c bytes
        go (is_other e i) = body_other c e i

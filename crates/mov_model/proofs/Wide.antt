-- A table made wide: the same places, and the same bytes before and behind them.
use Rattle.std.proofs.Common.{◌≡◌, ℕ, zero, suc, ◌+◌, ◌*◌, ◌^◌, ◌<◌, ◌≤◌, Bool, true, false, cond, List, [], ◌∷◌, ◌++◌, length, replicate, take, drop, refl, sym, ap, subst, ◌∙◌, arith, inl, inr}
use Rattle.std.specs.Prelude.{codes, ◌⊎◌}
use Rattle.std.specs.Int.{from_be_bytes, to_be_bytes, w32, w64}
use Rattle.std.specs.List.{AllByRecursion}
use Rattle.std.proofs.lemmas.Bool.{le-ltb}
use Rattle.std.proofs.lemmas.List.{length-append, length-take, length-drop, length-replicate, take_at, drop_at, drop-drop}
use Rattle.std.proofs.lemmas.Nat.{from_be_bytes-to_be_bytes_8}
use Rattle.container_model.proofs.Codec.{IsBytes, IsBytes-drop}
use Rattle.container_model.proofs.Fronts.{IsBytes-take}
use Rattle.container_model.proofs.Items.{same_true}
use Rattle.container_model.specs.Atoms.{is}
use Rattle.container_model.specs.Chunk.{Chunk}
use Rattle.container_model.specs.Rows.{be32, be64, numbers, spelled}
use Rattle.container_model.specs.Deep.{leaf}
use Rattle.mov_model.specs.Atoms.{stbl}
use Rattle.mov_model.specs.Widen.{wide_body, wide_table, wide_token, wide_zeros}
use Rattle.sample_tables.proofs.Moved.{long_rows}
use Rattle.sample_tables.specs.Samples.{runs_in, sizes_in}
use Rattle.sample_tables.specs.Tables.{blank_rows, count, is_short_table, look_table, places_in, rows}

pub join : (a b : List ℕ) → IsBytes a → IsBytes b → IsBytes (a ++ b)
join [] b ha hb i = hb i
join (x ∷ a) b ha hb zero = ha 0
join (x ∷ a) b ha hb (suc i) = join a b (λ j. ha (suc j)) hb i

pub none_bytes : IsBytes []
none_bytes zero = omega arith
none_bytes (suc i) = omega arith

pub four_bytes : (n : ℕ) → IsBytes (to_be_bytes w32 n)
four_bytes n zero = omega arith
four_bytes n (suc zero) = omega arith
four_bytes n (suc (suc zero)) = omega arith
four_bytes n (suc (suc (suc zero))) = omega arith
four_bytes n (suc (suc (suc (suc i)))) = none_bytes i

pub eight_bytes : (n : ℕ) → IsBytes (to_be_bytes w64 n)
eight_bytes n zero = omega arith
eight_bytes n (suc zero) = omega arith
eight_bytes n (suc (suc zero)) = omega arith
eight_bytes n (suc (suc (suc zero))) = omega arith
eight_bytes n (suc (suc (suc (suc zero)))) = omega arith
eight_bytes n (suc (suc (suc (suc (suc zero))))) = omega arith
eight_bytes n (suc (suc (suc (suc (suc (suc zero)))))) = omega arith
eight_bytes n (suc (suc (suc (suc (suc (suc (suc zero))))))) = omega arith
eight_bytes n (suc (suc (suc (suc (suc (suc (suc (suc i)))))))) = none_bytes i

-- ---- numbers in eight bytes

spelled_bytes : (ns : List ℕ) → IsBytes (spelled be64 ns)
spelled_bytes [] = none_bytes
spelled_bytes (n ∷ ns) = join (to_be_bytes w64 n) (spelled be64 ns) (eight_bytes n) (spelled_bytes ns)

spelled_length : (ns : List ℕ) → length (spelled be64 ns) ≡ 8 * length ns
spelled_length [] = omega arith
spelled_length (n ∷ ns) = omega (arith, spelled_length ns, length-append (to_be_bytes w64 n) (spelled be64 ns))

numbers_length : (k : ℕ) (b : List ℕ) → length (numbers be32 k b) ≡ k
numbers_length zero b = refl
numbers_length (suc k) b = ap suc (numbers_length k (drop 4 b))

small_number : (b : List ℕ) → IsBytes b → from_be_bytes w32 b < 2 ^ 32
small_number b fits = omega (arith, fits 0, fits 1, fits 2, fits 3)

numbers_small : (k : ℕ) (b : List ℕ) → IsBytes b → AllByRecursion (λ p. p < 2 ^ 32) (numbers be32 k b)
numbers_small zero b h = tt
numbers_small (suc k) b h = (small_number (take 4 b) (IsBytes-take 4 b h), numbers_small k (drop 4 b) (IsBytes-drop 4 b h))

numbers_again : (ns : List ℕ) (rest : List ℕ) → AllByRecursion (λ p. p < 2 ^ 32) ns → numbers be64 (length ns) (spelled be64 ns ++ rest) ≡ ns
numbers_again [] rest h = refl
numbers_again (n ∷ ns) rest h =
    ap (λ (m : ℕ). m ∷ numbers be64 (length ns) (spelled be64 ns ++ rest)) (from_be_bytes-to_be_bytes_8 n (omega (arith, h.0))) ∙ ap (λ (ms : List ℕ). n ∷ ms) (numbers_again ns rest h.1)

-- ---- a table

-- the count of a table stands in its first eight bytes
pub four_of : (b : List ℕ) → take 4 (drop 4 (take 8 b)) ≡ take 4 (drop 4 b)
four_of [] = refl
four_of (a ∷ []) = refl
four_of (a ∷ (b ∷ [])) = refl
four_of (a ∷ (b ∷ (c ∷ []))) = refl
four_of (a ∷ (b ∷ (c ∷ (d ∷ [])))) = refl
four_of (a ∷ (b ∷ (c ∷ (d ∷ (e ∷ []))))) = refl
four_of (a ∷ (b ∷ (c ∷ (d ∷ (e ∷ (g ∷ [])))))) = refl
four_of (a ∷ (b ∷ (c ∷ (d ∷ (e ∷ (g ∷ (h ∷ []))))))) = refl
four_of (a ∷ (b ∷ (c ∷ (d ∷ (e ∷ (g ∷ (h ∷ (i ∷ x)))))))) = refl

module _ (c : Chunk) (long : 8 + 4 * count c ≤ length c.body) (bytes : IsBytes c.body) where
  abbrev front : List ℕ
  front = take 8 c.body

  abbrev tail : List ℕ
  tail = drop (8 + 4 * count c) c.body

  front_length : length (take 8 c.body) ≡ 8
  front_length = omega (arith, length-take 8 c.body, long)

  pub wide_length : length (wide_body c) ≡ length c.body + 4 * count c
  wide_length =
      omega (arith, long, front_length, length-append (take 8 c.body) (spelled be64 (rows be32 c) ++ tail), length-append (spelled be64 (rows be32 c)) tail, spelled_length (rows be32 c), numbers_length (count c) (drop 8 c.body), length-drop (8 + 4 * count c) c.body)

  pub wide_bytes : IsBytes (wide_body c)
  wide_bytes = join (take 8 c.body) (spelled be64 (rows be32 c) ++ tail) (IsBytes-take 8 c.body bytes) (join (spelled be64 (rows be32 c)) tail (spelled_bytes (rows be32 c)) (IsBytes-drop (8 + 4 * count c) c.body bytes))

  pub take_front : take 8 (wide_body c) ≡ take 8 c.body
  take_front = take_at (take 8 c.body) (spelled be64 (rows be32 c) ++ tail) 8 front_length

  drop_front : drop 8 (wide_body c) ≡ spelled be64 (rows be32 c) ++ tail
  drop_front = drop_at (take 8 c.body) (spelled be64 (rows be32 c) ++ tail) 8 front_length

  pub count_wide : count (record c { id = codes "co64"; body = wide_body c }) ≡ count c
  count_wide = ap (from_be_bytes w32) (sym (four_of (wide_body c)) ∙ ap (λ (x : List ℕ). take 4 (drop 4 x)) take_front ∙ four_of c.body)

  pub rows_wide : rows be64 (record c { id = codes "co64"; body = wide_body c }) ≡ rows be32 c
  rows_wide =
      let ns = rows be32 c in
      rw (count_wide, drop_front) (ap (λ (k : ℕ). numbers be64 k (spelled be64 ns ++ tail)) (sym (numbers_length (count c) (drop 8 c.body))) ∙ numbers_again ns tail (numbers_small (count c) (drop 8 c.body) (IsBytes-drop 8 c.body bytes)))

  pub behind_wide : drop (8 + 8 * count c) (wide_body c) ≡ tail
  behind_wide =
      sym (drop-drop (8 * count c) 8 (wide_body c)) ∙ ap (drop (8 * count c)) drop_front
      ∙ drop_at (spelled be64 (rows be32 c)) tail (8 * count c) (omega (arith, spelled_length (rows be32 c), numbers_length (count c) (drop 8 c.body)))

-- ---- a table of either width

by_stco : (c : Chunk) → (is c (codes "stco") ≡ true) ⊎ (is c (codes "stco") ≡ false)
by_stco c = go (is c (codes "stco")) refl
  where
    go : (t : Bool) → is c (codes "stco") ≡ t → (is c (codes "stco") ≡ true) ⊎ (is c (codes "stco") ≡ false)
    go true e = inl e
    go false e = inr e

table_is : (c : Chunk) → is c (codes "stco") ≡ true → wide_table c ≡ record c { id = codes "co64"; body = wide_body c }
table_is c e = rw e refl

table_stays : (c : Chunk) → is c (codes "stco") ≡ false → wide_table c ≡ c
table_stays c e = rw e refl

-- what a table that is made wide is
pub record WideTable (c d : Chunk) : Type 0 where
  pub form_is : d.form ≡ c.form
  pub pad_is : d.pad ≡ c.pad
  pub id_len : length d.id ≡ length c.id
  pub id_bytes : IsBytes d.id ⊎ (d.id ≡ c.id)
  pub bytes : IsBytes d.body
  pub longer : length c.body ≤ length d.body
  pub shorter : length d.body ≤ 2 * length c.body
  pub long : is_short_table d ≡ false
  pub places : places_in d ≡ places_in c
  pub runs : runs_in d ≡ runs_in c
  pub sizes : sizes_in d ≡ sizes_in c

co64_bytes : IsBytes (codes "co64")
co64_bytes zero = omega arith
co64_bytes (suc zero) = omega arith
co64_bytes (suc (suc zero)) = omega arith
co64_bytes (suc (suc (suc zero))) = omega arith
co64_bytes (suc (suc (suc (suc i)))) = none_bytes i

pub wide_tables : (c : Chunk) → is_short_table c ≡ false → IsBytes c.body → WideTable c (wide_table c)
wide_tables c short bytes = go (by_stco c)
  where
    go : (is c (codes "stco") ≡ true) ⊎ (is c (codes "stco") ≡ false) → WideTable c (wide_table c)
    go (inr e) =
        subst (WideTable c) (sym (table_stays c e))
        (record { form_is = refl; pad_is = refl; id_len = refl; id_bytes = inr refl; bytes = bytes; longer = omega arith; shorter = omega arith; long = short; places = refl; runs = refl; sizes = refl })
    go (inl e) =
        let long : 8 + 4 * count c ≤ length c.body = (long_rows c short).0 e in
        let id = same_true c.id (codes "stco") e in
        let d = record c { id = codes "co64"; body = wide_body c } in
        let len = wide_length c long bytes in
        let n = count_wide c long bytes in
        subst (WideTable c) (sym (table_is c e))
        (record {
          form_is = refl;
          pad_is = refl;
          id_len = ap length (sym id);
          id_bytes = inl co64_bytes;
          bytes = wide_bytes c long bytes;
          longer = omega (arith, len);
          shorter = omega (arith, len, long);
          long = le-ltb _ _ (omega (arith, len, n, long));
          places = rows_wide c long bytes ∙ sym (rw e refl);
          runs = sym (rw id refl);
          sizes = sym (rw id refl);
        })

-- ---- what is kept of a table

zeros_wide : (c : Chunk) → 8 + 4 * count c ≤ length c.body → IsBytes c.body → wide_zeros (blank_rows be32 c) ≡ blank_rows be64 (record c { id = codes "co64"; body = wide_body c })
zeros_wide c long bytes =
    let n = count c in
    let f = take 8 c.body in
    let z : List ℕ = replicate (4 * n) 0 in
    let tail = drop (8 + 4 * n) c.body in
    let flen : length f ≡ 8 = omega (arith, length-take 8 c.body, long) in
    let l = f ++ (z ++ tail) in
    let front : take 8 l ≡ f = take_at f (z ++ tail) 8 flen in
    let number : from_be_bytes w32 (take 4 (drop 4 l)) ≡ n = ap (from_be_bytes w32) (sym (four_of l) ∙ ap (λ (x : List ℕ). take 4 (drop 4 x)) front ∙ four_of c.body) in
    let behind : drop (8 + 4 * n) l ≡ tail
    = sym (drop-drop (4 * n) 8 l) ∙ ap (drop (4 * n)) (drop_at f (z ++ tail) 8 flen) ∙ drop_at z tail (4 * n) (length-replicate (4 * n) 0) in
    let d = record c { id = codes "co64"; body = wide_body c } in
    let left : wide_zeros l ≡ f ++ (replicate (8 * n) 0 ++ tail) = rw (number, front, behind) refl in
    let right : blank_rows be64 d ≡ f ++ (replicate (8 * n) 0 ++ tail) = rw (count_wide c long bytes, take_front c long bytes, behind_wide c long bytes) refl in
    left ∙ sym right

pub token_wide : (c : Chunk) → is_short_table c ≡ false → IsBytes c.body → wide_token stbl c.form c.id (look_table c) ≡ leaf (wide_table c).form (wide_table c).id (look_table (wide_table c))
token_wide c short bytes = go (by_stco c)
  where
    go : (is c (codes "stco") ≡ true) ⊎ (is c (codes "stco") ≡ false) → wide_token stbl c.form c.id (look_table c) ≡ leaf (wide_table c).form (wide_table c).id (look_table (wide_table c))
    go (inr e) = ap (λ (t : Bool). cond t (leaf c.form (codes "co64") (wide_zeros (look_table c))) (leaf c.form c.id (look_table c))) e ∙ ap (λ (d : Chunk). leaf d.form d.id (look_table d)) (sym (table_stays c e))
    go (inl e) =
        let long : 8 + 4 * count c ≤ length c.body = (long_rows c short).0 e in
        let d = record c { id = codes "co64"; body = wide_body c } in
        ap (λ (t : Bool). cond t (leaf c.form (codes "co64") (wide_zeros (cond t (blank_rows be32 c) (cond (is c (codes "co64")) (blank_rows be64 c) c.body)))) (leaf c.form c.id (cond t (blank_rows be32 c) (cond (is c (codes "co64")) (blank_rows be64 c) c.body)))) e
        ∙ ap (leaf c.form (codes "co64")) (zeros_wide c long bytes) ∙ ap (λ (x : Chunk). leaf x.form x.id (look_table x)) (sym (table_is c e))

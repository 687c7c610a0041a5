-- Rows that are read and spelled one after the other.
use Rattle.std.proofs.Common.{◌≡◌, ◌∙◌, ℕ, suc, ◌+◌, ◌-◌, ◌*◌, ◌^◌, ◌<◌, ◌≤◌, Bool, true, false, ltb, List, [], ◌∷◌, ◌++◌, length, map, take, drop, get_or, refl, sym, ap, arith, append_assoc, length-append, length-drop}
use Rattle.std.specs.Prelude.{Option, Some, None, ◌||◌, ◌==◌, if◌then◌else◌}
use Rattle.std.specs.Str.{bytes_eq}
use Rattle.std.specs.Int.{w64, to_le_bytes}
use Rattle.std.specs.List.{AllByRecursion}
use Rattle.std.proofs.lemmas.Bool.{le-ltb}
use Rattle.std.proofs.lemmas.List.{drop-drop, take_at, drop_at, at_drop_more, at_drop_all, append-nil, take_all}
use Rattle.std.proofs.lemmas.Nat.{from_le_bytes-to_le_bytes_4, from_le_bytes-to_le_bytes_8}
use Rattle.container_model.specs.Sizes.{Row}
use Rattle.container_model.specs.Ds64.{le32, le64, rows}
use Rattle.rf64_ds64.specs.declared.Ds64.{Ds64}
use Rattle.rf64_ds64.specs.declared.Ds64Row.{Ds64Row}
use Rattle.rf64_ds64.specs.Ds64.{row_of, row_bytes, body_of, needed, is_short, nth_size, IsDs64, IsSpellable}

abbrev row_from : List ℕ → ℕ → Row
row_from id size = record { id = id; size = size }

rows_cons : (m : ℕ) (b : List ℕ) → 0 < length b → rows (suc m) b ≡ row_from (take 4 b) (le64 (drop 4 b)) ∷ rows m (drop 12 b)
rows_cons m [] h = absurd (omega arith)
rows_cons m (x ∷ b) h = refl

rows_next : (n k : ℕ) (b : List ℕ) (r : Ds64Row) → k < n → 12 * n ≤ length b → r.id.0 ≡ take 4 (drop (12 * k) b) → r.size ≡ le64 (drop (12 * k + 4) b)
    → rows (n - k) (drop (12 * k) b) ≡ row_of r ∷ rows (n - (k + 1)) (drop (12 * (k + 1)) b)
rows_next n k b r lt long i s =
    let here = drop (12 * k) b in
    let rest = n - (k + 1) in
    let less : n - k ≡ suc rest = omega arith in
    let more : drop 12 here ≡ drop (12 * (k + 1)) b = drop-drop 12 (12 * k) b ∙ ap (λ (p : ℕ). drop p b) (omega arith) in
    ap (λ (m : ℕ). rows m here) less
    ∙ rows_cons rest here (omega (arith, length-drop (12 * k) b))
    ∙ ap (λ (x : List ℕ). row_from x (le64 (drop 4 here)) ∷ rows rest (drop 12 here)) (sym i)
    ∙ ap (λ (x : ℕ). row_from r.id.0 x ∷ rows rest (drop 12 here)) (ap le64 (drop-drop 4 (12 * k) b) ∙ sym s)
    ∙ ap (λ (x : List ℕ). row_of r ∷ rows rest x) more

mapped : (items : List Ds64Row) (r : Ds64Row) (z : List Row) → map row_of (items ++ r ∷ []) ++ z ≡ map row_of items ++ row_of r ∷ z
mapped [] r z = refl
mapped (i ∷ items) r z = ap (λ (x : List Row). row_of i ∷ x) (mapped items r z)

-- one more row is read
pub rows_more : (n k : ℕ) (b : List ℕ) (items new : List Ds64Row) (r : Ds64Row) (whole : List Row) → k < n → 12 * n ≤ length b → r.id.0 ≡ take 4 (drop (12 * k) b) → r.size ≡ le64 (drop (12 * k + 4) b)
    → new ≡ items ++ r ∷ [] → map row_of items ++ rows (n - k) (drop (12 * k) b) ≡ whole → map row_of new ++ rows (n - (k + 1)) (drop (12 * (k + 1)) b) ≡ whole
rows_more n k b items new r whole lt long i s put so_far =
    ap (λ (x : List Ds64Row). map row_of x ++ rows (n - (k + 1)) (drop (12 * (k + 1)) b)) put
    ∙ mapped items r (rows (n - (k + 1)) (drop (12 * (k + 1)) b))
    ∙ ap (λ (x : List Row). map row_of items ++ x) (sym (rows_next n k b r lt long i s))
    ∙ so_far

pub rows_all : (n k : ℕ) (b : List ℕ) (items : List Ds64Row) (whole : List Row) → n ≤ k → map row_of items ++ rows (n - k) (drop (12 * k) b) ≡ whole → map row_of items ≡ whole
rows_all n k b items whole le so_far =
    let none : n - k ≡ 0 = omega arith in
    sym (append-nil (map row_of items)) ∙ ap (λ (m : ℕ). map row_of items ++ rows m (drop (12 * k) b)) (sym none) ∙ so_far

-- one more row is spelled
pub bytes_more : (rs : List Ds64Row) (k : ℕ) (r : Ds64Row) (out id new whole : List ℕ) → k < length rs → r ≡ get_or rs k r → id ≡ out ++ r.id.0 → new ≡ id ++ to_le_bytes w64 r.size
    → out ++ row_bytes (drop k rs) ≡ whole → new ++ row_bytes (drop (k + 1) rs) ≡ whole
bytes_more rs k r out id new whole lt is first second so_far =
    let rest = row_bytes (drop (k + 1) rs) in
    let next : row_bytes (drop k rs) ≡ (r.id.0 ++ to_le_bytes w64 r.size) ++ rest = at_drop_more row_bytes rs k r lt ∙ ap (λ (x : Ds64Row). (x.id.0 ++ to_le_bytes w64 x.size) ++ rest) (sym is) in
    ap (λ (x : List ℕ). x ++ rest) (second ∙ ap (λ (x : List ℕ). x ++ to_le_bytes w64 r.size) first ∙ append_assoc out r.id.0 (to_le_bytes w64 r.size))
    ∙ append_assoc out (r.id.0 ++ to_le_bytes w64 r.size) rest
    ∙ ap (λ (x : List ℕ). out ++ x) (sym next)
    ∙ so_far

pub bytes_all : (rs : List Ds64Row) (k : ℕ) (out whole : List ℕ) → length rs ≤ k → out ++ row_bytes (drop k rs) ≡ whole → out ≡ whole
bytes_all rs k out whole le so_far = sym (append-nil out) ∙ ap (λ (x : List ℕ). out ++ x) (sym (at_drop_all row_bytes rs k le)) ∙ so_far

-- a row of a table that is searched
abbrev pub nth_from : List ℕ → ℕ → List Ds64Row → Option ℕ
nth_from id n rs = nth_size id n (map row_of rs)

abbrev nth_by : Bool → Bool → ℕ → Option ℕ → Option ℕ → Option ℕ
nth_by hit last size next other = if hit then (if last then Some size else next) else other

pub nth_next : (id : List ℕ) (n : ℕ) (rs : List Ds64Row) (k : ℕ) (r : Ds64Row) → k < length rs → r ≡ get_or rs k r
    → nth_from id n (drop k rs) ≡ nth_by (bytes_eq id r.id.0) (n == 0) r.size (nth_from id (n - 1) (drop (k + 1) rs)) (nth_from id n (drop (k + 1) rs))
nth_next id n rs k r lt is =
    at_drop_more (nth_from id n) rs k r lt
    ∙ ap (λ (x : Ds64Row). nth_by (bytes_eq id x.id.0) (n == 0) x.size (nth_from id (n - 1) (drop (k + 1) rs)) (nth_from id n (drop (k + 1) rs))) (sym is)

pub nth_end : (id : List ℕ) (n : ℕ) (rs : List Ds64Row) (k : ℕ) → length rs ≤ k → nth_from id n (drop k rs) ≡ None
nth_end id n rs k le = at_drop_all (nth_from id n) rs k le

-- ---- what is spelled is read back

abbrev AreRows : List Ds64Row → Type 0
AreRows rs = AllByRecursion (λ r. (length r.id.0 ≡ 4) × (r.size < 2 ^ 64)) rs

grouped : (id s x z : List ℕ) → ((id ++ s) ++ x) ++ z ≡ id ++ (s ++ (x ++ z))
grouped id s x z = simp append_assoc

rows_back : (rs : List Ds64Row) (extra : List ℕ) → AreRows rs → rows (length rs) (row_bytes rs ++ extra) ≡ map row_of rs
rows_back [] extra h = refl
rows_back (r ∷ rs) extra h =
    let size = to_le_bytes w64 r.size in
    let rest = row_bytes rs ++ extra in
    let b = r.id.0 ++ (size ++ rest) in
    let behind : drop 4 b ≡ size ++ rest = drop_at r.id.0 (size ++ rest) 4 h.0.0 in
    ap (rows (suc (length rs))) (grouped r.id.0 size (row_bytes rs) extra)
    ∙ rows_cons (length rs) b (omega (arith, h.0.0, length-append r.id.0 (size ++ rest)))
    ∙ ap (λ (x : List ℕ). row_from x (le64 (drop 4 b)) ∷ rows (length rs) (drop 12 b)) (take_at r.id.0 (size ++ rest) 4 h.0.0)
    ∙ ap (λ (x : ℕ). row_from r.id.0 x ∷ rows (length rs) (drop 12 b)) (ap le64 behind ∙ from_le_bytes-to_le_bytes_8 r.size h.0.1)
    ∙ ap (λ (x : List ℕ). row_of r ∷ rows (length rs) x) (sym (drop-drop 8 4 b) ∙ ap (drop 8) behind)
    ∙ ap (λ (x : List Row). row_of r ∷ x) (rows_back rs extra h.1)

rows_length : (rs : List Ds64Row) → AreRows rs → length (row_bytes rs) ≡ 12 * length rs
rows_length [] h = refl
rows_length (r ∷ rs) h =
    let size = to_le_bytes w64 r.size in
    omega (arith, rows_length rs h.1, h.0.0, length-append (r.id.0 ++ size) (row_bytes rs), length-append r.id.0 size)

count_back : (ds : Ds64) → IsSpellable ds → le32 (drop 24 (body_of ds)) ≡ length ds.rows
count_back ds h = from_le_bytes-to_le_bytes_4 (length ds.rows) h.count

body_long : (ds : Ds64) → IsSpellable ds → length (body_of ds) ≡ 28 + 12 * length ds.rows + length ds.extra
body_long ds h = let two = length-append (row_bytes ds.rows) ds.extra in omega (arith, rows_length ds.rows h.rows, two)

both_false : (a b : Bool) → a ≡ false → b ≡ false → (a || b) ≡ false
both_false true b e i = absurd cc
both_false false b e i = i

pub long_enough : (ds : Ds64) → IsSpellable ds → is_short (body_of ds) ≡ false
long_enough ds h =
    let long = body_long ds h in
    both_false (ltb (length (body_of ds)) 28) (ltb (length (body_of ds)) (needed (body_of ds))) (le-ltb (length (body_of ds)) 28 (omega (arith, long)))
    (le-ltb (length (body_of ds)) (needed (body_of ds)) (omega (arith, long, count_back ds h)))

pub reads_back : (ds : Ds64) → IsSpellable ds → IsDs64 (body_of ds) ds
reads_back ds h =
    let count = count_back ds h in
    record {
      riff = sym (from_le_bytes-to_le_bytes_8 ds.riff h.riff);
      data_size = sym (from_le_bytes-to_le_bytes_8 ds.data_size h.data_size);
      samples = sym (from_le_bytes-to_le_bytes_8 ds.samples h.samples);
      rows = sym (ap (λ (n : ℕ). rows n (row_bytes ds.rows ++ ds.extra)) count ∙ rows_back ds.rows ds.extra h.rows);
      extra = sym (
          ap (λ (n : ℕ). drop (28 + 12 * n) (body_of ds)) count
          ∙ sym (drop-drop (12 * length ds.rows) 28 (body_of ds))
          ∙ drop_at (row_bytes ds.rows) ds.extra (12 * length ds.rows) (rows_length ds.rows h.rows)
          );
    }

-- ---- a body is read

tail_is : (b : List ℕ) (at : ℕ) → take (length b - at) (drop at b) ≡ drop at b
tail_is b at = take_all (length b - at) (drop at b) (omega (arith, length-drop at b))

pub read_is : (body : List ℕ) (ds : Ds64) (n : ℕ) → 28 ≤ length body → 28 + 12 * n ≤ length body → n ≡ le32 (drop 24 body) → ds.riff ≡ le64 body → ds.data_size ≡ le64 (drop 8 body) → ds.samples ≡ le64 (drop 16 body)
    → map row_of ds.rows ≡ rows n (take (length body - 28) (drop 28 body)) → ds.extra ≡ take (length body - (28 + 12 * n)) (drop (28 + 12 * n) body) → (is_short body ≡ false) × IsDs64 body ds
read_is body ds n least long count riff size samples table extra = (
  both_false (ltb (length body) 28) (ltb (length body) (needed body)) (le-ltb (length body) 28 least) (le-ltb (length body) (needed body) (omega (arith, long, count))),
  record {
    riff = riff;
    data_size = size;
    samples = samples;
    rows = table ∙ ap (rows n) (tail_is body 28) ∙ ap (λ (k : ℕ). rows k (drop 28 body)) count;
    extra = extra ∙ tail_is body (28 + 12 * n) ∙ ap (λ (k : ℕ). drop (28 + 12 * k) body) count;
  },
)

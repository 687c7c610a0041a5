-- A header that was read is read again with other bytes behind it, of the same number where it goes to the end.
use Rattle.std.proofs.Common.{◌≡◌, ℕ, ◌+◌, ◌-◌, ◌^◌, ◌<◌, ◌≤◌, Bool, true, false, ltb, eqb, List, [], ◌∷◌, ◌++◌, length, take, drop, replicate, Option, Some, None, refl, sym, ap, ◌∙◌, append_assoc, arith}
use Rattle.std.specs.Int.{w32, w64, to_be_bytes, from_le_bytes, from_be_bytes}
use Rattle.std.specs.Str.{bytes_eq}
use Rattle.std.proofs.lemmas.Bool.{ltb-false, le-ltb}
use Rattle.std.proofs.lemmas.Nat.{from_be_bytes-to_be_bytes_8}
use Rattle.std.proofs.lemmas.List.{take_at, drop_at, length-append, length-take, length-drop, length-replicate}
use Rattle.container_model.specs.Chunk.{Form, riff, wide, short, long, to_end, header_bytes, Chunk, Header, too_short, no_header, past_end, full_header}
use Rattle.container_model.specs.Sizes.{Row, Sizes, plain, table, first_row, sized, riff_ahead, riff_front, Level, top, inside, user, kind_at, atom_zero, atom_short, atom_long, atom_wide, atom_by, atom_ahead, atom_front}
use Rattle.container_model.proofs.Codec.{IsBytes, IsBytes-drop}
use Rattle.container_model.proofs.Fronts.{IsBytes-take, riff_head}
use Rattle.container_model.proofs.Atoms.{short_head}
use Rattle.container_model.proofs.Deep.{Moves}

abbrev Moved : {S : Type 0} → (S → List ℕ → Header S) → S → Header S → Type 0
Moved front s too_short = Unit {0}
Moved front s no_header = Unit {0}
Moved front s past_end = Unit {0}
Moved front s (full_header form id n after next) = (other : List ℕ) → (form ≡ to_end → length other ≡ length after) → front s (header_bytes form id n ++ other) ≡ full_header form id n other next

low_le : (b : List ℕ) → IsBytes b → from_le_bytes w32 b < 2 ^ 32
low_le b fits = omega (arith, fits 0, fits 1, fits 2, fits 3)

low_be : (b : List ℕ) → IsBytes b → from_be_bytes w32 b < 2 ^ 32
low_be b fits = omega (arith, fits 0, fits 1, fits 2, fits 3)

low_wide : (b : List ℕ) → IsBytes b → from_be_bytes w64 b < 2 ^ 64
low_wide b fits = omega (arith, fits 0, fits 1, fits 2, fits 3, fits 4, fits 5, fits 6, fits 7)

-- ---- RIFF

sized_moved : (s : Sizes) (id : List ℕ) (n : ℕ) (after : List ℕ) → length id ≡ 4 → n < 2 ^ 32 → Moved riff_front s (sized s id n after)
sized_moved plain id n after len lt = λ other e. riff_head plain id n other len lt
sized_moved (table main rows) id n after len lt = go (eqb n 4294967295) (bytes_eq id (100 ∷ 97 ∷ 116 ∷ 97 ∷ [])) (first_row id rows) refl refl refl
  where
    full : (other : List ℕ) → riff_front (table main rows) ((id ++ 255 ∷ 255 ∷ 255 ∷ 255 ∷ []) ++ other) ≡ sized (table main rows) id 4294967295 other
    full other = riff_head (table main rows) id 4294967295 other len (omega arith)

    go : (t d : Bool) (r : Option (ℕ × List Row)) → eqb n 4294967295 ≡ t → bytes_eq id (100 ∷ 97 ∷ 116 ∷ 97 ∷ []) ≡ d → first_row id rows ≡ r
        → Moved riff_front (table main rows) (elim t [
          | false ↦ full_header riff id n after (table main rows)
          | true ↦ elim d [
            | true ↦ full_header wide id main after (table main rows)
            | false ↦ elim r [ None ↦ no_header | Some found ↦ full_header wide id found.0 after (table main found.1) ]
          ]
        ])
    go false d r i j k = λ other e. riff_head (table main rows) id n other len lt ∙ rw (i, sized) refl
    go true true r i j k = λ other e. full other ∙ rw (j, sized) refl
    go true false None i j k = tt
    go true false (Some found) i j k = λ other e. full other ∙ rw (j, k, sized) refl

riff_moved : (s : Sizes) (b : List ℕ) → IsBytes b → Moved riff_front s (riff_front s b)
riff_moved s b fits = go (ltb (length b) 8) refl
  where
    go : (t : Bool) → ltb (length b) 8 ≡ t → Moved riff_front s (riff_ahead s b t)
    go true e = tt
    go false e = sized_moved s (take 4 b) (from_le_bytes w32 (take 4 (drop 4 b))) (drop 8 b) (omega (arith, length-take 4 b, ltb-false (length b) 8 e)) (low_le (take 4 (drop 4 b)) (IsBytes-take 4 (drop 4 b) (IsBytes-drop 4 b fits)))

moves_from : {S : Type 0} (front : S → List ℕ → Header S) (s : S) (a : Header S) (form : Form) (id : List ℕ) (n : ℕ) (after other : List ℕ) (next : S) → Moved front s a → a ≡ full_header form id n after next → (form ≡ to_end → length other ≡ length after) → front s (header_bytes form id n ++ other) ≡ full_header form id n other next
moves_from front s a form id n after other next h e len = let g : Moved front s (full_header form id n after next) = rw e at h in g other len

pub riff_moves : Moves riff_front
riff_moves s next b after other id form n fits e len = moves_from riff_front s (riff_front s b) form id n after other next (riff_moved s b fits) e len

-- ---- atoms

pub short_number : (s : Level) (id : List ℕ) (n : ℕ) (other : List ℕ) → length id ≡ 4 → n + 8 < 2 ^ 32 → atom_front s ((to_be_bytes w32 (n + 8) ++ id) ++ other) ≡ full_header short id n other s
short_number s id n other len lt =
    let c : Chunk = record { form = short; id = id; body = replicate n 0; pad = [] } in
    let same : length (replicate n 0) ≡ n = length-replicate n 0 in
    let h = short_head s c refl len (rw same lt) other in
    ap (λ (k : ℕ). atom_front s ((to_be_bytes w32 (k + 8) ++ id) ++ other)) (sym same) ∙ h ∙ ap (λ (k : ℕ). full_header short id k other s) same

pub end_number : (id other : List ℕ) → length id ≡ 4 → atom_front top ((to_be_bytes w32 0 ++ id) ++ other) ≡ full_header to_end id (length other) other top
end_number id other len =
    let h = to_be_bytes w32 0 ++ id in
    let eight_long : length h ≡ 8 = omega (arith, length-append (to_be_bytes w32 0) id) in
    let enough : ltb (length (h ++ other)) 8 ≡ false = le-ltb _ _ (omega (arith, length-append h other)) in
    let split : h ++ other ≡ to_be_bytes w32 0 ++ (id ++ other) = append_assoc (to_be_bytes w32 0) id other in
    let kind : kind_at (h ++ other) ≡ id = ap (take 4) (ap (drop 4) split) ∙ take_at id other 4 len in
    let back : drop 8 (h ++ other) ≡ other = drop_at h other 8 eight_long in
    let size : length (h ++ other) - 8 ≡ length other = omega (arith, length-append h other) in
    ap (atom_ahead top (h ++ other)) enough ∙ parts (h ++ other) refl kind back size
  where
    parts : (b : List ℕ) → from_be_bytes w32 (take 4 b) ≡ 0 → kind_at b ≡ id → drop 8 b ≡ other → length b - 8 ≡ length other → atom_ahead top b false ≡ full_header to_end id (length other) other top
    parts b num kind back size = rw (num, kind, back, size) refl

pub long_number : (s : Level) (id : List ℕ) (n : ℕ) (other : List ℕ) → length id ≡ 4 → n + 16 < 2 ^ 64 → atom_front s ((to_be_bytes w32 1 ++ (id ++ to_be_bytes w64 (n + 16))) ++ other) ≡ full_header long id n other s
long_number s id n other len lt =
    let wide_size = to_be_bytes w64 (n + 16) in
    let h = to_be_bytes w32 1 ++ (id ++ wide_size) in
    let long_len : length h ≡ 16 = omega (arith, length-append (to_be_bytes w32 1) (id ++ wide_size), length-append id wide_size) in
    let enough : ltb (length (h ++ other)) 8 ≡ false = le-ltb _ _ (omega (arith, length-append h other)) in
    let enough_wide : ltb (length (h ++ other)) 16 ≡ false = le-ltb _ _ (omega (arith, length-append h other)) in
    let split : h ++ other ≡ to_be_bytes w32 1 ++ (id ++ (wide_size ++ other)) = simp append_assoc in
    let split_eight : h ++ other ≡ (to_be_bytes w32 1 ++ id) ++ (wide_size ++ other) = simp append_assoc in
    let kind : kind_at (h ++ other) ≡ id = ap (take 4) (ap (drop 4) split) ∙ take_at id (wide_size ++ other) 4 len in
    let tail : drop 8 (h ++ other) ≡ wide_size ++ other = ap (drop 8) split_eight ∙ drop_at (to_be_bytes w32 1 ++ id) (wide_size ++ other) 8 (omega (arith, length-append (to_be_bytes w32 1) id)) in
    let num : from_be_bytes w64 (take 8 (drop 8 (h ++ other))) ≡ n + 16 = ap (λ (x : List ℕ). from_be_bytes w64 (take 8 x)) tail ∙ from_be_bytes-to_be_bytes_8 (n + 16) lt in
    let back : drop 16 (h ++ other) ≡ other = drop_at h other 16 long_len in
    let big : ltb (n + 16) 16 ≡ false = le-ltb _ _ (omega arith) in
    let less : (n + 16) - 16 ≡ n = omega arith in
    ap (atom_ahead s (h ++ other)) enough ∙ parts (h ++ other) refl enough_wide num big less kind back
  where
    parts : (b : List ℕ) → from_be_bytes w32 (take 4 b) ≡ 1 → ltb (length b) 16 ≡ false → from_be_bytes w64 (take 8 (drop 8 b)) ≡ n + 16 → ltb (n + 16) 16 ≡ false → (n + 16) - 16 ≡ n → kind_at b ≡ id → drop 16 b ≡ other
        → atom_ahead s b false ≡ full_header long id n other s
    parts b one room num big less kind back = rw (one, room, num, big, less, kind, back) refl

module _ (b : List ℕ) (fits : IsBytes b) (room : 8 ≤ length b) where
  kind_len : length (kind_at b) ≡ 4
  kind_len = omega (arith, length-take 4 (drop 4 b), length-drop 4 b)

  short_moved : (s : Level) (t : Bool) → ltb (from_be_bytes w32 (take 4 b)) 8 ≡ t → Moved atom_front s (atom_short s b (from_be_bytes w32 (take 4 b)) t)
  short_moved s true e = tt
  short_moved s false e = λ other len. short_number s (kind_at b) (from_be_bytes w32 (take 4 b) - 8) other kind_len (omega (arith, ltb-false _ 8 e, low_be (take 4 b) (IsBytes-take 4 b fits)))

  zero_moved : (s : Level) → Moved atom_front s (atom_zero s b)
  zero_moved top = λ other len.
      let size : length b - 8 ≡ length other = omega (arith, len refl, length-drop 8 b) in
      end_number (kind_at b) other kind_len ∙ ap (λ (k : ℕ). full_header to_end (kind_at b) k other top) (sym size)
  zero_moved inside = tt
  zero_moved user = tt

  long_moved : (s : Level) (t : Bool) → ltb (from_be_bytes w64 (take 8 (drop 8 b))) 16 ≡ t → Moved atom_front s (atom_long s b (from_be_bytes w64 (take 8 (drop 8 b))) t)
  long_moved s true e = tt
  long_moved s false e = λ other len. long_number s (kind_at b) (from_be_bytes w64 (take 8 (drop 8 b)) - 16) other kind_len (omega (arith, ltb-false _ 16 e, low_wide (take 8 (drop 8 b)) (IsBytes-take 8 (drop 8 b) (IsBytes-drop 8 b fits))))

  wide_moved : (s : Level) (t : Bool) → Moved atom_front s (atom_wide s b t)
  wide_moved s true = tt
  wide_moved s false = long_moved s (ltb (from_be_bytes w64 (take 8 (drop 8 b))) 16) refl

  by_moved : (s : Level) (t u : Bool) → Moved atom_front s (atom_by s b (from_be_bytes w32 (take 4 b)) t u)
  by_moved s true u = wide_moved s (ltb (length b) 16)
  by_moved s false true = zero_moved s
  by_moved s false false = short_moved s (ltb (from_be_bytes w32 (take 4 b)) 8) refl

atom_moved : (s : Level) (b : List ℕ) → IsBytes b → Moved atom_front s (atom_front s b)
atom_moved s b fits = go (ltb (length b) 8) refl
  where
    go : (t : Bool) → ltb (length b) 8 ≡ t → Moved atom_front s (atom_ahead s b t)
    go true e = tt
    go false e = by_moved b fits (ltb-false _ _ e) s (eqb (from_be_bytes w32 (take 4 b)) 1) (eqb (from_be_bytes w32 (take 4 b)) 0)

pub atom_moves : Moves atom_front
atom_moves s next b after other id form n fits e len = moves_from atom_front s (atom_front s b) form id n after other next (atom_moved s b fits) e len

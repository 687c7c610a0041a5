-- The headers of RIFF and of atoms are read as they are spelled.
use Rattle.std.proofs.Common.{◌≡◌, ℕ, ◌-◌, ◌^◌, ◌<◌, ◌≤◌, Bool, true, false, ltb, eqb, List, [], ◌∷◌, ◌++◌, length, take, drop, Option, Some, None, refl, sym, ap, ◌∙◌, append_assoc, arith, inl, inr}
use Rattle.std.specs.Int.{w32, to_le_bytes, from_le_bytes}
use Rattle.std.specs.Str.{bytes_eq}
use Rattle.std.proofs.lemmas.Bool.{ltb-false, le-ltb, eqb-true, ne_eqb}
use Rattle.std.proofs.lemmas.Nat.{le_bytes_4, from_le_bytes-to_le_bytes_4}
use Rattle.std.proofs.lemmas.List.{take-append-drop, take_at, drop_at, length-append, length-take, length-drop, get_or-take, get_or_past, drop-drop}
use Rattle.std.proofs.lemmas.Bool.{cases_lt}
use Rattle.container_model.specs.Chunk.{Form, riff, wide, header_bytes, Chunk, Header, too_short, no_header, past_end, full_header, GivesBack, PadStands, Stands}
use Rattle.container_model.specs.Sizes.{Row, Sizes, plain, table, first_row, sized, riff_ahead, riff_front}
use Rattle.container_model.proofs.Codec.{IsBytes, IsBytes-drop}
use Rattle.container_model.specs.Chunk.{Head}

pub IsBytes-take : (n : ℕ) (b : List ℕ) → IsBytes b → IsBytes (take n b)
IsBytes-take n b h i =
    elim (cases_lt i n) [
      | inl lt ↦ rw (get_or-take n b i 0 lt) (h i)
      | inr le ↦ rw (get_or_past (take n b) i 0 (omega (arith, length-take n b))) (omega arith)
    ]

-- the first eight bytes
pub eight : (b : List ℕ) → b ≡ take 4 b ++ (take 4 (drop 4 b) ++ drop 8 b)
eight b = sym (rw (← drop-drop 4 4 b, take-append-drop 4 (drop 4 b)) (take-append-drop 4 b))

field_back : (b : List ℕ) → IsBytes b → 8 ≤ length b → to_le_bytes w32 (from_le_bytes w32 (take 4 (drop 4 b))) ≡ take 4 (drop 4 b)
field_back b fits len = le_bytes_4 (take 4 (drop 4 b)) _ (omega (arith, length-take 4 (drop 4 b), length-drop 4 b)) (IsBytes-take 4 (drop 4 b) (IsBytes-drop 4 b fits)) refl

-- what a front says, as a fact on each answer
abbrev pub Spelled : {S : Type 0} → List ℕ → Header S → Type 0
Spelled b too_short = Unit {0}
Spelled b no_header = Unit {0}
Spelled b past_end = Unit {0}
Spelled b (full_header form id n after next) = b ≡ header_bytes form id n ++ after

pub Spelled-full_header : {S : Type 0} (b : List ℕ) (a : Header S) (form : Form) (id : List ℕ) (n : ℕ) (after : List ℕ) (next : S) → Spelled b a → a ≡ full_header form id n after next → b ≡ header_bytes form id n ++ after
Spelled-full_header b a form id n after next h e = rw e at h

all_ones : (n : ℕ) → eqb n 4294967295 ≡ true → to_le_bytes w32 n ≡ 255 ∷ 255 ∷ 255 ∷ 255 ∷ []
all_ones n e = ap (to_le_bytes w32) (eqb-true n 4294967295 e)

row_spelled : (b id after : List ℕ) (main : ℕ) (found : Option (ℕ × List Row)) → b ≡ (id ++ 255 ∷ 255 ∷ 255 ∷ 255 ∷ []) ++ after
    → Spelled {S = Sizes} b (elim found [ None ↦ no_header | Some x ↦ full_header wide id x.0 after (table main x.1) ])
row_spelled b id after main None e = tt
row_spelled b id after main (Some x) e = e

sized_spelled : (s : Sizes) (b id : List ℕ) (n : ℕ) (after : List ℕ) → b ≡ (id ++ to_le_bytes w32 n) ++ after → Spelled b (sized s id n after)
sized_spelled plain b id n after e = e
sized_spelled (table main rows) b id n after e = go (eqb n 4294967295) (bytes_eq id (100 ∷ 97 ∷ 116 ∷ 97 ∷ [])) refl
  where
    go : (t d : Bool) → eqb n 4294967295 ≡ t → Spelled {S = Sizes} b (elim t [
      | false ↦ full_header riff id n after (table main rows)
      | true ↦ elim d [
        | true ↦ full_header wide id main after (table main rows)
        | false ↦ elim (first_row id rows) [ None ↦ no_header | Some found ↦ full_header wide id found.0 after (table main found.1) ]
      ]
    ])
    go false d is = e
    go true true is = rw (all_ones n is) at e
    go true false is = row_spelled b id after main (first_row id rows) (rw (all_ones n is) at e)

pub riff_spelled : (s : Sizes) (b : List ℕ) → IsBytes b → Spelled b (riff_front s b)
riff_spelled s b fits = go (ltb (length b) 8) refl
  where
    go : (t : Bool) → ltb (length b) 8 ≡ t → Spelled b (riff_ahead s b t)
    go true e = tt
    go false e = sized_spelled s b (take 4 b) (from_le_bytes w32 (take 4 (drop 4 b))) (drop 8 b)
        (rw (field_back b fits (ltb-false _ _ e), append_assoc (take 4 b) (take 4 (drop 4 b)) (drop 8 b)) (eight b))

pub riff_gives_back : GivesBack riff_front
riff_gives_back s next b id after form n fits e = Spelled-full_header b (riff_front s b) form id n after next (riff_spelled s b fits) e

-- ---- a header that is spelled is read

-- a RIFF header is read as it is spelled
pub riff_head : (s : Sizes) (id : List ℕ) (n : ℕ) (after : List ℕ) → length id ≡ 4 → n < 2 ^ 32 → riff_front s ((id ++ to_le_bytes w32 n) ++ after) ≡ sized s id n after
riff_head s id n after len lt =
    let h = id ++ to_le_bytes w32 n in
    let eight_long : length h ≡ 8 = omega (arith, length-append id (to_le_bytes w32 n)) in
    let enough : ltb (length (h ++ after)) 8 ≡ false = le-ltb _ _ (omega (arith, length-append h after)) in
    let split : h ++ after ≡ id ++ (to_le_bytes w32 n ++ after) = append_assoc id (to_le_bytes w32 n) after in
    let first : take 4 (h ++ after) ≡ id = ap (take 4) split ∙ take_at id (to_le_bytes w32 n ++ after) 4 len in
    let second : take 4 (drop 4 (h ++ after)) ≡ to_le_bytes w32 n = ap (λ (x : List ℕ). take 4 (drop 4 x)) split ∙ ap (take 4) (drop_at id (to_le_bytes w32 n ++ after) 4 len) ∙ take_at (to_le_bytes w32 n) after 4 refl in
    let third : drop 8 (h ++ after) ≡ after = drop_at h after 8 eight_long in
    rw (enough, first, second, third, from_le_bytes-to_le_bytes_4 n lt) refl

-- a chunk of plain RIFF
pub record IsRiff (c : Chunk) : Type 0 where
  pub form_is : c.form ≡ riff
  pub id_len : length c.id ≡ 4
  pub small : length c.body < 2 ^ 32

pub riff_stands : (c : Chunk) (more : List ℕ) → IsRiff c → PadStands riff (length c.body) c.pad more → Stands riff_front plain plain c more
riff_stands c more h p =
    record {
      header_read =
          rw (h.form_is, append_assoc (c.id ++ to_le_bytes w32 (length c.body)) (c.body ++ c.pad) more, append_assoc c.body c.pad more)
          (riff_head plain c.id (length c.body) (c.body ++ (c.pad ++ more)) h.id_len h.small);
      padded = rw h.form_is p;
    }

-- ---- a table of sizes

-- a chunk whose field is its size is read in any state
pub riff_neutral : (c : Chunk) → c.form ≡ riff → length c.id ≡ 4 → length c.body < 2 ^ 32 - 1 → (s : Sizes) → Head riff_front s s c
riff_neutral c f len lt s after =
    let n = length c.body in
    let no : eqb n 4294967295 ≡ false = ne_eqb n 4294967295 (λ (e : n ≡ 4294967295). omega arith) in
    rw f (riff_head s c.id n after len (omega arith) ∙ small s no)
  where
    small : (s : Sizes) → eqb (length c.body) 4294967295 ≡ false → sized s c.id (length c.body) after ≡ full_header riff c.id (length c.body) after s
    small plain e = refl
    small (table main rows) e = rw (e, sized) refl

-- `data` with the table's size
pub data_head : (body pad : List ℕ) (rows : List Row) → Head riff_front (table (length body) rows) (table (length body) rows) (record { form = wide; id = 100 ∷ 97 ∷ 116 ∷ 97 ∷ []; body = body; pad = pad })
data_head body pad rows after = riff_head (table (length body) rows) (100 ∷ 97 ∷ 116 ∷ 97 ∷ []) 4294967295 after refl (omega arith)

-- another chunk with the first row of its identifier
pub row_head : (c : Chunk) (main : ℕ) (rows left : List Row) → c.form ≡ wide → length c.id ≡ 4 → bytes_eq c.id (100 ∷ 97 ∷ 116 ∷ 97 ∷ []) ≡ false
    → first_row c.id rows ≡ Some (length c.body, left) → Head riff_front (table main rows) (table main left) c
row_head c main rows left f len other row after =
    rw f (riff_head (table main rows) c.id 4294967295 after len (omega arith) ∙ rw (other, row, sized) refl)

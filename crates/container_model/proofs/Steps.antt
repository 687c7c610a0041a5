-- One step of the chunks of a list of bytes.
use Rattle.std.proofs.Common.{◌≡◌, ℕ, zero, suc, ◌<◌, ◌≤◌, Bool, true, false, ltb, List, [], ◌∷◌, length, take, drop, refl, ap, arith, length-drop, Option}
use Rattle.std.specs.Prelude.{Some, None, ◌==◌}
use Rattle.std.specs.Str.{bytes_eq}
use Rattle.std.specs.Int.{w32, from_le_bytes}
use Rattle.std.proofs.lemmas.Bool.{ltb-false, lt-ltb, le-ltb}
use Rattle.container_model.specs.Chunk.{Form, wide, Header, too_short, no_header, past_end, full_header, Run, stopped, passes, ends, chunk_of, and_then, behind, pad_len, turn, fit, read, chunks}
use Rattle.container_model.specs.Sizes.{Row, Sizes, plain, table, first_row, sized, riff_ahead, riff_front}

-- each header takes a byte or more
abbrev pub Eats : {S : Type 0} → (S → List ℕ → Header S) → Type 0
Eats {S} front = (s next : S) (b id after : List ℕ) (form : Form) (n : ℕ) → front s b ≡ full_header form id n after next → length after < length b

length_behind : (form : Form) (n : ℕ) (after : List ℕ) → length (behind form n after) ≤ length after
length_behind form n after = omega (arith, length-drop (pad_len form n) (drop n after), length-drop n after)

module _ {S : Type 0} (front : S → List ℕ → Header S) (eats : Eats front) where
  fit_enough : (f g : S → List ℕ → Run) (b : List ℕ) (form : Form) (id : List ℕ) (n : ℕ) (after : List ℕ) (next : S) (r : Bool)
      → f next (behind form n after) ≡ g next (behind form n after) → fit f b form id n after next r ≡ fit g b form id n after next r
  fit_enough f g b form id n after next true e = refl
  fit_enough f g b form id n after next false e = ap (and_then (chunk_of form id n after)) e

  turn_enough : (f g : S → List ℕ → Run) (s : S) (b : List ℕ) (a : Header S) → front s b ≡ a
      → ((next : S) (x : List ℕ) → length x < length b → f next x ≡ g next x) → turn f b a ≡ turn g b a
  turn_enough f g s b too_short e h = refl
  turn_enough f g s b no_header e h = refl
  turn_enough f g s b past_end e h = refl
  turn_enough f g s b (full_header form id n after next) e h =
      fit_enough f g b form id n after next (ltb (length after) n) (h next (behind form n after) (omega (arith, eats s next b id after form n e, length_behind form n after)))

  -- the count of turns does not matter where it is enough
  pub read_enough : (k m : ℕ) (s : S) (b : List ℕ) → length b < k → length b < m → read front k s b ≡ read front m s b
  unfolding read
  read_enough zero m s b lk lm = absurd (omega arith)
  read_enough (suc k) zero s b lk lm = absurd (omega arith)
  read_enough (suc k) (suc m) s b lk lm = turn_enough (read front k) (read front m) s b (front s b) refl (λ next x lt. read_enough k m next x (omega arith) (omega arith))

  pub chunks_ahead : (s next : S) (b : List ℕ) (form : Form) (id : List ℕ) (n : ℕ) (after : List ℕ) → front s b ≡ full_header form id n after next → n ≤ length after
      → chunks front s b ≡ and_then (chunk_of form id n after) (chunks front next (behind form n after))
  unfolding chunks read
  chunks_ahead s next b form id n after e fits =
      let more = behind form n after in
      let enough : read front (length b) next more ≡ read front (suc (length more)) next more = read_enough (length b) (suc (length more)) next more (omega (arith, eats s next b id after form n e, length_behind form n after)) (omega arith) in
      rw (e, le-ltb (length after) n fits) (ap (and_then (chunk_of form id n after)) enough)

  pub chunks_few : (s : S) (b : List ℕ) → front s b ≡ too_short → chunks front s b ≡ stopped ends b
  unfolding chunks read
  chunks_few s b e = rw e refl

  pub chunks_cut : (s next : S) (b : List ℕ) (form : Form) (id : List ℕ) (n : ℕ) (after : List ℕ) → front s b ≡ full_header form id n after next → length after < n
      → chunks front s b ≡ stopped passes b
  unfolding chunks read
  chunks_cut s next b form id n after e lt = rw (e, lt-ltb (length after) n lt) refl

-- ---- of RIFF

row_after : (main : ℕ) (id x : List ℕ) (f : Option (ℕ × List Row)) (form : Form) (i after : List ℕ) (m : ℕ) (next : Sizes)
    → elim f [ None ↦ no_header | Some found ↦ full_header wide id found.0 x (table main found.1) ] ≡ full_header form i m after next → after ≡ x
row_after main id x None form i after m next e = absurd cc
row_after main id x (Some found) form i after m next e = cc

pub sized_after : (s : Sizes) (id : List ℕ) (n : ℕ) (x : List ℕ) (form : Form) (i after : List ℕ) (m : ℕ) (next : Sizes) → sized s id n x ≡ full_header form i m after next → after ≡ x
sized_after plain id n x form i after m next e = cc
sized_after (table main rows) id n x form i after m next e = go (n == 4294967295) (bytes_eq id (100 ∷ 97 ∷ 116 ∷ 97 ∷ [])) e
  where
    go : (t u : Bool)
        → elim t [
          | false ↦ full_header Form.riff id n x (table main rows)
          | true ↦ elim u [
            | true ↦ full_header wide id main x (table main rows)
            | false ↦ elim (first_row id rows) [ None ↦ no_header | Some found ↦ full_header wide id found.0 x (table main found.1) ]
          ]
        ] ≡ full_header form i m after next → after ≡ x
    go false u f = cc
    go true true f = cc
    go true false f = row_after main id x (first_row id rows) form i after m next f

pub riff_eats : Eats riff_front
riff_eats s next b id after form n e = go (ltb (length b) 8) refl e
  where
    go : (t : Bool) → ltb (length b) 8 ≡ t → riff_ahead s b t ≡ full_header form id n after next → length after < length b
    go true lt f = absurd cc
    go false lt f =
        let same : after ≡ drop 8 b = sized_after s (take 4 b) (from_le_bytes w32 (take 4 (drop 4 b))) (drop 8 b) form id after n next f in
        omega (arith, ltb-false (length b) 8 lt, ap length same, length-drop 8 b)

-- The chunks that are read in a form: their identifiers, their sizes, and that each of them is read whatever follows.
use Rattle.std.proofs.Common.{◌≡◌, ℕ, zero, suc, ◌+◌, ◌-◌, ◌^◌, ◌<◌, ◌≤◌, Bool, true, false, ltb, eqb, List, [], ◌∷◌, ◌++◌, length, take, drop, Option, Some, None, refl, sym, ap, ◌∙◌, arith, inl, inr}
use Rattle.std.specs.Prelude.{◌⊎◌}
use Rattle.std.specs.Int.{w32, from_le_bytes}
use Rattle.std.specs.Str.{bytes_eq}
use Rattle.std.specs.List.{AllByRecursion}
use Rattle.std.proofs.lemmas.Bool.{ltb-false, ltb-true, eqb-false, lt-ltb}
use Rattle.std.proofs.lemmas.List.{length-take}
use Rattle.container_model.specs.Chunk.{Form, riff, wide, Chunk, spell_all, Header, too_short, no_header, past_end, full_header, Run, ends, fit, turn, read, chunks, behind, Reads, Head, Heads}
use Rattle.container_model.specs.Sizes.{Row, Sizes, plain, table, first_row, sized, riff_ahead, riff_front}
use Rattle.container_model.proofs.Codec.{IsBytes, IsBytes-drop, chunks_read, chunks_joined}
use Rattle.container_model.proofs.Fronts.{IsBytes-take, riff_neutral, riff_gives_back}
use Rattle.container_model.proofs.Moved.{riff_moves}
use Rattle.container_model.proofs.Deep.{heads_from, Closed}
use Rattle.container_model.proofs.Reread.{Neutral}
use Rattle.carrier_model.specs.Info.{own_size}

-- what a field may say: any number, or in RF64 any but FFFFFFFF
abbrev pub most : Sizes → ℕ
most plain = 2 ^ 32
most (table main rows) = 2 ^ 32 - 1

abbrev pub OfRiff : Form → Type 0
OfRiff form = (form ≡ riff) ⊎ (form ≡ wide)

pub record IsRead (limit : ℕ) (c : Chunk) : Type 0 where
  pub id_len : length c.id ≡ 4
  pub form_is : OfRiff c.form
  pub small : own_size c.form ≡ true → length c.body < limit

abbrev HeaderFine : ℕ → Header Sizes → Type 0
HeaderFine limit too_short = Unit {0}
HeaderFine limit no_header = Unit {0}
HeaderFine limit past_end = Unit {0}
HeaderFine limit (full_header form id n after next) = (length id ≡ 4) × OfRiff form × (own_size form ≡ true → n < limit) × (most next ≡ limit) × IsBytes after

low_le : (b : List ℕ) → IsBytes b → from_le_bytes w32 b < 2 ^ 32
low_le b fits = omega (arith, fits 0, fits 1, fits 2, fits 3)

row_fine : (id after : List ℕ) (main : ℕ) (found : Option (ℕ × List Row)) → length id ≡ 4 → IsBytes after
    → HeaderFine (2 ^ 32 - 1) (elim found [ None ↦ no_header | Some x ↦ full_header wide id x.0 after (table main x.1) ])
row_fine id after main None l b = tt
row_fine id after main (Some x) l b = (l, inr refl, (λ e. absurd cc), refl, b)

sized_fine : (s : Sizes) (id : List ℕ) (n : ℕ) (after : List ℕ) → length id ≡ 4 → n < 2 ^ 32 → IsBytes after → HeaderFine (most s) (sized s id n after)
sized_fine plain id n after l lt b = (l, inl refl, (λ e. lt), refl, b)
sized_fine (table main rows) id n after l lt b = go (eqb n 4294967295) (bytes_eq id (100 ∷ 97 ∷ 116 ∷ 97 ∷ [])) refl
  where
    below : eqb n 4294967295 ≡ false → n < 2 ^ 32 - 1
    below e = apart n lt (eqb-false n 4294967295 e)
      where
        apart : (n : ℕ) → n < 2 ^ 32 → (n ≡ 4294967295 → ⊥) → n < 2 ^ 32 - 1
        apart n lt unlike = elim (Rattle.std.proofs.lemmas.Bool.cases_lt n 4294967295) [ inl l ↦ omega arith | inr le ↦ absurd (unlike (omega arith)) ]

    go : (t d : Bool) → eqb n 4294967295 ≡ t → HeaderFine (2 ^ 32 - 1) (elim t [
      | false ↦ full_header riff id n after (table main rows)
      | true ↦ elim d [
        | true ↦ full_header wide id main after (table main rows)
        | false ↦ elim (first_row id rows) [ None ↦ no_header | Some found ↦ full_header wide id found.0 after (table main found.1) ]
      ]
    ])
    go false d e = (l, inl refl, (λ x. below e), refl, b)
    go true true e = (l, inr refl, (λ x. absurd cc), refl, b)
    go true false e = row_fine id after main (first_row id rows) l b

ahead_fine : (s : Sizes) (b : List ℕ) → IsBytes b → HeaderFine (most s) (riff_front s b)
ahead_fine s b fits = go (ltb (length b) 8) refl
  where
    go : (t : Bool) → ltb (length b) 8 ≡ t → HeaderFine (most s) (riff_ahead s b t)
    go true e = tt
    go false e = sized_fine s (take 4 b) (from_le_bytes w32 (take 4 (drop 4 b))) (drop 8 b) (omega (arith, length-take 4 b, ltb-false (length b) 8 e)) (low_le (take 4 (drop 4 b)) (IsBytes-take 4 (drop 4 b) (IsBytes-drop 4 b fits))) (IsBytes-drop 8 b fits)

fit_fine : (limit : ℕ) (again : Sizes → List ℕ → Run) (b : List ℕ) (form : Form) (id : List ℕ) (n : ℕ) (after : List ℕ) (next : Sizes) (r : Bool)
    → (length id ≡ 4) → OfRiff form → (own_size form ≡ true → n < limit) → AllByRecursion (IsRead limit) (again next (behind form n after)).chunks → AllByRecursion (IsRead limit) (fit again b form id n after next r).chunks
fit_fine limit again b form id n after next true l f s h = tt
fit_fine limit again b form id n after next false l f s h = (record { id_len = l; form_is = f; small = λ e. omega (arith, s e, length-take n after) }, h)

turn_fine : (limit : ℕ) (again : Sizes → List ℕ → Run) (b : List ℕ) (a : Header Sizes) → HeaderFine limit a
    → ((next : Sizes) (x : List ℕ) → IsBytes x → AllByRecursion (IsRead (most next)) (again next x).chunks) → AllByRecursion (IsRead limit) (turn again b a).chunks
turn_fine limit again b too_short h g = tt
turn_fine limit again b no_header h g = tt
turn_fine limit again b past_end h g = tt
turn_fine limit again b (full_header form id n after next) h g =
    let more : AllByRecursion (IsRead limit) (again next (behind form n after)).chunks
    = Rattle.std.proofs.Common.subst (λ (k : ℕ). AllByRecursion (IsRead k) (again next (behind form n after)).chunks) h.3 (g next (behind form n after) (IsBytes-drop _ (drop n after) (IsBytes-drop n after h.4))) in
    fit_fine limit again b form id n after next (ltb (length after) n) h.0 h.1 h.2 more

read_fine : (k : ℕ) (s : Sizes) (b : List ℕ) → IsBytes b → AllByRecursion (IsRead (most s)) (read riff_front k s b).chunks
unfolding read
read_fine zero s b fits = tt
read_fine (suc k) s b fits = turn_fine (most s) (read riff_front k) b (riff_front s b) (ahead_fine s b fits) (λ next x f. read_fine k next x f)

pub chunks_fine : (s : Sizes) (b : List ℕ) → IsBytes b → AllByRecursion (IsRead (most s)) (chunks riff_front s b).chunks
unfolding chunks
chunks_fine s b fits = read_fine (suc (length b)) s b fits

-- ---- their headers

closed_all : (limit : ℕ) (cs : List Chunk) → AllByRecursion (IsRead limit) cs → Closed cs
closed_all limit [] h = tt
closed_all limit (c ∷ cs) h = (one h.0.form_is, closed_all limit cs h.1)
  where
    one : OfRiff c.form → c.form ≡ Rattle.container_model.specs.Chunk.to_end → ⊥
    one (inl e) f = let no : riff ≡ Rattle.container_model.specs.Chunk.to_end = sym e ∙ f in absurd cc
    one (inr e) f = let no : wide ≡ Rattle.container_model.specs.Chunk.to_end = sym e ∙ f in absurd cc

pub read_heads : (s : Sizes) (b : List ℕ) → IsBytes b → (chunks riff_front s b).stop ≡ ends → Heads riff_front s (chunks riff_front s b).chunks
read_heads s b bytes e =
    let r = chunks riff_front s b in
    let whole : IsBytes (spell_all r.chunks ++ r.left) = rw (chunks_joined riff_front riff_gives_back s b bytes) bytes in
    heads_from riff_front riff_moves s r.chunks r.left whole (closed_all (most s) r.chunks (chunks_fine s b bytes)) (chunks_read riff_front riff_gives_back s b bytes e)

-- a chunk of its own size is read in any state
pub neutral : (c : Chunk) → length c.id ≡ 4 → c.form ≡ riff → length c.body < 2 ^ 32 - 1 → Neutral riff_front c
neutral c l f lt = riff_neutral c f l lt

-- ---- the rest

too_short_is : (s : Sizes) (b : List ℕ) → riff_front s b ≡ too_short → length b < 8
too_short_is s b e = go (ltb (length b) 8) refl e
  where
    never_short : (s : Sizes) (id : List ℕ) (n : ℕ) (after : List ℕ) → sized s id n after ≡ too_short → ⊥
    never_short plain id n after e = absurd cc
    never_short (table main rows) id n after e = by (eqb n 4294967295) (bytes_eq id (100 ∷ 97 ∷ 116 ∷ 97 ∷ [])) (first_row id rows) e
      where
        by : (t d : Bool) (r : Option (ℕ × List Row)) → ◌≡◌ {A = Header Sizes} (elim t [
          | false ↦ full_header riff id n after (table main rows)
          | true ↦ elim d [
            | true ↦ full_header wide id main after (table main rows)
            | false ↦ elim r [ None ↦ no_header | Some found ↦ full_header wide id found.0 after (table main found.1) ]
          ]
        ]) too_short → ⊥
        by false d r e = absurd cc
        by true true r e = absurd cc
        by true false None e = absurd cc
        by true false (Some found) e = absurd cc

    go : (t : Bool) → ltb (length b) 8 ≡ t → riff_ahead s b t ≡ too_short → length b < 8
    go true i e = ltb-true _ _ i
    go false i e = absurd (never_short s (take 4 b) (from_le_bytes w32 (take 4 (drop 4 b))) (drop 8 b) e)

rest_short : (s : Sizes) (cs : List Chunk) (left : List ℕ) → Reads riff_front s cs left → length left < 8
rest_short s [] left r = too_short_is s left r
rest_short s (c ∷ cs) left r = rest_short r.0 cs left r.2

pub short_rest : (s : Sizes) (b : List ℕ) → IsBytes b → (chunks riff_front s b).stop ≡ ends → length (chunks riff_front s b).left < 8
short_rest s b bytes e = rest_short s (chunks riff_front s b).chunks (chunks riff_front s b).left (chunks_read riff_front riff_gives_back s b bytes e)

-- The headers of atoms are read as they are spelled.
use Rattle.std.proofs.Common.{◌≡◌, ℕ, ◌+◌, ◌-◌, ◌^◌, ◌<◌, ◌≤◌, Bool, true, false, ltb, eqb, List, ◌++◌, length, take, drop, refl, sym, ap, ◌∙◌, append_assoc, arith}
use Rattle.std.specs.Int.{w32, w64, to_be_bytes, from_be_bytes}
use Rattle.std.proofs.lemmas.Bool.{ltb-false, le-ltb, lt-ltb, eqb-true, ne_eqb}
use Rattle.std.proofs.lemmas.Nat.{be_bytes_4, be_bytes_8, from_be_bytes-to_be_bytes_4}
use Rattle.std.proofs.lemmas.List.{take-append-drop, take_at, drop_at, length-append, length-take, length-drop, drop-drop}
use Rattle.container_model.specs.Chunk.{short, Chunk, full_header, GivesBack, Head, IsRest}
use Rattle.container_model.specs.Sizes.{Level, top, inside, user, kind_at, atom_zero, atom_short, atom_long, atom_wide, atom_by, atom_ahead, atom_front}
use Rattle.container_model.proofs.Codec.{IsBytes, IsBytes-drop}
use Rattle.container_model.proofs.Fronts.{IsBytes-take, eight, Spelled, Spelled-full_header}

number_back : (b : List ℕ) → IsBytes b → 8 ≤ length b → to_be_bytes w32 (from_be_bytes w32 (take 4 b)) ≡ take 4 b
number_back b fits len = be_bytes_4 (take 4 b) _ (omega (arith, length-take 4 b)) (IsBytes-take 4 b fits) refl

wide_back : (b : List ℕ) → IsBytes b → 16 ≤ length b → to_be_bytes w64 (from_be_bytes w64 (take 8 (drop 8 b))) ≡ take 8 (drop 8 b)
wide_back b fits len = be_bytes_8 (take 8 (drop 8 b)) _ (omega (arith, length-take 8 (drop 8 b), length-drop 8 b)) (IsBytes-take 8 (drop 8 b) (IsBytes-drop 8 b fits)) refl

module _ (b : List ℕ) (fits : IsBytes b) (len : 8 ≤ length b) where
  -- the first eight bytes, where the number is known
  first_eight : (n : ℕ) → from_be_bytes w32 (take 4 b) ≡ n → b ≡ (to_be_bytes w32 n ++ kind_at b) ++ drop 8 b
  first_eight n e =
      let front : to_be_bytes w32 n ≡ take 4 b = ap (to_be_bytes w32) (sym e) ∙ number_back b fits len in
      eight b ∙ ap (λ (x : List ℕ). x ++ (kind_at b ++ drop 8 b)) (sym front) ∙ sym (append_assoc (to_be_bytes w32 n) (kind_at b) (drop 8 b))

  short_spelled : (s : Level) (t : Bool) → ltb (from_be_bytes w32 (take 4 b)) 8 ≡ t → Spelled b (atom_short s b (from_be_bytes w32 (take 4 b)) t)
  short_spelled s true e = tt
  short_spelled s false e =
      let n = from_be_bytes w32 (take 4 b) in
      let back : (n - 8) + 8 ≡ n = omega (arith, ltb-false n 8 e) in
      rw back (first_eight n refl)

  zero_spelled : (s : Level) → from_be_bytes w32 (take 4 b) ≡ 0 → Spelled b (atom_zero s b)
  zero_spelled top e = first_eight 0 e
  zero_spelled inside e = tt
  zero_spelled user e = tt

  long_spelled : (s : Level) → from_be_bytes w32 (take 4 b) ≡ 1 → 16 ≤ length b → (t : Bool) → ltb (from_be_bytes w64 (take 8 (drop 8 b))) 16 ≡ t → Spelled b (atom_long s b (from_be_bytes w64 (take 8 (drop 8 b))) t)
  long_spelled s one room true e = tt
  long_spelled s one room false e =
      let n = from_be_bytes w64 (take 8 (drop 8 b)) in
      let back : (n - 16) + 16 ≡ n = omega (arith, ltb-false n 16 e) in
      let wide = wide_back b fits room in
      let rest : drop 8 b ≡ to_be_bytes w64 n ++ drop 16 b = sym (take-append-drop 8 (drop 8 b)) ∙ ap (λ (x : List ℕ). take 8 (drop 8 b) ++ x) (drop-drop 8 8 b) ∙ ap (λ (x : List ℕ). x ++ drop 16 b) (sym wide) in
      let whole : (to_be_bytes w32 1 ++ kind_at b) ++ (to_be_bytes w64 n ++ drop 16 b) ≡ (to_be_bytes w32 1 ++ (kind_at b ++ to_be_bytes w64 n)) ++ drop 16 b = simp append_assoc in
      rw back (first_eight 1 one ∙ ap (λ (x : List ℕ). (to_be_bytes w32 1 ++ kind_at b) ++ x) rest ∙ whole)

  wide_spelled : (s : Level) → from_be_bytes w32 (take 4 b) ≡ 1 → (t : Bool) → ltb (length b) 16 ≡ t → Spelled b (atom_wide s b t)
  wide_spelled s one true e = tt
  wide_spelled s one false e = long_spelled s one (ltb-false (length b) 16 e) (ltb (from_be_bytes w64 (take 8 (drop 8 b))) 16) refl

  by_spelled : (s : Level) (t u : Bool) → eqb (from_be_bytes w32 (take 4 b)) 1 ≡ t → eqb (from_be_bytes w32 (take 4 b)) 0 ≡ u → Spelled b (atom_by s b (from_be_bytes w32 (take 4 b)) t u)
  by_spelled s true u e i = wide_spelled s (eqb-true _ 1 e) (ltb (length b) 16) refl
  by_spelled s false true e i = zero_spelled s (eqb-true _ 0 i)
  by_spelled s false false e i = short_spelled s (ltb (from_be_bytes w32 (take 4 b)) 8) refl

atom_spelled : (s : Level) (b : List ℕ) → IsBytes b → Spelled b (atom_front s b)
atom_spelled s b fits = go (ltb (length b) 8) refl
  where
    go : (t : Bool) → ltb (length b) 8 ≡ t → Spelled b (atom_ahead s b t)
    go true e = tt
    go false e = by_spelled b fits (ltb-false _ _ e) s (eqb (from_be_bytes w32 (take 4 b)) 1) (eqb (from_be_bytes w32 (take 4 b)) 0) refl refl

pub atoms_give_back : GivesBack atom_front
atoms_give_back s next b id after form n fits e = Spelled-full_header b (atom_front s b) form id n after next (atom_spelled s b fits) e

-- ---- a header that is spelled is read

pub short_head : (s : Level) (c : Chunk) → c.form ≡ short → length c.id ≡ 4 → length c.body + 8 < 2 ^ 32 → Head atom_front s s c
short_head s c f len lt after =
    let n = length c.body in
    let h = to_be_bytes w32 (n + 8) ++ c.id in
    let long_enough : ltb (length (h ++ after)) 8 ≡ false = le-ltb _ _ (omega (arith, length-append h after, length-append (to_be_bytes w32 (n + 8)) c.id)) in
    let split : h ++ after ≡ to_be_bytes w32 (n + 8) ++ (c.id ++ after) = append_assoc (to_be_bytes w32 (n + 8)) c.id after in
    let first : take 4 (h ++ after) ≡ to_be_bytes w32 (n + 8) = refl in
    let kind : kind_at (h ++ after) ≡ c.id = ap (take 4) (ap (drop 4) split) ∙ take_at c.id after 4 len in
    let back : drop 8 (h ++ after) ≡ after = drop_at h after 8 (omega (arith, length-append (to_be_bytes w32 (n + 8)) c.id)) in
    let num : from_be_bytes w32 (take 4 (h ++ after)) ≡ n + 8 = from_be_bytes-to_be_bytes_4 (n + 8) lt in
    let one : eqb (n + 8) 1 ≡ false = ne_eqb (n + 8) 1 (λ (e : n + 8 ≡ 1). omega arith) in
    let nul : eqb (n + 8) 0 ≡ false = ne_eqb (n + 8) 0 (λ (e : n + 8 ≡ 0). omega arith) in
    let big : ltb (n + 8) 8 ≡ false = le-ltb _ _ (omega arith) in
    let less : (n + 8) - 8 ≡ n = omega arith in
    let go : atom_ahead s (h ++ after) false ≡ full_header short c.id n after s = by_number (h ++ after) num one nul big less kind back in
    rw f (ap (atom_ahead s (h ++ after)) long_enough ∙ go)
  where
    by_number : (b : List ℕ) → from_be_bytes w32 (take 4 b) ≡ length c.body + 8 → eqb (length c.body + 8) 1 ≡ false → eqb (length c.body + 8) 0 ≡ false → ltb (length c.body + 8) 8 ≡ false
        → (length c.body + 8) - 8 ≡ length c.body → kind_at b ≡ c.id → drop 8 b ≡ after → atom_ahead s b false ≡ full_header short c.id (length c.body) after s
    by_number b num one nul big less kind back = rw (num, one, nul, big, less, kind, back) refl

pub atom_rest : (left : List ℕ) → length left < 8 → IsRest atom_front left
atom_rest left h s = ap (atom_ahead s left) (lt-ltb (length left) 8 h)

-- Hexadecimal digits and the bytes that they write.
use Rattle.std.proofs.Common.{◌≡◌, ℕ, zero, suc, ◌+◌, ◌*◌, ◌/◌, ◌%◌, ◌<◌, ◌≤◌, List, [], ◌∷◌, ◌++◌, length, get_or, drop, take, set, Bool, true, ◌==◌, ◌||◌, refl, sym, ap, ◌∙◌, arith, inl, inr, if◌then◌else◌, append_assoc}
use Rattle.std.specs.Prelude.{◌⊎◌}
use Rattle.std.specs.Int.{is_in_range}
use Rattle.std.specs.List.{list_all}
use Rattle.std.specs.Char.{is_ascii_hexdigit, digit_value}
use Rattle.std.specs.Fmt.{digit_glyph}
use Rattle.std.proofs.lemmas.Bool.{and_parts, or_cases, leb-true, lt-ltb, le-ltb}
use Rattle.std.proofs.lemmas.List.{at_drop_more, take_more_set, length-drop, append-nil}
use Rattle.field_model.specs.Numbers.{hex_bytes, hex_text}

between : (low high x : ℕ) → is_in_range low high x ≡ true → (low ≤ x) × (x ≤ high)
between low high x h = let p = and_parts _ _ h in (leb-true low x p.0, leb-true x high p.1)

hex_digit_small : (x : ℕ) → is_ascii_hexdigit x ≡ true → digit_value x < 16
hex_digit_small x h = go (or_cases (is_in_range 48 57 x || is_in_range 65 70 x) (is_in_range 97 102 x) h)
  where
    decimal : (48 ≤ x) × (x ≤ 57) → digit_value x < 16
    decimal r = rw (le-ltb x 48 r.0, lt-ltb x 58 (omega (arith, r.1))) (omega (arith, r.0, r.1))

    upper : (65 ≤ x) × (x ≤ 70) → digit_value x < 16
    upper r = rw (le-ltb x 48 (omega (arith, r.0)), le-ltb x 58 (omega (arith, r.0)), le-ltb x 65 r.0, lt-ltb x 91 (omega (arith, r.1))) (omega (arith, r.0, r.1))

    lower : (97 ≤ x) × (x ≤ 102) → digit_value x < 16
    lower r = rw (le-ltb x 48 (omega (arith, r.0)), le-ltb x 58 (omega (arith, r.0)), le-ltb x 65 (omega (arith, r.0)), le-ltb x 91 (omega (arith, r.0)), le-ltb x 97 r.0, lt-ltb x 123 (omega (arith, r.1))) (omega (arith, r.0, r.1))

    inner : (is_in_range 48 57 x ≡ true) ⊎ (is_in_range 65 70 x ≡ true) → digit_value x < 16
    inner (inl t) = decimal (between 48 57 x t)
    inner (inr t) = upper (between 65 70 x t)

    go : ((is_in_range 48 57 x || is_in_range 65 70 x) ≡ true) ⊎ (is_in_range 97 102 x ≡ true) → digit_value x < 16
    go (inl t) = inner (or_cases (is_in_range 48 57 x) (is_in_range 65 70 x) t)
    go (inr t) = lower (between 97 102 x t)

pub hex_at : (text : List ℕ) (k : ℕ) → list_all is_ascii_hexdigit text ≡ true → k < length text → digit_value (get_or text k 0) < 16
hex_at [] k h inside = absurd (omega arith)
hex_at (x ∷ text) zero h inside = hex_digit_small x (and_parts (is_ascii_hexdigit x) (list_all is_ascii_hexdigit text) h).0
hex_at (x ∷ text) (suc k) h inside = hex_at text k (and_parts (is_ascii_hexdigit x) (list_all is_ascii_hexdigit text) h).1 (omega arith)

-- a byte more
hex_next : (text : List ℕ) (i : ℕ) → 2 * i + 1 < length text → hex_bytes (drop (2 * i) text) ≡ (digit_value (get_or text (2 * i) 0) * 16 + digit_value (get_or text (2 * i + 1) 0)) ∷ hex_bytes (drop (2 * (i + 1)) text)
hex_next text i inside =
    let one = at_drop_more (λ (xs : List ℕ). hex_bytes xs) text (2 * i) 0 (omega (arith, inside)) in
    let two = at_drop_more (λ (xs : List ℕ). hex_bytes (get_or text (2 * i) 0 ∷ xs)) text (2 * i + 1) 0 inside in
    let place : 2 * i + 1 + 1 ≡ 2 * (i + 1) = omega arith in
    one ∙ two ∙ ap (λ (k : ℕ). (digit_value (get_or text (2 * i) 0) * 16 + digit_value (get_or text (2 * i + 1) 0)) ∷ hex_bytes (drop k text)) place

pub hex_step : (text bytes whole : List ℕ) (i v : ℕ) → 2 * i + 1 < length text → i < length bytes → v ≡ digit_value (get_or text (2 * i) 0) * 16 + digit_value (get_or text (2 * i + 1) 0)
    → take i bytes ++ hex_bytes (drop (2 * i) text) ≡ whole → take (i + 1) (set bytes i v) ++ hex_bytes (drop (2 * (i + 1)) text) ≡ whole
hex_step text bytes whole i v inside room is so_far =
    ap (λ (xs : List ℕ). xs ++ hex_bytes (drop (2 * (i + 1)) text)) (take_more_set bytes i v room)
    ∙ append_assoc (take i bytes) (v ∷ []) (hex_bytes (drop (2 * (i + 1)) text))
    ∙ ap (λ (x : ℕ). take i bytes ++ (x ∷ hex_bytes (drop (2 * (i + 1)) text))) is
    ∙ ap (λ (xs : List ℕ). take i bytes ++ xs) (sym (hex_next text i inside)) ∙ so_far

short_hex : (xs : List ℕ) → length xs ≤ 1 → hex_bytes xs ≡ []
short_hex [] h = refl
short_hex (x ∷ []) h = refl
short_hex (x ∷ y ∷ xs) h = absurd (omega arith)

pub hex_end : (text bytes whole : List ℕ) (i : ℕ) → length text ≤ 2 * i + 1 → take i bytes ++ hex_bytes (drop (2 * i) text) ≡ whole → take i bytes ≡ whole
hex_end text bytes whole i past so_far =
    sym (append-nil (take i bytes)) ∙ ap (λ (xs : List ℕ). take i bytes ++ xs) (sym (short_hex (drop (2 * i) text) (omega (arith, past, length-drop (2 * i) text)))) ∙ so_far

-- ---- the digits of bytes

pub length-hex_text : (upper : Bool) (raw : List ℕ) → length (hex_text upper raw) ≡ length raw * 2
length-hex_text upper [] = refl
length-hex_text upper (x ∷ raw) = omega (arith, length-hex_text upper raw)

pub hex_text_at : (upper : Bool) (raw : List ℕ) (k : ℕ) → k < length raw * 2 → get_or (hex_text upper raw) k 0 ≡ digit_glyph upper (if k % 2 == 0 then get_or raw (k / 2) 0 / 16 else get_or raw (k / 2) 0 % 16)
hex_text_at upper [] k inside = absurd (omega arith)
hex_text_at upper (x ∷ raw) zero inside = refl
hex_text_at upper (x ∷ raw) (suc zero) inside = refl
hex_text_at upper (x ∷ raw) (suc (suc k)) inside =
    let half : suc (suc k) / 2 ≡ suc (k / 2) = omega arith in
    let odd : suc (suc k) % 2 ≡ k % 2 = omega arith in
    hex_text_at upper raw k (omega (arith, inside)) ∙ sym (rw (half, odd) refl)

-- Text with escapes is one line of UTF-8.
use Rattle.std.proofs.Common.{◌≡◌, ℕ, zero, suc, ◌-◌, ◌/◌, ◌%◌, ◌<◌, ◌≤◌, List, [], ◌∷◌, ◌++◌, length, take, drop, Bool, true, false, ◌==◌, ◌&&◌, refl, sym, ap, ◌∙◌, arith, subst, Option, Some, None, if◌then◌else◌, nat_lt, nat_le, ltb-true, ltb-false, length-append, length-drop, take_all}
use Rattle.std.specs.Prelude.{is_some}
use Rattle.std.specs.List.{AllByRecursion}
use Rattle.std.specs.Char.{encode_utf8}
use Rattle.std.specs.Fmt.{digit_glyph}
use Rattle.std.specs.Str.{IsAscii, IsUtf8}
use Rattle.std.proofs.lemmas.Bool.{or_parts, leb-false}
use Rattle.std.proofs.lemmas.Bool.Decides.{nat_tests}
use Rattle.std.proofs.lemmas.List.{take-append-le}
use Rattle.std.proofs.lemmas.Str.{IsUtf8-append, IsUtf8-encode, IsUtf8-from_ascii, IsUtf8-nil}
use Rattle.bstr.specs.Utf8.{decoded}
use Rattle.bstr.proofs.lemmas.SoundLemmas.{SpellsChar, SpellsChar-decoded}
use Rattle.escapes.specs.Escapes.{IsPrintable, escaped_byte, escaped_from, hex_escape, is_hidden, wide_len}
use Rattle.escapes.proofs.Undone.{AreHigh, are_high, high}

-- ---- a byte by itself

-- a printable byte of ASCII
abbrev IsLetter : ℕ → Type 0
IsLetter x = (32 ≤ x) × (x < 127)

glyph_letter : (d : ℕ) → d < 16 → IsLetter (digit_glyph true d)
glyph_letter d h = (grind (arith, nat_tests), grind (arith, nat_tests))

byte_letters : (b : ℕ) → b < 256 → AllByRecursion IsLetter (escaped_byte b)
byte_letters b small = slash (b == 92)
  where
    literal : (x : ℕ) → 32 ≤ x → x < 127 → AllByRecursion IsLetter (92 ∷ x ∷ [])
    literal x low up = ((omega arith, omega arith), ((low, up), tt))

    hidden : (t : Bool) → is_hidden b ≡ t → AllByRecursion IsLetter (if t then hex_escape b else b ∷ [])
    hidden true e = ((omega arith, omega arith), ((omega arith, omega arith), (glyph_letter (b / 16) (omega (arith, small)), (glyph_letter (b % 16) (omega arith), tt))))
    hidden false e = let z = or_parts (nat_lt b 32) (nat_le 127 b) e in ((ltb-false b 32 z.0, leb-false 127 b z.1), tt)

    tab : (t : Bool) → AllByRecursion IsLetter (if t then 92 ∷ 116 ∷ [] else (if is_hidden b then hex_escape b else b ∷ []))
    tab true = literal 116 (omega arith) (omega arith)
    tab false = hidden (is_hidden b) refl

    return : (t : Bool) → AllByRecursion IsLetter (if t then 92 ∷ 114 ∷ [] else (if b == 9 then 92 ∷ 116 ∷ [] else (if is_hidden b then hex_escape b else b ∷ [])))
    return true = literal 114 (omega arith) (omega arith)
    return false = tab (b == 9)

    newline : (t : Bool) → AllByRecursion IsLetter (if t then 92 ∷ 110 ∷ [] else (if b == 13 then 92 ∷ 114 ∷ [] else (if b == 9 then 92 ∷ 116 ∷ [] else (if is_hidden b then hex_escape b else b ∷ []))))
    newline true = literal 110 (omega arith) (omega arith)
    newline false = return (b == 13)

    slash : (t : Bool)
        → AllByRecursion IsLetter (if t then 92 ∷ 92 ∷ [] else (if b == 10 then 92 ∷ 110 ∷ [] else (if b == 13 then 92 ∷ 114 ∷ [] else (if b == 9 then 92 ∷ 116 ∷ [] else (if is_hidden b then hex_escape b else b ∷ [])))))
    slash true = literal 92 (omega arith) (omega arith)
    slash false = newline (b == 10)

ascii : (xs : List ℕ) → AllByRecursion IsLetter xs → IsAscii xs
ascii [] h i = omega arith
ascii (x ∷ xs) h zero = omega (arith, h.0.1)
ascii (x ∷ xs) h (suc i) = ascii xs h.1 i

printable : (xs ys : List ℕ) → AllByRecursion IsLetter xs → AllByRecursion IsPrintable ys → AllByRecursion IsPrintable (xs ++ ys)
printable [] ys h rest = rest
printable (x ∷ xs) ys h rest = ((h.0.0, λ e. omega (arith, e, h.0.1)), printable xs ys h.1 rest)

-- ---- all bytes are printable

high_printable : (b : ℕ) → 127 < b → IsPrintable b
high_printable b h = (omega (arith, h), λ e. omega (arith, e, h))

pub printable_from : (n : ℕ) (bs : List ℕ) → AllByRecursion (λ b. b < 256) bs → AreHigh n bs → AllByRecursion IsPrintable (escaped_from n bs)
printable_from n [] small are = tt
printable_from (suc n) (b ∷ bs) small are = (high_printable b are.0, printable_from n bs small.1 are.1)
printable_from zero (b ∷ bs) small are = go (nat_lt 0 (wide_len (b ∷ bs))) refl (printable_from (wide_len (b ∷ bs) - 1) bs small.1 behind) (printable_from 0 bs small.1 tt)
  where
    behind : AreHigh (wide_len (b ∷ bs) - 1) bs
    behind = are_high (wide_len (b ∷ bs) - 1) bs (λ j lt. high (b ∷ bs) (suc j) (omega (arith, lt)))

    go : (t : Bool) → nat_lt 0 (wide_len (b ∷ bs)) ≡ t → AllByRecursion IsPrintable (escaped_from (wide_len (b ∷ bs) - 1) bs) → AllByRecursion IsPrintable (escaped_from 0 bs)
        → AllByRecursion IsPrintable (if t then b ∷ escaped_from (wide_len (b ∷ bs) - 1) bs else escaped_byte b ++ escaped_from 0 bs)
    go true wide inside alone = (high_printable b (high (b ∷ bs) 0 (ltb-true 0 (wide_len (b ∷ bs)) wide)), inside)
    go false wide inside alone = printable (escaped_byte b) (escaped_from 0 bs) (byte_letters b small.0) alone

-- ---- it is UTF-8

-- the bytes of a character stay
stays : (n : ℕ) (bs : List ℕ) → n ≤ length bs → escaped_from n bs ≡ take n bs ++ escaped_from 0 (drop n bs)
stays zero bs h = refl
stays (suc n) [] h = absurd (omega arith)
stays (suc n) (b ∷ bs) h = ap (λ (xs : List ℕ). b ∷ xs) (stays n bs (omega (arith, h)))

-- a wide character that some bytes begin with
record IsWide (bs : List ℕ) : Type 0 where
  code : ℕ
  spelled : SpellsChar bs code (wide_len bs)

wide_by : (bs : List ℕ) (o : Option ℕ) → (decoded bs).char ≡ o → 0 < (if is_some o && nat_lt 1 (decoded bs).size then (decoded bs).size else 0)
    → (y : ℕ) × (o ≡ Some y) × ((if is_some o && nat_lt 1 (decoded bs).size then (decoded bs).size else 0) ≡ (decoded bs).size)
wide_by bs None is some = absurd (omega (arith, some))
wide_by bs (Some y) is some = (y, refl, go (nat_lt 1 (decoded bs).size) some)
  where
    go : (t : Bool) → 0 < (if t then (decoded bs).size else 0) → (if t then (decoded bs).size else 0) ≡ (decoded bs).size
    go true h = refl
    go false h = absurd (omega (arith, h))

is_wide : (bs : List ℕ) → 0 < wide_len bs → IsWide bs
unfolding wide_len
is_wide bs some =
    let z = wide_by bs (decoded bs).char refl some in
    record { code = z.0; spelled = subst (SpellsChar bs z.0) (sym z.2) (SpellsChar-decoded bs z.0 z.1) }

small_drop : (n : ℕ) (bs : List ℕ) → AllByRecursion (λ b. b < 256) bs → AllByRecursion (λ b. b < 256) (drop n bs)
small_drop zero bs h = h
small_drop (suc n) [] h = h
small_drop (suc n) (b ∷ bs) h = small_drop n bs h.1

take_first : (b : ℕ) (bs : List ℕ) (k : ℕ) → 0 < k → b ∷ take (k - 1) bs ≡ take k (b ∷ bs)
take_first b bs zero some = absurd (omega (arith, some))
take_first b bs (suc j) some = ap (λ (m : ℕ). b ∷ take m bs) (omega arith)

take_front : (bs front : List ℕ) (k : ℕ) → bs ≡ front ++ drop k bs → length front ≡ k → take k bs ≡ front
take_front bs front k e long = ap (take k) e ∙ take-append-le k front (drop k bs) (omega (arith, long)) ∙ take_all k front (omega (arith, long))

-- the text of bytes that begin with a wide character
wide_utf8 : (b : ℕ) (bs : List ℕ) (k : ℕ) → k ≡ wide_len (b ∷ bs) → 0 < k → IsUtf8 (escaped_from 0 (drop (k - 1) bs)) → IsUtf8 (b ∷ escaped_from (k - 1) bs)
wide_utf8 b bs k is some rest =
    let wide = is_wide (b ∷ bs) (omega (arith, is, some)) in
    let spelled : SpellsChar (b ∷ bs) wide.code k = subst (SpellsChar (b ∷ bs) wide.code) (sym is) wide.spelled in
    let front = encode_utf8 wide.code in
    let long : k ≤ length (b ∷ bs) = omega (arith, ap length spelled.bytes, length-append front (drop k (b ∷ bs)), spelled.width) in
    let text : b ∷ escaped_from (k - 1) bs ≡ front ++ escaped_from 0 (drop (k - 1) bs) =
    ap (λ (xs : List ℕ). b ∷ xs) (stays (k - 1) bs (omega (arith, long, some)))
    ∙ ap (λ (xs : List ℕ). xs ++ escaped_from 0 (drop (k - 1) bs)) (take_first b bs k some ∙ take_front (b ∷ bs) front k spelled.bytes spelled.width)
    in
    subst IsUtf8 (sym text) (IsUtf8-append front (escaped_from 0 (drop (k - 1) bs)) (IsUtf8-encode wide.code spelled.scalar) rest)

pub utf8_by : (fuel : ℕ) (bs : List ℕ) → length bs ≤ fuel → AllByRecursion (λ b. b < 256) bs → IsUtf8 (escaped_from 0 bs)
utf8_by fuel [] long small = IsUtf8-nil
utf8_by zero (b ∷ bs) long small = absurd (omega (arith, long))
utf8_by (suc fuel) (b ∷ bs) long small =
    go (nat_lt 0 (wide_len (b ∷ bs))) refl (utf8_by fuel (drop (wide_len (b ∷ bs) - 1) bs) (omega (arith, long, length-drop (wide_len (b ∷ bs) - 1) bs)) (small_drop (wide_len (b ∷ bs) - 1) bs small.1))
    (utf8_by fuel bs (omega (arith, long)) small.1)
  where
    go : (t : Bool) → nat_lt 0 (wide_len (b ∷ bs)) ≡ t → IsUtf8 (escaped_from 0 (drop (wide_len (b ∷ bs) - 1) bs)) → IsUtf8 (escaped_from 0 bs)
        → IsUtf8 (if t then b ∷ escaped_from (wide_len (b ∷ bs) - 1) bs else escaped_byte b ++ escaped_from 0 bs)
    go true wide behind alone = wide_utf8 b bs (wide_len (b ∷ bs)) refl (ltb-true 0 (wide_len (b ∷ bs)) wide) behind
    go false wide behind alone = IsUtf8-append (escaped_byte b) (escaped_from 0 bs) (IsUtf8-from_ascii (escaped_byte b) (ascii (escaped_byte b) (byte_letters b small.0))) alone

-- Bytes as one line of text, with escapes that begin with a backslash (this project's own).
use Rattle.std.specs.Prelude.{◌≡◌, ◌≤◌, ℕ, zero, suc, ◌+◌, ◌-◌, ◌*◌, ◌/◌, ◌%◌, List, [], ◌∷◌, ◌++◌, Bool, true, ◌&&◌, ◌||◌, ◌==◌, nat_lt, nat_le, Option, Some, None, option_map, is_some, if◌then◌else◌}
use Rattle.std.specs.Char.{is_ascii_hexdigit, digit_value}
use Rattle.std.specs.Fmt.{digit_glyph}
use Rattle.bstr.specs.Utf8.{decoded}

-- ---- writing

-- `\x` and the two digits of a byte, in upper case
abbrev pub hex_escape : ℕ → List ℕ
hex_escape b = 92 ∷ 120 ∷ digit_glyph true (b / 16) ∷ digit_glyph true (b % 16) ∷ []

-- a byte below 20, the byte 7F, and one that isn't ASCII
abbrev pub is_hidden : ℕ → Bool
is_hidden b = nat_lt b 32 || nat_le 127 b

-- a byte by itself: `\\`, `\n`, `\r` and `\t` for those that have a letter, `\xHH` for a hidden one
abbrev pub escaped_byte : ℕ → List ℕ
escaped_byte b =
    if b == 92 then 92 ∷ 92 ∷ []
    else (if b == 10 then 92 ∷ 110 ∷ []
    else (if b == 13 then 92 ∷ 114 ∷ []
    else (if b == 9 then 92 ∷ 116 ∷ []
    else (if is_hidden b then hex_escape b else b ∷ []))))

-- how many bytes the character has that some bytes begin with, where that is none of ASCII; 0 where they begin with none
unfoldable pub wide_len : List ℕ → ℕ
wide_len bs = if is_some (decoded bs).char && nat_lt 1 (decoded bs).size then (decoded bs).size else 0

-- the text of bytes of which the first n are the rest of a character: a character that is none of ASCII stays, and each
-- other byte is written by itself, also one that is no part of valid UTF-8
abbrev pub escaped_from : ℕ → List ℕ → List ℕ
escaped_from n [] = []
escaped_from (suc n) (b ∷ bs) = b ∷ escaped_from n bs
escaped_from zero (b ∷ bs) = if nat_lt 0 (wide_len (b ∷ bs)) then b ∷ escaped_from (wide_len (b ∷ bs) - 1) bs else escaped_byte b ++ escaped_from 0 bs

abbrev pub escaped : List ℕ → List ℕ
escaped raw = escaped_from 0 raw

-- ---- reading

-- the byte that two hexadecimal digits name, of either case
abbrev pub hex_named : List ℕ → Option ℕ
hex_named [] = None
hex_named (a ∷ []) = None
hex_named (a ∷ b ∷ text) = if is_ascii_hexdigit a && is_ascii_hexdigit b then Some (digit_value a * 16 + digit_value b) else None

-- the byte that an escape names, by what stands behind its backslash
abbrev pub named : List ℕ → Option ℕ
named [] = None
named (x ∷ text) =
    if x == 92 then Some 92
    else (if x == 110 then Some 10
    else (if x == 114 then Some 13
    else (if x == 116 then Some 9
    else (if x == 120 then hex_named text else None))))

-- how many letters an escape has behind its backslash
abbrev pub letters : List ℕ → ℕ
letters [] = 0
letters (x ∷ text) = if x == 120 then 3 else 1

-- the byte that a text begins with: that of an escape, or the letter itself
abbrev pub first_byte : List ℕ → Option ℕ
first_byte [] = None
first_byte (x ∷ text) = if x == 92 then named text else Some x

-- how many more letters it takes
abbrev pub more_letters : List ℕ → ℕ
more_letters [] = 0
more_letters (x ∷ text) = if x == 92 then letters text else 0

abbrev pub put_before : Option ℕ → Option (List ℕ) → Option (List ℕ)
put_before None bytes = None
put_before (Some b) bytes = option_map (λ bs. b ∷ bs) bytes

-- the bytes of a text of which the first n letters are the rest of an escape; none at a bad escape
abbrev pub unescaped_from : ℕ → List ℕ → Option (List ℕ)
unescaped_from n [] = Some []
unescaped_from (suc n) (x ∷ text) = unescaped_from n text
unescaped_from zero (x ∷ text) = put_before (first_byte (x ∷ text)) (unescaped_from (more_letters (x ∷ text)) text)

abbrev pub unescaped : List ℕ → Option (List ℕ)
unescaped text = unescaped_from 0 text

-- bytes so far before those that are left
abbrev pub joined : List ℕ → Option (List ℕ) → Option (List ℕ)
joined bytes rest = option_map (λ bs. bytes ++ bs) rest

-- what is left of a text behind its first letter, n more of which are of an escape; none at a bad escape
abbrev pub left : Option ℕ → List ℕ → Option (List ℕ)
left None text = None
left (Some n) text = unescaped_from n text

-- a byte that isn't below 20, nor 7F
abbrev pub IsPrintable : ℕ → Type 0
IsPrintable x = (32 ≤ x) × (x ≡ 127 → ⊥)

-- Numbers as texts: decimal numbers, loudness in hundredths, and hexadecimal digits.
use Rattle.std.specs.Prelude.{ℕ, ◌+◌, ◌-◌, ◌*◌, ◌/◌, ◌%◌, ◌^◌, List, [], ◌∷◌, ◌++◌, length, drop, Bool, false, not, ◌&&◌, ◌||◌, ◌==◌, nat_le, nat_lt, if◌then◌else◌, Option, Some, None, decimal, codes}
use Rattle.std.specs.List.{list_all, flat_map, before_first, after_first}
use Rattle.std.specs.Char.{is_ascii_digit, is_ascii_hexdigit, digit_value}
use Rattle.std.specs.Fmt.{digit_glyph}
use Rattle.std.specs.Str.Parse.{digits_value}
use Rattle.field_model.specs.Dates.{has_form}

-- a decimal number without leading zeros
abbrev pub is_numeral : List ℕ → Bool
is_numeral [] = false
is_numeral (x ∷ xs) = list_all is_ascii_digit (x ∷ xs) && ((length xs == 0) || not (x == 48))

-- the number that a text writes, where it is decimal and below a bound
abbrev pub number_below : ℕ → List ℕ → Option ℕ
number_below bound text = if is_numeral text && nat_lt (digits_value 10 text) bound then Some (digits_value 10 text) else None

-- the same below 2^64
abbrev pub count_of : List ℕ → Option ℕ
count_of text = number_below (2 ^ 64) text

-- ---- loudness: a number of 16 bits with a sign, in hundredths (EBU Tech 3285, version 2)

-- two digits
abbrev pub two_digits : ℕ → List ℕ
two_digits n = (48 + n / 10) ∷ (48 + n % 10) ∷ []

-- a number of hundredths as a text
abbrev pub hundredths_text : ℕ → List ℕ
hundredths_text n = decimal (n / 100) ++ (codes "." ++ two_digits (n % 100))

-- the text of a number of 16 bits, those from 8000 on being negative
abbrev pub loudness_text : ℕ → List ℕ
loudness_text n = if nat_lt n 32768 then hundredths_text n else codes "-" ++ hundredths_text (65536 - n)

-- whether a byte is the decimal point
abbrev pub is_point : ℕ → Bool
is_point x = x == 46

-- a number without leading zeros, a point and two digits
abbrev pub is_hundredths : List ℕ → Bool
is_hundredths text = is_numeral (before_first is_point text) && has_form (codes ".dd") (drop (length (before_first is_point text)) text)

-- the number of hundredths that such a text writes
abbrev pub hundredths_of : List ℕ → ℕ
hundredths_of text = digits_value 10 (before_first is_point text) * 100 + digits_value 10 (after_first is_point text)

-- a text that begins with a minus sign
abbrev pub is_negative : List ℕ → Bool
is_negative [] = false
is_negative (x ∷ xs) = x == 45

-- the number of 16 bits that a text from 0.00 to 327.66 writes, and one from -327.68 to -0.01
abbrev pub positive_loudness : List ℕ → Option ℕ
positive_loudness text = if is_hundredths text && nat_le (hundredths_of text) 32766 then Some (hundredths_of text) else None

-- the value of a loudness text behind its sign
abbrev pub negative_loudness : List ℕ → Option ℕ
negative_loudness text = if is_hundredths text && (nat_le 1 (hundredths_of text) && nat_le (hundredths_of text) 32768) then Some (65536 - hundredths_of text) else None

-- the value of a loudness text, as 16 bits
abbrev pub loudness_of : List ℕ → Option ℕ
loudness_of text = if is_negative text then negative_loudness (drop 1 text) else positive_loudness text

-- ---- hexadecimal digits

-- the two digits of a byte, in upper case or lower case
abbrev pub hex : Bool → ℕ → List ℕ
hex upper x = digit_glyph upper (x / 16) ∷ digit_glyph upper (x % 16) ∷ []

-- bytes as hexadecimal digits, in upper or lower case
abbrev pub hex_text : Bool → List ℕ → List ℕ
hex_text upper raw = flat_map (hex upper) raw

-- a text of so many hexadecimal digits, of either case
abbrev pub is_hex : ℕ → List ℕ → Bool
is_hex n text = (length text == n) && list_all is_ascii_hexdigit text

-- the bytes that hexadecimal digits write, two digits a byte
abbrev pub hex_bytes : List ℕ → List ℕ
hex_bytes [] = []
hex_bytes (a ∷ []) = []
hex_bytes (a ∷ b ∷ text) = (digit_value a * 16 + digit_value b) ∷ hex_bytes text

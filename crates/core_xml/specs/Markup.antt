-- Texts in which four characters have names: `&amp;`, `&lt;`, `&gt;` and `&quot;` (XML 1.0, section 4.6; only these, and each of the
-- four characters has its name everywhere: this project's own).
use Rattle.std.specs.Prelude.{ℕ, zero, suc, List, [], ◌∷◌, ◌++◌, length, take, Bool, ◌||◌, ◌==◌, Option, Some, None, option_map, if◌then◌else◌, codes}
use Rattle.std.specs.Str.{bytes_eq}
use Rattle.escapes.specs.Escapes.{escaped, unescaped}

-- ---- writing

-- a character, by its name where it has one
abbrev pub marked_byte : ℕ → List ℕ
marked_byte x =
    if x == 38 then codes "&amp;"
    else (if x == 60 then codes "&lt;"
    else (if x == 62 then codes "&gt;"
    else (if x == 34 then codes "&quot;" else x ∷ [])))

-- a text with the names of its characters that have one
abbrev pub marked : List ℕ → List ℕ
marked [] = []
marked (x ∷ text) = marked_byte x ++ marked text

-- bytes as they are written: with escapes, and then with names
abbrev pub written : List ℕ → List ℕ
written bytes = marked (escaped bytes)

-- ---- reading

-- whether a text begins with a word
abbrev pub begins : List ℕ → List ℕ → Bool
begins word text = bytes_eq (take (length word) text) word

-- the character that is named behind an ampersand
abbrev pub named : List ℕ → Option ℕ
named text =
    if begins (codes "amp;") text then Some 38
    else (if begins (codes "lt;") text then Some 60
    else (if begins (codes "gt;") text then Some 62
    else (if begins (codes "quot;") text then Some 34 else None)))

-- how many letters its name has, by the first
abbrev pub letters : List ℕ → ℕ
letters [] = 3
letters (x ∷ text) = if x == 97 then 4 else (if x == 113 then 5 else 3)

-- the character that a text begins with: that of a name, or the letter itself where that has no name
abbrev pub first_byte : List ℕ → Option ℕ
first_byte [] = None
first_byte (x ∷ text) = if x == 38 then named text else (if x == 60 || x == 62 || x == 34 then None else Some x)

-- how many more letters it takes
abbrev pub more_letters : List ℕ → ℕ
more_letters [] = 0
more_letters (x ∷ text) = if x == 38 then letters text else 0

abbrev pub put_before : Option ℕ → Option (List ℕ) → Option (List ℕ)
put_before None text = None
put_before (Some b) text = option_map (λ bs. b ∷ bs) text

-- the text of marked letters of which the first n are the rest of a name; none where one must have a name, or a name is unknown
abbrev pub unmarked_from : ℕ → List ℕ → Option (List ℕ)
unmarked_from n [] = Some []
unmarked_from (suc n) (x ∷ text) = unmarked_from n text
unmarked_from zero (x ∷ text) = put_before (first_byte (x ∷ text)) (unmarked_from (more_letters (x ∷ text)) text)

abbrev pub unmarked : List ℕ → Option (List ℕ)
unmarked text = unmarked_from 0 text

-- a text so far before what is left
abbrev pub joined : List ℕ → Option (List ℕ) → Option (List ℕ)
joined text rest = option_map (λ bs. text ++ bs) rest

-- what is left of a text behind its first letter, n more of which are of a name; none where no character begins
abbrev pub left : Option ℕ → List ℕ → Option (List ℕ)
left None text = None
left (Some n) text = unmarked_from n text

abbrev pub unescaped_of : Option (List ℕ) → Option (List ℕ)
unescaped_of None = None
unescaped_of (Some text) = unescaped text

-- the bytes that were written as a text: without names, and then without escapes
abbrev pub text_of : List ℕ → Option (List ℕ)
text_of text = unescaped_of (unmarked text)

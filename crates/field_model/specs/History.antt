-- The coding history as EBU Recommendation R98 writes it: lines of items `K=V`.
use Rattle.std.specs.Prelude.{ℕ, List, [], ◌∷◌, length, take, get_or, ◌-◌, Bool, true, false, not, ◌&&◌, ◌==◌, if◌then◌else◌, codes}
use Rattle.std.specs.List.{list_all, list_any}

-- the byte in front of the first of the pieces
abbrev pub joined_front : ℕ → List (List ℕ) → List (List ℕ)
joined_front x [] = (x ∷ []) ∷ []
joined_front x (p ∷ ps) = (x ∷ p) ∷ ps

-- the pieces between the bytes that are a separator; one more than there are separators
abbrev pub pieces : ℕ → List ℕ → List (List ℕ)
pieces separator [] = [] ∷ []
pieces separator (x ∷ xs) = if x == separator then [] ∷ pieces separator xs else joined_front x (pieces separator xs)

-- an item: one of the letters A F B W M T, `=`, and a value that isn't empty and has no CR
abbrev pub is_item : List ℕ → Bool
is_item [] = false
is_item (k ∷ []) = false
is_item (k ∷ e ∷ value) =
    list_any (λ letter. k == letter) (codes "AFBWMT") && ((e == 61) && (not (length value == 0) && not (list_any (λ x. x == 13) value)))

-- no two items begin with the same letter
abbrev pub first_letter : List ℕ → ℕ
first_letter item = get_or item 0 0

-- no two are the same
abbrev pub are_distinct : List (List ℕ) → Bool
are_distinct [] = true
are_distinct (i ∷ items) = not (list_any (λ j. first_letter i == first_letter j) items) && are_distinct items

-- a line without its CR LF: items joined by commas, each letter at most once
abbrev pub is_items_line : List ℕ → Bool
is_items_line line = list_all is_item (pieces 44 line) && are_distinct (pieces 44 line)

-- a line without its LF ends with CR
abbrev pub without_last : List ℕ → List ℕ
without_last line = take (length line - 1) line

-- whether the last byte is CR
abbrev pub ends_with_cr : List ℕ → Bool
ends_with_cr line = get_or line (length line - 1) 0 == 13

-- whether a line, without its LF, is a line of a coding history
abbrev pub is_history_line : List ℕ → Bool
is_history_line line = ends_with_cr line && is_items_line (without_last line)

-- what stands before each LF is a line, and nothing stands behind the last one
abbrev pub are_lines : List (List ℕ) → Bool
are_lines [] = true
are_lines (line ∷ []) = length line == 0
are_lines (line ∷ next ∷ lines) = is_history_line line && are_lines (next ∷ lines)

-- whether a text is a coding history
abbrev pub is_history : List ℕ → Bool
is_history text = are_lines (pieces 10 text)

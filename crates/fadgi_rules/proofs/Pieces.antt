-- Pieces between separators, one after the other.
use Rattle.std.proofs.Common.{◌≡◌, ℕ, zero, suc, ◌+◌, ◌-◌, ◌<◌, ◌≤◌, List, [], ◌∷◌, length, take, drop, get_or, set, replicate, Bool, true, false, cond, refl, sym, ap, ◌∙◌, arith, subst, inl, inr}
use Rattle.std.specs.Prelude.{not, ◌||◌, ◌&&◌, ◌==◌, ◌⊎◌, codes}
use Rattle.std.specs.List.{list_any, list_all, position_or_len}
use Rattle.std.proofs.lemmas.Bool.{and_parts, eqb-true, eq-eqb, ne_eqb, cases_lt}
use Rattle.std.proofs.lemmas.List.{get_or-set_same, get_or-set_other, take_all, drop-drop, length-drop, length-set}
use Rattle.field_model.specs.History.{joined_front, pieces, is_item, first_letter, are_distinct, is_items_line, is_history_line, are_lines}
use Rattle.fadgi_rules.specs.Lines.{is_fresh, are_fresh}

abbrev place : ℕ → List ℕ → ℕ
place s xs = position_or_len (λ x. x == s) xs

-- the first piece ends before the first separator
pub piece_first : (s : ℕ) (xs : List ℕ) (k : ℕ) → k ≡ place s xs → k < length xs → pieces s xs ≡ take k xs ∷ pieces s (drop (k + 1) xs)
piece_first s [] k is inside = absurd (omega (arith, inside))
piece_first s (x ∷ xs) k is inside = go (x == s) refl (λ j e lt. piece_first s xs j e lt)
  where
    go : (t : Bool) → (x == s) ≡ t → ((j : ℕ) → j ≡ place s xs → j < length xs → pieces s xs ≡ take j xs ∷ pieces s (drop (j + 1) xs))
        → cond t ([] ∷ pieces s xs) (joined_front x (pieces s xs)) ≡ take k (x ∷ xs) ∷ pieces s (drop (k + 1) (x ∷ xs))
    go true e rest =
        let none : k ≡ 0 = is ∙ ap (λ (t : Bool). cond (not t) (1 + place s xs) 0) e in
        let P : ℕ → Type 0 = λ j. [] ∷ pieces s xs ≡ take j (x ∷ xs) ∷ pieces s (drop (j + 1) (x ∷ xs)) in
        subst P (sym none) refl
    go false e rest =
        let more : k ≡ suc (place s xs) = is ∙ ap (λ (t : Bool). cond (not t) (1 + place s xs) 0) e ∙ omega arith in
        let P : ℕ → Type 0 = λ j. joined_front x (pieces s xs) ≡ take j (x ∷ xs) ∷ pieces s (drop (j + 1) (x ∷ xs)) in
        let behind : suc (place s xs) + 1 ≡ suc (place s xs + 1) = omega arith in
        subst P (sym more)
        (ap (joined_front x) (rest (place s xs) refl (omega (arith, more, inside)))
        ∙ ap (λ (j : ℕ). take (suc (place s xs)) (x ∷ xs) ∷ pieces s (drop j (x ∷ xs))) (sym behind))

-- a text without a separator is one piece
pub piece_last : (s : ℕ) (xs : List ℕ) → place s xs ≡ length xs → pieces s xs ≡ xs ∷ []
piece_last s [] is = refl
piece_last s (x ∷ xs) is = go (x == s) refl (λ e. piece_last s xs e)
  where
    go : (t : Bool) → (x == s) ≡ t → (place s xs ≡ length xs → pieces s xs ≡ xs ∷ []) → cond t ([] ∷ pieces s xs) (joined_front x (pieces s xs)) ≡ (x ∷ xs) ∷ []
    go true e rest = let none : place s (x ∷ xs) ≡ 0 = ap (λ (t : Bool). cond (not t) (1 + place s xs) 0) e in absurd (omega (arith, none, is))
    go false e rest =
        let more : place s (x ∷ xs) ≡ 1 + place s xs = ap (λ (t : Bool). cond (not t) (1 + place s xs) 0) e in
        ap (joined_front x) (rest (omega (arith, more, is)))

-- there is a piece at least
pub some_piece : (s : ℕ) (xs : List ℕ) → 0 < length (pieces s xs)
some_piece s [] = omega arith
some_piece s (x ∷ xs) = go (x == s) (pieces s xs)
  where
    front : (ps : List (List ℕ)) → 0 < length (joined_front x ps)
    front [] = omega arith
    front (p ∷ ps) = omega arith

    go : (t : Bool) (ps : List (List ℕ)) → 0 < length (cond t ([] ∷ ps) (joined_front x ps))
    go true ps = omega arith
    go false ps = front ps

-- ---- lines

more_lines : (line : List ℕ) (ps : List (List ℕ)) → 0 < length ps → are_lines (line ∷ ps) ≡ (is_history_line line && are_lines ps)
more_lines line [] some = absurd (omega (arith, some))
more_lines line (p ∷ ps) some = refl

pub line_next : (text : List ℕ) (k : ℕ) → k ≡ place 10 text → k < length text → are_lines (pieces 10 text) ≡ (is_history_line (take k text) && are_lines (pieces 10 (drop (k + 1) text)))
line_next text k is inside = ap are_lines (piece_first 10 text k is inside) ∙ more_lines (take k text) (pieces 10 (drop (k + 1) text)) (some_piece 10 (drop (k + 1) text))

pub line_last : (text : List ℕ) → place 10 text ≡ length text → 0 < length text → are_lines (pieces 10 text) ≡ false
line_last text is some = ap are_lines (piece_last 10 text is) ∙ ne_eqb (length text) 0 (λ e. omega (arith, some, e))

-- ---- items

and_no : (a b : Bool) → b ≡ false → (a && b) ≡ false
and_no true b h = h
and_no false b h = refl

letter_small : (k : ℕ) → list_any (λ letter. k == letter) (codes "AFBWMT") ≡ true → k < 256
letter_small k h = go (k == 65) refl h
  where
    six : (t : Bool) → (k == 84) ≡ t → (t || false) ≡ true → k < 256
    six true e h = omega (arith, eqb-true k 84 e)
    six false e h = absurd cc

    five : (t : Bool) → (k == 77) ≡ t → (t || ((k == 84) || false)) ≡ true → k < 256
    five true e h = omega (arith, eqb-true k 77 e)
    five false e h = six (k == 84) refl h

    four : (t : Bool) → (k == 87) ≡ t → (t || ((k == 77) || ((k == 84) || false))) ≡ true → k < 256
    four true e h = omega (arith, eqb-true k 87 e)
    four false e h = five (k == 77) refl h

    three : (t : Bool) → (k == 66) ≡ t → (t || ((k == 87) || ((k == 77) || ((k == 84) || false)))) ≡ true → k < 256
    three true e h = omega (arith, eqb-true k 66 e)
    three false e h = four (k == 87) refl h

    two : (t : Bool) → (k == 70) ≡ t → (t || ((k == 66) || ((k == 87) || ((k == 77) || ((k == 84) || false))))) ≡ true → k < 256
    two true e h = omega (arith, eqb-true k 70 e)
    two false e h = three (k == 66) refl h

    go : (t : Bool) → (k == 65) ≡ t → (t || ((k == 70) || ((k == 66) || ((k == 87) || ((k == 77) || ((k == 84) || false)))))) ≡ true → k < 256
    go true e h = omega (arith, eqb-true k 65 e)
    go false e h = two (k == 70) refl h

item_letter : (item : List ℕ) → is_item item ≡ true → first_letter item < 256
item_letter [] h = absurd cc
item_letter (k ∷ []) h = absurd cc
item_letter (k ∷ e ∷ value) h = letter_small k (and_parts (list_any (λ letter. k == letter) (codes "AFBWMT")) _ h).0

-- a letter more that is seen
seen_more : (seen : List Bool) (k j : ℕ) → k < length seen → get_or (set seen k true) j false ≡ ((k == j) || get_or seen j false)
seen_more seen k j inside = go (k == j) refl
  where
    go : (t : Bool) → (k == j) ≡ t → get_or (set seen k true) j false ≡ (t || get_or seen j false)
    go true e = ap (λ (i : ℕ). get_or (set seen k true) i false) (sym (eqb-true k j e)) ∙ get_or-set_same seen k true false inside
    go false e = get_or-set_other seen k j true false (λ same. absurd (apart (ap (λ (i : ℕ). i == j) (sym same) ∙ eq-eqb j j refl)))
      where
        apart : (k == j) ≡ true → ⊥
        apart h = let wrong = sym e ∙ h in absurd cc

abbrev is_seen : List Bool → List (List ℕ) → Bool
is_seen seen items = list_any (λ i. get_or seen (first_letter i) false) items

any_more : (seen : List Bool) (k : ℕ) (items : List (List ℕ)) → k < length seen → is_seen (set seen k true) items ≡ (list_any (λ j. k == first_letter j) items || is_seen seen items)
any_more seen k [] inside = refl
any_more seen k (i ∷ items) inside =
    ap (λ (t : Bool). t || is_seen (set seen k true) items) (seen_more seen k (first_letter i) inside)
    ∙ ap (λ (t : Bool). ((k == first_letter i) || get_or seen (first_letter i) false) || t) (any_more seen k items inside)
    ∙ swap (k == first_letter i) (get_or seen (first_letter i) false) (list_any (λ j. k == first_letter j) items) (is_seen seen items)
  where
    swap : (a b c d : Bool) → ((a || b) || (c || d)) ≡ ((a || c) || (b || d))
    swap true b c d = refl
    swap false true true d = refl
    swap false true false d = refl
    swap false false c d = refl

fresh_all : (seen : List Bool) (items : List (List ℕ)) → length seen ≡ 256 → are_fresh seen items ≡ (list_all is_item items && (are_distinct items && not (is_seen seen items)))
fresh_all seen [] many = refl
fresh_all seen (i ∷ items) many = go (is_item i) (get_or seen (first_letter i) false) refl refl (fresh_all (set seen (first_letter i) true) items (length-set seen (first_letter i) true ∙ many))
  where
    k : ℕ
    k = first_letter i

    all : Bool
    all = list_all is_item items

    again : Bool
    again = list_any (λ j. k == first_letter j) items

    join : (x d a s : Bool) → (x && (d && not (a || s))) ≡ (x && ((not a && d) && not (false || s)))
    join false d a s = refl
    join true false true s = refl
    join true false false s = refl
    join true true true s = refl
    join true true false s = refl

    go : (t s : Bool) → is_item i ≡ t → get_or seen k false ≡ s → are_fresh (set seen k true) items ≡ (all && (are_distinct items && not (is_seen (set seen k true) items)))
        → ((t && not s) && are_fresh (set seen k true) items) ≡ ((t && all) && ((not again && are_distinct items) && not (s || is_seen seen items)))
    go false s is e rest = refl
    go true true is e rest = sym (and_no all _ (and_no (not again && are_distinct items) false refl))
    go true false is e rest =
        let inside : k < length seen = omega (arith, many, item_letter i is) in
        rest ∙ ap (λ (t : Bool). all && (are_distinct items && not t)) (any_more seen k items inside) ∙ join all (are_distinct items) again (is_seen seen items)

none_seen : (items : List (List ℕ)) → is_seen (replicate 256 false) items ≡ false
none_seen [] = refl
none_seen (i ∷ items) = ap (λ (t : Bool). t || is_seen (replicate 256 false) items) (blank 256 (first_letter i)) ∙ none_seen items
  where
    blank : (n k : ℕ) → get_or (replicate n false) k false ≡ false
    blank zero k = refl
    blank (suc n) zero = refl
    blank (suc n) (suc k) = blank n k

-- nothing is seen before the first item
pub items_first : (line : List ℕ) → are_fresh (replicate 256 false) (pieces 44 line) ≡ is_items_line line
items_first line =
    fresh_all (replicate 256 false) (pieces 44 line) refl
    ∙ ap (λ (t : Bool). list_all is_item (pieces 44 line) && (are_distinct (pieces 44 line) && not t)) (none_seen (pieces 44 line))
    ∙ ap (λ (t : Bool). list_all is_item (pieces 44 line) && t) (and_yes (are_distinct (pieces 44 line)))
  where
    and_yes : (t : Bool) → (t && true) ≡ t
    and_yes true = refl
    and_yes false = refl

pub item_next : (seen : List Bool) (rest : List ℕ) (k : ℕ) → k ≡ place 44 rest → k < length rest
    → are_fresh seen (pieces 44 rest) ≡ (is_fresh seen (take k rest) && are_fresh (set seen (first_letter (take k rest)) true) (pieces 44 (drop (k + 1) rest)))
item_next seen rest k is inside = ap (are_fresh seen) (piece_first 44 rest k is inside)

pub item_last : (seen : List Bool) (rest : List ℕ) → place 44 rest ≡ length rest → are_fresh seen (pieces 44 rest) ≡ (is_fresh seen rest && true)
item_last seen rest is = ap (are_fresh seen) (piece_last 44 rest is)

-- ---- the same of what is left of a text from a place on

-- what is left
abbrev pub left_of : List ℕ → ℕ → List ℕ
left_of xs at = take (length xs - at) (drop at xs)

left_is : (xs : List ℕ) (at : ℕ) → left_of xs at ≡ drop at xs
left_is xs at = take_all (length xs - at) (drop at xs) (omega (arith, length-drop at xs))

left_length : (xs : List ℕ) (at : ℕ) → length (left_of xs at) ≡ length xs - at
left_length xs at = ap length (left_is xs at) ∙ length-drop at xs

pub below : (a b : ℕ) → a ≤ b → (a ≡ b → ⊥) → a < b
below a b le other = go (cases_lt a b)
  where
    go : (a < b) ⊎ (b ≤ a) → a < b
    go (inl lt) = lt
    go (inr ge) = absurd (other (omega (arith, le, ge)))

drop_on : (xs : List ℕ) (at end : ℕ) → drop (end + 1) (drop at xs) ≡ drop (at + (end + 1)) xs
drop_on xs at end = drop-drop (end + 1) at xs

pub lines_end : (text : List ℕ) (at end : ℕ) → at < length text → end ≡ place 10 (left_of text at) → end ≡ length (left_of text at) → are_lines (pieces 10 (drop at text)) ≡ false
lines_end text at end inside is past =
    ap (λ (xs : List ℕ). are_lines (pieces 10 xs)) (sym (left_is text at)) ∙ line_last (left_of text at) (sym is ∙ past) (omega (arith, left_length text at, inside))

pub lines_next : (text : List ℕ) (at end : ℕ) → end ≡ place 10 (left_of text at) → end ≤ length (left_of text at) → (end ≡ length (left_of text at) → ⊥)
    → are_lines (pieces 10 (drop at text)) ≡ (is_history_line (take end (left_of text at)) && are_lines (pieces 10 (drop (at + (end + 1)) text)))
lines_next text at end is le other =
    ap (λ (xs : List ℕ). are_lines (pieces 10 xs)) (sym (left_is text at)) ∙ line_next (left_of text at) end is (below end (length (left_of text at)) le other)
    ∙ ap (λ (xs : List ℕ). is_history_line (take end (left_of text at)) && are_lines (pieces 10 xs)) (ap (drop (end + 1)) (left_is text at) ∙ drop_on text at end)

pub place_after : (xs : List ℕ) (at end : ℕ) → at ≤ length xs → end ≤ length (left_of xs at) → (end ≡ length (left_of xs at) → ⊥) → at + (end + 1) ≤ length xs
place_after xs at end inside le other = omega (arith, left_length xs at, inside, below end (length (left_of xs at)) le other)

pub items_stale : (seen : List Bool) (line : List ℕ) (at end : ℕ) → end ≡ place 44 (left_of line at) → end ≤ length (left_of line at) → is_fresh seen (take end (left_of line at)) ≡ false
    → are_fresh seen (pieces 44 (drop at line)) ≡ false
items_stale seen line at end is le stale = ap (λ (xs : List ℕ). are_fresh seen (pieces 44 xs)) (sym (left_is line at)) ∙ go (cases_lt end (length (left_of line at)))
  where
    go : (end < length (left_of line at)) ⊎ (length (left_of line at) ≤ end) → are_fresh seen (pieces 44 (left_of line at)) ≡ false
    go (inl lt) = item_next seen (left_of line at) end is lt ∙ ap (λ (t : Bool). t && are_fresh (set seen (first_letter (take end (left_of line at))) true) (pieces 44 (drop (end + 1) (left_of line at)))) stale
    go (inr ge) =
        item_last seen (left_of line at) (sym is ∙ omega (arith, ge, le))
        ∙ ap (λ (xs : List ℕ). is_fresh seen xs && true) (sym (take_all end (left_of line at) ge)) ∙ ap (λ (t : Bool). t && true) stale

pub items_end : (seen : List Bool) (line : List ℕ) (at end : ℕ) → end ≡ place 44 (left_of line at) → end ≡ length (left_of line at) → is_fresh seen (take end (left_of line at)) ≡ true
    → are_fresh seen (pieces 44 (drop at line)) ≡ true
items_end seen line at end is past fresh =
    ap (λ (xs : List ℕ). are_fresh seen (pieces 44 xs)) (sym (left_is line at)) ∙ item_last seen (left_of line at) (sym is ∙ past)
    ∙ ap (λ (xs : List ℕ). is_fresh seen xs && true) (sym (take_all end (left_of line at) (omega (arith, past)))) ∙ ap (λ (t : Bool). t && true) fresh

pub items_next : (seen : List Bool) (line : List ℕ) (at end : ℕ) → end ≡ place 44 (left_of line at) → end ≤ length (left_of line at) → (end ≡ length (left_of line at) → ⊥) → is_fresh seen (take end (left_of line at)) ≡ true
    → are_fresh seen (pieces 44 (drop at line)) ≡ are_fresh (set seen (first_letter (take end (left_of line at))) true) (pieces 44 (drop (at + (end + 1)) line))
items_next seen line at end is le other fresh =
    let next : List Bool = set seen (first_letter (take end (left_of line at))) true in
    ap (λ (xs : List ℕ). are_fresh seen (pieces 44 xs)) (sym (left_is line at)) ∙ item_next seen (left_of line at) end is (below end (length (left_of line at)) le other)
    ∙ ap (λ (t : Bool). t && are_fresh next (pieces 44 (drop (end + 1) (left_of line at)))) fresh
    ∙ ap (λ (xs : List ℕ). are_fresh next (pieces 44 xs)) (ap (drop (end + 1)) (left_is line at) ∙ drop_on line at end)

-- Lines that are joined are split again.
use Rattle.std.proofs.Common.{◌≡◌, ℕ, zero, suc, ◌<◌, ◌≤◌, List, [], ◌∷◌, ◌++◌, length, take, drop, Bool, true, false, ◌==◌, not, refl, sym, ap, ◌∙◌, arith, append_assoc, length-append, cond}
use Rattle.std.specs.List.{AllByRecursion, list_all}
use Rattle.std.proofs.Math.Seq.{take-append_seam, drop-append_seam}
use Rattle.std.proofs.lemmas.Bool.{and_parts}
use Rattle.bstr.specs.Text.{line_len, lines_from, lines_of}

-- no line feed
abbrev pub is_rest : ℕ → Bool
is_rest x = not (x == 10)

-- a line: bytes without a line feed, and one
pub record IsLine (line : List ℕ) : Type 0 where
  pub front : List ℕ
  pub free : list_all is_rest front ≡ true
  pub is : line ≡ front ++ 10 ∷ []

abbrev pub joined : List (List ℕ) → List ℕ
joined [] = []
joined (line ∷ lines) = line ++ joined lines

pub joined-append : (a b : List (List ℕ)) → joined (a ++ b) ≡ joined a ++ joined b
joined-append [] b = refl
joined-append (line ∷ a) b = ap (λ (t : List ℕ). line ++ t) (joined-append a b) ∙ sym (append_assoc line (joined a) (joined b))

first_len : (front rest : List ℕ) → list_all is_rest front ≡ true → line_len (front ++ 10 ∷ rest) ≡ suc (length front)
unfolding line_len
first_len [] rest free = refl
first_len (x ∷ front) rest free =
    let parts = and_parts (is_rest x) (list_all is_rest front) free in
    ap (λ (t : Bool). cond t 1 (suc (line_len (front ++ 10 ∷ rest)))) (is_false (x == 10) parts.0) ∙ ap suc (first_len front rest parts.1)
  where
    is_false : (t : Bool) → not t ≡ true → t ≡ false
    is_false true h = absurd cc
    is_false false h = refl

-- one line and what follows it
one_line : (n : ℕ) (text rest : List ℕ) (k : ℕ) → text ≡ take k text ++ rest → 0 < length text → line_len text ≡ k → drop k text ≡ rest → lines_from (suc n) text ≡ take k text ∷ lines_from n rest
unfolding lines_from
one_line n [] rest k split some len behind = absurd (omega (arith, some))
one_line n (x ∷ text) rest k split some len behind =
    ap (λ (m : ℕ). take m (x ∷ text) ∷ lines_from n (drop m (x ∷ text))) len ∙ ap (λ (r : List ℕ). take k (x ∷ text) ∷ lines_from n r) behind

split_by : (n : ℕ) (lines : List (List ℕ)) → AllByRecursion IsLine lines → length (joined lines) ≤ n → lines_from n (joined lines) ≡ lines
unfolding lines_from
split_by zero [] are long = refl
split_by (suc n) [] are long = refl
split_by zero (line ∷ lines) are long =
    absurd (omega (arith, ap length are.0.is, length-append are.0.front (10 ∷ []), length-append line (joined lines), long))
split_by (suc n) (line ∷ lines) are long =
    let rest = joined lines in
    let front = are.0.front in
    let whole : line ++ rest ≡ front ++ 10 ∷ rest = ap (λ (t : List ℕ). t ++ rest) are.0.is ∙ append_assoc front (10 ∷ []) rest in
    let long_line : length line ≡ suc (length front) = omega (arith, ap length are.0.is, length-append front (10 ∷ [])) in
    let len : line_len (line ++ rest) ≡ length line = ap line_len whole ∙ first_len front rest are.0.free ∙ sym long_line in
    let taken : take (length line) (line ++ rest) ≡ line = take-append_seam line rest in
    let behind : drop (length line) (line ++ rest) ≡ rest = drop-append_seam line rest in
    one_line n (line ++ rest) rest (length line) (ap (λ (t : List ℕ). t ++ rest) (sym taken)) (omega (arith, long_line, length-append line rest)) len behind
    ∙ ap (λ (t : List ℕ). t ∷ lines_from n rest) taken
    ∙ ap (λ (ls : List (List ℕ)). line ∷ ls) (split_by n lines are.1 (omega (arith, long, long_line, length-append line rest)))

pub split : (lines : List (List ℕ)) → AllByRecursion IsLine lines → lines_of (joined lines) ≡ lines
split lines are = split_by (length (joined lines)) lines are (omega arith)

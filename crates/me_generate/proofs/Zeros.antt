-- Zeros, numbers and rows, one more at a time.
use Rattle.std.proofs.Common.{◌≡◌, ℕ, ◌+◌, ◌-◌, ◌<◌, ◌≤◌, List, [], ◌∷◌, ◌++◌, length, get_or, drop, sym, ap, ◌∙◌, append_assoc, append-nil, replicate, take, Result, Ok, Err, min}
use Rattle.std.specs.Prelude.{OnOk}
use Rattle.std.proofs.lemmas.List.{at_drop_all, at_drop_more, replicate_more}
use Rattle.me_bytes.specs.Bytes.{be_bytes}
use Rattle.me_generate.specs.Bytes.{numbers, padded, zeros}

-- a zero more
pub zero_more : (o p n : List ℕ) (k : ℕ) → p ≡ o ++ replicate k 0 → n ≡ p ++ 0 ∷ [] → n ≡ o ++ replicate (k + 1) 0
zero_more o p n k so_far put = put ∙ ap (λ (x : List ℕ). x ++ 0 ∷ []) so_far ∙ append_assoc o (replicate k 0) (0 ∷ []) ∙ ap (λ (x : List ℕ). o ++ x) (replicate_more k 0)

pub zeros_all : (o p : List ℕ) (k n : ℕ) → p ≡ o ++ replicate k 0 → k ≡ n → p ≡ o ++ zeros n
unfolding zeros
zeros_all o p k n so_far same = so_far ∙ ap (λ (m : ℕ). o ++ replicate m 0) same

-- a number more
pub number_more : (xs : List ℕ) (k : ℕ) (p n whole : List ℕ) → k < length xs → n ≡ p ++ be_bytes 4 (get_or xs k 0) → p ++ numbers (drop k xs) ≡ whole → n ++ numbers (drop (k + 1) xs) ≡ whole
number_more xs k p n whole inside put so_far =
    let rest = numbers (drop (k + 1) xs) in
    let one = be_bytes 4 (get_or xs k 0) in
    ap (λ (x : List ℕ). x ++ rest) put ∙ append_assoc p one rest ∙ ap (λ (x : List ℕ). p ++ x) (sym (at_drop_more numbers xs k 0 inside)) ∙ so_far

pub numbers_end : (xs : List ℕ) (k : ℕ) (p whole : List ℕ) → length xs ≤ k → p ++ numbers (drop k xs) ≡ whole → p ≡ whole
numbers_end xs k p whole end so_far = sym (append-nil p) ∙ ap (λ (x : List ℕ). p ++ x) (sym (at_drop_all numbers xs k end)) ∙ so_far

-- a text that is filled up
pub padded_is : {T E : Type 0} (r : Result T E) (o p n text : List ℕ) (width k : ℕ) → k ≡ min width (length text) → p ≡ o ++ take k text → OnOk r (n ≡ p ++ zeros (width - k)) → OnOk r (n ≡ o ++ padded width text)
unfolding padded
padded_is (Err e) o p n text width k is front rest = tt
padded_is (Ok x) o p n text width k is front rest =
    rest ∙ ap (λ (t : List ℕ). t ++ zeros (width - k)) front ∙ append_assoc o (take k text) (zeros (width - k)) ∙ ap (λ (m : ℕ). o ++ (take m text ++ zeros (width - m))) is

-- The number of the first row that passes.
use Rattle.std.proofs.Common.{◌≡◌, ℕ, ◌<◌, List, length, get_or, Bool, true, false, sym, ap, ◌∙◌, arith, Some, None, nat_lt}
use Rattle.std.specs.Prelude.{position}
use Rattle.std.specs.List.{position_or_len}
use Rattle.std.proofs.lemmas.Bool.{cond-true, cond-false, lt-ltb, le-ltb}
use Rattle.part_tree.proofs.Words.{first_is, none_is}

pub found : {X : Type 0} (p : X → Bool) (xs : List X) (i : ℕ) (d : X) → i < length xs → ((j : ℕ) (e : X) → j < i → p (get_or xs j e) ≡ false) → p (get_or xs i d) ≡ true → Some i ≡ position p xs
found p xs i d inside before here =
    let e = first_is p xs i d inside before here in
    ap Some e ∙ sym (cond-true (nat_lt (position_or_len p xs) (length xs)) _ _ (lt-ltb (position_or_len p xs) (length xs) (omega (arith, e))))

pub not_found : {X : Type 0} (p : X → Bool) (xs : List X) (i : ℕ) (d : X) → i ≡ length xs → ((j : ℕ) (e : X) → j < i → p (get_or xs j e) ≡ false) → None ≡ position p xs
not_found p xs i d end before =
    let e = none_is p xs i d end before in
    sym (cond-false (nat_lt (position_or_len p xs) (length xs)) _ _ (le-ltb (position_or_len p xs) (length xs) (omega (arith, e, end))))

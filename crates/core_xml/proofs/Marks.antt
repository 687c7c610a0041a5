-- Names of characters, letter by letter.
use Rattle.std.proofs.Common.{◌≡◌, ℕ, ◌<◌, List, [], ◌∷◌, ◌++◌, length, drop, sym, ap, ◌∙◌, arith, Option, Some, None, refl, append_assoc}
use Rattle.core_xml.specs.Markup.{first_byte, joined, more_letters, put_before, unmarked_from}

join_one : (text : List ℕ) (byte : ℕ) (rest : Option (List ℕ)) → joined (text ++ byte ∷ []) rest ≡ joined text (put_before (Some byte) rest)
join_one text byte None = refl
join_one text byte (Some bs) = ap Some (append_assoc text (byte ∷ []) bs)

-- a letter more
pub read_one : (text new marked : List ℕ) (byte more n : ℕ) → 0 < length marked → n ≡ 0 → new ≡ text ++ byte ∷ [] → Some byte ≡ first_byte marked → more ≡ more_letters marked
    → joined new (unmarked_from more (drop 1 marked)) ≡ joined text (unmarked_from n marked)
read_one text new [] byte more n some none put is more_is = absurd (omega (arith, some))
read_one text new (x ∷ marked) byte more n some none put is more_is =
    ap (λ (bs : List ℕ). joined bs (unmarked_from more marked)) put ∙ join_one text byte (unmarked_from more marked)
    ∙ ap (λ (k : ℕ). joined text (put_before (Some byte) (unmarked_from k marked))) more_is
    ∙ ap (λ (o : Option ℕ). joined text (put_before o (unmarked_from (more_letters (x ∷ marked)) marked))) is
    ∙ ap (λ (k : ℕ). joined text (unmarked_from k (x ∷ marked))) (sym none)

-- A text that is written with names and escapes is read as it was; it has no line feed and no quotation mark, and is UTF-8.
use Rattle.std.proofs.Common.{◌≡◌, ℕ, zero, suc, ◌+◌, ◌-◌, ◌/◌, ◌%◌, ◌<◌, ◌≤◌, List, [], ◌∷◌, ◌++◌, length, Bool, true, false, ◌==◌, ◌&&◌, ◌||◌, not, Option, Some, None, refl, sym, ap, ◌∙◌, arith, subst, if◌then◌else◌, nat_lt, append_assoc, cond, inl, inr}
use Rattle.std.specs.Prelude.{codes}
use Rattle.std.specs.List.{AllByRecursion, list_all}
use Rattle.std.specs.Str.{IsUtf8, is_utf8, chars}
use Rattle.std.proofs.lemmas.Bool.{and_parts, ne_eqb, eqb-true}
use Rattle.std.proofs.lemmas.List.Folds.{list_all-append}
use Rattle.std.proofs.lemmas.Str.{IsUtf8-append, IsUtf8-encode, IsUtf8-from_is_utf8, IsUtf8-nil, encode_ascii}
use lib.Utf8.{encode, encodes, next, scalar, scalars}
use Rattle.escapes.specs.Escapes.{IsPrintable, escaped}
use Rattle.escapes.proofs.OneLine.{printable_from, utf8_by}
use Rattle.escapes.proofs.Undone.{undone_from}
use Rattle.core_xml.specs.Lines.{is_quote}
use Rattle.core_xml.specs.Markup.{first_byte, letters, marked, marked_byte, more_letters, put_before, text_of, unmarked, unmarked_from, written}

-- ---- names of characters

one_back : (x : ℕ) (rest : List ℕ) → unmarked_from 0 (marked_byte x ++ rest) ≡ put_before (Some x) (unmarked_from 0 rest)
one_back x rest = amp (x == 38) refl
  where
    quot : (t : Bool) → (x == 34) ≡ t → (x == 38) ≡ false → (x == 60) ≡ false → (x == 62) ≡ false → unmarked_from 0 ((if t then codes "&quot;" else x ∷ []) ++ rest) ≡ put_before (Some x) (unmarked_from 0 rest)
    quot true e a b c = ap (λ (y : ℕ). put_before (Some y) (unmarked_from 0 rest)) (sym (eqb-true x 34 e))
    quot false e a b c =
        ap (λ (t : Bool). put_before (if t then Rattle.core_xml.specs.Markup.named rest else (if x == 60 || x == 62 || x == 34 then None else Some x)) (unmarked_from (if x == 38 then letters rest else 0) rest)) a
        ∙ ap (λ (t : Bool). put_before (if x == 60 || x == 62 || x == 34 then None else Some x) (unmarked_from (if t then letters rest else 0) rest)) a
        ∙ ap (λ (t : Bool). put_before (if t || x == 62 || x == 34 then None else Some x) (unmarked_from 0 rest)) b
        ∙ ap (λ (t : Bool). put_before (if t || x == 34 then None else Some x) (unmarked_from 0 rest)) c
        ∙ ap (λ (t : Bool). put_before (if t then None else Some x) (unmarked_from 0 rest)) e

    gt : (t : Bool) → (x == 62) ≡ t → (x == 38) ≡ false → (x == 60) ≡ false → unmarked_from 0 ((if t then codes "&gt;" else (if x == 34 then codes "&quot;" else x ∷ [])) ++ rest) ≡ put_before (Some x) (unmarked_from 0 rest)
    gt true e a b = ap (λ (y : ℕ). put_before (Some y) (unmarked_from 0 rest)) (sym (eqb-true x 62 e))
    gt false e a b = quot (x == 34) refl a b e

    lt : (t : Bool) → (x == 60) ≡ t → (x == 38) ≡ false → unmarked_from 0 ((if t then codes "&lt;" else (if x == 62 then codes "&gt;" else (if x == 34 then codes "&quot;" else x ∷ []))) ++ rest) ≡ put_before (Some x) (unmarked_from 0 rest)
    lt true e a = ap (λ (y : ℕ). put_before (Some y) (unmarked_from 0 rest)) (sym (eqb-true x 60 e))
    lt false e a = gt (x == 62) refl a e

    amp : (t : Bool) → (x == 38) ≡ t
        → unmarked_from 0 ((if t then codes "&amp;" else (if x == 60 then codes "&lt;" else (if x == 62 then codes "&gt;" else (if x == 34 then codes "&quot;" else x ∷ [])))) ++ rest) ≡ put_before (Some x) (unmarked_from 0 rest)
    amp true e = ap (λ (y : ℕ). put_before (Some y) (unmarked_from 0 rest)) (sym (eqb-true x 38 e))
    amp false e = lt (x == 60) refl e

unmarks : (text : List ℕ) → unmarked (marked text) ≡ Some text
unmarks [] = refl
unmarks (x ∷ text) = one_back x (marked text) ∙ ap (put_before (Some x)) (unmarks text)

-- what was written is read as it was
pub text_back : (raw : List ℕ) → AllByRecursion (λ b. b < 256) raw → text_of (written raw) ≡ Some raw
text_back raw small = ap Rattle.core_xml.specs.Markup.unescaped_of (unmarks (escaped raw)) ∙ undone_from 0 raw small tt

-- ---- no line feed, no quotation mark

-- no line feed and no quotation mark
abbrev pub is_inner : ℕ → Bool
is_inner x = not (x == 10) && not (is_quote x)

byte_inner : (x : ℕ) → 32 ≤ x → list_all is_inner (marked_byte x) ≡ true
byte_inner x low = go (x == 38) (x == 60) (x == 62) (x == 34) refl
  where
    feed : (x == 10) ≡ false
    feed = ne_eqb x 10 (λ e. omega (arith, e, low))

    go : (a b c d : Bool) → (x == 34) ≡ d → list_all is_inner (if a then codes "&amp;" else (if b then codes "&lt;" else (if c then codes "&gt;" else (if d then codes "&quot;" else x ∷ [])))) ≡ true
    go true b c d e = refl
    go false true c d e = refl
    go false false true d e = refl
    go false false false true e = refl
    go false false false false e =
        ap (λ (t : Bool). (not t && not (x == 34)) && true) feed ∙ ap (λ (t : Bool). not t && true) e

marked_inner : (text : List ℕ) → AllByRecursion IsPrintable text → list_all is_inner (marked text) ≡ true
marked_inner [] h = refl
marked_inner (x ∷ text) h = list_all-append is_inner (marked_byte x) (marked text) ∙ ap (λ (t : Bool). t && list_all is_inner (marked text)) (byte_inner x h.0.0) ∙ marked_inner text h.1

pub written_inner : (raw : List ℕ) → AllByRecursion (λ b. b < 256) raw → list_all is_inner (written raw) ≡ true
written_inner raw small = marked_inner (escaped raw) (printable_from 0 raw small tt)

-- ---- UTF-8

marked-append : (a b : List ℕ) → marked (a ++ b) ≡ marked a ++ marked b
marked-append [] b = refl
marked-append (x ∷ a) b = ap (λ (t : List ℕ). marked_byte x ++ t) (marked-append a b) ∙ sym (append_assoc (marked_byte x) (marked a) (marked b))

-- bytes that stay
abbrev Stays : List ℕ → Type 0
Stays bs = AllByRecursion (λ x. 128 ≤ x) bs

byte_stays : (x : ℕ) → 128 ≤ x → marked_byte x ≡ x ∷ []
byte_stays x h =
    ap (λ (t : Bool). if t then codes "&amp;" else (if x == 60 then codes "&lt;" else (if x == 62 then codes "&gt;" else (if x == 34 then codes "&quot;" else x ∷ [])))) (ne_eqb x 38 (λ e. omega (arith, e, h)))
    ∙ ap (λ (t : Bool). if t then codes "&lt;" else (if x == 62 then codes "&gt;" else (if x == 34 then codes "&quot;" else x ∷ []))) (ne_eqb x 60 (λ e. omega (arith, e, h)))
    ∙ ap (λ (t : Bool). if t then codes "&gt;" else (if x == 34 then codes "&quot;" else x ∷ [])) (ne_eqb x 62 (λ e. omega (arith, e, h)))
    ∙ ap (λ (t : Bool). if t then codes "&quot;" else x ∷ []) (ne_eqb x 34 (λ e. omega (arith, e, h)))

high_stays : (bs : List ℕ) → Stays bs → marked bs ≡ bs
high_stays [] h = refl
high_stays (x ∷ bs) h = ap (λ (t : List ℕ). t ++ marked bs) (byte_stays x h.0) ∙ ap (λ (t : List ℕ). x ∷ t) (high_stays bs h.1)

wide_high : (c : ℕ) → nat_lt c 128 ≡ false → Stays (encode c)
unfolding encode
wide_high c wide = go (nat_lt c 128) (nat_lt c 2048) (nat_lt c 65536) wide
  where
    go : (s t u : Bool) → s ≡ false
        → Stays (cond s (c ∷ []) (cond t ((192 + c / 64) ∷ next c ∷ []) (cond u ((224 + c / 4096) ∷ next (c / 64) ∷ next c ∷ []) ((240 + c / 262144) ∷ next (c / 4096) ∷ next (c / 64) ∷ next c ∷ []))))
    go true t u h = absurd cc
    go false true u h = (omega arith, (omega arith, tt))
    go false false true h = (omega arith, (omega arith, (omega arith, tt)))
    go false false false h = (omega arith, (omega arith, (omega arith, (omega arith, tt))))

ascii_utf8 : (x : ℕ) → scalar x ≡ true → x < 128 → IsUtf8 (marked_byte x)
unfolding is_utf8 chars encode
ascii_utf8 x is low = go (x == 38) (x == 60) (x == 62) (x == 34)
  where
    go : (a b c d : Bool) → IsUtf8 (if a then codes "&amp;" else (if b then codes "&lt;" else (if c then codes "&gt;" else (if d then codes "&quot;" else x ∷ []))))
    go true b c d = IsUtf8-from_is_utf8 (codes "&amp;") refl
    go false true c d = IsUtf8-from_is_utf8 (codes "&lt;") refl
    go false false true d = IsUtf8-from_is_utf8 (codes "&gt;") refl
    go false false false true = IsUtf8-from_is_utf8 (codes "&quot;") refl
    go false false false false = subst IsUtf8 (encode_ascii x low) (IsUtf8-encode x is)

char_utf8 : (c : ℕ) → scalar c ≡ true → IsUtf8 (marked (encode c))
char_utf8 c is = go (nat_lt c 128) refl
  where
    go : (t : Bool) → nat_lt c 128 ≡ t → IsUtf8 (marked (encode c))
    go true low =
        let small : c < 128 = Rattle.std.proofs.Common.ltb-true c 128 low in
        subst (λ (bs : List ℕ). IsUtf8 (marked bs)) (sym (encode_ascii c small)) (IsUtf8-append (marked_byte c) [] (ascii_utf8 c is small) IsUtf8-nil)
    go false wide = subst IsUtf8 (sym (high_stays (encode c) (wide_high c wide))) (IsUtf8-encode c is)

chars_utf8 : (cs : List ℕ) → scalars cs ≡ true → IsUtf8 (marked (encodes cs))
chars_utf8 [] h = IsUtf8-nil
chars_utf8 (c ∷ cs) h =
    let parts = and_parts (scalar c) (scalars cs) h in
    subst IsUtf8 (sym (marked-append (encode c) (encodes cs))) (IsUtf8-append (marked (encode c)) (marked (encodes cs)) (char_utf8 c parts.0) (chars_utf8 cs parts.1))

pub written_utf8 : (raw : List ℕ) → AllByRecursion (λ b. b < 256) raw → IsUtf8 (written raw)
written_utf8 raw small =
    let utf8 = utf8_by (length raw) raw (omega arith) small in
    subst (λ (bs : List ℕ). IsUtf8 (marked bs)) utf8.1.1 (chars_utf8 utf8.0 utf8.1.0)
